use Rattle.std.proofs.Common.{sym, ap, ◌∙◌, arith, get_or, remove, ◌%◌, [], Vec}
use Rattle.algebra.specs.Nested.{lists}
use Rattle.p3_fri_prover.proofs.Openings.{siblings_more, others_kept}
use Rattle.p3_fri_prover.proofs.prover.openings.siblings_of_each.Goals as goal

pub loop-j-preserved : goal.loop-j-preserved
loop-j-preserved g c =
    let here = c.loop-j in
    let start = c.args.opened.now in
    let j = here.j in
    record {
      taken = siblings_more start c.args.indices.now c.args.arity here.sibling_values.items
          c.push.new.self.items c.siblings.result c.index-opened-j.result here.opened j
          c.in_ok-push.ensures.items here.invariant.taken (omega arith) c.index-opened-j.is
          (here.invariant.others j (omega arith))
          (c.siblings.ensures ∙ ap (λ (v : Vec _ _). remove (get_or (lists v.items) 0 [])
          (get_or c.args.indices.now j 0 % c.args.arity)) (sym c.index-opened-j.is));
      others = others_kept start here.opened c.siblings.new.rows j here.invariant.others;
    }
