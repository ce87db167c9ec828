use Rattle.std.proofs.Common.{ap, ap₂, arith, length, map, sym, ◌∙◌}
use Rattle.std.proofs.lemmas.List.{length-map, take_all}
use Rattle.std.proofs.lemmas.Result.{IfOk-from_err}
use Rattle.algebra.specs.Nested.{lists}
use Rattle.algebra.proofs.Lists.{map-map}
use Rattle.fri_records.specs.declared.records.Domain.{Domain}
use Rattle.fri_verification.specs.Bound.{matrix_asked, matrix_stated}
use Rattle.fri_numbers.specs.Listed.{domain_by, domain_committed}
use Rattle.fri_verification.proofs.Bound.{entries_alike, same_length}
use Rattle.fri_numbers.proofs.Kept.{same_more}
use Rattle.fri_verification.proofs.statement.matrices_asked.Goals as goal

pub loop-index-preserved : goal.loop-index-preserved
loop-index-preserved g c =
    let m = c.matrix-item.result in
    let ms = c.deref-matrix-items.result.now in
    let i = c.loop-index.index in
    same_more (matrix_stated g.N.Numbered.numbers_of g.N.Numbered.shift_of g.N.Numbered.log_size_of) (matrix_asked c.args.hides) c.loop-index.all.items c.push.new.self.items ms i _ m
    c.loop-index-test.true c.matrix-item.is c.in_ok-push.ensures.items
    (ap₂ (λ (x : Domain) zs. record { shift = x.shift; log_size = x.log_size; width = m.width; points = zs })
    (entries_alike (λ d. domain_by (g.N.Numbered.shift_of d) (g.N.Numbered.log_size_of d)) (λ n. domain_committed c.args.hides n.domain) c.args.domains.now ms i c.index-domains-index.result m
    (c.requires.domains ∙ ap (λ ns. map (λ n. domain_committed c.args.hides n.domain) ns) (sym c.deref-matrix-items.ensures.value))
    c.loop-index-test.true c.index-domains-index.is c.matrix-item.is)
    (ap (λ zs. map g.N.Numbered.numbers_of zs) (c.in_ok-from_slice.ensures.items ∙ c.deref.ensures.value)
    ∙ entries_alike (λ v. map g.N.Numbered.numbers_of v.items) (λ n. lists n.points.items) c.args.points.now ms i c.index-points-index.result m
    (sym (map-map (map g.N.Numbered.numbers_of) (λ v. v.items) c.args.points.now) ∙ c.requires.points
    ∙ ap (λ ns. map (λ n. lists n.points.items) ns) (sym c.deref-matrix-items.ensures.value))
    c.loop-index-test.true c.index-points-index.is c.matrix-item.is))
    c.loop-index.invariant

pub returns : goal.returns
returns g c = c.loop-index.invariant
    ∙ ap (λ ms. map (matrix_asked c.args.hides) ms) (take_all c.loop-index.index c.deref-matrix-items.result.now c.loop-index-test.false ∙ c.deref-matrix-items.ensures.value)

-- where nothing is answered nothing is said of the answer
pub returns-in_err-all : goal.returns-in_err-all
returns-in_err-all g c = IfOk-from_err c.from_residual.result _ c.from_residual.ensures.0

pub returns-in_err-from_slice : goal.returns-in_err-from_slice
returns-in_err-from_slice g c = IfOk-from_err c.from_residual-in_err-from_slice.result _ c.from_residual-in_err-from_slice.ensures.0

pub returns-in_err-push : goal.returns-in_err-push
returns-in_err-push g c = IfOk-from_err c.from_residual-in_err-push.result _ c.from_residual-in_err-push.ensures.0

pub bounds-domains-index : goal.bounds-domains-index
bounds-domains-index g c = omega (
  arith,
  c.loop-index-test.true,
  ap length c.deref-matrix-items.ensures.value,
  same_length _ _ c.args.domains.now c.args.batch.now.matrices.items c.requires.domains,
)

pub bounds-points-index : goal.bounds-points-index
bounds-points-index g c = omega (
  arith,
  c.loop-index-test.true,
  ap length c.deref-matrix-items.ensures.value,
  same_length _ _ (lists c.args.points.now) c.args.batch.now.matrices.items c.requires.points,
  length-map c.args.points.now (λ v. v.items),
)
