use Rattle.std.proofs.Common.{◌≡◌, ◌+◌, ◌^◌, ◌<◌, length, map, refl, ap, ◌∙◌, sym, arith}
use Rattle.std.proofs.lemmas.List.{length-map}
use Rattle.std.proofs.lemmas.Nat.{pow_below}
use Rattle.algebra.specs.Polynomial.{tabulate}
use Rattle.algebra.proofs.Lists.{length-tabulate}
use Rattle.p3_field_core.specs.Coset.{coset_point}
use Rattle.p3_uni_stark_identity.proofs.Domains.{shift_first, shift_next, shifts_next}
use Rattle.p3_uni_stark_identity.proofs.Domains.{sizes_next, sizes_none, shift_nonzero, are_domains}
use Rattle.p3_uni_stark_identity.proofs.chunks.split_coset.Goals as goal

pub loop-init : goal.loop-init
loop-init g c =
    let root = g.F.TwoAdicField.root (c.args.log_size + c.args.log_num_pieces) in
    record {
      next = shift_first g.F.Field.ops g.met.F.Field.laws.ring root c.args.shift
          c.args.shift refl;
      shifts = ap (λ xs. map (λ d. d.shift) xs) c.in_ok-pieces.ensures.items;
      sizes = sizes_none c.in_ok-pieces.pieces.items (λ d. d.log_size) c.args.log_size
          c.in_ok-pieces.ensures.items;
    }

pub invariant_of-push : goal.invariant_of-push
invariant_of-push g c =
    let h = c.requires.within_two_adicity in
    record {
      nonzero = shift_nonzero g.F.Field.ops g.met.F.Field.laws g.F.TwoAdicField.TWO_ADICITY
          g.F.TwoAdicField.root g.met.F.TwoAdicField.roots_law c.args.shift
          c.requires.nonzero c.args.log_size c.args.log_num_pieces h c.loop.counter
          c.loop.first c.loop.invariant.next;
      within_two_adicity = omega (arith, h);
    }

pub loop-preserved : goal.loop-preserved
loop-preserved g c =
    let F = g.F.Field.ops in
    let root = g.F.TwoAdicField.root (c.args.log_size + c.args.log_num_pieces) in
    let point = coset_point F root c.args.shift in
    let i = c.loop.counter in
    record {
      next = shift_next F g.met.F.Field.laws.ring root c.args.shift i c.loop.first
          c.mul-first.result c.loop.invariant.next
          (g.met.F.Field.mul_law c.loop.first c.two_adic_generator-generator.result
          c.mul-first.result c.mul-first.ensures
          ∙ ap (λ x. F.mul c.loop.first x) c.two_adic_generator-generator.ensures);
      shifts = shifts_next c.loop.pieces.items c.push.new.self.items
          (record { shift = c.loop.first; log_size = c.args.log_size; nonzero = _; within_two_adicity = _ })
          c.in_ok-push.ensures.items (λ d. d.shift) i point c.loop.invariant.shifts
          c.loop.invariant.next;
      sizes = sizes_next c.loop.pieces.items c.push.new.self.items
          (record { shift = c.loop.first; log_size = c.args.log_size; nonzero = _; within_two_adicity = _ })
          c.in_ok-push.ensures.items (λ d. d.log_size) c.args.log_size c.loop.invariant.sizes refl;
    }

pub returns-clause-disjoint : goal.returns-clause-disjoint
returns-clause-disjoint g c =
    let F = g.F.Field.ops in
    let point = coset_point F (g.F.TwoAdicField.root (c.args.log_size + c.args.log_num_pieces))
    c.args.shift in
    let items = c.loop.pieces.items in
    let test = c.loop-test.false in
    let auto = c.loop.auto in
    let within = c.requires.within_two_adicity in
    let few = g.met.F.TwoAdicField.two_adicity_law in
    let small : 2 ^ c.args.log_num_pieces < 2 ^ 64 =
    pow_below c.args.log_num_pieces 64 (omega (arith, within, few)) in
    let end : c.loop.counter ≡ 2 ^ c.args.log_num_pieces = omega (arith, test, auto, small) in
    let shifts : map (λ d. d.shift) items ≡ tabulate (2 ^ c.args.log_num_pieces) point =
    c.loop.invariant.shifts ∙ ap (λ n. tabulate n point) end in
    are_domains F g.met.F.Field.laws g.F.TwoAdicField.TWO_ADICITY g.F.TwoAdicField.root
    g.met.F.TwoAdicField.roots_law c.args.shift c.requires.nonzero
    c.args.log_size c.args.log_num_pieces c.requires.within_two_adicity
    (map (λ d. d.log_size) items) (map (λ d. d.shift) items)
    (length-map items (λ d. d.log_size) ∙ sym (length-map items (λ d. d.shift))
    ∙ ap length shifts ∙ length-tabulate (2 ^ c.args.log_num_pieces) point)
    shifts c.loop.invariant.sizes
