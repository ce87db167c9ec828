use Rattle.std.proofs.Common.{◌≡◌, ◌≤◌, take, sym, subst, ap, ◌∙◌, arith}
use Rattle.std.specs.Vec.{vec_len}
use Rattle.std.proofs.lemmas.Bool.{true≢false}
use Rattle.p3_fri_relation.specs.Setting.{Fields}
use Rattle.p3_fri_openings.specs.Committed.{inverse_differences}
use Rattle.p3_fri_openings.specs.Denominators.{AreInverses}
use Rattle.p3_fri_openings.proofs.First.{at_item, one_more, to_the_end}
use Rattle.p3_fri_openings.proofs.Tables.{taken, found}
use Rattle.p3_fri_openings.proofs.denominators.inverses_at.Goals as goal

pub returns-then-covers : goal.returns-then-covers
returns-then-covers g c =
    let f : Fields g.row.F.Denot g.row.EF.Denot = record {
      base = g.F.Field.ops;
      ext = g.EF.Field.ops;
      lift = g.EF.ExtensionField.lift;
      coefficients = g.EF.ExtensionField.coefficients;
      degree = g.EF.ExtensionField.DIMENSION;
      root = g.F.TwoAdicField.root;
      two_adicity = g.F.TwoAdicField.TWO_ADICITY;
      shift = g.F.Field.GENERATOR;
    } in
    let entry = c.entry-item.result in
    let right = at_item (AreInverses f) c.args.table.now c.loop-entry.entry-index entry
    c.loop-entry-test.true c.entry-item.is c.requires.inverses in
    let covers = c.covers.ensures.0 c.if-covers.true in
    let k = c.requires.power_of_two.0 in
    let size = c.requires.power_of_two.1 in
    let s : c.deref.result.now ≡ entry.inverses.items =
    let e = c.deref.ensures in let is = c.entry-item.is in cc in
    ap (λ xs. take c.args.height xs) s
    ∙ subst (λ n. take n entry.inverses.items ≡ inverse_differences f c.args.point n) (sym size)
    (taken f g.met.F.Field.laws g.met.F.TwoAdicField.roots_law k c.args.point entry right covers.0
    (omega (arith, covers.1, size)))

pub unreachable-requires : goal.unreachable-requires
unreachable-requires g c =
    let none = to_the_end (λ entry. (entry.point ≡ c.args.point) → c.args.height ≤ vec_len entry.inverses → ⊥)
    c.args.table.now c.loop-entry.entry-index c.loop-entry-test.false c.loop-entry.invariant in
    found c.args.table.now c.args.height c.args.point c.requires.covered none

pub loop-entry-preserved : goal.loop-entry-preserved
loop-entry-preserved g c =
    one_more (λ entry. (entry.point ≡ c.args.point) → c.args.height ≤ vec_len entry.inverses → ⊥)
    c.args.table.now c.loop-entry.entry-index c.entry-item.result c.loop-entry-test.true c.entry-item.is
    c.loop-entry.invariant (λ e tall. true≢false (sym (c.covers.ensures.1 (e, tall)) ∙ c.if-covers.false))
