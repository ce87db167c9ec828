use Rattle.std.proofs.Common.{◌≡◌, ◌≢◌, All, map, take, length, sym, subst, ap, ◌∙◌, arith}
use Rattle.std.proofs.lemmas.List.{length-take-le}
use Rattle.algebra.specs.Field.{sub}
use Rattle.algebra.specs.Cosets.{coset_pt}
use Rattle.algebra.proofs.Lists.{length-tabulate, map-map}
use Rattle.p3_fri_relation.specs.Setting.{Fields}
use Rattle.p3_fri_openings.specs.Log2.{log2}
use Rattle.p3_fri_openings.specs.Refusals.{IsOff}
use Rattle.p3_fri_openings.specs.Committed.{coset_of}
use Rattle.p3_fri_openings.proofs.Log2.{log2_is}
use Rattle.p3_fri_openings.proofs.ValueSums.{starts_long}
use Rattle.p3_fri_openings.proofs.Tables.{differences_nonzero}
use Rattle.p3_fri_openings.proofs.denominators.denominators_of_point.Goals as goal

pub slice_bounds-differences-end : goal.slice_bounds-differences-end
slice_bounds-differences-end g c =
    let f : Fields g.row.F.Denot g.row.EF.Denot = record {
      base = g.F.Field.ops;
      ext = g.EF.Field.ops;
      lift = g.EF.ExtensionField.lift;
      coefficients = g.EF.ExtensionField.coefficients;
      degree = g.EF.ExtensionField.DIMENSION;
      root = g.F.TwoAdicField.root;
      two_adicity = g.F.TwoAdicField.TWO_ADICITY;
      shift = g.F.Field.GENERATOR;
    } in
    let same : length (coset_of f c.args.height) ≡ c.args.height =
    length-tabulate c.args.height (λ i. coset_pt f.base f.root f.shift i (log2 c.args.height)) in
    let long = starts_long c.args.coset.now (coset_of f c.args.height) c.requires.coset in
    sym (length-take-le c.args.height c.args.coset.now (omega (arith, same, long)))

pub batch_multiplicative_inverse-requires : goal.batch_multiplicative_inverse-requires
batch_multiplicative_inverse-requires g c =
    let f : Fields g.row.F.Denot g.row.EF.Denot = record {
      base = g.F.Field.ops;
      ext = g.EF.Field.ops;
      lift = g.EF.ExtensionField.lift;
      coefficients = g.EF.ExtensionField.coefficients;
      degree = g.EF.ExtensionField.DIMENSION;
      root = g.F.TwoAdicField.root;
      two_adicity = g.F.TwoAdicField.TWO_ADICITY;
      shift = g.F.Field.GENERATOR;
    } in
    let same : length (coset_of f c.args.height) ≡ c.args.height =
    length-tabulate c.args.height (λ i. coset_pt f.base f.root f.shift i (log2 c.args.height)) in
    let first : take c.args.height c.args.coset.now ≡ coset_of f c.args.height =
    ap (λ n. take n c.args.coset.now) (sym same) ∙ c.requires.coset in
    let above : c.deref.result.now ≡ map (λ x. sub f.ext c.args.point (f.lift x)) (coset_of f c.args.height) =
    c.deref.ensures.value ∙ c.in_ok-differences.ensures
    ∙ ap (λ xs. map (λ x. sub f.ext c.args.point (f.lift x)) xs) first in
    let k = c.requires.power_of_two.0 in
    let size = c.requires.power_of_two.1 in
    let off = subst (λ m. IsOff f m c.args.point) (sym (log2_is c.args.height k (sym size))) c.requires.off in
    record {
      nonzero = subst (λ xs. All (λ x. x ≢ f.ext.zero) xs)
          (ap (λ n. map (λ x. sub f.ext c.args.point (f.lift x)) (coset_of f n)) (sym size) ∙ sym above)
          (differences_nonzero f g.met.F.Field.laws g.met.F.TwoAdicField.roots_law g.met.EF.Field.laws.ring k c.args.point off);
    }

pub returns-clause-inverses : goal.returns-clause-inverses
returns-clause-inverses g c =
    let f : Fields g.row.F.Denot g.row.EF.Denot = record {
      base = g.F.Field.ops;
      ext = g.EF.Field.ops;
      lift = g.EF.ExtensionField.lift;
      coefficients = g.EF.ExtensionField.coefficients;
      degree = g.EF.ExtensionField.DIMENSION;
      root = g.F.TwoAdicField.root;
      two_adicity = g.F.TwoAdicField.TWO_ADICITY;
      shift = g.F.Field.GENERATOR;
    } in
    let same : length (coset_of f c.args.height) ≡ c.args.height =
    length-tabulate c.args.height (λ i. coset_pt f.base f.root f.shift i (log2 c.args.height)) in
    let first : take c.args.height c.args.coset.now ≡ coset_of f c.args.height =
    ap (λ n. take n c.args.coset.now) (sym same) ∙ c.requires.coset in
    let above : c.deref.result.now ≡ map (λ x. sub f.ext c.args.point (f.lift x)) (coset_of f c.args.height) =
    c.deref.ensures.value ∙ c.in_ok-differences.ensures
    ∙ ap (λ xs. map (λ x. sub f.ext c.args.point (f.lift x)) xs) first in
    c.in_ok-inverses.ensures ∙ ap (λ xs. map f.ext.inv xs) above
    ∙ map-map f.ext.inv (λ x. sub f.ext c.args.point (f.lift x)) (coset_of f c.args.height)
