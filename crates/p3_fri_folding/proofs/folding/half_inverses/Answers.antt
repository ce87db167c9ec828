use Rattle.std.proofs.Common.{◌≡◌, ◌+◌, ◌*◌, ◌^◌, ℕ, suc, length, get_or, sym, ap, ◌∙◌, arith}
use Rattle.std.proofs.Common.{Vec, Global}
use Rattle.std.proofs.lemmas.Result.{IfOk-weaker}
use Rattle.algebra.specs.Field.{pow}
use Rattle.algebra.specs.Digits.{rev}
use Rattle.algebra.specs.Polynomial.{tabulate}
use Rattle.p3_fri_folding.specs.Rows.{AreFirstHalfInverses}
use Rattle.algebra.proofs.Lists.{length-tabulate, get_or-tabulate}
use Rattle.algebra.proofs.Points.{root-nonzero}
use Rattle.algebra.proofs.PairFolds.{half_inverse_by_inverse}
use Rattle.p3_fri_folding.proofs.Halves.{rev-row}
use Rattle.p3_fri_folding.proofs.folding.half_inverses.Goals as goal

pub inverse-requires : goal.inverse-requires
inverse-requires g c =
    let two_adic = g.met.F.TwoAdicField in
    let w = g.F.TwoAdicField.root in
    record { nonzero = λ e. root-nonzero g.F.Field.ops g.met.F.Field.laws g.F.TwoAdicField.TWO_ADICITY w two_adic.roots_law (c.args.log_height + c.args.log_arity) c.requires.within_two_adicity (sym c.requires.is_root ∙ e) }

pub returns : goal.returns
returns g c =
    let h = c.args.log_height in
    let F = g.F.Field.ops in
    let two_adic = g.met.F.TwoAdicField in
    let w = g.F.TwoAdicField.root in
    let f = λ (i : ℕ). F.mul c.halve.result (pow F c.inverse.result (rev h i)) in
    let halved = c.halve.ensures ∙ c.ONE.ensures ∙ g.met.F.Field.one_law in
    let A = g.row.F.Denot in
    let Powers : Vec A Global → Type 0 = λ powers. powers.items ≡ tabulate (2 ^ h) f in
    let Halves : Vec A Global → Type 0 = λ halves. (a : ℕ) → c.args.log_arity ≡ suc a → AreFirstHalfInverses F w h a halves.items in
    IfOk-weaker c.bit_reversed_powers.result Powers Halves (λ powers is a arity.
    let size : h + c.args.log_arity ≡ suc (h + a) = omega (arith, arity) in
    let inverse : c.inverse.result ≡ F.inv (w (suc (h + a))) = c.inverse.ensures ∙ ap F.inv (c.requires.is_root ∙ ap w size) in
    record {
      count = ap length is ∙ length-tabulate (2 ^ h) f;
      each = λ i d l. half_inverse_by_inverse F g.met.F.Field.laws g.F.TwoAdicField.TWO_ADICITY w two_adic.roots_law (i * 2 ^ a) (h + a) (rev h i) c.halve.result (get_or powers.items i d) (omega (arith, size, c.requires.within_two_adicity)) (sym (rev-row h a i)) halved
          (ap (λ xs. get_or xs i d) is ∙ get_or-tabulate (2 ^ h) f i d l ∙ ap (λ x. F.mul c.halve.result (pow F x (rev h i))) inverse);
    }) c.bit_reversed_powers.ensures
