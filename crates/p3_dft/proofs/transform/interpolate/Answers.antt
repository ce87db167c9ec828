-- The transform by the inverse root, divided by the size, gives the coefficients.
use Rattle.std.proofs.Common.{◌-◌, ◌+◌, ◌*◌, ◌^◌, get_or, arith, ap, ap₂}
use Rattle.std.proofs.Common.{sym, ◌∙◌}
use Rattle.std.proofs.lemmas.Nat.{one_shl}
use Rattle.std.proofs.lemmas.List.{with_items_is}
use Rattle.algebra.proofs.Points.{root-nonzero, lifted_roots}
use Rattle.p3_dft.proofs.Turns.{inverse_turn, root_turn, inverse_of_root}
use Rattle.p3_dft.proofs.Lifts.{lifted_inverse, lifted_size, lifted_factor}
use Rattle.p3_dft.proofs.Coefficients.{recovered}
use Rattle.p3_dft.proofs.transform.interpolate.Goals as goal

pub inverse-root-requires : goal.inverse-root-requires
inverse-root-requires g c =
    let field = g.F.TwoAdicField in
    record { nonzero = λ e. root-nonzero g.F.Field.ops g.met.F.Field.laws field.TWO_ADICITY field.root g.met.F.TwoAdicField.roots_law c.args.log_height c.requires.within_two_adicity (sym c.two_adic_generator.ensures ∙ e) }

pub transform-requires-clause-half_turn : goal.transform-requires-clause-half_turn
transform-requires-clause-half_turn g c some =
    let F = g.F.Field.ops in
    let L = g.met.F.Field.laws in
    let field = g.F.TwoAdicField in
    let W = g.met.F.TwoAdicField.roots_law in
    let k = c.args.log_height in
    let b = c.requires.within_two_adicity in
    inverse_turn F L.ring (field.root k) c.inverse-root.result (2 ^ (k - 1)) (inverse_of_root F L field.TWO_ADICITY field.root W k c.two_adic_generator.result c.inverse-root.result b c.two_adic_generator.ensures c.inverse-root.ensures)
    (root_turn F L field.TWO_ADICITY field.root W k some b)

pub returns-clause-coefficients : goal.returns-clause-coefficients
returns-clause-coefficients g c j x q =
    let F = g.F.Field.ops in
    let K = g.EF.Field.ops in
    let lift = g.EF.ExtensionField.lift in
    let R = g.met.F.Field.laws.ring in
    let S = g.met.EF.Field.laws.ring in
    let H = g.met.EF.ExtensionField.lift_law in
    let field = g.F.TwoAdicField in
    let k = c.args.log_height in
    let width = c.args.width in
    let ys = c.args.values.items in
    let ts = c.in_ok-coefficients.coefficients.items in
    let inverse = inverse_of_root F g.met.F.Field.laws field.TWO_ADICITY field.root g.met.F.TwoAdicField.roots_law k c.two_adic_generator.result c.inverse-root.result c.requires.within_two_adicity c.two_adic_generator.ensures c.inverse-root.ensures in
    let first = c.inverse_of_size.result in
    let shift = one_shl k 64 (omega (arith, c.requires.within_two_adicity, g.met.F.TwoAdicField.two_adicity_law)) in
    let made = with_items_is c.in_ok-coefficients.coefficients c.scale_rows.new.values (omega arith) in
    recovered K g.met.EF.Field.laws field.TWO_ADICITY (λ n. lift (field.root n)) (lifted_roots F K lift g.met.F.Field.laws g.met.EF.Field.laws H field.TWO_ADICITY field.root g.met.F.TwoAdicField.roots_law)
    k c.requires.within_two_adicity (lift c.inverse-root.result) (lift first) (lifted_inverse F K lift R S H (field.root k) c.inverse-root.result inverse) (lifted_size F K lift R S H (2 ^ k) first c.inverse_of_size.ensures)
    (lift c.args.ratio) width ys ts _ c.in_ok-coefficients.ensures.values
    (λ i j l q.
    ap (λ xs. get_or xs (i * width + j) K.zero) made
    ∙ c.scale_rows.ensures i j K.zero (omega (arith, l, shift)) q
    ∙ ap₂ (λ a b. K.mul a b) (ap (λ xs. get_or xs (i * width + j) K.zero) c.deref_mut.ensures.value) (lifted_factor F K lift R S H first c.args.ratio i))
    j x q
