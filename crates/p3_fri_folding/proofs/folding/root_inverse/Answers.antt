use Rattle.std.proofs.Common.{◌≡◌, ◌-◌, ◌*◌, ◌^◌, ◌%◌, ap, ap₂, ◌∙◌, arith, add_comm, pow_pos}
use Rattle.std.proofs.lemmas.Nat.{one_shl}
use Rattle.algebra.specs.Field.{pow}
use Rattle.algebra.proofs.Points.{root-power}
use Rattle.p3_fri_folding.proofs.Halves.{inverse_by_power, inverse_of_minus_one}
use Rattle.p3_fri_folding.proofs.folding.root_inverse.Goals as goal

pub returns-then-log_arity-eq1 : goal.returns-then-log_arity-eq1
returns-then-log_arity-eq1 g c =
    let F = g.F.Field.ops in
    let w = g.F.TwoAdicField.root in
    let field = g.met.F.Field in
    let minus = field.neg_law c.ONE.result c.neg.result c.neg.ensures ∙ ap F.neg (c.ONE.ensures ∙ field.one_law) in
    ap₂ (λ n x. F.mul (w n) x) c.if-log_arity-eq1.true minus
    ∙ inverse_of_minus_one F field.laws g.F.TwoAdicField.TWO_ADICITY w g.met.F.TwoAdicField.roots_law (omega (arith, c.requires.positive, c.requires.within_two_adicity))

pub returns : goal.returns
returns g c =
    let n = c.args.log_arity in
    let h = c.args.log_height in
    let two_adic = g.met.F.TwoAdicField in
    let F = g.F.Field.ops in
    let L = g.met.F.Field.laws in
    let top = g.F.TwoAdicField.TWO_ADICITY in
    let w = g.F.TwoAdicField.root in
    let W = two_adic.roots_law in
    let order : 1 * 2 ^ n % 2 ^ 64 ≡ 2 ^ n = one_shl n 64 (omega (arith, c.requires.within_two_adicity, two_adic.two_adicity_law)) in
    let turns = 1 * 2 ^ n % 2 ^ 64 - 1 in
    let of_arity : c.exp_power_of_2.result ≡ w n =
    c.exp_power_of_2.ensures ∙ ap (λ x. pow F x (2 ^ h)) (c.requires.is_root ∙ ap w (add_comm h n))
    ∙ root-power F L top w W h n (omega (arith, c.requires.within_two_adicity)) in
    ap (λ x. F.mul (w n) x) (c.exp_u64.ensures ∙ ap (λ x. pow F x turns) of_arity)
    ∙ inverse_by_power F L top w W n turns (omega (arith, c.requires.within_two_adicity)) (omega (arith, order, pow_pos n))
