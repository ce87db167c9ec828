use Rattle.std.proofs.Common.{◌≡◌, ℕ, length, ap, sym, ◌∙◌}
use Rattle.algebra.specs.Field.{pow}
use Rattle.algebra.specs.Polynomial.{tabulate}
use Rattle.algebra.proofs.Lists.{length-tabulate}
use Rattle.p3_fri_relation.proofs.ladder.Ladder.new.Goals as goal

pub invariant_of-result : goal.invariant_of-result
invariant_of-result g c =
    let f = λ (i : ℕ). pow g.EF.Field.ops c.args.alpha i in
    let powers = c.in_ok-powers.field-0 in
    let long : powers.len ≡ c.args.width =
    powers.ok.0 ∙ ap length c.in_ok-powers.ensures ∙ length-tabulate c.args.width f in
    record { are_powers = c.in_ok-powers.ensures ∙ ap (λ n. tabulate n f) (sym long) }

pub returns-clause-width : goal.returns-clause-width
returns-clause-width g c =
    let f = λ (i : ℕ). pow g.EF.Field.ops c.args.alpha i in
    c.in_ok-powers.field-0.ok.0 ∙ ap length c.in_ok-powers.ensures ∙ length-tabulate c.args.width f
