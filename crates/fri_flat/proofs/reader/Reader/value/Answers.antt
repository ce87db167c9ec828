use Rattle.std.proofs.Common.{◌≡◌, ◌++◌, arith, ap, sym, subst, ◌∙◌}
use Rattle.std.proofs.Math.Nat.{mod-eq_of_lt}
use Rattle.fri_flat.specs.Flat.{number}
use Rattle.fri_flat.proofs.reader.Reader.value.Goals as goal

pub returns : goal.returns
returns g c =
    let same = ap g.F.PrimeField64.canonical c.from_canonical.ensures
    ∙ g.met.F.PrimeField64.canonical_multiple c.in_ok-number.number
    ∙ mod-eq_of_lt (omega (arith, c.if-number-ORDER_U64.false, c.ORDER_U64.ensures)) in
    subst (λ n. c.args.self.now.left.now ≡ number c.args.layout n ++ c.number.new.self.left.now)
    (sym same) c.in_ok-number.ensures.form
