use Rattle.std.proofs.Common.{ap, refl, sym, subst, ◌∙◌}
use Rattle.std.specs.Prelude.{None}
use Rattle.p3_pcs.specs.Claims.{opened_values}
use Rattle.fri_example.proofs.Openings.{same_entry, one_value, one_claim}
use Rattle.fri_example.proofs.open_value.Goals as goal

pub returns-clause-value : goal.returns-clause-value
returns-clause-value g c =
    one_value c.args.point c.in-Some.value _ _ c.requires.sizes
    (same_entry _ _ (sym c.in_ok-verified.ensures.values ∙ sym (ap opened_values c.deref.ensures.value)
    ∙ c.in-Some.ensures.no_other c.in-Some.value refl))

pub returns-clause-accepted : goal.returns-clause-accepted
returns-clause-accepted g c =
    subst (λ claims. (g.P.Pcs.rules c.args.scheme.now).Accepts None c.args.challenger.now claims
    c.in_ok-verified.verified.proof)
    (one_claim c.args.point c.in-Some.value (g.P.Pcs.rules c.args.scheme.now).committed_polynomials
    (g.P.Pcs.rules c.args.scheme.now).commitment_of c.args.committed
    c.args.commitment c.args.domain _ c.requires.commitment c.in_ok-listed.ensures
    (same_entry _ _ (sym c.in_ok-verified.ensures.values ∙ sym (ap opened_values c.deref.ensures.value)
    ∙ c.in-Some.ensures.no_other c.in-Some.value refl)))
    c.in_ok-verified.ensures.accepted
