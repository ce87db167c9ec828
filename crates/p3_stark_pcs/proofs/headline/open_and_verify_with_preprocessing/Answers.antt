use Rattle.std.proofs.Common.{map, refl, inl, inr}
use Rattle.p3_pcs.specs.Claims.{claim}
use Rattle.p3_pcs.proofs.Honest.{claims_honest}
use Rattle.p3_stark_pcs.proofs.headline.open_and_verify_with_preprocessing.Goals as goal

pub returns-in-Ok-verified : goal.returns-in-Ok-verified
returns-in-Ok-verified g c =
    let r = g.P.Pcs.rules c.args.scheme.now in
    let passed = c.in-Ok-opened.ensures.checked refl in
    let values = c.in-Ok-opened.ensures.values c.requires.honest in
    let is = claims_honest r.commitment_of r.committed_polynomials r.after_opening
    c.args.known.now c.args.requests.now _ _ _ c.requires.commitments
    (c.in-Ok-opened.ensures.opened passed) values
    (rw c.as_slice.ensures.value at c.in-Ok-claims_of.ensures) in
    let left = c.in-Ok-opened.ensures.state c.requires.honest _ c.requires.domains in
    let ends = c.in-Ok-verified.ensures.state refl in
    let same = c.requires.copies _ _ c.in-Ok.ensures.cases in
    let accepted = c.in-Ok-opened.ensures.accepted c.requires.honest _ c.requires.domains in
    record {
      values = values;
      accepted = accepted;
      prover_state = left;
      verifier_state = cc;
      checked = λ _. passed;
      opened = c.in-Ok-opened.ensures.opened passed;
      unopened = λ no. absurd (no passed);
      refused = tt;
      unmoved = tt;
      untouched = tt;
    }

pub returns-in-Err-verified : goal.returns-in-Err-verified
returns-in-Err-verified g c =
    let r = g.P.Pcs.rules c.args.scheme.now in
    let passed = c.in-Ok-opened.ensures.checked refl in
    let values = c.in-Ok-opened.ensures.values c.requires.honest in
    let is = claims_honest r.commitment_of r.committed_polynomials r.after_opening
    c.args.known.now c.args.requests.now _ _ _ c.requires.commitments
    (c.in-Ok-opened.ensures.opened passed) values
    (rw c.as_slice.ensures.value at c.in-Ok-claims_of.ensures) in
    let same = c.requires.copies _ _ c.in-Ok.ensures.cases in
    let holds = c.in-Ok-opened.ensures.accepted c.requires.honest _ c.requires.domains in
    let holds' : r.Accepts c.args.preprocessing
    c.in-Ok.copy (map claim c.in-Ok-claims_of.claims.items) c.in-Ok-opened.opening.1 =
    rw (same, is) holds in
    record {
      values = tt;
      accepted = tt;
      prover_state = tt;
      verifier_state = tt;
      checked = λ _. passed;
      opened = c.in-Ok-opened.ensures.opened passed;
      unopened = λ no. absurd (no passed);
      unmoved = tt;
      untouched = tt;
      refused = elim ((g.met.P.Pcs.rules_law c.args.scheme.now).memory c.in-Err-verified.error) [
        | inl e ↦ e
        | inr n ↦
            let exact = c.in-Err-verified.ensures.exactly (λ r. n (cc)) in
            let no = exact.1 holds' in
            cc
      ];
    }
