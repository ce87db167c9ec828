use Rattle.std.proofs.lemmas.Result.{IfOk-from_err}
use Rattle.std.proofs.Common.{◌≡◌, ◌^◌, List, map, All, Ok, refl, sym, subst, ap, ◌∙◌, false}
use Rattle.std.specs.List.{AllZip}
use Rattle.algebra.specs.Nested.{nested}
use Rattle.algebra.proofs.Lists.{map-map}
use Rattle.p3_challenger_sha256.specs.Sha256.{start}
use Rattle.p3_mmcs.specs.ProverData.{matrices_of, root_over}
use Rattle.p3_pcs.specs.Claims.{claim, zip_with}
use Rattle.p3_pcs.specs.Requests.{AreHonest, FitDomains, honest_claims}
use Rattle.p3_fri_openings.specs.Held.{held_of, HoldsWords}
use Rattle.p3_fri_openings.specs.SchemeClaims.{relation_claims}
use Rattle.p3_fri_relation.specs.Setting as setting
use Rattle.p3_fri_relation.specs.Views.{parameters_of, proof_of}
use Rattle.p3_fri_two_adic.specs.Ranges.{InProverRange, InVerifierRange}
use Rattle.p3_fri_two_adic.specs.Refusals.{OpenRefusal}
use Rattle.fri_records.specs.declared.records.Batch.{Batch}
use Rattle.fri_records.specs.Records.{parameters_in}
use Rattle.fri_schemes.specs.RangeLaws.{verifier_range}
use Rattle.fri_statement.specs.Setting.{SchemeFields, sha256_setting}
use Rattle.fri_verification.specs.Bound.{batch_claimed, batch_asked, bound, context_listed, state_bound}
use Rattle.fri_numbers.specs.Claims.{batch_numbers, batch_listed}
use Rattle.fri_numbers.specs.Listed.{domain_of}
use Rattle.fri_prover.specs.Keeping.{IsKept, HasCommitted, AskFor, CanAsk, batches_at}
use Rattle.fri_requests.specs.Opened.{IsOpened}
use Rattle.fri_opening.specs.Openings.{requests_for}
use Rattle.fri_requests.specs.PlainRequests.{sha256_opening}
use Rattle.fri_commitments.specs.Requests.{points_listed}
use Rattle.fri_commitments.proofs.Requested.{have_points, points_again}
use Rattle.fri_numbers.proofs.Failed.{no_truth, request_part, request_wants}
use Rattle.fri_verification.proofs.Fields.{fields_of}
use Rattle.fri_numbers.proofs.Listed.{HaveNumbers, is_coset, are_claims, claims_again}
use Rattle.fri_prover.proofs.Reopened.{domains_kept, widths_kept, honest_at, roots_at, fits_at, opened_at}
use Rattle.fri_prover.proofs.Reopened.{commitments_at, stated_at, openable_at}
use Rattle.fri_requests.proofs.Stated.{accepted}
use Rattle.fri_requests.specs.Accepted.{IsAccepted}
use Rattle.fri_prover.proofs.prover.open_all.Given.{Over}
use Rattle.fri_prover.proofs.prover.open_all.Goals as goal
use Rattle.fri_prover.proofs.prover.open_all.Goals.{In_ok-records}

abbrev fields : (g : Over) → SchemeFields g.row.F.Denot g.row.F-Extension.Denot
fields g = fields_of g.F.Field g.F.PrimeField64 g.F.TwoAdicField g.F.ElementBytes
    g.F.Extension.Field g.F.Extension.ExtensionField g.F.Extension.ElementBytes

numbered : (g : Over) → HaveNumbers (fields g)
numbered g = record {
  below = g.met.F.PrimeField64.canonical_below;
  again = g.met.F.PrimeField64.multiple_canonical;
  numbers = g.met.F.PrimeField64.canonical_multiple;
  count = g.met.F.Extension.ExtensionField.dimension_law;
  same = g.met.F.Extension.ExtensionField.coefficients_injective;
  made = g.met.F.Extension.ExtensionField.of_coefficients_law;
}

pub open_kept-requires : goal.open_kept-requires
open_kept-requires g c = record {
  range = subst (λ q. InProverRange q g.F.TwoAdicField.TWO_ADICITY 63) (sym c.made-scheme.ensures) c.in-Ok.ensures.range;
}

-- what is known of what is opened, once it is answered
module _ (g : Over) (c : In_ok-records g) (batches : List Batch)
    (kept : HasCommitted (fields g) g.F.ElementBytes.LEN (λ d. d.shift) (λ d. d.log_size)
    c.args.parameters.now c.args.all.now batches) where
  abbrev Made : setting.Parameters
  Made = parameters_of c.made-scheme.result.fri

  same : Made ≡ parameters_in c.args.parameters.now
  same = c.made-scheme.ensures ∙ c.in-Ok.ensures.parameters

  same_blowup : c.made-scheme.result.fri.log_blowup ≡ c.args.parameters.now.log_blowup
  same_blowup = ap (λ (q : setting.Parameters). q.log_blowup) same

  asks : AskFor batches c.args.asked.now
  asks = record {
    domains =
        sym (domains_kept (fields g) (numbered g) g.F.ElementBytes.LEN (λ d. d.shift) (λ d. d.log_size) c.args.parameters.now.log_blowup c.args.all.now batches kept.kept)
        ∙ sym (map-map (map (λ d. domain_of (fields g) d.shift d.log_size)) (λ k. k.domains.items) c.args.all.now)
        ∙ ap (λ ds. map (map (λ d. domain_of (fields g) d.shift d.log_size)) ds) (sym c.in_ok-known.ensures.domains)
        ∙ map-map (map (λ d. domain_of (fields g) d.shift d.log_size)) (λ k. k.domains.items) c.in_ok-known.known.items
        ∙ ap (λ ks. map (λ k. map (λ d. domain_of (fields g) d.shift d.log_size) k.domains.items) ks) (sym c.deref.ensures.value)
        ∙ c.if-not-are_named.ensures.domains refl;
    widths =
        sym (widths_kept (fields g) (numbered g) g.F.ElementBytes.LEN (λ d. d.shift) (λ d. d.log_size) c.args.parameters.now.log_blowup c.args.all.now batches kept.kept)
        ∙ c.if-not-are_named.ensures.widths refl;
  }

  pub can_ask : CanAsk (fields g) batches c.args.context.now c.args.asked.now
  can_ask = record {
    bytes = c.in_ok-points.ensures.context;
    named = asks;
    points = have_points (fields g) (numbered g) (nested c.in_ok-points.points.items) c.args.asked.now
        c.in_ok-points.ensures.points.numbers c.in_ok-points.ensures.points.some_points;
    some_matrix = c.if-not-have_matrix.ensures.0 refl;
  }

  kept_made : AllZip (IsKept (fields g) g.F.ElementBytes.LEN (λ d. d.shift) (λ d. d.log_size) c.made-scheme.result.fri.log_blowup) c.args.all.now batches
  kept_made =
      subst (λ n. AllZip (IsKept (fields g) g.F.ElementBytes.LEN (λ d. d.shift) (λ d. d.log_size) n) c.args.all.now batches) (sym same_blowup) kept.kept

  known : map (λ k. k.commitment) c.in_ok-known.known.items ≡ map (λ k. k.commitment) c.args.all.now
  known = c.in_ok-known.ensures.commitments

  honest : AreHonest (λ d. All (HoldsWords (fields g).relation c.made-scheme.result.fri.log_blowup) (matrices_of d))
      (requests_for c.args.all.now (nested c.in_ok-points.points.items))
  honest =
      honest_at (fields g) (numbered g) g.F.ElementBytes.LEN (λ d. d.shift) (λ d. d.log_size) c.made-scheme.result.fri.log_blowup c.args.all.now batches
      c.args.asked.now kept_made asks (nested c.in_ok-points.points.items) c.in_ok-points.ensures.points

  roots : map (λ k. k.commitment) c.deref-3.result.now
      ≡ map (λ q. root_over q.datum) (requests_for c.args.all.now (nested c.in_ok-points.points.items))
  roots =
      ap (λ ks. map (λ k. k.commitment) ks) c.deref-3.ensures.value ∙ known
      ∙ roots_at (fields g) (numbered g) g.F.ElementBytes.LEN (λ d. d.shift) (λ d. d.log_size) c.made-scheme.result.fri.log_blowup c.args.all.now batches
      c.args.asked.now kept_made asks (nested c.in_ok-points.points.items) c.in_ok-points.ensures.points

  domains : map (λ k. k.domains.items) c.deref-3.result.now ≡ map (λ k. k.domains.items) c.args.all.now
  domains = ap (λ ks. map (λ k. k.domains.items) ks) c.deref-3.ensures.value ∙ c.in_ok-known.ensures.domains

  fit : FitDomains (held_of (fields g).relation matrices_of c.made-scheme.result.fri.log_blowup) (λ d. 2 ^ d.log_size)
      (map (λ k. k.domains.items) c.deref-3.result.now)
      (requests_for c.args.all.now (nested c.in_ok-points.points.items))
  fit =
      ap (λ ds. map (map (λ d. 2 ^ d.log_size)) ds) domains
      ∙ fits_at (fields g) (numbered g) g.F.ElementBytes.LEN (λ d. d.shift) (λ d. d.log_size) c.made-scheme.result.fri.log_blowup c.args.all.now batches
      c.args.asked.now kept_made asks (nested c.in_ok-points.points.items) c.in_ok-points.ensures.points

  -- the records list the claims of the requests
  listed : map batch_listed c.in_ok-records.records.items
      ≡ map (batch_numbers (fields g) (λ d. d.shift) (λ d. d.log_size))
      (honest_claims (held_of (fields g).relation matrices_of c.made-scheme.result.fri.log_blowup) root_over
      (map (λ k. k.domains.items) c.args.all.now)
      (requests_for c.args.all.now (nested c.in_ok-points.points.items)))
  listed =
      c.in_ok-records.ensures.claims
      ∙ ap (λ cs. map (batch_numbers (fields g) (λ d. d.shift) (λ d. d.log_size)) cs)
      (c.in_ok-claims.ensures.claims honest roots
      ∙ ap (λ ds. honest_claims (held_of (fields g).relation matrices_of c.made-scheme.result.fri.log_blowup) root_over ds
      (requests_for c.args.all.now (nested c.in_ok-points.points.items))) domains)

  pub opened : AllZip (IsOpened (fields g) c.args.parameters.now.log_blowup) (map batch_listed c.in_ok-records.records.items)
      (batches_at batches c.args.asked.now)
  opened =
      subst (λ n. AllZip (IsOpened (fields g) n) (map batch_listed c.in_ok-records.records.items)
      (batches_at batches c.args.asked.now)) same_blowup
      (subst (λ ns. AllZip (IsOpened (fields g) c.made-scheme.result.fri.log_blowup) ns (batches_at batches c.args.asked.now))
      (sym listed)
      (opened_at (fields g) (numbered g) g.F.ElementBytes.LEN (λ d. d.shift) (λ d. d.log_size) c.made-scheme.result.fri.log_blowup c.args.all.now batches
      c.args.asked.now kept_made asks (nested c.in_ok-points.points.items) c.in_ok-points.ensures.points))

  pub commitments : map (λ n. n.commitment) (map batch_listed c.in_ok-records.records.items)
      ≡ map (λ k. Ok k) (map (λ k. k.commitment) c.args.all.now)
  commitments =
      ap (λ ns. map (λ n. n.commitment) ns) listed
      ∙ commitments_at (fields g) (numbered g) g.F.ElementBytes.LEN (λ d. d.shift) (λ d. d.log_size) c.made-scheme.result.fri.log_blowup c.args.all.now batches
      c.args.asked.now kept_made asks (nested c.in_ok-points.points.items) c.in_ok-points.ensures.points

  begins : c.in_ok-points.challenger
      ≡ state_bound (fields g) start c.args.context.now c.args.parameters.now c.in_ok-records.records.items
  begins =
      c.in_ok-points.ensures.state
      ∙ ap (λ os. bound (fields g) start (context_listed c.args.context.now) (parameters_in c.args.parameters.now) os)
      (ap (λ ks. zip_with (batch_asked false) ks c.args.asked.now)
      (ap (λ ks. map (λ k. k.commitment) ks) c.deref-2.ensures.value ∙ known)
      ∙ sym (ap (λ ns. map batch_claimed ns) listed
      ∙ stated_at (fields g) (numbered g) g.F.ElementBytes.LEN (λ d. d.shift) (λ d. d.log_size) c.made-scheme.result.fri.log_blowup c.args.all.now batches
      c.args.asked.now kept_made asks (nested c.in_ok-points.points.items) c.in_ok-points.ensures.points))

  range : InVerifierRange (parameters_in c.args.parameters.now) g.F.TwoAdicField.TWO_ADICITY 63
  range =
      verifier_range (sha256_setting (fields g)) g.met.F.TwoAdicField.two_adicity_law (parameters_in c.args.parameters.now) Made (sym same)
      (relation_claims (λ d. d.log_size) (map claim c.in_ok-claims.claims.items)) (proof_of c.in_ok-claims.proof)
      c.in_ok-points.challenger
      (subst (λ q. InProverRange q g.F.TwoAdicField.TWO_ADICITY 63) c.in-Ok.ensures.parameters c.in-Ok.ensures.range)
      (c.in_ok-claims.ensures.accepted honest roots fit)

  pub is_accepted : IsAccepted (fields g) c.args.context.now c.args.parameters.now c.in_ok-records.records.items
      (proof_of c.in_ok-claims.proof) c.in_ok-records.next_challenge.items
  is_accepted =
      accepted (fields g) c.args.context.now c.args.parameters.now c.in_ok-records.records.items
      (proof_of c.in_ok-claims.proof) Made
      (relation_claims (λ d. d.log_size) (map claim c.in_ok-claims.claims.items)) c.in_ok-points.challenger same
      (claims_again (fields g) (numbered g) (λ d. d.shift) (λ d. d.log_size) (map claim c.in_ok-claims.claims.items)
      c.in_ok-records.records.items (sym c.in_ok-records.ensures.claims)) begins
      (record {
        bytes = c.in_ok-points.ensures.context;
        range = range;
        claims = are_claims (fields g) (numbered g) (λ d. d.shift) (λ d. d.log_size)
            (λ d. is_coset (fields g) (numbered g) g.F.TwoAdicField.TWO_ADICITY d.shift d.log_size d.nonzero d.within_two_adicity)
            (map claim c.in_ok-claims.claims.items) c.in_ok-records.records.items (sym c.in_ok-records.ensures.claims);
      })
      c.open_kept.new.challenger c.in_ok-records.next_challenge.items (c.in_ok-claims.ensures.accepted honest roots fit)
      (c.in_ok-claims.ensures.state honest roots fit) c.in_ok-records.ensures.next

pub returns-then-not-are_named-clause-refused : goal.returns-then-not-are_named-clause-refused
returns-then-not-are_named-clause-refused g c = λ batches kept can.
    no_truth (c.if-not-are_named.ensures.otherwise
    (ap (λ ks. map (λ k. map (λ d. domain_of (fields g) d.shift d.log_size) k.domains.items) ks) c.deref.ensures.value
    ∙ sym (map-map (map (λ d. domain_of (fields g) d.shift d.log_size)) (λ k. k.domains.items) c.in_ok-known.known.items)
    ∙ ap (λ ds. map (map (λ d. domain_of (fields g) d.shift d.log_size)) ds) c.in_ok-known.ensures.domains
    ∙ map-map (map (λ d. domain_of (fields g) d.shift d.log_size)) (λ k. k.domains.items) c.args.all.now
    ∙ domains_kept (fields g) (numbered g) g.F.ElementBytes.LEN (λ d. d.shift) (λ d. d.log_size) c.args.parameters.now.log_blowup c.args.all.now batches kept.kept
    ∙ can.named.domains)
    (widths_kept (fields g) (numbered g) g.F.ElementBytes.LEN (λ d. d.shift) (λ d. d.log_size) c.args.parameters.now.log_blowup c.args.all.now batches kept.kept
    ∙ can.named.widths))

pub returns-in_err-claims-clause-refused : goal.returns-in_err-claims-clause-refused
returns-in_err-claims-clause-refused g c = λ batches kept.
    let all = c.args.all.now in
    let asked = c.args.asked.now in
    let points = nested c.in_ok-points.points.items in
    let made = c.made-scheme.result.fri in
    let same : parameters_of made ≡ parameters_in c.args.parameters.now =
    c.made-scheme.ensures ∙ c.in-Ok.ensures.parameters in
    let state = bound (fields g) start (context_listed c.args.context.now) (parameters_in c.args.parameters.now)
    (zip_with (batch_asked false) (map (λ k. k.commitment) all) asked) in
    request_part _ _ _ _ _ _ c.from_residual-in_err-claims.ensures.1 c.in_err-claims.ensures.refused
    (λ cannot can. cannot (openable_at (fields g) (numbered g) g.F.ElementBytes.LEN (λ d. d.shift) (λ d. d.log_size)
    made.log_blowup all batches asked
    (subst (λ n. AllZip (IsKept (fields g) g.F.ElementBytes.LEN (λ d. d.shift) (λ d. d.log_size) n) all batches)
    (sym (ap (λ (q : setting.Parameters). q.log_blowup) same)) kept.kept)
    can.named points c.in_ok-points.ensures.points can.some_matrix))
    (λ e h. record {
      refused = record {
        stands = subst (λ q. OpenRefusal (sha256_opening (fields g) g.F.ElementBytes.LEN g.F.Extension.ElementBytes.LEN q) state
            (requests_for all (points_listed (fields g) asked)) e) same
            (subst (λ s. OpenRefusal (sha256_opening (fields g) g.F.ElementBytes.LEN g.F.Extension.ElementBytes.LEN
            (parameters_of made)) s (requests_for all (points_listed (fields g) asked)) e)
            (c.in_ok-points.ensures.state
            ∙ ap (λ os. bound (fields g) start (context_listed c.args.context.now) (parameters_in c.args.parameters.now) os)
            (ap (λ ks. zip_with (batch_asked false) ks asked)
            (ap (λ ks. map (λ k. k.commitment) ks) c.deref-2.ensures.value ∙ c.in_ok-known.ensures.commitments)))
            (subst (λ ps. OpenRefusal (sha256_opening (fields g) g.F.ElementBytes.LEN g.F.Extension.ElementBytes.LEN
            (parameters_of made)) c.in_ok-points.challenger (requests_for all ps) e)
            (points_again (fields g) (numbered g) points asked c.in_ok-points.ensures.points.numbers) h.0));
        not_memory = h.1;
      };
    })

pub returns-clause-opened : goal.returns-clause-opened
returns-clause-opened g c = λ batches kept.
    let at = (goal.at.returns-clause-opened g c).In_ok-records in
    record {
      asks = can_ask g at batches kept;
      opened = opened g at batches kept;
      commitments = commitments g at batches kept;
      accepted = is_accepted g at batches kept;
    }

-- where nothing is answered nothing is said of the answer
pub returns-in_err-known-clause-opened : goal.returns-in_err-known-clause-opened
returns-in_err-known-clause-opened g c = λ _ _. IfOk-from_err c.from_residual.result _ c.from_residual.ensures.0

pub returns-in_err-known-clause-refused : goal.returns-in_err-known-clause-refused
returns-in_err-known-clause-refused g c = λ _ _. request_wants c.from_residual.result _ _ c.from_residual.ensures.1

pub returns-in_err-points-clause-opened : goal.returns-in_err-points-clause-opened
returns-in_err-points-clause-opened g c = λ _ _. IfOk-from_err c.from_residual-in_err-points.result _ c.from_residual-in_err-points.ensures.0

pub returns-in_err-claims-clause-opened : goal.returns-in_err-claims-clause-opened
returns-in_err-claims-clause-opened g c = λ _ _. IfOk-from_err c.from_residual-in_err-claims.result _ c.from_residual-in_err-claims.ensures.0

pub returns-in_err-records-clause-opened : goal.returns-in_err-records-clause-opened
returns-in_err-records-clause-opened g c = λ _ _. IfOk-from_err c.from_residual-in_err-records.result _ c.from_residual-in_err-records.ensures.0

pub returns-in_err-records-clause-refused : goal.returns-in_err-records-clause-refused
returns-in_err-records-clause-refused g c = λ _ _. request_wants c.from_residual-in_err-records.result _ _ c.from_residual-in_err-records.ensures.1
