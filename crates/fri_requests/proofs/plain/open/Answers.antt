use Rattle.std.proofs.Common.{refl, subst, ap, ◌∙◌, map, inl, inr, false}
use Rattle.std.specs.Prelude.{string_bytes}
use Rattle.std.specs.List.{AllZip}
use Rattle.std.proofs.lemmas.Result.{IfOk-weaker, IfErr-weaker}
use Rattle.p3_challenger_sha256.specs.Sha256.{start}
use Rattle.p3_fri_openings.specs.SchemeClaims.{relation_claims}
use Rattle.p3_fri_relation.specs.Setting as setting
use Rattle.p3_fri_relation.specs.Views.{parameters_of, proof_of}
use Rattle.fri_statement.specs.Setting.{SchemeFields}
use Rattle.fri_verification.specs.Bound.{state_bound}
use Rattle.fri_numbers.specs.Claims.{batch_listed}
use Rattle.p3_mmcs.specs.ProverData.{root_over}
use Rattle.p3_pcs.specs.Claims.{zip_with}
use Rattle.fri_requests.specs.Opened.{IsOpened}
use Rattle.fri_opening.specs.Openings.{request_for}
use Rattle.fri_opening.specs.Prepared.{state_asked}
use Rattle.fri_requests.specs.PlainRequests.{IsRefusedRequest, KeepsBatch, Refuses}
use Rattle.fri_commitments.specs.Requests.{points_listed}
use Rattle.fri_numbers.proofs.Failed.{request_weaker}
use Rattle.fri_numbers.proofs.Listed.{HaveNumbers, claims_again}
use Rattle.fri_requests.proofs.PlainRules.{ArePlain, plain_openings, plain_kept, plain_roots, same_requests, none_refused}
use Rattle.fri_requests.proofs.Stated.{accepted}
use Rattle.fri_verification.proofs.Fields.{fields_of}
use Rattle.fri_requests.proofs.plain.open.Given.{Over}
use Rattle.fri_requests.proofs.plain.open.Goals as goal

abbrev fields : (g : Over) → SchemeFields g.row.F.Denot g.row.F-Extension.Denot
fields g = fields_of g.F.Field g.F.PrimeField64 g.F.TwoAdicField g.F.ElementBytes
    g.F.Extension.Field g.F.Extension.ExtensionField g.F.Extension.ElementBytes

numbered : (g : Over) → HaveNumbers (fields g)
numbered g = record {
  below = g.met.F.PrimeField64.canonical_below;
  again = g.met.F.PrimeField64.multiple_canonical;
  numbers = g.met.F.PrimeField64.canonical_multiple;
  count = g.met.F.Extension.ExtensionField.dimension_law;
  same = g.met.F.Extension.ExtensionField.coefficients_injective;
  made = g.met.F.Extension.ExtensionField.of_coefficients_law;
}

pub returns-clause-accepted : goal.returns-clause-accepted
returns-clause-accepted g c =
    let r = c.args.request.now in
    IfOk-weaker c.open.result _ _ (λ o h.
    accepted (fields g) (string_bytes r.context) r.parameters o.claims.items (proof_of o.proof)
    (parameters_of h.stated.scheme.fri) (relation_claims (λ d. d.log_size) h.stated.claims)
    (state_bound (fields g) start (string_bytes r.context) r.parameters o.claims.items) h.stated.is_of
    (claims_again (fields g) (numbered g) (λ d. d.shift) (λ d. d.log_size) h.stated.claims o.claims.items h.stated.listed) refl
    h.stated.statement _ o.next_challenge.items h.holds refl h.drawn)
    c.open.ensures.accepted

pub returns-clause-opened : goal.returns-clause-opened
returns-clause-opened g c =
    let batches = c.args.request.now.commitments.items in
    IfOk-weaker c.open.result _ _ (λ o h.
    subst (λ b. AllZip (IsOpened (fields g) b) (map batch_listed o.claims.items) batches)
    (ap (λ s. s.fri.log_blowup) h.is_of.kept ∙ ap (λ (p : setting.Parameters). p.log_blowup) h.is_of.is_made)
    (plain_openings (fields g) (numbered g) g.F.ElementBytes.LEN _ _ (λ d. d.shift) (λ d. d.log_size) h.scheme.fri.log_blowup
    (record {
      extends = λ m e x. x;
      honest = λ d x. x;
      openable = λ d x. x;
      preprocessed = λ d x. x;
      polynomials = λ d. refl;
      commitments = λ d. refl;
    })
    (map batch_listed o.claims.items) batches h.opened))
    c.open.ensures.opened

pub returns-clause-refused : goal.returns-clause-refused
returns-clause-refused g c =
    let r = c.args.request.now in
    let batches = r.commitments.items in
    IfErr-weaker c.open.result _ _
    (request_weaker _ _ _ _ (λ fails. fails)
    (λ e h. elim h.refused as (λ _. IsRefusedRequest (fields g) g.F.ElementBytes.LEN g.F.Extension.ElementBytes.LEN r e) [
      | inl b ↦
          absurd (none_refused b (λ s es q. q) (λ s es q. q))
      | inr o ↦
          let same = ap (λ s. parameters_of s.fri) o.is_of.kept ∙ o.is_of.is_made in
          let plain : ArePlain (fields g) g.F.ElementBytes.LEN _ _ (λ d. d.shift) (λ d. d.log_size) o.scheme.fri.log_blowup = record {
            extends = λ m e x. x;
            honest = λ d x. x;
            openable = λ d x. x;
            preprocessed = λ d x. x;
            polynomials = λ d. refl;
            commitments = λ d. refl;
          } in
          record {
            request_opens = h.request_opens;
            kept = map (λ k. k.data) o.kept;
            keeps = subst (λ b. AllZip (KeepsBatch (fields g) g.F.ElementBytes.LEN b) (map (λ k. k.data) o.kept) batches)
                (ap (λ (p : setting.Parameters). p.log_blowup) same)
                (plain_kept (fields g) (numbered g) g.F.ElementBytes.LEN _ _ (λ d. d.shift) (λ d. d.log_size) o.scheme.fri.log_blowup plain o.kept batches o.keeps);
            refused = subst (λ q. Refuses (fields g) g.F.ElementBytes.LEN g.F.Extension.ElementBytes.LEN q (state_asked (fields g) false start r (map root_over (map (λ k. k.data) o.kept)))
                (zip_with request_for (map (λ k. k.data) o.kept) (points_listed (fields g) batches)) e) same
                (subst (λ ks. Refuses (fields g) g.F.ElementBytes.LEN g.F.Extension.ElementBytes.LEN (parameters_of o.scheme.fri) (state_asked (fields g) false start r ks)
                (zip_with request_for (map (λ k. k.data) o.kept) (points_listed (fields g) batches)) e)
                (plain_roots (fields g) (numbered g) g.F.ElementBytes.LEN _ _ (λ d. d.shift) (λ d. d.log_size) o.scheme.fri.log_blowup plain o.kept batches o.keeps)
                (subst (λ rs. Refuses (fields g) g.F.ElementBytes.LEN g.F.Extension.ElementBytes.LEN (parameters_of o.scheme.fri) (state_asked (fields g) false start r (map (λ k. k.commitment) o.kept)) rs e)
                (same_requests o.kept (points_listed (fields g) batches)) (record { stands = o.refused; not_memory = o.not_memory })));
          }
    ]))
    c.open.ensures.refused
