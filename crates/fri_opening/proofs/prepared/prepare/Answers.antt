use Rattle.std.proofs.lemmas.Result.{IfOk-from_err}
use Rattle.std.proofs.Common.{get_or, map, refl, sym, subst, ap, ap₂, ◌∙◌}
use Rattle.std.specs.List.{AllZip}
use Rattle.algebra.specs.Nested.{lists, nested}
use Rattle.p3_pcs.specs.Claims.{zip_with}
use Rattle.fri_records.specs.Records.{parameters_in}
use Rattle.fri_statement.specs.Setting.{SchemeFields, prime_fields}
use Rattle.fri_statement.specs.Stated.{opened_commitment}
use Rattle.fri_verification.specs.Bound.{bound, batch_asked}
use Rattle.fri_numbers.specs.Listed.{domain_of, domain_committed}
use Rattle.fri_commitments.specs.Committed.{Lists}
use Rattle.fri_numbers.specs.Numbers.{extension_numbers}
use Rattle.fri_commitments.specs.Requests.{CanOpen}
use Rattle.fri_opening.proofs.RequestState.{request_state}
use Rattle.fri_numbers.proofs.Failed.{unread_part, request_part, request_wants}
use Rattle.fri_commitments.proofs.Fits.{fits_as}
use Rattle.fri_commitments.proofs.Committing.{all_keep, refuses_batch}
use Rattle.fri_opening.proofs.Opened.{domains_known}
use Rattle.fri_verification.proofs.Fields.{fields_of}
use Rattle.fri_opening.proofs.prepared.prepare.Given.{Over}
use Rattle.fri_opening.proofs.prepared.prepare.Goals as goal

abbrev fields : (g : Over) → SchemeFields g.row.F.Denot g.row.F-Extension.Denot
fields g = fields_of g.F.Field g.F.PrimeField64 g.F.TwoAdicField g.F.ElementBytes
    g.F.Extension.Field g.F.Extension.ExtensionField g.F.Extension.ElementBytes

pub commit_all-requires-clause-since : goal.commit_all-requires-clause-since
commit_all-requires-clause-since g c = g.met.P.MadeScheme.keeps_since_law

pub commit_all-requires-clause-room : goal.commit_all-requires-clause-room
commit_all-requires-clause-room g c = record {
  each = λ i d h.
      let es = (get_or c.in_ok-asked.asked.batches.all.items i d).evaluations.items in
      c.requires.room es
      (fits_as g.F.TwoAdicField.TWO_ADICITY es (λ d. d.log_size) {b = c.args.request.now.parameters.log_blowup} c.ZK-hides.ensures refl
      (c.in_ok-asked.ensures.read.fit i d h));
}

pub batches_stated-requires-clause-domains : goal.batches_stated-requires-clause-domains
batches_stated-requires-clause-domains g c =
    let s = c.commit_all.new.scheme in
    let r = g.P.Pcs.rules s in
    let t = g.P.UnivariateStarkPcs.stark_rules s in
    let hides = g.P.UnivariateStarkPcs.ZK in
    let cs = c.in_ok-committed.committed.items in
    let batches = c.args.request.now.commitments.items in
    let listed = subst (λ h. AllZip (Lists (fields g) h (λ d. d.shift) (λ d. d.log_size)) c.in_ok-asked.asked.batches.all.items batches)
    c.ZK-hides.ensures c.in_ok-asked.ensures.read.listed in
    ap (λ ks. map (λ k. map (λ d. domain_of (fields g) d.shift d.log_size) k.domains.items) ks) c.deref-2.ensures.value
    ∙ domains_known (fields g) r t hides (λ d. d.shift) (λ d. d.log_size) c.in_ok-known.known.items cs batches
    (c.in_ok-known.ensures.domains ∙ ap (λ ks. map (λ k. k.domains.items) ks) c.deref.ensures.value)
    (all_keep (fields g) r t hides (λ d. d.shift) (λ d. d.log_size) (g.met.P.Pcs.rules_law s) cs
    c.in_ok-asked.asked.batches.all.items batches c.in_ok-committed.ensures.committed listed)
    ∙ ap₂ (λ h bs. map (λ b. map (λ m. domain_committed h m.domain) b.matrices.items) bs) (sym c.ZK-hides.ensures)
    (sym c.deref-4.ensures.value)

pub batches_stated-requires-clause-points : goal.batches_stated-requires-clause-points
batches_stated-requires-clause-points g c =
    ap (λ ps. map (map (map (extension_numbers (fields g)))) (nested ps)) c.deref-3.ensures.value
    ∙ c.in_ok-asked.ensures.points.numbers
    ∙ ap (λ bs. map (λ batch. map (λ m. lists m.points.items) batch.matrices.items) bs) (sym c.deref-4.ensures.value)

pub returns-in_err-asked-clause-refused : goal.returns-in_err-asked-clause-refused
returns-in_err-asked-clause-refused g c =
    unread_part _ _ _ _ _ c.from_residual.ensures.1 c.in_err-asked.ensures.refused
    (λ fails can. fails (subst (λ h. CanOpen (fields g) h c.args.request.now) (sym c.ZK-hides.ensures) can))

pub returns-in_err-committed-clause-refused : goal.returns-in_err-committed-clause-refused
returns-in_err-committed-clause-refused g c =
    request_part _ _ _ _ _ _ c.from_residual-in_err-committed.ensures.1 c.in_err-committed.ensures.refused
    (λ never. absurd never)
    (λ e h. (
      subst (λ h. CanOpen (fields g) h c.args.request.now) c.ZK-hides.ensures c.in_ok-asked.ensures.well_formed,
      refuses_batch g.P.Pcs.rules g.P.UnivariateStarkPcs.stark_rules g.P.MadeScheme.IsMemory e (fields g)
          g.P.UnivariateStarkPcs.ZK (λ d. d.shift) (λ d. d.log_size) c.args.request.now.commitments.items _
          c.in_ok-asked.asked.batches.all.items
          (subst (λ h. AllZip (Lists (fields g) h (λ d. d.shift) (λ d. d.log_size)) c.in_ok-asked.asked.batches.all.items
          c.args.request.now.commitments.items) c.ZK-hides.ensures c.in_ok-asked.ensures.read.listed) h,
    ))

pub returns-clause-prepared : goal.returns-clause-prepared
returns-clause-prepared g c =
    let s = c.commit_all.new.scheme in
    let hides = g.P.UnivariateStarkPcs.ZK in
    let request = c.args.request.now in
    record {
      well_formed = subst (λ h. CanOpen (fields g) h request) c.ZK-hides.ensures c.in_ok-asked.ensures.well_formed;
      keeps = all_keep (fields g) (g.P.Pcs.rules s) (g.P.UnivariateStarkPcs.stark_rules s) hides (λ d. d.shift)
          (λ d. d.log_size) (g.met.P.Pcs.rules_law s) c.in_ok-committed.committed.items
          c.in_ok-asked.asked.batches.all.items request.commitments.items c.in_ok-committed.ensures.committed
          (subst (λ h. AllZip (Lists (fields g) h (λ d. d.shift) (λ d. d.log_size)) c.in_ok-asked.asked.batches.all.items
          request.commitments.items) c.ZK-hides.ensures c.in_ok-asked.ensures.read.listed);
      commitments = c.in_ok-known.ensures.commitments ∙ ap (λ ks. map (λ k. k.commitment) ks) c.deref.ensures.value;
      domains = c.in_ok-known.ensures.domains ∙ ap (λ ks. map (λ k. k.domains.items) ks) c.deref.ensures.value;
      points = c.in_ok-asked.ensures.points;
      named = c.in_ok-asked.ensures.read.named;
      state = request_state (fields g) hides _ c.in_ok-begun.begun request c.in_ok-asked.asked.context.items
          (map (opened_commitment (prime_fields (fields g)) (λ d. d.shift) (λ d. d.log_size)) c.in_ok-stated.stated.items) (map (λ k. k.commitment) c.in_ok-known.known.items) _
          c.in_ok-challenger.challenger
          (c.in_ok-challenger.ensures
          ∙ ap₂ (λ bs ss. bound (fields g) c.in_ok-begun.begun bs (parameters_in request.parameters) (map (opened_commitment (prime_fields (fields g)) (λ d. d.shift) (λ d. d.log_size)) ss))
          c.deref-5.ensures.value c.deref-6.ensures.value)
          c.in_ok-begun.ensures c.in_ok-asked.ensures.context
          (c.in_ok-stated.ensures
          ∙ ap₂ (λ ks bs. zip_with (batch_asked c.ZK-hides.result) (map (λ k. k.commitment) ks) bs) c.deref-2.ensures.value
          c.deref-4.ensures.value
          ∙ ap (λ h. zip_with (batch_asked h) (map (λ k. k.commitment) c.in_ok-known.known.items) request.commitments.items)
          c.ZK-hides.ensures)
          (c.in_ok-known.ensures.commitments ∙ ap (λ ks. map (λ k. k.commitment) ks) c.deref.ensures.value);
    }

-- where nothing is answered nothing is said of the answer
pub returns-in_err-asked-clause-prepared : goal.returns-in_err-asked-clause-prepared
returns-in_err-asked-clause-prepared g c = IfOk-from_err c.from_residual.result _ c.from_residual.ensures.0

pub returns-in_err-committed-clause-prepared : goal.returns-in_err-committed-clause-prepared
returns-in_err-committed-clause-prepared g c = IfOk-from_err c.from_residual-in_err-committed.result _ c.from_residual-in_err-committed.ensures.0

pub returns-in_err-known-clause-prepared : goal.returns-in_err-known-clause-prepared
returns-in_err-known-clause-prepared g c = IfOk-from_err c.from_residual-in_err-known.result _ c.from_residual-in_err-known.ensures.0

pub returns-in_err-known-clause-refused : goal.returns-in_err-known-clause-refused
returns-in_err-known-clause-refused g c = request_wants c.from_residual-in_err-known.result _ _ c.from_residual-in_err-known.ensures.1

pub returns-in_err-stated-clause-prepared : goal.returns-in_err-stated-clause-prepared
returns-in_err-stated-clause-prepared g c = IfOk-from_err c.from_residual-in_err-stated.result _ c.from_residual-in_err-stated.ensures.0

pub returns-in_err-stated-clause-refused : goal.returns-in_err-stated-clause-refused
returns-in_err-stated-clause-refused g c = request_wants c.from_residual-in_err-stated.result _ _ c.from_residual-in_err-stated.ensures.1

pub returns-in_err-begun-clause-prepared : goal.returns-in_err-begun-clause-prepared
returns-in_err-begun-clause-prepared g c = IfOk-from_err c.from_residual-in_err-begun.result _ c.from_residual-in_err-begun.ensures.0

pub returns-in_err-begun-clause-refused : goal.returns-in_err-begun-clause-refused
returns-in_err-begun-clause-refused g c = request_wants c.from_residual-in_err-begun.result _ _ c.from_residual-in_err-begun.ensures.1

pub returns-in_err-challenger-clause-prepared : goal.returns-in_err-challenger-clause-prepared
returns-in_err-challenger-clause-prepared g c = IfOk-from_err c.from_residual-in_err-challenger.result _ c.from_residual-in_err-challenger.ensures.0

pub returns-in_err-challenger-clause-refused : goal.returns-in_err-challenger-clause-refused
returns-in_err-challenger-clause-refused g c = request_wants c.from_residual-in_err-challenger.result _ _ c.from_residual-in_err-challenger.ensures.1
