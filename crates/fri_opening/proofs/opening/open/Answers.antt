use Rattle.std.proofs.lemmas.Result.{IfOk-from_err}
use Rattle.std.proofs.Common.{All, map, sym, subst, ap, ◌∙◌, inl, inr}
use Rattle.std.specs.Prelude.{string_bytes}
use Rattle.std.specs.List.{AllZip}
use Rattle.algebra.specs.Nested.{nested}
use Rattle.p3_pcs.specs.Claims.{claim}
use Rattle.p3_pcs.specs.Scheme.{AreHonestIn, FitRequests, claims_asked}
use Rattle.p3_fri_two_adic.specs.Ranges.{InVerifierRange}
use Rattle.fri_records.specs.Records.{parameters_in}
use Rattle.fri_schemes.specs.Rows.{FitsRows}
use Rattle.fri_statement.specs.Setting.{SchemeFields}
use Rattle.fri_verification.specs.Bound.{batch_claimed, bound, context_listed}
use Rattle.fri_numbers.specs.Claims.{batch_numbers}
use Rattle.fri_opening.specs.Openings.{IsOpenedBy, requests_for}
use Rattle.fri_commitments.specs.Requests.{points_listed}
use Rattle.fri_verification.proofs.Answered.{accepted_by}
use Rattle.fri_commitments.proofs.Requested.{are_provers, points_again}
use Rattle.fri_numbers.proofs.Failed.{request_part, request_wants}
use Rattle.fri_numbers.proofs.Listed.{HaveNumbers, is_coset, are_claims}
use Rattle.fri_opening.proofs.Opened.{count_same, can_open, honest, roots, fits, opened_each, stated_all}
use Rattle.fri_commitments.proofs.Committing.{refuses_batch_of}
use Rattle.fri_verification.proofs.Fields.{fields_of}
use Rattle.fri_opening.proofs.opening.open.Given.{Over}
use Rattle.fri_opening.proofs.opening.open.Goals as goal

abbrev fields : (g : Over) → SchemeFields g.row.F.Denot g.row.F-Extension.Denot
fields g = fields_of g.F.Field g.F.PrimeField64 g.F.TwoAdicField g.F.ElementBytes
    g.F.Extension.Field g.F.Extension.ExtensionField g.F.Extension.ElementBytes

numbered : (g : Over) → HaveNumbers (fields g)
numbered g = record {
  below = g.met.F.PrimeField64.canonical_below;
  again = g.met.F.PrimeField64.multiple_canonical;
  numbers = g.met.F.PrimeField64.canonical_multiple;
  count = g.met.F.Extension.ExtensionField.dimension_law;
  same = g.met.F.Extension.ExtensionField.coefficients_injective;
  made = g.met.F.Extension.ExtensionField.of_coefficients_law;
}

pub prepare-requires-clause-provers : goal.prepare-requires-clause-provers
prepare-requires-clause-provers g c =
    are_provers g.F.TwoAdicField.TWO_ADICITY c.args.request.now.parameters _ c.in-Ok.ensures.parameters c.in-Ok.ensures.range c.in-Ok.ensures.blowup

pub prepare-requires-clause-room : goal.prepare-requires-clause-room
prepare-requires-clause-room g c = λ es fit.
    g.met.P.MadeScheme.commit_law _ _ _ c.made-scheme.result c.made-scheme.ensures es
    (subst (λ n. All (λ e. FitsRows g.F.TwoAdicField.TWO_ADICITY g.P.UnivariateStarkPcs.ZK n e.0.log_size e.1) es)
    (sym (ap (λ p. p.log_blowup) c.in-Ok.ensures.parameters)) fit)

pub open_committed-requires-clause-range : goal.open_committed-requires-clause-range
open_committed-requires-clause-range g c =
    (g.met.P.Pcs.keeps_law _ _ c.in_ok-prepared.ensures.kept).prover_range
    (g.met.P.MadeScheme.prover_law _ _ _ c.made-scheme.result c.made-scheme.ensures c.in-Ok.ensures.range)

pub open_committed-requires-clause-shape : goal.open_committed-requires-clause-shape
open_committed-requires-clause-shape g c =
    let s = c.prepare.new.scheme in
    let t = g.P.UnivariateStarkPcs.stark_rules s in
    let p = c.in_ok-prepared.prepared in
    let is = c.in_ok-prepared.ensures.prepared in
    subst (λ ks. t.CanOpenAt p.preprocessing (requests_for ks (nested p.points.items))) (sym c.as_mut_slice.ensures.value)
    (can_open (fields g) (g.P.Pcs.rules s) t g.P.UnivariateStarkPcs.ZK (λ d. d.shift) (λ d. d.log_size)
    (g.met.P.UnivariateStarkPcs.stark_law s) p.preprocessing p.committed.items (nested p.points.items)
    c.args.request.now.commitments.items is.keeps is.points.numbers is.named is.well_formed.some_matrix)

pub open_committed-requires-clause-honest : goal.open_committed-requires-clause-honest
open_committed-requires-clause-honest g c =
    let s = c.prepare.new.scheme in
    let r = g.P.Pcs.rules s in
    let p = c.in_ok-prepared.prepared in
    let is = c.in_ok-prepared.ensures.prepared in
    subst (λ ks. AreHonestIn r (requests_for ks (nested p.points.items))) (sym c.as_mut_slice.ensures.value)
    (honest (fields g) r (g.P.UnivariateStarkPcs.stark_rules s) g.P.UnivariateStarkPcs.ZK (λ d. d.shift) (λ d. d.log_size)
    p.committed.items (nested p.points.items) c.args.request.now.commitments.items is.keeps is.points.some_points)

pub open_committed-requires-clause-commitments : goal.open_committed-requires-clause-commitments
open_committed-requires-clause-commitments g c =
    let s = c.prepare.new.scheme in
    let r = g.P.Pcs.rules s in
    let t = g.P.UnivariateStarkPcs.stark_rules s in
    let p = c.in_ok-prepared.prepared in
    let is = c.in_ok-prepared.ensures.prepared in
    let batches = c.args.request.now.commitments.items in
    let points = nested p.points.items in
    ap (λ ks. map (λ k. k.commitment) ks) c.deref.ensures.value ∙ is.commitments
    ∙ roots (fields g) r t g.P.UnivariateStarkPcs.ZK (λ d. d.shift) (λ d. d.log_size) p.committed.items points batches is.keeps
    (count_same (fields g) r t g.P.UnivariateStarkPcs.ZK (λ d. d.shift) (λ d. d.log_size) p.committed.items points batches is.keeps
    is.points.numbers)
    ∙ ap (λ ks. map (λ q. r.commitment_of q.datum) (requests_for ks points)) (sym c.as_mut_slice.ensures.value)

pub open_committed-requires-clause-domains : goal.open_committed-requires-clause-domains
open_committed-requires-clause-domains g c =
    let s = c.prepare.new.scheme in
    let r = g.P.Pcs.rules s in
    let t = g.P.UnivariateStarkPcs.stark_rules s in
    let p = c.in_ok-prepared.prepared in
    let is = c.in_ok-prepared.ensures.prepared in
    let batches = c.args.request.now.commitments.items in
    let points = nested p.points.items in
    subst (λ ks. FitRequests r (map (λ k. k.domains.items) c.deref.result.now) (requests_for ks points))
    (sym c.as_mut_slice.ensures.value)
    (subst (λ ds. FitRequests r ds (requests_for p.committed.items points))
    (sym (ap (λ ks. map (λ k. k.domains.items) ks) c.deref.ensures.value ∙ is.domains))
    (fits (fields g) r t g.P.UnivariateStarkPcs.ZK (λ d. d.shift) (λ d. d.log_size) p.committed.items points batches is.keeps
    (count_same (fields g) r t g.P.UnivariateStarkPcs.ZK (λ d. d.shift) (λ d. d.log_size) p.committed.items points batches is.keeps
    is.points.numbers)))

pub returns-clause-opened : goal.returns-clause-opened
returns-clause-opened g c =
    let s = c.prepare.new.scheme in
    let r = g.P.Pcs.rules s in
    let t = g.P.UnivariateStarkPcs.stark_rules s in
    let hides = g.P.UnivariateStarkPcs.ZK in
    let p = c.in_ok-prepared.prepared in
    let is = c.in_ok-prepared.ensures.prepared in
    let batches = c.args.request.now.commitments.items in
    let points = nested p.points.items in
    let listed = c.in_ok-records.ensures.claims
    ∙ ap (λ cs. map (batch_numbers (fields g) (λ d. d.shift) (λ d. d.log_size)) cs)
    (c.in_ok-claims.ensures.claims
    ∙ ap (λ ds. claims_asked r ds (requests_for c.as_mut_slice.result.now points))
    (ap (λ ks. map (λ k. k.domains.items) ks) c.deref.ensures.value ∙ is.domains)
    ∙ ap (λ ks. claims_asked r (map (λ k. k.domains.items) p.committed.items) (requests_for ks points)) c.as_mut_slice.ensures.value) in
    record {
      scheme = s;
      is_of = record {
        made = c.made-scheme.result;
        is_made = subst (λ q. g.P.MadeScheme.IsMade q c.args.masking.num_random_codewords c.args.masking.seed c.made-scheme.result)
            c.in-Ok.ensures.parameters c.made-scheme.ensures;
        kept = c.in_ok-prepared.ensures.kept;
      };
      opened = subst (λ ns. AllZip (IsOpenedBy (fields g) r t hides (λ d. d.shift) (λ d. d.log_size)) ns batches) (sym listed)
          (opened_each (fields g) r t hides (λ d. d.shift) (λ d. d.log_size) (numbered g) p.committed.items points batches is.keeps is.points.numbers);
    }

pub returns-clause-accepted : goal.returns-clause-accepted
returns-clause-accepted g c =
    let made = c.made-scheme.result in
    let s = c.prepare.new.scheme in
    let r = g.P.Pcs.rules s in
    let t = g.P.UnivariateStarkPcs.stark_rules s in
    let hides = g.P.UnivariateStarkPcs.ZK in
    let request = c.args.request.now in
    let p = c.in_ok-prepared.prepared in
    let is = c.in_ok-prepared.ensures.prepared in
    let batches = request.commitments.items in
    let points = nested p.points.items in
    let begun = g.P.MadeScheme.begun c.args.masking.num_random_codewords p.preprocessing in
    let records = c.in_ok-records.records.items in
    let listed = c.in_ok-records.ensures.claims
    ∙ ap (λ cs. map (batch_numbers (fields g) (λ d. d.shift) (λ d. d.log_size)) cs)
    (c.in_ok-claims.ensures.claims
    ∙ ap (λ ds. claims_asked r ds (requests_for c.as_mut_slice.result.now points))
    (ap (λ ks. map (λ k. k.domains.items) ks) c.deref.ensures.value ∙ is.domains)
    ∙ ap (λ ks. claims_asked r (map (λ k. k.domains.items) p.committed.items) (requests_for ks points)) c.as_mut_slice.ensures.value) in
    accepted_by (fields g) g.P.Pcs.rules (λ d. d.shift) (λ d. d.log_size)
    (λ q. g.P.MadeScheme.IsMade (parameters_in request.parameters) c.args.masking.num_random_codewords c.args.masking.seed q) begun
    (string_bytes request.context) request.parameters p.preprocessing records c.in_ok-claims.proof made
    (subst (λ q. g.P.MadeScheme.IsMade q c.args.masking.num_random_codewords c.args.masking.seed made)
    c.in-Ok.ensures.parameters c.made-scheme.ensures)
    (record {
      bytes = is.well_formed.context;
      range = subst (λ q. InVerifierRange q g.F.TwoAdicField.TWO_ADICITY 63) c.in-Ok.ensures.parameters
          (g.met.P.MadeScheme.accepted_law _ _ _ made c.made-scheme.ensures c.in-Ok.ensures.range p.preprocessing _ _ _
          ((g.met.P.MadeScheme.alike_law made s c.in_ok-prepared.ensures.kept).accepts _ _ _ _ c.in_ok-claims.ensures.accepted));
      claims = are_claims (fields g) (numbered g) (λ d. d.shift) (λ d. d.log_size)
          (λ d. is_coset (fields g) (numbered g) g.F.TwoAdicField.TWO_ADICITY d.shift d.log_size d.nonzero d.within_two_adicity)
          (map claim c.in_ok-claims.claims.items) records (sym c.in_ok-records.ensures.claims);
    })
    (map claim c.in_ok-claims.claims.items) (sym c.in_ok-records.ensures.claims) p.challenger
    (is.state ∙ ap (λ os. bound (fields g) begun (context_listed (string_bytes request.context)) (parameters_in request.parameters) os)
    (sym (ap (λ ns. map batch_claimed ns) listed
    ∙ stated_all (fields g) r t hides (λ d. d.shift) (λ d. d.log_size) (numbered g) (g.met.P.MadeScheme.columns_law s) p.committed.items points batches
    is.keeps is.points.numbers is.well_formed.points)))
    s (g.met.P.MadeScheme.alike_law made s c.in_ok-prepared.ensures.kept) _ _ c.in_ok-claims.ensures.accepted c.in_ok-claims.ensures.state
    c.in_ok-records.ensures.next

pub returns-in_err-prepared-clause-refused : goal.returns-in_err-prepared-clause-refused
returns-in_err-prepared-clause-refused g c =
    request_part _ _ _ _ _ _ c.from_residual.ensures.1 c.in_err-prepared.ensures.refused (λ fails. fails)
    (λ e h. record {
      request_opens = h.0;
      refused = inl (refuses_batch_of _ _ _ e (fields g) _ _ _ _ _ _
          (λ s kept. record {
            made = c.made-scheme.result;
            is_made = subst (λ q. g.P.MadeScheme.IsMade q c.args.masking.num_random_codewords c.args.masking.seed c.made-scheme.result)
                c.in-Ok.ensures.parameters c.made-scheme.ensures;
            kept = kept;
          }) h.1);
    })

pub returns-in_err-claims-clause-refused : goal.returns-in_err-claims-clause-refused
returns-in_err-claims-clause-refused g c =
    let s = c.prepare.new.scheme in
    let p = c.in_ok-prepared.prepared in
    let is = c.in_ok-prepared.ensures.prepared in
    let request = c.args.request.now in
    request_part _ _ _ _ _ _ c.from_residual-in_err-claims.ensures.1 c.in_err-claims.ensures.refused (λ never. absurd never)
    (λ e h. record {
      request_opens = is.well_formed;
      refused = inr (record {
        scheme = s;
        is_of = record {
          made = c.made-scheme.result;
          is_made = subst (λ q. g.P.MadeScheme.IsMade q c.args.masking.num_random_codewords c.args.masking.seed c.made-scheme.result)
              c.in-Ok.ensures.parameters c.made-scheme.ensures;
          kept = c.in_ok-prepared.ensures.kept;
        };
        index = p.preprocessing;
        named = is.named;
        kept = p.committed.items;
        keeps = is.keeps;
        refused = subst (λ d. (g.P.Pcs.rules s).Refuses p.preprocessing d
            (requests_for p.committed.items (points_listed (fields g) request.commitments.items)) e) is.state
            (subst (λ zs. (g.P.Pcs.rules s).Refuses p.preprocessing p.challenger (requests_for p.committed.items zs) e)
            (points_again (fields g) (numbered g) (nested p.points.items) request.commitments.items is.points.numbers)
            (subst (λ ks. (g.P.Pcs.rules s).Refuses p.preprocessing p.challenger (requests_for ks (nested p.points.items)) e)
            c.as_mut_slice.ensures.value h.0));
        not_memory = h.1;
      });
    })

pub returns-clause-named : goal.returns-clause-named
returns-clause-named g c = c.in_ok-prepared.ensures.prepared.named

pub returns-clause-well_formed : goal.returns-clause-well_formed
returns-clause-well_formed g c = c.in_ok-prepared.ensures.prepared.well_formed

-- where nothing is answered nothing is said of the answer
pub returns-in_err-prepared-clause-accepted : goal.returns-in_err-prepared-clause-accepted
returns-in_err-prepared-clause-accepted g c = IfOk-from_err c.from_residual.result _ c.from_residual.ensures.0

pub returns-in_err-prepared-clause-opened : goal.returns-in_err-prepared-clause-opened
returns-in_err-prepared-clause-opened g c = IfOk-from_err c.from_residual.result _ c.from_residual.ensures.0

pub returns-in_err-prepared-clause-named : goal.returns-in_err-prepared-clause-named
returns-in_err-prepared-clause-named g c = IfOk-from_err c.from_residual.result _ c.from_residual.ensures.0

pub returns-in_err-prepared-clause-well_formed : goal.returns-in_err-prepared-clause-well_formed
returns-in_err-prepared-clause-well_formed g c = IfOk-from_err c.from_residual.result _ c.from_residual.ensures.0

pub returns-in_err-claims-clause-accepted : goal.returns-in_err-claims-clause-accepted
returns-in_err-claims-clause-accepted g c = IfOk-from_err c.from_residual-in_err-claims.result _ c.from_residual-in_err-claims.ensures.0

pub returns-in_err-claims-clause-opened : goal.returns-in_err-claims-clause-opened
returns-in_err-claims-clause-opened g c = IfOk-from_err c.from_residual-in_err-claims.result _ c.from_residual-in_err-claims.ensures.0

pub returns-in_err-claims-clause-named : goal.returns-in_err-claims-clause-named
returns-in_err-claims-clause-named g c = IfOk-from_err c.from_residual-in_err-claims.result _ c.from_residual-in_err-claims.ensures.0

pub returns-in_err-claims-clause-well_formed : goal.returns-in_err-claims-clause-well_formed
returns-in_err-claims-clause-well_formed g c = IfOk-from_err c.from_residual-in_err-claims.result _ c.from_residual-in_err-claims.ensures.0

pub returns-in_err-records-clause-accepted : goal.returns-in_err-records-clause-accepted
returns-in_err-records-clause-accepted g c = IfOk-from_err c.from_residual-in_err-records.result _ c.from_residual-in_err-records.ensures.0

pub returns-in_err-records-clause-opened : goal.returns-in_err-records-clause-opened
returns-in_err-records-clause-opened g c = IfOk-from_err c.from_residual-in_err-records.result _ c.from_residual-in_err-records.ensures.0

pub returns-in_err-records-clause-named : goal.returns-in_err-records-clause-named
returns-in_err-records-clause-named g c = IfOk-from_err c.from_residual-in_err-records.result _ c.from_residual-in_err-records.ensures.0

pub returns-in_err-records-clause-well_formed : goal.returns-in_err-records-clause-well_formed
returns-in_err-records-clause-well_formed g c = IfOk-from_err c.from_residual-in_err-records.result _ c.from_residual-in_err-records.ensures.0

pub returns-in_err-records-clause-refused : goal.returns-in_err-records-clause-refused
returns-in_err-records-clause-refused g c = request_wants c.from_residual-in_err-records.result _ _ c.from_residual-in_err-records.ensures.1
