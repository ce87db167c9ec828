use Rattle.std.proofs.lemmas.Result.{IfOk-from_err}
use Rattle.std.proofs.Common.{get_or, map, sym, subst, ap, ◌∙◌}
use Rattle.std.specs.List.{AllZip}
use Rattle.fri_statement.specs.Setting.{SchemeFields}
use Rattle.fri_commitments.specs.Committed.{IsCommittedTo, Lists}
use Rattle.fri_commitments.specs.Requests.{AreBatches}
use Rattle.fri_commitments.proofs.Requested.{are_provers}
use Rattle.fri_numbers.proofs.Failed.{unread_part, request_part, request_wants}
use Rattle.fri_commitments.proofs.Fits.{fits_as}
use Rattle.fri_commitments.proofs.Committing.{all_keep, are_commitments, refuses_of, refuses_batch}
use Rattle.fri_verification.proofs.Fields.{fields_of}
use Rattle.fri_commitments.proofs.committed.commit.Given.{Over}
use Rattle.fri_commitments.proofs.committed.commit.Goals as goal

abbrev fields : (g : Over) → SchemeFields g.row.F.Denot g.row.F-Extension.Denot
fields g = fields_of g.F.Field g.F.PrimeField64 g.F.TwoAdicField g.F.ElementBytes
    g.F.Extension.Field g.F.Extension.ExtensionField g.F.Extension.ElementBytes

pub commit_all-requires-clause-since : goal.commit_all-requires-clause-since
commit_all-requires-clause-since g c = g.met.P.MadeScheme.keeps_since_law

pub commit_all-requires-clause-room : goal.commit_all-requires-clause-room
commit_all-requires-clause-room g c = record {
  each = λ i d h.
      let es = (get_or c.in_ok-batches.batches.all.items i d).evaluations.items in
      g.met.P.MadeScheme.commit_law _ _ _ c.made-scheme.result c.made-scheme.ensures es
      (fits_as g.F.TwoAdicField.TWO_ADICITY es (λ d. d.log_size) c.ZK-hides.ensures (sym (ap (λ p. p.log_blowup) c.in-Ok.ensures.parameters))
      (c.in_ok-batches.ensures.read.fit i d h));
}

pub returns-clause-committed : goal.returns-clause-committed
returns-clause-committed g c =
    let s = c.commit_all.new.scheme in
    let r = g.P.Pcs.rules s in
    let t = g.P.UnivariateStarkPcs.stark_rules s in
    let hides = g.P.UnivariateStarkPcs.ZK in
    let batches = c.args.request.now.commitments.items in
    let cs = c.in_ok-all.all.items in
    let made = c.in_ok-commitments_of.ensures ∙ ap (λ ks. map (λ k. k.commitment) ks) c.deref-2.ensures.value in
    record {
      scheme = s;
      is_of = record {
        made = c.made-scheme.result;
        is_made = subst (λ q. g.P.MadeScheme.IsMade q c.args.masking.num_random_codewords c.args.masking.seed c.made-scheme.result)
            c.in-Ok.ensures.parameters c.made-scheme.ensures;
        kept = c.in_ok-all.ensures.kept;
      };
      commit = subst (λ ks. AllZip (λ commitment batch. (datum : _) × IsCommittedTo (fields g) r t hides (λ d. d.shift) (λ d. d.log_size)
          commitment datum batch) ks batches) (sym made)
          (are_commitments (fields g) r t hides (λ d. d.shift) (λ d. d.log_size) cs batches
          (all_keep (fields g) r t hides (λ d. d.shift) (λ d. d.log_size) (g.met.P.Pcs.rules_law s) cs
          c.in_ok-batches.batches.all.items batches c.in_ok-all.ensures.committed
          (subst (λ bs. AllZip (Lists (fields g) hides (λ d. d.shift) (λ d. d.log_size)) c.in_ok-batches.batches.all.items bs)
          c.deref.ensures.value
          (subst (λ h. AllZip (Lists (fields g) h (λ d. d.shift) (λ d. d.log_size)) c.in_ok-batches.batches.all.items c.deref.result.now)
          c.ZK-hides.ensures c.in_ok-batches.ensures.read.listed))));
    }

pub returns-clause-well_formed : goal.returns-clause-well_formed
returns-clause-well_formed g c = record {
  parameters = are_provers g.F.TwoAdicField.TWO_ADICITY c.args.request.now.parameters _ c.in-Ok.ensures.parameters c.in-Ok.ensures.range c.in-Ok.ensures.blowup;
  batches = subst (λ bs. AreBatches (fields g) g.P.UnivariateStarkPcs.ZK c.args.request.now.parameters.log_blowup bs)
      c.deref.ensures.value
      (subst (λ h. AreBatches (fields g) h c.args.request.now.parameters.log_blowup c.deref.result.now) c.ZK-hides.ensures
      c.in_ok-batches.ensures.well_formed);
}

pub returns-in_err-batches-clause-refused : goal.returns-in_err-batches-clause-refused
returns-in_err-batches-clause-refused g c =
    unread_part _ _ _ _ _ c.from_residual.ensures.1 c.in_err-batches.ensures.refused
    (λ fails can. fails (subst (λ h. AreBatches (fields g) h c.args.request.now.parameters.log_blowup c.deref.result.now)
    (sym c.ZK-hides.ensures)
    (subst (λ bs. AreBatches (fields g) g.P.UnivariateStarkPcs.ZK c.args.request.now.parameters.log_blowup bs)
    (sym c.deref.ensures.value) can.batches)))

pub returns-in_err-all-clause-refused : goal.returns-in_err-all-clause-refused
returns-in_err-all-clause-refused g c =
    let hides = g.P.UnivariateStarkPcs.ZK in
    request_part _ _ _ _ _ _ c.from_residual-in_err-all.ensures.1 c.in_err-all.ensures.refused (λ never. absurd never)
    (λ e h. record {
      request_commits = record {
        parameters = are_provers g.F.TwoAdicField.TWO_ADICITY c.args.request.now.parameters _ c.in-Ok.ensures.parameters c.in-Ok.ensures.range
            c.in-Ok.ensures.blowup;
        batches = subst (λ bs. AreBatches (fields g) hides c.args.request.now.parameters.log_blowup bs)
            c.deref.ensures.value
            (subst (λ h. AreBatches (fields g) h c.args.request.now.parameters.log_blowup c.deref.result.now) c.ZK-hides.ensures
            c.in_ok-batches.ensures.well_formed);
      };
      refused = refuses_batch g.P.Pcs.rules g.P.UnivariateStarkPcs.stark_rules g.P.MadeScheme.IsMemory e (fields g) hides
          (λ d. d.shift) (λ d. d.log_size) c.args.request.now.commitments.items _ c.in_ok-batches.batches.all.items
          (subst (λ bs. AllZip (Lists (fields g) hides (λ d. d.shift) (λ d. d.log_size)) c.in_ok-batches.batches.all.items bs)
          c.deref.ensures.value
          (subst (λ h. AllZip (Lists (fields g) h (λ d. d.shift) (λ d. d.log_size)) c.in_ok-batches.batches.all.items c.deref.result.now)
          c.ZK-hides.ensures c.in_ok-batches.ensures.read.listed))
          (refuses_of g.P.Pcs.rules g.P.UnivariateStarkPcs.stark_rules g.P.MadeScheme.IsMemory e _ _
          (λ s kept. record {
            made = c.made-scheme.result;
            is_made = subst (λ q. g.P.MadeScheme.IsMade q c.args.masking.num_random_codewords c.args.masking.seed
                c.made-scheme.result) c.in-Ok.ensures.parameters c.made-scheme.ensures;
            kept = kept;
          }) c.in_ok-batches.batches.all.items h);
    })

-- where nothing is answered nothing is said of the answer
pub returns-in_err-batches-clause-committed : goal.returns-in_err-batches-clause-committed
returns-in_err-batches-clause-committed g c = IfOk-from_err c.from_residual.result _ c.from_residual.ensures.0

pub returns-in_err-batches-clause-well_formed : goal.returns-in_err-batches-clause-well_formed
returns-in_err-batches-clause-well_formed g c = IfOk-from_err c.from_residual.result _ c.from_residual.ensures.0

pub returns-in_err-all-clause-committed : goal.returns-in_err-all-clause-committed
returns-in_err-all-clause-committed g c = IfOk-from_err c.from_residual-in_err-all.result _ c.from_residual-in_err-all.ensures.0

pub returns-in_err-all-clause-well_formed : goal.returns-in_err-all-clause-well_formed
returns-in_err-all-clause-well_formed g c = IfOk-from_err c.from_residual-in_err-all.result _ c.from_residual-in_err-all.ensures.0

pub returns-in_err-commitments_of-clause-committed : goal.returns-in_err-commitments_of-clause-committed
returns-in_err-commitments_of-clause-committed g c = IfOk-from_err c.from_residual-in_err-commitments_of.result _ c.from_residual-in_err-commitments_of.ensures.0

pub returns-in_err-commitments_of-clause-well_formed : goal.returns-in_err-commitments_of-clause-well_formed
returns-in_err-commitments_of-clause-well_formed g c = IfOk-from_err c.from_residual-in_err-commitments_of.result _ c.from_residual-in_err-commitments_of.ensures.0

pub returns-in_err-commitments_of-clause-refused : goal.returns-in_err-commitments_of-clause-refused
returns-in_err-commitments_of-clause-refused g c = request_wants c.from_residual-in_err-commitments_of.result _ _ c.from_residual-in_err-commitments_of.ensures.1
