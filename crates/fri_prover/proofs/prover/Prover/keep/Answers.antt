use Rattle.std.proofs.lemmas.Result.{IfOk-from_err}
use Rattle.std.proofs.Common.{◌++◌, [], ◌∷◌, false, map, refl, sym, subst, ap, ◌∙◌}
use Rattle.std.specs.List.{AllZip}
use Rattle.std.proofs.lemmas.List.{map-append}
use Rattle.algebra.proofs.Lists.{all_zip-push}
use Rattle.p3_fri_relation.specs.Setting as setting
use Rattle.fri_records.specs.declared.records.Batch.{Batch}
use Rattle.fri_commitments.specs.Committed.{Lists}
use Rattle.fri_prover.specs.Keeping.{IsKept}
use Rattle.fri_statement.specs.Setting.{SchemeFields}
use Rattle.fri_verification.proofs.Fields.{fields_of}
use Rattle.fri_numbers.proofs.Listed.{HaveNumbers}
use Rattle.fri_prover.proofs.ReadKept.{is_kept}
use Rattle.fri_prover.proofs.Reopened.{is_commitment}
use Rattle.fri_prover.proofs.prover.Prover.keep.Given.{Over}
use Rattle.fri_numbers.proofs.Failed.{request_wants}
use Rattle.fri_prover.proofs.prover.Prover.keep.Goals as goal
use Rattle.fri_prover.proofs.prover.Prover.keep.Goals.{In_ok-committed}

abbrev fields : (g : Over) → SchemeFields g.row.F.Denot g.row.F-Extension.Denot
fields g = fields_of g.F.Field g.F.PrimeField64 g.F.TwoAdicField g.F.ElementBytes
    g.F.Extension.Field g.F.Extension.ExtensionField g.F.Extension.ElementBytes

numbered : (g : Over) → HaveNumbers (fields g)
numbered g = record {
  below = g.met.F.PrimeField64.canonical_below;
  again = g.met.F.PrimeField64.multiple_canonical;
  numbers = g.met.F.PrimeField64.canonical_multiple;
  count = g.met.F.Extension.ExtensionField.dimension_law;
  same = g.met.F.Extension.ExtensionField.coefficients_injective;
  made = g.met.F.Extension.ExtensionField.of_coefficients_law;
}

-- what is kept of a batch that is listed so
kept : (g : Over) (c : In_ok-committed g) (batch : Batch)
    → Lists (fields g) false (λ d. d.shift) (λ d. d.log_size) c.args.read batch
    → IsKept (fields g) g.F.ElementBytes.LEN (λ d. d.shift) (λ d. d.log_size) c.args.self.now.parameters.log_blowup
    c.in_ok-committed.committed batch
kept g c batch listed =
    subst (λ b. IsKept (fields g) g.F.ElementBytes.LEN (λ d. d.shift) (λ d. d.log_size) b c.in_ok-committed.committed batch)
    (ap (λ s. s.fri.log_blowup) c.in_ok-committed.ensures.kept
    ∙ ap (λ (p : setting.Parameters). p.log_blowup) (c.made-scheme.ensures ∙ c.requires.parameters))
    (is_kept (fields g) (numbered g) g.F.ElementBytes.LEN _ _ (λ d. d.shift) (λ d. d.log_size) c.commit_one.new.scheme.fri.log_blowup
    (record {
      extends = λ m e x. x;
      honest = λ d x. x;
      openable = λ d x. x;
      preprocessed = λ d x. x;
      polynomials = λ d. refl;
      commitments = λ d. refl;
    })
    c.in_ok-committed.committed c.args.read batch c.in_ok-committed.ensures.committed listed)

pub returns-clause-committed : goal.returns-clause-committed
returns-clause-committed g c = λ batch listed.
    is_commitment (fields g) (numbered g) g.F.ElementBytes.LEN (λ d. d.shift) (λ d. d.log_size) c.args.self.now.parameters.log_blowup c.in_ok-committed.committed
    batch (kept g (goal.at.returns-clause-committed g c).In_ok-committed batch listed)

pub returns-clause-kept : goal.returns-clause-kept
returns-clause-kept g c = λ batches batch has listed. record {
  provers = has.provers;
  kept = subst (λ cs. AllZip (IsKept (fields g) g.F.ElementBytes.LEN (λ d. d.shift) (λ d. d.log_size) c.args.self.now.parameters.log_blowup) cs
      (batches ++ batch ∷ [])) (sym c.in_ok-push.ensures.items)
      (all_zip-push (IsKept (fields g) g.F.ElementBytes.LEN (λ d. d.shift) (λ d. d.log_size) c.args.self.now.parameters.log_blowup)
      c.args.self.now.committed.items batches c.in_ok-committed.committed batch has.kept
      (kept g (goal.at.returns-clause-kept g c).In_ok-committed batch listed));
}

pub returns-clause-commitments : goal.returns-clause-commitments
returns-clause-commitments g c =
    ap (λ cs. map (λ k. k.commitment) cs) c.in_ok-push.ensures.items
    ∙ map-append (λ k. k.commitment) c.args.self.now.committed.items (c.in_ok-committed.committed ∷ [])

-- where nothing is answered nothing is said of the answer
pub returns-in_err-committed-clause-committed : goal.returns-in_err-committed-clause-committed
returns-in_err-committed-clause-committed g c = λ _ _. IfOk-from_err c.from_residual.result _ c.from_residual.ensures.0

pub returns-in_err-committed-clause-kept : goal.returns-in_err-committed-clause-kept
returns-in_err-committed-clause-kept g c = λ _ _ _ _. IfOk-from_err c.from_residual.result _ c.from_residual.ensures.0

pub returns-in_err-committed-clause-commitments : goal.returns-in_err-committed-clause-commitments
returns-in_err-committed-clause-commitments g c = IfOk-from_err c.from_residual.result _ c.from_residual.ensures.0

pub returns-in_err-push-clause-committed : goal.returns-in_err-push-clause-committed
returns-in_err-push-clause-committed g c = λ _ _. IfOk-from_err c.from_residual-in_err-push.result _ c.from_residual-in_err-push.ensures.0

pub returns-in_err-push-clause-kept : goal.returns-in_err-push-clause-kept
returns-in_err-push-clause-kept g c = λ _ _ _ _. IfOk-from_err c.from_residual-in_err-push.result _ c.from_residual-in_err-push.ensures.0

pub returns-in_err-push-clause-commitments : goal.returns-in_err-push-clause-commitments
returns-in_err-push-clause-commitments g c = IfOk-from_err c.from_residual-in_err-push.result _ c.from_residual-in_err-push.ensures.0

pub returns-in_err-push-clause-refused : goal.returns-in_err-push-clause-refused
returns-in_err-push-clause-refused g c = request_wants c.from_residual-in_err-push.result _ _ c.from_residual-in_err-push.ensures.1
