-- Why a prover refuses, from where it does: before the transcript, within it, or after it.
use Rattle.std.proofs.Common.{◌≡◌, ◌⊎◌, inl, inr, ℕ, List, Option, sym, ap, ◌∙◌, subst}
use Rattle.std.specs.Prelude.{All}
use Rattle.p3_challenger_fs.specs.Turns.{bytes_observed}
use Rattle.p3_matrix.specs.declared.dense.RowMajorMatrix.{RowMajorMatrix}
use Rattle.p3_fri_folding.specs.declared.error.FriProverError.{FriProverError}
use Rattle.p3_fri_folding.specs.declared.error.FriProverError.TheVariants as Why
use Rattle.p3_fri_transcript.specs.Steps.{FriNumbers, fri_stream}
use Rattle.p3_fri_relation.specs.Setting.{Setting, Parameters}
use Rattle.p3_fri_prover.specs.Played.{PlayRefusal}
use Rattle.p3_fri_prover.specs.Proved.{fri_numbers}
use Rattle.p3_fri_prover.specs.Prover.{ProverRefusal, IsForHeight}
use Rattle.p3_fri_relation.specs.TallEnough.{IsTallEnough}
use Rattle.p3_fri_prover.specs.Refusals.{HeightsRefusal}

module _ {F E C Com Data Path InCom InPath : Type 0} (s : Setting F E C Com Path InCom InPath)
    (committed : Data → List (RowMajorMatrix E)) (commitment_of : Data → Com) (p : Parameters)
    (heights : List ℕ) (top : ℕ) (words : List (List E)) (c : C)
    (solution : C → ℕ → Option F) where
  -- for want of memory, where each word can be proved
  pub refused_memory : All (IsTallEnough p) heights
      → ProverRefusal s committed commitment_of p heights top words c solution Why.OutOfMemory
  refused_memory tall = inr (tall, tt)

  -- before the transcript
  pub refused_plan : (e : FriProverError)
      → HeightsRefusal p heights e ⊎ (All (IsTallEnough p) heights × (e ≡ Why.OutOfMemory))
      → ProverRefusal s committed commitment_of p heights top words c solution e
  refused_plan e (inl height) = inl height
  refused_plan e (inr (tall, is)) =
      let P : FriProverError → Type 0 =
      λ x. ProverRefusal s committed commitment_of p heights top words c solution x in
      subst P (sym is) (refused_memory tall)

  module _ (extra : ℕ) (is_extra : extra ≡ s.extra_bits) (numbers : FriNumbers)
      (described : numbers ≡ fri_numbers p heights top extra) (stream : List ℕ)
      (is_stream : stream ≡ fri_stream s.fields.degree numbers) (e : FriProverError)
      (refused : PlayRefusal committed commitment_of s.fields s.fold s.moves p.log_final_poly_len
      numbers top words (bytes_observed s.fields.base s.moves.observe_value c stream) solution
      e) where
    -- within the transcript of these numbers
    pub refused_play : All (IsTallEnough p) heights
        → ProverRefusal s committed commitment_of p heights top words c solution e
    refused_play tall =
        let wanted = fri_numbers p heights top s.extra_bits in
        let same : numbers ≡ wanted =
        described ∙ ap (λ x. fri_numbers p heights top x) is_extra in
        let P : FriNumbers → List ℕ → Type 0 =
        λ n xs. PlayRefusal committed commitment_of s.fields s.fold s.moves p.log_final_poly_len
        n top words (bytes_observed s.fields.base s.moves.observe_value c xs) solution e in
        inr (
          tall,
          subst (P wanted) (is_stream ∙ ap (λ n. fri_stream s.fields.degree n) same)
              (subst (λ n. P n stream) same refused),
        )

    -- that is never for a height
    pub not_for_height : IsForHeight e → ⊥
    not_for_height for_height = apart e for_height refused
      where
        apart : (x : FriProverError) → IsForHeight x
            → PlayRefusal committed commitment_of s.fields s.fold s.moves p.log_final_poly_len
            numbers top words (bytes_observed s.fields.base s.moves.observe_value c stream)
            solution x → ⊥
        apart (Why.InputHeightTooSmall _ _) for_it why = why
        apart Why.FinalHeightOverflow for_it why = why
        apart Why.OutOfMemory for_it why = for_it
        apart (Why.NoPowWitness _) for_it why = for_it
        apart (Why.PointInEvaluationDomain _ _ _) for_it why = for_it
