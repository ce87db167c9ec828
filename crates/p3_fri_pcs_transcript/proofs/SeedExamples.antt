-- The streams of shapes that differ only in their labels.
use Rattle.std.proofs.Common.{◌≡◌, ℕ, List, [], ◌∷◌, get_or, refl, ap, arith}
use Rattle.p3_challenger_fs.specs.Pattern.{seed_stream}
use Rattle.p3_fri_pcs_transcript.specs.Steps.{pcs_steps, pcs_stream, pcs_labels}
use Rattle.p3_fri_pcs_transcript.specs.SeedExamples.{with_counts, DifferInGrouping}

-- the streams differ at a byte of the number of labels
pub matrices_differ : (d : ℕ) → DifferInGrouping d (with_counts (((3 ∷ []) ∷ (3 ∷ []) ∷ []) ∷ [])) (with_counts (((3 ∷ 3 ∷ []) ∷ []) ∷ []))
unfolding pcs_stream pcs_labels pcs_steps seed_stream
matrices_differ d = record { steps = refl; streams = λ e. let h : 4 ≡ 3 = ap (λ (bytes : List ℕ). get_or bytes 207 0) e in omega arith }

pub commitments_differ : (d : ℕ) → DifferInGrouping d (with_counts (((3 ∷ []) ∷ []) ∷ ((3 ∷ []) ∷ []) ∷ [])) (with_counts (((3 ∷ []) ∷ (3 ∷ []) ∷ []) ∷ []))
unfolding pcs_stream pcs_labels pcs_steps seed_stream
commitments_differ d = record { steps = refl; streams = λ e. let h : 5 ≡ 4 = ap (λ (bytes : List ℕ). get_or bytes 207 0) e in omega arith }
