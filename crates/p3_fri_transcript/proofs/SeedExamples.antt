-- The streams of the shapes that are known.
use Rattle.std.proofs.Common.{◌≡◌, ℕ, List, [], ◌∷◌, get_or, refl, ap, arith}
use Rattle.p3_challenger_fs.specs.Pattern.{seed_stream}
use Rattle.p3_fri_transcript.specs.Steps.{fri_steps, fri_stream, fri_labels}
use Rattle.p3_fri_transcript.specs.SeedExamples.{without_rounds, stream_without_rounds}
use Rattle.p3_fri_transcript.specs.SeedExamples.{with_arities, DifferInLabels}

pub stream_is : fri_stream 4 without_rounds ≡ stream_without_rounds
unfolding fri_stream fri_labels fri_steps seed_stream
stream_is = refl

-- the streams differ at a byte of the first arity's label
pub schedules_differ : (d : ℕ)
    → DifferInLabels d (with_arities (3 ∷ 3 ∷ 2 ∷ [])) (with_arities (2 ∷ 3 ∷ 3 ∷ []))
unfolding fri_stream fri_labels fri_steps seed_stream
schedules_differ d = record { steps = refl; streams = λ e. let h : 3 ≡ 2 = ap (λ (bytes : List ℕ). get_or bytes 364 0) e in omega arith }
