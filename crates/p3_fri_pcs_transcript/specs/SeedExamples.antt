-- Shapes that differ only in the labels of their streams.
use Rattle.std.specs.Prelude.{◌≡◌, ◌≢◌, ℕ, List}
use Rattle.p3_fri_pcs_transcript.specs.Steps.{PcsNumbers, pcs_steps, pcs_stream}

abbrev pub with_counts : List (List (List ℕ)) → PcsNumbers
with_counts counts = record { counts = counts; batch_pow_bits = 0 }

module _ (d : ℕ) where
  pub record DifferInGrouping (s t : PcsNumbers) : Type 0 where
    pub steps : pcs_steps d s ≡ pcs_steps d t
    pub streams : pcs_stream d s ≢ pcs_stream d t
