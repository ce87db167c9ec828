-- Which numbers of a shape eight bytes hold.
use Rattle.std.specs.Prelude.{ℕ, List}
use Rattle.p3_challenger_fs.specs.StreamLaws.{FitsNumber}
use Rattle.p3_fri_pcs_transcript.specs.Steps.{PcsNumbers}
use Rattle.p3_fri_pow.specs.Fits.{FitsList, FitsPoints}

abbrev pub FitsMatrices : List (List ℕ) → Type 0
FitsMatrices matrices = FitsList FitsPoints matrices

abbrev pub FitsCounts : List (List (List ℕ)) → Type 0
FitsCounts counts = FitsList FitsMatrices counts

pub record FitsPcs (s : PcsNumbers) : Type 0 where
  pub counts : FitsCounts s.counts
  pub batch_pow_bits : FitsNumber s.batch_pow_bits
