-- What an opening stands on.
use Rattle.std.specs.Prelude.{ℕ, List, Option, All}
use Rattle.p3_matrix.specs.declared.dense.RowMajorMatrix.{RowMajorMatrix}
use Rattle.p3_pcs.specs.Requests.{Held}
use Rattle.p3_fri_relation.specs.Setting.{Setting, Parameters}
use Rattle.p3_fri_openings.specs.Held.{held_of, HoldsWords}
use Rattle.p3_fri_openings.specs.Rounds.{HasCoset}

-- The setting of the low-degree test and its parameters, what the data of batches (`D`) and those
-- of rounds (`Data`) are commitments to, what the challenger finds and draws, and which words the
-- strategy folds.
pub record OpeningSetting (F E C D Data Com Path InCom InPath : Type 0) : Type 1 where
  pub setting : Setting F E C Com Path InCom InPath
  pub parameters : Parameters
  -- the matrices and the commitment of a batch's data
  pub committed : D → List (RowMajorMatrix F)
  pub commitment_of : D → InCom
  -- those of a round's
  pub round_committed : Data → List (RowMajorMatrix E)
  pub round_commitment_of : Data → Com
  -- the witness that a search at so many bits finds
  pub solution : C → ℕ → Option F
  -- how many bits are drawn at once at most
  pub most_bits : ℕ
  -- the greatest log height of the words that are folded
  pub max_log_height : ℕ

module _ {F E C D Data Com Path InCom InPath : Type 0}
    (r : OpeningSetting F E C D Data Com Path InCom InPath) where
  -- what is held of a datum
  abbrev pub held : D → List (Held E)
  held = held_of r.setting.fields r.committed r.parameters.log_blowup

  -- a datum's matrices stand on cosets of the field
  abbrev pub StandsOnCosets : D → Type 0
  StandsOnCosets = λ d. All (HasCoset r.setting.fields.two_adicity) (r.committed d)

  -- a datum's matrices are words of polynomials of low degree
  abbrev pub IsHonest : D → Type 0
  IsHonest = λ d. All (HoldsWords r.setting.fields r.parameters.log_blowup) (r.committed d)
