-- Statements and heights of which a prover may be asked for a proof.
use Rattle.std.specs.Prelude.{◌≡◌, ◌==◌, ◌≤◌, not, length, ℕ, ◌+◌, ◌^◌, Bool}
use Rattle.std.specs.Option.{is_some}
use Rattle.p3_air.specs.declared.air.Air.{Air}
use Rattle.p3_air.specs.WellFormed.{IsWellFormed}
use Rattle.p3_uni_stark_verifier.specs.Chunks.{hiding_bits, NeedsChunks}
use Rattle.p3_uni_stark_verifier.specs.declared.proof.Statement.{Statement}

-- the constraint system is well formed, and the statement has what it speaks of
pub record IsProvable {V Com : Type 0} (s : Statement V Com) : Type 0 where
  pub well_formed : IsWellFormed s.air.now
  pub public_count : length s.public_values.now ≡ s.air.now.layout.num_public_values
  pub periodic_count : length s.periodic.now ≡ s.air.now.layout.num_periodic_columns
  pub preprocessed : is_some s.preprocessed
      ≡ not (s.air.now.layout.preprocessed_width == 0)

-- A trace of `n` rows fits the field over a scheme of this blowup: its height is a power of two,
-- and with the rows that hide it, and the blowup or the chunks that its constraints need, within
-- the two-adicity.
pub record FitsField {V : Type 0} (two_adicity log_blowup : ℕ) (zk : Bool) (air : Air V) (n : ℕ)
    : Type 0 where
  pub log_height : ℕ
  pub height : n ≡ 2 ^ log_height
  pub trace : log_height + hiding_bits zk + log_blowup ≤ two_adicity
  pub quotient : (log : ℕ) → NeedsChunks zk air log
      → log_height + (log + hiding_bits zk) ≤ two_adicity
