-- What a prover knows before it commits to anything.
use Rattle.std.specs.Prelude.{◌≡◌, ◌≢◌, ◌≤◌, ◌<◌, ℕ, ◌+◌, ◌%◌, ◌^◌, Bool, [], All, length}
use Rattle.std.specs.List.{AllZip}
use Rattle.algebra.specs.Field.{pow}
use Rattle.p3_field_core.specs.Coset.{coset_point}
use Rattle.p3_air.specs.Satisfied.{row_at}
use Rattle.p3_periodic.specs.Columns.{HasPeriod}
use Rattle.p3_periodic.specs.Values.{IsColumnValue}
use Rattle.p3_periodic.specs.Views.{rows_if_any}
use Rattle.p3_uni_stark_verifier.specs.declared.proof.Statement.{Statement}
use Rattle.p3_uni_stark_verifier.specs.Chunks.{hiding_bits, NeedsChunks}
use Rattle.p3_uni_stark_verifier.specs.Setting.{StarkFields}
use Rattle.p3_uni_stark_prover.specs.declared.preparation.Preparation.{Preparation}

-- how many chunks the quotient of a statement's constraints has, the coset on which its values are
-- computed, off the trace's domain and within the field, and there the periodic columns, which
-- repeat along the trace
pub record IsPrepared {V E Com Dom : Type 0} (fields : StarkFields V E) (shift : Dom → V)
    (log_size : Dom → ℕ) (zk : Bool) (s : Statement V Com) (log : ℕ) (p : Preparation V Dom)
    : Type 0 where
  pub needs : NeedsChunks zk s.air.now log
  pub num_chunks : p.log_num_chunks ≡ log + hiding_bits zk
  pub within : p.log_height + p.log_num_chunks ≤ fields.two_adicity
  pub shift_is : shift p.coset ≡ fields.generator
  pub size : log_size p.coset ≡ p.log_height + p.log_num_chunks
  pub off : pow fields.base fields.generator (2 ^ fields.two_adicity) ≢ fields.base.one
  pub periods : All (HasPeriod (2 ^ p.log_height)) s.periodic.now
  pub periodic : (i : ℕ) → AllZip (IsColumnValue fields.base fields.root p.log_height
      (coset_point fields.base (fields.root (p.log_height + p.log_num_chunks)) fields.generator i))
      s.periodic.now (row_at (rows_if_any p.periodic) (i % length (rows_if_any p.periodic)))
  pub some_row : s.periodic.now ≢ [] → 0 < length (rows_if_any p.periodic)
  pub widths : All (λ row. length row ≡ length s.periodic.now) (rows_if_any p.periodic)
