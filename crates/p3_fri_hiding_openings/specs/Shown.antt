-- What an opening shows of a committed matrix.
use Rattle.std.specs.Prelude.{ℕ}
use Rattle.p3_matrix.specs.declared.dense.RowMajorMatrix.{RowMajorMatrix}
use Rattle.p3_pcs.specs.Requests.{Held}
use Rattle.p3_fri_relation.specs.Setting.{Fields}
use Rattle.p3_fri_openings.specs.Held.{held_in}
use Rattle.p3_fri_hiding_openings.specs.Halves.{shown_of}

-- a committed matrix without its last `r` columns, which only hide the others
abbrev pub shown_in : {F E : Type 0} → Fields F E → (log_blowup r : ℕ) → RowMajorMatrix F → Held E
shown_in f log_blowup r matrix = shown_of r (held_in f log_blowup matrix)
