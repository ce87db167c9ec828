use Rattle.std.proofs.Common.{◌≡◌, ◌^◌, ◌∙◌, ◌∷◌, [], ℕ, List, Result, Ok, Err, length, sym, ap}
use Rattle.std.specs.Prelude.{IfOk}
use Rattle.p3_matrix.specs.declared.dense.RowMajorMatrix.{RowMajorMatrix}
use Rattle.p3_matrix.specs.Matrix.{rows, matrix_width}
use Rattle.p3_matrix.specs.Rows.{rows_of}
use Rattle.p3_fri_prover.specs.Rounds.{KeepsWord}
use Rattle.p3_fri_prover.proofs.Folding.{whole_rows, height_of_rows, one_power_height}
use Rattle.p3_fri_prover.proofs.prover.commit_phase.commit_word.Goals as goal

kept : {E Com Data A : Type 0} (committed : Data → List (RowMajorMatrix E))
    (commitment_of : Data → Com) (log_arity : ℕ) (word : List E) (matrix : RowMajorMatrix E)
    (made : Result (Com × Data) A) → rows matrix ≡ rows_of (2 ^ log_arity) word
    → matrix_width matrix ≡ 2 ^ log_arity
    → IfOk made (λ pair. committed pair.1 ≡ matrix ∷ [])
    → IfOk made (λ pair. commitment_of pair.1 ≡ pair.0)
    → IfOk made (λ pair. KeepsWord committed commitment_of log_arity word pair.0 pair.1)
kept committed commitment_of log_arity word matrix (Ok pair) rows_of_word width only same = record {
  matrix = matrix;
  only = only;
  rows_of_word = rows_of_word;
  width = width;
  same = same;
}
kept committed commitment_of log_arity word matrix (Err e) rows_of_word width only same = tt

pub new-leaves-requires-clause-whole_rows : goal.new-leaves-requires-clause-whole_rows
new-leaves-requires-clause-whole_rows g c =
    rw c.arity_of.ensures (whole_rows c.args.word.len c.requires.power_of_two.0 c.args.log_arity
    c.requires.power_of_two.1)

pub commit_matrix-requires : goal.commit_matrix-requires
commit_matrix-requires g c =
    let h = c.requires.power_of_two.0 in
    let ys = c.args.word.items in
    let height : length (rows c.new-leaves.result) ≡ 2 ^ h =
    ap length (c.new-leaves.ensures.rows ∙ ap (λ w. rows_of w ys) c.arity_of.ensures)
    ∙ height_of_rows c.args.log_arity h ys (sym c.args.word.ok.0 ∙ c.requires.power_of_two.1) in
    record { height = one_power_height c.new-leaves.result h height }

pub returns : goal.returns
returns g c =
    kept g.M.Mmcs.committed g.M.Mmcs.commitment_of c.args.log_arity c.args.word.items
    c.new-leaves.result c.commit_matrix.result
    (c.new-leaves.ensures.rows ∙ ap (λ w. rows_of w c.args.word.items) c.arity_of.ensures)
    (c.new-leaves.ensures.width ∙ c.arity_of.ensures) c.commit_matrix.ensures.matrices
    c.commit_matrix.ensures.commitment
