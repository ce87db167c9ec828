use Rattle.std.proofs.Common.{◌≡◌, ◌^◌, ◌+◌, ◌≤◌, length, Some, sym, ap, ◌∙◌, subst, get_or, unwrap_or}
use Rattle.p3_matrix.specs.declared.dense.RowMajorMatrix.{RowMajorMatrix}
use Rattle.p3_challenger_core.specs.Run.{moves}
use Rattle.p3_fri_folding.specs.declared.error.FriProverError.{FriProverError}
use Rattle.p3_fri_pow.proofs.Found.{sent_is}
use Rattle.p3_fri_transcript.specs.Replay.{round_replay}
use Rattle.p3_fri_transcript.specs.Views.{state_of, shape_of}
use Rattle.p3_fri_prover.specs.Refusals.{RoundRefusal}
use Rattle.p3_matrix.specs.Matrix.{rows, matrix_width}
use Rattle.p3_fri_prover.proofs.Folding.{height_of_rows}
use Rattle.p3_field_core.proofs.IndexPowers.{exponents_agree}
use Rattle.p3_fri_prover.proofs.prover.commit_phase.commit_round.Given.{Over}
use Rattle.p3_fri_prover.proofs.prover.commit_phase.commit_round.Goals.{After-index-get_matrices-0}
use Rattle.std.proofs.lemmas.Result.{IfOk-from_err}
use Rattle.p3_fri_prover.proofs.prover.commit_phase.commit_round.Goals as goal

pub commit_word-requires-clause-power_of_two : goal.commit_word-requires-clause-power_of_two
commit_word-requires-clause-power_of_two g c =
    (c.requires.foldable.height, c.requires.foldable.length_of_word)

pub returns-in-Err-clause-refused : goal.returns-in-Err-clause-refused
returns-in-Err-clause-refused g c =
    let m = moves g.C.CanObserve-1.observed g.C.CanObserve-2.observed g.C.CanSample.sampled
    g.EF.ExtensionField.of_coefficients g.EF.ExtensionField.DIMENSION g.C.CanSampleBits.sampled_bits in
    let a = c.args.log_arity in
    let ys = c.args.word.items in
    let made = c.in_ok-commitment in
    let P : FriProverError → Type 0 = λ e. RoundRefusal g.M.Mmcs.committed g.M.Mmcs.commitment_of m
    (shape_of c.args.transcript.now).commit_pow_bits a ys (state_of c.args.transcript.now) e in
    subst P (sym c.in-Err.ensures.refused) (record {
      commitment = made.commitment;
      datum = made.prover_data;
      keeps = made.ensures;
      none_passes = c.in-Err.ensures.none_passes;
    })

-- the matrix that is folded is the one that was committed to
same_leaves : (g : Over) (c : After-index-get_matrices-0 g)
    → c.index-get_matrices-0.result ≡ c.in_ok-commitment.ensures.matrix
same_leaves g c =
    c.index-get_matrices-0.is ∙ ap (λ xs. get_or xs 0 c.index-get_matrices-0.result)
    (c.get_matrices.ensures ∙ c.in_ok-commitment.ensures.only)

leaves_height : (g : Over) (c : After-index-get_matrices-0 g)
    → length (rows c.index-get_matrices-0.result) ≡ 2 ^ c.requires.foldable.height
leaves_height g c =
    let ys = c.args.word.items in
    ap (λ (x : RowMajorMatrix _). length (rows x)) (same_leaves g c)
    ∙ ap length c.in_ok-commitment.ensures.rows_of_word
    ∙ height_of_rows c.args.log_arity c.requires.foldable.height ys
    (sym c.args.word.ok.0 ∙ c.requires.foldable.length_of_word)

pub fold_leaves-requires-clause-width : goal.fold_leaves-requires-clause-width
fold_leaves-requires-clause-width g c =
    ap matrix_width (same_leaves g (goal.at.fold_leaves-requires-clause-width g c).After-index-get_matrices-0)
    ∙ c.in_ok-commitment.ensures.width

pub fold_leaves-requires-clause-power_of_two : goal.fold_leaves-requires-clause-power_of_two
fold_leaves-requires-clause-power_of_two g c = (
  c.requires.foldable.height,
  leaves_height g (goal.at.fold_leaves-requires-clause-power_of_two g c).After-index-get_matrices-0,
)

pub fold_leaves-requires-clause-within_max_height : goal.fold_leaves-requires-clause-within_max_height
fold_leaves-requires-clause-within_max_height g c h e =
    let height = leaves_height g (goal.at.fold_leaves-requires-clause-within_max_height g c).After-index-get_matrices-0 in
    subst (λ n. n + c.args.log_arity ≤ g.S.FriFoldingStrategy.max_log_height c.args.folding.now)
    (sym (exponents_agree h c.requires.foldable.height (sym e ∙ height))) c.requires.foldable.within

pub returns-clause-round : goal.returns-clause-round
returns-clause-round g c = λ h whole.
    let m = moves g.C.CanObserve-1.observed g.C.CanObserve-2.observed g.C.CanSample.sampled
    g.EF.ExtensionField.of_coefficients g.EF.ExtensionField.DIMENSION g.C.CanSampleBits.sampled_bits in
    let a = c.args.log_arity in
    let ys = c.args.word.items in
    let made = c.in_ok-commitment in
    let bits = (shape_of c.args.transcript.now).commit_pow_bits in
    let before = state_of c.args.transcript.now in
    let zero = g.F.Field.ops.zero in
    let drawn = c.in-Ok.drawn in
    let found : c.unwrap_or.result ≡ unwrap_or drawn.1 zero =
    c.unwrap_or.ensures ∙ ap (unwrap_or drawn.1) (c.ZERO.ensures ∙ g.met.F.Field.zero_law) in
    let same = same_leaves g (goal.at.returns-clause-round g c).After-index-get_matrices-0 in
    record {
      beta = drawn.0;
      replay = ap (λ w. round_replay m bits before made.commitment w) found ∙ c.in-Ok.ensures.round;
      found = sent_is zero g.C.GrindingChallenger.solution
          (m.observe_commitment before made.commitment) bits drawn.1 c.in-Ok.ensures.witness
          c.in-Ok.ensures.found ∙ ap Some (sym found);
      keeps = made.ensures;
      word_after = c.in_ok-word.ensures h ys (sym c.args.word.ok.0 ∙ whole)
          (ap (λ (x : RowMajorMatrix _). rows x) same ∙ made.ensures.rows_of_word);
    }

-- where nothing is answered nothing is said of the answer
pub returns-in_err-word-clause-steps : goal.returns-in_err-word-clause-steps
returns-in_err-word-clause-steps g c =
    IfOk-from_err c.from_residual-in_err-word.result _ c.from_residual-in_err-word.ensures.0
