use Rattle.std.proofs.Common.{◌≡◌, ◌∙◌, inl, inr, arith, sym, ap, subst}
use Rattle.std.specs.Prelude.{All}
use Rattle.std.proofs.lemmas.Result.{err_from_is_err_and}
use Rattle.algebra.specs.Nested.{lists}
use Rattle.p3_fri_folding.specs.Schedule.{IsStrictlyFalling}
use Rattle.p3_fri_transcript.specs.Shapes.{fri_shape}
use Rattle.p3_fri_transcript.specs.Steps.{FriNumbers}
use Rattle.p3_fri_relation.specs.Views.{parameters_of}
use Rattle.p3_fri_prover.specs.Proved.{fri_numbers}
use Rattle.p3_fri_relation.specs.TallEnough.{IsTallEnough}
use Rattle.p3_fri_prover.proofs.Inputs.{heights_unique, power_lengths}
use Rattle.p3_fri_prover.proofs.Schedules.{final_polynomial_within, final_height_fits}
use Rattle.std.proofs.lemmas.Result.{IfOk-from_err}
use Rattle.p3_fri_prover.proofs.prover.plan.make_plan.Goals as goal

pub check_heights-requires : goal.check_heights-requires
check_heights-requires g c =
    let a = c.requires.inputs in
    record { lengths = power_lengths a.heights (lists c.args.inputs.now) a.have }

pub log_heights-requires : goal.log_heights-requires
log_heights-requires g c =
    let a = c.requires.inputs in
    record { lengths = power_lengths a.heights (lists c.args.inputs.now) a.have }

pub new-requires-clause-falling : goal.new-requires-clause-falling
new-requires-clause-falling g c =
    let a = c.requires.inputs in
    let words = lists c.args.inputs.now in
    let found = c.in_ok-heights.heights.items in
    subst (λ hs. IsStrictlyFalling hs)
    (heights_unique a.heights found words a.have c.in_ok-heights.ensures ∙ sym
    c.deref.ensures.value)
    a.falling

pub new-requires-clause-log_final_poly_len_below_64 :
    goal.new-requires-clause-log_final_poly_len_below_64
new-requires-clause-log_final_poly_len_below_64 g c =
    let a = c.requires.inputs in
    let p = parameters_of c.args.params.now in
    let tall : All (IsTallEnough p) a.heights = c.in-Ok.ensures.tall_enough a.heights a.have in
    omega (
      arith,
      final_polynomial_within p a.heights c.args.log_global_max_height a.falling a.first
          a.some tall 63 (omega (arith, c.requires.top_below_64)),
    )

pub new-requires-clause-final_height_fits : goal.new-requires-clause-final_height_fits
new-requires-clause-final_height_fits g c =
    let a = c.requires.inputs in
    let p = parameters_of c.args.params.now in
    let tall : All (IsTallEnough p) a.heights = c.in-Ok.ensures.tall_enough a.heights a.have in
    final_height_fits p a.heights c.args.log_global_max_height a.falling a.first a.some tall
    c.requires.top_below_64 (omega (arith, c.requires.log_blowup_below_64))

pub returns-clause-log_arities : goal.returns-clause-log_arities
unfolding fri_shape
returns-clause-log_arities g c = λ heights have.
    let p = parameters_of c.args.params.now in
    let top = c.args.log_global_max_height in
    let found = c.in_ok-heights.heights.items in
    let same : c.deref.result.now ≡ heights = c.deref.ensures.value
    ∙ heights_unique found heights (lists c.args.inputs.now) c.in_ok-heights.ensures have in
    c.in_ok-log_arities.ensures.items ∙ c.deref-2.ensures.value
    ∙ ap (λ (n : FriNumbers). n.log_arities) c.in_ok-shape.ensures
    ∙ ap (λ hs. (fri_numbers p hs top c.args.extra_bits).log_arities) same

pub returns-clause-shape : goal.returns-clause-shape
returns-clause-shape g c = λ heights have.
    let p = parameters_of c.args.params.now in
    let top = c.args.log_global_max_height in
    let found = c.in_ok-heights.heights.items in
    let same : c.deref.result.now ≡ heights = c.deref.ensures.value
    ∙ heights_unique found heights (lists c.args.inputs.now) c.in_ok-heights.ensures have in
    c.in_ok-shape.ensures ∙ ap (λ hs. fri_numbers p hs top c.args.extra_bits) same

pub returns-in-Err-clause-refused : goal.returns-in-Err-clause-refused
returns-in-Err-clause-refused g c = λ heights have.
    inl (c.in-Err.ensures.refused heights have)

pub returns-in_err-heights-clause-refused : goal.returns-in_err-heights-clause-refused
returns-in_err-heights-clause-refused g c = λ heights have.
    let residual = c.from_residual in
    let told = err_from_is_err_and residual.result residual.ensures.1 in
    rw told.1 (inr (c.in-Ok.ensures.tall_enough heights have, told.2))

pub returns-in_err-shape-clause-refused : goal.returns-in_err-shape-clause-refused
returns-in_err-shape-clause-refused g c = λ heights have.
    let residual = c.from_residual-in_err-shape in
    let told = err_from_is_err_and residual.result residual.ensures.1 in
    rw told.1 (inr (c.in-Ok.ensures.tall_enough heights have, told.2))

pub returns-in_err-log_arities-clause-refused : goal.returns-in_err-log_arities-clause-refused
returns-in_err-log_arities-clause-refused g c = λ heights have.
    let residual = c.from_residual-in_err-log_arities in
    let told = err_from_is_err_and residual.result residual.ensures.1 in
    rw told.1 (inr (c.in-Ok.ensures.tall_enough heights have, told.2))

pub returns-in_err-seed-clause-refused : goal.returns-in_err-seed-clause-refused
returns-in_err-seed-clause-refused g c = λ heights have.
    let residual = c.from_residual-in_err-seed in
    let told = err_from_is_err_and residual.result residual.ensures.1 in
    rw told.1 (inr (c.in-Ok.ensures.tall_enough heights have, told.2))

-- where nothing is answered nothing is said of the answer
pub returns-in_err-heights-clause-stream : goal.returns-in_err-heights-clause-stream
returns-in_err-heights-clause-stream g c =
    IfOk-from_err c.from_residual.result _ c.from_residual.ensures.0

pub returns-in_err-heights-clause-turns : goal.returns-in_err-heights-clause-turns
returns-in_err-heights-clause-turns g c =
    IfOk-from_err c.from_residual.result _ c.from_residual.ensures.0

pub returns-in_err-log_arities-clause-stream : goal.returns-in_err-log_arities-clause-stream
returns-in_err-log_arities-clause-stream g c =
    IfOk-from_err c.from_residual-in_err-log_arities.result _ c.from_residual-in_err-log_arities.ensures.0

pub returns-in_err-log_arities-clause-turns : goal.returns-in_err-log_arities-clause-turns
returns-in_err-log_arities-clause-turns g c =
    IfOk-from_err c.from_residual-in_err-log_arities.result _ c.from_residual-in_err-log_arities.ensures.0

pub returns-in_err-seed-clause-stream : goal.returns-in_err-seed-clause-stream
returns-in_err-seed-clause-stream g c =
    IfOk-from_err c.from_residual-in_err-seed.result _ c.from_residual-in_err-seed.ensures.0

pub returns-in_err-seed-clause-turns : goal.returns-in_err-seed-clause-turns
returns-in_err-seed-clause-turns g c =
    IfOk-from_err c.from_residual-in_err-seed.result _ c.from_residual-in_err-seed.ensures.0

pub returns-in_err-shape-clause-stream : goal.returns-in_err-shape-clause-stream
returns-in_err-shape-clause-stream g c =
    IfOk-from_err c.from_residual-in_err-shape.result _ c.from_residual-in_err-shape.ensures.0

pub returns-in_err-shape-clause-turns : goal.returns-in_err-shape-clause-turns
returns-in_err-shape-clause-turns g c =
    IfOk-from_err c.from_residual-in_err-shape.result _ c.from_residual-in_err-shape.ensures.0
