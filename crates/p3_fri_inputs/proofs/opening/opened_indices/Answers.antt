use Rattle.std.proofs.Common.{◌++◌, ◌∷◌, ◌<◌, ◌-◌, ◌/◌, ◌^◌, ◌∙◌, [], length, map, get_or, ap}
use Rattle.std.proofs.Common.{arith}
use Rattle.std.proofs.lemmas.List.{get_or_default}
use Rattle.p3_field_core.specs.declared.coset.TwoAdicMultiplicativeCoset.{TwoAdicMultiplicativeCoset as Coset}
use Rattle.p3_fri_relation.specs.Heights.{opened_index}
use Rattle.p3_fri_relation.specs.Views.{matrix_claim}
use Rattle.algebra.proofs.Growing.{mapped_more, mapped_end}
use Rattle.p3_fri_inputs.proofs.LogHeights.{greatest_within}
use Rattle.p3_fri_inputs.proofs.Opened.{opened_by_shift}
use Rattle.std.proofs.lemmas.Result.{IfOk-from_err}
use Rattle.p3_fri_inputs.proofs.opening.opened_indices.Goals as goal

pub overflow_sub-shift : goal.overflow_sub-shift
overflow_sub-shift g c =
    let size = λ (domain : Coset g.row.F.Denot g.row.F-Prepared.Denot g.F.TwoAdicField g.F.Field g.F.PartialEq g.F.Add g.F.Sub g.F.Mul g.F.Neg). domain.log_size in
    let ms = map (matrix_claim size) c.args.matrices.now in
    let b = c.args.log_blowup in
    let top = c.args.log_global_max_height in
    omega (arith, c.greatest_log_height.ensures, greatest_within b top ms c.requires.heights)

pub loop-j-preserved : goal.loop-j-preserved
loop-j-preserved g c =
    let size = λ (domain : Coset g.row.F.Denot g.row.F-Prepared.Denot g.F.TwoAdicField g.F.Field g.F.PartialEq g.F.Add g.F.Sub g.F.Mul g.F.Neg). domain.log_size in
    let ms = map (matrix_claim size) c.args.matrices.now in
    let b = c.args.log_blowup in
    let top = c.args.log_global_max_height in
    let j = c.loop-j.j in
    let indices = c.args.indices.now in
    let q = get_or indices j 0 in
    let old = c.loop-j.opened.items in
    let below : j < length indices = c.loop-j-test.true in
    let small : q < 2 ^ top = c.requires.below j 0 below in
    mapped_more (opened_index b top ms) indices j q old c.push.new.self.items below
    (get_or_default indices j 0 q below) c.loop-j.invariant
    (c.in_ok-push.ensures.items ∙ ap (λ d. old ++ d ∷ [])
    (ap (λ s. q / 2 ^ (top - s)) c.greatest_log_height.ensures ∙ opened_by_shift b ms top q small))

pub returns : goal.returns
returns g c =
    let size = λ (domain : Coset g.row.F.Denot g.row.F-Prepared.Denot g.F.TwoAdicField g.F.Field g.F.PartialEq g.F.Add g.F.Sub g.F.Mul g.F.Neg). domain.log_size in
    let ms = map (matrix_claim size) c.args.matrices.now in
    mapped_end (opened_index c.args.log_blowup c.args.log_global_max_height ms) c.args.indices.now
    c.loop-j.j [] c.loop-j.opened.items (omega arith) c.loop-j.invariant

-- where nothing is answered nothing is said of the answer
pub returns-in_err-push : goal.returns-in_err-push
returns-in_err-push g c =
    IfOk-from_err c.from_residual-in_err-push.result _ c.from_residual-in_err-push.ensures.0
