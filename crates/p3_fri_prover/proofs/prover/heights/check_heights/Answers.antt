use Rattle.std.proofs.Common.{◌∙◌, subst, sym, get_or, arith, below_more, refl}
use Rattle.std.proofs.lemmas.Grind.{get_or_default_zero}
use Rattle.algebra.specs.Nested.{lists}
use Rattle.algebra.proofs.Nested.{length-lists}
use Rattle.p3_fri_relation.specs.Views.{parameters_of}
use Rattle.p3_fri_relation.specs.TallEnough.{IsTallEnough, HeightRefusal}
use Rattle.p3_fri_prover.proofs.Lists.{power_of_item, height_of_item, length_heights}
use Rattle.p3_fri_prover.proofs.prover.heights.check_heights.Goals as goal

pub log2_strict_usize-log_height-requires : goal.log2_strict_usize-log_height-requires
log2_strict_usize-log_height-requires g c = record {
  power_of_two = power_of_item c.args.inputs.now c.loop-input.input-index c.input-item.result
      (omega arith) c.input-item.is c.len.result c.len.ensures c.requires.lengths;
}

pub returns-in-Err-clause-refused : goal.returns-in-Err-clause-refused
returns-in-Err-clause-refused g c = λ heights have.
    let inputs = c.args.inputs.now in
    let i = c.loop-input.input-index in
    let log = c.log2_strict_usize-log_height.result in
    let at = height_of_item inputs i c.input-item.result (omega arith) c.input-item.is heights log
    have (c.log2_strict_usize-log_height.ensures.power ∙ c.len.ensures) in
    record {
      place = i;
      within = omega (arith, length_heights heights (lists inputs) have, length-lists inputs);
      cause = subst (λ h. HeightRefusal (parameters_of c.args.params.now) h c.in-Err.refusal) at
          c.in-Err.ensures.refused;
    }

pub loop-input-preserved : goal.loop-input-preserved
loop-input-preserved g c = λ heights have.
    let p = parameters_of c.args.params.now in
    let inputs = c.args.inputs.now in
    let i = c.loop-input.input-index in
    let log = c.log2_strict_usize-log_height.result in
    let at = height_of_item inputs i c.input-item.result (omega arith) c.input-item.is heights log
    have (c.log2_strict_usize-log_height.ensures.power ∙ c.len.ensures) in
    below_more (λ k. IsTallEnough p (get_or heights k 0)) i (c.loop-input.invariant heights have)
    (subst (λ h. IsTallEnough p h) at (c.in_default.ensures.tall_enough.0 refl))

pub returns-clause-tall_enough : goal.returns-clause-tall_enough
returns-clause-tall_enough g c = λ heights have k d l.
    let inputs = c.args.inputs.now in
    let p = parameters_of c.args.params.now in
    subst (λ h. IsTallEnough p h) (sym (get_or_default_zero heights k d l))
    (c.loop-input.invariant heights have k
    (omega (arith, length_heights heights (lists inputs) have, length-lists inputs)))
