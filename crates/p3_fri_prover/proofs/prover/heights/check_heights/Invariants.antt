use Rattle.std.proofs.Common.{◌<◌, ℕ, List, get_or}
use Rattle.algebra.specs.Nested.{lists}
use Rattle.p3_fri_relation.specs.Views.{parameters_of}
use Rattle.p3_fri_prover.specs.Inputs.{HaveHeights}
use Rattle.p3_fri_relation.specs.TallEnough.{IsTallEnough}
use Rattle.p3_fri_prover.proofs.prover.heights.check_heights.Given as goal

abbrev pub invariant-loop-input : goal.invariant-loop-input
invariant-loop-input g l = (heights : List ℕ) → HaveHeights heights (lists l.inputs)
    → (k : ℕ) → k < l.input-index → IsTallEnough (parameters_of l.params) (get_or heights k 0)
