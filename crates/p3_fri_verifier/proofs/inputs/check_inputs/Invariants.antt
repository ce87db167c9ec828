use Rattle.std.proofs.Common.{◌≡◌, length, take}
use Rattle.std.specs.Prelude.{All}
use Rattle.p3_fri_relation.specs.Views.{inputs_opened}
use Rattle.p3_fri_verifier.proofs.inputs.check_inputs.Given as goal

abbrev pub invariant-loop-batch : goal.invariant-loop-batch
invariant-loop-batch g l = All (λ o. length o.rows ≡ l.num_queries) (take l.batch (inputs_opened l.inputs))
