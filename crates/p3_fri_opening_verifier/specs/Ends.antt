-- Where a challenger ends.
use Rattle.std.specs.Prelude.{List}
use Rattle.p3_fri_relation.specs.Setting.{Setting, Parameters, CommitmentClaim, Proof}
use Rattle.p3_fri_relation.specs.Acceptance.{test_replay, batch_replayed}

-- the state after all that is drawn of claims and a proof, along the transcript around the test and
-- along the test
abbrev pub last_state : {F E C Com Path InCom InPath : Type 0} → Setting F E C Com Path InCom InPath
    → Parameters → List (CommitmentClaim E InCom) → Proof F E Com Path InPath → C → C
last_state s p claims proof c =
    (test_replay s p claims proof (batch_replayed s p claims proof c).state).state
