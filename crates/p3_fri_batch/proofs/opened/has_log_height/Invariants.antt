use Rattle.std.proofs.Common.{◌≡◌, map, take, false}
use Rattle.p3_fri_batch.specs.Heights.{has_height}
use Rattle.p3_fri_batch.specs.Rounds.{as_opened}
use Rattle.p3_fri_batch.proofs.opened.has_log_height.Given as goal

abbrev pub invariant-loop-opened : goal.invariant-loop-opened
invariant-loop-opened g l = has_height (map as_opened (take l.opened-index l.matrices)) l.log_height
    ≡ false
