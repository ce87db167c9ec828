use Rattle.std.proofs.Common.{◌≡◌, take}
use Rattle.fri_flat.specs.Answers.{digests}
use Rattle.fri_flat.proofs.forms.digests_of.Given as goal

abbrev pub invariant-loop-commitment : goal.invariant-loop-commitment
invariant-loop-commitment l = l.out.items ≡ digests (take l.commitment-index l.commitments)
