use Rattle.std.proofs.Common.{drop}
use Rattle.p3_mmcs_binding.specs.Collisions.{CollidesAbove}
use Rattle.p3_mmcs_binding.proofs.collision.collision_above.Given as goal

abbrev pub invariant-loop-level : goal.invariant-loop-level
invariant-loop-level l =
    CollidesAbove l.fn.index l.fn.digests.0 l.fn.digests.1 l.path l.other
    → CollidesAbove l.at l.digest l.opposite (drop l.level l.path) (drop l.level l.other)
