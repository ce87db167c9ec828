use Rattle.std.proofs.Common.{length, inl, inr, arith}
use Rattle.std.proofs.lemmas.Bool.{cases_lt}
use Rattle.p3_mmcs_binding.proofs.Ways.{above-end}
use Rattle.p3_mmcs_binding.proofs.collision.collision_above.Goals as goal

pub returns : goal.returns
returns c h =
    above-end c.loop-level.level c.loop-level.at c.loop-level.digest c.loop-level.opposite
    c.args.path.now c.args.other.now
    (elim (cases_lt c.loop-level.level (length c.args.path.now)) [
      | inr l ↦ inl l
      | inl l ↦ inr (omega (arith, l, c.loop-level-test.false, c.min-level-end.ensures))
    ])
    (c.loop-level.invariant h)
