use Rattle.std.proofs.Common.{◌≡◌, ◌++◌, map, take}
use Rattle.p3_fri_masks.proofs.extension.push_scaled.Given as goal

abbrev pub invariant-loop-other : goal.invariant-loop-other
invariant-loop-other g l = l.values.items
    ≡ l.fn.values.items ++ map (λ a. g.F.Field.ops.mul l.fn.factor a) (take l.other-index l.others)
