use Rattle.std.proofs.Common.{◌≡◌, length}
use Rattle.algebra.specs.Nested.{lists}
use Rattle.p3_fri_masks.proofs.Sums.{IsBalanced}
use Rattle.p3_fri_masks.proofs.masks.balancing_mask.Given as goal

-- what the masks from here on add gives the whole
abbrev pub invariant-loop-i : goal.invariant-loop-i
invariant-loop-i g l = record {
  balanced : IsBalanced g.F.Field.ops l.size l.factors (lists l.masks) l.i l.mask.items;
  size : length l.mask.items ≡ l.size;
}
