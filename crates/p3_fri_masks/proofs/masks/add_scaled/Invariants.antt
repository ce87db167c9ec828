use Rattle.std.proofs.Common.{◌≡◌, ◌<◌, ◌≤◌, ℕ, get_or}
use Rattle.p3_fri_masks.proofs.masks.add_scaled.Given as goal

-- the values before the index have their terms added, the others are as they were
abbrev pub invariant-loop-i : goal.invariant-loop-i
invariant-loop-i g l =
    let F = g.F.Field.ops in
    record {
      added : (k : ℕ) (d : g.row.F.Denot) → k < l.i → get_or l.values k d
          ≡ F.add (get_or l.initial.values k d) (F.mul l.fn.factor (get_or l.others k d));
      others : (k : ℕ) (d : g.row.F.Denot) → l.i ≤ k
          → get_or l.values k d ≡ get_or l.initial.values k d;
    }
