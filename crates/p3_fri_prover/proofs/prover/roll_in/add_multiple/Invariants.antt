use Rattle.std.proofs.Common.{◌≡◌, ◌<◌, ◌≤◌, ℕ, get_or}
use Rattle.p3_fri_prover.proofs.prover.roll_in.add_multiple.Given as goal

abbrev pub invariant-loop-i : goal.invariant-loop-i
invariant-loop-i g l =
    let F = g.EF.Field.ops in
    record {
      added : (k : ℕ) (d : g.row.EF.Denot) → k < l.i → get_or l.word k d
          ≡ F.add (get_or l.initial.word k d) (F.mul l.factor (get_or l.input k F.zero));
      others : (k : ℕ) (d : g.row.EF.Denot) → l.i ≤ k
          → get_or l.word k d ≡ get_or l.initial.word k d;
    }
