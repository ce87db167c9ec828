use Rattle.std.proofs.Common.{◌≡◌, ◌<◌, ◌≤◌, ◌+◌, ℕ, get_or}
use Rattle.p3_fri_extensions.proofs.fitting.add_second_half.Given as goal

abbrev pub invariant-loop-n : goal.invariant-loop-n
invariant-loop-n g l =
    let F = g.F.Field.ops in
    let A = g.row.F.Denot in
    let xs = l.initial.values in
    record {
      added : (n : ℕ) (d : A) → n < l.n → get_or l.values n d
          ≡ F.add (get_or xs n d) (F.mul (get_or xs (n + l.half) d) l.fn.factor);
      others : (n : ℕ) (d : A) → l.n ≤ n → get_or l.values n d ≡ get_or xs n d;
    }
