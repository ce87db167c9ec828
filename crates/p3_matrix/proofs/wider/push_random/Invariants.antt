use Rattle.std.proofs.Common.{◌≡◌, ◌≤◌, ◌+◌, vec_len, vec_capacity}
use Rattle.p3_matrix.proofs.Words.{AreDrawn}
use Rattle.p3_matrix.proofs.wider.push_random.Given as goal

abbrev pub invariant-loop : goal.invariant-loop
invariant-loop g l =
    let start = g.R.Rng.stream l.fn.rng in
    record {
      drawn : AreDrawn g.T.SampleField.from_word start l.fn.values.items l.counter l.values.items (g.R.Rng.stream l.rng);
      capacity : vec_capacity l.fn.values ≤ vec_capacity l.values;
      len : vec_len l.values ≡ vec_len l.fn.values + l.counter;
    }
