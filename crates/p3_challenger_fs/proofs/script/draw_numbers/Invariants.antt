use Rattle.std.proofs.Common.{◌≡◌, ◌≤◌, ◌-◌, ◌++◌, vec_len, vec_capacity}
use Rattle.p3_challenger_core.specs.Run.{draws}
use Rattle.p3_challenger_fs.proofs.script.draw_numbers.Given as goal

abbrev pub invariant-loop : goal.invariant-loop
invariant-loop g l =
    let draw = λ (c : g.row.C.Denot). g.C.CanSampleBits.sampled_bits c l.width in
    let left = draws draw l.challenger (l.count - l.counter) in
    let all = draws draw l.fn.challenger l.count in
    record {
      values : l.numbers.items ++ left.value ≡ all.value;
      state : left.state ≡ all.state;
      room : l.count ≤ vec_capacity l.numbers;
      len : vec_len l.numbers ≡ l.counter;
    }
