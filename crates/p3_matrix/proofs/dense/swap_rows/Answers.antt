use Rattle.std.proofs.Common.{arith}
use Rattle.p3_matrix.proofs.Exchange.{exchanged_rows}
use Rattle.p3_matrix.proofs.dense.swap_rows.Goals as goal

pub returns : goal.returns
returns g c =
    let split = c.split_at_mut-front in
    let swapped = c.swap_with_slice in
    exchanged_rows c.args.width c.args.upper c.args.lower c.requires.order c.args.values.now split.result.0.now split.result.1.now
    swapped.new.self swapped.new.other _ c.requires.below_height split.ensures.value split.ensures.front_len swapped.ensures.after swapped.ensures.other_after (omega arith)
