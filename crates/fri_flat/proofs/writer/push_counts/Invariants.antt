use Rattle.std.proofs.Common.{◌≡◌, ◌++◌, take}
use Rattle.fri_flat.specs.Flat.{words}
use Rattle.fri_flat.proofs.writer.push_counts.Given as goal

abbrev pub invariant-loop-count : goal.invariant-loop-count
invariant-loop-count l = l.out.items
    ≡ l.fn.out.items ++ words (take l.count-index l.counts)
