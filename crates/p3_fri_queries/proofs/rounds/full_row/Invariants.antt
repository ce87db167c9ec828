use Rattle.std.proofs.Common.{◌≡◌, ◌++◌, take}
use Rattle.p3_fri_queries.proofs.rounds.full_row.Given as goal

abbrev pub invariant-loop-sibling : goal.invariant-loop-sibling
invariant-loop-sibling g l = l.row.items ≡ take l.sibling-index l.sibling-items

abbrev pub invariant-loop-sibling-2 : goal.invariant-loop-sibling-2
invariant-loop-sibling-2 g l = l.row.items ≡ l.initial.row.items ++ take l.sibling-index l.sibling-items
