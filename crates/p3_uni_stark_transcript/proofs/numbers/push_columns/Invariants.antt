use Rattle.std.proofs.Common.{◌≡◌, ◌++◌, map, take}
use Rattle.std.specs.List.{flat_map}
use Rattle.p3_uni_stark_transcript.specs.Instance.{column_numbers}
use Rattle.p3_uni_stark_transcript.proofs.numbers.push_columns.Given as goal

abbrev pub invariant-loop-column : goal.invariant-loop-column
invariant-loop-column g l = l.numbers.items ≡ l.fn.numbers.items
    ++ flat_map (column_numbers g.F.PrimeField64.canonical) (map (λ c. c.items) (take l.column-index l.columns))
