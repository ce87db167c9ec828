use Rattle.std.proofs.Common.{◌≡◌, ◌++◌, take, vec_len}
use Rattle.std.specs.List.{flat_map}
use Rattle.fri_flat.specs.Flat.{word}
use Rattle.fri_flat.proofs.flat.VecFlat.write.Given as goal

abbrev pub invariant-loop-entry : goal.invariant-loop-entry
invariant-loop-entry g l = l.out.items ≡ l.fn.out.items ++ word (vec_len l.entries)
    ++ flat_map (g.V.Flat.form l.layout) (take l.entry-index l.entries.items)
