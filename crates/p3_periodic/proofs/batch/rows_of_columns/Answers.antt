use Rattle.std.proofs.Common.{◌≡◌, ◌++◌, map}
use Rattle.algebra.specs.Nested.{lists}
use Rattle.p3_periodic.specs.Batches.{entry_at}
use Rattle.p3_periodic.proofs.Gathered.{length_more, row_more}
use Rattle.p3_periodic.proofs.batch.rows_of_columns.Goals as goal

pub loop-row-preserved : goal.loop-row-preserved
loop-row-preserved g c =
    let F = g.F.Field.ops in
    let cs = lists c.args.columns.now in
    let places = c.args.places.now in
    let row = c.loop-row.row in
    let before = c.loop-row.values.items in
    let after = c.push_row.new.values.items in
    let grown : after ≡ before ++ map (entry_at F cs row) places = c.in_ok-push_row.ensures in
    record {
      len = length_more F (entry_at F cs row) places before after row c.loop-row.invariant.len
          grown;
      entries = row_more F (entry_at F cs) places before after row c.loop-row.invariant.len grown
          c.loop-row.invariant.entries;
    }
