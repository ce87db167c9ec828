use Rattle.std.proofs.Common.{◌≢◌, refl, sym, ◌∙◌}
use Rattle.std.proofs.lemmas.Bool.{true≢false, false≢true}
use Rattle.p3_fri_openings.proofs.First.{one_more, to_the_end}
use Rattle.p3_fri_openings.proofs.RoundTables.{found_entry, no_entry}
use Rattle.p3_fri_openings.proofs.all_points.has_entry.Goals as goal

pub returns-then-are_equal : goal.returns-then-are_equal
returns-then-are_equal g c = (
  λ t. found_entry c.args.table.now c.loop-entry.entry-index c.entry-item.result c.args.point
      c.loop-entry-test.true c.entry-item.is (c.are_equal.ensures.0 c.if-are_equal.true),
  λ there. refl,
)

pub loop-entry-preserved : goal.loop-entry-preserved
loop-entry-preserved g c =
    one_more (λ entry. entry.point ≢ c.args.point) c.args.table.now c.loop-entry.entry-index
    c.entry-item.result c.loop-entry-test.true c.entry-item.is c.loop-entry.invariant
    (λ e. true≢false (sym (c.are_equal.ensures.1 e) ∙ c.if-are_equal.false))

pub returns : goal.returns
returns g c =
    let none = to_the_end (λ entry. entry.point ≢ c.args.point) c.args.table.now
    c.loop-entry.entry-index c.loop-entry-test.false c.loop-entry.invariant in
    let off = no_entry c.args.table.now c.args.point none in
    (λ t. absurd (false≢true t), λ there. absurd (off there))
