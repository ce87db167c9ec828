use Rattle.std.proofs.Common.{◌≡◌, ◌∷◌, ◌++◌, [], ◌∙◌, length}
use Rattle.algebra.specs.Nested.{lists}
use Rattle.p3_periodic.specs.Batches.{column_at}
use Rattle.p3_periodic.proofs.Places.{place_pushed, place_skipped, length_of_column}
use Rattle.p3_periodic.proofs.batch.places_of_period.Goals as goal
use Rattle.p3_periodic.proofs.batch.places_of_period.Goals.{then-len-period+in_ok-push}
use Rattle.p3_periodic.proofs.batch.places_of_period.Goals.{else-len-period}

pub loop-j-preserved : goal.loop-j-preserved
loop-j-preserved g c =
    let cs = lists c.args.columns.now in
    let j = c.loop-j.j in
    let before = c.loop-j.places.items in
    let after = c.if-len-period.places.items in
    let size : length (column_at cs j) ≡ c.len.result =
    length_of_column c.args.columns.now j c.index-columns-j.result c.loop-j-test.true
    c.index-columns-j.is ∙ (cc (c.len.ensures)) in
    elim c.if-len-period.branch [
      | then-len-period+in_ok-push w ↦
          let grown : after ≡ before ++ j ∷ [] = cc (w.places-is, w.in_ok-push.ensures.items) in
          place_pushed cs c.args.period j before after c.loop-j.invariant
          (size ∙ w.if-len-period.true) grown
      | else-len-period w ↦
          let same : after ≡ before = cc w.places-is in
          place_skipped cs c.args.period j before after c.loop-j.invariant
          (λ e. w.if-len-period.false (cc (size, e))) same
    ]
