use Rattle.std.proofs.Common.{◌≡◌, ◌-◌, ◌*◌, length, take, drop, get_or, ap, ◌∙◌, arith}
use Rattle.std.proofs.lemmas.List.{length-take-le, length-drop}
use Rattle.algebra.specs.Polynomial.{sum_below}
use Rattle.p3_field_core.specs.RowSums.{column_term}
use Rattle.p3_baby_bear.specs.BabyBear.{baby_bear}
use Rattle.p3_baby_bear.specs.BabyBear4.{baby_bear4, lift4}
use Rattle.p3_baby_bear.proofs.ColumnSteps.{rows_between, span}
use Rattle.p3_baby_bear.proofs.baby_bear4.column_sums.add_part.Goals as goal

pub returns : goal.returns
returns c j d h =
    let w = length c.args.sums.now in
    let weights = c.args.weights.now in
    let rows = c.args.rows.now in
    let s = c.args.start in
    let n = c.args.end - s in
    let m = c.args.end * w - s * w in
    let long : length (take n (drop s weights)) ≡ n =
    length-take-le n (drop s weights) (omega (arith, length-drop s weights)) in
    c.add_block.ensures j d h
    ∙ ap (λ t. baby_bear4.add (get_or c.args.sums.now j d) t)
    (ap (λ k. sum_below baby_bear4 k (column_term baby_bear baby_bear4 lift4 w (take n (drop s weights)) (take m (drop (s * w) rows)) j)) long
    ∙ rows_between baby_bear baby_bear4 lift4 w weights rows j s n m h (span s c.args.end w (omega arith)))
