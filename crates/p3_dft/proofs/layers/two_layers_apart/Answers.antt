use Rattle.std.proofs.Common.{rules, ◌≡◌, ◌≤◌, ◌<◌, ◌+◌, ◌*◌, ℕ, length, get_or, arith, refl, sym, ap, ◌∙◌}
use Rattle.std.proofs.lemmas.Nat.{row_fits}
use Rattle.std.proofs.lemmas.List.{get_or_read}
use Rattle.std.proofs.lemmas.List.Edits.{get_or-between}
use Rattle.p3_dft.specs.Butterflies.{entry, block_entry, sum_of_sums, difference_of_sums}
use Rattle.p3_dft.specs.Butterflies.{sum_of_differences, difference_of_differences}
use Rattle.p3_dft.proofs.Parts.{block_written}
use Rattle.p3_dft.proofs.Pairs.{length-block}
use Rattle.p3_dft.proofs.SameBlocks.{same_sum_of_sums, same_difference_of_sums}
use Rattle.p3_dft.proofs.SameBlocks.{same_sum_of_differences, same_difference_of_differences}
use Rattle.p3_dft.proofs.Places.{before_end, bytes_fit, block_within, starts_within, none_below, less_at_most}
use Rattle.p3_dft.proofs.Places.{twice_below, once_below, past_below, sum_fits, double_fits, four_quarters}
use Rattle.p3_dft.proofs.layers.two_layers_apart.Goals as goal

pub block-requires : goal.block-requires
block-requires g c =
    let size = c.args.places.quarter + c.args.places.quarter + (c.args.places.quarter + c.args.places.quarter) in
    omega (arith, row_fits c.loop-m.m size c.args.places.blocks size c.loop-m-test.true (omega arith))

pub loop-m-preserved : goal.loop-m-preserved
loop-m-preserved g c =
    let A = g.row.EF.Denot in
    let B = g.row.F.Denot in
    let K = g.EF.Field.ops in
    let lift = g.EF.ExtensionField.lift in
    let i = c.loop-m.m in
    let n = c.args.places.blocks in
    let q = c.args.places.quarter in
    let s = c.args.places.stride in
    let xs = c.args.source.now in
    let ts = c.args.twiddles.now in
    let size = q + q + (q + q) in
    let block = c.block.result.now in
    let here = c.loop-m.invariant in
    let below : i < n = omega arith in
    let room : i * q + q ≤ n * q = row_fits i q n q below (omega arith) in
    let one : length c.loop-m.first ≡ n * q = omega arith in
    let two : length c.loop-m.second ≡ n * q = omega arith in
    let three : length c.loop-m.third ≡ n * q = omega arith in
    let four : length c.loop-m.fourth ≡ n * q = omega arith in
    let count = length-block c.loop-m.first i q (omega (arith, room, one)) in
    let made = c.double_butterflies.ensures in
    let kept = c.double_butterflies.auto in
    let new = c.double_butterflies.new in
    let t : (e : B) → lift c.index-twiddles-m.result ≡ lift (entry ts e ((i + i) * s)) =
    λ e. ap lift (get_or_read ts ((i + i) * s) c.index-twiddles-m.result (c.requires.twiddles (i + i) (omega (arith, below))) c.index-twiddles-m.is e) in
    let u : (e : B) → lift c.index-twiddles-m-in-loop-m.result ≡ lift (entry ts e (i * s)) =
    λ e. ap lift (get_or_read ts (i * s) c.index-twiddles-m-in-loop-m.result (c.requires.twiddles i (omega (arith, below))) c.index-twiddles-m-in-loop-m.is e) in
    let v : (e : B) → lift c.index-twiddles-blocks.result ≡ lift (entry ts e ((n + i) * s)) =
    λ e. ap lift (get_or_read ts ((n + i) * s) c.index-twiddles-blocks.result (c.requires.twiddles (n + i) (omega (arith, below))) c.index-twiddles-blocks.is e) in
    let source : (d : A) (j : ℕ) → j < size → get_or block j d ≡ block_entry xs size d i j =
    λ d j l. ap (λ zs. get_or zs j d) c.block.ensures
    ∙ get_or-between xs (i * size) (i * size + size) j d (omega (arith, l)) in
    record {
      first = λ m j d e. block_written (λ m j d. sum_of_sums K (block_entry xs size d m) (lift (entry ts e ((m + m) * s))) (lift (entry ts e (m * s))) q j)
          c.loop-m.first new.first i q _ (omega (arith, room, one)) (kept.first ∙ count)
          (λ m j d l b. here.first m j d e l b)
          (λ j d b. made.first j d (omega (arith, b, count))
          ∙ same_sum_of_sums K (entry block d) (block_entry xs size d i) _ _ (t e) q (source d) _ _ (u e) _ j count b)
          m j d;
      second = λ m j d e. block_written (λ m j d. sum_of_differences K (block_entry xs size d m) (lift (entry ts e ((m + m) * s))) (lift (entry ts e ((n + m) * s))) q j)
          c.loop-m.second new.second i q _ (omega (arith, room, two)) (kept.second ∙ length-block c.loop-m.second i q (omega (arith, room, two)))
          (λ m j d l b. here.second m j d e l b)
          (λ j d b. made.second j d (omega (arith, b, count))
          ∙ same_sum_of_differences K (entry block d) (block_entry xs size d i) _ _ (t e) q (source d) _ _ (v e) _ j count b)
          m j d;
      third = λ m j d e. block_written (λ m j d. difference_of_sums K (block_entry xs size d m) (lift (entry ts e ((m + m) * s))) (lift (entry ts e (m * s))) q j)
          c.loop-m.third new.third i q _ (omega (arith, room, three)) (kept.third ∙ length-block c.loop-m.third i q (omega (arith, room, three)))
          (λ m j d l b. here.third m j d e l b)
          (λ j d b. made.third j d (omega (arith, b, count))
          ∙ same_difference_of_sums K (entry block d) (block_entry xs size d i) _ _ (t e) q (source d) _ _ (u e) _ j count b)
          m j d;
      fourth = λ m j d e. block_written (λ m j d. difference_of_differences K (block_entry xs size d m) (lift (entry ts e ((m + m) * s))) (lift (entry ts e ((n + m) * s))) q j)
          c.loop-m.fourth new.fourth i q _ (omega (arith, room, four)) (kept.fourth ∙ length-block c.loop-m.fourth i q (omega (arith, room, four)))
          (λ m j d l b. here.fourth m j d e l b)
          (λ j d b. made.fourth j d (omega (arith, b, count))
          ∙ same_difference_of_differences K (entry block d) (block_entry xs size d i) _ _ (t e) q (source d) _ _ (v e) _ j count b)
          m j d;
    }

pub overflow_mul-to : goal.overflow_mul-to
overflow_mul-to g c =
    omega (arith, row_fits c.loop-m.m c.args.places.quarter c.args.places.blocks c.args.places.quarter c.loop-m-test.true (omega arith))

pub overflow_add-to : goal.overflow_add-to
overflow_add-to g c =
    omega (arith, row_fits c.loop-m.m c.args.places.quarter c.args.places.blocks c.args.places.quarter c.loop-m-test.true (omega arith))

pub overflow_add-to-in-loop-m : goal.overflow_add-to-in-loop-m
overflow_add-to-in-loop-m g c =
    omega (arith, row_fits c.loop-m.m c.args.places.quarter c.args.places.blocks c.args.places.quarter c.loop-m-test.true (omega arith))

pub overflow_add-to-in-loop-m-2 : goal.overflow_add-to-in-loop-m-2
overflow_add-to-in-loop-m-2 g c =
    omega (arith, row_fits c.loop-m.m c.args.places.quarter c.args.places.blocks c.args.places.quarter c.loop-m-test.true (omega arith))

pub overflow_add-to-in-loop-m-3 : goal.overflow_add-to-in-loop-m-3
overflow_add-to-in-loop-m-3 g c =
    omega (arith, row_fits c.loop-m.m c.args.places.quarter c.args.places.blocks c.args.places.quarter c.loop-m-test.true (omega arith))

pub offset_bounds-first-to : goal.offset_bounds-first-to
offset_bounds-first-to g c =
    bytes_fit _ (length c.loop-m.first) _
    (omega (arith, row_fits c.loop-m.m c.args.places.quarter c.args.places.blocks c.args.places.quarter c.loop-m-test.true (omega arith))) (search rules)

pub offset_bounds-second-to : goal.offset_bounds-second-to
offset_bounds-second-to g c =
    bytes_fit _ (length c.loop-m.second) _
    (omega (arith, row_fits c.loop-m.m c.args.places.quarter c.args.places.blocks c.args.places.quarter c.loop-m-test.true (omega arith))) (search rules)

pub offset_bounds-third-to : goal.offset_bounds-third-to
offset_bounds-third-to g c =
    bytes_fit _ (length c.loop-m.third) _
    (omega (arith, row_fits c.loop-m.m c.args.places.quarter c.args.places.blocks c.args.places.quarter c.loop-m-test.true (omega arith))) (search rules)

pub offset_bounds-fourth-to : goal.offset_bounds-fourth-to
offset_bounds-fourth-to g c =
    bytes_fit _ (length c.loop-m.fourth) _
    (omega (arith, row_fits c.loop-m.m c.args.places.quarter c.args.places.blocks c.args.places.quarter c.loop-m-test.true (omega arith))) (search rules)

pub loop-m-init : goal.loop-m-init
loop-m-init g c =
    record { first = λ m _ _ _ below _. none_below m below; second = λ m _ _ _ below _. none_below m below; third = λ m _ _ _ below _. none_below m below; fourth = λ m _ _ _ below _. none_below m below }

pub overflow_add-quarter : goal.overflow_add-quarter
overflow_add-quarter g c =
    omega (arith, block_within c.args.source.now c.args.source.now c.loop-m.m c.args.places.blocks (c.args.places.quarter + c.args.places.quarter + (c.args.places.quarter + c.args.places.quarter)) refl c.requires.source c.loop-m-test.true)

pub overflow_add-quarter-in-loop-m : goal.overflow_add-quarter-in-loop-m
overflow_add-quarter-in-loop-m g c =
    omega (arith, block_within c.args.source.now c.args.source.now c.loop-m.m c.args.places.blocks (c.args.places.quarter + c.args.places.quarter + (c.args.places.quarter + c.args.places.quarter)) refl c.requires.source c.loop-m-test.true)

pub overflow_add-quarter-in-loop-m-2 : goal.overflow_add-quarter-in-loop-m-2
overflow_add-quarter-in-loop-m-2 g c =
    omega (arith, block_within c.args.source.now c.args.source.now c.loop-m.m c.args.places.blocks (c.args.places.quarter + c.args.places.quarter + (c.args.places.quarter + c.args.places.quarter)) refl c.requires.source c.loop-m-test.true)

pub overflow_add-m : goal.overflow_add-m
overflow_add-m g c =
    double_fits c.loop-m.m c.args.places.blocks c.loop-m-test.true c.requires.few

pub overflow_add-blocks : goal.overflow_add-blocks
overflow_add-blocks g c =
    sum_fits c.loop-m.m c.args.places.blocks c.loop-m-test.true c.requires.few

pub overflow_mul-m : goal.overflow_mul-m
overflow_mul-m g c =
    omega (arith, c.requires.twiddles (c.loop-m.m + c.loop-m.m) (twice_below c.loop-m.m c.args.places.blocks c.loop-m-test.true))

pub offset_bounds-twiddles-m : goal.offset_bounds-twiddles-m
offset_bounds-twiddles-m g c =
    less_at_most ((c.loop-m.m + c.loop-m.m) * c.args.places.stride) (length c.args.twiddles.now) (c.requires.twiddles (c.loop-m.m + c.loop-m.m) (twice_below c.loop-m.m c.args.places.blocks c.loop-m-test.true))

pub bounds-twiddles-m : goal.bounds-twiddles-m
bounds-twiddles-m g c =
    c.requires.twiddles (c.loop-m.m + c.loop-m.m) (twice_below c.loop-m.m c.args.places.blocks c.loop-m-test.true)

pub overflow_mul-m-in-loop-m : goal.overflow_mul-m-in-loop-m
overflow_mul-m-in-loop-m g c =
    omega (arith, c.requires.twiddles c.loop-m.m (once_below c.loop-m.m c.args.places.blocks c.loop-m-test.true))

pub offset_bounds-twiddles-m-in-loop-m : goal.offset_bounds-twiddles-m-in-loop-m
offset_bounds-twiddles-m-in-loop-m g c =
    less_at_most (c.loop-m.m * c.args.places.stride) (length c.args.twiddles.now) (c.requires.twiddles c.loop-m.m (once_below c.loop-m.m c.args.places.blocks c.loop-m-test.true))

pub bounds-twiddles-m-in-loop-m : goal.bounds-twiddles-m-in-loop-m
bounds-twiddles-m-in-loop-m g c =
    c.requires.twiddles c.loop-m.m (once_below c.loop-m.m c.args.places.blocks c.loop-m-test.true)

pub overflow_mul-blocks : goal.overflow_mul-blocks
overflow_mul-blocks g c =
    omega (arith, c.requires.twiddles (c.args.places.blocks + c.loop-m.m) (past_below c.loop-m.m c.args.places.blocks c.loop-m-test.true))

pub offset_bounds-twiddles-blocks : goal.offset_bounds-twiddles-blocks
offset_bounds-twiddles-blocks g c =
    less_at_most ((c.args.places.blocks + c.loop-m.m) * c.args.places.stride) (length c.args.twiddles.now) (c.requires.twiddles (c.args.places.blocks + c.loop-m.m) (past_below c.loop-m.m c.args.places.blocks c.loop-m-test.true))

pub bounds-twiddles-blocks : goal.bounds-twiddles-blocks
bounds-twiddles-blocks g c =
    c.requires.twiddles (c.args.places.blocks + c.loop-m.m) (past_below c.loop-m.m c.args.places.blocks c.loop-m-test.true)

pub slice_bounds-double_butterflies-count : goal.slice_bounds-double_butterflies-count
slice_bounds-double_butterflies-count g c =
    starts_within (c.loop-m.m * c.args.places.quarter) c.args.places.quarter

pub slice_bounds-double_butterflies-start : goal.slice_bounds-double_butterflies-start
slice_bounds-double_butterflies-start g c =
    starts_within (c.loop-m.m * c.args.places.quarter) c.args.places.quarter

pub slice_bounds-double_butterflies-end : goal.slice_bounds-double_butterflies-end
slice_bounds-double_butterflies-end g c =
    block_within c.loop-m.first c.args.first.now c.loop-m.m c.args.places.blocks c.args.places.quarter c.loop-m.auto.first c.requires.first c.loop-m-test.true

pub slice_bounds-double_butterflies-count-in-loop-m : goal.slice_bounds-double_butterflies-count-in-loop-m
slice_bounds-double_butterflies-count-in-loop-m g c =
    starts_within (c.loop-m.m * c.args.places.quarter) c.args.places.quarter

pub slice_bounds-double_butterflies-start-in-loop-m : goal.slice_bounds-double_butterflies-start-in-loop-m
slice_bounds-double_butterflies-start-in-loop-m g c =
    starts_within (c.loop-m.m * c.args.places.quarter) c.args.places.quarter

pub slice_bounds-double_butterflies-end-in-loop-m : goal.slice_bounds-double_butterflies-end-in-loop-m
slice_bounds-double_butterflies-end-in-loop-m g c =
    block_within c.loop-m.second c.args.second.now c.loop-m.m c.args.places.blocks c.args.places.quarter c.loop-m.auto.second c.requires.second c.loop-m-test.true

pub slice_bounds-double_butterflies-count-in-loop-m-2 : goal.slice_bounds-double_butterflies-count-in-loop-m-2
slice_bounds-double_butterflies-count-in-loop-m-2 g c =
    starts_within (c.loop-m.m * c.args.places.quarter) c.args.places.quarter

pub slice_bounds-double_butterflies-start-in-loop-m-2 : goal.slice_bounds-double_butterflies-start-in-loop-m-2
slice_bounds-double_butterflies-start-in-loop-m-2 g c =
    starts_within (c.loop-m.m * c.args.places.quarter) c.args.places.quarter

pub slice_bounds-double_butterflies-end-in-loop-m-2 : goal.slice_bounds-double_butterflies-end-in-loop-m-2
slice_bounds-double_butterflies-end-in-loop-m-2 g c =
    block_within c.loop-m.third c.args.third.now c.loop-m.m c.args.places.blocks c.args.places.quarter c.loop-m.auto.third c.requires.third c.loop-m-test.true

pub slice_bounds-double_butterflies-count-in-loop-m-3 : goal.slice_bounds-double_butterflies-count-in-loop-m-3
slice_bounds-double_butterflies-count-in-loop-m-3 g c =
    starts_within (c.loop-m.m * c.args.places.quarter) c.args.places.quarter

pub slice_bounds-double_butterflies-start-in-loop-m-3 : goal.slice_bounds-double_butterflies-start-in-loop-m-3
slice_bounds-double_butterflies-start-in-loop-m-3 g c =
    starts_within (c.loop-m.m * c.args.places.quarter) c.args.places.quarter

pub slice_bounds-double_butterflies-end-in-loop-m-3 : goal.slice_bounds-double_butterflies-end-in-loop-m-3
slice_bounds-double_butterflies-end-in-loop-m-3 g c =
    block_within c.loop-m.fourth c.args.fourth.now c.loop-m.m c.args.places.blocks c.args.places.quarter c.loop-m.auto.fourth c.requires.fourth c.loop-m-test.true

pub double_butterflies-requires-clause-block : goal.double_butterflies-requires-clause-block
double_butterflies-requires-clause-block g c =
    four_quarters (length c.block.result.now) c.args.places.quarter
    (ap length c.block.ensures ∙ length-block c.args.source.now c.loop-m.m (c.args.places.quarter + c.args.places.quarter + (c.args.places.quarter + c.args.places.quarter)) (block_within c.args.source.now c.args.source.now c.loop-m.m c.args.places.blocks (c.args.places.quarter + c.args.places.quarter + (c.args.places.quarter + c.args.places.quarter)) refl c.requires.source c.loop-m-test.true))
    _ (length-block c.loop-m.first c.loop-m.m c.args.places.quarter (block_within c.loop-m.first c.args.first.now c.loop-m.m c.args.places.blocks c.args.places.quarter c.loop-m.auto.first c.requires.first c.loop-m-test.true))

pub double_butterflies-requires-clause-second : goal.double_butterflies-requires-clause-second
double_butterflies-requires-clause-second g c =
    length-block c.loop-m.second c.loop-m.m c.args.places.quarter (block_within c.loop-m.second c.args.second.now c.loop-m.m c.args.places.blocks c.args.places.quarter c.loop-m.auto.second c.requires.second c.loop-m-test.true)
    ∙ sym (length-block c.loop-m.first c.loop-m.m c.args.places.quarter (block_within c.loop-m.first c.args.first.now c.loop-m.m c.args.places.blocks c.args.places.quarter c.loop-m.auto.first c.requires.first c.loop-m-test.true))

pub double_butterflies-requires-clause-third : goal.double_butterflies-requires-clause-third
double_butterflies-requires-clause-third g c =
    length-block c.loop-m.third c.loop-m.m c.args.places.quarter (block_within c.loop-m.third c.args.third.now c.loop-m.m c.args.places.blocks c.args.places.quarter c.loop-m.auto.third c.requires.third c.loop-m-test.true)
    ∙ sym (length-block c.loop-m.first c.loop-m.m c.args.places.quarter (block_within c.loop-m.first c.args.first.now c.loop-m.m c.args.places.blocks c.args.places.quarter c.loop-m.auto.first c.requires.first c.loop-m-test.true))

pub double_butterflies-requires-clause-fourth : goal.double_butterflies-requires-clause-fourth
double_butterflies-requires-clause-fourth g c =
    length-block c.loop-m.fourth c.loop-m.m c.args.places.quarter (block_within c.loop-m.fourth c.args.fourth.now c.loop-m.m c.args.places.blocks c.args.places.quarter c.loop-m.auto.fourth c.requires.fourth c.loop-m-test.true)
    ∙ sym (length-block c.loop-m.first c.loop-m.m c.args.places.quarter (block_within c.loop-m.first c.args.first.now c.loop-m.m c.args.places.blocks c.args.places.quarter c.loop-m.auto.first c.requires.first c.loop-m-test.true))

pub returns-clause-first : goal.returns-clause-first
returns-clause-first g c m j d e below inside =
    c.loop-m.invariant.first m j d e (before_end m c.args.places.blocks c.loop-m.m below c.loop-m-test.false) inside

pub returns-clause-second : goal.returns-clause-second
returns-clause-second g c m j d e below inside =
    c.loop-m.invariant.second m j d e (before_end m c.args.places.blocks c.loop-m.m below c.loop-m-test.false) inside

pub returns-clause-third : goal.returns-clause-third
returns-clause-third g c m j d e below inside =
    c.loop-m.invariant.third m j d e (before_end m c.args.places.blocks c.loop-m.m below c.loop-m-test.false) inside

pub returns-clause-fourth : goal.returns-clause-fourth
returns-clause-fourth g c m j d e below inside =
    c.loop-m.invariant.fourth m j d e (before_end m c.args.places.blocks c.loop-m.m below c.loop-m-test.false) inside
