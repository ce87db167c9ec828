use Rattle.std.proofs.Common.{rules, ◌≡◌, ◌≤◌, ◌<◌, ◌+◌, ◌*◌, ℕ, length, get_or, arith, refl, sym, ap, ◌∙◌}
use Rattle.std.proofs.lemmas.Nat.{row_fits}
use Rattle.std.proofs.lemmas.List.{get_or_append_left, get_or_read}
use Rattle.std.proofs.lemmas.List.Edits.{get_or-between}
use Rattle.p3_dft.specs.Butterflies.{entry, block_entry, sum_at, difference_at}
use Rattle.p3_dft.proofs.Parts.{block_written, block_before}
use Rattle.p3_dft.proofs.Pairs.{length-block}
use Rattle.p3_dft.proofs.SameBlocks.{same_sum, same_difference}
use Rattle.p3_dft.proofs.Places.{bytes_fit, block_within, starts_within, none_below, less_at_most}
use Rattle.p3_dft.proofs.Places.{two_halves}
use Rattle.p3_dft.proofs.layers.layer.Goals as goal

pub block-requires : goal.block-requires
block-requires g c =
    let size = c.args.half + c.args.half in
    omega (arith, row_fits c.loop-m.m size c.args.blocks size c.loop-m-test.true (omega arith))

pub loop-m-preserved : goal.loop-m-preserved
loop-m-preserved g c =
    let A = g.row.EF.Denot in
    let B = g.row.F.Denot in
    let K = g.EF.Field.ops in
    let lift = g.EF.ExtensionField.lift in
    let i = c.loop-m.m in
    let h = c.args.half in
    let xs = c.args.source.now in
    let ts = c.args.twiddles.now in
    let block = c.block.result.now in
    let here = c.loop-m.invariant in
    let below : i < c.args.blocks = omega arith in
    let room : i * h + h ≤ c.args.blocks * h = row_fits i h c.args.blocks h below (omega arith) in
    let front : length c.loop-m.sums ≡ c.args.blocks * h = omega arith in
    let back : length c.loop-m.differences ≡ c.args.blocks * h = omega arith in
    let count = length-block c.loop-m.sums i h (omega (arith, room, front)) in
    let count_back = length-block c.loop-m.differences i h (omega (arith, room, back)) in
    let made = c.butterflies.ensures in
    let twiddle : (e : B) → lift c.index-twiddles-m.result ≡ lift (entry ts e (i * c.args.stride)) =
    λ e. ap lift (get_or_read ts (i * c.args.stride) c.index-twiddles-m.result (c.requires.twiddles i below) c.index-twiddles-m.is e) in
    let source : (d : A) (j : ℕ) → j < h + h → get_or block j d ≡ block_entry xs (h + h) d i j =
    λ d j l. ap (λ zs. get_or zs j d) c.block.ensures
    ∙ get_or-between xs (i * (h + h)) (i * (h + h) + (h + h)) j d (omega (arith, l)) in
    record {
      sums = λ m j d e. block_written (λ m j d. sum_at K (block_entry xs (h + h) d m) (lift (entry ts e (m * c.args.stride))) h j)
          c.loop-m.sums c.butterflies.new.sums i h _ (omega (arith, room, front)) (c.butterflies.auto.sums ∙ count)
          (λ m j d l q. here.sums m j d e l q)
          (λ j d q. made.sums j d (omega (arith, q, count))
          ∙ same_sum K (entry block d) (block_entry xs (h + h) d i) _ _ (twiddle e) h (source d) _ j count q)
          m j d;
      differences = λ m j d e. block_written (λ m j d. difference_at K (block_entry xs (h + h) d m) (lift (entry ts e (m * c.args.stride))) h j)
          c.loop-m.differences c.butterflies.new.differences i h _ (omega (arith, room, back)) (c.butterflies.auto.differences ∙ count_back)
          (λ m j d l q. here.differences m j d e l q)
          (λ j d q. made.differences j d (omega (arith, q, count))
          ∙ same_difference K (entry block d) (block_entry xs (h + h) d i) _ _ (twiddle e) h (source d) _ j count q)
          m j d;
    }

pub returns-clause-sums : goal.returns-clause-sums
returns-clause-sums g c m j d e l q =
    let sums = c.loop-m.sums in
    let here : m < c.loop-m.m = omega (arith, l) in
    let front : length sums ≡ c.args.blocks * c.args.half = omega arith in
    get_or_append_left sums c.loop-m.differences d (m * c.args.half + j) (omega (arith, front, block_before m c.args.blocks c.args.half j l q))
    ∙ c.loop-m.invariant.sums m j d e here q

pub overflow_mul-to : goal.overflow_mul-to
overflow_mul-to g c =
    omega (arith, row_fits c.loop-m.m c.args.half c.args.blocks c.args.half c.loop-m-test.true (omega arith))

pub overflow_add-to : goal.overflow_add-to
overflow_add-to g c =
    omega (arith, row_fits c.loop-m.m c.args.half c.args.blocks c.args.half c.loop-m-test.true (omega arith))

pub overflow_add-to-in-loop-m : goal.overflow_add-to-in-loop-m
overflow_add-to-in-loop-m g c =
    omega (arith, row_fits c.loop-m.m c.args.half c.args.blocks c.args.half c.loop-m-test.true (omega arith))

pub offset_bounds-sums-to : goal.offset_bounds-sums-to
offset_bounds-sums-to g c =
    bytes_fit _ (length c.loop-m.sums) _
    (omega (arith, row_fits c.loop-m.m c.args.half c.args.blocks c.args.half c.loop-m-test.true (omega arith))) (search rules)

pub offset_bounds-differences-to : goal.offset_bounds-differences-to
offset_bounds-differences-to g c =
    bytes_fit _ (length c.loop-m.differences) _
    (omega (arith, row_fits c.loop-m.m c.args.half c.args.blocks c.args.half c.loop-m-test.true (omega arith))) (search rules)

pub loop-m-init : goal.loop-m-init
loop-m-init g c =
    record { sums = λ m _ _ _ below _. none_below m below; differences = λ m _ _ _ below _. none_below m below }

pub overflow_add-half : goal.overflow_add-half
overflow_add-half g c =
    omega (arith, block_within c.args.source.now c.args.source.now c.loop-m.m c.args.blocks (c.args.half + c.args.half) refl c.requires.source c.loop-m-test.true)

pub overflow_mul-m : goal.overflow_mul-m
overflow_mul-m g c =
    omega (arith, c.requires.twiddles c.loop-m.m c.loop-m-test.true)

pub offset_bounds-twiddles-m : goal.offset_bounds-twiddles-m
offset_bounds-twiddles-m g c =
    less_at_most (c.loop-m.m * c.args.stride) (length c.args.twiddles.now) (c.requires.twiddles c.loop-m.m c.loop-m-test.true)

pub bounds-twiddles-m : goal.bounds-twiddles-m
bounds-twiddles-m g c =
    c.requires.twiddles c.loop-m.m c.loop-m-test.true

pub slice_bounds-butterflies-count : goal.slice_bounds-butterflies-count
slice_bounds-butterflies-count g c =
    starts_within (c.loop-m.m * c.args.half) c.args.half

pub slice_bounds-butterflies-start : goal.slice_bounds-butterflies-start
slice_bounds-butterflies-start g c =
    starts_within (c.loop-m.m * c.args.half) c.args.half

pub slice_bounds-butterflies-end : goal.slice_bounds-butterflies-end
slice_bounds-butterflies-end g c =
    block_within c.loop-m.sums c.loop-m.sums c.loop-m.m c.args.blocks c.args.half refl (omega arith) c.loop-m-test.true

pub slice_bounds-butterflies-count-in-loop-m : goal.slice_bounds-butterflies-count-in-loop-m
slice_bounds-butterflies-count-in-loop-m g c =
    starts_within (c.loop-m.m * c.args.half) c.args.half

pub slice_bounds-butterflies-start-in-loop-m : goal.slice_bounds-butterflies-start-in-loop-m
slice_bounds-butterflies-start-in-loop-m g c =
    starts_within (c.loop-m.m * c.args.half) c.args.half

pub slice_bounds-butterflies-end-in-loop-m : goal.slice_bounds-butterflies-end-in-loop-m
slice_bounds-butterflies-end-in-loop-m g c =
    block_within c.loop-m.differences c.loop-m.differences c.loop-m.m c.args.blocks c.args.half refl (omega arith) c.loop-m-test.true

pub butterflies-requires-clause-block : goal.butterflies-requires-clause-block
butterflies-requires-clause-block g c =
    two_halves (length c.block.result.now) c.args.half _
    (ap length c.block.ensures ∙ length-block c.args.source.now c.loop-m.m (c.args.half + c.args.half) (block_within c.args.source.now c.args.source.now c.loop-m.m c.args.blocks (c.args.half + c.args.half) refl c.requires.source c.loop-m-test.true))
    (length-block c.loop-m.sums c.loop-m.m c.args.half (block_within c.loop-m.sums c.loop-m.sums c.loop-m.m c.args.blocks c.args.half refl (omega arith) c.loop-m-test.true))

pub butterflies-requires-clause-differences : goal.butterflies-requires-clause-differences
butterflies-requires-clause-differences g c =
    length-block c.loop-m.differences c.loop-m.m c.args.half (block_within c.loop-m.differences c.loop-m.differences c.loop-m.m c.args.blocks c.args.half refl (omega arith) c.loop-m-test.true)
    ∙ sym (length-block c.loop-m.sums c.loop-m.m c.args.half (block_within c.loop-m.sums c.loop-m.sums c.loop-m.m c.args.blocks c.args.half refl (omega arith) c.loop-m-test.true))
