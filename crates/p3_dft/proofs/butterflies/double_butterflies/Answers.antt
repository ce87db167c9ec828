-- Each entry is the sum or the difference that the second layer makes of those of the first.
use Rattle.std.proofs.Common.{rules, ◌≡◌, ◌<◌, ◌+◌, length, get_or, arith, subst, sym, ap₂, ◌∙◌}
use Rattle.std.proofs.lemmas.List.{get_or_read}
use Rattle.algebra.specs.Field.{sub}
use Rattle.p3_dft.specs.Butterflies.{entry, sum_at, difference_at, sum_of_sums, difference_of_sums}
use Rattle.p3_dft.specs.Butterflies.{sum_of_differences, difference_of_differences}
use Rattle.p3_dft.proofs.Parts.{entry_written}
use Rattle.p3_dft.proofs.Places.{before_end, bytes_fit, none_below, less_at_most, in_first, in_second, in_third, in_fourth}
use Rattle.p3_dft.proofs.butterflies.double_butterflies.Goals as goal

pub loop-j-preserved : goal.loop-j-preserved
loop-j-preserved g c =
    let A = g.row.EF.Denot in
    let K = g.EF.Field.ops in
    let laws = g.met.EF.Field in
    let lift = g.EF.ExtensionField.lift in
    let t = lift c.args.twiddles.twiddle in
    let u = lift c.args.twiddles.even in
    let v = lift c.args.twiddles.odd in
    let xs = c.args.block.now in
    let q = length c.args.first.now in
    let j = c.loop-j.j in
    let here = c.loop-j.invariant in
    let low : (d : A) → c.index-block-j-in-loop-j-2.result ≡ get_or xs j d = λ d. get_or_read xs j c.index-block-j-in-loop-j-2.result (omega arith) c.index-block-j-in-loop-j-2.is d in
    let low_again : (d : A) → c.index-block-j-in-loop-j-3.result ≡ get_or xs j d = λ d. get_or_read xs j c.index-block-j-in-loop-j-3.result (omega arith) c.index-block-j-in-loop-j-3.is d in
    let high : (d : A) → c.index-block-j-in-loop-j-4.result ≡ get_or xs (j + q) d = λ d. get_or_read xs (j + q) c.index-block-j-in-loop-j-4.result (omega arith) c.index-block-j-in-loop-j-4.is d in
    let high_again : (d : A) → c.index-block-j-in-loop-j-5.result ≡ get_or xs (j + q) d = λ d. get_or_read xs (j + q) c.index-block-j-in-loop-j-5.result (omega arith) c.index-block-j-in-loop-j-5.is d in
    let product : (d : A) → c.scale_prepared-product.result ≡ K.mul (get_or xs (j + (q + q)) d) t = λ d.
    c.scale_prepared-product.ensures ∙ ap₂ (λ a b. K.mul a (lift b)) (get_or_read xs (j + (q + q)) c.index-block-j.result (omega arith) c.index-block-j.is d) c.prepare-twiddle.ensures in
    let next_product : (d : A) → c.scale_prepared-next_product.result ≡ K.mul (get_or xs (j + q + (q + q)) d) t = λ d.
    c.scale_prepared-next_product.ensures ∙ ap₂ (λ a b. K.mul a (lift b)) (get_or_read xs (j + q + (q + q)) c.index-block-j-in-loop-j.result (omega arith) c.index-block-j-in-loop-j.is d) c.prepare-twiddle.ensures in
    let sum : (d : A) → c.add-sum.result ≡ sum_at K (entry xs d) t (q + q) j = λ d.
    laws.add_law _ _ c.add-sum.result c.add-sum.ensures ∙ ap₂ (λ a b. K.add a b) (low d) (product d) in
    let difference : (d : A) → c.sub-difference.result ≡ difference_at K (entry xs d) t (q + q) j = λ d.
    laws.sub_law _ _ c.sub-difference.result c.sub-difference.ensures ∙ ap₂ (λ a b. sub K a b) (low_again d) (product d) in
    let next_sum : (d : A) → c.add.result ≡ sum_at K (entry xs d) t (q + q) (j + q) = λ d.
    laws.add_law _ _ c.add.result c.add.ensures ∙ ap₂ (λ a b. K.add a b) (high d) (next_product d) in
    let next_difference : (d : A) → c.sub.result ≡ difference_at K (entry xs d) t (q + q) (j + q) = λ d.
    laws.sub_law _ _ c.sub.result c.sub.ensures ∙ ap₂ (λ a b. sub K a b) (high_again d) (next_product d) in
    let even : (d : A) → c.scale_prepared-even_product.result ≡ K.mul (sum_at K (entry xs d) t (q + q) (j + q)) u = λ d.
    c.scale_prepared-even_product.ensures ∙ ap₂ (λ a b. K.mul a (lift b)) (next_sum d) c.prepare-even.ensures in
    let odd : (d : A) → c.scale_prepared-odd_product.result ≡ K.mul (difference_at K (entry xs d) t (q + q) (j + q)) v = λ d.
    c.scale_prepared-odd_product.ensures ∙ ap₂ (λ a b. K.mul a (lift b)) (next_difference d) c.prepare-odd.ensures in
    record {
      first = entry_written (λ j d. sum_of_sums K (entry xs d) t u q j) c.loop-j.first j c.add-in-loop-j.result (omega arith) here.first
          (λ d. laws.add_law _ _ c.add-in-loop-j.result c.add-in-loop-j.ensures ∙ ap₂ (λ a b. K.add a b) (sum d) (even d));
      second = entry_written (λ j d. sum_of_differences K (entry xs d) t v q j) c.loop-j.second j c.add-in-loop-j-2.result (omega arith) here.second
          (λ d. laws.add_law _ _ c.add-in-loop-j-2.result c.add-in-loop-j-2.ensures ∙ ap₂ (λ a b. K.add a b) (difference d) (odd d));
      third = entry_written (λ j d. difference_of_sums K (entry xs d) t u q j) c.loop-j.third j c.sub-in-loop-j.result (omega arith) here.third
          (λ d. laws.sub_law _ _ c.sub-in-loop-j.result c.sub-in-loop-j.ensures ∙ ap₂ (λ a b. sub K a b) (sum d) (even d));
      fourth = entry_written (λ j d. difference_of_differences K (entry xs d) t v q j) c.loop-j.fourth j c.sub-in-loop-j-2.result (omega arith) here.fourth
          (λ d. laws.sub_law _ _ c.sub-in-loop-j-2.result c.sub-in-loop-j-2.ensures ∙ ap₂ (λ a b. sub K a b) (difference d) (odd d));
    }

pub loop-j-init : goal.loop-j-init
loop-j-init g c =
    record { first = λ j _ below. none_below j below; second = λ j _ below. none_below j below; third = λ j _ below. none_below j below; fourth = λ j _ below. none_below j below }

pub offset_bounds-block-j : goal.offset_bounds-block-j
offset_bounds-block-j g c =
    less_at_most (c.loop-j.j + (length c.args.first.now + length c.args.first.now)) (length c.args.block.now) (in_third (length c.args.block.now) (length c.args.first.now) c.requires.block c.loop-j.j c.loop-j-test.true)

pub bounds-block-j : goal.bounds-block-j
bounds-block-j g c =
    in_third (length c.args.block.now) (length c.args.first.now) c.requires.block c.loop-j.j c.loop-j-test.true

pub offset_bounds-block-j-in-loop-j : goal.offset_bounds-block-j-in-loop-j
offset_bounds-block-j-in-loop-j g c =
    less_at_most (c.loop-j.j + length c.args.first.now + (length c.args.first.now + length c.args.first.now)) (length c.args.block.now) (in_fourth (length c.args.block.now) (length c.args.first.now) c.requires.block c.loop-j.j c.loop-j-test.true)

pub bounds-block-j-in-loop-j : goal.bounds-block-j-in-loop-j
bounds-block-j-in-loop-j g c =
    in_fourth (length c.args.block.now) (length c.args.first.now) c.requires.block c.loop-j.j c.loop-j-test.true

pub offset_bounds-block-j-in-loop-j-2 : goal.offset_bounds-block-j-in-loop-j-2
offset_bounds-block-j-in-loop-j-2 g c =
    less_at_most c.loop-j.j (length c.args.block.now) (in_first (length c.args.block.now) (length c.args.first.now) c.requires.block c.loop-j.j c.loop-j-test.true)

pub bounds-block-j-in-loop-j-2 : goal.bounds-block-j-in-loop-j-2
bounds-block-j-in-loop-j-2 g c =
    in_first (length c.args.block.now) (length c.args.first.now) c.requires.block c.loop-j.j c.loop-j-test.true

pub offset_bounds-block-j-in-loop-j-3 : goal.offset_bounds-block-j-in-loop-j-3
offset_bounds-block-j-in-loop-j-3 g c =
    less_at_most c.loop-j.j (length c.args.block.now) (in_first (length c.args.block.now) (length c.args.first.now) c.requires.block c.loop-j.j c.loop-j-test.true)

pub bounds-block-j-in-loop-j-3 : goal.bounds-block-j-in-loop-j-3
bounds-block-j-in-loop-j-3 g c =
    in_first (length c.args.block.now) (length c.args.first.now) c.requires.block c.loop-j.j c.loop-j-test.true

pub offset_bounds-block-j-in-loop-j-4 : goal.offset_bounds-block-j-in-loop-j-4
offset_bounds-block-j-in-loop-j-4 g c =
    less_at_most (c.loop-j.j + length c.args.first.now) (length c.args.block.now) (in_second (length c.args.block.now) (length c.args.first.now) c.requires.block c.loop-j.j c.loop-j-test.true)

pub bounds-block-j-in-loop-j-4 : goal.bounds-block-j-in-loop-j-4
bounds-block-j-in-loop-j-4 g c =
    in_second (length c.args.block.now) (length c.args.first.now) c.requires.block c.loop-j.j c.loop-j-test.true

pub offset_bounds-block-j-in-loop-j-5 : goal.offset_bounds-block-j-in-loop-j-5
offset_bounds-block-j-in-loop-j-5 g c =
    less_at_most (c.loop-j.j + length c.args.first.now) (length c.args.block.now) (in_second (length c.args.block.now) (length c.args.first.now) c.requires.block c.loop-j.j c.loop-j-test.true)

pub bounds-block-j-in-loop-j-5 : goal.bounds-block-j-in-loop-j-5
bounds-block-j-in-loop-j-5 g c =
    in_second (length c.args.block.now) (length c.args.first.now) c.requires.block c.loop-j.j c.loop-j-test.true

pub overflow_add-j : goal.overflow_add-j
overflow_add-j g c =
    omega (arith, in_third (length c.args.block.now) (length c.args.first.now) c.requires.block c.loop-j.j c.loop-j-test.true)

pub overflow_add-j-in-loop-j : goal.overflow_add-j-in-loop-j
overflow_add-j-in-loop-j g c =
    omega (arith, in_second (length c.args.block.now) (length c.args.first.now) c.requires.block c.loop-j.j c.loop-j-test.true)

pub overflow_add-j-in-loop-j-2 : goal.overflow_add-j-in-loop-j-2
overflow_add-j-in-loop-j-2 g c =
    omega (arith, in_fourth (length c.args.block.now) (length c.args.first.now) c.requires.block c.loop-j.j c.loop-j-test.true)

pub overflow_add-j-in-loop-j-3 : goal.overflow_add-j-in-loop-j-3
overflow_add-j-in-loop-j-3 g c =
    omega (arith, in_second (length c.args.block.now) (length c.args.first.now) c.requires.block c.loop-j.j c.loop-j-test.true)

pub overflow_add-j-in-loop-j-4 : goal.overflow_add-j-in-loop-j-4
overflow_add-j-in-loop-j-4 g c =
    omega (arith, in_second (length c.args.block.now) (length c.args.first.now) c.requires.block c.loop-j.j c.loop-j-test.true)

pub overflow_add-half : goal.overflow_add-half
overflow_add-half g c =
    omega (arith, c.requires.block)

pub bounds-first-j : goal.bounds-first-j
bounds-first-j g c =
    subst (λ n. c.loop-j.j < n) (sym (c.loop-j.auto.first)) c.loop-j-test.true

pub offset_bounds-first-j : goal.offset_bounds-first-j
offset_bounds-first-j g c =
    bytes_fit c.loop-j.j (length c.loop-j.first) _ (less_at_most c.loop-j.j (length c.loop-j.first) (subst (λ n. c.loop-j.j < n) (sym (c.loop-j.auto.first)) c.loop-j-test.true)) (search rules)

pub bounds-second-j : goal.bounds-second-j
bounds-second-j g c =
    subst (λ n. c.loop-j.j < n) (sym (c.loop-j.auto.second ∙ c.requires.second)) c.loop-j-test.true

pub offset_bounds-second-j : goal.offset_bounds-second-j
offset_bounds-second-j g c =
    bytes_fit c.loop-j.j (length c.loop-j.second) _ (less_at_most c.loop-j.j (length c.loop-j.second) (subst (λ n. c.loop-j.j < n) (sym (c.loop-j.auto.second ∙ c.requires.second)) c.loop-j-test.true)) (search rules)

pub bounds-third-j : goal.bounds-third-j
bounds-third-j g c =
    subst (λ n. c.loop-j.j < n) (sym (c.loop-j.auto.third ∙ c.requires.third)) c.loop-j-test.true

pub offset_bounds-third-j : goal.offset_bounds-third-j
offset_bounds-third-j g c =
    bytes_fit c.loop-j.j (length c.loop-j.third) _ (less_at_most c.loop-j.j (length c.loop-j.third) (subst (λ n. c.loop-j.j < n) (sym (c.loop-j.auto.third ∙ c.requires.third)) c.loop-j-test.true)) (search rules)

pub bounds-fourth-j : goal.bounds-fourth-j
bounds-fourth-j g c =
    subst (λ n. c.loop-j.j < n) (sym (c.loop-j.auto.fourth ∙ c.requires.fourth)) c.loop-j-test.true

pub offset_bounds-fourth-j : goal.offset_bounds-fourth-j
offset_bounds-fourth-j g c =
    bytes_fit c.loop-j.j (length c.loop-j.fourth) _ (less_at_most c.loop-j.j (length c.loop-j.fourth) (subst (λ n. c.loop-j.j < n) (sym (c.loop-j.auto.fourth ∙ c.requires.fourth)) c.loop-j-test.true)) (search rules)

pub prepare-twiddle-requires : goal.prepare-twiddle-requires
prepare-twiddle-requires g c =
    λ _ h. h

pub prepare-even-requires : goal.prepare-even-requires
prepare-even-requires g c =
    λ _ h. h

pub prepare-odd-requires : goal.prepare-odd-requires
prepare-odd-requires g c =
    λ _ h. h

pub scale_prepared-product-requires : goal.scale_prepared-product-requires
scale_prepared-product-requires g c =
    λ _ h. h

pub scale_prepared-next_product-requires : goal.scale_prepared-next_product-requires
scale_prepared-next_product-requires g c =
    λ _ h. h

pub scale_prepared-even_product-requires : goal.scale_prepared-even_product-requires
scale_prepared-even_product-requires g c =
    λ _ h. h

pub scale_prepared-odd_product-requires : goal.scale_prepared-odd_product-requires
scale_prepared-odd_product-requires g c =
    λ _ h. h

pub add-sum-requires : goal.add-sum-requires
add-sum-requires g c =
    g.met.EF.Field.can_add_law c.index-block-j-in-loop-j-2.result c.scale_prepared-product.result

pub sub-difference-requires : goal.sub-difference-requires
sub-difference-requires g c =
    g.met.EF.Field.can_sub_law c.index-block-j-in-loop-j-3.result c.scale_prepared-product.result

pub add-requires : goal.add-requires
add-requires g c =
    g.met.EF.Field.can_add_law c.index-block-j-in-loop-j-4.result c.scale_prepared-next_product.result

pub sub-requires : goal.sub-requires
sub-requires g c =
    g.met.EF.Field.can_sub_law c.index-block-j-in-loop-j-5.result c.scale_prepared-next_product.result

pub add-requires-in-loop-j : goal.add-requires-in-loop-j
add-requires-in-loop-j g c =
    g.met.EF.Field.can_add_law c.add-sum.result c.scale_prepared-even_product.result

pub add-requires-in-loop-j-2 : goal.add-requires-in-loop-j-2
add-requires-in-loop-j-2 g c =
    g.met.EF.Field.can_add_law c.sub-difference.result c.scale_prepared-odd_product.result

pub sub-requires-in-loop-j : goal.sub-requires-in-loop-j
sub-requires-in-loop-j g c =
    g.met.EF.Field.can_sub_law c.add-sum.result c.scale_prepared-even_product.result

pub sub-requires-in-loop-j-2 : goal.sub-requires-in-loop-j-2
sub-requires-in-loop-j-2 g c =
    g.met.EF.Field.can_sub_law c.sub-difference.result c.scale_prepared-odd_product.result

pub returns-clause-first : goal.returns-clause-first
returns-clause-first g c j d below =
    c.loop-j.invariant.first j d (before_end j (length c.args.first.now) c.loop-j.j below c.loop-j-test.false)

pub returns-clause-second : goal.returns-clause-second
returns-clause-second g c j d below =
    c.loop-j.invariant.second j d (before_end j (length c.args.first.now) c.loop-j.j below c.loop-j-test.false)

pub returns-clause-third : goal.returns-clause-third
returns-clause-third g c j d below =
    c.loop-j.invariant.third j d (before_end j (length c.args.first.now) c.loop-j.j below c.loop-j-test.false)

pub returns-clause-fourth : goal.returns-clause-fourth
returns-clause-fourth g c j d below =
    c.loop-j.invariant.fourth j d (before_end j (length c.args.first.now) c.loop-j.j below c.loop-j-test.false)
