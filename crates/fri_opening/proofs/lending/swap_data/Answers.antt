use Rattle.std.proofs.Common.{◌≡◌, ◌<◌, ◌≤◌, ◌+◌, suc, refl, sym, subst, ap₂, ◌∙◌, arith, slice_set, slice_index_or}
use Rattle.p3_pcs.specs.Requests.{with_data}
use Rattle.fri_opening.proofs.Swaps.{taken_since, lent_since, taken_step, lent_step, taken_end, lent_end, below_both, one_ends, either_way}
use Rattle.fri_opening.proofs.lending.swap_data.Goals as goal

pub loop-index-init : goal.loop-index-init
loop-index-init g c = (refl, refl)

pub loop-index-preserved : goal.loop-index-preserved
loop-index-preserved g c =
    let i = c.loop-index.index in
    let both = below_both i _ _ (subst (λ n. i < n) c.min-count.ensures c.loop-index-test.true) in
    let below = subst (λ n. i < n) (sym c.loop-index.auto.requests) both.1 in
    let under = subst (λ n. i < n) (sym c.loop-index.auto.all) both.0 in
    let next : i + 1 ≡ suc i = omega (arith) in
    let rs = c.loop-index.requests in
    let cs = c.loop-index.all in
    let r = c.index-requests-index.result in
    let k = c.index-all-index.result in
    let new = with_data (λ _. c.swap.new.y) (slice_index_or rs i r) in (
      ap₂ (λ n x. taken_since n (slice_set rs i new) (slice_set cs i (record (slice_index_or cs i k) { «data» = x })))
          next c.swap.ensures.x_after
          ∙ taken_step i rs cs r new k below under ∙ c.loop-index.invariant.0,
      ap₂ (λ n x. lent_since n (slice_set rs i (with_data (λ _. x) (slice_index_or rs i r)))
          (slice_set cs i (record (slice_index_or cs i k) { «data» = c.swap.new.x })))
          next c.swap.ensures.y_after
          ∙ lent_step i rs cs r k _ below under ∙ c.loop-index.invariant.1,
    )

pub returns-clause-taken : goal.returns-clause-taken
returns-clause-taken g c =
    sym (taken_end c.loop-index.index c.loop-index.requests c.loop-index.all
    (either_way _ _ _ _ _ c.loop-index.auto.requests c.loop-index.auto.all
    (one_ends c.loop-index.index _ _ (subst (λ n. n ≤ c.loop-index.index) c.min-count.ensures c.loop-index-test.false))))
    ∙ c.loop-index.invariant.0

pub returns-clause-lent : goal.returns-clause-lent
returns-clause-lent g c =
    sym (lent_end c.loop-index.index c.loop-index.requests c.loop-index.all
    (either_way _ _ _ _ _ c.loop-index.auto.requests c.loop-index.auto.all
    (one_ends c.loop-index.index _ _ (subst (λ n. n ≤ c.loop-index.index) c.min-count.ensures c.loop-index-test.false))))
    ∙ c.loop-index.invariant.1
