use Rattle.std.proofs.Common.{◌≡◌, ◌<◌, ◌+◌, ◌∙◌, ℕ, length, map, get_or, subst, sym, ap, arith}
use Rattle.std.proofs.Common.{All, inl, inr, IsTrue}
use Rattle.std.proofs.lemmas.Bool.{cases_Bool, true≢false}
use Rattle.p3_fri_relation.specs.Setting.{Fields}
use Rattle.p3_fri_relation.specs.Heights.{matrices_of, heights_of}
use Rattle.p3_fri_relation.specs.Inputs.{sum_at}
use Rattle.p3_fri_relation.specs.QuotientSums.{point_read}
use Rattle.p3_fri_relation.specs.Views.{claims_of, inputs_opened}
use Rattle.p3_fri_inputs.specs.Claims.{distances}
use Rattle.p3_fri_inputs.proofs.Queries.{map_agree, has_below, heights_within}
use Rattle.p3_fri_inputs.proofs.inputs.query_openings.Given.{Over}
use Rattle.p3_fri_inputs.proofs.inputs.query_openings.Goals.{After-has_height-has_constants}
use Rattle.p3_fri_inputs.proofs.inputs.query_openings.Goals.{In_ok-sums}
use Rattle.p3_fri_inputs.proofs.inputs.query_openings.Goals as goal

abbrev fields_of : (g : Over) → Fields g.row.F.Denot g.row.EF.Denot
fields_of g = record {
  base = g.F.Field.ops;
  ext = g.EF.Field.ops;
  lift = g.EF.ExtensionField.lift;
  coefficients = g.EF.ExtensionField.coefficients;
  degree = g.EF.ExtensionField.DIMENSION;
  root = g.F.TwoAdicField.root;
  two_adicity = g.F.TwoAdicField.TWO_ADICITY;
  shift = g.F.Field.GENERATOR;
}

-- where some matrix has constants, there is a sum of their log height
constants_within : (g : Over) (c : After-has_height-has_constants g)
    → IsTrue c.has_height-has_constants.result
    → c.args.setting.now.log_blowup < c.args.setting.now.log_global_max_height + 1
constants_within g c has =
    let s = c.args.setting.now in
    has_below s.log_blowup
    (matrices_of (claims_of (λ domain. domain.log_size) s.claims.now))
    (s.log_global_max_height + 1) s.log_blowup
    (λ k m l. (c.requires.readable k m l).height) (sym c.has_height-has_constants.ensures ∙ has)

-- the sum of each log height
sum_is : (g : Over) (c : In_ok-sums g) (position h : ℕ)
    → c.args.inverses.now ≡ map g.EF.Field.ops.inv
    (distances g.EF.Field.ops c.args.setting.now.log_blowup
    (point_read (fields_of g) c.args.setting.now.log_global_max_height position)
    (matrices_of (claims_of (λ domain. domain.log_size) c.args.setting.now.claims.now)))
    → h < c.args.setting.now.log_global_max_height + 1
    → get_or c.in_ok-sums.sums.items h g.EF.Field.ops.zero
    ≡ sum_at (fields_of g) c.args.setting.now.log_blowup c.args.ladder.now.alpha
    c.args.setting.now.log_global_max_height
    (claims_of (λ domain. domain.log_size) c.args.setting.now.claims.now)
    (inputs_opened c.args.setting.now.openings.now)
    c.args.query position h
sum_is g c position h inverses l =
    c.in_ok-sums.ensures.sums
    (point_read (fields_of g) c.args.setting.now.log_global_max_height position)
    inverses h g.EF.Field.ops.zero (omega (arith, l))

listed_within : (g : Over) (c : In_ok-sums g)
    → All (λ h. h < c.args.setting.now.log_global_max_height + 1)
    (heights_of c.args.setting.now.log_blowup
    (matrices_of (claims_of (λ domain. domain.log_size) c.args.setting.now.claims.now)))
listed_within g c =
    let s = c.args.setting.now in
    heights_within s.log_blowup
    (matrices_of (claims_of (λ domain. domain.log_size) s.claims.now))
    s.log_global_max_height
    (λ k m l. omega (arith, (c.requires.readable k m l).height))

pub is_constant_zero-requires : goal.is_constant_zero-requires
is_constant_zero-requires g c = record {
  within = λ has.
      let within = constants_within g
      (goal.at.is_constant_zero-requires g c).After-has_height-has_constants has in
      omega (arith, within, c.in_ok-sums.ensures.count, c.deref.ensures.len);
}

pub returns-then-not-is_constant_zero : goal.returns-then-not-is_constant_zero
returns-then-not-is_constant_zero g c position inverses =
    let at = goal.at.returns-then-not-is_constant_zero g c in
    let b = c.args.setting.now.log_blowup in
    let zero = g.EF.Field.ops.zero in
    let refuse : (IsTrue c.has_height-has_constants.result
    → get_or c.deref.result.now b zero ≡ zero) → ⊥ =
    λ h. true≢false (sym (c.is_constant_zero.ensures.1 h) ∙ c.if-not-is_constant_zero.true) in
    elim (cases_Bool c.has_height-has_constants.result) [
      | inl t ↦ (
        sym c.has_height-has_constants.ensures ∙ t,
        λ z. refuse (λ has. ap (λ xs. get_or xs b zero) c.deref.ensures.value
            ∙ sum_is g at.In_ok-sums position b inverses
            (constants_within g at.After-has_height-has_constants has) ∙ z),
      )
      | inr n ↦ absurd (refuse (λ t. absurd (true≢false (sym t ∙ n))))
    ]

pub list_sums-requires : goal.list_sums-requires
list_sums-requires g c =
    let s = c.args.setting.now in
    let sums = c.deref-2.result.now in
    let count : s.log_global_max_height + 1 ≡ length sums =
    omega (arith, c.in_ok-sums.ensures.count, c.deref-2.ensures.len) in
    record {
      within = subst (All (λ h. h < length sums)) (sym c.requires.heights)
          (subst (λ n. All (λ h. h < n) (heights_of s.log_blowup
          (matrices_of (claims_of (λ domain. domain.log_size) s.claims.now)))) count
          (listed_within g (goal.at.list_sums-requires g c).In_ok-sums));
    }

pub returns : goal.returns
returns g c position inverses =
    let s = c.args.setting.now in
    let at = goal.at.returns g c in
    let b = s.log_blowup in
    let zero = g.EF.Field.ops.zero in
    let cs = claims_of (λ domain. domain.log_size) s.claims.now in
    let heights = heights_of b (matrices_of cs) in
    let pair = λ (h : ℕ) (s : g.row.EF.Denot). (let p : ℕ × g.row.EF.Denot = (h, s) in p) in
    let made = λ (h : ℕ). pair h (get_or c.deref-2.result.now h zero) in
    let sum = λ (h : ℕ). sum_at (fields_of g) b c.args.ladder.now.alpha
    s.log_global_max_height cs (inputs_opened s.openings.now) c.args.query position h in (
      c.in_ok-list_sums.ensures ∙ ap (λ hs. map made hs) c.requires.heights
          ∙ map_agree made (λ h. pair h (sum h)) heights
          (λ k d l. let h = get_or heights k d in
          ap (pair h) (ap (λ xs. get_or xs h zero) c.deref-2.ensures.value
          ∙ sum_is g at.In_ok-sums position h inverses (listed_within g at.In_ok-sums k d l))),
      λ has. let truth = c.has_height-has_constants.ensures ∙ has in
          sym (ap (λ xs. get_or xs b zero) c.deref.ensures.value
          ∙ sum_is g at.In_ok-sums position b inverses
          (constants_within g at.After-has_height-has_constants truth))
          ∙ c.is_constant_zero.ensures.0 c.if-not-is_constant_zero.false truth,
    )
