use Rattle.std.proofs.Common.{◌≡◌, ◌++◌, ◌∷◌, ◌+◌, ◌<◌, ◌∙◌, ℕ, [], length, get_or, subst, sym, ap}
use Rattle.std.proofs.Common.{ap₂, arith, IsTrue, below_more}
use Rattle.std.proofs.lemmas.List.{length-map, map-append}
use Rattle.algebra.specs.Nested.{lists}
use Rattle.algebra.specs.Polynomial.{tabulate}
use Rattle.algebra.proofs.Lists.{tabulate-next}
use Rattle.p3_fri_relation.specs.Setting.{Fields}
use Rattle.p3_fri_relation.specs.Heights.{matrices_of, has_height}
use Rattle.p3_fri_relation.specs.Inputs.{sum_at, sums_at}
use Rattle.p3_fri_relation.specs.QuotientSums.{point_read}
use Rattle.p3_fri_relation.specs.Views.{claims_of, inputs_opened}
use Rattle.p3_fri_inputs.specs.Claims.{distances}
use Rattle.p3_fri_inputs.proofs.Places.{of_some, of_none}
use Rattle.p3_fri_inputs.proofs.Queries.{distances_count}
use Rattle.p3_fri_inputs.proofs.Shares.{ShareAt, own_inverses}
use Rattle.p3_fri_inputs.proofs.inputs.openings_by_query.Given.{Over}
use Rattle.p3_fri_inputs.proofs.inputs.openings_by_query.Goals.{In-loop-j}
use Rattle.p3_fri_inputs.proofs.inputs.openings_by_query.Goals as goal

abbrev fields_of : (g : Over) → Fields g.row.F.Denot g.row.EF.Denot
fields_of g = record {
  base = g.F.Field.ops;
  ext = g.EF.Field.ops;
  lift = g.EF.ExtensionField.lift;
  coefficients = g.EF.ExtensionField.coefficients;
  degree = g.EF.ExtensionField.DIMENSION;
  root = g.F.TwoAdicField.root;
  two_adicity = g.F.TwoAdicField.TWO_ADICITY;
  shift = g.F.Field.GENERATOR;
}

-- the loop's query has its share of all inverses, which ends there
abbrev EndsAt : (g : Over) (c : In-loop-j g) (end : ℕ) → Type 0
EndsAt g c end =
    let s = c.args.setting.now in
    let ms = matrices_of (claims_of (λ domain. domain.log_size) s.claims.now) in
    ShareAt (λ q. distances g.EF.Field.ops s.log_blowup
    (point_read (fields_of g) s.log_global_max_height q) ms) g.EF.Field.ops.inv
    c.args.inverses.now s.indices.now c.loop-j.j (get_or s.indices.now c.loop-j.j 0)
    c.loop-j.start end

own : (g : Over) (c : In-loop-j g) → EndsAt g c (c.loop-j.start + c.inverses_per_index-count.result)
own g c =
    let s = c.args.setting.now in
    let ms = matrices_of (claims_of (λ domain. domain.log_size) s.claims.now) in
    subst (λ count. EndsAt g c (c.loop-j.start + count))
    (sym (c.inverses_per_index-count.ensures (omega arith)))
    (own_inverses g.EF.Field.ops s.log_blowup c.args.ladder.now.alpha
    (point_read (fields_of g) s.log_global_max_height) ms c.args.inverses.now
    s.indices.now c.loop-j.j c.loop-j.start c.requires.inverses (omega arith)
    c.loop-j.invariant.start)

pub overflow_add-end : goal.overflow_add-end
overflow_add-end g c =
    let share = own g c in
    omega (arith, share.within)

pub offset_bounds-inverses-start : goal.offset_bounds-inverses-start
offset_bounds-inverses-start g c =
    let share = own g (goal.at.offset_bounds-inverses-start g c).In-loop-j in
    omega (arith, share.within)

pub slice_bounds-query_openings-end : goal.slice_bounds-query_openings-end
slice_bounds-query_openings-end g c =
    let share = own g (goal.at.slice_bounds-query_openings-end g c).In-loop-j in
    omega (arith, share.within)

pub query_openings-requires-clause-inverses : goal.query_openings-requires-clause-inverses
query_openings-requires-clause-inverses g c =
    let s = c.args.setting.now in
    let K = g.EF.Field.ops in
    let ms = matrices_of (claims_of (λ domain. domain.log_size) s.claims.now) in
    let read = point_read (fields_of g) s.log_global_max_height
    (get_or s.indices.now c.loop-j.j 0) in
    let share = own g (goal.at.query_openings-requires-clause-inverses g c).In-loop-j in
    ap length share.part ∙ length-map (distances K s.log_blowup read ms) K.inv
    ∙ distances_count s.log_blowup K c.args.ladder.now.alpha read ms

pub returns-in_default : goal.returns-in_default
returns-in_default g c =
    let s = c.args.setting.now in
    let cs = claims_of (λ domain. domain.log_size) s.claims.now in
    let b = s.log_blowup in
    let q = get_or s.indices.now c.loop-j.j 0 in
    let below : c.loop-j.j < length s.indices.now = c.loop-j-test.true in
    let share = own g (goal.at.returns-in_default g c).In-loop-j in
    let known = of_none c.in_ok-found.found _ _ c.in_default.is
    (c.in_ok-found.ensures q share.part) in
    (known.0, (c.loop-j.j, below, known.1))

pub loop-j-preserved : goal.loop-j-preserved
loop-j-preserved g c =
    let s = c.args.setting.now in
    let f = fields_of g in
    let cs = claims_of (λ domain. domain.log_size) s.claims.now in
    let inputs = inputs_opened s.openings.now in
    let b = s.log_blowup in
    let top = s.log_global_max_height in
    let indices = s.indices.now in
    let j = c.loop-j.j in
    let q = get_or indices j 0 in
    let share = own g (goal.at.loop-j-preserved g c).In-loop-j in
    let answer = c.in-Some.answer in
    let known = of_some c.in_ok-found.found answer _ _ c.in-Some.is
    (c.in_ok-found.ensures q share.part) in
    record {
      start = share.next;
      answers = ap lists c.in_ok-push.ensures.items
          ∙ map-append (λ v. v.items) c.loop-j.answers.items (answer ∷ [])
          ∙ ap₂ (λ xs v. xs ++ v ∷ []) c.loop-j.invariant.answers known.0
          ∙ sym (tabulate-next j
          (λ i. sums_at f b c.args.ladder.now.alpha top cs inputs i (get_or indices i 0)));
      constants = below_more (λ i. IsTrue (has_height b (matrices_of cs) b)
          → sum_at f b c.args.ladder.now.alpha top cs inputs i (get_or indices i 0) b ≡ g.EF.Field.ops.zero) j
          c.loop-j.invariant.constants known.1;
    }

pub returns : goal.returns
returns g c =
    let s = c.args.setting.now in
    let cs = claims_of (λ domain. domain.log_size) s.claims.now in
    let answer_at = λ (i : ℕ). sums_at (fields_of g) s.log_blowup c.args.ladder.now.alpha
    s.log_global_max_height cs (inputs_opened s.openings.now) i
    (get_or s.indices.now i 0) in
    let last : c.loop-j.j ≡ length s.indices.now = omega arith in (
      c.loop-j.invariant.answers ∙ ap (λ k. tabulate k answer_at) last,
      λ i l. c.loop-j.invariant.constants i (omega (arith, l, last)),
    )
