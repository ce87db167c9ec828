use Rattle.std.proofs.Common.{◌≡◌, ℕ, ◌-◌, ◌<◌, ◌≤◌, [], drop, length, All, get_or, subst, sym, ap}
use Rattle.std.proofs.Common.{◌∙◌, arith, rules}
use Rattle.std.proofs.lemmas.List.{length-map}
use Rattle.std.proofs.lemmas.List.Edits.{length-between}
use Rattle.algebra.specs.Polynomial.{val}
use Rattle.p3_fri_relation.specs.Inputs.{rows_at}
use Rattle.p3_fri_relation.specs.Views.{claims_of, inputs_opened}
use Rattle.p3_fri_inputs.specs.Claims.{claim_of, input_of, IsReadable, HasRowsAt}
use Rattle.p3_fri_inputs.proofs.Places.{length-mapped_twice, mapped_twice_is}
use Rattle.p3_fri_inputs.proofs.Openings.{all_terms, values_under, all_of_claim}
use Rattle.p3_fri_inputs.proofs.Openings.{all_zip_mapped_counts, all_zip_mapped_at}
use Rattle.p3_fri_inputs.proofs.Openings.{held_counts, held_at, none_summed, own_within}
use Rattle.p3_fri_inputs.proofs.Openings.{opening_next}
use Rattle.p3_fri_inputs.proofs.sums.add_openings.Given.{Over}
use Rattle.p3_fri_inputs.proofs.sums.add_openings.Goals.{In-loop-i, After-as_slice-own}
use Rattle.algebra.proofs.Lists.{entry_of_map}
use Rattle.p3_fri_inputs.proofs.sums.add_openings.Goals as goal

opening_there : (g : Over) (c : In-loop-i g)
    → c.loop-i.i - 1 < length c.args.setting.now.openings.now
opening_there g c =
    let s = c.args.setting.now in
    omega (
      arith,
      all_zip_mapped_counts (HasRowsAt s.log_blowup c.args.query)
          (claim_of (λ domain. domain.log_size)) input_of s.claims.now s.openings.now
          c.requires.rows,
    )

-- the turn's combined values are those under its claim
own_claimed : (g : Over) (c : After-as_slice-own g) → c.as_slice-own.result.now
    ≡ values_under g.EF.Field.ops g.EF.ExtensionField.lift c.args.setting.now.log_blowup
    c.args.ladder.now.alpha (claim_of (λ domain. domain.log_size) c.index-claims-i.result)
own_claimed g c =
    let s = c.args.setting.now in
    c.as_slice-own.ensures.value
    ∙ held_at (claim_of (λ domain. domain.log_size))
    (values_under g.EF.Field.ops g.EF.ExtensionField.lift s.log_blowup c.args.ladder.now.alpha)
    s.claims.now c.args.claimed.now c.requires.claimed (c.loop-i.i - 1) (omega arith)
    c.index-claims-i.is c.index-claimed-i.is

-- the turn's inverses end at `end`, and lie within all
within : (g : Over) (c : After-as_slice-own g)
    → (length c.as_slice-own.result.now ≤ c.loop-i.end)
    × (c.loop-i.end ≤ length c.args.inverses.now)
within g c =
    let s = c.args.setting.now in
    let claims = s.claims.now in
    let i = c.loop-i.i - 1 in
    let inside : i < length claims = omega arith in
    let own = own_within g.EF.Field.ops g.EF.ExtensionField.lift s.log_blowup i
    c.loop-i.invariant c.requires.inverses (omega arith)
    (omega (arith, inside, length-map claims (claim_of (λ domain. domain.log_size))))
    (entry_of_map (claim_of (λ domain. domain.log_size)) claims i c.index-claims-i.result inside
    c.index-claims-i.is) in
    (omega (arith, own.0, ap length (own_claimed g c)), own.1)

pub loop-i-init : goal.loop-i-init
loop-i-init g c =
    let s = c.args.setting.now in
    none_summed g.EF.Field.ops g.EF.ExtensionField.lift s.log_blowup
    g.met.EF.Field.laws.ring c.args.ladder.now.alpha
    (claims_of (λ domain. domain.log_size) s.claims.now)
    (rows_at c.args.query (inputs_opened s.openings.now)) c.args.inverses.now c.args.sums.now
    (length s.claims.now)
    (omega (arith, length-map s.claims.now (claim_of (λ domain. domain.log_size))))
    c.requires.inverses

pub offset_bounds-openings-i : goal.offset_bounds-openings-i
offset_bounds-openings-i g c =
    let there = opening_there g (goal.at.offset_bounds-openings-i g c).In-loop-i in
    omega (arith, there)

pub bounds-openings-i : goal.bounds-openings-i
bounds-openings-i g c = opening_there g (goal.at.bounds-openings-i g c).In-loop-i

claimed_there : (g : Over) (c : In-loop-i g)
    → c.loop-i.i - 1 < length c.args.claimed.now
claimed_there g c =
    let s = c.args.setting.now in
    omega (
      arith,
      held_counts (claim_of (λ domain. domain.log_size))
          (values_under g.EF.Field.ops g.EF.ExtensionField.lift s.log_blowup
          c.args.ladder.now.alpha) s.claims.now c.args.claimed.now c.requires.claimed,
    )

pub bounds-claimed-i : goal.bounds-claimed-i
bounds-claimed-i g c = claimed_there g (goal.at.bounds-claimed-i g c).In-loop-i

pub offset_bounds-claimed-i : goal.offset_bounds-claimed-i
offset_bounds-claimed-i g c =
    search (rules, claimed_there g (goal.at.offset_bounds-claimed-i g c).In-loop-i)

pub add_opening-requires-clause-readable : goal.add_opening-requires-clause-readable
add_opening-requires-clause-readable g c =
    let s = c.args.setting.now in
    let powers = c.args.ladder.now.powers.len in
    subst (λ n. All (IsReadable s.log_blowup n powers)
    (claim_of (λ domain. domain.log_size) c.index-claims-i.result).matrices)
    (sym c.loop-i.invariant.count)
    (all_of_claim (λ domain. domain.log_size)
    (IsReadable s.log_blowup (length c.args.sums.now) powers) s.claims.now
    c.requires.readable (c.loop-i.i - 1) (omega arith) c.index-claims-i.is)

pub add_opening-requires-clause-rows : goal.add_opening-requires-clause-rows
add_opening-requires-clause-rows g c =
    let s = c.args.setting.now in
    all_zip_mapped_at (HasRowsAt s.log_blowup c.args.query)
    (claim_of (λ domain. domain.log_size)) input_of s.claims.now s.openings.now
    c.requires.rows (c.loop-i.i - 1) (omega arith) c.index-claims-i.is c.index-openings-i.is

pub overflow_sub-start : goal.overflow_sub-start
overflow_sub-start g c = (within g (goal.at.overflow_sub-start g c).After-as_slice-own).0

pub offset_bounds-inverses-start : goal.offset_bounds-inverses-start
offset_bounds-inverses-start g c =
    let inner = within g (goal.at.offset_bounds-inverses-start g c).After-as_slice-own in
    omega (arith, inner.1)

pub slice_bounds-points-end : goal.slice_bounds-points-end
slice_bounds-points-end g c =
    let inner = within g (goal.at.slice_bounds-points-end g c).After-as_slice-own in
    omega (arith, inner.1)

pub add_opening-requires-clause-inverses : goal.add_opening-requires-clause-inverses
add_opening-requires-clause-inverses g c =
    let inner = within g (goal.at.add_opening-requires-clause-inverses g c).After-as_slice-own in
    let end = c.loop-i.end in
    length-between c.args.inverses.now (end - length c.as_slice-own.result.now) end inner.1
    ∙ omega (arith, inner.0)

pub add_opening-requires-clause-claimed : goal.add_opening-requires-clause-claimed
add_opening-requires-clause-claimed g c =
    own_claimed g (goal.at.add_opening-requires-clause-claimed g c).After-as_slice-own

pub loop-i-preserved : goal.loop-i-preserved
loop-i-preserved g c =
    let s = c.args.setting.now in
    let at = goal.at.loop-i-preserved g c in
    let claims = s.claims.now in
    let openings = s.openings.now in
    let i = c.loop-i.i - 1 in
    let inside : i < length claims = omega arith in
    let there = opening_there g at.In-loop-i in
    let own = within g at.After-as_slice-own in
    opening_next g.EF.Field.ops g.EF.ExtensionField.lift s.log_blowup c.loop-i.invariant
    (omega arith) (omega (arith, inside, length-map claims (claim_of (λ domain. domain.log_size))))
    (entry_of_map (claim_of (λ domain. domain.log_size)) claims i c.index-claims-i.result inside
    c.index-claims-i.is)
    (omega (
      arith,
      there,
      length-mapped_twice input_of (λ o. get_or o.rows c.args.query []) openings,
    ))
    (mapped_twice_is input_of (λ o. get_or o.rows c.args.query []) openings i [] there
    c.index-openings-i.is)
    (own_claimed g at.After-as_slice-own) (omega (arith, own.0)) c.add_opening.auto.sums
    c.add_opening.ensures

pub returns : goal.returns
returns g c read inverses zeros h d l =
    let s = c.args.setting.now in
    let cs = claims_of (λ domain. domain.log_size) s.claims.now in
    let rows = rows_at c.args.query (inputs_opened s.openings.now) in
    let last : c.loop-i.i ≡ 0 = omega arith in
    c.loop-i.invariant.summed read inverses zeros h d l
    ∙ ap (λ (n : ℕ). val g.EF.Field.ops (all_terms g.EF.Field.ops g.EF.ExtensionField.lift
    s.log_blowup h (read h) (drop n cs) (drop n rows)) c.args.ladder.now.alpha) last
