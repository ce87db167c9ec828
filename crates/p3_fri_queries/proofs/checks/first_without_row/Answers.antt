use Rattle.std.proofs.Common.{ℕ, zero, suc, ◌<◌, ◌↔◌, List, [], ◌∷◌, length, map, drop, get_or}
use Rattle.std.proofs.Common.{arith, refl, sym, ap, ◌∙◌, subst, add-one}
use Rattle.std.proofs.lemmas.Bool.{false≢true}
use Rattle.std.proofs.lemmas.List.{get_or-map}
use Rattle.algebra.specs.Nested.{lists}
use Rattle.p3_fri_relation.specs.FoldedQuery.{AreInRange, HasRow, HaveRows}
use Rattle.p3_fri_queries.proofs.Lists.{have_end}
use Rattle.p3_fri_queries.proofs.checks.first_without_row.Goals as goal

range_next : (k : ℕ) (log_arities : List ℕ) → k < length log_arities
    → AreInRange (drop k log_arities) → AreInRange (drop (suc k) log_arities)
range_next k [] l h = absurd (omega arith)
range_next zero (a ∷ log_arities) l h = h.2
range_next (suc k) (a ∷ log_arities) l h = range_next k log_arities (omega arith) h

-- where the `k`-th round has its row
have_next : {E O : Type 0} (f : O → List (List E)) (j k : ℕ) (log_arities : List ℕ) (os : List O) (o : O)
    → k < length log_arities → k < length os → HasRow j (get_or log_arities k 0) (f (get_or os k o))
    → HaveRows j (drop k log_arities) (map f (drop k os))
    ↔ HaveRows j (drop (suc k) log_arities) (map f (drop (suc k) os))
have_next f j k [] os o l₁ l₂ h = absurd (omega arith)
have_next f j k (a ∷ log_arities) [] o l₁ l₂ h = absurd (omega arith)
have_next f j zero (a ∷ log_arities) (x ∷ os) o l₁ l₂ h = (λ hs. hs.1, λ hs. (h, hs))
have_next f j (suc k) (a ∷ log_arities) (x ∷ os) o l₁ l₂ h =
    have_next f j k log_arities os o (omega arith) (omega arith) h

pub returns-clause-none : goal.returns-clause-none
returns-clause-none g c = (
  λ _. c.loop-round.invariant.same.1 (have_end (λ o. lists o.sibling_values.items) c.args.query c.loop-round.round
      c.args.log_arities.now c.args.openings.now (omega arith)),
  λ _. refl,
)

pub returns-then-not-has_row-clause-some : goal.returns-then-not-has_row-clause-some
returns-then-not-has_row-clause-some g c =
    let k = c.loop-round.round in
    let os = c.args.openings.now in
    let l : k < length os = omega arith in
    let rows = get_or-map (λ o. lists o.sibling_values.items) os k c.index-openings-round.result [] l
    ∙ ap lists (sym c.as_slice.ensures.value) in (
      omega arith,
      l,
      λ has. false≢true (sym c.if-not-has_row.true ∙ c.has_row.ensures.1
          (subst (λ (rows : List (List g.row.E.Denot)). HasRow c.args.query (get_or c.args.log_arities.now k 0) rows) rows has)),
    )

pub loop-round-preserved : goal.loop-round-preserved
loop-round-preserved g c =
    let k = c.loop-round.round in
    let as' = c.args.log_arities.now in
    let l : k < length as' = omega arith in
    let next = have_next (λ o. lists o.sibling_values.items) c.args.query k as' c.args.openings.now
    c.index-openings-round.result l (omega arith)
    (subst (λ (rows : _). HasRow c.args.query (get_or as' k 0) (lists rows)) c.as_slice.ensures.value
    (c.has_row.ensures.0 c.if-not-has_row.false)) in
    let same = c.loop-round.invariant.same in
    record {
      range = rw add-one (range_next k as' l c.loop-round.invariant.range);
      same = rw add-one (λ h. next.0 (same.0 h), λ h. same.1 (next.1 h));
    }
