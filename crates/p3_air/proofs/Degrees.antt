-- The greatest degree, one constraint more.
use Rattle.std.proofs.Common.{◌≡◌, ℕ, ◌<◌, ◌+◌, ◌-◌, max, List, length, drop, get_or, sym, ap, ap₂}
use Rattle.std.proofs.Common.{◌∙◌, arith}
use Rattle.std.proofs.lemmas.List.{at_drop_more}
use Rattle.p3_air.specs.declared.air.Constraint.{Constraint}
use Rattle.p3_air.specs.Degrees.{greatest_degree}

module _ (degrees : List ℕ) (constraints : List Constraint) where
  -- the greatest of the constraints from a place on
  abbrev from : ℕ → ℕ
  from k = greatest_degree degrees (drop k constraints)

  pub greatest_more : (k : ℕ) (c : Constraint) (degree greatest after : ℕ) → 0 < k
      → k - 1 < length constraints → c ≡ get_or constraints (k - 1) c
      → degree ≡ get_or degrees c.node 0 → greatest ≡ from k → after ≡ max degree greatest
      → after ≡ from (k - 1)
  greatest_more k c degree greatest after some there is value h made =
      let next : k - 1 + 1 ≡ k = omega (arith, some) in
      made ∙ ap₂ max (value ∙ ap (λ x. get_or degrees x.node 0) is) (h ∙ ap from (sym next))
      ∙ sym (at_drop_more (greatest_degree degrees) constraints (k - 1) c there)
