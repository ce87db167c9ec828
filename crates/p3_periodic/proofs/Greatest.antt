-- The greatest length of columns: no column is longer, and it is a period itself.
use Rattle.std.proofs.Common.{◌≡◌, ℕ, zero, suc, ◌<◌, ◌≤◌, List, [], ◌∷◌, length, get_or, arith, All}
use Rattle.std.proofs.Common.{subst, inl, inr}
use Rattle.std.proofs.lemmas.Bool.{cases_lt}
use Rattle.std.specs.Prelude.{vec_len, max}
use Rattle.std.specs.declared.vec.Vec.{Vec}
use Rattle.p3_periodic.specs.Columns.{IsPeriod, HasPeriod, greatest_period}

module _ {T A : Type 0} where
  pub within_greatest : (columns : List (Vec T A)) (j : ℕ) (d : Vec T A) → j < length columns
      → vec_len (get_or columns j d) ≤ greatest_period columns
  within_greatest [] j d l = absurd (omega (arith, l))
  within_greatest (c ∷ cs) zero d l = omega arith
  within_greatest (c ∷ cs) (suc j) d l = omega (arith, within_greatest cs j d (omega (arith, l)))

  greatest_of : (height : ℕ) (c : Vec T A) (cs : List (Vec T A)) → All (HasPeriod height) (c ∷ cs)
      → IsPeriod height (max (vec_len c) (greatest_period cs))
  greatest_of height c [] all =
      subst (λ n. IsPeriod height n)
      (let e : vec_len c ≡ max (vec_len c) 0 = omega arith in e) (all zero c (omega arith))
  greatest_of height c (d ∷ ds) all = elim (cases_lt (vec_len c) (greatest_period (d ∷ ds))) [
    | inl l ↦
        subst (λ n. IsPeriod height n)
        (let e : greatest_period (d ∷ ds) ≡ max (vec_len c) (greatest_period (d ∷ ds)) =
        omega (arith, l) in e)
        (greatest_of height d ds (λ k x b. all (suc k) x (omega (arith, b))))
    | inr l ↦
        subst (λ n. IsPeriod height n)
        (let e : vec_len c ≡ max (vec_len c) (greatest_period (d ∷ ds)) = omega (arith, l) in e)
        (all zero c (omega arith))
  ]

  -- where there is a column
  pub greatest_is_period : (height : ℕ) (columns : List (Vec T A)) → 0 < length columns
      → All (HasPeriod height) columns → IsPeriod height (greatest_period columns)
  greatest_is_period height [] some all = absurd (omega (arith, some))
  greatest_is_period height (c ∷ cs) some all = greatest_of height c cs all
