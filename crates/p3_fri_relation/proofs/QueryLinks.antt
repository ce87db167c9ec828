-- Where a chain stands after its rounds, and that each round's row lies in the word that it folds.
use Rattle.std.proofs.Common.{◌≡◌, ℕ, zero, suc, ◌+◌, ◌-◌, ◌/◌, ◌^◌, ◌<◌, ◌≤◌, List, [], ◌∷◌}
use Rattle.std.proofs.Common.{length, get_or, Option, refl, sym, ap, ◌∙◌, arith}
use Rattle.std.specs.List.{sum}
use Rattle.std.proofs.Math.Nat.{div-one, div-div-eq-div-mul}
use Rattle.std.proofs.lemmas.Nat.{pow-add}
use Rattle.std.proofs.lemmas.List.Sums.{sum_by-cons}
use Rattle.algebra.specs.Field.{FieldOps}
use Rattle.algebra.specs.Rounds.{Link, next_link, chain, chain_rows}
use Rattle.p3_fri_relation.specs.Queries.{rounds_of, heights_after, row_indices}
use Rattle.p3_field_core.proofs.IndexPowers.{index_cut}

-- shifting by one number of bits and then by another
shifted-twice : (n a b : ℕ) → n / 2 ^ a / 2 ^ b ≡ n / 2 ^ (a + b)
shifted-twice n a b = div-div-eq-div-mul n (2 ^ a) (2 ^ b) ∙ ap (λ m. n / m) (sym (pow-add 2 a b))

module _ {E : Type 0} (F : FieldOps E) (fold : ℕ → ℕ → ℕ → E → List E → E) (values : ℕ → Option E) where
  -- after rounds that each have a challenge and siblings
  pub chain-index : (arities : List ℕ) (betas : List E) (siblings : List (List E)) (link : Link E)
      → length betas ≡ length arities → length siblings ≡ length arities
      → (chain F fold values (rounds_of arities betas) siblings link).index ≡ link.index / 2 ^ sum arities
  chain-index [] betas siblings link drawn opened = sym (div-one link.index)
  chain-index (a ∷ arities) [] siblings link drawn opened = absurd (omega (arith, drawn))
  chain-index (a ∷ arities) (b ∷ betas) [] link drawn opened = absurd (omega (arith, opened))
  chain-index (a ∷ arities) (b ∷ betas) (row ∷ siblings) link drawn opened =
      chain-index arities betas siblings (next_link F fold values (record { log_arity = a; beta = b }) row link) (omega (arith, drawn)) (omega (arith, opened))
      ∙ shifted-twice link.index a (sum arities)
      ∙ ap (λ n. link.index / 2 ^ n) (sym (sum_by-cons (λ r. r) a arities))

  pub chain-log_height : (arities : List ℕ) (betas : List E) (siblings : List (List E)) (link : Link E)
      → length betas ≡ length arities → length siblings ≡ length arities
      → (chain F fold values (rounds_of arities betas) siblings link).log_height ≡ link.log_height - sum arities
  chain-log_height [] betas siblings link drawn opened = omega arith
  chain-log_height (a ∷ arities) [] siblings link drawn opened = absurd (omega (arith, drawn))
  chain-log_height (a ∷ arities) (b ∷ betas) [] link drawn opened = absurd (omega (arith, opened))
  chain-log_height (a ∷ arities) (b ∷ betas) (row ∷ siblings) link drawn opened =
      let later = chain-log_height arities betas siblings (next_link F fold values (record { log_arity = a; beta = b }) row link) (omega (arith, drawn)) (omega (arith, opened)) in
      let whole = sum_by-cons (λ r. r) a arities in
      later ∙ omega arith

  -- as many rows as rounds
  pub length-chain_rows : (arities : List ℕ) (betas : List E) (siblings : List (List E)) (link : Link E)
      → length betas ≡ length arities → length siblings ≡ length arities
      → length (chain_rows F fold values (rounds_of arities betas) siblings link) ≡ length arities
  length-chain_rows [] betas siblings link drawn opened = refl
  length-chain_rows (a ∷ arities) [] siblings link drawn opened = absurd (omega (arith, drawn))
  length-chain_rows (a ∷ arities) (b ∷ betas) [] link drawn opened = absurd (omega (arith, opened))
  length-chain_rows (a ∷ arities) (b ∷ betas) (row ∷ siblings) link drawn opened =
      ap (λ n. suc n) (length-chain_rows arities betas siblings (next_link F fold values (record { log_arity = a; beta = b }) row link) (omega (arith, drawn)) (omega (arith, opened)))

pub length-row_indices : (arities : List ℕ) (index : ℕ) → length (row_indices arities index) ≡ length arities
length-row_indices [] index = refl
length-row_indices (a ∷ arities) index = ap (λ n. suc n) (length-row_indices arities (index / 2 ^ a))

pub row_indices-below : (arities : List ℕ) (h index k d : ℕ) → sum arities ≤ h → index < 2 ^ h → k < length arities
    → get_or (row_indices arities index) k d < 2 ^ get_or (heights_after arities h) k d
row_indices-below [] h index k d within below inside = absurd (omega arith)
row_indices-below (a ∷ arities) h index zero d within below inside =
    let whole = sum_by-cons (λ r. r) a arities in
    index_cut index h a below (omega arith)
row_indices-below (a ∷ arities) h index (suc k) d within below inside =
    let whole = sum_by-cons (λ r. r) a arities in
    row_indices-below arities (h - a) (index / 2 ^ a) k d (omega arith) (index_cut index h a below (omega arith)) (omega (arith, inside))
