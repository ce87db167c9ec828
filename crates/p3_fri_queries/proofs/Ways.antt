-- A query's way, one round on.
use Rattle.std.proofs.Common.{◌≡◌, ℕ, zero, suc, ◌+◌, ◌-◌, ◌/◌, ◌^◌, ◌<◌, arith}
use Rattle.std.proofs.Common.{List, [], ◌∷◌, length, drop, get_or, refl, ap, ◌∙◌, sym, Option}
use Rattle.std.proofs.Common.{pow-add, add-one}
use Rattle.std.proofs.Math.Nat.{div-div-eq-div-mul}
use Rattle.std.specs.Prelude.{sum}
use Rattle.std.proofs.lemmas.List.Sums.{sum_by-drop_more}
use Rattle.algebra.specs.Field.{FieldOps}
use Rattle.algebra.specs.Rounds.{Link, next_link, row_of_link, chain, chain_rows}
use Rattle.p3_fri_relation.specs.Queries.{rounds_of, row_indices}

module _ {A : Type 0} (F : FieldOps A) (fold : ℕ → ℕ → ℕ → A → List A → A) (values : ℕ → Option A) where
  -- the `k`-th round is taken
  chain_at : (k : ℕ) (log_arities : List ℕ) (betas : List A) (siblings : List (List A)) (b : A) (link : Link A)
      → k < length log_arities → k < length betas → k < length siblings
      → chain F fold values (rounds_of (drop k log_arities) (drop k betas)) (drop k siblings) link
      ≡ chain F fold values (rounds_of (drop (suc k) log_arities) (drop (suc k) betas)) (drop (suc k) siblings)
      (next_link F fold values (record { log_arity = get_or log_arities k 0; beta = get_or betas k b }) (get_or siblings k []) link)
  chain_at k [] betas siblings b link l₁ l₂ l₃ = absurd (omega arith)
  chain_at k (a ∷ log_arities) [] siblings b link l₁ l₂ l₃ = absurd (omega arith)
  chain_at k (a ∷ log_arities) (x ∷ betas) [] b link l₁ l₂ l₃ = absurd (omega arith)
  chain_at zero (a ∷ log_arities) (x ∷ betas) (s ∷ siblings) b link l₁ l₂ l₃ = refl
  chain_at (suc k) (a ∷ log_arities) (x ∷ betas) (s ∷ siblings) b link l₁ l₂ l₃ =
      chain_at k log_arities betas siblings b link (omega arith) (omega arith) (omega arith)

  rows_at : (k : ℕ) (log_arities : List ℕ) (betas : List A) (siblings : List (List A)) (b : A) (link : Link A)
      → k < length log_arities → k < length betas → k < length siblings
      → chain_rows F fold values (rounds_of (drop k log_arities) (drop k betas)) (drop k siblings) link
      ≡ row_of_link (record { log_arity = get_or log_arities k 0; beta = get_or betas k b }) (get_or siblings k []) link
      ∷ chain_rows F fold values (rounds_of (drop (suc k) log_arities) (drop (suc k) betas)) (drop (suc k) siblings)
      (next_link F fold values (record { log_arity = get_or log_arities k 0; beta = get_or betas k b }) (get_or siblings k []) link)
  rows_at k [] betas siblings b link l₁ l₂ l₃ = absurd (omega arith)
  rows_at k (a ∷ log_arities) [] siblings b link l₁ l₂ l₃ = absurd (omega arith)
  rows_at k (a ∷ log_arities) (x ∷ betas) [] b link l₁ l₂ l₃ = absurd (omega arith)
  rows_at zero (a ∷ log_arities) (x ∷ betas) (s ∷ siblings) b link l₁ l₂ l₃ = refl
  rows_at (suc k) (a ∷ log_arities) (x ∷ betas) (s ∷ siblings) b link l₁ l₂ l₃ =
      rows_at k log_arities betas siblings b link (omega arith) (omega arith) (omega arith)

  -- a link after the `k`-th round, of a value that was computed from the round's parts
  pub chain_step : (k : ℕ) (log_arities : List ℕ) (betas : List A) (siblings : List (List A))
      (b : A) (s : List A) (h i : ℕ) (value v : A)
      → k < length log_arities → k < length betas → k < length siblings
      → b ≡ get_or betas k b → s ≡ get_or siblings k []
      → v ≡ (next_link F fold values (record { log_arity = get_or log_arities k 0; beta = b }) s
      (record { index = i; log_height = h; value = value })).value
      → chain F fold values (rounds_of (drop (k + 1) log_arities) (drop (k + 1) betas)) (drop (k + 1) siblings)
      (record { index = i / 2 ^ get_or log_arities k 0; log_height = h - get_or log_arities k 0; value = v })
      ≡ chain F fold values (rounds_of (drop k log_arities) (drop k betas)) (drop k siblings)
      (record { index = i; log_height = h; value = value })
  chain_step k log_arities betas siblings b s h i value v l₁ l₂ l₃ is_beta is_siblings is_value =
      let here : Link A = record { index = i; log_height = h; value = value } in
      let step = chain_at k log_arities betas siblings b here l₁ l₂ l₃ in
      rw (add-one, step, ← is_beta, ← is_siblings, is_value) refl

  -- the rows from the `k`-th round on
  pub rows_step : (k : ℕ) (log_arities : List ℕ) (betas : List A) (siblings : List (List A))
      (b : A) (s : List A) (h i : ℕ) (value v : A) (row : List A)
      → k < length log_arities → k < length betas → k < length siblings
      → b ≡ get_or betas k b → s ≡ get_or siblings k []
      → v ≡ (next_link F fold values (record { log_arity = get_or log_arities k 0; beta = b }) s
      (record { index = i; log_height = h; value = value })).value
      → row ≡ row_of_link (record { log_arity = get_or log_arities k 0; beta = b }) s
      (record { index = i; log_height = h; value = value })
      → row ∷ chain_rows F fold values (rounds_of (drop (k + 1) log_arities) (drop (k + 1) betas)) (drop (k + 1) siblings)
      (record { index = i / 2 ^ get_or log_arities k 0; log_height = h - get_or log_arities k 0; value = v })
      ≡ chain_rows F fold values (rounds_of (drop k log_arities) (drop k betas)) (drop k siblings)
      (record { index = i; log_height = h; value = value })
  rows_step k log_arities betas siblings b s h i value v row l₁ l₂ l₃ is_beta is_siblings is_value is_row =
      let here : Link A = record { index = i; log_height = h; value = value } in
      let step = rows_at k log_arities betas siblings b here l₁ l₂ l₃ in
      rw (add-one, step, ← is_beta, ← is_siblings, is_value, is_row) refl

row_at : (k : ℕ) (log_arities : List ℕ) (i : ℕ) → k < length log_arities
    → (i / 2 ^ get_or log_arities k 0) ∷ row_indices (drop (suc k) log_arities) (i / 2 ^ get_or log_arities k 0)
    ≡ row_indices (drop k log_arities) i
row_at k [] i l = absurd (omega arith)
row_at zero (a ∷ log_arities) i l = refl
row_at (suc k) (a ∷ log_arities) i l = row_at k log_arities i (omega arith)

-- the rows' indices from the `k`-th round on
pub indices_step : (k : ℕ) (log_arities : List ℕ) (i : ℕ) → k < length log_arities
    → (i / 2 ^ get_or log_arities k 0) ∷ row_indices (drop (k + 1) log_arities) (i / 2 ^ get_or log_arities k 0)
    ≡ row_indices (drop k log_arities) i
indices_step k log_arities i l = rw add-one (row_at k log_arities i l)

-- an index is shifted on
pub index_step : (k : ℕ) (xs : List ℕ) (i : ℕ) → k < length xs
    → i / 2 ^ get_or xs k 0 / 2 ^ sum (drop (k + 1) xs) ≡ i / 2 ^ sum (drop k xs)
index_step k xs i l =
    let a = get_or xs k 0 in
    let s = sum (drop (k + 1) xs) in
    div-div-eq-div-mul i (2 ^ a) (2 ^ s)
    ∙ ap (λ (n : ℕ). i / n) (sym (pow-add 2 a s) ∙ ap (λ (n : ℕ). 2 ^ n) (sym (sum_by-drop_more (λ x. x) xs k 0 l)))
