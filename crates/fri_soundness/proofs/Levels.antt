-- How many rows of each step fail, where so many positions do.
use Rattle.std.proofs.Common.{◌≡◌, ℕ, zero, suc, ◌+◌, ◌-◌, ◌*◌, ◌/◌, ◌^◌, ◌<◌, ◌≤◌, ◌⊎◌, List, [], ◌∷◌, ◌++◌}
use Rattle.std.proofs.Common.{sym, ap, ap₂, ◌∙◌, subst, arith, inl, inr, pow_pos, mod-lt}
use Rattle.std.proofs.Math.Nat.{div-div-eq-div-mul}
use Rattle.std.proofs.lemmas.Nat.{pow-add, div-add-mod', div-mul-add}
use Rattle.std.proofs.lemmas.List.{take-append-drop}
use Rattle.algebra.specs.Field.{FieldOps}
use Rattle.algebra.specs.Polynomial.{tabulate}
use Rattle.algebra.proofs.Words.{take-tabulate, drop-tabulate}
use Rattle.fri_soundness.specs.Counting.{AllBut}
use Rattle.fri_soundness.specs.FoldTests.{Step, indices, FoldsTo, Passes, AreSteps, FewFail, budget}
use Rattle.fri_soundness.proofs.SoundTests.{all_but-tabulate}

module _ {X : Type 0} (P : X → Type 0) where
  all_but-cons : (x : X) (n : ℕ) (xs : List X) → P x → AllBut P n xs → AllBut P n (x ∷ xs)
  all_but-cons x zero xs p h = (p, h)
  all_but-cons x (suc n) xs p h = inl (p, h)

  all_but-more : (n : ℕ) (xs : List X) → AllBut P n xs → AllBut P (suc n) xs
  all_but-more n [] h = tt
  all_but-more zero (x ∷ xs) h = inl (h.0, all_but-more zero xs h.1)
  all_but-more (suc n) (x ∷ xs) (inl h) = inl (h.0, all_but-more (suc n) xs h.1)
  all_but-more (suc n) (x ∷ xs) (inr h) = inr (all_but-more n xs h)

  all_but-behind : (n : ℕ) (xs ys : List X) → AllBut P n (xs ++ ys) → AllBut P n ys
  all_but-behind n [] ys h = h
  all_but-behind zero (x ∷ xs) ys h = all_but-behind zero xs ys h.1
  all_but-behind (suc n) (x ∷ xs) ys (inl h) = all_but-behind (suc n) xs ys h.1
  all_but-behind (suc n) (x ∷ xs) ys (inr h) = all_but-more n ys (all_but-behind n xs ys h)

  -- a front part either has an element with `P`, or uses up as many of the exceptions as it is long
  front : (B : Type 0) (m n : ℕ) (f : ℕ → X) (ys : List X) → ((j : ℕ) → j < m → P (f j) → B)
      → AllBut P n (tabulate m f ++ ys) → (B × AllBut P n ys) ⊎ ((r : ℕ) × (r + m ≡ n) × AllBut P r ys)
  front B zero n f ys t h = inr (n, omega arith, h)
  front B (suc m) zero f ys t h = inl (t zero (omega arith) h.0, all_but-behind zero (tabulate m (λ i. f (suc i))) ys h.1)
  front B (suc m) (suc n) f ys t (inl h) = inl (t zero (omega arith) h.0, all_but-behind (suc n) (tabulate m (λ i. f (suc i))) ys h.1)
  front B (suc m) (suc n) f ys t (inr h) = elim (front B m n (λ i. f (suc i)) ys (λ j l. t (suc j) (omega (arith, l))) h) [
    | inl g ↦ inl (g.0, all_but-more n ys g.1)
    | inr g ↦ inr (g.0, omega (arith, g.1), g.2)
  ]

tabulate-cut : {X : Type 0} (n m : ℕ) (f : ℕ → X) → tabulate (n + m) f ≡ tabulate n f ++ tabulate m (λ q. f (n + q))
tabulate-cut n m f = sym (take-append-drop n (tabulate (n + m) f)) ∙ ap₂ (λ us vs. us ++ vs) (take-tabulate n (n + m) f (omega arith)) (drop-tabulate n m f)

-- A block fails altogether or not at all: `n` failing places make at most `n / m` failing blocks of
-- `m` places.
rows_from_positions : {X Y : Type 0} (P : X → Type 0) (Q : Y → Type 0) (count m : ℕ) (f : ℕ → X) (g : ℕ → Y)
    → ((i j : ℕ) → i < count → j < m → P (f (i * m + j)) → Q (g i)) → (n b : ℕ) → n < (b + 1) * m
    → AllBut P n (tabulate (count * m) f) → AllBut Q b (tabulate count g)
rows_from_positions P Q zero m f g t n b l h = tt
rows_from_positions P Q (suc count) m f g t n b l h =
    elim (front P (Q (g zero)) m n f (tabulate (count * m) (λ q. f (m + q)))
    (λ j k p. t zero j (omega arith) k (subst (λ q. P (f q)) (let e : j ≡ 0 * m + j = omega arith in e) p))
    (subst (λ xs. AllBut P n xs) (ap (λ k. tabulate k f) (let e : suc count * m ≡ m + count * m = omega arith in e) ∙ tabulate-cut m (count * m) f) h)) [
      | inl here ↦ all_but-cons Q (g zero) b (tabulate count (λ i. g (suc i))) here.0
          (rows_from_positions P Q count m (λ q. f (m + q)) (λ i. g (suc i)) later n b l here.1)
      | inr gone ↦ spent b l gone.0 gone.1 (λ c k. rows_from_positions P Q count m (λ q. f (m + q)) (λ i. g (suc i)) later gone.0 c k gone.2)
    ]
  where
    later : (i j : ℕ) → i < count → j < m → P (f (m + (i * m + j))) → Q (g (suc i))
    later i j k d p = t (suc i) j (omega (arith, k)) d (subst (λ q. P (f q)) (let e : m + (i * m + j) ≡ suc i * m + j = omega arith in e) p)

    spent : (b : ℕ) → n < (b + 1) * m → (r : ℕ) → r + m ≡ n → ((c : ℕ) → r < (c + 1) * m → AllBut Q c (tabulate count (λ i. g (suc i))))
        → AllBut Q b (g zero ∷ tabulate count (λ i. g (suc i)))
    spent zero l r e rest = absurd (omega (arith, l, e))
    spent (suc b) l r e rest = inr (rest b (omega (arith, l, e)))

module _ {A : Type 0} (F : FieldOps A) (w : ℕ → A) (log_blowup : ℕ) (e : ℕ → ℕ) where
  -- each step's budget takes the share of the budget before it
  abbrev pub Cover : (n : ℕ) → List (Step A) → Type 0
  Cover n [] = Unit
  Cover n (s ∷ steps) = (n < (e s.height + 1) * 2 ^ s.round.log_arity) × Cover (e s.height) steps

  pub few_fail : (h n : ℕ) (ys c : List A) (steps : List (Step A)) → AreSteps F w h ys c steps → Cover n steps
      → AllBut (Passes F w steps) n (indices h) → FewFail F w log_blowup e steps
  few_fail h n ys c [] are cover few = tt
  few_fail h n ys c (s ∷ steps) are cover few =
      let rows : AllBut (λ row. FoldsTo F w s row × Passes F w steps row) (e s.height) (indices s.height) =
      rows_from_positions (Passes F w (s ∷ steps)) (λ row. FoldsTo F w s row × Passes F w steps row) (2 ^ s.height) (2 ^ s.round.log_arity) (λ q. q) (λ i. i)
      (λ i j l b p. subst (λ row. FoldsTo F w s row × Passes F w steps row) (quotient i j b) p) n (e s.height) cover.0
      (subst (λ k. AllBut (Passes F w (s ∷ steps)) n (tabulate k (λ q. q))) (ap (λ k. 2 ^ k) (sym are.2) ∙ pow-add 2 s.height s.round.log_arity) few) in (
        rows,
        few_fail s.height (e s.height) s.next c steps are.3 cover.1
            (all_but-tabulate (λ row. FoldsTo F w s row × Passes F w steps row) (Passes F w steps) (e s.height) (2 ^ s.height) (λ i. i) (λ i. i) (λ i l p. p.1) rows),
      )
    where
      quotient : (i j : ℕ) → j < 2 ^ s.round.log_arity → (i * 2 ^ s.round.log_arity + j) / 2 ^ s.round.log_arity ≡ i
      quotient i j b = div-mul-add i (2 ^ s.round.log_arity) j b

-- shares of the failing positions do
pub budgets_cover : {A : Type 0} (F : FieldOps A) (w : ℕ → A) (log_blowup top failing : ℕ) (h : ℕ) (ys c : List A) (steps : List (Step A))
    → h ≤ top → AreSteps F w h ys c steps → Cover F w log_blowup (budget top failing) (budget top failing h) steps
budgets_cover F w b top failing h ys c [] t are = tt
budgets_cover F w b top failing h ys c (s ∷ steps) t are = (
  subst (λ n. budget top failing h < (n + 1) * 2 ^ s.round.log_arity) same (below (budget top failing h) (2 ^ s.round.log_arity) (pow_pos s.round.log_arity)),
  budgets_cover F w b top failing s.height s.next c steps (omega (arith, t, are.2)) are.3,
)
  where
    below : (n m : ℕ) → 0 < m → n < (n / m + 1) * m
    below n m l = omega (arith, div-add-mod' n m, mod-lt n l)

    same : budget top failing h / 2 ^ s.round.log_arity ≡ budget top failing s.height
    same = div-div-eq-div-mul failing (2 ^ (top - h)) (2 ^ s.round.log_arity)
        ∙ ap (λ k. failing / k) (sym (pow-add 2 (top - h) s.round.log_arity) ∙ ap (λ k. 2 ^ k) (let e : top - h + s.round.log_arity ≡ top - s.height = omega (arith, t, are.2) in e))
