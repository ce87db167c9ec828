-- The log heights of claimed matrices by a table of the log sizes of their domains.
use Rattle.std.proofs.Common.{◌≡◌, ℕ, zero, suc, ◌+◌, ◌-◌, ◌≤◌, List, [], ◌∷◌, ◌++◌, ◌||◌, length}
use Rattle.std.proofs.Common.{get_or, map, Bool, true, false, eqb, refl, sym, ap, ◌∙◌, subst, arith, replicate}
use Rattle.std.proofs.Common.{append_assoc}
use Rattle.std.specs.List.{list_any}
use Rattle.std.proofs.lemmas.Bool.{eqb-true, eq-eqb}
use Rattle.std.proofs.lemmas.List.{append-nil}
use Rattle.std.proofs.lemmas.List.Folds.{list_any-append}
use Rattle.p3_mmcs.specs.declared.openings.MatrixOpening.{MatrixOpening}
use Rattle.p3_mmcs.specs.declared.openings.CommitmentOpening.{CommitmentOpening}
use Rattle.p3_fri_relation.specs.Setting.{MatrixClaim}
use Rattle.p3_fri_relation.specs.Heights.{matrices_of, log_height, has_height, heights_below}
use Rattle.p3_fri_relation.specs.Heights.{heights_of}
use Rattle.p3_fri_relation.specs.Views.{matrix_claim, claims_of}
use Rattle.p3_fri_verifier.specs.Claimed.{has_size}
use Rattle.p3_fri_verifier.proofs.Heights.{heights_below-all, heights_below-none}

same_tests : (p q : Bool) → (p ≡ true → q ≡ true) → (q ≡ true → p ≡ true) → p ≡ q
same_tests true q to from = sym (to refl)
same_tests false true to from = from refl
same_tests false false to from = refl

eqb-moved : (b s n : ℕ) → eqb (s + b) (n + b) ≡ eqb s n
eqb-moved b s n = same_tests (eqb (s + b) (n + b)) (eqb s n)
    (λ e. let same = eqb-true (s + b) (n + b) e in eq-eqb s n (omega arith))
    (λ e. let same = eqb-true s n e in eq-eqb (s + b) (n + b) (omega arith))

-- no entry of an empty table is set
pub unset : (n k : ℕ) → get_or (replicate n false) k false ≡ false
unset zero k = refl
unset (suc n) zero = refl
unset (suc n) (suc k) = unset n k

-- and none past the end of a table
past_end : (xs : List Bool) (k : ℕ) → length xs ≤ k → get_or xs k false ≡ false
past_end [] k past = refl
past_end (x ∷ xs) zero past = absurd (omega arith)
past_end (x ∷ xs) (suc k) past = past_end xs k (omega arith)

size_of_one : {E Domain : Type 0} (log_size : Domain → ℕ) (b n : ℕ) (ms : List (MatrixOpening E Domain))
    → list_any (λ m. eqb (log_height b m) (n + b)) (map (matrix_claim log_size) ms) ≡ list_any (λ m. eqb (log_size m.domain) n) ms
size_of_one log_size b n [] = refl
size_of_one log_size b n (m ∷ ms) = rw (eqb-moved b (log_size m.domain) n, size_of_one log_size b n ms) refl

module _ {E InCom Domain : Type 0} (log_size : Domain → ℕ) (b : ℕ) where
  -- a log height is one of the matrices' where the log size that it leaves is one of their domains'
  height_of_size : (n : ℕ) (claims : List (CommitmentOpening E InCom Domain))
      → has_height b (matrices_of (claims_of log_size claims)) (n + b) ≡ has_size log_size claims n
  height_of_size n [] = refl
  height_of_size n (c ∷ claims) =
      let p : MatrixClaim E → Bool = λ m. eqb (log_height b m) (n + b) in
      list_any-append p (map (matrix_claim log_size) c.matrices.items) (matrices_of (claims_of log_size claims))
      ∙ ap (λ one. one || has_height b (matrices_of (claims_of log_size claims)) (n + b)) (size_of_one log_size b n c.matrices.items)
      ∙ ap (λ rest. list_any (λ m. eqb (log_size m.domain) n) c.matrices.items || rest) (height_of_size n claims)

  module _ (claims : List (CommitmentOpening E InCom Domain)) (sizes : List Bool) (count : length sizes ≡ 64)
      (marked : (n : ℕ) → get_or sizes n false ≡ has_size log_size claims n) where
    abbrev matrices : List (MatrixClaim E)
    matrices = matrices_of (claims_of log_size claims)

    height_marked : (n : ℕ) → has_height b matrices (n + b) ≡ get_or sizes n false
    height_marked n = height_of_size n claims ∙ sym (marked n)

    none_past : (h : ℕ) → 64 + b ≤ h → has_height b matrices h ≡ false
    none_past h past =
        let parts : (h - b) + b ≡ h = omega arith in
        subst (λ (k : ℕ). has_height b matrices k ≡ false) parts
        (height_marked (h - b) ∙ past_end sizes (h - b) (omega (arith, count)))

    -- before the first log size, from the greatest on, no log height is listed
    pub listed_first : (so_far : List ℕ) → so_far ≡ [] → so_far ++ heights_below b matrices (64 + b) ≡ heights_of b matrices
    listed_first so_far none = rw none (heights_below-all b matrices (64 + b) none_past)

    -- one that is marked lists its log height
    pub listed_one : (n k : ℕ) (so_far : List ℕ) → n ≡ k + 1 → get_or sizes k false ≡ true
        → so_far ++ heights_below b matrices (n + b) ≡ heights_of b matrices
        → (so_far ++ (k + b) ∷ []) ++ heights_below b matrices (k + b) ≡ heights_of b matrices
    listed_one n k so_far next is_one before =
        let at : n + b ≡ suc (k + b) = omega arith in
        append_assoc so_far ((k + b) ∷ []) (heights_below b matrices (k + b))
        ∙ ap (λ rest. so_far ++ rest) (sym (ap (λ (h : ℕ). heights_below b matrices h) at ∙ rw (height_marked k ∙ is_one) refl))
        ∙ before

    -- and one that isn't lists none
    pub listed_none : (n k : ℕ) (so_far : List ℕ) → n ≡ k + 1 → get_or sizes k false ≡ false
        → so_far ++ heights_below b matrices (n + b) ≡ heights_of b matrices
        → so_far ++ heights_below b matrices (k + b) ≡ heights_of b matrices
    listed_none n k so_far next is_none before =
        let at : n + b ≡ suc (k + b) = omega arith in
        ap (λ rest. so_far ++ rest) (sym (ap (λ (h : ℕ). heights_below b matrices h) at ∙ rw (height_marked k ∙ is_none) refl))
        ∙ before

    -- after the last all are
    pub listed_all : (n : ℕ) (so_far : List ℕ) → n ≡ 0 → so_far ++ heights_below b matrices (n + b) ≡ heights_of b matrices
        → so_far ≡ heights_of b matrices
    listed_all n so_far last all =
        sym (append-nil so_far)
        ∙ ap (λ rest. so_far ++ rest) (sym (heights_below-none b matrices (n + b) (omega arith)))
        ∙ all
