-- What holds of each element while elements are pushed, and the queries' indices from round to
-- round.
use Rattle.std.proofs.Common.{◌≡◌, ℕ, ◌+◌, ◌/◌, ◌^◌, ◌<◌, List, [], ◌∷◌, ◌++◌, length}
use Rattle.std.proofs.Common.{get_or, map, refl, sym, ap, ap₂, ◌∙◌, arith, subst, below_more, add-one}
use Rattle.std.proofs.lemmas.List.{get_or_append_left}
use Rattle.std.proofs.Math.Seq.{get_or-append_seam}
use Rattle.p3_fri_relation.specs.Queries.{row_indices}
use Rattle.p3_fri_prover.specs.Openings.{index_into}
use Rattle.p3_fri_prover.proofs.Ways.{row_index}
use Rattle.algebra.proofs.Lists.{map-map}

pub at_last : {X : Type 0} (before after : List X) (x d : X) (k : ℕ) → length before ≡ k
    → after ≡ before ++ x ∷ [] → get_or after k d ≡ x
at_last before after x d k n e =
    ap₂ (λ xs i. get_or xs i d) e (sym n) ∙ get_or-append_seam before x [] d

pub at_earlier : {X : Type 0} (before after : List X) (x d : X) (j k : ℕ) → length before ≡ k
    → after ≡ before ++ x ∷ [] → j < k → get_or after j d ≡ get_or before j d
at_earlier before after x d j k n e l =
    ap (λ xs. get_or xs j d) e ∙ get_or_append_left before (x ∷ []) d j (omega (arith, l, n))

pub pushed_each : {X : Type 0} (P : ℕ → X → Type 0) (before after : List X) (x : X) (k : ℕ)
    → length before ≡ k → after ≡ before ++ x ∷ []
    → ((j : ℕ) (d : X) → j < k → P j (get_or before j d)) → P k x
    → (j : ℕ) (d : X) → j < k + 1 → P j (get_or after j d)
pushed_each {X} P before after x k n e earlier last j d l =
    below_more (λ i. (d : X) → P i (get_or after i d)) k
    (λ i m d. subst (P i) (sym (at_earlier before after x d i k n e m)) (earlier i d m))
    (λ d. subst (P k) (sym (at_last before after x d k n e)) last) j l d

pub map_same_list : (xs : List ℕ) → map (λ (q : ℕ). q) xs ≡ xs
map_same_list [] = refl
map_same_list (x ∷ xs) = ap (λ ys. x ∷ ys) (map_same_list xs)

module _ (arities ps : List ℕ) (k : ℕ) (now : List ℕ)
    (is : now ≡ map (λ q. index_into arities q k) ps) (some_left : k < length arities) where
  -- the rows in which the indices of round `k` lie
  pub rows_at : map (λ i. i / 2 ^ get_or arities k 0) now
      ≡ map (λ q. get_or (row_indices arities q) k 0) ps
  rows_at =
      ap (λ xs. map (λ i. i / 2 ^ get_or arities k 0) xs) is
      ∙ map-map (λ i. i / 2 ^ get_or arities k 0) (λ q. index_into arities q k) ps
      ∙ same ps
    where
      same : (qs : List ℕ) → map (λ q. index_into arities q k / 2 ^ get_or arities k 0) qs
          ≡ map (λ q. get_or (row_indices arities q) k 0) qs
      same [] = refl
      same (q ∷ qs) = ap₂ (λ x xs. x ∷ xs) (sym (row_index arities q k some_left)) (same qs)

  -- are the next round's indices
  pub next_indices : (next : List ℕ) → next ≡ map (λ i. i / 2 ^ get_or arities k 0) now
      → next ≡ map (λ q. index_into arities q (k + 1)) ps
  next_indices next e = e ∙ rows_at
      ∙ ap (λ n. map (λ q. index_into arities q n) ps) (sym (add-one k))
