-- Data that changes places twice is where it was, and requests that borrow it are for it.
use Rattle.std.proofs.Common.{◌≡◌, ◌⊎◌, ◌<◌, ◌≤◌, ℕ, zero, suc, List, [], ◌∷◌, map, length}
use Rattle.std.proofs.Common.{refl, subst, ap, ap₂, inl, inr, sym, arith, rules, slice_set, slice_index_or, nat_cmp}
use Rattle.std.specs.Ordering.{ord_min}
use Rattle.algebra.proofs.Lists.{head_eq, tail_eq}
use Rattle.p3_pcs.specs.declared.requests.OpeningRequest.{OpeningRequest}
use Rattle.p3_pcs.specs.Requests.{request, with_data}
use Rattle.fri_commitments.specs.declared.committed.Committed.{Committed}
use Rattle.fri_opening.specs.Lent.{lent_to, taken_from}
use Rattle.fri_opening.specs.Openings.{requests_for}

-- below the lesser of two is below both, and past it past either
pub below_both : (n a b : ℕ) → n < ord_min nat_cmp a b → (n < a) × (n < b)
below_both n a b = search (arith, rules)

pub one_ends : (n a b : ℕ) → ord_min nat_cmp a b ≤ n → (a ≤ n) ⊎ (b ≤ n)
one_ends n a b = search (arith, rules)

pub either_way : (n a b x y : ℕ) → x ≡ b → y ≡ a → (a ≤ n) ⊎ (b ≤ n) → (x ≤ n) ⊎ (y ≤ n)
either_way n a b x y p q (inl k) = inr (subst (λ m. m ≤ n) (sym q) k)
either_way n a b x y p q (inr k) = inl (subst (λ m. m ≤ n) (sym p) k)

module _ {D Dom EF : Type 0} where
  pub taken_back : (rs : List (OpeningRequest D EF)) (cs : List (Committed D Dom))
      → taken_from (lent_to rs cs) (taken_from rs cs) ≡ cs
  taken_back rs [] = refl
  taken_back [] (c ∷ cs) = refl
  taken_back (r ∷ rs) (c ∷ cs) = ap (λ ds. c ∷ ds) (taken_back rs cs)

  -- where as many spares were lent before
  pub requests_lent : (rs : List (OpeningRequest D EF)) (spares cs : List (Committed D Dom))
      (points : List (List (List EF))) → length spares ≡ length cs
      → map request rs ≡ requests_for spares points → map request (lent_to rs cs) ≡ requests_for cs points
  requests_lent [] [] [] points n e = refl
  requests_lent (r ∷ rs) [] [] points n e = e
  requests_lent rs (s ∷ spares) [] points n e = absurd (omega (arith, n))
  requests_lent rs [] (c ∷ cs) points n e = absurd (omega (arith, n))
  requests_lent [] (s ∷ spares) (c ∷ cs) [] n e = refl
  requests_lent (r ∷ rs) (s ∷ spares) (c ∷ cs) [] n e = cc
  requests_lent [] (s ∷ spares) (c ∷ cs) (zs ∷ points) n e = cc
  requests_lent (r ∷ rs) (s ∷ spares) (c ∷ cs) (zs ∷ points) n e =
      ap₂ (λ q qs. record { datum = c.«data»; points = q.points } ∷ qs) (head_eq e)
      (requests_lent rs spares cs points (omega (arith, n)) (tail_eq e))

  -- what has changed places from this one on
  abbrev pub taken_since : ℕ → List (OpeningRequest D EF) → List (Committed D Dom) → List (Committed D Dom)
  taken_since zero rs cs = taken_from rs cs
  taken_since (suc n) rs [] = []
  taken_since (suc n) [] (c ∷ cs) = c ∷ cs
  taken_since (suc n) (r ∷ rs) (c ∷ cs) = c ∷ taken_since n rs cs

  abbrev pub lent_since : ℕ → List (OpeningRequest D EF) → List (Committed D Dom) → List (OpeningRequest D EF)
  lent_since zero rs cs = lent_to rs cs
  lent_since (suc n) [] cs = []
  lent_since (suc n) (r ∷ rs) [] = r ∷ rs
  lent_since (suc n) (r ∷ rs) (c ∷ cs) = r ∷ lent_since n rs cs

  pub taken_step : (n : ℕ) (rs : List (OpeningRequest D EF)) (cs : List (Committed D Dom))
      (r new : OpeningRequest D EF) (c : Committed D Dom) → n < length rs → n < length cs
      → taken_since (suc n) (slice_set rs n new) (slice_set cs n (record (slice_index_or cs n c) {
        «data» = (slice_index_or rs n r).prover_data.now;
      })) ≡ taken_since n rs cs
  taken_step n rs [] r new c m k = absurd (omega (arith, k))
  taken_step n [] (d ∷ cs) r new c m k = absurd (omega (arith, m))
  taken_step zero (s ∷ rs) (d ∷ cs) r new c m k = refl
  taken_step (suc n) (s ∷ rs) (d ∷ cs) r new c m k =
      ap (λ ds. d ∷ ds) (taken_step n rs cs r new c (omega (arith, m)) (omega (arith, k)))

  pub lent_step : (n : ℕ) (rs : List (OpeningRequest D EF)) (cs : List (Committed D Dom))
      (r : OpeningRequest D EF) (c new : Committed D Dom) → n < length rs → n < length cs
      → lent_since (suc n) (slice_set rs n (with_data (λ _. (slice_index_or cs n c).«data») (slice_index_or rs n r)))
      (slice_set cs n new) ≡ lent_since n rs cs
  lent_step n [] cs r c new m k = absurd (omega (arith, m))
  lent_step n (s ∷ rs) [] r c new m k = absurd (omega (arith, k))
  lent_step zero (s ∷ rs) (d ∷ cs) r c new m k = refl
  lent_step (suc n) (s ∷ rs) (d ∷ cs) r c new m k =
      ap (λ qs. s ∷ qs) (lent_step n rs cs r c new (omega (arith, m)) (omega (arith, k)))

  -- nothing has once either ends
  pub taken_end : (n : ℕ) (rs : List (OpeningRequest D EF)) (cs : List (Committed D Dom))
      → (length rs ≤ n) ⊎ (length cs ≤ n) → taken_since n rs cs ≡ cs
  taken_end zero rs [] ends = refl
  taken_end zero [] (c ∷ cs) ends = refl
  taken_end zero (r ∷ rs) (c ∷ cs) (inl k) = absurd (omega (arith, k))
  taken_end zero (r ∷ rs) (c ∷ cs) (inr k) = absurd (omega (arith, k))
  taken_end (suc n) rs [] ends = refl
  taken_end (suc n) [] (c ∷ cs) ends = refl
  taken_end (suc n) (r ∷ rs) (c ∷ cs) (inl k) = ap (λ ds. c ∷ ds) (taken_end n rs cs (inl (omega (arith, k))))
  taken_end (suc n) (r ∷ rs) (c ∷ cs) (inr k) = ap (λ ds. c ∷ ds) (taken_end n rs cs (inr (omega (arith, k))))

  pub lent_end : (n : ℕ) (rs : List (OpeningRequest D EF)) (cs : List (Committed D Dom))
      → (length rs ≤ n) ⊎ (length cs ≤ n) → lent_since n rs cs ≡ rs
  lent_end zero [] cs ends = refl
  lent_end zero (r ∷ rs) [] ends = refl
  lent_end zero (r ∷ rs) (c ∷ cs) (inl k) = absurd (omega (arith, k))
  lent_end zero (r ∷ rs) (c ∷ cs) (inr k) = absurd (omega (arith, k))
  lent_end (suc n) [] cs ends = refl
  lent_end (suc n) (r ∷ rs) [] ends = refl
  lent_end (suc n) (r ∷ rs) (c ∷ cs) (inl k) = ap (λ qs. r ∷ qs) (lent_end n rs cs (inl (omega (arith, k))))
  lent_end (suc n) (r ∷ rs) (c ∷ cs) (inr k) = ap (λ qs. r ∷ qs) (lent_end n rs cs (inr (omega (arith, k))))
