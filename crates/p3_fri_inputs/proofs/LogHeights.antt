-- Which log heights there are, and the greatest.
use Rattle.std.proofs.Common.{◌≡◌, ◌||◌, ℕ, zero, suc, ◌+◌, ◌-◌, ◌<◌, ◌≤◌, max, Bool}
use Rattle.std.proofs.Common.{false, cond, eqb, List, [], ◌∷◌, ◌++◌, All, get_or, fold}
use Rattle.std.proofs.Common.{refl, sym, ap, ◌∙◌, arith, inl, inr, add-one, append_assoc}
use Rattle.std.specs.List.{flat_map, list_any}
use Rattle.std.proofs.lemmas.Bool.Decides.{eqb_tells}
use Rattle.std.proofs.lemmas.List.Folds.{list_any-append, list_any_none}
use Rattle.p3_fri_relation.specs.Setting.{MatrixClaim}
use Rattle.p3_fri_relation.specs.Heights.{log_height, has_height, heights_below, heights_of}
use Rattle.p3_fri_relation.specs.Heights.{greatest_height}
use Rattle.p3_fri_relation.proofs.ClaimedHeights.{greatest_height-bounds}

pub any_joined : {X A : Type 0} (p : A → Bool) (g : X → List A) (xs : List X)
    → list_any p (flat_map g xs) ≡ list_any (λ x. list_any p (g x)) xs
any_joined p g [] = refl
any_joined p g (x ∷ xs) =
    list_any-append p (g x) (flat_map g xs)
    ∙ ap (λ b. list_any p (g x) || b) (any_joined p g xs)

module _ (log_blowup : ℕ) {E : Type 0} where
  least_bound : (n bound : ℕ) (ms : List (MatrixClaim E)) → n ≤ bound
      → All (λ m. log_height log_blowup m ≤ bound) ms
      → fold (λ h m. max h (log_height log_blowup m)) n ms ≤ bound
  least_bound n bound [] l h = l
  least_bound n bound (m ∷ ms) l h =
      least_bound (max n (log_height log_blowup m)) bound ms (omega (arith, l, h zero m (omega arith)))
      (λ k d q. h (suc k) d (omega (arith, q)))

  -- what no height is above, the greatest isn't
  pub greatest_within : (bound : ℕ) (ms : List (MatrixClaim E))
      → All (λ m. log_height log_blowup m ≤ bound) ms → greatest_height log_blowup ms ≤ bound
  greatest_within bound ms h = least_bound 0 bound ms (omega arith) h

  pub none_above : (ms : List (MatrixClaim E)) (n : ℕ) → greatest_height log_blowup ms < n
      → has_height log_blowup ms n ≡ false
  none_above ms n l = list_any_none (λ m. eqb (log_height log_blowup m) n) ms
      (λ k d q. differ (log_height log_blowup (get_or ms k d)) (greatest_height-bounds log_blowup ms k d q))
    where
      differ : (h : ℕ) → h ≤ greatest_height log_blowup ms → eqb h n ≡ false
      differ h q = elim (eqb_tells h n) [ inl e ↦ absurd (omega (arith, e.1, q, l)) | inr e ↦ e.0 ]

  -- above the greatest nothing comes in
  pub heights_from : (ms : List (MatrixClaim E)) (extra : ℕ)
      → heights_below log_blowup ms (suc (greatest_height log_blowup ms) + extra)
      ≡ heights_of log_blowup ms
  heights_from ms zero = let whole : suc (greatest_height log_blowup ms) + zero ≡ suc (greatest_height log_blowup ms) = omega arith in
      ap (λ n. heights_below log_blowup ms n) whole
  heights_from ms (suc extra) =
      let n = suc (greatest_height log_blowup ms) + extra in
      let next : suc (greatest_height log_blowup ms) + suc extra ≡ suc n = omega arith in
      ap (λ n. heights_below log_blowup ms n) next
      ∙ ap (λ b. cond b (n ∷ []) [] ++ heights_below log_blowup ms n)
      (none_above ms n (omega arith))
      ∙ heights_from ms extra

  pub heights_whole : (ms : List (MatrixClaim E)) (bound : ℕ)
      → All (λ m. log_height log_blowup m ≤ bound) ms
      → heights_below log_blowup ms (bound + 1) ≡ heights_of log_blowup ms
  heights_whole ms bound h =
      let high = greatest_within bound ms h in
      let split : bound + 1 ≡ suc (greatest_height log_blowup ms) + (bound - greatest_height log_blowup ms) =
      omega (arith, high) in
      ap (λ n. heights_below log_blowup ms n) split
      ∙ heights_from ms (bound - greatest_height log_blowup ms)

  -- one log height less
  pub heights_less : (ms : List (MatrixClaim E)) (k h : ℕ) → k ≡ h + 1
      → heights_below log_blowup ms k
      ≡ cond (has_height log_blowup ms h) (h ∷ []) [] ++ heights_below log_blowup ms h
  heights_less ms k h e = ap (λ n. heights_below log_blowup ms n) (e ∙ add-one h)

  pub higher_next : (ms : List (MatrixClaim E)) (k h : ℕ) (so_far whole : List ℕ) → k ≡ h + 1
      → whole ≡ so_far ++ heights_below log_blowup ms k
      → whole ≡ (so_far ++ cond (has_height log_blowup ms h) (h ∷ []) [])
      ++ heights_below log_blowup ms h
  higher_next ms k h so_far whole e w =
      w ∙ ap (λ xs. so_far ++ xs) (heights_less ms k h e)
      ∙ sym (append_assoc so_far (cond (has_height log_blowup ms h) (h ∷ []) [])
      (heights_below log_blowup ms h))
