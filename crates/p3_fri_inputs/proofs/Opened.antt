-- Dimensions, indices and openings of the matrices under a commitment.
use Rattle.std.proofs.Common.{◌≡◌, ℕ, zero, suc, ◌+◌, ◌-◌, ◌/◌, ◌^◌, ◌<◌, ◌≤◌, max, List, [], ◌∷◌}
use Rattle.std.proofs.Common.{length, map, All, get_or, fold, subst, refl, sym, ap, ap₂, ◌∙◌, arith}
use Rattle.std.proofs.Common.{inl, inr, ◌↔◌}
use Rattle.std.specs.List.{AllZip, zip}
use Rattle.std.proofs.lemmas.Bool.{cases_lt}
use Rattle.std.proofs.lemmas.Nat.{shr_below}
use Rattle.std.proofs.lemmas.List.{length-map, get_or-map}
use Rattle.p3_matrix.specs.declared.Dimensions.{Dimensions}
use Rattle.p3_mmcs.specs.Batch.{max_height, AreBelow, HavePowerHeights}
use Rattle.p3_fri_relation.specs.Setting.{Opening, MatrixClaim, CommitmentClaim, InputOpening}
use Rattle.p3_fri_relation.specs.Faults.{At}
use Rattle.p3_fri_relation.specs.Heights.{log_height, greatest_height, dimensions, opened_index}
use Rattle.p3_fri_relation.specs.Inputs.{OpensInput}
use Rattle.p3_fri_inputs.proofs.LogHeights.{greatest_within}
use Rattle.p3_fri_inputs.proofs.Refutations.{length_zip, zip_at}
use Rattle.p3_mmcs.proofs.Heights.{max_height-positive}
use Rattle.algebra.proofs.Lists.{entry_of_map}

-- what holds of each pair holds place by place
pub all_zip_from : {X Y : Type 0} (R : X → Y → Type 0) (xs : List X) (ys : List Y)
    → length ys ≡ length xs
    → ((i : ℕ) → i < length xs → (d : X × Y)
    → R (get_or (zip xs ys) i d).0 (get_or (zip xs ys) i d).1) → AllZip R xs ys
all_zip_from R [] [] e h = tt
all_zip_from R [] (y ∷ ys) e h = absurd (omega (arith, e))
all_zip_from R (x ∷ xs) [] e h = absurd (omega (arith, e))
all_zip_from R (x ∷ xs) (y ∷ ys) e h = (
  h zero (omega arith) (x, y),
  all_zip_from R xs ys (omega (arith, e)) (λ i l d. h (suc i) (omega (arith, l)) d),
)

pub at_zip : {X Y : Type 0} (P : X × Y → Type 0) (xs : List X) (ys : List Y) (i : ℕ) (x : X) (y : Y)
    → length ys ≡ length xs → i < length xs → x ≡ get_or xs i x → y ≡ get_or ys i y → P (x, y)
    → At i P (zip xs ys)
at_zip P xs ys i x y e l is_x is_y p = (
  (x, y),
  omega (arith, l, length_zip xs ys e),
  zip_at xs ys i x y e l ∙ ap₂ (λ a b. (a, b)) (sym is_x) (sym is_y),
  p,
)

-- the same of the images of two lists
pub at_mapped_zip : {A B X Y : Type 0} (f : A → X) (g : B → Y) (P : X × Y → Type 0) (xs : List A)
    (ys : List B) (i : ℕ) {x : A} {y : B} → length ys ≡ length xs → i < length xs
    → x ≡ get_or xs i x → y ≡ get_or ys i y → P (f x, g y) → At i P (zip (map f xs) (map g ys))
at_mapped_zip f g P xs ys i {x = x} {y = y} e l is_x is_y =
    at_zip P (map f xs) (map g ys) i (f x) (g y)
    (length-map ys g ∙ e ∙ sym (length-map xs f)) (omega (arith, l, length-map xs f))
    (entry_of_map f xs i x l is_x) (entry_of_map g ys i y (omega (arith, l, e)) is_y)

-- the scheme on what equals a claim's dimensions, indices and rows
pub opened_as : {F E InCom InPath : Type 0} (opens : Opening F InCom InPath) (log_blowup top : ℕ)
    (positions : List ℕ) (claim : CommitmentClaim E InCom) (o : InputOpening F InPath)
    (dims : List Dimensions) (indices : List ℕ) (sets : List (List (List F)))
    → dims ≡ map (dimensions log_blowup) claim.matrices
    → indices ≡ map (opened_index log_blowup top claim.matrices) positions → sets ≡ o.rows
    → (opens claim.commitment dims indices sets o.path)
    ↔ OpensInput opens log_blowup top positions claim o
opened_as opens log_blowup top positions claim o dims indices sets d i s = (
  λ h. rw (d, i, s) at h,
  λ h. rw (d, i, s) h,
)

module _ (log_blowup : ℕ) {E : Type 0} where
  pub power_heights : (ms : List (MatrixClaim E)) → HavePowerHeights (map (dimensions log_blowup) ms)
  power_heights ms k d l =
      let m : MatrixClaim E = record { domain = 0; points = [] } in
      let below : k < length ms = omega (arith, l, length-map ms (dimensions log_blowup)) in (
        log_height log_blowup (get_or ms k m),
        ap (λ x. x.height) (get_or-map (dimensions log_blowup) ms k m d below),
      )

  highest : (n : ℕ) (ms : List (MatrixClaim E))
      → 2 ^ fold (λ h m. max h (log_height log_blowup m)) n ms
      ≤ max (2 ^ n) (max_height (map (dimensions log_blowup) ms))
  highest n [] = omega arith
  highest n (m ∷ ms) =
      let h = log_height log_blowup m in
      elim (cases_lt n h) [
        | inl l ↦
            let top : max n h ≡ h = omega arith in
            omega (arith, highest (max n h) ms, ap (λ k. 2 ^ k) top)
        | inr l ↦
            let top : max n h ≡ n = omega arith in
            omega (arith, highest (max n h) ms, ap (λ k. 2 ^ k) top)
      ]

  -- where there is no matrix, the shift leaves nothing of a position
  pub opened_by_shift : (ms : List (MatrixClaim E)) (top position : ℕ) → position < 2 ^ top
      → position / 2 ^ (top - greatest_height log_blowup ms) ≡ opened_index log_blowup top ms position
  opened_by_shift [] top position l =
      let small : position < 2 ^ (0 + top) =
      let zero_plus : 0 + top ≡ top = omega arith in
      subst (λ n. position < 2 ^ n) (sym zero_plus) l in
      let all : top - 0 ≡ top = omega arith in
      ap (λ n. position / 2 ^ n) all ∙ omega (arith, shr_below position 0 top small)
  opened_by_shift (m ∷ ms) top position l = refl

  pub indices_below : (ms : List (MatrixClaim E)) (top : ℕ) (positions : List ℕ)
      → All (λ m. log_height log_blowup m ≤ top) ms → AreBelow (2 ^ top) positions
      → AreBelow (max_height (map (dimensions log_blowup) ms))
      (map (opened_index log_blowup top ms) positions)
  indices_below [] top positions heights below k d l =
      let j : k < length positions = omega (arith, l, length-map positions (opened_index log_blowup {E = E} top [])) in
      omega (arith, get_or-map (opened_index log_blowup {E = E} top []) positions k d d j)
  indices_below (m ∷ ms) top positions heights below k d l =
      let all = m ∷ ms in
      let j : k < length positions = omega (arith, l, length-map positions (opened_index log_blowup top all)) in
      let high = greatest_height log_blowup all in
      let within = greatest_within log_blowup top all heights in
      let sum : top ≡ high + (top - high) = omega (arith, within) in
      let small : get_or positions k d < 2 ^ (high + (top - high)) =
      subst (λ n. get_or positions k d < 2 ^ n) sum (below k d j) in
      omega (
        arith,
        get_or-map (opened_index log_blowup top all) positions k d d j,
        shr_below (get_or positions k d) high (top - high) small,
        highest 0 all,
        max_height-positive (map (dimensions log_blowup) all),
      )
