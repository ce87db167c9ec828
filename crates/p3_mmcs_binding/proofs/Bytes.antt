-- What encodings one behind the other determine.
use Rattle.std.proofs.Common.{◌≡◌, ℕ, List, [], ◌∷◌, ◌++◌, length}
use Rattle.std.proofs.Common.{refl, sym, ap, ap₂, ◌∙◌, arith, length-append, append_assoc}
use Rattle.std.proofs.Math.Decide.{ℕ_discrete}
use Rattle.algebra.proofs.Lists.{head_eq, tail_eq}
use Rattle.std.specs.List.{flat_map}
use Rattle.std.specs.Int.{w64, to_le_bytes}
use Rattle.p3_matrix.specs.declared.Dimensions.{Dimensions}
use Rattle.p3_mmcs.specs.Batch.{HasRows}
use Rattle.p3_mmcs.specs.Tree.{row_bytes}
use Rattle.p3_mmcs_binding.specs.Collisions.{leaf_message}

-- equality of byte strings is decided
pub decided : (xs ys : List ℕ) → Dec (xs ≡ ys)
decided [] [] = yes refl
decided [] (y ∷ ys) = no (λ e. absurd cc)
decided (x ∷ xs) [] = no (λ e. absurd cc)
decided (x ∷ xs) (y ∷ ys) = elim (ℕ_discrete x y) [
  | no n ↦ no (λ e. n (cc))
  | yes p ↦ elim (decided xs ys) [
    | no n ↦ no (λ e. n (cc))
    | yes q ↦ yes (ap₂ (λ z zs. z ∷ zs) p q)
  ]
]

-- fronts of one length, and what is behind them
pub fronts : (xs ys us vs : List ℕ) → length xs ≡ length ys → xs ++ us ≡ ys ++ vs
    → (xs ≡ ys) × (us ≡ vs)
fronts [] [] us vs n e = (refl, e)
fronts [] (y ∷ ys) us vs n e = absurd (omega (arith, n))
fronts (x ∷ xs) [] us vs n e = absurd (omega (arith, n))
fronts (x ∷ xs) (y ∷ ys) us vs n e =
    let rest = fronts xs ys us vs (omega (arith, n)) (tail_eq e) in
    (ap₂ (λ z zs. z ∷ zs) (head_eq e) rest.0, rest.1)

-- what is behind, of one length
pub behind : (us vs xs ys : List ℕ) → length xs ≡ length ys → us ++ xs ≡ vs ++ ys → xs ≡ ys
behind us vs xs ys n e =
    (fronts us vs xs ys (omega (arith, n, ap length e, length-append us xs, length-append vs ys)) e).1

module _ {T : Type 0} (bytes : T → List ℕ) (width : ℕ) (long : (x : T) → length (bytes x) ≡ width)
    (injective : (x y : T) → bytes x ≡ bytes y → x ≡ y) where
  -- rows of one length are told by their elements' bytes, and so is what is behind them
  row_told : (xs ys : List T) (us vs : List ℕ) → length xs ≡ length ys
      → flat_map bytes xs ++ us ≡ flat_map bytes ys ++ vs → (xs ≡ ys) × (us ≡ vs)
  row_told [] [] us vs n e = (refl, e)
  row_told [] (y ∷ ys) us vs n e = absurd (omega (arith, n))
  row_told (x ∷ xs) [] us vs n e = absurd (omega (arith, n))
  row_told (x ∷ xs) (y ∷ ys) us vs n e =
      let first = fronts (bytes x) (bytes y) (flat_map bytes xs ++ us) (flat_map bytes ys ++ vs)
      (long x ∙ sym (long y))
      (sym (append_assoc (bytes x) (flat_map bytes xs) us) ∙ e
      ∙ append_assoc (bytes y) (flat_map bytes ys) vs) in
      let rest = row_told xs ys us vs (omega (arith, n)) first.1 in
      (ap₂ (λ z zs. z ∷ zs) (injective x y first.0) rest.0, rest.1)

  -- so are sets of rows of the same widths
  pub set_told : (dims : List Dimensions) (set other : List (List T)) → HasRows dims set
      → HasRows dims other → flat_map (row_bytes bytes) set ≡ flat_map (row_bytes bytes) other
      → set ≡ other
  set_told [] [] [] h k e = refl
  set_told [] [] (r ∷ other) h k e = absurd k
  set_told [] (r ∷ set) other h k e = absurd h
  set_told (d ∷ dims) [] other h k e = absurd h
  set_told (d ∷ dims) (r ∷ set) [] h k e = absurd k
  set_told (d ∷ dims) (r ∷ set) (q ∷ other) h k e =
      let same : length r ≡ length q = h.0 ∙ sym k.0 in
      let rest = flat_map (row_bytes bytes) set in
      let others = flat_map (row_bytes bytes) other in
      let first = fronts (to_le_bytes w64 (length r)) (to_le_bytes w64 (length q))
      (flat_map bytes r ++ rest) (flat_map bytes q ++ others)
      (ap (λ n. length (to_le_bytes w64 n)) same)
      (sym (append_assoc (to_le_bytes w64 (length r)) (flat_map bytes r) rest) ∙ e
      ∙ append_assoc (to_le_bytes w64 (length q)) (flat_map bytes q) others) in
      let row = row_told r q rest others same first.1 in
      ap₂ (λ z zs. z ∷ zs) row.0 (set_told dims set other h.1 k.1 row.1)

  -- and a leaf's message tells its rows
  pub leaf_told : (dims : List Dimensions) (set other : List (List T)) → HasRows dims set
      → HasRows dims other → leaf_message bytes set ≡ leaf_message bytes other → set ≡ other
  leaf_told dims set other h k e = set_told dims set other h k (tail_eq e)
