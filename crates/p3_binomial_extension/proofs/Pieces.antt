-- Lists made of pieces of one length.
use Rattle.std.specs.Prelude.{ℕ, zero, suc, ◌+◌, ◌-◌, ◌*◌, ◌<◌, ◌≡◌, List, [], ◌∷◌, length, refl}
use Rattle.std.specs.Prelude.{take, drop}
use Rattle.std.specs.List.{flat_map}
use Rattle.std.proofs.Common.{◌++◌, sym, ◌∙◌, ap, ap₂, arith, get_or}
use Rattle.std.proofs.lemmas.List.{get_or_append_left, get_or-append_right}

module _ {A : Type 0} (f : A → List ℕ) (n : ℕ) (each : (x : A) → length (f x) ≡ n) where
  -- an entry is one of the piece that it lies in
  pub piece_entry : (xs : List A) (q r : ℕ) (e : A) → q < length xs → r < n
      → get_or (flat_map f xs) (q * n + r) 0 ≡ get_or (f (get_or xs q e)) r 0
  piece_entry [] q r e less small = absurd (omega (arith, less))
  piece_entry (x ∷ xs) zero r e less small =
      ap (λ i. get_or (flat_map f (x ∷ xs)) i 0) (let o : 0 * n + r ≡ r = omega arith in o)
      ∙ get_or_append_left (f x) (flat_map f xs) 0 r (omega (arith, each x, small))
  piece_entry (x ∷ xs) (suc q) r e less small =
      get_or-append_right (f x) (flat_map f xs) n (suc q * n + r) 0 (each x) (omega arith)
      ∙ ap (λ i. get_or (flat_map f xs) i 0)
      (let o : suc q * n + r - n ≡ q * n + r = omega arith in o)
      ∙ piece_entry xs q r e (omega (arith, less)) small

  -- equal lists of equally many pieces have equal pieces
  pub pieces_injective : ((x y : A) → f x ≡ f y → x ≡ y) → (xs ys : List A)
      → length xs ≡ length ys → flat_map f xs ≡ flat_map f ys → xs ≡ ys
  pieces_injective h [] [] l e = refl
  pieces_injective h [] (y ∷ ys) l e = absurd (omega (arith, l))
  pieces_injective h (x ∷ xs) [] l e = absurd (omega (arith, l))
  pieces_injective h (x ∷ xs) (y ∷ ys) l e =
      ap₂ (λ z zs. z ∷ zs)
      (h x y (sym (taken (f x) (flat_map f xs)) ∙ ap₂ take (each x ∙ sym (each y)) e ∙ taken (f y) (flat_map f ys)))
      (pieces_injective h xs ys (omega (arith, l))
      (sym (dropped (f x) (flat_map f xs)) ∙ ap₂ drop (each x ∙ sym (each y)) e ∙ dropped (f y) (flat_map f ys)))
    where
      taken : (pre rest : List ℕ) → take (length pre) (pre ++ rest) ≡ pre
      taken [] rest = refl
      taken (a ∷ pre) rest = ap (λ cs. a ∷ cs) (taken pre rest)

      dropped : (pre rest : List ℕ) → drop (length pre) (pre ++ rest) ≡ rest
      dropped [] rest = refl
      dropped (a ∷ pre) rest = dropped pre rest
