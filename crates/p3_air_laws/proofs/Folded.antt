-- The constraints' sum by powers of a challenge: its degree, and what its zeros say.
use Rattle.std.proofs.Common.{◌≡◌, ℕ, ◌≤◌, List, [], ◌∷◌, length, map, reverse}
use Rattle.std.proofs.Common.{sym, ap, ap₂, subst, ◌∙◌, arith}
use Rattle.std.proofs.lemmas.List.{length-map, length-reverse, reverse-reverse}
use Rattle.algebra.proofs.RingLaws.{mul_zero}
use Rattle.std.proofs.lemmas.Grind.{reverse_onto}
use Rattle.algebra.specs.Field.{FieldOps, IsField}
use Rattle.algebra.specs.Polynomial.{val}
use Rattle.algebra.proofs.Lists.{Each, Distinct, each-append}
use Rattle.algebra.proofs.Values.{val-nil, val-cons}
use Rattle.algebra.proofs.Roots.{zero_from_roots}
use Rattle.stark_algebra.specs.Degrees.{HasDegreeBelow}
use Rattle.stark_algebra.proofs.Degrees.{degree-same, degree-zero, degree-add, degree-scale}

pub each-reverse : {X : Type 0} (P : X → Type 0) (xs : List X) → Each P xs → Each P (reverse xs)
each-reverse P [] h = tt
each-reverse P (x ∷ xs) h = subst (λ ys. Each P ys) (sym (reverse_onto xs x []))
    (each-append P (reverse xs) (x ∷ []) (each-reverse P xs h.1) (h.0, tt))

pub each-map : {X Y : Type 0} (P : Y → Type 0) (f : X → Y) (xs : List X) → Each P (map f xs)
    → Each (λ x. P (f x)) xs
each-map P f [] h = tt
each-map P f (x ∷ xs) h = (h.0, each-map P f xs h.1)

pub each-mapped : {X Y : Type 0} (P : Y → Type 0) (f : X → Y) (xs : List X) → Each (λ x. P (f x)) xs
    → Each P (map f xs)
each-mapped P f [] h = tt
each-mapped P f (x ∷ xs) h = (h.0, each-mapped P f xs h.1)

pub each-weaker : {X : Type 0} (P Q : X → Type 0) → ((x : X) → P x → Q x) → (xs : List X) → Each P xs → Each Q xs
each-weaker P Q f [] h = tt
each-weaker P Q f (x ∷ xs) h = (f x h.0, each-weaker P Q f xs h.1)

module _ {A X : Type 0} (K : FieldOps A) (M : IsField K) (f : X → A → A) where
  open K use {zero as 𝟘}

  pub fold-degree : (d : ℕ) (alpha : A) (cs : List X) → Each (λ c. HasDegreeBelow K d (f c)) cs
      → HasDegreeBelow K d (λ z. val K (map (λ c. f c z) cs) alpha)
  fold-degree d alpha [] h = degree-same K M.ring (λ z. 𝟘) (λ z. val K [] alpha) (λ z. val-nil K M.ring alpha) (degree-zero K M.ring d)
  fold-degree d alpha (c ∷ cs) h =
      degree-same K M.ring (λ z. K.add (f c z) (K.mul alpha (val K (map (λ c. f c z) cs) alpha)))
      (λ z. val K (map (λ c. f c z) (c ∷ cs)) alpha)
      (λ z. val-cons K M.ring (f c z) (map (λ c. f c z) cs) alpha)
      (degree-add K M.ring d (f c) (λ z. K.mul alpha (val K (map (λ c. f c z) cs) alpha)) h.0
      (degree-scale K M.ring d alpha (λ z. val K (map (λ c. f c z) cs) alpha) (fold-degree d alpha cs h.1)))

  -- where all terms are zero, so is the sum
  pub fold-zero : (alpha z : A) (cs : List X) → Each (λ c. f c z ≡ 𝟘) cs → val K (map (λ c. f c z) cs) alpha ≡ 𝟘
  fold-zero alpha z [] h = val-nil K M.ring alpha
  fold-zero alpha z (c ∷ cs) h = val-cons K M.ring (f c z) (map (λ c. f c z) cs) alpha
      ∙ ap₂ (λ a v. K.add a (K.mul alpha v)) h.0 (fold-zero alpha z cs h.1)
      ∙ nothing
    where
      nothing : K.add 𝟘 (K.mul alpha 𝟘) ≡ 𝟘
      nothing = ap (λ a. K.add 𝟘 a) (mul_zero K M.ring alpha) ∙ M.add_zero 𝟘

  -- and it is zero at as many challenges as there are terms only there
  pub terms-zero : (z : A) (cs : List X) (alphas : List A) → Distinct alphas → length cs ≤ length alphas
      → Each (λ alpha. val K (map (λ c. f c z) (reverse cs)) alpha ≡ 𝟘) alphas → Each (λ c. f c z ≡ 𝟘) cs
  terms-zero z cs alphas distinct enough zeros =
      subst (λ ys. Each (λ c. f c z ≡ 𝟘) ys) (reverse-reverse cs)
      (each-reverse (λ c. f c z ≡ 𝟘) (reverse cs)
      (each-map (λ a. a ≡ 𝟘) (λ c. f c z) (reverse cs)
      (zero_from_roots K M (map (λ c. f c z) (reverse cs)) alphas
      (omega (arith, length-map (reverse cs) (λ c. f c z), length-reverse cs, enough)) distinct zeros)))
