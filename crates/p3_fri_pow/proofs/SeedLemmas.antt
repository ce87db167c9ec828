-- What the streams of a low-degree test and of an opening share: a proof of work that may be
-- there, and lists of numbers.
use Rattle.std.proofs.Common.{◌≡◌, ℕ, zero, suc, List, [], ◌∷◌, ◌++◌, map, refl, ap, arith}
use Rattle.std.specs.List.{All}
use Rattle.std.proofs.lemmas.List.Elements.{All-nil, All-cons, All-head, All-tail}
use Rattle.p3_challenger_fs.specs.declared.pattern.Hierarchy.TheVariants.{Atomic}
use Rattle.p3_challenger_fs.specs.declared.pattern.Kind.TheVariants.{Challenge, Pow}
use Rattle.p3_challenger_fs.specs.declared.pattern.TypeTag.TheVariants.{Algebra}
use Rattle.p3_challenger_fs.specs.declared.pattern.Length.TheVariants.{Fixed}
use Rattle.p3_challenger_fs.specs.Pattern.{Step, number_bytes}
use Rattle.p3_challenger_fs.specs.StreamLaws.{FitsNumber, FitsText}
use Rattle.p3_challenger_fs.proofs.Streams.{FitsWhole, cons_equal}
use Rattle.p3_challenger_fs.proofs.Streams.{number_injective}
use Rattle.p3_fri_pow.specs.Steps.{pow_steps}

abbrev pub pow_step : List ℕ → ℕ → Step
pow_step label bits = record { hierarchy = Atomic; kind = Pow; type_tag = Algebra 1; label = label; length = Fixed bits }

-- equal steps have equal numbers
pub count_equal : (s t : Step) (m n : ℕ) → s ≡ t → s.length ≡ Fixed m → t.length ≡ Fixed n → m ≡ n
count_equal s t m n e f g = let h = ap (λ (x : Step). x.length) e in cc

-- and are of one kind
pub kind_equal : (s t : Step) → s ≡ t → s.kind ≡ t.kind
kind_equal s t e = ap (λ (x : Step). x.kind) e

-- a challenge behind a proof of work that may be there
pub pow_determined : (label : List ℕ) (m n : ℕ) (x y : Step) (u v : List Step)
    → x.kind ≡ Challenge → y.kind ≡ Challenge
    → pow_steps label m ++ x ∷ u ≡ pow_steps label n ++ y ∷ v → (m ≡ n) × (x ≡ y) × (u ≡ v)
pow_determined label zero zero x y u v k l e = (refl, cc, cc)
pow_determined label zero (suc n) x y u v k l e = let h = kind_equal x (pow_step label (suc n)) cc in absurd cc
pow_determined label (suc m) zero x y u v k l e = let h = kind_equal (pow_step label (suc m)) y cc in absurd cc
pow_determined label (suc m) (suc n) x y u v k l e =
    let same : pow_step label (suc m) ≡ pow_step label (suc n) = cc in
    (count_equal (pow_step label (suc m)) (pow_step label (suc n)) (suc m) (suc n) same refl refl, cc, cc)

pub pow_fits : (label : List ℕ) (bits : ℕ) → FitsText label → FitsNumber bits
    → All FitsWhole (pow_steps label bits)
pow_fits label zero l b = All-nil FitsWhole
pow_fits label (suc n) l b =
    All-cons FitsWhole (pow_step label (suc n)) [] (record { numbers = record { type_tag = omega arith; length = b }; label = l }) (All-nil FitsWhole)

-- numbers as labels
pub labels_fit : (xs : List ℕ) → All FitsText (map number_bytes xs)
labels_fit [] = All-nil FitsText
labels_fit (x ∷ xs) = All-cons FitsText (number_bytes x) (map number_bytes xs) (omega arith) (labels_fit xs)

pub labels_determined : (xs ys : List ℕ) → All FitsNumber xs → All FitsNumber ys
    → map number_bytes xs ≡ map number_bytes ys → xs ≡ ys
labels_determined [] [] p q e = refl
labels_determined [] (y ∷ ys) p q e = absurd cc
labels_determined (x ∷ xs) [] p q e = absurd cc
labels_determined (x ∷ xs) (y ∷ ys) p q e =
    cons_equal x y xs ys (number_injective x y (All-head FitsNumber x xs p) (All-head FitsNumber y ys q) cc)
    (labels_determined xs ys (All-tail FitsNumber x xs p) (All-tail FitsNumber y ys q) cc)
