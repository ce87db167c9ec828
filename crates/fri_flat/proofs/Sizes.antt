-- How long forms are.
use Rattle.std.proofs.Common.{◌≡◌, ℕ, ◌*◌, List, [], ◌∷◌, ◌++◌, length, arith, ap, refl, ◌∙◌}
use Rattle.std.proofs.Math.Nat.{mul-suc}
use Rattle.std.proofs.lemmas.List.{length-append}
use Rattle.fri_flat.specs.declared.layout.Layout.{Layout}
use Rattle.fri_flat.specs.declared.layout.Width.{Width}
use Rattle.fri_flat.specs.declared.layout.Width.TheVariants.{Four, Eight}
use Rattle.fri_flat.specs.Flat.{number_in, number_size, number, numbers, element_size}

length-number : (w : Width) (n : ℕ) → length (number_in w n) ≡ number_size w
length-number Four n = refl
length-number Eight n = refl

-- numbers take as many bytes each
pub length-numbers : (l : Layout) (ns : List ℕ)
    → length (numbers l ns) ≡ number_size l.width * length ns
length-numbers l [] = omega arith
length-numbers l (n ∷ ns) = omega (
  arith,
  length-append (number l n) (numbers l ns),
  length-number l.width n,
  length-numbers l ns,
  mul-suc (number_size l.width) (length ns),
)

-- the numbers of an element after nothing
pub length-element : (l : Layout) (bytes before ns : List ℕ) → bytes ≡ before ++ numbers l ns
    → before ≡ [] → length ns ≡ l.degree → length bytes ≡ element_size l
length-element l bytes before ns parts nothing count =
    ap length (parts ∙ ap (λ (x : List ℕ). x ++ numbers l ns) nothing)
    ∙ length-numbers l ns ∙ ap (λ (n : ℕ). number_size l.width * n) count
