-- One matrix that was committed to, opened at one point.
use Rattle.std.proofs.Common.{◌≡◌, ℕ, ◌^◌, List, [], ◌∷◌, map, All, zero, refl, sym, ap, subst, ◌∙◌, arith}
use Rattle.std.specs.List.{AllZip}
use Rattle.algebra.specs.Field.{IsRing, IsHomomorphism}
use Rattle.algebra.specs.Polynomial.{val, tabulate}
use Rattle.algebra.specs.Quotients.{values_at}
use Rattle.algebra.proofs.Values.{homomorphism-val}
use Rattle.algebra.proofs.Lists.{all-one}
use Rattle.p3_matrix.specs.declared.dense.RowMajorMatrix.{RowMajorMatrix}
use Rattle.p3_dft.specs.Evaluations.{column}
use Rattle.p3_dft.proofs.Columns.{Holds}
use Rattle.p3_dft.proofs.SingleColumns.{column-single}
use Rattle.p3_pcs.specs.Claims.{Claim, zip_with, matrix_claims}
use Rattle.p3_pcs.specs.Requests.{Held, Request, honest_values, honest_claims}
use Rattle.p3_fri_relation.specs.Setting.{Fields}
use Rattle.p3_fri_openings.proofs.Log2.{log2_is}
use Rattle.p3_fri_extensions.specs.Extension.{polynomial_on}
use Rattle.p3_fri_two_adic.specs.Held.{Extends}
use Rattle.fri_example.specs.Opened.{single_claim}

-- a power of two has one logarithm
pub same_log : (n j k : ℕ) → 2 ^ j ≡ n → n ≡ 2 ^ k → j ≡ k
same_log n j k e d = log2_is n j e ∙ sym (log2_is n k (sym d))

-- of data that extends one matrix
module _ {EF Matrix : Type 0} (R : Held EF → Matrix → Type 0) (matrix : Matrix) where
  sizes_once : (size : ℕ) → ((m : Held EF) → R m matrix → m.size ≡ size) → (hs : List (Held EF))
      → AllZip R hs (matrix ∷ []) → map (λ m. m.size) hs ≡ size ∷ []
  sizes_once size is [] z = absurd z
  sizes_once size is (m ∷ []) z = ap (λ n. n ∷ []) (is m z.0)
  sizes_once size is (m ∷ n ∷ more) z = absurd z.1

  -- the size
  pub held_sizes : (size : ℕ) → ((m : Held EF) → R m matrix → m.size ≡ size)
      → (hs : List (Held EF)) (matrices : List Matrix) → matrices ≡ matrix ∷ []
      → AllZip R hs matrices → map (λ m. m.size) hs ≡ size ∷ []
  held_sizes size is hs matrices are z =
      sizes_once size is hs (subst (λ ms. AllZip R hs ms) are z)

  -- what it has at a point, where that is one value
  pub value_held : (point x y : EF) (hs : List (Held EF)) → AllZip R hs (matrix ∷ [])
      → ((m : Held EF) → R m matrix → m.values_at point ≡ x ∷ [])
      → All (λ m. m.values_at point ≡ y ∷ []) hs → y ≡ x
  value_held point x y [] z every are = absurd z
  value_held point x y (m ∷ []) z every are =
      let is : m.values_at point ≡ x ∷ [] = every m z.0 in
      let same : m.values_at point ≡ y ∷ [] = are zero m (omega arith) in
      cc
  value_held point x y (m ∷ n ∷ more) z every are = absurd z.1

-- lists of one entry are equal by it
pub same_entry : {A : Type 0} (x y : A) → x ∷ [] ≡ y ∷ [] → x ≡ y
same_entry x y e = cc

-- of data of one matrix that is opened at one point to one value
module _ {EF : Type 0} (point y : EF) where
  pub one_value : (size : ℕ) (hs : List (Held EF)) → map (λ m. m.size) hs ≡ size ∷ []
      → zip_with (λ m zs. map m.values_at zs) hs ((point ∷ []) ∷ []) ≡ ((y ∷ []) ∷ []) ∷ []
      → All (λ m. m.values_at point ≡ y ∷ []) hs
  one_value size [] sizes values = let none : ⊥ = cc in absurd none
  one_value size (m ∷ []) sizes values =
      let same : m.values_at point ≡ y ∷ [] = cc in
      all-one (λ m. m.values_at point ≡ y ∷ []) (m ∷ []) m refl same
  one_value size (m ∷ n ∷ more) sizes values = let more_than_one : ⊥ = cc in absurd more_than_one

  abbrev asked : {D : Type 0} → D → Request D EF
  asked datum = record { datum = datum; points = (point ∷ []) ∷ [] }

  abbrev claim_with : {Com Domain : Type 0} → Com → List Domain → List (List (List EF))
      → List (Claim EF Com Domain)
  claim_with commitment domains values = (record {
    commitment = commitment;
    matrices = matrix_claims domains ((point ∷ []) ∷ []) values;
  }) ∷ []

  -- the honest claims are the one claim
  pub one_claim : {D Com Domain : Type 0} (held : D → List (Held EF)) (commitment_of : D → Com)
      (datum : D) (commitment : Com) (domain : Domain) (domains : List Domain)
      → commitment_of datum ≡ commitment → domains ≡ domain ∷ []
      → honest_values held (asked datum) ≡ ((y ∷ []) ∷ []) ∷ []
      → honest_claims held commitment_of (domains ∷ []) (asked datum ∷ [])
      ≡ single_claim commitment domain point y ∷ []
  one_claim held commitment_of datum commitment domain domains committed on values =
      ap (λ c. claim_with c domains (honest_values held (asked datum))) committed
      ∙ ap (λ ds. claim_with commitment ds (honest_values held (asked datum))) on
      ∙ ap (λ vs. claim_with commitment (domain ∷ []) vs) values

-- the value at a point of the base field of the polynomial that has one column
module _ {F E : Type 0} (f : Fields F E) (R : IsRing f.base) (S : IsRing f.ext)
    (H : IsHomomorphism f.base f.ext f.lift) (shift : F) (k : ℕ) (values : RowMajorMatrix F)
    (ys : List F) (holds : Holds values 1 (2 ^ k) ys) (z : F) (m : Held E) where
  abbrev pub value : F
  value = val f.base (polynomial_on f.base f.root shift k ys) z

  value_there : Extends f shift k values m → m.values_at (f.lift z) ≡ f.lift value ∷ []
  value_there extends =
      extends.polynomials.values (f.lift z)
      ∙ ap (λ n. values_at f.base f.ext f.lift (tabulate n (λ j. polynomial_on f.base f.root shift k (column f.base values j))) (f.lift z)) holds.columns
      ∙ ap (λ c. val f.ext (map f.lift (polynomial_on f.base f.root shift k c)) (f.lift z) ∷ []) (column-single f.base values (2 ^ k) ys holds)
      ∙ ap (λ v. v ∷ []) (sym (homomorphism-val f.base f.ext f.lift R S H (polynomial_on f.base f.root shift k ys) z))

  pub held_value : (s : F) (n : ℕ) (point : E) → Extends f s n values m → s ≡ shift → n ≡ k
      → point ≡ f.lift z → m.values_at point ≡ f.lift value ∷ []
  held_value s n point extends shifted sized lifted =
      ap m.values_at lifted
      ∙ value_there (subst (λ t. Extends f t k values m) shifted
      (subst (λ j. Extends f s j values m) sized extends))
