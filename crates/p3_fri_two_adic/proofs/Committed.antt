-- What a commitment to low-degree extensions holds.
use Rattle.std.proofs.Common.{◌≡◌, ◌≢◌, ℕ, ◌+◌, ◌*◌, ◌/◌, ◌^◌, ◌<◌, ◌≤◌, List, [], ◌∷◌, length, map}
use Rattle.std.proofs.Common.{All, get_or, refl, sym, ap, ap₂, ◌∙◌, subst, arith}
use Rattle.std.specs.List.{AllZip}
use Rattle.std.proofs.lemmas.List.{length-map}
use Rattle.algebra.specs.Field.{IsField}
use Rattle.algebra.specs.Polynomial.{tabulate}
use Rattle.algebra.specs.Interpolation.{Interpolates}
use Rattle.algebra.specs.TwoAdic.{AreRoots}
use Rattle.algebra.specs.Quotients.{values_at}
use Rattle.algebra.specs.Words.{IsCosetWord}
use Rattle.algebra.proofs.Lists.{Each, each_from_All, All_from_each, length-tabulate}
use Rattle.algebra.proofs.Lists.{tabulate-equal, distinct_from_AllPairs}
use Rattle.algebra.proofs.Interpolation.{interpolant_interpolates}
use Rattle.p3_field_core.specs.Coset.{coset_point, coset_points}
use Rattle.p3_field_core.proofs.Cosets.{natural_distinct}
use Rattle.p3_matrix.specs.declared.dense.RowMajorMatrix.{RowMajorMatrix}
use Rattle.p3_matrix.specs.Matrix.{rows, matrix_width}
use Rattle.p3_dft.specs.Evaluations.{column}
use Rattle.p3_fri_extensions.specs.Extension.{FitsDomain, IsLowDegreeExtension, polynomial_on}
use Rattle.p3_fri_relation.specs.Setting.{Fields}
use Rattle.p3_fri_openings.specs.Log2.{log2}
use Rattle.p3_fri_openings.specs.Rounds.{HasCoset}
use Rattle.p3_fri_openings.specs.Committed.{committed_column}
use Rattle.p3_fri_openings.proofs.Committed.{committed_is}
use Rattle.p3_fri_openings.proofs.Log2.{log2-pow, pow-divided}
use Rattle.p3_fri_openings.specs.Held.{held_in, HoldsWords}
use Rattle.p3_pcs.specs.Requests.{Held}
use Rattle.p3_stark_pcs.specs.Evaluations.{HasPolynomials}
use Rattle.p3_fri_two_adic.specs.Chunks.{polynomials_on}
use Rattle.p3_fri_two_adic.specs.Ldes.{HasLdeHeight}

module _ {F E : Type 0} (f : Fields F E) (L : IsField f.base)
    (W : AreRoots f.base f.two_adicity f.root)
    (nonzero : f.shift ≢ f.base.zero) (b : ℕ) where
  -- of a matrix that was extended from the coset of the shift `s` and of `2^k` points
  module _ (s : F) (off_zero : s ≢ f.base.zero) (k : ℕ) (values matrix : RowMajorMatrix F)
      (fits : FitsDomain f.two_adicity b k values)
      (extended : IsLowDegreeExtension f.base f.root f.shift b s k values matrix) where
    abbrev polynomial : ℕ → List F
    polynomial j = polynomial_on f.base f.root s k (column f.base values j)

    -- the polynomial of a column has its values on the domain
    pub interpolates : (j : ℕ) → Interpolates f.base (coset_points f.base (f.root k) s k)
        (column f.base values j) (polynomial j)
    interpolates j = interpolant_interpolates f.base L (coset_points f.base (f.root k) s k)
        (column f.base values j)
        (length-tabulate (2 ^ k) (coset_point f.base (f.root k) s) ∙ sym fits.height
        ∙ sym (column_length values j))
        (distinct_from_AllPairs (coset_points f.base (f.root k) s k)
        (natural_distinct f.base L f.two_adicity f.root W k (omega
        (arith, fits.within)) s off_zero))
      where
        column_length : (m : RowMajorMatrix F) (j : ℕ)
            → length (column f.base m j) ≡ length (rows m)
        column_length m j = length-map (rows m) (λ entries. get_or entries j f.base.zero)

    degree : (j : ℕ) → length (polynomial j) ≡ 2 ^ k
    degree j = (interpolates j).count ∙ length-tabulate (2 ^ k) (coset_point f.base (f.root k) s)

    pub has_coset : HasCoset f.two_adicity matrix
    has_coset = record {
      power = (k + b, extended.height);
      within = subst (λ n. n ≤ f.two_adicity) (sym (ap log2 extended.height
          ∙ log2-pow (k + b))) fits.within;
    }

    pub has_lde_height : HasLdeHeight f.two_adicity b matrix
    has_lde_height = record { log_size = k; height = extended.height; within = fits.within }

    word_of : (j : ℕ) → j < matrix_width matrix
        → IsCosetWord f.base f.root f.shift (k + b) (2 ^ k) (column f.base matrix j)
    word_of j below = record {
      polynomial = polynomial j;
      degree = degree j;
      values = extended.columns j (omega (arith, below, extended.width));
    }

    pub holds_words : HoldsWords f b matrix
    holds_words = record { log_size = k; height = extended.height; columns = word_of }

    pub extends : HasPolynomials (held_in f b matrix) (polynomials_on f s k values)
    unfolding word_of
    extends = record {
      size = ap (λ n. n / 2 ^ b) extended.height ∙ pow-divided k b;
      values = λ z. ap (λ columns. values_at f.base f.ext f.lift columns z)
          (ap (λ n. tabulate n (λ j. committed_column f b (column f.base matrix j))) extended.width
          ∙ tabulate-equal (matrix_width values) (λ j. committed_column f b
          (column f.base matrix j)) polynomial
          (λ j below. committed_is f L W nonzero b k (column f.base matrix j) fits.within
          (word_of j (omega (arith, below, extended.width)))));
    }

each_first : {A B : Type 0} (R : A → B → Type 0) (Q : B → Type 0) (P : A → Type 0)
    → ((a : A) (b : B) → R a b → Q b → P a) → (xs : List A) (ys : List B) → AllZip R xs ys
    → Each Q ys → Each P xs
each_first R Q P f [] ys h q = tt
each_first R Q P f (a ∷ xs) [] h q = absurd h
each_first R Q P f (a ∷ xs) (b ∷ ys) h q = (f a b h.0 q.0, each_first R Q P f xs ys h.1 q.1)

pub each_mapped : {A A' B : Type 0} (R : A → B → Type 0) (Q : B → Type 0) (S : A' → B
    → Type 0) (g : A → A')
    → ((a : A) (b : B) → R a b → Q b → S (g a) b) → (xs : List A) (ys : List B) → AllZip R xs ys
    → Each Q ys → AllZip S (map g xs) ys
each_mapped R Q S g f [] [] h q = tt
each_mapped R Q S g f [] (b ∷ ys) h q = absurd h
each_mapped R Q S g f (a ∷ xs) [] h q = absurd h
each_mapped R Q S g f (a ∷ xs) (b ∷ ys) h q = (f a b h.0 q.0, each_mapped R Q S g f xs ys h.1 q.1)

each_zip : {A B : Type 0} (R : A → B → Type 0) (Q : B → Type 0) (S : A → B → Type 0)
    → ((a : A) (b : B) → R a b → Q b → S a b) → (xs : List A) (ys : List B) → AllZip R xs ys
    → Each Q ys → AllZip S xs ys
each_zip R Q S f [] [] h q = tt
each_zip R Q S f [] (b ∷ ys) h q = absurd h
each_zip R Q S f (a ∷ xs) [] h q = absurd h
each_zip R Q S f (a ∷ xs) (b ∷ ys) h q = (f a b h.0 q.0, each_zip R Q S f xs ys h.1 q.1)

-- what agrees at each place is one list
zip_equal : {A B X : Type 0} (f : A → X) (g : B → X) (xs : List A) (ys : List B)
    → AllZip (λ x y. f x ≡ g y) xs ys → map f xs ≡ map g ys
zip_equal f g [] [] h = refl
zip_equal f g [] (y ∷ ys) h = absurd h
zip_equal f g (x ∷ xs) [] h = absurd h
zip_equal f g (x ∷ xs) (y ∷ ys) h = ap₂ (λ v vs. v ∷ vs) h.0 (zip_equal f g xs ys h.1)

-- of a batch of matrices, on domains with these shifts and sizes
module _ {F E Domain : Type 0} (f : Fields F E) (L : IsField f.base)
    (W : AreRoots f.base f.two_adicity f.root)
    (nonzero : f.shift ≢ f.base.zero) (b : ℕ) (shift : Domain → F) (log_size : Domain → ℕ)
    (off_zero : (d : Domain) → shift d ≢ f.base.zero) (matrices : List (RowMajorMatrix F))
    (evaluations : List (Domain × RowMajorMatrix F))
    (fit : All (λ e. FitsDomain f.two_adicity b (log_size e.0) e.1) evaluations)
    (words : AllZip (λ matrix e. IsLowDegreeExtension f.base f.root f.shift b (shift e.0)
    (log_size e.0) e.1 matrix) matrices evaluations) where
  abbrev Fits : Domain × RowMajorMatrix F → Type 0
  Fits e = FitsDomain f.two_adicity b (log_size e.0) e.1

  abbrev IsWordOf : RowMajorMatrix F → Domain × RowMajorMatrix F → Type 0
  IsWordOf matrix e = IsLowDegreeExtension f.base f.root f.shift b (shift e.0)
      (log_size e.0) e.1 matrix

  pub have_cosets : All (HasCoset f.two_adicity) matrices
  have_cosets = All_from_each (HasCoset f.two_adicity) matrices
      (each_first IsWordOf Fits (HasCoset f.two_adicity)
      (λ m e h q. has_coset f L W nonzero b (shift e.0) (off_zero e.0) (log_size e.0) e.1 m q h)
      matrices evaluations words (each_from_All Fits evaluations fit))

  pub have_lde_heights : All (HasLdeHeight f.two_adicity b) matrices
  have_lde_heights = All_from_each (HasLdeHeight f.two_adicity b) matrices
      (each_first IsWordOf Fits (HasLdeHeight f.two_adicity b)
      (λ m e h q. has_lde_height f L W nonzero b (shift e.0) (off_zero e.0) (log_size e.0) e.1 m
      q h)
      matrices evaluations words (each_from_All Fits evaluations fit))

  pub hold_words : All (HoldsWords f b) matrices
  hold_words = All_from_each (HoldsWords f b) matrices
      (each_first IsWordOf Fits (HoldsWords f b)
      (λ m e h q. holds_words f L W nonzero b (shift e.0) (off_zero e.0) (log_size e.0) e.1 m q h)
      matrices evaluations words (each_from_All Fits evaluations fit))

  abbrev Chunk : Domain × RowMajorMatrix F → Held E
  Chunk e = polynomials_on f (shift e.0) (log_size e.0) e.1

  -- the words are those of the chunks' polynomials
  pub chunks_held : AllZip (λ lde e. HasPolynomials (held_in f b lde) (Chunk e)) matrices
      evaluations
  chunks_held = each_zip IsWordOf Fits (λ lde e. HasPolynomials (held_in f b lde) (Chunk e))
      (λ m e h q. extends f L W nonzero b (shift e.0) (off_zero e.0) (log_size e.0) e.1 m q h)
      matrices evaluations words (each_from_All Fits evaluations fit)

  pub sizes_held : AllZip (λ lde e. (held_in f b lde).size ≡ 1 * 2 ^ log_size e.0) matrices
      evaluations
  sizes_held = each_zip IsWordOf Fits (λ lde e. (held_in f b lde).size ≡ 1 * 2 ^ log_size e.0)
      (λ m e h q. (extends f L W nonzero b (shift e.0) (off_zero e.0) (log_size e.0) e.1 m q h).size
      ∙ one_power (log_size e.0))
      matrices evaluations words (each_from_All Fits evaluations fit)
    where
      one_power : (k : ℕ) → 2 ^ k ≡ 1 * 2 ^ k
      one_power k = omega arith

  pub values_held : (z : E) → map (λ lde. (held_in f b lde).values_at z) matrices
      ≡ map (λ e. (Chunk e).values_at z) evaluations
  values_held z = zip_equal (λ lde. (held_in f b lde).values_at z) (λ e. (Chunk e).values_at z)
      matrices evaluations
      (each_zip IsWordOf Fits (λ lde e. (held_in f b lde).values_at z ≡ (Chunk e).values_at z)
      (λ m e h q. (extends f L W nonzero b (shift e.0) (off_zero e.0) (log_size e.0) e.1 m q
      h).values z)
      matrices evaluations words (each_from_All Fits evaluations fit))
