-- Batches by powers of one element: of polynomials, of words of one height, and of the quotients of
-- opened matrices.
use Rattle.std.proofs.Common.{◌≡◌, ◌≢◌, ℕ, ◌^◌, ◌<◌, pred, List, [], ◌∷◌, ◌++◌, length, map}
use Rattle.std.proofs.Common.{flat_map, get_or, replicate, refl, sym, ap, ap₂, ◌∙◌}
use Rattle.std.proofs.lemmas.List.{length-map, length-replicate, map-append}
use Rattle.algebra.specs.Field.{FieldOps, IsRing, IsField, IsHomomorphism}
use Rattle.algebra.specs.Polynomial.{val, quotient}
use Rattle.algebra.specs.Cosets.{coset_pt, IsOffCoset}
use Rattle.algebra.specs.Words.{IsCosetWord}
use Rattle.algebra.specs.Quotients.{quotients, batch, Opened, values_at, row_at, opened_quotients}
use Rattle.algebra.specs.Quotients.{IsOpenedOff, quotient_word}
use Rattle.algebra.proofs.Division.{length-quotient}
use Rattle.algebra.specs.Lists.{add_lists}
use Rattle.algebra.proofs.Values.{length-add_lists, val-nil, val-cons, val-add}
use Rattle.algebra.proofs.Values.{val-scale, val-padded}
use Rattle.algebra.proofs.Lifting.{lifted_coset_pt, lifted_value, lifted_off_coset}
use Rattle.algebra.proofs.Quotients.{quotient_values}
use Rattle.algebra.proofs.Lists.{Each, each_from_All, get_or-tabulate, tabulate-equal, each-append}

module _ {A : Type 0} (F : FieldOps A) (d : ℕ) (alpha : A) where
  -- the polynomials of `d` coefficients, the `t`-th times `alpha^t`, together
  abbrev pub combination : List (List A) → List A
  combination [] = replicate d F.zero
  combination (c ∷ cs) = add_lists F c (map (λ a. F.mul alpha a) (combination cs))

  scaled-length : (cs : List (List A)) → length (combination cs) ≡ d
      → length (map (λ a. F.mul alpha a) (combination cs)) ≡ d
  scaled-length cs e = length-map (combination cs) (λ a. F.mul alpha a) ∙ e

  pub length-combination : (cs : List (List A)) → Each (λ c. length c ≡ d) cs
      → length (combination cs) ≡ d
  length-combination [] h = length-replicate d F.zero
  length-combination (c ∷ cs) h =
      length-add_lists F c (map (λ a. F.mul alpha a) (combination cs))
      (h.0 ∙ sym (scaled-length cs (length-combination cs h.1)))
      ∙ h.0

module _ {A : Type 0} (F : FieldOps A) (R : IsRing F) where
  open F use {add as ◌⊕◌, mul as ◌⊗◌}

  infixl 65 ◌⊕◌
  infixl 70 ◌⊗◌
  pub val-combination : (d : ℕ) (alpha : A) (cs : List (List A)) (x : A)
      → Each (λ c. length c ≡ d) cs
      → val F (combination F d alpha cs) x ≡ val F (map (λ c. val F c x) cs) alpha
  val-combination d alpha [] x h = val-padded F R [] d x ∙ val-nil F R x ∙ sym (val-nil F R alpha)
  val-combination d alpha (c ∷ cs) x h =
      val-add F R c (map (λ a. alpha ⊗ a) (combination F d alpha cs)) x
      (h.0 ∙ sym (scaled-length F d alpha cs (length-combination F d alpha cs h.1)))
      ∙ ap (λ v. val F c x ⊕ v)
      (val-scale F R alpha (combination F d alpha cs) x
      ∙ ap (λ v. alpha ⊗ v) (val-combination d alpha cs x h.1))
      ∙ sym (val-cons F R (val F c x) (map (λ c. val F c x) cs) alpha)

  module _ (w : ℕ → A) (shift : A) (k d : ℕ) where
    polynomials : (yss : List (List A)) → Each (IsCosetWord F w shift k d) yss → List (List A)
    polynomials [] h = []
    polynomials (ys ∷ yss) h = h.0.polynomial ∷ polynomials yss h.1

    degrees : (yss : List (List A)) (h : Each (IsCosetWord F w shift k d) yss)
        → Each (λ c. length c ≡ d) (polynomials yss h)
    unfolding polynomials
    degrees [] h = tt
    degrees (ys ∷ yss) h = (h.0.degree, degrees yss h.1)

    entries : (yss : List (List A)) (h : Each (IsCosetWord F w shift k d) yss) (i : ℕ) → i < 2 ^ k
        → map (λ ys. get_or ys i F.zero) yss
        ≡ map (λ c. val F c (coset_pt F w shift i k)) (polynomials yss h)
    unfolding polynomials
    entries [] h i l = refl
    entries (ys ∷ yss) h i l =
        ap₂ (λ v vs. v ∷ vs)
        (ap (λ zs. get_or zs i F.zero) h.0.values
        ∙ get_or-tabulate (2 ^ k) (λ j. val F h.0.polynomial (coset_pt F w shift j k)) i F.zero l)
        (entries yss h.1 i l)

    -- a batch of words of degree below `d` is one
    pub batch_coset_word : (alpha : A) (yss : List (List A)) → Each (IsCosetWord F w shift k d) yss
        → IsCosetWord F w shift k d (batch F (2 ^ k) alpha yss)
    batch_coset_word alpha yss h = record {
      polynomial = combination F d alpha (polynomials yss h);
      degree = length-combination F d alpha (polynomials yss h) (degrees yss h);
      values =
          tabulate-equal (2 ^ k) (λ i. val F (map (λ ys. get_or ys i F.zero) yss) alpha)
          (λ i. val F (combination F d alpha (polynomials yss h)) (coset_pt F w shift i k))
          (λ i l. ap (λ vs. val F vs alpha) (entries yss h i l)
          ∙ sym (val-combination d alpha (polynomials yss h) (coset_pt F w shift i k)
          (degrees yss h)));
    }

module _ {A E : Type 0} (F : FieldOps A) (K : FieldOps E) (lift : A → E) where
  -- the quotients' polynomials, point by point and matrix by matrix
  abbrev column_quotients : List (List A) → E → List (List E)
  column_quotients cs z = map (λ q. quotient K q z) (map (λ c. map lift c) cs)

  abbrev point_quotients : List (List A) → List E → List (List E)
  point_quotients cs zs = flat_map (column_quotients cs) zs

  abbrev quotient_polynomials : List (Opened A E) → List (List E)
  quotient_polynomials ms = flat_map (λ m. point_quotients m.columns m.points) ms

module _ {A E : Type 0} (F : FieldOps A) (K : FieldOps E) (lift : A → E) (L : IsField F)
    (M : IsField K)
    (H : IsHomomorphism F K lift) (w : ℕ → A) (shift : A) (k d : ℕ) where
  columns-length : (cs : List (List A)) (z : E) → Each (λ c. length c ≡ d) cs
      → Each (λ q. length q ≡ pred d) (column_quotients F K lift cs z)
  columns-length [] z h = tt
  columns-length (c ∷ cs) z h = (
    length-quotient K (map lift c) z ∙ ap pred (length-map c lift ∙ h.0),
    columns-length cs z h.1,
  )

  points-length : (cs : List (List A)) (zs : List E) → Each (λ c. length c ≡ d) cs
      → Each (λ q. length q ≡ pred d) (point_quotients F K lift cs zs)
  points-length cs [] h = tt
  points-length cs (z ∷ zs) h =
      each-append (λ q. length q ≡ pred d) (column_quotients F K lift cs z)
      (point_quotients F K lift cs zs)
      (columns-length cs z h) (points-length cs zs h)

  matrices-length : (ms : List (Opened A E)) → Each (IsOpenedOff F lift w shift k d) ms
      → Each (λ q. length q ≡ pred d) (quotient_polynomials F K lift ms)
  matrices-length [] h = tt
  matrices-length (m ∷ ms) h =
      each-append (λ q. length q ≡ pred d) (point_quotients F K lift m.columns m.points)
      (quotient_polynomials F K lift ms)
      (points-length m.columns m.points (each_from_All (λ c. length c ≡ d) m.columns h.0.degrees))
      (matrices-length ms h.1)

  -- the point `i` of the coset, in the extension
  x : ℕ → E
  x i = coset_pt K (λ j. lift (w j)) (lift shift) i k

  row-is : (cs : List (List A)) (i : ℕ)
      → row_at F K lift cs (coset_pt F w shift i k)
      ≡ map (λ c. val K c (x i)) (map (λ c. map lift c) cs)
  unfolding x
  row-is [] i = refl
  row-is (c ∷ cs) i =
      ap₂ (λ v vs. v ∷ vs) (lifted_value F K lift L.ring M.ring H w c shift i k) (row-is cs i)

  values-are : (cs : List (List A)) (z : E)
      → values_at F K lift cs z ≡ map (λ c. val K c z) (map (λ c. map lift c) cs)
  values-are [] z = refl
  values-are (c ∷ cs) z = ap (λ vs. val K (map lift c) z ∷ vs) (values-are cs z)

  composed : (cs : List (List E)) (z y : E)
      → map (λ c. val K (quotient K c z) y) cs ≡ map (λ q. val K q y) (map (λ q. quotient K q z) cs)
  composed [] z y = refl
  composed (c ∷ cs) z y = ap (λ vs. val K (quotient K c z) y ∷ vs) (composed cs z y)

  column-terms : (cs : List (List A)) (z : E) (i : ℕ) → x i ≢ z
      → quotients K z (lift (coset_pt F w shift i k)) (values_at F K lift cs z)
      (row_at F K lift cs (coset_pt F w shift i k))
      ≡ map (λ q. val K q (x i)) (column_quotients F K lift cs z)
  unfolding x
  column-terms cs z i n =
      ap (λ y. quotients K z y (values_at F K lift cs z)
      (row_at F K lift cs (coset_pt F w shift i k)))
      (lifted_coset_pt F K lift H w shift i k)
      ∙ ap₂ (λ ys vs. quotients K z (x i) ys vs) (values-are cs z) (row-is cs i)
      ∙ quotient_values K M (map (λ c. map lift c) cs) z (x i) n
      ∙ composed (map (λ c. map lift c) cs) z (x i)

  away : (z : E) (i : ℕ) → i < 2 ^ k → IsOffCoset F lift w shift k z → x i ≢ z
  unfolding x
  away z i l off = lifted_off_coset F K lift H w shift k z off i l

  point-terms : (cs : List (List A)) (zs : List E) (i : ℕ) → i < 2 ^ k
      → Each (λ z. IsOffCoset F lift w shift k z) zs
      → opened_quotients F K lift (coset_pt F w shift i k) (record { columns = cs; points = zs })
      ≡ map (λ q. val K q (x i)) (point_quotients F K lift cs zs)
  unfolding x
  point-terms cs [] i l h = refl
  point-terms cs (z ∷ zs) i l h =
      ap₂ (λ ts us. ts ++ us) (column-terms cs z i (away z i l h.0)) (point-terms cs zs i l h.1)
      ∙ sym (map-append (λ q. val K q (x i)) (column_quotients F K lift cs z)
      (point_quotients F K lift cs zs))

  matrix-terms : (ms : List (Opened A E)) (i : ℕ) → i < 2 ^ k
      → Each (IsOpenedOff F lift w shift k d) ms
      → flat_map (opened_quotients F K lift (coset_pt F w shift i k)) ms
      ≡ map (λ q. val K q (x i)) (quotient_polynomials F K lift ms)
  matrix-terms [] i l h = refl
  matrix-terms (m ∷ ms) i l h =
      ap₂ (λ ts us. ts ++ us)
      (point-terms m.columns m.points i l
      (each_from_All (λ z. IsOffCoset F lift w shift k z) m.points h.0.off))
      (matrix-terms ms i l h.1)
      ∙ sym (map-append (λ q. val K q (x i)) (point_quotients F K lift m.columns m.points)
      (quotient_polynomials F K lift ms))

  -- the quotients of matrices opened off the coset, in one batch, are a word whose degree is one
  -- less
  pub quotient_word_below : (alpha : E) (ms : List (Opened A E))
      → Each (IsOpenedOff F lift w shift k d) ms
      → IsCosetWord K (λ j. lift (w j)) (lift shift) k (pred d)
      (quotient_word F K lift w shift k alpha ms)
  unfolding x
  quotient_word_below alpha ms h =
      let qs = quotient_polynomials F K lift ms in
      record {
        polynomial = combination K (pred d) alpha qs;
        degree = length-combination K (pred d) alpha qs (matrices-length ms h);
        values =
            tabulate-equal (2 ^ k)
            (λ i. val K (flat_map (opened_quotients F K lift (coset_pt F w shift i k)) ms) alpha)
            (λ i. val K (combination K (pred d) alpha qs) (x i))
            (λ i l. ap (λ vs. val K vs alpha) (matrix-terms ms i l h)
            ∙ sym (val-combination K M.ring (pred d) alpha qs (x i) (matrices-length ms h)));
      }
