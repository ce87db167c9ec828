-- What holds of commitments to masked and to padded matrices.
use Rattle.std.proofs.Common.{◌≡◌, ◌≢◌, ℕ, zero, suc, ◌+◌, ◌*◌, ◌^◌, ◌≤◌, ◌<◌, List, [], ◌∷◌, length, map, All}
use Rattle.std.proofs.Common.{refl, sym, subst, ap, ◌∙◌, arith}
use Rattle.std.specs.List.{AllZip}
use Rattle.algebra.specs.Field.{IsField, IsHomomorphism}
use Rattle.algebra.specs.TwoAdic.{AreRoots}
use Rattle.algebra.proofs.Lists.{Each, each_from_All, All_from_each, map-map}
use Rattle.rand_core.specs.Stream.{Stream}
use Rattle.p3_matrix.specs.declared.dense.RowMajorMatrix.{RowMajorMatrix}
use Rattle.p3_matrix.specs.Matrix.{rows, matrix_width}
use Rattle.p3_matrix.specs.Words.{past}
use Rattle.p3_pcs.specs.Requests.{Held}
use Rattle.p3_stark_pcs.specs.Evaluations.{HasShape}
use Rattle.p3_fri_extensions.specs.Extension.{FitsDomain, IsLowDegreeExtension}
use Rattle.p3_fri_relation.specs.Setting.{Fields}
use Rattle.p3_fri_openings.specs.Held.{held_in}
use Rattle.p3_fri_hiding_openings.specs.Halves.{shown_of}
use Rattle.p3_fri_hiding_openings.proofs.Committed.{extends}
use Rattle.p3_fri_masks.specs.Draws.{IsRandom, AreRandom}
use Rattle.p3_fri_masks.specs.Masked.{mask_words, IsMasked, AreMasked}
use Rattle.p3_fri_masks.specs.Padded.{IsPadded}
use Rattle.p3_fri_masks.proofs.RandomRows.{length-random_rows}
use Rattle.p3_fri_hiding.specs.Commitments.{AreExtended}
use Rattle.p3_fri_hiding_openings.specs.Shown.{shown_in}
use Rattle.p3_fri_hiding.specs.Trace.{FitsMasked, HasTrace, HasZerosBetween}
use Rattle.p3_fri_hiding.proofs.Traced.{masked_fits, padded_fits, masked_traced, padded_traced, zeros_traced, shown_columns}

-- from neighbours in two pairs of lists to neighbours of the outer ones, and to entries
module _ {A B C : Type 0} (R : A → B → Type 0) (S : B → C → Type 0) (Q : C → Type 0) where
  zip_through : {X : Type 0} (g : A → X) (T : X → C → Type 0)
      → ((a : A) (b : B) (c : C) → R a b → S b c → Q c → T (g a) c)
      → (ms : List A) (bs : List B) (cs : List C) → AllZip R ms bs → AllZip S bs cs → Each Q cs
      → AllZip T (map g ms) cs
  zip_through g T step [] [] [] r s q = tt
  zip_through g T step [] [] (c ∷ cs) r s q = absurd s
  zip_through g T step [] (b ∷ bs) cs r s q = absurd r
  zip_through g T step (a ∷ ms) [] cs r s q = absurd r
  zip_through g T step (a ∷ ms) (b ∷ bs) [] r s q = absurd s
  zip_through g T step (a ∷ ms) (b ∷ bs) (c ∷ cs) r s q =
      (step a b c r.0 s.0 q.0, zip_through g T step ms bs cs r.1 s.1 q.1)

  each_through : (P : A → Type 0) → ((a : A) (b : B) (c : C) → R a b → S b c → Q c → P a)
      → (ms : List A) (bs : List B) (cs : List C) → AllZip R ms bs → AllZip S bs cs → Each Q cs → Each P ms
  each_through P step [] bs cs r s q = tt
  each_through P step (a ∷ ms) [] cs r s q = absurd r
  each_through P step (a ∷ ms) (b ∷ bs) [] r s q = absurd s
  each_through P step (a ∷ ms) (b ∷ bs) (c ∷ cs) r s q =
      (step a b c r.0 s.0 q.0, each_through P step ms bs cs r.1 s.1 q.1)

module _ {B C : Type 0} (S : B → C → Type 0) (Q : C → Type 0) where
  each_between : (P : B → Type 0) → ((b : B) (c : C) → S b c → Q c → P b)
      → (bs : List B) (cs : List C) → AllZip S bs cs → Each Q cs → Each P bs
  each_between P step [] cs s q = tt
  each_between P step (b ∷ bs) [] s q = absurd s
  each_between P step (b ∷ bs) (c ∷ cs) s q = (step b c s.0 q.0, each_between P step bs cs s.1 q.1)

module _ {F D : Type 0} (from_word : ℕ → F) (r : ℕ) where
  -- beside the same domain, masked by some words
  abbrev pub IsMaskOf : D × RowMajorMatrix F → D × RowMajorMatrix F → Type 0
  IsMaskOf m e = (m.0 ≡ e.0) × (s : Stream) × IsMasked from_word r e.1 s m.1

  pub each_masked : (es ms : List (D × RowMajorMatrix F)) (s : Stream) → AreMasked from_word r es s ms
      → AllZip IsMaskOf ms es
  each_masked [] [] s masks = tt
  each_masked [] (m ∷ ms) s masks = absurd masks
  each_masked (e ∷ es) [] s masks = absurd masks
  each_masked (e ∷ es) (m ∷ ms) s masks =
      ((masks.0, s, masks.1), each_masked es ms (past (mask_words from_word r e.1) s) masks.2)

module _ {F E D : Type 0} (f : Fields F E) (L : IsField f.base) (M : IsField f.ext)
    (H : IsHomomorphism f.base f.ext f.lift) (W : AreRoots f.base f.two_adicity f.root)
    (nonzero : f.shift ≢ f.base.zero) (b : ℕ) (shift : D → F) (log_size : D → ℕ)
    (off_zero : (d : D) → shift d ≢ f.base.zero) (matrices : List (RowMajorMatrix F))
    (wider evaluations : List (D × RowMajorMatrix F))
    (fit : All (λ e. FitsMasked f.two_adicity b (log_size e.0) e.1) evaluations)
    (words : AreExtended f shift log_size b wider matrices) where
  abbrev Fits : D × RowMajorMatrix F → Type 0
  Fits e = FitsMasked f.two_adicity b (log_size e.0) e.1

  abbrev IsWord : RowMajorMatrix F → D × RowMajorMatrix F → Type 0
  IsWord m e = IsLowDegreeExtension f.base f.root f.shift b (shift e.0) (log_size e.0) e.1 m

  abbrev Traced : Held E → D × RowMajorMatrix F → Type 0
  Traced m e = HasTrace f (shift e.0) (log_size e.0) e.1 m

  -- what is shown of what is held
  shown_mapped : (r : ℕ) (T : Held E → D × RowMajorMatrix F → Type 0)
      → AllZip T (map (shown_in f b r) matrices) evaluations
      → AllZip T (map (shown_of r) (map (held_in f b) matrices)) evaluations
  shown_mapped r T h = subst (λ ms. AllZip T ms evaluations) (sym (map-map (shown_of r) (held_in f b) matrices)) h

  module _ (from_word : ℕ → F) (r : ℕ) (s : Stream) (masks : AreMasked from_word r evaluations s wider) where
    pub masked_wide : All (λ m. r ≤ matrix_width m) matrices
    masked_wide = All_from_each (λ m. r ≤ matrix_width m) matrices
        (each_through IsWord (IsMaskOf from_word r) Fits (λ m. r ≤ matrix_width m)
        (λ a w e is mask q. omega (arith, is.width, mask.2.width))
        matrices wider evaluations words (each_masked from_word r evaluations wider s masks)
        (each_from_All Fits evaluations fit))

    pub masked_all_traced : AllZip Traced (map (shown_of r) (map (held_in f b) matrices)) evaluations
    masked_all_traced = shown_mapped r Traced (zip_through IsWord (IsMaskOf from_word r) Fits (shown_in f b r) Traced
        (λ a w e is mask q. masked_traced f L M H W nonzero b (shift e.0) (off_zero e.0) (log_size e.0) e.1 w.1 a
        q from_word r mask.1 mask.2
        (subst (λ d. IsLowDegreeExtension f.base f.root f.shift b (shift d) (log_size d) w.1 a) mask.0 is))
        matrices wider evaluations words (each_masked from_word r evaluations wider s masks)
        (each_from_All Fits evaluations fit))

  module _ (zeros : AllZip (λ p e. (p.0 ≡ e.0) × IsPadded f.base.zero e.1 p.1) wider evaluations) where
    abbrev IsPadOf : D × RowMajorMatrix F → D × RowMajorMatrix F → Type 0
    IsPadOf p e = (p.0 ≡ e.0) × IsPadded f.base.zero e.1 p.1

    pub padded_all_traced : AllZip Traced (map (shown_of 0) (map (held_in f b) matrices)) evaluations
    padded_all_traced = shown_mapped 0 Traced (zip_through IsWord IsPadOf Fits (shown_in f b 0) Traced
        (λ a w e is pad q. padded_traced f L M H W nonzero b (shift e.0) (off_zero e.0) (log_size e.0) e.1 w.1 a q
        pad.1 (subst (λ d. IsLowDegreeExtension f.base f.root f.shift b (shift d) (log_size d) w.1 a) pad.0 is))
        matrices wider evaluations words zeros (each_from_All Fits evaluations fit))

    pub padded_all_zero : AllZip (λ m e. HasZerosBetween f (shift e.0) (log_size e.0) e.1 m)
        (map (shown_of 0) (map (held_in f b) matrices)) evaluations
    padded_all_zero = shown_mapped 0 (λ m e. HasZerosBetween f (shift e.0) (log_size e.0) e.1 m)
        (zip_through IsWord IsPadOf Fits (shown_in f b 0)
        (λ m e. HasZerosBetween f (shift e.0) (log_size e.0) e.1 m)
        (λ a w e is pad q. zeros_traced f L M H W nonzero b (shift e.0) (off_zero e.0) (log_size e.0) e.1 w.1 a q
        pad.1 (subst (λ d. IsLowDegreeExtension f.base f.root f.shift b (shift d) (log_size d) w.1 a) pad.0 is))
        matrices wider evaluations words zeros (each_from_All Fits evaluations fit))

-- matrices fit their domains by their heights
pub all_fit : {F D : Type 0} (top b : ℕ) (log_size : D → ℕ) (es : List (D × RowMajorMatrix F))
    → All (λ e. length (rows e.1) ≡ 2 ^ log_size e.0) es → All (λ e. log_size e.0 + b ≤ top) es
    → All (λ e. FitsDomain top b (log_size e.0) e.1) es
all_fit top b log_size es heights within i d below =
    record { height = heights i d below; within = within i d below }

-- masked and padded matrices fit their domains, which are the given ones
module _ {F D : Type 0} (top b : ℕ) (log_size : D → ℕ) (wider evaluations : List (D × RowMajorMatrix F))
    (fit : All (λ e. FitsMasked top b (log_size e.0) e.1) evaluations) where
  abbrev Fit : D × RowMajorMatrix F → Type 0
  Fit e = FitsMasked top b (log_size e.0) e.1

  abbrev FitWide : D × RowMajorMatrix F → Type 0
  FitWide e = FitsDomain top b (log_size e.0) e.1

  pub masked_all_fit : (from_word : ℕ → F) (r : ℕ) (s : Stream) → AreMasked from_word r evaluations s wider
      → All FitWide wider
  masked_all_fit from_word r s masks = All_from_each FitWide wider
      (each_between (IsMaskOf from_word r) Fit FitWide
      (λ w e mask q. subst (λ d. FitsDomain top b (log_size d) w.1) (sym mask.0)
      (masked_fits from_word r top b (log_size e.0) e.1 w.1 mask.1 q mask.2))
      wider evaluations (each_masked from_word r evaluations wider s masks) (each_from_All Fit evaluations fit))

  pub padded_all_fit : (none : F) → AllZip (λ p e. (p.0 ≡ e.0) × IsPadded none e.1 p.1) wider evaluations
      → All FitWide wider
  padded_all_fit none zeros = All_from_each FitWide wider
      (each_between (λ p e. (p.0 ≡ e.0) × IsPadded none e.1 p.1) Fit FitWide
      (λ w e pad q. subst (λ d. FitsDomain top b (log_size d) w.1) (sym pad.0)
      (padded_fits none top b (log_size e.0) e.1 w.1 q pad.1))
      wider evaluations zeros (each_from_All Fit evaluations fit))

module _ {F D : Type 0} (from_word : ℕ → F) (log_size : D → ℕ) (width : ℕ) where
  -- beside the domain, a random matrix as high as it is large
  abbrev pub IsRandomOf : D × RowMajorMatrix F → D → Type 0
  IsRandomOf m d = (m.0 ≡ d) × (s : Stream) × IsRandom from_word (2 ^ log_size d) width s m.1

  pub each_random : (ds : List D) (ms : List (D × RowMajorMatrix F)) (s : Stream)
      → AreRandom from_word (λ d. 2 ^ log_size d) width ds s ms → AllZip IsRandomOf ms ds
  each_random [] [] s random = tt
  each_random [] (m ∷ ms) s random = absurd random
  each_random (d ∷ ds) [] s random = absurd random
  each_random (d ∷ ds) (m ∷ ms) s random =
      ((random.0, s, random.1), each_random ds ms (past (2 ^ log_size d * width) s) random.2)

  module _ (top b : ℕ) (ds : List D) (fit : All (λ d. log_size d + b ≤ top) ds)
      (ms : List (D × RowMajorMatrix F)) (s : Stream)
      (random : AreRandom from_word (λ d. 2 ^ log_size d) width ds s ms) where
    abbrev FitsTop : D → Type 0
    FitsTop d = log_size d + b ≤ top

    abbrev FitsOwn : D × RowMajorMatrix F → Type 0
    FitsOwn e = FitsDomain top b (log_size e.0) e.1

    pub random_all_fit : All FitsOwn ms
    random_all_fit = All_from_each FitsOwn ms
        (each_between IsRandomOf FitsTop FitsOwn
        (λ m d is within. subst (λ x. FitsDomain top b (log_size x) m.1) (sym is.0) (record {
          height = ap length is.2.entries ∙ length-random_rows from_word (2 ^ log_size d) width is.1;
          within = within;
        }))
        ms ds (each_random ds ms s random) (each_from_All FitsTop ds fit))

    -- what extends them is as wide
    pub random_wide : {E : Type 0} (f : Fields F E) (shift : D → F) (r : ℕ) → r ≤ width
        → (matrices : List (RowMajorMatrix F)) → AreExtended f shift log_size b ms matrices
        → All (λ m. r ≤ matrix_width m) matrices
    random_wide f shift r less matrices words = All_from_each (λ m. r ≤ matrix_width m) matrices
        (each_through
        (λ m (e : D × RowMajorMatrix F). IsLowDegreeExtension f.base f.root f.shift b (shift e.0) (log_size e.0) e.1 m)
        IsRandomOf FitsTop (λ m. r ≤ matrix_width m)
        (λ m e d word is within. omega (arith, word.width, is.2.columns, less))
        matrices ms ds words (each_random ds ms s random) (each_from_All FitsTop ds fit))

-- of extensions of random matrices, the columns beside those that hide them are shown
module _ {F E D : Type 0} (f : Fields F E) (L : IsField f.base) (M : IsField f.ext)
    (H : IsHomomorphism f.base f.ext f.lift) (W : AreRoots f.base f.two_adicity f.root)
    (nonzero : f.shift ≢ f.base.zero) (b : ℕ) (shift : D → F) (log_size : D → ℕ)
    (off_zero : (d : D) → shift d ≢ f.base.zero) (from_word : ℕ → F) (r columns : ℕ) (ds : List D)
    (fit : All (λ d. log_size d + b ≤ f.two_adicity) ds) (ms : List (D × RowMajorMatrix F)) (s : Stream)
    (random : AreRandom from_word (λ d. 2 ^ log_size d) (r + columns) ds s ms)
    (matrices : List (RowMajorMatrix F)) (words : AreExtended f shift log_size b ms matrices) where
  abbrev IsShaped : Held E → D → Type 0
  IsShaped m d = HasShape (2 ^ log_size d) columns m

  shaped : (m : RowMajorMatrix F) (e : D × RowMajorMatrix F) (d : D)
      → IsLowDegreeExtension f.base f.root f.shift b (shift e.0) (log_size e.0) e.1 m
      → IsRandomOf from_word log_size (r + columns) e d → log_size d + b ≤ f.two_adicity
      → IsShaped (shown_in f b r m) d
  shaped m e d word is within =
      let fits : FitsDomain f.two_adicity b (log_size e.0) e.1 =
      subst (λ x. FitsDomain f.two_adicity b (log_size x) e.1) (sym is.0) (record {
        height = ap length is.2.entries ∙ length-random_rows from_word (2 ^ log_size d) (r + columns) is.1;
        within = within;
      }) in
      subst (λ x. IsShaped (shown_in f b r m) x) is.0 (record {
        size = (extends f L W nonzero b (shift e.0) (off_zero e.0) (log_size e.0) e.1 m fits word).size;
        columns = shown_columns f L M H W nonzero b (shift e.0) (off_zero e.0) (log_size e.0) e.1 m fits word r
            columns (omega (arith, is.2.columns));
      })

  pub random_shaped : AllZip IsShaped (map (shown_of r) (map (held_in f b) matrices)) ds
  random_shaped = subst (λ hs. AllZip IsShaped hs ds) (sym (map-map (shown_of r) (held_in f b) matrices))
      (zip_through
      (λ m (e : D × RowMajorMatrix F). IsLowDegreeExtension f.base f.root f.shift b (shift e.0) (log_size e.0) e.1 m)
      (IsRandomOf from_word log_size (r + columns)) (λ d. log_size d + b ≤ f.two_adicity) (shown_in f b r) IsShaped
      shaped matrices ms ds words (each_random from_word log_size (r + columns) ds ms s random)
      (each_from_All (λ d. log_size d + b ≤ f.two_adicity) ds fit))

-- an extension has a coefficient, since zero and one differ
pub some_coefficient : {F E : Type 0} (degree : ℕ) (coefficients : E → List F) (none one : E) → one ≢ none
    → ((x : E) → length (coefficients x) ≡ degree) → ((x y : E) → coefficients x ≡ coefficients y → x ≡ y)
    → 0 < degree
some_coefficient zero coefficients none one differ long injective =
    absurd (differ (injective one none (empty (coefficients one) (long one) ∙ sym (empty (coefficients none) (long none)))))
  where
    empty : {F : Type 0} (xs : List F) → length xs ≡ 0 → xs ≡ []
    empty [] e = refl
    empty (x ∷ xs) e = absurd (omega (arith, e))
some_coefficient (suc degree) coefficients none one differ long injective = omega arith
