-- Data as a committing call gives it, over the data of the commitment to its matrices.
use Rattle.std.proofs.Common.{◌≡◌, ℕ, Bool, true, false, List, Result, Ok, Err, map, All}
use Rattle.std.proofs.Common.{refl, sym, ap, ap₂, subst}
use Rattle.std.specs.Prelude.{if◌then◌else◌, IfOk}
use Rattle.std.specs.List.{AllZip}
use Rattle.p3_matrix.specs.declared.dense.RowMajorMatrix.{RowMajorMatrix}
use Rattle.p3_pcs.specs.Requests.{Held}
use Rattle.p3_fri_relation.specs.Setting.{Fields}
use Rattle.p3_fri_openings.specs.Rounds.{HasCoset}
use Rattle.p3_fri_openings.specs.Held.{held_in}
use Rattle.p3_fri_hiding_openings.specs.Halves.{shown_of}
use Rattle.p3_fri_hiding_openings.specs.declared.data.HidingFriPcsProverData.{HidingFriPcsProverData}
use Rattle.p3_fri_hiding_openings.specs.Data.{AreWide, IsNew, IsOfScheme, IsUnopened, IsPreprocessing}
use Rattle.p3_fri_hiding_openings.specs.Data.{hidden_columns, shown_polynomials}

module _ {F E T : Type 0} (f : Fields F E) (committed : T → List (RowMajorMatrix F)) (b r : ℕ)
    (d : HidingFriPcsProverData T) (inner : T) (is : d.inner ≡ inner) where
  hidden : (preprocessed : Bool) → d.preprocessed ≡ preprocessed
      → hidden_columns r d ≡ (if preprocessed then 0 else r)
  hidden preprocessed e = ap (λ p. if p then 0 else r) e

  -- what is shown, of private data and of preprocessing
  pub shown_is : (preprocessed : Bool) → d.preprocessed ≡ preprocessed
      → shown_polynomials f committed b r d
      ≡ map (shown_of (if preprocessed then 0 else r)) (map (held_in f b) (committed inner))
  shown_is preprocessed e =
      ap₂ (λ n t. map (shown_of n) (map (held_in f b) (committed t))) (hidden preprocessed e) is

  pub zip_shown : {D : Type 0} (R : Held E → D → Type 0) (es : List D) (preprocessed : Bool)
      → d.preprocessed ≡ preprocessed
      → AllZip R (map (shown_of (if preprocessed then 0 else r)) (map (held_in f b) (committed inner))) es
      → AllZip R (shown_polynomials f committed b r d) es
  zip_shown R es preprocessed e h = subst (λ ms. AllZip R ms es) (sym (shown_is preprocessed e)) h

  module _ (codewords : d.num_random_codewords ≡ r) (blowup : d.log_blowup ≡ b)
      (cosets : All (HasCoset f.two_adicity) (committed inner)) where
    pub of_scheme : IsOfScheme f committed b r d
    of_scheme = record {
      codewords = codewords;
      blowup = blowup;
      cosets = subst (λ t. All (HasCoset f.two_adicity) (committed t)) (sym is) cosets;
    }

    pub is_unopened : AreWide r (committed inner) → d.preprocessed ≡ false → d.opened ≡ false
        → IsUnopened f committed b r d
    is_unopened wide private unopened = record {
      of_scheme = of_scheme;
      wide = subst (λ t. AreWide r (committed t)) (sym is) wide;
      private = private;
      unopened = unopened;
    }

-- data that a call gives beside its commitment, where `W` holds of its matrices
module _ {F E T C Refusal : Type 0} (f : Fields F E) (committed : T → List (RowMajorMatrix F))
    (b r : ℕ) where
  pub if_unopened : (result : Result (C × HidingFriPcsProverData T) Refusal)
      (W : List (RowMajorMatrix F) → Type 0)
      → ((ms : List (RowMajorMatrix F)) → W ms → AreWide r ms)
      → IfOk result (λ pair. W (committed pair.1.inner))
      → IfOk result (λ pair. IsNew r b false pair.1)
      → IfOk result (λ pair. IsOfScheme f committed b r pair.1)
      → IfOk result (λ pair. IsUnopened f committed b r pair.1)
  if_unopened (Ok pair) W wide words new of_scheme = record {
    of_scheme = of_scheme;
    wide = wide (committed pair.1.inner) words;
    private = new.kind;
    unopened = new.unopened;
  }
  if_unopened (Err e) W wide words new of_scheme = tt

  pub if_preprocessing : (result : Result (C × HidingFriPcsProverData T) Refusal)
      → IfOk result (λ pair. IsNew r b true pair.1)
      → IfOk result (λ pair. IsOfScheme f committed b r pair.1)
      → IfOk result (λ pair. IsPreprocessing f committed b r pair.1)
  if_preprocessing (Ok pair) new of_scheme = record { of_scheme = of_scheme; public = new.kind }
  if_preprocessing (Err e) new of_scheme = tt

  pub if_shown : {D : Type 0} (result : Result (C × HidingFriPcsProverData T) Refusal)
      (preprocessed : Bool) (W : List (RowMajorMatrix F) → Type 0) (R : Held E → D → Type 0)
      (es : List D)
      → ((ms : List (RowMajorMatrix F)) → W ms
      → AllZip R (map (shown_of (if preprocessed then 0 else r)) (map (held_in f b) ms)) es)
      → IfOk result (λ pair. W (committed pair.1.inner))
      → IfOk result (λ pair. IsNew r b preprocessed pair.1)
      → IfOk result (λ pair. AllZip R (shown_polynomials f committed b r pair.1) es)
  if_shown (Ok pair) preprocessed W R es shown words new =
      zip_shown f committed b r pair.1 pair.1.inner refl R es preprocessed new.kind
      (shown (committed pair.1.inner) words)
  if_shown (Err e) preprocessed W R es shown words new = tt
