-- Data that was seen to be fresh may be opened and read, and so may requests for it be opened.
use Rattle.std.proofs.Common.{◌≡◌, ◌≢◌, ◌<◌, ℕ, List, [], ◌∷◌, ◌++◌, Some, map}
use Rattle.std.proofs.Common.{true, false}
use Rattle.std.specs.Prelude.{Bool}
use Rattle.std.proofs.Common.{length, All, get_or, refl, sym, subst, ◌∙◌, arith}
use Rattle.std.specs.List.{flat_map}
use Rattle.std.proofs.lemmas.List.{length-map}
use Rattle.std.proofs.lemmas.List.Elements.{All-map, All-cons}
use Rattle.p3_matrix.specs.declared.dense.RowMajorMatrix.{RowMajorMatrix}
use Rattle.p3_matrix.specs.Matrix.{matrix_width}
use Rattle.p3_pcs.specs.declared.requests.OpeningRequest.{OpeningRequest}
use Rattle.p3_pcs.specs.Requests.{Held, Request, AreOpenable, request}
use Rattle.p3_stark_pcs.specs.Preprocessing.{AreOpenableAt}
use Rattle.p3_fri_relation.specs.Setting.{Fields}
use Rattle.p3_fri_openings.specs.Rounds.{HasCoset}
use Rattle.p3_fri_hiding_openings.specs.declared.data.HidingFriPcsProverData.{
  HidingFriPcsProverData,
}
use Rattle.p3_fri_hiding_openings.specs.Data.{AreWide, IsOfScheme, IsUnopened, IsPreprocessing}
use Rattle.p3_fri_hiding_openings.specs.Data.{CanRead, CanReadWhole, hidden_columns}
use Rattle.p3_fri_hiding_openings.specs.Data.{shown_polynomials}
use Rattle.p3_fri_hiding_tests.specs.Openable.{IsHeld, IsFresh, AreFresh}

module _ {F E T : Type 0} (f : Fields F E) (committed : T → List (RowMajorMatrix F)) (b r n : ℕ)
    (top : f.two_adicity ≡ 27) (blowup : b ≡ 2) (as_many : r ≡ n) where
  of_scheme : (d : HidingFriPcsProverData T) → IsHeld n d (committed d.inner)
      → IsOfScheme f committed b r d
  of_scheme d held = record {
    codewords = held.as_many ∙ sym as_many;
    blowup = held.blowup ∙ sym blowup;
    cosets = subst (λ t. All (HasCoset t) (committed d.inner)) (sym top) held.cosets;
  }

  unopened : (d : HidingFriPcsProverData T) → IsFresh n false d (committed d.inner)
      → IsUnopened f committed b r d
  unopened d fresh = record {
    of_scheme = of_scheme d fresh.held;
    wide = subst (λ w. AreWide w (committed d.inner)) (sym as_many) (fresh.wide refl);
    private = fresh.kind;
    unopened = fresh.unopened refl;
  }

  preprocessing : (d : HidingFriPcsProverData T) → IsFresh n true d (committed d.inner)
      → IsPreprocessing f committed b r d
  preprocessing d fresh = record { of_scheme = of_scheme d fresh.held; public = fresh.kind }

  -- what may be read
  pub whole : (d : HidingFriPcsProverData T) → IsHeld n d (committed d.inner) → (index : ℕ)
      → index < length (committed d.inner) → CanReadWhole f committed b r d index
  whole d held index below =
      let is = of_scheme d held in
      record {
        codewords = is.codewords;
        blowup = is.blowup;
        below = below;
        coset = λ m. is.cosets index m below;
      }

  pub shown : (d : HidingFriPcsProverData T) → IsHeld n d (committed d.inner) → (index : ℕ)
      → index < length (committed d.inner)
      → ((m : RowMajorMatrix F)
      → hidden_columns n d < matrix_width (get_or (committed d.inner) index m))
      → CanRead f committed b r d index
  shown d held index below wider = record {
    whole = whole d held index below;
    wider = λ m. subst (λ w. hidden_columns w d < matrix_width (get_or (committed d.inner) index m))
        (sym as_many) (wider m);
  }

  -- as many polynomials are shown as there are matrices
  as_shown : (d : HidingFriPcsProverData T)
      → length (shown_polynomials f committed b r d) ≡ length (committed d.inner)
  as_shown d = length-map _ _ ∙ length-map _ _

  counted : (q : OpeningRequest (HidingFriPcsProverData T) E)
      → length q.points.items ≡ length (committed q.prover_data.now.inner)
      → length (request q).points ≡ length (shown_polynomials f committed b r (request q).datum)
  counted q is = length-map q.points.items (λ v. v.items) ∙ is ∙ sym (as_shown q.prover_data.now)

  some_shown : (ms ns : List (Held E)) → 0 < length ms → ms ++ ns ≢ []
  some_shown [] ns some e = absurd (omega (arith, some))
  some_shown (m ∷ ms) ns some e = cc

  module _ (first_preprocessed : Bool)
      (rs : List (OpeningRequest (HidingFriPcsProverData T) E))
      (fresh : AreFresh n first_preprocessed committed rs) where
    points : All (λ (p : Request (HidingFriPcsProverData T) E).
        length p.points ≡ length (shown_polynomials f committed b r p.datum))
        (map request (fresh.first ∷ fresh.others))
    points = All-map (λ (p : Request (HidingFriPcsProverData T) E).
        length p.points ≡ length (shown_polynomials f committed b r p.datum)) request
        (fresh.first ∷ fresh.others)
        (All-cons (λ p. length (request p).points
        ≡ length (shown_polynomials f committed b r (request p).datum)) fresh.first fresh.others
        (counted fresh.first fresh.first_counted)
        (λ k d below. counted (get_or fresh.others k d) (fresh.others_counted k d below)))

    some : flat_map (λ (p : Request (HidingFriPcsProverData T) E).
        shown_polynomials f committed b r p.datum) (map request (fresh.first ∷ fresh.others)) ≢ []
    some = some_shown (shown_polynomials f committed b r fresh.first.prover_data.now)
        (flat_map (λ (p : Request (HidingFriPcsProverData T) E).
        shown_polynomials f committed b r p.datum) (map request fresh.others))
        (subst (λ n. 0 < n) (sym (as_shown fresh.first.prover_data.now)) fresh.first_fresh.some)

    others_unopened : All (λ p. IsUnopened f committed b r (request p).datum) fresh.others
    others_unopened = λ k d below.
        unopened (get_or fresh.others k d).prover_data.now (fresh.others_fresh k d below)

  pub all_private : (rs : List (OpeningRequest (HidingFriPcsProverData T) E))
      → AreFresh n false committed rs
      → AreOpenable (IsUnopened f committed b r) (shown_polynomials f committed b r)
      (map request rs)
  all_private rs fresh =
      subst (λ (ps : List (OpeningRequest (HidingFriPcsProverData T) E)).
      AreOpenable (IsUnopened f committed b r) (shown_polynomials f committed b r)
      (map request ps)) (sym fresh.are)
      (record {
        data_openable = All-map (λ (p : Request (HidingFriPcsProverData T) E).
            IsUnopened f committed b r p.datum) request (fresh.first ∷ fresh.others)
            (All-cons (λ p. IsUnopened f committed b r (request p).datum) fresh.first fresh.others
            (unopened fresh.first.prover_data.now fresh.first_fresh)
            (others_unopened false rs fresh));
        points = points false rs fresh;
        some_matrix = some false rs fresh;
      })

  pub first_preprocessed : (rs : List (OpeningRequest (HidingFriPcsProverData T) E))
      → AreFresh n true committed rs
      → AreOpenableAt (IsUnopened f committed b r) (IsPreprocessing f committed b r)
      (shown_polynomials f committed b r) (Some 0) (map request rs)
  first_preprocessed rs fresh =
      subst (λ (ps : List (OpeningRequest (HidingFriPcsProverData T) E)).
      AreOpenableAt (IsUnopened f committed b r) (IsPreprocessing f committed b r)
      (shown_polynomials f committed b r) (Some 0) (map request ps)) (sym fresh.are)
      (record {
        data_openable = (
          preprocessing fresh.first.prover_data.now fresh.first_fresh,
          All-map (IsUnopened f committed b r)
              (λ (p : Request (HidingFriPcsProverData T) E). p.datum)
              (map request fresh.others) (All-map (λ (p : Request (HidingFriPcsProverData T) E).
              IsUnopened f committed b r p.datum) request fresh.others
              (others_unopened true rs fresh)),
        );
        points = points true rs fresh;
        some_matrix = some true rs fresh;
      })
