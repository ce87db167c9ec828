-- Queries meet, as quotient sums, entries of the batches of the opened columns.
use Rattle.std.proofs.Common.{◌≡◌, ◌≢◌, ◌==◌, ℕ, ◌+◌, ◌-◌, ◌/◌, ◌^◌, ◌<◌, List, [], ◌∷◌, ◌++◌, length, map, get_or, Option, Some, None}
use Rattle.std.proofs.Common.{refl, sym, ap, ap₂, ◌∙◌, subst, arith, Bool, true, false, if◌then◌else◌, pow_pos, inl, inr}
use Rattle.std.specs.Prelude.{All, EachIndex, slice_index}
use Rattle.std.specs.List.{flat_map, AllZip, list_any}
use Rattle.std.proofs.Math.Nat.{div-lt_iff_lt-mul}
use Rattle.std.proofs.lemmas.Nat.{pow-add}
use Rattle.std.proofs.lemmas.Bool.{cases_Bool, or_parts}
use Rattle.std.proofs.lemmas.List.{get_or-map}
use Rattle.algebra.specs.Polynomial.{val}
use Rattle.algebra.specs.Field.{IsHomomorphism}
use Rattle.algebra.specs.Rounds.{entry_of}
use Rattle.algebra.proofs.Lists.{get_or-tabulate, each_from_All, Each}
use Rattle.p3_fri_relation.specs.Setting.{Setting, Fields, Parameters, MatrixClaim, CommitmentClaim, InputOpening, Proof}
use Rattle.p3_fri_relation.specs.Heights.{log_height, matrices_of, has_height}
use Rattle.p3_fri_relation.specs.Inputs.{OpensInput, HasPoints, rows_at}
use Rattle.p3_fri_relation.specs.QuotientSums.{terms, point_read}
use Rattle.p3_fri_relation.specs.Acceptance.{top_height}
use Rattle.fri_soundness.specs.Batches.{quotient_at, batch_word}
use Rattle.fri_soundness.specs.Openings.{batch_inputs}
use Rattle.p3_fri_soundness.specs.Bound.{lifted_root, AreInputsMet}
use Rattle.p3_fri_soundness.specs.BoundInputs.{matrix_columns, commitment_columns, columns_claimed, rows_of, rows_claimed, TablesFit, BindsTables}
use Rattle.p3_fri_soundness.proofs.BoundTerms.{terms_are}

each-before : {X : Type 0} (P : X → Type 0) (xs ys : List X) → Each P (xs ++ ys) → Each P xs
each-before P [] ys h = tt
each-before P (x ∷ xs) ys h = (h.0, each-before P xs ys h.1)

each-behind : {X : Type 0} (P : X → Type 0) (xs ys : List X) → Each P (xs ++ ys) → Each P ys
each-behind P [] ys h = h
each-behind P (x ∷ xs) ys h = each-behind P xs ys h.1

each-flat_map : {X Y : Type 0} (P : Y → Type 0) (f : X → List Y) (xs : List X) → Each P (flat_map f xs) → Each (λ x. Each P (f x)) xs
each-flat_map P f [] h = tt
each-flat_map P f (x ∷ xs) h = (each-before P (f x) (flat_map f xs) h, each-flat_map P f xs (each-behind P (f x) (flat_map f xs) h))

none_any : {X : Type 0} (p : X → Bool) (xs : List X) → list_any p xs ≡ false → Each (λ x. p x ≡ false) xs
none_any p [] e = tt
none_any p (x ∷ xs) e = ((or_parts (p x) (list_any p xs) e).0, none_any p xs (or_parts (p x) (list_any p xs) e).1)

module _ {F E : Type 0} (f : Fields F E) (log_blowup h : ℕ) where
  no_columns_in : (ms : List (MatrixClaim E)) (tables : List (List (List F))) → Each (λ m. (log_height log_blowup m == h) ≡ false) ms
      → commitment_columns f log_blowup h ms tables ≡ []
  no_columns_in [] tables e = refl
  no_columns_in (m ∷ ms) [] e = refl
  no_columns_in (m ∷ ms) (table ∷ tables) e =
      ap (λ b. (if b then matrix_columns f log_blowup h m table else []) ++ commitment_columns f log_blowup h ms tables) e.0 ∙ no_columns_in ms tables e.1

  no_columns : {InCom : Type 0} (claims : List (CommitmentClaim E InCom)) (tables : List (List (List (List F))))
      → Each (λ (claim : CommitmentClaim E InCom). Each (λ m. (log_height log_blowup m == h) ≡ false) claim.matrices) claims → columns_claimed f log_blowup h claims tables ≡ []
  no_columns [] tables e = refl
  no_columns (claim ∷ claims) [] e = refl
  no_columns (claim ∷ claims) (ts ∷ tables) e = ap₂ (λ us vs. us ++ vs) (no_columns_in claim.matrices ts e.0) (no_columns claims tables e.1)

  pub had : {InCom : Type 0} (claims : List (CommitmentClaim E InCom)) (tables : List (List (List (List F)))) → columns_claimed f log_blowup h claims tables ≢ []
      → has_height log_blowup (matrices_of claims) h ≡ true
  had {InCom} claims tables some = elim (cases_Bool (has_height log_blowup (matrices_of claims) h)) [
    | inl e ↦ e
    | inr e ↦ absurd (some (no_columns claims tables
        (each-flat_map (λ m. (log_height log_blowup m == h) ≡ false) (λ (claim : CommitmentClaim E InCom). claim.matrices) claims
        (none_any (λ m. log_height log_blowup m == h) (matrices_of claims) e))))
  ]

module _ {F E C Com Path InCom InPath : Type 0} (s : Setting F E C Com Path InCom InPath) (log_blowup top : ℕ) (positions : List ℕ) where
  pub rows_bound : (j : ℕ) → j < length positions → (claims : List (CommitmentClaim E InCom)) (inputs : List (InputOpening F InPath)) (tables : List (List (List (List F))))
      → AllZip (OpensInput s.opens_input log_blowup top positions) claims inputs → AllZip (BindsTables s log_blowup top) claims tables
      → rows_at j inputs ≡ rows_claimed s.fields log_blowup top (get_or positions j 0) claims tables
  rows_bound j l [] [] tables o b = refl
  rows_bound j l [] (i ∷ inputs) tables o b = absurd o
  rows_bound j l (claim ∷ claims) [] tables o b = absurd o
  rows_bound j l (claim ∷ claims) (i ∷ inputs) [] o b = absurd b
  rows_bound j l (claim ∷ claims) (i ∷ inputs) (ts ∷ tables) o b = ap₂ (λ r rs. r ∷ rs)
      (ap (λ rs. get_or rs j []) (b.0.binds positions i o.0)
      ∙ get_or-map (λ q. rows_of s.fields log_blowup top q claim.matrices ts) positions j 0 [] l)
      (rows_bound j l claims inputs tables o.1 b.1)

  pub fits : (claims : List (CommitmentClaim E InCom)) (tables : List (List (List (List F)))) → AllZip (BindsTables s log_blowup top) claims tables
      → TablesFit s.fields log_blowup claims tables
  fits [] [] b = tt
  fits [] (t ∷ tables) b = absurd b
  fits (claim ∷ claims) [] b = absurd b
  fits (claim ∷ claims) (ts ∷ tables) b = (b.0.tables_fit, fits claims tables b.1)

module _ {F E C Com Path InCom InPath : Type 0} (s : Setting F E C Com Path InCom InPath) (p : Parameters) (claims : List (CommitmentClaim E InCom))
    (proof : Proof F E Com Path InPath) (alpha : E) (H : IsHomomorphism s.fields.base s.fields.ext s.fields.lift) (tables : List (List (List (List F)))) (positions : List ℕ)
    (points : All HasPoints (matrices_of claims)) (fit : TablesFit s.fields p.log_blowup claims tables)
    (opened : EachIndex positions (λ j. rows_at j proof.inputs ≡ rows_claimed s.fields p.log_blowup (top_height p claims) (slice_index positions j) claims tables))
    (inside : All (λ position. position < 2 ^ top_height p claims) positions) where
  abbrev top : ℕ
  top = top_height p claims

  abbrev inputs : ℕ → Option (List E)
  inputs = batch_inputs s.fields.ext (lifted_root s) (s.fields.lift s.fields.shift) (has_height p.log_blowup (matrices_of claims))
      (λ h. columns_claimed s.fields p.log_blowup h claims tables) alpha

  pub inputs_met : AreInputsMet s p claims proof alpha inputs positions
  inputs_met j l h b = by (has_height p.log_blowup (matrices_of claims) h)
    where
      q : ℕ
      q = get_or positions j 0

      by : (t : Bool) → (if t then Some (val s.fields.ext (terms s.fields p.log_blowup h (point_read s.fields top (get_or positions j 0) h) claims (rows_at j proof.inputs)) alpha) else None)
          ≡ entry_of s.fields.ext (if t then Some (batch_word s.fields.ext (lifted_root s) (s.fields.lift s.fields.shift) h alpha (columns_claimed s.fields p.log_blowup h claims tables)) else None)
          (get_or positions j 0 / 2 ^ (top - h))
      by false = refl
      by true =
          let split : top ≡ h + (top - h) = omega (arith, b) in
          let below : get_or positions j 0 / 2 ^ (top - h) < 2 ^ h = (div-lt_iff_lt-mul (pow_pos (top - h))).1 (rw (← pow-add 2 h (top - h)) (subst (λ n. get_or positions j 0 < 2 ^ n) split (inside j 0 l))) in
          ap (λ v. Some v)
          (ap (λ us. val s.fields.ext us alpha)
          (ap (λ rs. terms s.fields p.log_blowup h (point_read s.fields top (get_or positions j 0) h) claims rs) (opened j l)
          ∙ terms_are s.fields H p.log_blowup h (get_or positions j 0 / 2 ^ (top - h)) below top (get_or positions j 0) refl claims tables fit
          (each-flat_map HasPoints (λ (claim : CommitmentClaim E InCom). claim.matrices) claims (each_from_All HasPoints (matrices_of claims) points)))
          ∙ sym (get_or-tabulate (2 ^ h) (λ i. val s.fields.ext (map (λ t. quotient_at s.fields.ext (lifted_root s) (s.fields.lift s.fields.shift) h i t) (columns_claimed s.fields p.log_blowup h claims tables)) alpha)
          (get_or positions j 0 / 2 ^ (top - h)) s.fields.ext.zero below))
