-- One point more in the quotients of a row.
use Rattle.std.proofs.Common.{◌≡◌, ◌<◌, ℕ, zero, suc, ◌+◌, ◌*◌, List, [], ◌∷◌, ◌++◌, length, take}
use Rattle.std.proofs.Common.{get_or, refl, sym, ap, ap₂, ◌∙◌, append_assoc, length-append, arith}
use Rattle.std.proofs.Common.{zero-mul, suc-mul}
use Rattle.std.proofs.lemmas.Grind.{flat_map-append}
use Rattle.std.proofs.lemmas.List.{take_more, append-nil}
use Rattle.algebra.specs.Field.{FieldOps, IsField, IsRing, sub, pow}
use Rattle.algebra.specs.Polynomial.{val}
use Rattle.algebra.specs.Quotients.{quotients}
use Rattle.algebra.proofs.Powers.{pow-add}
use Rattle.algebra.proofs.Quotients.{length-quotients, quotients_joined}
use Rattle.p3_pcs.specs.Claims.{PointClaim}
use Rattle.algebra.proofs.Lists.{Each}
use Rattle.p3_pcs.specs.Claims.{point_claims}
use Rattle.p3_fri_batch.specs.Words.{claim_at, terms_at}
use Rattle.std.proofs.Math.Nat.{add-mul}

module _ {E : Type 0} (K : FieldOps E) (L : IsField K) (alpha x : E) (row : List E) where
  pub terms_more : (claims : List (PointClaim E)) (p : ℕ) (z : E) (ys : List E)
      → p < length claims → claim_at z ys ≡ get_or claims p (claim_at z ys)
      → terms_at K x row (take (p + 1) claims)
      ≡ terms_at K x row (take p claims) ++ quotients K z x ys row
  terms_more claims p z ys h e =
      ap (λ cs. terms_at K x row cs) (take_more claims p (claim_at z ys) h)
      ∙ flat_map-append (λ c. quotients K c.point x c.values row) (take p claims)
      (get_or claims p (claim_at z ys) ∷ [])
      ∙ ap (λ c. terms_at K x row (take p claims) ++ (quotients K c.point x c.values row ++ []))
      (sym e)
      ∙ ap (λ t. terms_at K x row (take p claims) ++ t) (append-nil (quotients K z x ys row))

  -- an entry of the word after one more point
  pub entry_more : (claims : List (PointClaim E)) (p : ℕ) (z : E) (ys ts : List E)
      (entry new step claimed compressed inverse : E)
      → p < length claims → claim_at z ys ≡ get_or claims p (claim_at z ys)
      → length ys ≡ length row
      → entry ≡ val K (ts ++ terms_at K x row (take p claims)) alpha
      → step ≡ pow K alpha (length (ts ++ terms_at K x row (take p claims)))
      → claimed ≡ val K ys alpha → compressed ≡ val K row alpha → inverse ≡ K.inv (sub K z x)
      → new ≡ K.add entry (K.mul step (K.mul (sub K claimed compressed) inverse))
      → new ≡ val K (ts ++ terms_at K x row (take (p + 1) claims)) alpha
  entry_more claims p z ys ts entry new step claimed compressed inverse h e n en st cl co iv is =
      is
      ∙ ap₂ (λ a b. K.add a b) en (ap₂ (λ a b. K.mul a b) st (ap₂ (λ a b. K.mul a b)
      (ap₂ (λ a b. sub K a b) cl co) iv))
      ∙ sym (quotients_joined K L z x alpha (ts ++ terms_at K x row (take p claims)) ys row n)
      ∙ ap (λ us. val K us alpha) (append_assoc ts (terms_at K x row (take p claims))
      (quotients K z x ys row)
      ∙ ap (λ us. ts ++ us) (sym (terms_more claims p z ys h e)))

  -- how many they are
  pub terms_length : (width : ℕ) (claims : List (PointClaim E))
      → Each (λ c. length c.values ≡ width) claims → length row ≡ width
      → length (terms_at K x row claims) ≡ length claims * width
  terms_length width [] h n = sym (zero-mul width)
  terms_length width (c ∷ claims) h n =
      length-append (quotients K c.point x c.values row) (terms_at K x row claims)
      ∙ ap₂ (λ a b. a + b) (length-quotients K c.point x c.values row (h.0 ∙ sym n) ∙ h.0)
      (terms_length width claims h.1 n)
      ∙ omega (arith, suc-mul (length claims) width)

pub claims_wide : {E : Type 0} (width : ℕ) (points : List E) (values : List (List E))
    → Each (λ ys. length ys ≡ width) values
    → Each (λ c. length c.values ≡ width) (point_claims points values)
claims_wide width [] values h = tt
claims_wide width (z ∷ points) [] h = tt
claims_wide width (z ∷ points) (ys ∷ values) h = (h.0, claims_wide width points values h.1)

pub claims_taken : {E : Type 0} (width p : ℕ) (claims : List (PointClaim E))
    → Each (λ c. length c.values ≡ width) claims
    → Each (λ c. length c.values ≡ width) (take p claims)
claims_taken width zero [] h = tt
claims_taken width (suc p) [] h = tt
claims_taken width zero (c ∷ claims) h = tt
claims_taken width (suc p) (c ∷ claims) h = (h.0, claims_taken width p claims h.1)

-- and the power after one more point
pub step_more : {E : Type 0} (K : FieldOps E) (R : IsRing K) (alpha step after new : E)
    (n p width : ℕ)
    → step ≡ pow K alpha (n + p * width) → after ≡ pow K alpha width → new ≡ K.mul step after
    → new ≡ pow K alpha (n + (p + 1) * width)
step_more K R alpha step after new n p width s a e =
    e ∙ ap₂ (λ x y. K.mul x y) s a ∙ sym (pow-add K R alpha (n + p * width) width)
    ∙ ap (λ m. pow K alpha m) (omega (arith, add-mul p 1 width))

pub claims_count : {E : Type 0} (points : List E) (values : List (List E))
    → length values ≡ length points → length (point_claims points values) ≡ length points
claims_count [] values e = refl
claims_count (z ∷ points) [] e = absurd (omega (arith, e))
claims_count (z ∷ points) (ys ∷ values) e = ap suc (claims_count points values (omega (arith, e)))
