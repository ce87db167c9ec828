-- The matrices of rounds, one after another.
use Rattle.std.proofs.Common.{◌≡◌, ◌<◌, ◌≤◌, ◌+◌, ℕ, zero, suc, List, [], ◌∷◌, ◌++◌, length, map}
use Rattle.std.proofs.Common.{take, get_or, All, Result, Ok, Err, IfOk, refl, sym, ap, ap₂, ◌∙◌}
use Rattle.std.proofs.Common.{subst, append_assoc, arith}
use Rattle.std.specs.List.{AllZip}
use Rattle.std.proofs.lemmas.List.{map-append, take_more, take_all, append-nil}
use Rattle.std.proofs.lemmas.List.Elements.{All-push}
use Rattle.std.proofs.lemmas.Grind.{flat_map-append}
use Rattle.algebra.specs.Nested.{lists, joined}
use Rattle.p3_matrix.specs.declared.dense.RowMajorMatrix.{RowMajorMatrix}
use Rattle.p3_pcs.specs.Claims.{zip_with}
use Rattle.p3_pcs.proofs.Zipped.{entry_of_zip_with, within_zip_with, length_of_zip_with}
use Rattle.p3_fri_openings.specs.Denominators.{HasPointsCovered}
use Rattle.p3_fri_openings.specs.declared.denominators.PointDenominators.{PointDenominators}
use Rattle.p3_fri_openings.specs.Rounds.{Asked, HasCoset, ask}
use Rattle.p3_fri_openings.proofs.First.{at_item}
use Rattle.p3_fri_batch.specs.declared.opened.OpenedMatrix.{OpenedMatrix}
use Rattle.p3_fri_batch.specs.Words.{Opened}
use Rattle.p3_fri_batch.specs.Rounds.{HasValues, IsReady, as_opened, asked_of, opened_at}

-- the same place of two lists
pub all_zip_at : {A B : Type 0} (R : A → B → Type 0) (xs : List A) (ys : List B) (i : ℕ) (x : A)
    (y : B)
    → AllZip R xs ys → i < length xs → x ≡ get_or xs i x → y ≡ get_or ys i y → R x y
all_zip_at R [] ys i x y h l e d = absurd (omega (arith, l))
all_zip_at R (a ∷ xs) [] i x y h l e d = absurd h
all_zip_at R (a ∷ xs) (b ∷ ys) zero x y h l e d = subst (λ u. R u y) (sym e)
    (subst (λ v. R a v) (sym d) h.0)
all_zip_at R (a ∷ xs) (b ∷ ys) (suc i) x y h l e d = all_zip_at R xs ys i x y h.1 (omega (arith, l))
    e d

-- what holds of each value that a result can have
pub for_ok : {T E : Type 0} (r : Result T E) (P : T → Type 0) → ((x : T) → r ≡ Ok x → P x)
    → IfOk r P
for_ok (Ok x) P h = h x refl
for_ok (Err e) P h = tt

-- one list more
pub joined_more : {A : Type 0} (parts : List (List A)) (i : ℕ) (part : List A) → i < length parts
    → part ≡ get_or parts i part → joined (take (i + 1) parts) ≡ joined (take i parts) ++ part
joined_more parts i part l e =
    ap joined (take_more parts i part l ∙ ap (λ p. take i parts ++ p ∷ []) (sym e))
    ∙ flat_map-append (λ p. p) (take i parts) (part ∷ [])
    ∙ ap (λ ps. joined (take i parts) ++ ps) (append-nil part)

module _ {F E : Type 0} (matrices : List (RowMajorMatrix F)) (points : List (List E))
    (values : List (List (List E)))
    (i : ℕ) (one : i < length matrices) (two : i < length points) where
  -- the claims of a round, at a place
  abbrev pub asked : List (Asked F E)
  asked = zip_with ask matrices points

  pub asked_within : i < length asked
  asked_within = within_zip_with ask matrices points i one two

  module _ (three : i < length values) (o : OpenedMatrix F E) (zs : List E) (ys : List (List E))
      (m : o.matrix.now ≡ get_or matrices i o.matrix.now) (z : zs ≡ get_or points i zs)
      (y : ys ≡ get_or values i ys)
      (same_points : o.points.now ≡ zs) (same_values : lists o.values.now ≡ ys) where
    asked_here : asked_of o ≡ get_or asked i (asked_of o)
    asked_here =
        entry_of_zip_with ask matrices points i o.matrix.now o.points.now one two m
        (subst (λ u. u ≡ get_or points i u) (sym same_points) z)

    values_here : lists o.values.now ≡ get_or values i (lists o.values.now)
    values_here = subst (λ u. u ≡ get_or values i u) (sym same_values) y

    opened_here : as_opened o ≡ get_or (zip_with opened_at asked values) i (as_opened o)
    opened_here = entry_of_zip_with opened_at asked values i (asked_of o) (lists o.values.now)
        asked_within three asked_here values_here

    -- one matrix more
    pub opened_more : (items news : List (OpenedMatrix F E)) (before : List (Opened F E))
        → news ≡ items ++ o ∷ [] → map as_opened items
        ≡ before ++ take i (zip_with opened_at asked values)
        → map as_opened news ≡ before ++ take (i + 1) (zip_with opened_at asked values)
    opened_more items news before n e =
        ap (map as_opened) n ∙ map-append as_opened items (o ∷ [])
        ∙ ap₂ (λ xs x. xs ++ x ∷ []) e opened_here
        ∙ append_assoc before (take i (zip_with opened_at asked values))
        (get_or (zip_with opened_at asked values) i (as_opened o) ∷ [])
        ∙ ap (λ xs. before ++ xs) (sym (take_more (zip_with opened_at asked values) i (as_opened o)
        (within_zip_with opened_at asked values i asked_within three)))

    -- it is ready if the round is
    pub ready_more : (two_adicity : ℕ) (table : List (PointDenominators E))
        (items news : List (OpenedMatrix F E))
        → news ≡ items ++ o ∷ [] → All (IsReady two_adicity table) items
        → All (HasCoset two_adicity) matrices → AllZip HasValues asked values
        → All (HasPointsCovered table) asked
        → All (IsReady two_adicity table) news
    ready_more two_adicity table items news n before cosets have covered =
        subst (λ xs. All (IsReady two_adicity table) xs) (sym n)
        (All-push (IsReady two_adicity table) items o before (record {
          coset = at_item (HasCoset two_adicity) matrices i o.matrix.now one m cosets;
          values = all_zip_at HasValues asked values i (asked_of o) (lists o.values.now) have
              asked_within asked_here values_here;
          covered = at_item (HasPointsCovered table) asked i (asked_of o) asked_within asked_here
              covered;
        }))
    -- no place is left

pub opened_whole : {F E : Type 0} (matrices : List (RowMajorMatrix F)) (points : List (List E))
    (values : List (List (List E)))
    (i : ℕ) → length matrices ≤ i
    → take i (zip_with opened_at (zip_with ask matrices points) values)
    ≡ zip_with opened_at (zip_with ask matrices points) values
opened_whole matrices points values i l =
    let inner = length_of_zip_with ask matrices points i (omega (arith, l)) in
    take_all i (zip_with opened_at (zip_with ask matrices points) values)
    (length_of_zip_with opened_at (zip_with ask matrices points) values i (omega (arith, inner)))
