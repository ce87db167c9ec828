-- What is read of a request.
use Rattle.std.proofs.Common.{◌≡◌, ◌≢◌, ℕ, ◌≤◌, List, [], ◌∷◌, map, length, All, sym, refl}
use Rattle.std.proofs.Common.{subst, ap, ap₂, ◌∙◌}
use Rattle.std.proofs.lemmas.List.{length-map}
use Rattle.algebra.specs.Nested.{lists}
use Rattle.algebra.proofs.Lists.{Each, each_from_All, All_from_each, head_eq, tail_eq}
use Rattle.p3_fri_relation.specs.Setting as setting
use Rattle.p3_fri_two_adic.specs.Ranges.{InProverRange}
use Rattle.fri_records.specs.declared.records.Parameters.{Parameters}
use Rattle.fri_records.specs.declared.records.Matrix.{Matrix}
use Rattle.fri_records.specs.declared.records.Batch.{Batch}
use Rattle.fri_records.specs.Records.{parameters_in, AreProvers}
use Rattle.fri_statement.specs.Setting.{SchemeFields}
use Rattle.fri_numbers.specs.Numbers.{extension_of, extension_numbers, IsExtensionElement}
use Rattle.fri_commitments.specs.Read.{HavePoints}
use Rattle.fri_numbers.specs.Shapes.{HasPoints}
use Rattle.fri_commitments.specs.Requests.{AllMatrices, points_listed}
use Rattle.fri_numbers.proofs.Listed.{HaveNumbers, every_extension_again, every_is_extension}
use Rattle.fri_commitments.proofs.Zipped.{none_left}

-- over a field of this two-adicity
pub are_provers : (most : ℕ) (parameters : Parameters) (p : setting.Parameters)
    → p ≡ parameters_in parameters → InProverRange p most 63 → p.log_blowup ≤ most
    → AreProvers most parameters
are_provers most parameters p same range low = record {
  range = subst (λ q. InProverRange q most 63) same range;
  blowup = subst (λ (q : setting.Parameters). q.log_blowup ≤ most) same low;
}

-- what is read alike of each entry of two lists
module _ {A B C : Type 0} (f : A → C) (g : B → C) where
  each_read : (P : A → Type 0) (Q : B → Type 0) → ((x : A) (y : B) → P x → f x ≡ g y → Q y)
      → (xs : List A) (ys : List B) → map f xs ≡ map g ys → Each P xs → Each Q ys
  each_read P Q step [] [] e h = tt
  each_read P Q step [] (y ∷ ys) e h = cc
  each_read P Q step (x ∷ xs) [] e h = tt
  each_read P Q step (x ∷ xs) (y ∷ ys) e h =
      (step x y h.0 (head_eq e), each_read P Q step xs ys (tail_eq e) h.1)

  all_read : (P : A → Type 0) (Q : B → Type 0) → ((x : A) (y : B) → P x → f x ≡ g y → Q y)
      → (xs : List A) (ys : List B) → map f xs ≡ map g ys → All P xs → All Q ys
  all_read P Q step xs ys e h =
      All_from_each Q ys (each_read P Q step xs ys e (each_from_All P xs h))

  back_read : (h : B → A) → ((x : A) (y : B) → f x ≡ g y → x ≡ h y) → (xs : List A) (ys : List B)
      → map f xs ≡ map g ys → xs ≡ map h ys
  back_read h back [] [] e = refl
  back_read h back [] (y ∷ ys) e = cc
  back_read h back (x ∷ xs) [] e = cc
  back_read h back (x ∷ xs) (y ∷ ys) e =
      ap₂ (λ z zs. z ∷ zs) (back x y (head_eq e)) (back_read h back xs ys (tail_eq e))

-- the numbers of a batch's points
abbrev numbers_of : Batch → List (List (List ℕ))
numbers_of batch = map (λ m. lists m.points.items) batch.matrices.items

module _ {F E : Type 0} (f : SchemeFields F E) (numbered : HaveNumbers f) where
  -- those of points
  abbrev numbers_in : List (List E) → List (List (List ℕ))
  numbers_in pss = map (map (extension_numbers f)) pss

  -- points of some numbers, of which there are some
  has_points : (zs : List E) (m : Matrix) → zs ≢ []
      → map (extension_numbers f) zs ≡ lists m.points.items → HasPoints f m
  has_points zs m some e = record {
    some_point = λ none. some (none_left zs
        (sym (length-map zs (extension_numbers f)) ∙ ap length e ∙ ap (λ vs. length (lists vs)) none));
    elements = subst (λ ns. All (IsExtensionElement f) ns) e (every_is_extension f numbered zs);
  }

  pub have_points : (pss : List (List (List E))) (batches : List Batch)
      → map numbers_in pss ≡ map numbers_of batches → HavePoints pss
      → AllMatrices (HasPoints f) batches
  have_points pss batches e some =
      all_read numbers_in numbers_of (λ ps. All (λ zs. zs ≢ []) ps)
      (λ batch. All (HasPoints f) batch.matrices.items)
      (λ ps batch h same. all_read (map (extension_numbers f)) (λ m. lists m.points.items)
      (λ zs. zs ≢ []) (HasPoints f) has_points ps batch.matrices.items same h) pss batches e some

  -- points are those of their numbers
  pub points_again : (pss : List (List (List E))) (batches : List Batch)
      → map numbers_in pss ≡ map numbers_of batches → pss ≡ points_listed f batches
  points_again pss batches e =
      back_read numbers_in numbers_of
      (λ batch. map (λ m. map (extension_of f) (lists m.points.items)) batch.matrices.items)
      (λ ps batch same. back_read (map (extension_numbers f)) (λ m. lists m.points.items)
      (λ m. map (extension_of f) (lists m.points.items))
      (λ zs m is. sym (every_extension_again f numbered zs) ∙ ap (λ ns. map (extension_of f) ns) is)
      ps batch.matrices.items same) pss batches e
