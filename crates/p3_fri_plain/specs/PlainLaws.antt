-- No two values have the same numbers.
use Rattle.std.specs.Prelude.{ℕ, List, [], ◌∷◌, ◌≡◌, map, length, refl}
use Rattle.std.proofs.Common.{ap, ap₂, sym, ◌∙◌, drop, slice_index_or, arith}
use Rattle.std.proofs.lemmas.List.{length-map}
use Rattle.algebra.specs.Field.{FieldOps, multiple}
use Rattle.p3_fri_relation.specs.Setting.{InputOpening, RoundOpening}
use Rattle.p3_fri_plain.specs.Numbers.{Paths, SeenProof, ProofNumbers, HidingSeen, HidingNumbers}
use Rattle.p3_fri_plain.specs.Numbers.{batch_numbers, coefficient_numbers, step_numbers}
use Rattle.p3_fri_plain.specs.Numbers.{proof_numbers, hiding_numbers}

-- where a function tells entries apart, it tells lists apart, entry by entry
pub map_told_apart : {A B : Type 0} (f : A → B) → ((a b : A) → f a ≡ f b → a ≡ b)
    → (xs ys : List A) → map f xs ≡ map f ys → xs ≡ ys
map_told_apart f apart [] [] same = refl
map_told_apart f apart [] (y ∷ ys) same =
    let e : 0 ≡ length (map f (y ∷ ys)) = ap length same in
    let n = length-map (y ∷ ys) f in
    absurd (omega arith)
map_told_apart f apart (x ∷ xs) [] same =
    let e : length (map f (x ∷ xs)) ≡ 0 = ap length same in
    let n = length-map (x ∷ xs) f in
    absurd (omega arith)
map_told_apart f apart (x ∷ xs) (y ∷ ys) same =
    ap₂ (λ z zs. z ∷ zs)
    (apart x y (ap (λ zs. slice_index_or zs 0 (f x)) same))
    (map_told_apart f apart xs ys (ap (drop 1) same))

-- elements that are the multiples of one for their numbers
pub element_told_apart : {F : Type 0} (ops : FieldOps F) (canonical : F → ℕ)
    → ((x : F) → multiple ops (canonical x) ≡ x)
    → (a b : F) → canonical a ≡ canonical b → a ≡ b
element_told_apart ops canonical back a b same =
    sym (back a) ∙ ap (multiple ops) same ∙ back b

module _ {F : Type 0} (canonical : F → ℕ)
    (apart : (a b : F) → canonical a ≡ canonical b → a ≡ b) where
  row_told_apart : (xs ys : List F) → map canonical xs ≡ map canonical ys → xs ≡ ys
  row_told_apart = map_told_apart canonical apart

  pub batch_told_apart : (a b : InputOpening F Paths)
      → batch_numbers canonical a ≡ batch_numbers canonical b → a ≡ b
  batch_told_apart a b same = λ i. record {
    rows = map_told_apart (map (map canonical)) (map_told_apart (map canonical) row_told_apart)
        a.rows b.rows (ap (λ (o : InputOpening ℕ Paths). o.rows) same) i;
    path = ap (λ (o : InputOpening ℕ Paths). o.path) same i;
  }

module _ {F E : Type 0} (canonical : F → ℕ)
    (apart : (a b : F) → canonical a ≡ canonical b → a ≡ b)
    (coefficients : E → List F)
    (injective : (a b : E) → coefficients a ≡ coefficients b → a ≡ b) where
  abbrev numbers : E → List ℕ
  numbers = coefficient_numbers canonical coefficients

  pub extension_told_apart : (a b : E) → coefficient_numbers canonical coefficients a
      ≡ coefficient_numbers canonical coefficients b → a ≡ b
  extension_told_apart a b same =
      injective a b (map_told_apart canonical apart (coefficients a) (coefficients b) same)

  values_told_apart : (xs ys : List E) → map numbers xs ≡ map numbers ys → xs ≡ ys
  values_told_apart = map_told_apart numbers extension_told_apart

  pub step_told_apart : (a b : RoundOpening E Paths)
      → step_numbers canonical coefficients a ≡ step_numbers canonical coefficients b → a ≡ b
  step_told_apart a b same = λ i. record {
    siblings = map_told_apart (map numbers) values_told_apart
        a.siblings b.siblings (ap (λ (o : RoundOpening (List ℕ) Paths). o.siblings) same) i;
    path = ap (λ (o : RoundOpening (List ℕ) Paths). o.path) same i;
  }

  pub proof_told_apart : (a b : SeenProof F E)
      → proof_numbers canonical coefficients a ≡ proof_numbers canonical coefficients b → a ≡ b
  proof_told_apart a b same = λ i. record {
    batch_witness = apart a.batch_witness b.batch_witness
        (ap (λ (p : ProofNumbers). p.batch_witness) same) i;
    commitments = ap (λ (p : ProofNumbers). p.commitments) same i;
    commit_witnesses = row_told_apart canonical apart a.commit_witnesses b.commit_witnesses
        (ap (λ (p : ProofNumbers). p.commit_witnesses) same) i;
    inputs = map_told_apart (batch_numbers canonical) (batch_told_apart canonical apart)
        a.inputs b.inputs (ap (λ (p : ProofNumbers). p.inputs) same) i;
    rounds = map_told_apart (step_numbers canonical coefficients) step_told_apart
        a.rounds b.rounds (ap (λ (p : ProofNumbers). p.rounds) same) i;
    final_poly = values_told_apart a.final_poly b.final_poly
        (ap (λ (p : ProofNumbers). p.final_poly) same) i;
    query_witness = apart a.query_witness b.query_witness
        (ap (λ (p : ProofNumbers). p.query_witness) same) i;
  }

  pub hiding_told_apart : (a b : HidingSeen F E)
      → hiding_numbers canonical coefficients a ≡ hiding_numbers canonical coefficients b → a ≡ b
  hiding_told_apart a b same = λ i. record {
    random_values = map_told_apart (map (map (map numbers)))
        (map_told_apart (map (map numbers)) (map_told_apart (map numbers) values_told_apart))
        a.random_values b.random_values
        (ap (λ (h : HidingNumbers). h.random_values) same) i;
    proof = proof_told_apart a.proof b.proof (ap (λ (h : HidingNumbers). h.proof) same) i;
  }
