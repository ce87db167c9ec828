-- No two proofs have the same numbers.
use Rattle.std.proofs.Common.{◌≡◌, ℕ, List, map, ap}
use Rattle.p3_baby_bear.specs.declared.baby_bear4.BabyBear4.{BabyBear4}
use Rattle.p3_baby_bear.specs.BabyBear.{baby_bear}
use Rattle.p3_baby_bear.specs.BabyBear4.{coefficients4}
use Rattle.p3_baby_bear.specs.BabyBearLaws.{multiple_canonical}
use Rattle.p3_baby_bear.specs.BabyBear4Laws.{coefficients4_injective}
use Rattle.p3_fri_plain.specs.PlainLaws.{map_told_apart, element_told_apart, extension_told_apart}
use Rattle.p3_uni_stark_plain.specs.Parts.{canonical_number, element_numbers}
use Rattle.p3_uni_stark_plain.specs.Parts.{Opened, opened_numbers}
use Rattle.p3_uni_stark_plain.specs.Proofs.{StarkParts, stark_numbers}

values_told_apart : (xs ys : List BabyBear4)
    → map element_numbers xs ≡ map element_numbers ys → xs ≡ ys
values_told_apart = map_told_apart element_numbers (extension_told_apart canonical_number
    (element_told_apart baby_bear canonical_number multiple_canonical)
    coefficients4 coefficients4_injective)

opened_told_apart : (a b : Opened BabyBear4) → opened_numbers a ≡ opened_numbers b → a ≡ b
opened_told_apart a b same = λ i. record {
  trace_local = values_told_apart a.trace_local b.trace_local
      (ap (λ (o : Opened (List ℕ)). o.trace_local) same) i;
  trace_next = values_told_apart a.trace_next b.trace_next
      (ap (λ (o : Opened (List ℕ)). o.trace_next) same) i;
  preprocessed_local = values_told_apart a.preprocessed_local b.preprocessed_local
      (ap (λ (o : Opened (List ℕ)). o.preprocessed_local) same) i;
  preprocessed_next = values_told_apart a.preprocessed_next b.preprocessed_next
      (ap (λ (o : Opened (List ℕ)). o.preprocessed_next) same) i;
  quotient_chunks = map_told_apart (map element_numbers) values_told_apart
      a.quotient_chunks b.quotient_chunks
      (ap (λ (o : Opened (List ℕ)). o.quotient_chunks) same) i;
  random = values_told_apart a.random b.random
      (ap (λ (o : Opened (List ℕ)). o.random) same) i;
}

module _ {Seen Numbers : Type 0} (numbers : Seen → Numbers)
    (apart : (a b : Seen) → numbers a ≡ numbers b → a ≡ b) where
  pub stark_told_apart : (a b : StarkParts BabyBear4 Seen)
      → stark_numbers numbers a ≡ stark_numbers numbers b → a ≡ b
  stark_told_apart a b same = λ i. record {
    commitments = ap (λ (p : StarkParts (List ℕ) Numbers). p.commitments) same i;
    opened_values = opened_told_apart a.opened_values b.opened_values
        (ap (λ (p : StarkParts (List ℕ) Numbers). p.opened_values) same) i;
    opening_proof = apart a.opening_proof b.opening_proof
        (ap (λ (p : StarkParts (List ℕ) Numbers). p.opening_proof) same) i;
    log_height = ap (λ (p : StarkParts (List ℕ) Numbers). p.log_height) same i;
  }
