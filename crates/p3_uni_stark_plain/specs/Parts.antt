-- The parts of a STARK's proof by their numbers, and what can be wrong with these.
use Rattle.std.specs.Prelude.{ℕ, List, Option, map, option_map, IfSome}
use Rattle.std.specs.List.{Any}
use Rattle.algebra.specs.Nested.{lists, nested}
use Rattle.p3_baby_bear.specs.declared.baby_bear.BabyBear.{BabyBear}
use Rattle.p3_baby_bear.specs.declared.baby_bear4.BabyBear4.{BabyBear4}
use Rattle.p3_baby_bear.specs.BabyBear4.{coefficients4}
use Rattle.p3_fri_plain.specs.declared.error.PlainProofError.{PlainProofError}
use Rattle.p3_fri_plain.specs.Faults.{ExtensionFault, DigestFault}
use Rattle.p3_fri_plain.specs.Numbers.{Digest, coefficient_numbers}
use Rattle.p3_uni_stark_plain.specs.declared.forms.PlainCommitments.{PlainCommitments}
use Rattle.p3_uni_stark_plain.specs.declared.forms.PlainOpenedValues.{PlainOpenedValues}
use Rattle.p3_uni_stark_verifier.specs.declared.proof.Commitments.{Commitments}
use Rattle.p3_uni_stark_verifier.specs.declared.proof.OpenedValues.{OpenedValues}

-- the one number below the order
abbrev pub canonical_number : BabyBear → ℕ
canonical_number x = x.value

-- those of the coefficients, that of one first
abbrev pub element_numbers : BabyBear4 → List ℕ
element_numbers = coefficient_numbers canonical_number coefficients4

-- of an element's numbers
abbrev pub ElementFault : PlainProofError → List ℕ → Type 0
ElementFault = ExtensionFault 2013265921 4

pub record CommitmentBytes : Type 0 where
  pub trace : Digest
  pub quotient_chunks : Digest
  pub random : Option Digest

abbrev pub commitments_seen : Commitments Digest → CommitmentBytes
commitments_seen c = record {
  trace = c.trace;
  quotient_chunks = c.quotient_chunks;
  random = c.random;
}

abbrev pub commitments_listed : PlainCommitments → CommitmentBytes
commitments_listed form = record {
  trace = form.trace.items;
  quotient_chunks = form.quotient_chunks.items;
  random = option_map (λ bytes. bytes.items) form.random;
}

-- of commitments, by the one that shows it
pub data CommitmentsFault (error : PlainProofError) (c : CommitmentBytes) : Type 0 where
  InTrace : DigestFault error c.trace → CommitmentsFault error c
  InQuotientChunks : DigestFault error c.quotient_chunks → CommitmentsFault error c
  InRandom : IfSome c.random (DigestFault error) → CommitmentsFault error c

-- values at the points, each an element or its coefficients' numbers
pub record Opened (A : Type 0) : Type 0 where
  pub trace_local : List A
  pub trace_next : List A
  pub preprocessed_local : List A
  pub preprocessed_next : List A
  pub quotient_chunks : List (List A)
  pub random : List A

abbrev pub opened_seen : OpenedValues BabyBear4 → Opened BabyBear4
opened_seen opened = record {
  trace_local = opened.trace_local.items;
  trace_next = opened.trace_next.items;
  preprocessed_local = opened.preprocessed_local.items;
  preprocessed_next = opened.preprocessed_next.items;
  quotient_chunks = lists opened.quotient_chunks.items;
  random = opened.random.items;
}

abbrev pub opened_numbers : Opened BabyBear4 → Opened (List ℕ)
opened_numbers opened = record {
  trace_local = map element_numbers opened.trace_local;
  trace_next = map element_numbers opened.trace_next;
  preprocessed_local = map element_numbers opened.preprocessed_local;
  preprocessed_next = map element_numbers opened.preprocessed_next;
  quotient_chunks = map (map element_numbers) opened.quotient_chunks;
  random = map element_numbers opened.random;
}

abbrev pub opened_listed : PlainOpenedValues → Opened (List ℕ)
opened_listed form = record {
  trace_local = lists form.trace_local.items;
  trace_next = lists form.trace_next.items;
  preprocessed_local = lists form.preprocessed_local.items;
  preprocessed_next = lists form.preprocessed_next.items;
  quotient_chunks = nested form.quotient_chunks.items;
  random = lists form.random.items;
}

-- of opened values, by the list that shows it
pub data OpenedFault (error : PlainProofError) (o : Opened (List ℕ)) : Type 0 where
  InTraceLocal : Any (ElementFault error) o.trace_local → OpenedFault error o
  InTraceNext : Any (ElementFault error) o.trace_next → OpenedFault error o
  InPreprocessedLocal : Any (ElementFault error) o.preprocessed_local → OpenedFault error o
  InPreprocessedNext : Any (ElementFault error) o.preprocessed_next → OpenedFault error o
  InChunks : Any (Any (ElementFault error)) o.quotient_chunks → OpenedFault error o
  InRandomValues : Any (ElementFault error) o.random → OpenedFault error o
