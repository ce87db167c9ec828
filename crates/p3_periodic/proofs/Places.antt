-- The places of the columns of one length, found place by place.
use Rattle.std.proofs.Common.{◌≡◌, ℕ, ◌+◌, ◌<◌, ◌⊎◌, List, [], ◌∷◌, ◌++◌, length, ap, ◌∙◌, sym, arith}
use Rattle.std.proofs.Common.{subst, inl, inr}
use Rattle.std.proofs.Common.{get_or}
use Rattle.std.specs.Prelude.{Contains, vec_len}
use Rattle.std.specs.declared.vec.Vec.{Vec}
use Rattle.algebra.specs.Nested.{lists}
use Rattle.algebra.proofs.Nested.{lists_at}
use Rattle.std.proofs.lemmas.List.Elements.{All-push, Contains-append_left, Contains-push}
use Rattle.p3_periodic.specs.Batches.{column_at, ArePlaces}

module _ {T : Type 0} (columns : List (List T)) (period : ℕ) where
  which : (place j : ℕ) → place < j + 1 → (place < j) ⊎ (place ≡ j)
  which place j l = grind (arith, l)

  pub place_pushed : (j : ℕ) (before after : List ℕ) → ArePlaces columns j period before
      → length (column_at columns j) ≡ period → after ≡ before ++ j ∷ []
      → ArePlaces columns (j + 1) period after
  place_pushed j before after known size e =
      let Found : List ℕ → Type 0 = λ places. ArePlaces columns (j + 1) period places in
      let found : Found (before ++ j ∷ []) = record {
        within = All-push (λ place. place < j + 1) before j
            (λ k d l. omega (arith, known.within k d l)) (omega arith);
        each = All-push (λ place. length (column_at columns place) ≡ period) before j known.each size;
        all = λ place l s. elim (which place j l) [
          | inl below ↦ Contains-append_left before (j ∷ []) place (known.all place below s)
          | inr same ↦
              let In : ℕ → Type 0 = λ n. Contains (before ++ j ∷ []) n in
              subst In (sym same) (Contains-push before j)
        ];
      } in
      subst Found (sym e) found

  pub place_skipped : (j : ℕ) (places after : List ℕ) → ArePlaces columns j period places
      → ¬ (length (column_at columns j) ≡ period) → after ≡ places
      → ArePlaces columns (j + 1) period after
  place_skipped j places after known other e =
      let Found : List ℕ → Type 0 = λ ps. ArePlaces columns (j + 1) period ps in
      let found : Found places = record {
        within = λ k d l. omega (arith, known.within k d l);
        each = known.each;
        all = λ place l s. elim (which place j l) [
          | inl below ↦ known.all place below s
          | inr same ↦
              absurd (other (ap (λ n. length (column_at columns n)) (sym same) ∙ s))
        ];
      } in
      subst Found (sym e) found

-- the length of a column that the code reads
pub length_of_column : {T A : Type 0} (columns : List (Vec T A)) (j : ℕ) (column : Vec T A)
    → j < length columns → column ≡ get_or columns j column
    → length (column_at (lists columns) j) ≡ vec_len column
length_of_column columns j column l is =
    ap length (lists_at columns j column l) ∙ ap (λ v. length v.items) (sym is) ∙ sym column.ok.0
