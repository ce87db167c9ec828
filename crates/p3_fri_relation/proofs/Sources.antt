-- Queries that meet the same values go the same way, whatever source these come from.
use Rattle.std.proofs.Common.{◌≡◌, ℕ, ◌^◌, List, [], ◌∷◌, length, map, sym, ap, ◌∙◌, subst, arith}
use mathlib.Core.Path.{fun_ext}
use Rattle.std.specs.Prelude.{EachIndex, slice_index, slice_index_or}
use Rattle.std.specs.List.{zip, range_with_len}
use Rattle.algebra.specs.Rounds.{Round, chain, chain_rows}
use Rattle.algebra.proofs.Lists.{tabulate-equal, all_zip-weaker}
use Rattle.p3_fri_relation.specs.Setting.{Setting, Parameters, RoundOpening, Proof}
use Rattle.p3_fri_relation.specs.Queries.{Source, siblings_at, heights_after, row_indices}
use Rattle.p3_fri_relation.specs.Queries.{final_value, first_link, last_link, rows_folded}
use Rattle.p3_fri_relation.specs.Queries.{EndsAtFinalValue}
use Rattle.p3_fri_relation.specs.TestRounds.{row_folded, OpensRound, RoundsOpen}

-- both sources give the `j`-th query the same
pub record GiveSame {E : Type 0} (a b : Source E) (j position : ℕ) : Type 0 where
  pub met : (h : ℕ) → a.met j position h ≡ b.met j position h
  pub first : a.first j position ≡ b.first j position

-- then it goes the same way
module _ {F E C Com Path InCom InPath : Type 0} (s : Setting F E C Com Path InCom InPath)
    (p : Parameters) (top : ℕ) (a b : Source E) (proof : Proof F E Com Path InPath)
    (rounds : List (Round E)) (j position : ℕ) (same : GiveSame a b j position) where
  abbrev siblings : List (List E)
  siblings = siblings_at j proof.rounds

  begun : first_link s p top a proof rounds j position ≡ first_link s p top b proof rounds j position
  begun = ap (λ value. record { index = position; log_height = top; value = value }) same.first

  same_last_link : last_link s p top a proof rounds j position
      ≡ last_link s p top b proof rounds j position
  same_last_link =
      ap (λ met. chain s.fields.ext s.fold met rounds siblings
      (first_link s p top a proof rounds j position)) (fun_ext same.met)
      ∙ ap (λ link. chain s.fields.ext s.fold (b.met j position) rounds siblings link) begun

  same_rows_folded : rows_folded s p top a proof rounds j position
      ≡ rows_folded s p top b proof rounds j position
  same_rows_folded =
      ap (λ met. chain_rows s.fields.ext s.fold met rounds siblings
      (first_link s p top a proof rounds j position)) (fun_ext same.met)
      ∙ ap (λ link. chain_rows s.fields.ext s.fold (b.met j position) rounds siblings link) begun

  pub same_end : EndsAtFinalValue s p top b proof rounds j position
      → EndsAtFinalValue s p top a proof rounds j position
  same_end ends =
      subst (λ link. link.value ≡ final_value s p proof link) (sym same_last_link) ends

-- where they do so for each query, the rounds open to the same rows
module _ {F E C Com Path InCom InPath : Type 0} (s : Setting F E C Com Path InCom InPath)
    (p : Parameters) (log_arities : List ℕ) (top : ℕ) (proof : Proof F E Com Path InPath)
    (a b : Source E) (betas : List E) (positions : List ℕ)
    (many : length positions ≡ p.num_queries)
    (same : EachIndex positions (λ j. GiveSame a b j (slice_index positions j))) where
  abbrev opens : Source E → (k : ℕ) → Com × RoundOpening E Path → Type 0
  opens source = OpensRound s p log_arities top proof source betas positions

  abbrev row : Source E → (j k : ℕ) → List E
  row source = row_folded s p log_arities top proof source betas positions

  same_round : (k : ℕ) (x : Com × RoundOpening E Path) → opens b k x → opens a k x
  same_round k x opened =
      subst (λ sets. s.opens_round x.0
      (record {
        width = 2 ^ slice_index log_arities k;
        height = 2 ^ slice_index (heights_after log_arities top) k;
      } ∷ [])
      (map (λ q. slice_index (row_indices log_arities q) k) positions) sets x.1.path)
      (tabulate-equal p.num_queries (λ j. row b j k ∷ []) (λ j. row a j k ∷ [])
      (λ j l. ap (λ rows. slice_index_or rows k [] ∷ [])
      (sym (same_rows_folded s p top a b proof _ j (slice_index positions j)
      (same j (omega (arith, l, many)))))))
      opened

  pub same_rounds : RoundsOpen s p log_arities top proof b betas positions
      → RoundsOpen s p log_arities top proof a betas positions
  same_rounds = all_zip-weaker (opens b) (opens a) (range_with_len 0 (length log_arities))
      (zip proof.commitments proof.rounds) same_round
