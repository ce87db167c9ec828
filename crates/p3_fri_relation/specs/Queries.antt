-- A query's way: from an entry at its position, round by round, to the final polynomial.
use Rattle.std.specs.Prelude.{◌≡◌, ℕ, ◌-◌, ◌/◌, ◌^◌, List, [], ◌∷◌, map, slice_index_or, Option}
use Rattle.algebra.specs.Polynomial.{val}
use Rattle.algebra.specs.TwoAdic.{pt}
use Rattle.algebra.specs.Rounds.{Round, Link, chain, chain_rows}
use Rattle.p3_fri_relation.specs.Setting.{Setting, Parameters, Proof, RoundOpening, final_height}

-- a round for each log arity and the challenge beside it
abbrev pub rounds_of : {E : Type 0} → (log_arities : List ℕ) (betas : List E) → List (Round E)
rounds_of [] betas = []
rounds_of (a ∷ log_arities) [] = []
rounds_of (a ∷ log_arities) (b ∷ betas) =
    record { log_arity = a; beta = b } ∷ rounds_of log_arities betas

-- the log heights to which the rounds fold, one after another
abbrev pub heights_after : (log_arities : List ℕ) (log_height : ℕ) → List ℕ
heights_after [] h = []
heights_after (a ∷ log_arities) h = (h - a) ∷ heights_after log_arities (h - a)

-- the rows, by their indices, in which the rounds meet an index
abbrev pub row_indices : (log_arities : List ℕ) (index : ℕ) → List ℕ
row_indices [] index = []
row_indices (a ∷ log_arities) index = (index / 2 ^ a) ∷ row_indices log_arities (index / 2 ^ a)

-- what the rounds open at the `j`-th query
abbrev pub siblings_at : {E Path : Type 0} → (j : ℕ) → List (RoundOpening E Path) → List (List E)
siblings_at j rounds = map (λ r. slice_index_or r.siblings j []) rounds

-- the final polynomial's value at a link's point
abbrev pub final_value : {F E C Com Path InCom InPath : Type 0}
    → Setting F E C Com Path InCom InPath → Parameters → Proof F E Com Path InPath → Link E → E
final_value s p proof link = val s.fields.ext proof.final_poly
    (s.fields.lift (pt s.fields.base s.fields.root link.index (final_height p)))

-- what queries meet: at the position of the `j`-th the entry of each log height that has one, and
-- that of the greatest, with which it begins
pub record Source (E : Type 0) : Type 0 where
  pub met : (j position h : ℕ) → Option E
  pub first : (j position : ℕ) → E

-- the `j`-th query, at its position of log height `top`
module _ {F E C Com Path InCom InPath : Type 0} (s : Setting F E C Com Path InCom InPath)
    (p : Parameters) (top : ℕ) (source : Source E) (proof : Proof F E Com Path InPath)
    (rounds : List (Round E)) (j position : ℕ) where
  abbrev pub first_link : Link E
  first_link = record { index = position; log_height = top; value = source.first j position }

  abbrev pub last_link : Link E
  last_link = chain s.fields.ext s.fold (source.met j position) rounds
      (siblings_at j proof.rounds) first_link

  -- the rows that it folds, round by round
  abbrev pub rows_folded : List (List E)
  rows_folded = chain_rows s.fields.ext s.fold (source.met j position) rounds
      (siblings_at j proof.rounds) first_link

  -- its chain ends at the final polynomial's value
  abbrev pub EndsAtFinalValue : Type 0
  EndsAtFinalValue = last_link.value ≡ final_value s p proof last_link
