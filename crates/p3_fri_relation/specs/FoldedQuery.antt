-- One query that is folded by itself: what a call is given of it, when it is in order, and what is
-- told of it then.
use Rattle.std.specs.Prelude.{◌≡◌, ℕ, suc, ◌+◌, ◌-◌, ◌^◌, ◌==◌, ◌<◌, ◌≤◌, min, Bool, false, ◌||◌}
use Rattle.std.specs.Prelude.{IsTrue, if◌then◌else◌, List, [], ◌∷◌, ◌++◌, map, take, sum, length}
use Rattle.std.specs.Prelude.{slice_index_or, Option, Some, None, ⊤}
use Rattle.algebra.specs.Field.{FieldOps}
use Rattle.algebra.specs.Rounds.{Link, chain, chain_rows}
use Rattle.p3_fri_relation.specs.Queries.{rounds_of, row_indices}

pub record QueryInput (E : Type 0) : Type 0 where
  pub query : ℕ
  pub index : ℕ
  pub betas : List E
  pub log_arities : List ℕ
  -- of each round, for each query
  pub siblings : List (List (List E))
  -- by log height
  pub inputs : List (ℕ × E)
  pub log_height : ℕ
  pub final_height : ℕ

-- each log arity is from 1 to 63
abbrev pub AreInRange : (log_arities : List ℕ) → Type 0
AreInRange [] = ⊤
AreInRange (a ∷ log_arities) = (0 < a) × (a < 64) × AreInRange log_arities

-- a round that opens `rows` has a row for query `j`, of one value less than the arity
abbrev pub HasRow : {E : Type 0} → (j log_arity : ℕ) (rows : List (List E)) → Type 0
HasRow j a rows = (j < length rows) × (suc (length (slice_index_or rows j [])) ≡ 2 ^ a)

-- so does each round that has a log arity
abbrev pub HaveRows : {E : Type 0} → (j : ℕ) (log_arities : List ℕ)
    (siblings : List (List (List E))) → Type 0
HaveRows j [] siblings = ⊤
HaveRows j (a ∷ log_arities) [] = ⊤
HaveRows j (a ∷ log_arities) (rows ∷ siblings) = HasRow j a rows × HaveRows j log_arities siblings

-- whether a round from the log height `h` on folds to the log height `k`
abbrev pub reaches : (log_arities : List ℕ) (h k : ℕ) → Bool
reaches [] h k = false
reaches (a ∷ log_arities) h k = ((h - a) == k) || reaches log_arities (h - a) k

-- log heights that fall from `h` on, and to each of which a round folds
abbrev pub AreMet : (met : ℕ → Bool) (h : ℕ) → List ℕ → Type 0
AreMet met h [] = ⊤
AreMet met h (k ∷ heights) = (k < h) × IsTrue (met k) × AreMet met k heights

-- the value of a log height, if there is one
abbrev pub value_at : {E : Type 0} → List (ℕ × E) → (h : ℕ) → Option E
value_at [] h = None
value_at ((k, value) ∷ inputs) h = if h == k then Some value else value_at inputs h

module _ {E : Type 0} (q : QueryInput E) where
  -- the log arities of the rounds that are folded: those that have a challenge and an opening
  abbrev pub folded : List ℕ
  folded = take (min (length q.betas) (length q.siblings)) q.log_arities

  -- the log height at which they end
  abbrev pub last_height : ℕ
  last_height = q.log_height - sum folded

  -- the first input is at the log height, and each further one at one to which a round folds,
  -- falling
  abbrev pub AreInputsMet : (heights : List ℕ) → Type 0
  AreInputsMet [] = ⊥
  AreInputsMet (h ∷ heights) =
      (h ≡ q.log_height) × AreMet (reaches folded q.log_height) h heights

  pub record IsInOrder : Type 0 where
    pub log_arities : AreInRange q.log_arities
    pub rows : HaveRows q.query q.log_arities q.siblings
    pub distance : sum q.log_arities ≤ q.log_height - q.final_height
    pub ends : sum folded + q.final_height ≡ q.log_height
    pub inputs : AreInputsMet (map (λ input. input.0) q.inputs)

  module _ (F : FieldOps E) (fold : ℕ → ℕ → ℕ → E → List E → E) where
    -- the chain begins with the first input (with zero, the default of that look-up, without one)
    abbrev pub start : Link E
    start = record {
      index = q.index;
      log_height = q.log_height;
      value = slice_index_or (map (λ input. input.1) q.inputs) 0 F.zero;
    }

    -- the siblings of the query, round by round
    abbrev pub siblings_of_query : List (List E)
    siblings_of_query = map (λ rows. slice_index_or rows q.query []) q.siblings

    abbrev pub folded_value : E
    folded_value = (chain F fold (value_at q.inputs) (rounds_of folded q.betas)
        siblings_of_query start).value

    -- the row of each round, by its index and by its values
    abbrev pub group_indices : List ℕ
    group_indices = row_indices folded q.index

    abbrev pub group_rows : List (List E)
    group_rows = chain_rows F fold (value_at q.inputs) (rounds_of folded q.betas)
        siblings_of_query start

-- lists that gain one element each, the first ones
abbrev pub gains : {A : Type 0} → (lists : List (List A)) (gained : List A) → List (List A)
gains [] gained = []
gains (xs ∷ lists) [] = xs ∷ lists
gains (xs ∷ lists) (x ∷ gained) = (xs ++ x ∷ []) ∷ gains lists gained
