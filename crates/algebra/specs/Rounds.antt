-- Rounds of folding: the word to which they lead while inputs are rolled in, its final polynomial,
-- and the chain of a query through the words.
use Rattle.std.specs.Prelude.{◌≡◌, ℕ, ◌-◌, ◌/◌, ◌%◌, ◌^◌, ◌≤◌, List, [], ◌∷◌}
use Rattle.std.specs.Prelude.{map, take, insert, remove, sum, slice_index_or, Option, Some, None}
use Rattle.algebra.specs.Field.{FieldOps, pow}
use Rattle.algebra.specs.Polynomial.{tabulate}
use Rattle.algebra.specs.Interpolation.{interpolant}
use Rattle.algebra.specs.TwoAdic.{domain_points}
use Rattle.algebra.specs.Words.{IsWord}
use Rattle.algebra.specs.Folds.{neighbours}

-- a round of folding: its log arity and its challenge
pub record Round (A : Type 0) : Type 0 where
  pub log_arity : ℕ
  pub beta : A

-- a link of the chain of a query: an index into a word of a log height, and the value there
pub record Link (A : Type 0) : Type 0 where
  pub index : ℕ
  pub log_height : ℕ
  pub value : A

module _ {A : Type 0} where
  -- by how much the rounds together lower the log height
  unfoldable pub total_log_arity : (rounds : List (Round A)) → ℕ
  total_log_arity rounds = sum (map (λ r. r.log_arity) rounds)

  -- the row that a query folds in a round: the link's value at its place, the siblings, in order,
  -- elsewhere
  abbrev pub row_of_link : (round : Round A) (siblings : List A) (link : Link A) → List A
  row_of_link round siblings link = insert siblings (link.index % 2 ^ round.log_arity) link.value

  -- the fold of row `i` of a word to log height `h`, where `fold` gives the fold of a row
  abbrev pub folded_entry : (fold : ℕ → ℕ → ℕ → A → List A → A) (h : ℕ) (round : Round A)
      (ys : List A) (i : ℕ) → A
  folded_entry fold h round ys i =
      fold i h round.log_arity round.beta (neighbours ys i round.log_arity)

  -- the rows, of the words that the rounds fold, in which a query's index lies
  abbrev pub rows_met :
      (rounds : List (Round A)) (words : List (List A)) (index : ℕ) → List (List A)
  rows_met [] words index = []
  rows_met (r ∷ rounds) [] index = []
  rows_met (r ∷ rounds) (ys ∷ words) index =
      let row = index / 2 ^ r.log_arity in
      neighbours ys row r.log_arity ∷ rows_met rounds words row

  -- each without the entry at the query's own place
  abbrev pub siblings_met :
      (rounds : List (Round A)) (words : List (List A)) (index : ℕ) → List (List A)
  siblings_met [] words index = []
  siblings_met (r ∷ rounds) [] index = []
  siblings_met (r ∷ rounds) (ys ∷ words) index =
      let row = index / 2 ^ r.log_arity in
      remove (neighbours ys row r.log_arity) (index % 2 ^ r.log_arity)
      ∷ siblings_met rounds words row

module _ {A : Type 0} (F : FieldOps A) where
  -- a folded value, with the value of an input, if there is one, rolled in: times the challenge's
  -- `2^a`-th power after a round of log arity `a`
  abbrev pub rolled_in : (round : Round A) (input : Option A) (value : A) → A
  rolled_in round None value = value
  rolled_in round (Some u) value = F.add value (F.mul (pow F round.beta (2 ^ round.log_arity)) u)

  -- the entry of a word at an index, if there is a word (zero is the default of that look-up, which
  -- no index within the word needs)
  abbrev pub entry_of : (word : Option (List A)) (index : ℕ) → Option A
  entry_of None index = None
  entry_of (Some us) index = Some (slice_index_or us index F.zero)

-- rounds where `fold` gives the fold of a row
module _ {A : Type 0} (F : FieldOps A) (fold : ℕ → ℕ → ℕ → A → List A → A) where
  -- the word of log height `h` after a round: the folded word, with the input of that log height,
  -- if there is one, rolled in
  unfoldable pub after_round :
      (inputs : ℕ → Option (List A)) (h : ℕ) (round : Round A) (ys : List A) → List A
  after_round inputs h round ys = tabulate (2 ^ h)
      (λ i. rolled_in F round (entry_of F (inputs h) i) (folded_entry fold h round ys i))

  -- the word to which the rounds lead from one of log height `k`
  abbrev pub after_rounds :
      (inputs : ℕ → Option (List A)) (k : ℕ) (rounds : List (Round A)) (ys : List A) → List A
  after_rounds inputs k [] ys = ys
  after_rounds inputs k (r ∷ rounds) ys =
      after_rounds inputs (k - r.log_arity) rounds (after_round inputs (k - r.log_arity) r ys)

  -- the words that the rounds fold, one for each
  abbrev pub words_folded : (inputs : ℕ → Option (List A)) (k : ℕ) (rounds : List (Round A))
      (ys : List A) → List (List A)
  words_folded inputs k [] ys = []
  words_folded inputs k (r ∷ rounds) ys =
      let height = k - r.log_arity in
      ys ∷ words_folded inputs height rounds (after_round inputs height r ys)

  -- the link after a round: the fold of the query's row at that row's index, with the value of the
  -- input of that log height, if there is one, rolled in
  abbrev pub next_link :
      (values : ℕ → Option A) (round : Round A) (siblings : List A) (link : Link A) → Link A
  next_link values round siblings link =
      let row = link.index / 2 ^ round.log_arity in
      let height = link.log_height - round.log_arity in
      record {
        index = row;
        log_height = height;
        value = rolled_in F round (values height)
            (fold row height round.log_arity round.beta (row_of_link round siblings link));
      }

  -- the chain of a query: its last link, from a first one and the siblings of each round
  abbrev pub chain : (values : ℕ → Option A) (rounds : List (Round A))
      (siblings : List (List A)) (link : Link A) → Link A
  chain values [] siblings link = link
  chain values (r ∷ rounds) [] link = link
  chain values (r ∷ rounds) (s ∷ siblings) link =
      chain values rounds siblings (next_link values r s link)

  -- the rows that it folds, round by round
  abbrev pub chain_rows : (values : ℕ → Option A) (rounds : List (Round A))
      (siblings : List (List A)) (link : Link A) → List (List A)
  chain_rows values [] siblings link = []
  chain_rows values (r ∷ rounds) [] link = []
  chain_rows values (r ∷ rounds) (s ∷ siblings) link =
      row_of_link r s link ∷ chain_rows values rounds siblings (next_link values r s link)

module _ {A : Type 0} (F : FieldOps A) where
  -- the link at an index of a word of log height `k`
  abbrev pub link_in : (k : ℕ) (ys : List A) (index : ℕ) → Link A
  link_in k ys index =
      record { index = index; log_height = k; value = slice_index_or ys index F.zero }

  -- `values` are the inputs' values that a query at the index `q` of a word of log height `k` meets
  abbrev pub AreValuesMet :
      (inputs : ℕ → Option (List A)) (k q : ℕ) (values : ℕ → Option A) → Type 0
  AreValuesMet inputs k q values = (h : ℕ) → h ≤ k
      → values h ≡ entry_of F (inputs h) (q / 2 ^ (k - h))

module _ {A : Type 0} (F : FieldOps A) (w : ℕ → A) where
  -- each input is a word, of the log height `h` at which it stands, of degree below
  -- `2^(h - log_blowup)`
  abbrev pub AreLowDegreeWords : (log_blowup : ℕ) (inputs : ℕ → Option (List A)) → Type 0
  AreLowDegreeWords log_blowup inputs = (h : ℕ) (us : List A) → inputs h ≡ Some us
      → IsWord F w h (2 ^ (h - log_blowup)) us

  -- the polynomial of `2^l` coefficients whose word the first `2^l` entries of `ys` are
  abbrev pub final_polynomial : (l : ℕ) (ys : List A) → List A
  final_polynomial l ys = interpolant F (domain_points F w l) (take (2 ^ l) ys)
