-- What nodes mean: values, degrees, and anything else that is given node by node.
use Rattle.std.specs.Prelude.{ℕ, ◌+◌, max, List, [], ◌∷◌, ◌++◌, slice_index_or}
use Rattle.algebra.specs.Field.{FieldOps, sub}
use Rattle.p3_air.specs.declared.air.Node.{Node}
use Rattle.p3_air.specs.declared.air.Node.TheVariants.{Constant, Local, Next, Preprocessed}
use Rattle.p3_air.specs.declared.air.Node.TheVariants.{PreprocessedNext, Public, Periodic}
use Rattle.p3_air.specs.declared.air.Node.TheVariants.{Add, Sub, Mul, Neg}

-- what each kind of node means, and a node that isn't there
pub record Meaning (V B : Type 0) : Type 0 where
  pub constant : V → B
  pub local : ℕ → B
  pub next : ℕ → B
  pub preprocessed : ℕ → B
  pub preprocessed_next : ℕ → B
  pub public_value : ℕ → B
  pub periodic : ℕ → B
  pub add : B → B → B
  pub sub : B → B → B
  pub mul : B → B → B
  pub neg : B → B
  pub none : B

module _ {V B : Type 0} (m : Meaning V B) where
  -- what a node means, by what those before it mean
  abbrev pub node_meaning : (earlier : List B) → Node V → B
  node_meaning earlier (Constant value) = m.constant value
  node_meaning earlier (Local column) = m.local column
  node_meaning earlier (Next column) = m.next column
  node_meaning earlier (Preprocessed column) = m.preprocessed column
  node_meaning earlier (PreprocessedNext column) = m.preprocessed_next column
  node_meaning earlier (Public index) = m.public_value index
  node_meaning earlier (Periodic column) = m.periodic column
  node_meaning earlier (Add a b) =
      m.add (slice_index_or earlier a m.none) (slice_index_or earlier b m.none)
  node_meaning earlier (Sub a b) =
      m.sub (slice_index_or earlier a m.none) (slice_index_or earlier b m.none)
  node_meaning earlier (Mul a b) =
      m.mul (slice_index_or earlier a m.none) (slice_index_or earlier b m.none)
  node_meaning earlier (Neg a) = m.neg (slice_index_or earlier a m.none)

  -- what nodes mean, behind earlier ones
  abbrev pub meanings_after : (earlier : List B) → List (Node V) → List B
  meanings_after earlier [] = earlier
  meanings_after earlier (node ∷ nodes) =
      meanings_after (earlier ++ node_meaning earlier node ∷ []) nodes

  -- what nodes mean, each by those before it
  abbrev pub meanings : List (Node V) → List B
  meanings nodes = meanings_after [] nodes

-- what nodes speak of at a row: its entries, those of the next one, and the public values
pub record Entries (V E : Type 0) : Type 0 where
  pub local : List E
  pub next : List E
  pub preprocessed : List E
  pub preprocessed_next : List E
  pub public_values : List V
  pub periodic : List E

-- the values at a row, in a field that holds the elements `V`
abbrev pub values_in : {V E : Type 0} → (K : FieldOps E) → (lift : V → E) → (nothing : V)
    → Entries V E → Meaning V E
values_in K lift nothing entries = record {
  constant = lift;
  local = λ column. slice_index_or entries.local column K.zero;
  next = λ column. slice_index_or entries.next column K.zero;
  preprocessed = λ column. slice_index_or entries.preprocessed column K.zero;
  preprocessed_next = λ column. slice_index_or entries.preprocessed_next column K.zero;
  public_value = λ index. lift (slice_index_or entries.public_values index nothing);
  periodic = λ column. slice_index_or entries.periodic column K.zero;
  add = K.add;
  sub = sub K;
  mul = K.mul;
  neg = K.neg;
  none = K.zero;
}

-- the degrees in the columns: public values and constants count nothing
abbrev pub degrees_in : {V : Type 0} → Meaning V ℕ
degrees_in = record {
  constant = λ _. 0;
  local = λ _. 1;
  next = λ _. 1;
  preprocessed = λ _. 1;
  preprocessed_next = λ _. 1;
  public_value = λ _. 0;
  periodic = λ _. 1;
  add = max;
  sub = max;
  mul = λ a b. a + b;
  neg = λ a. a;
  none = 0;
}
