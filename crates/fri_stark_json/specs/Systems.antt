-- Systems as they stand in a text, by their numbers, and the schemes made for them.
use Rattle.std.specs.Prelude.{ℕ, List}
use Rattle.algebra.specs.Nested.{lists}
use Rattle.fri_records.specs.Records.{parameters_in}
use Rattle.fri_stark_json.specs.declared.records.System.{System}
use Rattle.p3_fri_relation.specs.Setting as setting
use Rattle.p3_uni_stark_system.specs.Systems.{SystemNumbers}

-- the numbers of a system's text, with public values
abbrev pub numbers_in : System → List ℕ → SystemNumbers
numbers_in s values = record {
  air = s.air;
  preprocessed = lists s.preprocessed.items;
  periodic = lists s.periodic.items;
  public_values = values;
}

-- a scheme is made of a system's parameters, of some seed
module _ {P : Type 0} (IsMade : setting.Parameters → ℕ → List ℕ → P → Type 0) (s : System) where
  abbrev pub IsMadeFor : P → Type 0
  IsMadeFor scheme = (seed : List ℕ)
      × IsMade (parameters_in s.parameters) s.num_random_codewords seed scheme

  -- and of this one
  abbrev pub IsMadeWith : List ℕ → P → Type 0
  IsMadeWith seed scheme = IsMade (parameters_in s.parameters) s.num_random_codewords seed scheme
