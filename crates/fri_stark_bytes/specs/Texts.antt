-- What is known of texts that are answered. Which record a text holds is the JSON reader's to say:
-- no clause does, so these are of some records.
use Rattle.std.specs.Prelude.{◌≡◌, ℕ, List}
use Rattle.std.specs.Int.{w64, to_le_bytes}
use Rattle.algebra.specs.Field.{FieldOps}
use Rattle.algebra.specs.Nested.{lists}
use Rattle.fri_stark_json.specs.declared.records.PublicValues.{PublicValues}
use Rattle.fri_stark_json.specs.declared.records.System.{System}
use Rattle.fri_stark_json.specs.declared.records.Trace.{Trace}
use Rattle.fri_stark_json.specs.Systems.{numbers_in}
use Rattle.p3_air_plain.specs.Checked.{IsSatisfiedIn}
use Rattle.p3_uni_stark_system.specs.Systems.{SystemNumbers, with_trace}

module _ {V : Type 0} (K : FieldOps V) (order : ℕ) (canonical : V → ℕ) where
  -- a system, and a trace that satisfies it
  pub record IsSatisfiedText : Type 0 where
    pub system : System
    pub trace : Trace
    pub satisfied : IsSatisfiedIn K order canonical system.air
        (with_trace (numbers_in system trace.public_values.items) (lists trace.trace.items))

module _ {Form : Type 0} (Accepts : System → SystemNumbers → Form → ℕ → Type 0)
    (answer : List ℕ) where
  -- a system, public values and a proof of this form, which is accepted of them for a trace of
  -- `2^k` rows, where the answer is `k` in eight bytes
  pub record IsAcceptedText : Type 0 where
    pub system : System
    pub public_values : PublicValues
    pub form : Form
    pub log_height : ℕ
    pub accepted : Accepts system (numbers_in system public_values.public_values.items) form
        log_height
    pub is_answer : answer ≡ to_le_bytes w64 log_height
