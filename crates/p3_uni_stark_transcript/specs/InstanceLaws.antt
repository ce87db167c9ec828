-- What the stream determines: the instance.
use Rattle.std.specs.Prelude.{◌≡◌, ℕ, Bool, All}
use Rattle.p3_challenger_fs.specs.StreamLaws.{FitsNumber, FitsText}
use Rattle.p3_uni_stark_transcript.specs.Instance.{Instance, instance_numbers}
use Rattle.p3_uni_stark_transcript.specs.Steps.{stark_stream}

module _ {V : Type 0} (canonical : V → ℕ) (d : ℕ) (preprocessed hides : Bool) where
  -- an instance of numbers that a machine holds, whose stream is within memory
  pub record FitsInstance (s : Instance V) : Type 0 where
    pub degree : FitsNumber d
    pub numbers : All FitsNumber (instance_numbers canonical s)
    pub stream : FitsText (stark_stream d canonical preprocessed hides s)

  -- instances of one stream are one instance
  abbrev pub IsDeterminedInstance : Instance V → Instance V → Type 0
  IsDeterminedInstance a b = FitsInstance a → FitsInstance b
      → stark_stream d canonical preprocessed hides a
      ≡ stark_stream d canonical preprocessed hides b → a ≡ b
