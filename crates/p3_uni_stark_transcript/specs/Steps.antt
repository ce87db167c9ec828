-- The steps of a STARK's transcript, and the stream of bytes that binds it.
use Rattle.std.specs.Prelude.{ℕ, Bool, true, false, List, [], ◌∷◌, ◌++◌, codes}
use Rattle.p3_challenger_fs.specs.declared.pattern.Hierarchy.{Hierarchy}
use Rattle.p3_challenger_fs.specs.declared.pattern.Hierarchy.TheVariants.{Atomic, Begin, End}
use Rattle.p3_challenger_fs.specs.declared.pattern.Kind.TheVariants.{Message, Challenge, Protocol}
use Rattle.p3_challenger_fs.specs.declared.pattern.TypeTag.TheVariants.{Opaque, Algebra, Marker}
use Rattle.p3_challenger_fs.specs.declared.pattern.Length.TheVariants.{Scalar}
use Rattle.p3_challenger_fs.specs.Description.{Description, stream_of}
use Rattle.p3_challenger_fs.specs.Pattern.{Step, step}
use Rattle.p3_uni_stark_transcript.specs.Instance.{Instance, instance_numbers, numbers_bytes}

-- a commitment
abbrev pub commitment_step : (label : List ℕ) → Step
commitment_step label = step Atomic Message Opaque label Scalar

-- an element of the extension of dimension `d`
abbrev pub challenge_step : (d : ℕ) (label : List ℕ) → Step
challenge_step d label = step Atomic Challenge (Algebra d) label Scalar

-- an end of the bracket in which the opening runs
abbrev pub opening_step : Hierarchy → Step
opening_step hierarchy = step hierarchy Protocol Marker (codes "opening") Scalar

-- a step that there may be
abbrev pub step_if : Bool → Step → List Step
step_if true s = s ∷ []
step_if false s = []

module _ (d : ℕ) where
  -- up to the first challenge
  abbrev pub first_steps : (preprocessed : Bool) → List Step
  first_steps preprocessed = step_if preprocessed (commitment_step (codes "preprocessed"))
      ++ (commitment_step (codes "trace") ∷ challenge_step d (codes "alpha") ∷ [])

  -- after it
  abbrev pub last_steps : (hides : Bool) → List Step
  last_steps hides = (commitment_step (codes "quotient") ∷ [])
      ++ step_if hides (commitment_step (codes "random"))
      ++ (challenge_step d (codes "zeta") ∷ opening_step Begin ∷ opening_step End ∷ [])

  abbrev pub stark_steps : (preprocessed hides : Bool) → List Step
  stark_steps preprocessed hides = first_steps preprocessed ++ last_steps hides

  module _ {V : Type 0} (canonical : V → ℕ) (preprocessed hides : Bool) where
    abbrev pub stark_description : Instance V → Description
    stark_description s = record {
      version = 1;
      name = codes "p3-uni-stark";
      steps = stark_steps preprocessed hides;
      labels = numbers_bytes (instance_numbers canonical s) ∷ [];
    }

    -- the stream that binds the instance
    unfoldable pub stark_stream : Instance V → List ℕ
    stark_stream s = stream_of (stark_description s)
