-- Steps that both protocols share.
use Rattle.std.specs.Prelude.{ℕ, zero, suc, List, [], ◌∷◌}
use Rattle.p3_challenger_fs.specs.declared.pattern.Hierarchy.TheVariants.{Atomic}
use Rattle.p3_challenger_fs.specs.declared.pattern.Kind.TheVariants.{Message, Challenge, Pow}
use Rattle.p3_challenger_fs.specs.declared.pattern.TypeTag.TheVariants.{Algebra}
use Rattle.p3_challenger_fs.specs.declared.pattern.Length.TheVariants.{Scalar, Fixed}
use Rattle.p3_challenger_fs.specs.Pattern.{Step}

-- a step of proof of work, where there are bits
abbrev pub pow_steps : (label : List ℕ) (bits : ℕ) → List Step
pow_steps label zero = []
pow_steps label (suc n) = record {
  hierarchy = Atomic;
  kind = Pow;
  type_tag = Algebra 1;
  label = label;
  length = Fixed (suc n);
} ∷ []

-- `d` is the degree of the extension that challenges are drawn from
module _ (d : ℕ) where
  abbrev pub challenge_step : (label : List ℕ) → Step
  challenge_step label = record {
    hierarchy = Atomic;
    kind = Challenge;
    type_tag = Algebra d;
    label = label;
    length = Scalar;
  }

  abbrev pub message_step : (label : List ℕ) (n : ℕ) → Step
  message_step label n = record {
    hierarchy = Atomic;
    kind = Message;
    type_tag = Algebra d;
    label = label;
    length = Fixed n;
  }
