-- What the stream of a description determines: all of it.
use Rattle.std.specs.Prelude.{◌≡◌, ℕ, ◌<◌, ◌^◌, List, length}
use Rattle.std.specs.List.{All}
use Rattle.p3_challenger_fs.specs.declared.pattern.TypeTag.{TypeTag}
use Rattle.p3_challenger_fs.specs.declared.pattern.TypeTag.TheVariants.{Opaque, Algebra, Bits}
use Rattle.p3_challenger_fs.specs.declared.pattern.TypeTag.TheVariants.{Marker}
use Rattle.p3_challenger_fs.specs.declared.pattern.Length.{Length}
use Rattle.p3_challenger_fs.specs.declared.pattern.Length.TheVariants.{Scalar, Fixed}
use Rattle.p3_challenger_fs.specs.Description.{Description, stream_of}
use Rattle.p3_challenger_fs.specs.Pattern.{Step}

-- eight bytes hold it
abbrev pub FitsNumber : ℕ → Type 0
FitsNumber n = n < 2 ^ 64

abbrev pub FitsText : List ℕ → Type 0
FitsText bytes = FitsNumber (length bytes)

abbrev pub FitsType : TypeTag → Type 0
FitsType Opaque = Unit {0}
FitsType (Algebra degree) = FitsNumber degree
FitsType (Bits width) = FitsNumber width
FitsType Marker = Unit {0}

abbrev pub FitsLength : Length → Type 0
FitsLength Scalar = Unit {0}
FitsLength (Fixed n) = FitsNumber n

-- eight bytes hold each number that a step has, as they hold each `usize`
pub record FitsStep (s : Step) : Type 0 where
  pub type_tag : FitsType s.type_tag
  pub length : FitsLength s.length

-- eight bytes hold each number that the stream has, the number of labels aside: the labels end
-- where the stream does
pub record FitsStream (d : Description) : Type 0 where
  pub name : FitsText d.name
  pub step_count : FitsNumber (length d.steps)
  pub steps : All FitsStep d.steps
  pub step_labels : All (λ (s : Step). FitsText s.label) d.steps
  pub labels : All FitsText d.labels

-- descriptions of one stream are one description
abbrev pub IsDeterminedByStream : Description → Description → Type 0
IsDeterminedByStream a b = FitsStream a → FitsStream b → stream_of a ≡ stream_of b → a ≡ b

-- where eight bytes hold the stream's length, they hold the texts' lengths and the number of steps
abbrev pub FitsWhereShort : Description → Type 0
FitsWhereShort d = All FitsStep d.steps → FitsNumber (length (stream_of d)) → FitsStream d
