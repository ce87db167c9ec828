-- Steps of transcripts, and the stream of bytes that binds a description.
use Rattle.std.specs.Prelude.{ℕ, List, [], ◌∷◌, ◌++◌, length, map}
use Rattle.std.specs.List.{flat_map}
use Rattle.std.specs.Int.{to_be_bytes, w64}
use Rattle.p3_challenger_fs.specs.declared.pattern.Hierarchy.{Hierarchy}
use Rattle.p3_challenger_fs.specs.declared.pattern.Hierarchy.TheVariants.{Atomic, Begin, End}
use Rattle.p3_challenger_fs.specs.declared.pattern.Kind.{Kind}
use Rattle.p3_challenger_fs.specs.declared.pattern.Kind.TheVariants.{Message, Challenge, Pow}
use Rattle.p3_challenger_fs.specs.declared.pattern.Kind.TheVariants.{Protocol}
use Rattle.p3_challenger_fs.specs.declared.pattern.TypeTag.{TypeTag}
use Rattle.p3_challenger_fs.specs.declared.pattern.TypeTag.TheVariants.{Opaque, Algebra, Bits}
use Rattle.p3_challenger_fs.specs.declared.pattern.TypeTag.TheVariants.{Marker}
use Rattle.p3_challenger_fs.specs.declared.pattern.Length.{Length}
use Rattle.p3_challenger_fs.specs.declared.pattern.Length.TheVariants.{Scalar, Fixed}
use Rattle.p3_challenger_fs.specs.declared.pattern.Interaction.{Interaction}
use Rattle.p3_challenger_fs.specs.declared.pattern.InteractionPattern.{InteractionPattern}
use Rattle.p3_challenger_fs.specs.declared.pattern.Turn.{Turn}

-- a step, with the bytes of its label
pub record Step : Type 0 where
  pub hierarchy : Hierarchy
  pub kind : Kind
  pub type_tag : TypeTag
  pub label : List ℕ
  pub length : Length

abbrev pub step : Hierarchy → Kind → TypeTag → List ℕ → Length → Step
step hierarchy kind type_tag label length = record {
  hierarchy = hierarchy;
  kind = kind;
  type_tag = type_tag;
  label = label;
  length = length;
}

-- the step that an interaction describes
abbrev pub step_of : Interaction → Step
step_of i = step i.hierarchy i.kind i.type_tag i.label.now i.length

-- a step without its label
abbrev pub turn : Hierarchy → Kind → TypeTag → Length → Turn
turn hierarchy kind type_tag length =
    record { hierarchy = hierarchy; kind = kind; type_tag = type_tag; length = length }

abbrev pub turn_of : Step → Turn
turn_of s = turn s.hierarchy s.kind s.type_tag s.length

-- the steps of a pattern, in order
unfoldable pub pattern_steps : InteractionPattern → List Step
pattern_steps pattern = map step_of pattern.steps.items

-- a number is eight bytes, the highest first
abbrev pub number_bytes : ℕ → List ℕ
number_bytes n = to_be_bytes w64 n

-- a text is its length and its bytes
abbrev pub text_bytes : List ℕ → List ℕ
text_bytes bytes = number_bytes (length bytes) ++ bytes

abbrev pub hierarchy_byte : Hierarchy → ℕ
hierarchy_byte Atomic = 0x00
hierarchy_byte Begin = 0x01
hierarchy_byte End = 0x02

abbrev pub kind_byte : Kind → ℕ
kind_byte Message = 0x00
kind_byte Challenge = 0x01
kind_byte Pow = 0x02
kind_byte Protocol = 0x03

abbrev pub type_bytes : TypeTag → List ℕ
type_bytes Opaque = 0x00 ∷ []
type_bytes (Algebra degree) = 0x01 ∷ number_bytes degree
type_bytes (Bits width) = 0x02 ∷ number_bytes width
type_bytes Marker = 0x03 ∷ []

abbrev pub length_bytes : Length → List ℕ
length_bytes Scalar = 0x00 ∷ []
length_bytes (Fixed n) = 0x01 ∷ number_bytes n

abbrev pub step_bytes : Step → List ℕ
step_bytes s =
    hierarchy_byte s.hierarchy ∷ kind_byte s.kind
    ∷ (type_bytes s.type_tag ++ text_bytes s.label ++ length_bytes s.length)

-- the stream: the version, the name, the number of steps and the steps, the number of labels and
-- the labels
unfoldable pub seed_stream : ℕ → List ℕ → List Step → List (List ℕ) → List ℕ
seed_stream version name steps labels =
    version ∷ (text_bytes name
    ++ number_bytes (length steps) ++ flat_map step_bytes steps
    ++ number_bytes (length labels) ++ flat_map text_bytes labels)
