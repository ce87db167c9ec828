-- Steps without their labels, and the absorption of a stream.
use Rattle.std.specs.Prelude.{◌≡◌, ℕ, List, [], ◌∷◌, map}
use Rattle.algebra.specs.Field.{FieldOps, multiple}
use Rattle.p3_challenger_fs.specs.declared.pattern.Hierarchy.{Hierarchy}
use Rattle.p3_challenger_fs.specs.declared.pattern.Kind.{Kind}
use Rattle.p3_challenger_fs.specs.declared.pattern.TypeTag.{TypeTag}
use Rattle.p3_challenger_fs.specs.declared.pattern.Length.{Length}
use Rattle.p3_challenger_fs.specs.declared.pattern.Turn.{Turn}
use Rattle.p3_challenger_core.specs.Run.{observed_all}
use Rattle.p3_challenger_fs.specs.Pattern.{turn}

-- the first of these steps is this one
abbrev pub IsNext : Hierarchy → Kind → TypeTag → Length → List Turn → Type 0
IsNext hierarchy kind type_tag length [] = ⊥
IsNext hierarchy kind type_tag length (first ∷ _) = first ≡ turn hierarchy kind type_tag length

-- the state after each byte is observed, in order, as an element of the field
abbrev pub bytes_observed : {C F : Type 0} → FieldOps F → (C → F → C) → C → List ℕ → C
bytes_observed ops observe c bytes = observed_all observe c (map (λ b. multiple ops b) bytes)
