-- How the fields of schemes lie in bytes.
use Rattle.std.specs.Prelude.{ℕ, ◌^◌, true, false, leb}
use Rattle.fri_statement.specs.Setting.{SchemeFields}
use Rattle.fri_flat.specs.declared.layout.Layout.{Layout}
use Rattle.fri_flat.specs.declared.layout.Width.{Width}
use Rattle.fri_flat.specs.declared.layout.Width.TheVariants.{Four, Eight}

-- as many bytes as the numbers below an order need, four or eight
abbrev pub width_below : (order : ℕ) → Width
width_below order = elim (leb order (2 ^ 32)) [ true ↦ Four | false ↦ Eight ]

-- an element of the extension has a number for each coefficient
abbrev pub layout_of : {F E : Type 0} → SchemeFields F E → Layout
layout_of f = record { width = width_below f.order; degree = f.relation.degree }
