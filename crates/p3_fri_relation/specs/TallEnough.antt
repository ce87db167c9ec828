-- Which log heights can be proved and opened, and why another is refused.
use Rattle.std.specs.Prelude.{◌≡◌, ◌<◌, ◌≤◌, ◌^◌, ℕ}
use Rattle.p3_fri_folding.specs.declared.error.FriProverError.{FriProverError}
use Rattle.p3_fri_folding.specs.declared.error.FriProverError.TheVariants.{InputHeightTooSmall}
use Rattle.p3_fri_folding.specs.declared.error.FriProverError.TheVariants.{FinalHeightOverflow}
use Rattle.p3_fri_relation.specs.Setting.{Parameters, final_height}

module _ (p : Parameters) where
  -- a word of this log height can be proved: a final polynomial that isn't constant is sent only
  -- of a taller word than its own
  abbrev pub IsTallEnough : (h : ℕ) → Type 0
  IsTallEnough h = 0 < p.log_final_poly_len → final_height p < h

  -- why one of this log height is refused
  abbrev pub HeightRefusal : (h : ℕ) → FriProverError → Type 0
  HeightRefusal h (InputHeightTooSmall log_input_height log_final_height) =
      (0 < p.log_final_poly_len) × (h ≤ final_height p)
      × (log_input_height ≡ h) × (log_final_height ≡ final_height p)
  HeightRefusal h FinalHeightOverflow = (0 < p.log_final_poly_len) × (2 ^ 64 ≤ final_height p)
  HeightRefusal h _ = ⊥
