-- Where the transcript stands.
use Rattle.std.specs.Prelude.{◌≡◌, ℕ, ◌++◌, List, [], ◌∷◌, map, codes}
use Rattle.p3_challenger_fs.specs.declared.pattern.Hierarchy.TheVariants.{Begin, End}
use Rattle.p3_challenger_fs.specs.declared.pattern.Turn.{Turn}
use Rattle.p3_challenger_fs.specs.Pattern.{turn_of}
use Rattle.p3_fri_pcs_transcript.specs.Steps.{PcsNumbers, bracket_step, batch_steps}
use Rattle.p3_fri_pow.specs.Steps.{message_step}

-- claims of so many values each
abbrev pub claim_turns : (d : ℕ) (counts : List ℕ) → List Turn
claim_turns d counts = map turn_of (map (message_step d (codes "claimed_evaluations")) counts)

-- the bracket around the low-degree test
abbrev pub bracket_turns : List Turn
bracket_turns = map turn_of (bracket_step Begin ∷ bracket_step End ∷ [])

-- its end
abbrev pub bracket_end_turns : List Turn
bracket_end_turns = map turn_of (bracket_step End ∷ [])

-- claims of so many values each, and what follows the claims
abbrev pub pcs_turns : (d : ℕ) (shape : PcsNumbers) (counts : List ℕ) → List Turn
pcs_turns d shape counts =
    claim_turns d counts ++ map turn_of (batch_steps d shape.batch_pow_bits)

-- these are left to play
abbrev pub ClaimsLeft : (d : ℕ) (shape : PcsNumbers) (counts : List ℕ) (left : List Turn) → Type 0
ClaimsLeft d shape counts left = left ≡ pcs_turns d shape counts
