-- Lists of values, absorbed one after another.
use Rattle.std.specs.Prelude.{◌≡◌, ℕ, ◌++◌, List, length, map}
use Rattle.std.specs.List.{flat_map}
use Rattle.algebra.specs.Nested.{joined}
use Rattle.p3_challenger_fs.specs.declared.pattern.Turn.{Turn}
use Rattle.p3_challenger_fs.specs.declared.script.Script.{Script}
use Rattle.p3_challenger_core.specs.Run.{observed_all}
use Rattle.p3_challenger_fs.specs.Script.{remaining}
use Rattle.p3_fri_pcs_transcript.specs.Turns.{claim_turns}

-- claims of so many values each come first
abbrev pub ClaimsThen : (d : ℕ) (counts : List ℕ) (left : List Turn) → Type 0
ClaimsThen d counts left = (rest : List Turn) × (left ≡ claim_turns d counts ++ rest)

-- these lists of values were observed in order, and a turn was played for each
pub record Absorbs {C F E : Type 0} (observe : C → F → C) (coefficients : E → List F) (d : ℕ)
    (before after : Script) (c last : C) (values : List (List E)) : Type 0 where
  pub state : last ≡ observed_all observe c (flat_map coefficients (joined values))
  pub turns : (rest : List Turn) → remaining before ≡ claim_turns d (map length values) ++ rest
      → remaining after ≡ rest
