-- The hash values of eight messages.
use Rattle.std.specs.Prelude.{◌≡◌, ℕ, List, [], ◌∷◌}
use Rattle.sha2.specs.Sha256.{IsWindow, rounds, schedule}
use Rattle.sha256_lanes.specs.declared.words.Words.{Words}
use Rattle.sha256_lanes.specs.declared.rounds.variables.Variables.{Variables}
use Rattle.sha256_lanes.specs.Words.{lane_word, lane_words}

-- the hash value, or the working variables, in this lane
abbrev pub lane_hash : Variables → ℕ → List ℕ
lane_hash v lane =
    lane_word v.a lane ∷ lane_word v.b lane ∷ lane_word v.c lane ∷ lane_word v.d lane
    ∷ lane_word v.e lane ∷ lane_word v.f lane ∷ lane_word v.g lane ∷ lane_word v.h lane ∷ []

-- after `t` rounds over the block from the hash value, the window of this lane is the one before
-- round `s`, and its working variables are those of the rounds
pub record AreRoundsAt (block hash : List ℕ) (lane : ℕ) (window : List Words) (s : ℕ)
    (v : Variables) (t : ℕ) : Type 0 where
  pub words : IsWindow (lane_words window lane) (schedule block 48) s
  pub variables : lane_hash v lane ≡ rounds hash (schedule block 48) t
