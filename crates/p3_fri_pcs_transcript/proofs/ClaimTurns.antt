-- Claimed values, absorbed list by list, and the turns that are left then.
use Rattle.std.proofs.Common.{◌≡◌, ℕ, List, [], ◌∷◌, ◌++◌, length, map, codes, sym, ap, ◌∙◌, append_assoc, append-nil}
use Rattle.std.proofs.lemmas.List.{map-append}
use Rattle.std.proofs.lemmas.Grind.{flat_map-append}
use Rattle.std.specs.List.{flat_map}
use Rattle.algebra.specs.Nested.{joined}
use Rattle.p3_challenger_fs.specs.declared.pattern.Hierarchy.TheVariants.{Begin, End}
use Rattle.p3_challenger_fs.specs.declared.pattern.Turn.{Turn}
use Rattle.p3_challenger_fs.specs.Pattern.{turn_of}
use Rattle.p3_challenger_core.specs.Run.{observed_all}
use Rattle.p3_challenger_core.proofs.Runs.{observed_all-append}
use Rattle.p3_fri_pow.specs.Pow.{pow_turns}
use Rattle.p3_fri_pcs_transcript.specs.Steps.{PcsNumbers, widths, bracket_step, batch_steps, pcs_steps}
use Rattle.p3_fri_pow.specs.Steps.{challenge_step, message_step}
use Rattle.p3_fri_pcs_transcript.specs.Turns.{ClaimsLeft, claim_turns, bracket_turns}
use Rattle.p3_fri_pow.proofs.Turns.{pow_turns-of}

-- at first all steps are left
pub claims_left : (d : ℕ) (s : PcsNumbers) → ClaimsLeft d s (widths s.counts) (map turn_of (pcs_steps d s))
unfolding pcs_steps
claims_left d s =
    map-append turn_of (map (message_step d (codes "claimed_evaluations")) (widths s.counts)) (batch_steps d s.batch_pow_bits)

module _ {C F E : Type 0} (observe : C → F → C) (coefficients : E → List F) where
  pub absorbed_both : (c : C) (first left : List (List E))
      → observed_all observe c (flat_map coefficients (joined (first ++ left)))
      ≡ observed_all observe (observed_all observe c (flat_map coefficients (joined first))) (flat_map coefficients (joined left))
  absorbed_both c first left =
      ap (λ values. observed_all observe c (flat_map coefficients values)) (flat_map-append (λ values. values) first left)
      ∙ ap (observed_all observe c) (flat_map-append coefficients (joined first) (joined left))
      ∙ observed_all-append observe c (flat_map coefficients (joined first)) (flat_map coefficients (joined left))

  -- one list
  pub absorbed_one : (c after : C) (values : List E) → after ≡ observed_all observe c (flat_map coefficients values)
      → after ≡ observed_all observe c (flat_map coefficients (joined (values ∷ [])))
  absorbed_one c after values is = is ∙ ap (λ vs. observed_all observe c (flat_map coefficients vs)) (sym (append-nil values))

-- the claims of these counts, and then of others
pub claims_both : (d : ℕ) (first left : List ℕ) (rest : List Turn) → claim_turns d (first ++ left) ++ rest ≡ claim_turns d first ++ (claim_turns d left ++ rest)
claims_both d first left rest =
    let claim = message_step d (codes "claimed_evaluations") in
    ap (λ steps. map turn_of steps ++ rest) (map-append claim first left)
    ∙ ap (λ turns. turns ++ rest) (map-append turn_of (map claim first) (map claim left))
    ∙ append_assoc (claim_turns d first) (claim_turns d left) rest

-- the claims of these lists, and then of others
pub claims_first : (d : ℕ) {E : Type 0} {now : List Turn} (first left : List (List E)) (rest : List Turn)
    → now ≡ claim_turns d (map length (first ++ left)) ++ rest
    → now ≡ claim_turns d (map length first) ++ (claim_turns d (map length left) ++ rest)
claims_first d first left rest was =
    was ∙ ap (λ counts. claim_turns d counts ++ rest) (map-append length first left)
    ∙ claims_both d (map length first) (map length left) rest

-- what is left after the claims, and after the proof of work
abbrev pub batch_left : (d : ℕ) → PcsNumbers → List Turn
batch_left d shape = map turn_of (batch_steps d shape.batch_pow_bits)

abbrev pub alpha_left : (d : ℕ) → List Turn
alpha_left d = turn_of (challenge_step d (codes "alpha")) ∷ bracket_turns

pub after_claims : (d : ℕ) (shape : PcsNumbers) (left : List Turn) → ClaimsLeft d shape [] left → left ≡ pow_turns shape.batch_pow_bits ++ alpha_left d
after_claims d shape left is =
    is ∙ pow_turns-of (codes "batch_pow") shape.batch_pow_bits (challenge_step d (codes "alpha") ∷ bracket_step Begin ∷ bracket_step End ∷ [])

-- all claims are left at the start
pub all_claims_left : (d : ℕ) (described own : PcsNumbers) (left : List Turn) → own ≡ described → left ≡ map turn_of (pcs_steps d described)
    → ClaimsLeft d own (widths own.counts) left
all_claims_left d described own left same is = is ∙ ap (λ (s : PcsNumbers). map turn_of (pcs_steps d s)) (sym same) ∙ claims_left d own
