-- The steps of a low-degree test, taken one after another.
use Rattle.std.proofs.Common.{◌≡◌, ℕ, suc, List, [], ◌∷◌, ◌++◌, length, map, drop, codes, ◌+◌, ◌-◌}
use Rattle.std.proofs.Common.{◌<◌, ◌≤◌, arith, add-one, sym, ap, ◌∙◌, append_assoc}
use Rattle.p3_challenger_fs.specs.declared.pattern.Hierarchy.TheVariants.{Atomic}
use Rattle.p3_challenger_fs.specs.declared.pattern.Kind.TheVariants.{Challenge}
use Rattle.p3_challenger_fs.specs.declared.pattern.TypeTag.TheVariants.{Bits}
use Rattle.p3_challenger_fs.specs.declared.pattern.Length.TheVariants.{Fixed}
use Rattle.p3_challenger_fs.specs.declared.pattern.Turn.{Turn}
use Rattle.p3_challenger_fs.specs.Pattern.{turn_of}
use Rattle.p3_fri_transcript.specs.Steps.{FriNumbers, commitment_step, rounds_steps, query_steps}
use Rattle.p3_fri_transcript.specs.Steps.{fri_steps}
use Rattle.p3_fri_pow.specs.Steps.{challenge_step, message_step, pow_steps}
use Rattle.p3_fri_transcript.specs.Turns.{RoundsLeft}
use Rattle.p3_fri_pow.specs.Pow.{pow_turns}
use Rattle.p3_fri_pow.proofs.Turns.{rest_of, pow_turns-of}

-- a round's steps: the commitment, the proof of work, the challenge, and then what was left
-- without the round
pub round_turns : (d : ℕ) (shape : FriNumbers) (n : ℕ) (left : List Turn)
    → RoundsLeft d shape (suc n) left
    → left ≡ turn_of commitment_step ∷ (pow_turns shape.commit_pow_bits ++ turn_of (challenge_step d (codes "fold_challenge")) ∷ map turn_of (rounds_steps d shape.commit_pow_bits n ++ query_steps d shape))
round_turns d shape n left is =
    let bits = shape.commit_pow_bits in
    let pow = pow_steps (codes "commit_pow") bits in
    let last = challenge_step d (codes "fold_challenge") in
    let others = rounds_steps d bits n in
    let queries = query_steps d shape in
    is ∙ ap (λ steps. turn_of commitment_step ∷ map turn_of (steps ++ queries)) (append_assoc pow (last ∷ []) others)
    ∙ ap (λ steps. turn_of commitment_step ∷ map turn_of steps) (append_assoc pow (last ∷ others) queries)
    ∙ ap (λ turns. turn_of commitment_step ∷ turns) (pow_turns-of (codes "commit_pow") bits (last ∷ (others ++ queries)))

-- the steps of the queries: the final polynomial, the proof of work, the indices
pub query_turns : (d : ℕ) (shape : FriNumbers) (left : List Turn) → RoundsLeft d shape 0 left
    → left ≡ turn_of (message_step d (codes "final_poly") shape.final_poly_len) ∷ (pow_turns shape.query_pow_bits
    ++ record { hierarchy = Atomic; kind = Challenge; type_tag = Bits shape.index_bits; length = Fixed shape.num_queries } ∷ [])
query_turns d shape left is =
    is ∙ ap (λ turns. turn_of (message_step d (codes "final_poly") shape.final_poly_len) ∷ turns)
    (pow_turns-of (codes "query_pow") shape.query_pow_bits (record { hierarchy = Atomic; kind = Challenge; type_tag = Bits shape.index_bits; label = codes "query_indices"; length = Fixed shape.num_queries } ∷ []))

-- what is left of a round after its proof of work
abbrev pub challenge_left : (d : ℕ) (shape : FriNumbers) (n : ℕ) → List Turn
challenge_left d shape n = turn_of (challenge_step d (codes "fold_challenge")) ∷ map turn_of (rounds_steps d shape.commit_pow_bits n ++ query_steps d shape)

pub after_commitment : (d : ℕ) (shape : FriNumbers) (n : ℕ) (left after : List Turn)
    → RoundsLeft d shape (suc n) left → after ≡ drop 1 left
    → after ≡ pow_turns shape.commit_pow_bits ++ challenge_left d shape n
after_commitment d shape n left after is dropped = rest_of (turn_of commitment_step) left _ after (round_turns d shape n left is) dropped

-- what is left of the queries after their proof of work
abbrev pub indices_left : FriNumbers → List Turn
indices_left shape = record { hierarchy = Atomic; kind = Challenge; type_tag = Bits shape.index_bits; length = Fixed shape.num_queries } ∷ []

pub after_final_poly : (d : ℕ) (shape : FriNumbers) (left after : List Turn)
    → RoundsLeft d shape 0 left → after ≡ drop 1 left
    → after ≡ pow_turns shape.query_pow_bits ++ indices_left shape
after_final_poly d shape left after is dropped = rest_of (turn_of (message_step d (codes "final_poly") shape.final_poly_len)) left _ after (query_turns d shape left is) dropped

-- at the end there is one for each round
pub one_for_each : (count i n : ℕ) → count ≡ i → n ≤ i → i ≤ n → count ≡ n
one_for_each count i n counted all within = omega (arith, counted, all, within)

-- one of the rounds that are left, by the own numbers of a transcript
pub one_round_left : (d : ℕ) (described own : FriNumbers) (n i : ℕ) (left : List Turn) → i < n
    → own ≡ described
    → RoundsLeft d described (n - i) left → RoundsLeft d own (suc (n - (i + 1))) left
one_round_left d described own n i left less same is =
    let one_more : n - i ≡ (n - (i + 1)) + 1 = omega arith in
    is ∙ ap (λ k. map turn_of (rounds_steps d described.commit_pow_bits k ++ query_steps d described)) (one_more ∙ add-one (n - (i + 1)))
    ∙ ap (λ (s : FriNumbers). map turn_of (rounds_steps d s.commit_pow_bits (suc (n - (i + 1))) ++ query_steps d s)) (sym same)

-- and the others
pub other_rounds_left : (d : ℕ) (described own : FriNumbers) (n : ℕ) (left : List Turn)
    → own ≡ described → RoundsLeft d own n left → RoundsLeft d described n left
other_rounds_left d described own n left same is = is ∙ ap (λ (s : FriNumbers). map turn_of (rounds_steps d s.commit_pow_bits n ++ query_steps d s)) same

-- all rounds are left at the start
pub all_rounds_left : (d : ℕ) (described own : FriNumbers) (left : List Turn) → own ≡ described
    → left ≡ map turn_of (fri_steps d described)
    → RoundsLeft d own (length own.log_arities) left
unfolding fri_steps
all_rounds_left d described own left same is =
    is ∙ ap (λ (s : FriNumbers). map turn_of (rounds_steps d s.commit_pow_bits (length s.log_arities) ++ query_steps d s)) (sym same)

-- and as many as are given, where that is their number
pub these_rounds_left : (d : ℕ) (described own : FriNumbers) (n : ℕ) (left : List Turn)
    → own ≡ described → n ≡ length described.log_arities
    → left ≡ map turn_of (fri_steps d described)
    → RoundsLeft d own n left
these_rounds_left d described own n left same count is =
    all_rounds_left d described own left same is
    ∙ ap (λ k. map turn_of (rounds_steps d own.commit_pow_bits k ++ query_steps d own)) (ap (λ (s : FriNumbers). length s.log_arities) same ∙ sym count)

-- at the first round none is taken off
pub no_round_taken : (d : ℕ) (shape : FriNumbers) (n : ℕ) (left : List Turn)
    → RoundsLeft d shape n left → RoundsLeft d shape (n - 0) left
no_round_taken d shape n left is =
    let whole : n ≡ n - 0 = omega arith in is ∙ ap (λ k. map turn_of (rounds_steps d shape.commit_pow_bits k ++ query_steps d shape)) whole

-- and at the last all are
pub all_rounds_taken : (d : ℕ) (shape : FriNumbers) (n taken : ℕ) (left : List Turn)
    → n ≤ taken → RoundsLeft d shape (n - taken) left → RoundsLeft d shape 0 left
all_rounds_taken d shape n taken left all is =
    let none : n - taken ≡ 0 = omega arith in is ∙ ap (λ k. map turn_of (rounds_steps d shape.commit_pow_bits k ++ query_steps d shape)) none
