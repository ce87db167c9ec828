-- Rounds that were played, and one more.
use Rattle.std.proofs.Common.{◌≡◌, ℕ, zero, suc, ◌+◌, ◌-◌, ◌^◌, ◌<◌, ◌≤◌, List, [], ◌∷◌, ◌++◌}
use Rattle.std.proofs.Common.{length, get_or, take, sum, Option, refl, sym, ap, ap₂, ◌∙◌, arith}
use Rattle.std.proofs.Common.{subst, below_more}
use Rattle.std.proofs.lemmas.List.Sums.{sum_by-append}
use Rattle.std.proofs.lemmas.List.{take_more, length-append, length-take}
use Rattle.algebra.specs.Field.{FieldOps}
use Rattle.algebra.specs.Rounds.{Round, total_log_arity, after_round, after_rounds, words_folded}
use Rattle.algebra.proofs.Rounds.{after_rounds-next, words_folded-next, length-after_rounds}
use Rattle.p3_matrix.specs.declared.dense.RowMajorMatrix.{RowMajorMatrix}
use Rattle.p3_challenger_core.specs.Run.{Moves}
use Rattle.p3_fri_pow.specs.Pow.{sent_witness, NonePasses}
use Rattle.p3_fri_transcript.specs.Found.{RoundsFound}
use Rattle.p3_fri_transcript.specs.Replay.{RoundsReplay, rounds_replay}
use Rattle.p3_fri_transcript.proofs.Joining.{no_rounds, round_joined, found_joined}
use Rattle.p3_fri_relation.specs.Queries.{rounds_of}
use Rattle.p3_fri_folding.specs.declared.error.FriProverError.{FriProverError}
use Rattle.p3_fri_folding.specs.declared.error.FriProverError.TheVariants.{InputHeightTooSmall}
use Rattle.p3_fri_folding.specs.declared.error.FriProverError.TheVariants.{FinalHeightOverflow}
use Rattle.p3_fri_folding.specs.declared.error.FriProverError.TheVariants.{OutOfMemory, NoPowWitness}
use Rattle.p3_fri_folding.specs.declared.error.FriProverError.TheVariants.{PointInEvaluationDomain}
use Rattle.p3_fri_folding.specs.declared.pow_phase.PowPhase.TheVariants.{Batch, CommitPhase, Query}
use Rattle.p3_fri_prover.specs.Rounds.{CanFold, KeepsWord, IsRound, AreCommitted}
use Rattle.p3_fri_prover.specs.Rounds.{IsRoundRefused, NoRoundWitness}
use Rattle.p3_fri_prover.specs.Refusals.{RoundRefusal, RoundsRefusal}
use Rattle.p3_fri_prover.proofs.Ways.{total_of_rounds, sum-cons}
use Rattle.p3_fri_prover.proofs.Pushes.{at_last, at_earlier}

-- one log arity and one challenge more
rounds_more : {E : Type 0} (arities : List ℕ) (betas : List E) (a : ℕ) (b : E)
    → length betas ≡ length arities
    → rounds_of (arities ++ a ∷ []) (betas ++ b ∷ [])
    ≡ rounds_of arities betas ++ record { log_arity = a; beta = b } ∷ []
rounds_more [] [] a b n = refl
rounds_more [] (x ∷ betas) a b n = absurd (omega (arith, n))
rounds_more (x ∷ arities) [] a b n = absurd (omega (arith, n))
rounds_more (x ∷ arities) (y ∷ betas) a b n =
    ap (λ rs. record { log_arity = x; beta = y } ∷ rs)
    (rounds_more arities betas a b (omega (arith, n)))

length-words : {E : Type 0} (F : FieldOps E) (fold : ℕ → ℕ → ℕ → E → List E → E)
    (inputs : ℕ → Option (List E)) (h : ℕ) (arities : List ℕ) (betas : List E) (ys : List E)
    → length betas ≡ length arities
    → length (words_folded F fold inputs h (rounds_of arities betas) ys) ≡ length arities
length-words F fold inputs h [] betas ys n = refl
length-words F fold inputs h (a ∷ arities) [] ys n = absurd (omega (arith, n))
length-words F fold inputs h (a ∷ arities) (b ∷ betas) ys n =
    ap suc (length-words F fold inputs (h - a) arities betas _ (omega (arith, n)))

pub none_committed : {E Com Data C F : Type 0} {committed : Data → List (RowMajorMatrix E)}
    {commitment_of : Data → Com} {m : Moves C F E Com} {bits : ℕ} {zero' : F}
    {solution : C → ℕ → Option F} {ops : FieldOps E} {fold : ℕ → ℕ → ℕ → E → List E → E}
    {inputs : ℕ → Option (List E)} {top : ℕ} {first : List E} {start : C} {commitments : List Com}
    {witnesses : List F} {kept : List Data}
    → commitments ≡ [] → witnesses ≡ [] → kept ≡ []
    → AreCommitted committed commitment_of m bits zero' solution ops fold inputs top first start
    [] commitments witnesses kept first start
none_committed {m = m} {bits = bits} {zero' = zero'} {solution = solution} {start = start}
    {witnesses = witnesses} c w k = record {
      betas = [];
      drawn = refl;
      commitments_made = ap length c;
      witnesses_found = ap length w;
      data_kept = ap length k;
      replay = ap (λ cs. rounds_replay m bits start cs witnesses) c ∙ no_rounds m bits start witnesses;
      found = subst (λ cs. RoundsFound m zero' solution bits start cs witnesses) (sym c) tt;
      words = λ i d e l. absurd (omega (arith, l));
      last_word = refl;
    }

module _ {E Com Data : Type 0} (committed : Data → List (RowMajorMatrix E))
    (commitment_of : Data → Com) {C F : Type 0} (m : Moves C F E Com) (bits : ℕ) (zero' : F)
    (solution : C → ℕ → Option F) (ops : FieldOps E) (fold : ℕ → ℕ → ℕ → E → List E → E)
    (inputs : ℕ → Option (List E)) (top : ℕ) (first : List E) (start : C) where
  module _ (arities : List ℕ) (a : ℕ) (commitments : List Com) (witnesses : List F)
      (kept : List Data) (word : List E) (now : C)
      (so_far : AreCommitted committed commitment_of m bits zero' solution ops fold inputs top first
      start arities commitments witnesses kept word now)
      (commitment : Com) (witness : F) (datum : Data) (folded : List E) (after : C)
      (next : IsRound committed commitment_of m bits zero' solution ops fold inputs
      (top - sum arities - a) a word now commitment witness datum folded after) where
    abbrev old_rounds : List (Round E)
    old_rounds = rounds_of arities so_far.betas

    one_committed_more : (all_commitments : List Com) (all_witnesses : List F)
        (all_kept : List Data)
        → all_commitments ≡ commitments ++ commitment ∷ []
        → all_witnesses ≡ witnesses ++ witness ∷ [] → all_kept ≡ kept ++ datum ∷ []
        → AreCommitted committed commitment_of m bits zero' solution ops fold inputs top first start
        (arities ++ a ∷ []) all_commitments all_witnesses all_kept folded after
    one_committed_more cs ws ks ec ew ek = record {
      betas = so_far.betas ++ next.beta ∷ [];
      drawn = same_length so_far.betas arities next.beta a so_far.drawn;
      commitments_made = ap length ec ∙ same_length commitments arities commitment a
          so_far.commitments_made;
      witnesses_found = ap length ew ∙ same_length witnesses arities witness a
          so_far.witnesses_found;
      data_kept = ap length ek ∙ same_length kept arities datum a so_far.data_kept;
      replay = ap₂ (λ xs ys. rounds_replay m bits start xs ys) ec ew
          ∙ round_joined m bits start now after commitments witnesses so_far.betas commitment
          witness next.beta (so_far.witnesses_found ∙ sym so_far.commitments_made) so_far.replay
          next.replay;
      found = subst (λ xs. RoundsFound m zero' solution bits start xs ws) (sym ec)
          (subst (λ ys. RoundsFound m zero' solution bits start (commitments ++ commitment ∷ []) ys)
          (sym ew) (found_joined m zero' solution bits start commitments witnesses commitment witness
          (so_far.witnesses_found ∙ sym so_far.commitments_made) so_far.found
          (ap (λ (r : RoundsReplay _ _). sent_witness zero' solution
          (m.observe_commitment r.state commitment) bits) so_far.replay ∙ next.found)));
      words = λ k made dat l.
          below_more (λ j. (com' : Com) (dat' : Data)
          → KeepsWord committed commitment_of (get_or (arities ++ a ∷ []) j 0)
          (get_or all_words j []) (get_or cs j com') (get_or ks j dat'))
          n earlier here k (omega (arith, l, length-append arities (a ∷ []))) made dat;
      last_word = next.word_after
          ∙ ap₂ (λ h w. after_round ops fold inputs (h - a) this_round w)
          (let e : top - sum arities ≡ top - total_log_arity old_rounds =
          omega (arith, total_of_rounds arities so_far.betas so_far.drawn) in e) so_far.last_word
          ∙ sym (after_rounds-next ops fold inputs top old_rounds this_round first)
          ∙ ap (λ rs. after_rounds ops fold inputs top rs first)
          (sym (rounds_more arities so_far.betas a next.beta so_far.drawn));
    }
      where
        n : ℕ
        n = length arities

        this_round : Round E
        this_round = record { log_arity = a; beta = next.beta }

        all_words : List (List E)
        all_words = words_folded ops fold inputs top
            (rounds_of (arities ++ a ∷ []) (so_far.betas ++ next.beta ∷ [])) first

        old_words : List (List E)
        old_words = words_folded ops fold inputs top old_rounds first

        one_word_more : all_words ≡ old_words ++ word ∷ []
        one_word_more =
            ap (λ rs. words_folded ops fold inputs top rs first)
            (rounds_more arities so_far.betas a next.beta so_far.drawn)
            ∙ words_folded-next ops fold inputs top old_rounds this_round first
            ∙ ap (λ w. old_words ++ w ∷ []) (sym so_far.last_word)

        many_words : length old_words ≡ n
        many_words = length-words ops fold inputs top arities so_far.betas first so_far.drawn

        keeps_as : (x x' : ℕ) (w w' : List E) (c c' : Com) (d d' : Data)
            → x' ≡ x → w' ≡ w → c' ≡ c → d' ≡ d
            → KeepsWord committed commitment_of x w c d
            → KeepsWord committed commitment_of x' w' c' d'
        keeps_as x x' w w' c c' d d' e f g h k =
            subst (λ y. KeepsWord committed commitment_of y w' c' d') (sym e)
            (subst (λ y. KeepsWord committed commitment_of x y c' d') (sym f)
            (subst (λ y. KeepsWord committed commitment_of x w y d') (sym g)
            (subst (λ y. KeepsWord committed commitment_of x w c y) (sym h) k)))

        earlier : (j : ℕ) → j < n → (com' : Com) (dat' : Data)
            → KeepsWord committed commitment_of (get_or (arities ++ a ∷ []) j 0)
            (get_or all_words j []) (get_or cs j com') (get_or ks j dat')
        earlier j l com' dat' =
            keeps_as (get_or arities j 0) (get_or (arities ++ a ∷ []) j 0) (get_or old_words j [])
            (get_or all_words j []) (get_or commitments j com') (get_or cs j com')
            (get_or kept j dat') (get_or ks j dat')
            (at_earlier arities (arities ++ a ∷ []) a 0 j n refl refl l)
            (at_earlier old_words all_words word [] j n many_words one_word_more l)
            (at_earlier commitments cs commitment com' j n so_far.commitments_made ec l)
            (at_earlier kept ks datum dat' j n so_far.data_kept ek l)
            (so_far.words j com' dat' l)

        here : (com' : Com) (dat' : Data)
            → KeepsWord committed commitment_of (get_or (arities ++ a ∷ []) n 0)
            (get_or all_words n []) (get_or cs n com') (get_or ks n dat')
        here com' dat' =
            keeps_as a (get_or (arities ++ a ∷ []) n 0) word (get_or all_words n []) commitment
            (get_or cs n com') datum (get_or ks n dat')
            (at_last arities (arities ++ a ∷ []) a 0 n refl refl)
            (at_last old_words all_words word [] n many_words one_word_more)
            (at_last commitments cs commitment com' n so_far.commitments_made ec)
            (at_last kept ks datum dat' n so_far.data_kept ek) next.keeps

        same_length : {X Y : Type 0} (xs : List X) (ys : List Y) (x : X) (y : Y)
            → length xs ≡ length ys → length (xs ++ x ∷ []) ≡ length (ys ++ y ∷ [])
        same_length xs ys x y e =
            length-append xs (x ∷ []) ∙ ap (λ n. n + 1) e ∙ sym (length-append ys (y ∷ []))

-- how much of the log arities is left
pub sum_next : (arities : List ℕ) (i : ℕ) → i < length arities
    → sum (take (i + 1) arities) ≡ sum (take i arities) + get_or arities i 0
sum_next arities i l =
    ap sum (take_more arities i 0 l)
    ∙ sum_by-append (λ n. n) (take i arities) (get_or arities i 0 ∷ [])
    ∙ ap (λ n. sum (take i arities) + n) (sum-one (get_or arities i 0))
  where
    sum-one : (a : ℕ) → sum (a ∷ []) ≡ a
    sum-one a = sum-cons a [] ∙ omega arith

pub sum_taken : (arities : List ℕ) (i : ℕ) → sum (take i arities) ≤ sum arities
sum_taken arities zero = omega arith
sum_taken [] (suc i) = omega arith
sum_taken (a ∷ arities) (suc i) =
    omega (arith, sum-cons a (take i arities), sum-cons a arities, sum_taken arities i)

-- so long is the word after some of the rounds
pub word_so_far : {E : Type 0} (F : FieldOps E) (fold : ℕ → ℕ → ℕ → E → List E → E)
    (inputs : ℕ → Option (List E)) (top : ℕ) (arities : List ℕ) (betas : List E)
    (first word : List E) → length betas ≡ length arities → length first ≡ 2 ^ top
    → word ≡ after_rounds F fold inputs top (rounds_of arities betas) first
    → length word ≡ 2 ^ (top - sum arities)
word_so_far F fold inputs top arities betas first word n whole e =
    ap length e ∙ length-after_rounds F fold inputs top (rounds_of arities betas) first whole
    ∙ ap (λ m. 2 ^ (top - m)) (total_of_rounds arities betas n)

pub next_size : (arities : List ℕ) (i top n : ℕ) → i < length arities
    → sum arities ≤ top → n ≡ 2 ^ (top - sum (take i arities))
    → n ≡ 2 ^ (top - sum (take i arities) - get_or arities i 0 + get_or arities i 0)
next_size arities i top n l s e =
    e ∙ ap (λ m. 2 ^ m) (let f : top - sum (take i arities)
    ≡ top - sum (take i arities) - get_or arities i 0 + get_or arities i 0 =
    omega (arith, s, sum_next arities i l, sum_taken arities (i + 1)) in f)

pub can_fold_next : (arities : List ℕ) (i top most n : ℕ) → i < length arities
    → sum arities ≤ top → top ≤ most → n ≡ 2 ^ (top - sum (take i arities))
    → CanFold (get_or arities i 0) most n
can_fold_next arities i top most n l s t e = record {
  height = top - sum (take i arities) - get_or arities i 0;
  length_of_word = next_size arities i top n l s e;
  within = omega (arith, s, t, sum_next arities i l, sum_taken arities (i + 1));
}

-- after the first `i` rounds of these log arities
module _ {E Com Data C F : Type 0} {committed : Data → List (RowMajorMatrix E)}
    {commitment_of : Data → Com} {m : Moves C F E Com} {bits : ℕ} {zero' : F}
    {solution : C → ℕ → Option F} {ops : FieldOps E} {fold : ℕ → ℕ → ℕ → E → List E → E}
    {inputs : ℕ → Option (List E)} {top : ℕ} {first : List E} {start : C} (arities : List ℕ) (i : ℕ)
    {commitments : List Com} {witnesses : List F} {kept : List Data} {word : List E} {now : C}
    (so_far : AreCommitted committed commitment_of m bits zero' solution ops fold inputs top first
    start (take i arities) commitments witnesses kept word now) where
  pub length_so_far : length first ≡ 2 ^ top → length word ≡ 2 ^ (top - sum (take i arities))
  length_so_far whole =
      word_so_far ops fold inputs top (take i arities) so_far.betas first word so_far.drawn whole
      so_far.last_word

  -- the next round is played, over as many bits
  pub next_committed : {own : ℕ} {commitment : Com} {witness : F} {datum : Data} {folded : List E}
      {after : C} {all_commitments : List Com} {all_witnesses : List F} {all_kept : List Data}
      {last : List E} → i < length arities → own ≡ bits
      → IsRound committed commitment_of m own zero' solution ops fold inputs
      (top - sum (take i arities) - get_or arities i 0) (get_or arities i 0) word now commitment
      witness datum folded after
      → all_commitments ≡ commitments ++ commitment ∷ []
      → all_witnesses ≡ witnesses ++ witness ∷ [] → all_kept ≡ kept ++ datum ∷ []
      → last ≡ folded
      → AreCommitted committed commitment_of m bits zero' solution ops fold inputs top first start
      (take (i + 1) arities) all_commitments all_witnesses all_kept last after
  next_committed {own} {commitment} {witness} {datum} {folded} {after} {all_commitments}
      {all_witnesses} {all_kept} {last} below same_bits next ec ew ek is_last =
      let a = get_or arities i 0 in
      let Committed : List ℕ → List E → Type 0 = λ xs w.
      AreCommitted committed commitment_of m bits zero' solution ops fold inputs top first start xs
      all_commitments all_witnesses all_kept w after in
      subst (λ xs. Committed xs last) (sym (take_more arities i 0 below))
      (subst (λ w. Committed (take i arities ++ a ∷ []) w) (sym is_last)
      (one_committed_more committed commitment_of m bits zero' solution ops fold inputs top first
      start (take i arities) a commitments witnesses kept word now so_far commitment witness datum folded
      after
      (subst (λ b. IsRound committed commitment_of m b zero' solution ops fold inputs
      (top - sum (take i arities) - a) a word now commitment witness datum folded after) same_bits
      next) all_commitments all_witnesses all_kept ec ew ek))

  -- or finds no witness
  no_round_witness : i < length arities
      → IsRoundRefused committed commitment_of m bits (get_or arities i 0) word now
      → NoRoundWitness committed commitment_of m bits zero' solution ops fold inputs top first start
      arities
  no_round_witness below refused =
      let reached : (rounds_replay m bits start commitments witnesses).state ≡ now =
      ap (λ (r : RoundsReplay _ _). r.state) so_far.replay in
      let many : i ≡ length commitments =
      omega (arith, below, length-take i arities, so_far.commitments_made) in
      record {
        commitments = commitments ++ refused.commitment ∷ [];
        stops = record {
          before = commitments;
          next = refused.commitment;
          others = [];
          witnesses = witnesses;
          all = refl;
          count = so_far.witnesses_found ∙ sym so_far.commitments_made;
          found = so_far.found;
          passes = ap (λ (r : RoundsReplay _ _). r.passes) so_far.replay;
          none_passes = subst (λ s. NonePasses m.observe_value m.draw_bits
              (m.observe_commitment s refused.commitment) bits) (sym reached) refused.none_passes;
        };
        some_left = subst (λ n. n < length arities) many below;
        kept = kept;
        word = word;
        reached = now;
        committed_before = subst (λ n. AreCommitted committed commitment_of m bits zero' solution
            ops fold inputs top first start (take n arities) commitments witnesses kept word now)
            many so_far;
        datum = refused.datum;
        keeps = subst (λ n. KeepsWord committed commitment_of (get_or arities n 0) word
            refused.commitment refused.datum) many refused.keeps;
      }

  -- and a refusal of it refuses the rounds
  pub rounds_refused : {own : ℕ} → i < length arities → own ≡ bits → (e : FriProverError)
      → RoundRefusal committed commitment_of m own (get_or arities i 0) word now e
      → RoundsRefusal committed commitment_of m bits zero' solution ops fold inputs top first start
      arities e
  rounds_refused below same_bits (NoPowWitness CommitPhase) refused =
      no_round_witness below
      (subst (λ b. IsRoundRefused committed commitment_of m b (get_or arities i 0) word now)
      same_bits refused)
  rounds_refused below same_bits (NoPowWitness Batch) refused = absurd refused
  rounds_refused below same_bits (NoPowWitness Query) refused = absurd refused
  rounds_refused below same_bits OutOfMemory refused = tt
  rounds_refused below same_bits FinalHeightOverflow refused = absurd refused
  rounds_refused below same_bits (InputHeightTooSmall x y) refused = absurd refused
  rounds_refused below same_bits (PointInEvaluationDomain x y z) refused = absurd refused
