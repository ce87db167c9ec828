-- The numbers of rounds and batches are those of the steps and the batches of any words.
use Rattle.std.proofs.Common.{◌≡◌, ◌≢◌, ℕ, ◌+◌, ◌-◌, ◌*◌, ◌^◌, ◌≤◌, ◌<◌, List, [], ◌∷◌, length, map}
use Rattle.std.proofs.Common.{Bool, true, false, Option, Some, None, refl, sym, ap, ◌∙◌, subst, arith}
use Rattle.std.specs.Option.{is_some}
use Rattle.std.specs.List.{AllZip}
use Rattle.algebra.specs.Field.{FieldOps, IsField}
use Rattle.algebra.specs.TwoAdic.{AreRoots}
use Rattle.algebra.specs.Rounds.{Round}
use Rattle.p3_fri_folding.specs.Schedule.{tallest}
use Rattle.fri_soundness.specs.Counting.{AtMost}
use Rattle.fri_soundness.specs.Curves.{IsBad}
use Rattle.fri_soundness.specs.FoldTests.{Step, HasRoom, IsBadIn, budget, curve_degree}
use Rattle.fri_soundness.specs.CommittedWords.{AreWords, steps_of, next_word}
use Rattle.fri_soundness.specs.Batches.{OpenedColumn, batch_rows}
use Rattle.fri_soundness.proofs.SoundTests.{few_bad_in_step}
use Rattle.fri_soundness.proofs.SoundBatches.{few_batches}
use Rattle.fri_soundness_error.specs.declared.errors.RoundError.{RoundError}
use Rattle.fri_soundness_error.specs.Errors.{degree_of, is_among, HasRoundRoom, HasBatchRoom}
use Rattle.fri_soundness_error.specs.Errors.{round_error, round_errors, batch_error}

module _ {A : Type 0} (F : FieldOps A) (L : IsField F) (top : ℕ) (w : ℕ → A)
    (W : AreRoots F top w) where
  degree-is : (a : ℕ) (input : Option (List A)) (b : Bool) → is_some input ≡ b
      → curve_degree F w a input ≡ degree_of b a
  degree-is a None true e = absurd cc
  degree-is a None false e = refl
  degree-is a (Some us) true e = refl
  degree-is a (Some us) false e = absurd cc

  module _ (heights : List ℕ) (failing log_blowup : ℕ) (inputs : ℕ → Option (List A))
      (rolled : (h : ℕ) → is_some (inputs h) ≡ is_among heights h) where
    abbrev e : ℕ → ℕ
    e = budget (tallest heights) failing

    -- what the numbers of a round say of its step
    abbrev pub IsCounted : RoundError → Step A → Type 0
    IsCounted r s = HasRoundRoom log_blowup r
        → HasRoom F w log_blowup e s × AtMost (IsBadIn F w log_blowup e s) r.bad_challenges

    step_counted : (s : Step A) → s.input ≡ inputs s.height
        → s.height + s.round.log_arity ≤ top
        → length s.word ≡ 2 ^ (s.height + s.round.log_arity)
        → IsCounted (round_error heights failing s.height s.round.log_arity) s
    step_counted s is within long room =
        let same : curve_degree F w s.round.log_arity s.input
        ≡ degree_of (is_among heights s.height) s.round.log_arity =
        degree-is s.round.log_arity s.input (is_among heights s.height)
        (ap is_some is ∙ rolled s.height) in
        let has : HasRoom F w log_blowup e s = record {
          blowup = room.blowup;
          enough = subst (λ d. (d + 2) * e s.height + 2 ^ (s.height - log_blowup) ≤ 2 ^ s.height)
              (sym same) room.enough;
        } in (
          has,
          subst (λ d. AtMost (IsBadIn F w log_blowup e s) (d * (e s.height + 1))) same
              (few_bad_in_step F L top w W log_blowup e s has within long),
        )

    pub rounds_counted : (h : ℕ) (rounds : List (Round A)) (words : List (List A))
        (last : List A) → h ≤ top → AreWords h rounds words
        → AllZip IsCounted
        (round_errors heights failing (map (λ (r : Round A). r.log_arity) rounds) h)
        (steps_of inputs h rounds words last)
    rounds_counted h [] [] last t are = tt
    rounds_counted h [] (ys ∷ words) last t are = absurd are
    rounds_counted h (r ∷ rounds) [] last t are = absurd are
    rounds_counted h (r ∷ rounds) (ys ∷ words) last t are =
        let height = h - r.log_arity in
        let whole : h ≡ h - r.log_arity + r.log_arity = omega (arith, are.1) in (
          step_counted (record {
            round = r;
            height = height;
            word = ys;
            input = inputs height;
            next = next_word words last;
          }) refl (omega (arith, t, are.1)) (are.0 ∙ ap (λ n. 2 ^ n) whole),
          rounds_counted height rounds words last (omega (arith, t)) are.2,
        )

  pub batch_counted : (shift : A) → shift ≢ F.zero → (heights : List ℕ)
      (failing log_blowup h : ℕ) (ts : List (OpenedColumn A)) → h ≤ top → ts ≢ []
      → HasBatchRoom log_blowup (batch_error heights failing h (length ts))
      → AtMost (IsBad F (batch_rows F w shift h ts) (2 ^ (h - log_blowup)) (length ts - 1)
      (budget (tallest heights) failing h))
      ((length ts - 1) * (budget (tallest heights) failing h + 1))
  batch_counted shift nonzero heights failing log_blowup h ts t some room =
      let one : 0 < length ts = positive ts some in
      let more : length ts + 1 ≡ length ts - 1 + 2 = omega (arith, one) in
      few_batches F L top w W shift nonzero h (2 ^ (h - log_blowup)) (length ts - 1)
      (budget (tallest heights) failing h) ts t (omega (arith, one))
      (subst (λ n. n * budget (tallest heights) failing h + 2 ^ (h - log_blowup) ≤ 2 ^ h) more
      room.enough)
    where
      positive : (us : List (OpenedColumn A)) → us ≢ [] → 0 < length us
      positive [] n = absurd (n refl)
      positive (u ∷ us) n = omega arith
