-- A test whose inputs are batches of quotients.
use Rattle.std.proofs.Common.{◌≡◌, ◌≢◌, ℕ, ◌+◌, ◌-◌, ◌*◌, ◌/◌, ◌^◌, ◌≤◌, List, [], ◌∷◌, length, All}
use Rattle.std.proofs.Common.{refl, sym, ap, ◌∙◌, subst, arith, Option, Some, None, Bool, true, if◌then◌else◌}
use Rattle.algebra.specs.Field.{FieldOps, IsField}
use Rattle.algebra.specs.TwoAdic.{AreRoots}
use Rattle.algebra.specs.Rounds.{Round}
use Rattle.fri_soundness.specs.Counting.{AllBut}
use Rattle.fri_soundness.specs.FoldTests.{Step, FoldsTo, Passes, AgreesWhere, InputsAgree, FewFail, budget, indices}
use Rattle.fri_soundness.specs.CommittedWords.{PassesTest, IsFair, steps_of, next_word, last_word}
use Rattle.fri_soundness.specs.Batches.{OpenedColumn, batch_word, IsOpenedWhere}
use Rattle.fri_soundness.specs.Openings.{batch_inputs, IsFairBatch, AreOpenedInSteps, AreOpened}
use Rattle.fri_soundness.proofs.SoundBatches.{opened}
use Rattle.fri_soundness.proofs.Answered.{fair_test_is_sound}

module _ {A : Type 0} (F : FieldOps A) (L : IsField F) (top : ℕ) (w : ℕ → A) (W : AreRoots F top w) (shift : A) (nonzero : shift ≢ F.zero) (has : ℕ → Bool)
    (columns : ℕ → List (OpenedColumn A)) (alpha : A) (log_blowup h failing : ℕ) (within : h ≤ top) (had : (g : ℕ) → columns g ≢ [] → has g ≡ true)
    (fair : (g : ℕ) → g ≤ h → columns g ≢ [] → IsFairBatch F w shift has columns alpha g (2 ^ (g - log_blowup)) (budget h failing g)) where
  abbrev inputs : ℕ → Option (List A)
  inputs = batch_inputs F w shift has columns alpha

  -- the columns of one log height
  opened_at : (g : ℕ) → g ≤ h → (Q : ℕ → Type 0) (e : ℕ) → budget h failing g ≡ e → AllBut Q e (indices g)
      → ((us : List A) → inputs g ≡ Some us → AgreesWhere F w g (2 ^ (g - log_blowup)) Q us)
      → All (IsOpenedWhere F w shift g (2 ^ (g - log_blowup) + 1) Q) (columns g)
  opened_at g b Q e is few agrees = by (columns g) refl
    where
      by : (ts : List (OpenedColumn A)) → columns g ≡ ts → All (IsOpenedWhere F w shift g (2 ^ (g - log_blowup) + 1) Q) (columns g)
      by [] same = subst (λ us. All (IsOpenedWhere F w shift g (2 ^ (g - log_blowup) + 1) Q) us) (sym same) (λ k d l. absurd (omega (arith, l)))
      by (t ∷ ts) same =
          let some : columns g ≢ [] = λ none. absurd (omega (arith, ap length (sym same ∙ none))) in
          let batch = fair g b some in
          let more : length (columns g) - 1 + 2 ≡ length (columns g) + 1 = omega (arith, ap length same) in
          opened F L top w W shift nonzero g (2 ^ (g - log_blowup)) (length (columns g) - 1) (budget h failing g) (columns g) (omega (arith, b, within))
          (omega (arith, ap length same)) (subst (λ n. n * budget h failing g + 2 ^ (g - log_blowup) ≤ 2 ^ g) (sym more) batch.enough) alpha Q batch.good
          (subst (λ n. AllBut Q n (indices g)) (sym is) few)
          (agrees (batch_word F w shift g alpha (columns g)) (ap (λ t. if t then Some (batch_word F w shift g alpha (columns g)) else None) (had g some)))

  opened_in_steps : (g : ℕ) (rounds : List (Round A)) (words : List (List A)) (last : List A) → g ≤ h
      → InputsAgree F w log_blowup (budget h failing) (steps_of inputs g rounds words last) → FewFail F w log_blowup (budget h failing) (steps_of inputs g rounds words last)
      → AreOpenedInSteps F w shift has columns alpha log_blowup (steps_of inputs g rounds words last)
  opened_in_steps g [] words last b agree few = tt
  opened_in_steps g (r ∷ rounds) [] last b agree few = tt
  opened_in_steps g (r ∷ rounds) (ys ∷ words) last b agree few =
      let height = g - r.log_arity in
      let steps = steps_of inputs height rounds words last in
      let s : Step A = record { round = r; height = height; word = ys; input = inputs height; next = next_word words last } in (
        opened_at height (omega (arith, b)) (λ row. FoldsTo F w s row × Passes F w steps row) (budget h failing height) refl few.0 agree.0,
        opened_in_steps height rounds words last (omega (arith, b)) agree.1 few.1,
      )

  pub openings_are_sound : (rounds : List (Round A)) (words : List (List A)) (c : List A) → IsFair F w inputs h rounds words c log_blowup failing
      → AllBut (PassesTest F w inputs h rounds words c) failing (indices h) → AreOpened F w shift has columns alpha log_blowup h rounds words c
  openings_are_sound rounds words c fair_test few =
      let holds = fair_test_is_sound F L top w W inputs h rounds words c log_blowup failing within fair_test few in
      record {
        greatest = opened_at h (omega arith) (PassesTest F w inputs h rounds words c) failing
            (ap (λ m. failing / 2 ^ m) (let z : h - h ≡ 0 = omega arith in z) ∙ (let e : failing / 1 ≡ failing = omega arith in e)) few holds.greatest;
        later = opened_in_steps h rounds words (last_word F w inputs h rounds words c) (omega arith) holds.later holds.few;
      }
