-- Refusals for a budget, and for want of memory.
use Rattle.std.proofs.Common.{◌≡◌, ◌≢◌, ℕ, List, Result, Ok, Err, map, refl, sym, subst}
use Rattle.std.specs.Prelude.{IsErr, IsErrAnd, IfErr}
use Rattle.p3_fri_folding.specs.declared.error.FriProverError.TheVariants as plain
use Rattle.p3_fri_masks.specs.declared.error.HidingFriProverError.{HidingFriProverError}
use Rattle.p3_fri_masks.specs.declared.error.HidingFriProverError.TheVariants.{
  Fri,
  InsufficientRandomCodewords,
  BudgetOverflow,
  HidingBudgetExceeded,
}
use Rattle.p3_fri_queries.proofs.QueryRefusals.{handed_on}
use Rattle.p3_fri_hiding_openings.specs.Budgets.{AllFit, SomeDoesNotFit, MaskRefusal}

module _ (r q d : ℕ) (heights : List ℕ) where
  named : (e : HidingFriProverError) → SomeDoesNotFit r q d heights e → MaskRefusal r q d heights e
  named (Fri (plain.InputHeightTooSmall h final)) some = some
  named (Fri plain.FinalHeightOverflow) some = some
  named (Fri plain.OutOfMemory) some = absurd some.4
  named (Fri (plain.NoPowWitness phase)) some = some
  named (Fri (plain.PointInEvaluationDomain round matrix point)) some = some
  named (InsufficientRandomCodewords required got) some = some
  named BudgetOverflow some = some
  named (HidingBudgetExceeded height queries points degree) some = some

  -- the refusal of a test is handed on
  pub budget_refused : {X : Type 0} (result : Result X HidingFriProverError) (e : HidingFriProverError)
      → IsErr result × IsErrAnd result (λ x. x ≡ e) → SomeDoesNotFit r q d heights e
      → IfErr result (MaskRefusal r q d heights)
  budget_refused result e on some = handed_on (MaskRefusal r q d heights) result e on (named e some)

  -- want of memory is answered where all fit
  pub memory_refused : {X : Type 0} (result : Result X HidingFriProverError)
      → IsErr result × IsErrAnd result (λ x. x ≡ Fri plain.OutOfMemory) → AllFit r q d heights
      → IfErr result (MaskRefusal r q d heights)
  memory_refused result on fit = handed_on (MaskRefusal r q d heights) result (Fri plain.OutOfMemory) on fit

  -- the same of a call that refuses by it alone
  pub memory_passed_on : {X : Type 0} (result : Result X HidingFriProverError)
      → IfErr result (λ e. e ≡ Fri plain.OutOfMemory) → AllFit r q d heights
      → IfErr result (MaskRefusal r q d heights)
  memory_passed_on (Ok v) is fit = tt
  memory_passed_on (Err e) is fit = subst (λ x. MaskRefusal r q d heights x) (sym is) fit

-- the want of memory of a call, handed on
pub memory_handed_on : {X : Type 0} (result : Result X HidingFriProverError)
    (e : HidingFriProverError) → IsErr result × IsErrAnd result (λ x. x ≡ e)
    → e ≡ Fri plain.OutOfMemory
    → IsErr result × IsErrAnd result (λ x. x ≡ Fri plain.OutOfMemory)
memory_handed_on result e on is =
    subst (λ f. IsErr result × IsErrAnd result (λ x. x ≡ f)) is on

-- what is said of other refusals than want of memory holds of that
pub memory_alone : {X : Type 0} (A : Type 0) (result : Result X HidingFriProverError)
    → IsErr result × IsErrAnd result (λ x. x ≡ Fri plain.OutOfMemory)
    → IfErr result (λ e. e ≢ Fri plain.OutOfMemory → A)
memory_alone A result on = handed_on (λ e. e ≢ Fri plain.OutOfMemory → A) result (Fri plain.OutOfMemory) on
    (λ other. absurd (other refl))

pub no_other_than_memory : {X : Type 0} (A : Type 0) (result : Result X HidingFriProverError)
    → IfErr result (λ e. e ≡ Fri plain.OutOfMemory)
    → IfErr result (λ e. e ≢ Fri plain.OutOfMemory → A)
no_other_than_memory A (Ok v) is = tt
no_other_than_memory A (Err e) is = λ other. absurd (other is)

-- what holds in any case holds where a test refuses
pub in_any_case : {X : Type 0} (A : Type 0) (result : Result X HidingFriProverError) → A
    → IfErr result (λ e. e ≢ Fri plain.OutOfMemory → A)
in_any_case A (Ok v) a = tt
in_any_case A (Err e) a = λ other. a

-- budgets of lists that are equal, for degrees that are
module _ {X : Type 0} (r q degree other : ℕ) (same : degree ≡ other) (xs ys : List X) (equal : xs ≡ ys)
    (height : X → ℕ) where
  pub fit_of : AllFit r q degree (map height xs) → AllFit r q other (map height ys)
  fit_of fit = subst (λ d. AllFit r q d (map height ys)) same
      (subst (λ zs. AllFit r q degree (map height zs)) equal fit)

  pub misfit_of : (e : HidingFriProverError) → SomeDoesNotFit r q degree (map height xs) e
      → SomeDoesNotFit r q other (map height ys) e
  misfit_of e some = subst (λ d. SomeDoesNotFit r q d (map height ys) e) same
      (subst (λ zs. SomeDoesNotFit r q degree (map height zs) e) equal some)
