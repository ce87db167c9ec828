-- Outcomes of calls: an answer is no refusal, and equal refusals have one reason.
use Rattle.std.proofs.Common.{◌≡◌, Result, Ok, Err, true, false}
use Rattle.p3_fri_transcript.specs.declared.transcript.play.Refusal.{Refusal}
use Rattle.p3_fri_transcript.specs.declared.transcript.play.Refusal.TheVariants.{Seed, Step}

-- what was tested isn't so
pub no_answer : {P : Type 0} → false ≡ true → P
no_answer is = cc

module _ {T E : Type 0} where
  pub no_refusal : {P : Type 0} {x : T} {e : E} → ◌≡◌ {A = Result T E} (Ok x) (Err e) → P
  no_refusal is = cc

  pub same_refusal : {e f : E} → ◌≡◌ {A = Result T E} (Err e) (Err f) → e ≡ f
  same_refusal is = cc

  -- a refused step isn't a refused seed
  pub no_seed : {P : Type 0} {e : E}
      → ◌≡◌ {A = Result T (Refusal E)} (Err (Step e)) (Err Seed) → P
  no_seed is = cc

  pub same_step : {e f : E} → ◌≡◌ {A = Result T (Refusal E)} (Err (Step e)) (Err (Step f)) → e ≡ f
  same_step is = cc
