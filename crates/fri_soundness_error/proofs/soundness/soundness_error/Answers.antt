use Rattle.std.proofs.Common.{◌≤◌, sum, sym, subst, arith}
use Rattle.fri_soundness_error.proofs.Rooms.{rounds_within}
use Rattle.fri_soundness_error.proofs.soundness.soundness_error.Goals as goal

pub errors_of_rounds-requires-clause-sum : goal.errors_of_rounds-requires-clause-sum
errors_of_rounds-requires-clause-sum g c =
    let arities = c.in_ok-log_arities in
    subst (λ xs. sum xs ≤ c.tallest_of-top.result) (sym c.as_slice.ensures.value)
    (omega (
      arith,
      c.tallest_of-top.ensures,
      rounds_within c.args.heights.now _ _ arities.log_arities.items arities.ensures.value
          arities.ensures.leads_down,
    ))
