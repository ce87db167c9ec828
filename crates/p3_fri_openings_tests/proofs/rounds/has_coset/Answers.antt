use Rattle.std.proofs.Common.{◌≡◌, ◌≤◌, ◌^◌, length, sym, subst, eqb-true, ◌∙◌}
use Rattle.p3_matrix.specs.Matrix.{rows}
use Rattle.p3_fri_openings.proofs.Log2.{log2_is}
use Rattle.p3_fri_openings_tests.proofs.rounds.has_coset.Goals as goal

pub returns-in-Some : goal.returns-in-Some
returns-in-Some c = λ t.
    let e : 2 ^ c.in-Some.coset.log_size ≡ length (rows c.args.matrix.now) =
    sym c.size.ensures ∙ eqb-true _ _ t ∙ c.height-in-Some.ensures in
    record {
      power = (c.in-Some.coset.log_size, sym e);
      within = subst (λ k. k ≤ 27) (log2_is _ _ e)
          c.in-Some.coset.within_two_adicity;
    }
