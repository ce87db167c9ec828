use Rattle.p3_fri_relation.specs.Setting.{Fields}
use Rattle.std.proofs.Common.{IsTrue, get_or, length, take, ℕ, ◌<◌, ◌≡◌}
use Rattle.p3_fri_relation.specs.Views.{claims_of, inputs_opened}
use Rattle.p3_fri_inputs.specs.Claims.{distances}
use Rattle.std.specs.List.{flat_map}
use Rattle.p3_fri_relation.specs.Heights.{has_height, matrices_of}
use Rattle.algebra.specs.Nested.{lists}
use Rattle.p3_fri_relation.specs.QuotientSums.{point_read}
use Rattle.p3_fri_relation.specs.Inputs.{sum_at, sums_at}
use Rattle.algebra.specs.Polynomial.{tabulate}
use Rattle.p3_fri_inputs.proofs.inputs.openings_by_query.Given as goal

abbrev pub invariant-loop-j : goal.invariant-loop-j
invariant-loop-j g l =
    let f : Fields g.row.F.Denot g.row.EF.Denot = (record {
      base = g.F.Field.ops;
      ext = g.EF.Field.ops;
      lift = g.EF.ExtensionField.lift;
      coefficients = g.EF.ExtensionField.coefficients;
      degree = g.EF.ExtensionField.DIMENSION;
      root = g.F.TwoAdicField.root;
      two_adicity = g.F.TwoAdicField.TWO_ADICITY;
      shift = g.F.Field.GENERATOR;
    }) in
    let s = l.setting in
    let cs = claims_of (λ domain. domain.log_size) s.claims.now in
    let ms = matrices_of cs in
    let inputs = inputs_opened s.openings.now in record {
      start : l.start ≡ length (flat_map (λ q. distances g.EF.Field.ops s.log_blowup
          (point_read f s.log_global_max_height q) ms) (take l.j s.indices.now));
      answers : lists l.answers.items ≡ tabulate l.j (λ j. sums_at f s.log_blowup l.ladder.alpha
          s.log_global_max_height cs inputs j (get_or s.indices.now j 0));
      constants : (j : ℕ) → j < l.j → IsTrue (has_height s.log_blowup ms s.log_blowup)
          → sum_at f s.log_blowup l.ladder.alpha s.log_global_max_height cs inputs j
          (get_or s.indices.now j 0) s.log_blowup ≡ g.EF.Field.ops.zero;
    }
