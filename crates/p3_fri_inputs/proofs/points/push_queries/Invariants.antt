use Rattle.std.proofs.Common.{All, get_or, length, take, ℕ, ◌++◌, ◌+◌, ◌<◌, ◌≡◌}
use Rattle.p3_fri_relation.specs.Setting.{Fields}
use Rattle.p3_fri_inputs.specs.Claims.{IsApart, distances}
use Rattle.p3_fri_relation.specs.Views.{claims_of}
use Rattle.std.specs.List.{flat_map}
use Rattle.p3_fri_relation.specs.Heights.{matrices_of}
use Rattle.p3_fri_relation.specs.QuotientSums.{point_read}
use Rattle.p3_fri_inputs.proofs.points.push_queries.Given as goal

abbrev pub invariant-loop-j : goal.invariant-loop-j
invariant-loop-j g l =
    let f : Fields g.row.F.Denot g.row.EF.Denot = (record {
      base = g.F.Field.ops;
      ext = g.EF.Field.ops;
      lift = g.EF.ExtensionField.lift;
      coefficients = g.EF.ExtensionField.coefficients;
      degree = g.EF.ExtensionField.DIMENSION;
      root = g.F.TwoAdicField.root;
      two_adicity = g.F.TwoAdicField.TWO_ADICITY;
      shift = g.F.Field.GENERATOR;
    }) in
    let x = λ (q : ℕ). point_read f l.log_global_max_height q in
    let ms = matrices_of (claims_of (λ domain. domain.log_size) l.claims) in record {
      long : length l.read ≡ l.log_global_max_height + 1;
      apart : (i : ℕ) → i < l.j → (d : ℕ) → All (IsApart l.log_blowup (x (get_or l.indices i d))) ms;
      pushed : l.differences.items ≡ l.fn.differences.items
          ++ flat_map (λ q. distances g.EF.Field.ops l.log_blowup (x q) ms) (take l.j l.indices);
    }
