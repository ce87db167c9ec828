use Rattle.std.proofs.Common.{◌≡◌, ◌≤◌, ◌+◌, ◌-◌, ◌^◌, ℕ, arith, ap, sym, ◌∙◌}
use Rattle.algebra.specs.Polynomial.{val}
use Rattle.p3_dft.specs.Strided.{strided}
use Rattle.p3_fri_extensions.proofs.Halving.{powers_agree}
use Rattle.p3_fri_extensions.proofs.fitting.reduced.Goals as goal

pub loop-rows-preserved : goal.loop-rows-preserved
loop-rows-preserved g c =
    let F = g.F.Field.ops in
    let w = c.args.width in
    let r : ℕ = c.loop-rows.rows - 1 in
    let next : r + 1 ≡ c.loop-rows.rows = omega (arith, c.loop-rows-test.true) in
    let above : c.args.log_size ≤ r = omega (arith, c.loop-rows-test.true) in
    record {
      above = above;
      below = omega (arith, c.loop-rows.invariant.below);
      len = c.halved-reduced.ensures.len;
      values = λ j x l e.
          c.halved-reduced.ensures.values j x l
          (powers_agree F g.met.F.Field.laws.ring x c.args.shift c.args.log_size r above e
          ∙ sym c.exp_power_of_2.ensures)
          ∙ ap (λ (n : ℕ). val F (strided F w (2 ^ n) c.loop-rows.reduced.items j) x) next
          ∙ c.loop-rows.invariant.values j x l e;
    }

pub returns-clause-values : goal.returns-clause-values
returns-clause-values g c j x l e =
    let F = g.F.Field.ops in
    let done : c.args.log_size ≡ c.loop-rows.rows =
    omega (arith, c.loop-rows.invariant.above, c.loop-rows-test.false) in
    ap (λ (n : ℕ). val F (strided F c.args.width (2 ^ n) c.loop-rows.reduced.items j) x) done
    ∙ c.loop-rows.invariant.values j x l e
