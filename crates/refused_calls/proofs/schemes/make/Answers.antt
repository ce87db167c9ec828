use Rattle.std.proofs.Common.{sym, arith, ◌∙◌}
use Rattle.std.proofs.lemmas.Slice.Zip.{AllZip-long}
use Rattle.refused_calls.proofs.Columns.{first_has_columns}
use Rattle.refused_calls.proofs.schemes.make.Goals as goal

pub get_evaluations_on_domain-first-requires : goal.get_evaluations_on_domain-first-requires
get_evaluations_on_domain-first-requires g c =
    let s = c.commit-in_default.new.self in
    let held = c.in-Ok.committed.1 in
    let stark = g.met.P.UnivariateStarkPcs.stark_law s in
    record {
      readable = stark.evaluable held 0 _ (stark.openable_readable held c.in-Ok.ensures.openable)
          (first_has_columns (g.P.Pcs.rules s).Extends (g.met.P.Pcs.rules_law s).extends_columns
          ((g.P.Pcs.rules s).committed_polynomials held) c.in_ok-scheme.field-0.columns.items
          c.in-Ok.ensures.extends (omega (arith, c.in_ok-scheme.ensures.two)));
    }

pub open-requires-clause-prover : goal.open-requires-clause-prover
open-requires-clause-prover g c =
    (g.met.P.Pcs.keeps_law _ _ c.in-Ok.ensures.kept).prover_range c.in_ok-scheme.ensures.prover

pub open-requires-clause-verifier : goal.open-requires-clause-verifier
open-requires-clause-verifier g c =
    (g.met.P.Pcs.keeps_law _ _ c.in-Ok.ensures.kept).verifier_range c.in_ok-scheme.ensures.verifier

pub open-requires-clause-two : goal.open-requires-clause-two
open-requires-clause-two g c =
    sym (AllZip-long _ _ _ c.in-Ok.ensures.extends) ∙ c.in_ok-scheme.ensures.two
