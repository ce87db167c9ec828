use Rattle.std.proofs.Common.{◌≡◌, ◌≤◌, ◌*◌, ◌^◌, map, if◌then◌else◌, sym, subst, ap, arith}
use Rattle.p3_fri_hiding_tests.specs.FitLaws.{few}
use Rattle.p3_fri_hiding_tests.proofs.openings.stark.is_stark_served.Goals as goal

pub open_stark_columns-answer-requires-clause-preprocessed :
    goal.open_stark_columns-answer-requires-clause-preprocessed
open_stark_columns-answer-requires-clause-preprocessed g c =
    (g.met.P.Tested.commits_law _ _ c.of-scheme.ensures).columns _
    c.stark_columns-columns.ensures.preprocessed

pub open_stark_columns-answer-requires-clause-trace :
    goal.open_stark_columns-answer-requires-clause-trace
open_stark_columns-answer-requires-clause-trace g c =
    (g.met.P.Tested.commits_law _ _ c.of-scheme.ensures).columns _
    c.stark_columns-columns.ensures.trace

pub open_stark_columns-answer-requires-clause-quotient :
    goal.open_stark_columns-answer-requires-clause-quotient
open_stark_columns-answer-requires-clause-quotient g c =
    (g.met.P.Tested.commits_law _ _ c.of-scheme.ensures).chunks _
    c.stark_columns-columns.ensures.quotient

pub open_stark_columns-answer-requires-clause-quotient_domains :
    goal.open_stark_columns-answer-requires-clause-quotient_domains
open_stark_columns-answer-requires-clause-quotient_domains g c =
    let commits = g.met.P.Tested.commits_law _ _ c.of-scheme.ensures in
    let columns = c.stark_columns-columns.result in
    subst (λ size. map size columns.quotient_domains.items
    ≡ map (λ e. (if g.P.UnivariateStarkPcs.ZK then 2 else 1) * size e.0) columns.quotient.items)
    (sym commits.sizes)
    (subst (λ hides. map (λ d. 2 ^ d.log_size) columns.quotient_domains.items
    ≡ map (λ e. (if hides then 2 else 1) * 2 ^ e.0.log_size) columns.quotient.items)
    (sym commits.hides) c.stark_columns-columns.ensures.quotient_domains)

pub open_stark_columns-answer-requires-clause-random :
    goal.open_stark_columns-answer-requires-clause-random
open_stark_columns-answer-requires-clause-random g c = λ _.
    (g.met.P.Tested.commits_law _ _ c.of-scheme.ensures).random _
    (few (λ d. d.log_size) _ c.stark_columns-columns.ensures.trace)

-- a domain of 16 points isn't smaller than one of 8
pub build_periodic_lde_table-requires : goal.build_periodic_lde_table-requires
build_periodic_lde_table-requires g c =
    let trace = c.coset-rows.result in
    let domain = c.coset-points.result in
    let few : 2 ^ trace.log_size ≡ 8 = ap (λ k. 2 ^ k) c.coset-rows.ensures.size in
    let many : 2 ^ domain.log_size ≡ 16 = ap (λ k. 2 ^ k) c.coset-points.ensures.size in
    record {
      larger = subst (λ size. size trace ≤ size domain)
          (sym (g.met.P.Tested.commits_law _ _ c.of-scheme.ensures).sizes)
          (omega (arith, few, many));
    }
