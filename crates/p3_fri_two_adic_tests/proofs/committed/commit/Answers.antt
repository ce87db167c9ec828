use Rattle.std.proofs.lemmas.List.Elements.{All-push}
use Rattle.std.proofs.Common.{All, sym, subst}
use Rattle.p3_fri_extensions.specs.Extension.{FitsDomain}
use Rattle.p3_fri_two_adic_tests.proofs.Known.{sizes_extended, one_more_domain}
use Rattle.p3_fri_two_adic_tests.proofs.committed.commit.Goals as goal

-- there is a domain as large as the subgroup
pub natural_domain_for_degree-domain-requires : goal.natural_domain_for_degree-domain-requires
natural_domain_for_degree-domain-requires g c = record {
  degree = subst (g.P.Pcs.rules c.args.scheme.now).HasDomain (sym c.size.ensures)
      ((g.met.P.Tested.room_law c.args.scheme.now c.requires).natural c.subgroup.result);
}

pub loop-numbers-preserved : goal.loop-numbers-preserved
loop-numbers-preserved g c = (
  subst (λ es. All (λ e. FitsDomain 27 1 e.0.log_size e.1) es)
      (sym (rw c.expect-in-loop-numbers.ensures at c.push-in-loop-numbers.ensures.items))
      (All-push (λ e. FitsDomain 27 1 e.0.log_size e.1) c.loop-numbers.evaluations.items _
      c.loop-numbers.invariant.0 c.column-matrix.ensures),
  one_more_domain c.loop-numbers.evaluations.items _ _ c.loop-numbers.domains.items _
      (rw c.expect-in-loop-numbers.ensures at c.push-in-loop-numbers.ensures.items)
      (rw c.expect.ensures at c.push.ensures.items) c.loop-numbers.invariant.1,
)

-- there is room for the columns
pub commit-requires : goal.commit-requires
commit-requires g c = record {
  room = (g.met.P.Tested.room_law c.args.scheme.now c.requires).commit _ c.loop-numbers.invariant.0;
}

pub returns-clause-sizes : goal.returns-clause-sizes
returns-clause-sizes g c =
    sizes_extended _ _ _ _ _ c.in-Ok.ensures.extends (g.met.P.Pcs.rules_law _).extends_size
    c.loop-numbers.invariant.1
