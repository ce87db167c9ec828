use Rattle.std.proofs.Common.{sym, subst}
use Rattle.p3_fri_hiding_tests.proofs.commitments.commit_to.Goals as goal

pub commit-requires : goal.commit-requires
commit-requires g c = record {
  room = (g.met.P.Tested.commits_law _ _ c.requires).columns _ c.evaluations-private.ensures;
}

pub commit_preprocessing-requires : goal.commit_preprocessing-requires
commit_preprocessing-requires g c = record {
  room = (g.met.P.Tested.commits_law _ _ c.requires).columns _ c.evaluations-public.ensures;
}

pub commit_ldes-requires : goal.commit_ldes-requires
commit_ldes-requires g c = record {
  room = (g.met.P.Tested.commits_law _ _ c.requires).words _ c.words-words.ensures;
}

pub get_quotient_ldes-requires : goal.get_quotient_ldes-requires
get_quotient_ldes-requires g c =
    let rules = g.P.UnivariateStarkPcs.stark_rules c.args.scheme.now in
    record {
      room = subst (λ es. rules.CanExtend es 2) (sym c.two-chunks.ensures)
          ((g.met.P.Tested.commits_law _ _ c.requires).chunks _ c.chunks-first.ensures);
    }

pub get_opt_randomization_poly_commitment-requires :
    goal.get_opt_randomization_poly_commitment-requires
get_opt_randomization_poly_commitment-requires g c = record {
  room = (g.met.P.Tested.commits_law _ _ c.requires).random _ c.cosets-domains.ensures;
}
