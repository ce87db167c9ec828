use Rattle.p3_fri_hiding_tests.proofs.turns.is_met.Goals as goal

pub get_evaluations_on_domain-requires : goal.get_evaluations_on_domain-requires
get_evaluations_on_domain-requires g c =
    let is = c.is_readable.ensures in
    let seen = c.if-not-is_readable.false in
    record {
      readable = (g.met.P.Tested.opens_law _ _ c.loop-index.invariant).shown _ _ _ (is.held seen)
          (is.below seen) (is.wider seen);
    }

pub get_evaluations_on_domain_no_random-requires :
    goal.get_evaluations_on_domain_no_random-requires
get_evaluations_on_domain_no_random-requires g c =
    let is = c.is_readable.ensures in
    let seen = c.if-not-is_readable.false in
    record {
      readable = (g.met.P.Tested.opens_law _ _ c.loop-index.invariant).whole _ _ _ (is.held seen)
          (is.below seen);
    }
