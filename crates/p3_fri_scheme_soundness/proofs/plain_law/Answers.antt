use Rattle.std.proofs.Common.{map}
use Rattle.p3_challenger_core.specs.Run.{Moves, moves}
use Rattle.p3_pcs.specs.Claims.{claim}
use Rattle.p3_fri_relation.specs.Setting.{Fields}
use Rattle.p3_fri_relation.specs.Views.{parameters_of, proof_of}
use Rattle.p3_fri_openings.specs.SchemeClaims.{relation_claims}
use Rattle.p3_fri_soundness.specs.Laws.{AreTwoAdicFields}
use Rattle.p3_fri_scheme_soundness.proofs.Accepted.{sound_proof}
use Rattle.p3_fri_scheme_soundness.proofs.plain_law.Given.{Over}
use Rattle.p3_fri_scheme_soundness.proofs.plain_law.Goals as goal

abbrev fields_of : (g : Over) → Fields g.row.F.Denot g.row.EF.Denot
fields_of g = record {
  base = g.F.Field.ops;
  ext = g.EF.Field.ops;
  lift = g.EF.ExtensionField.lift;
  coefficients = g.EF.ExtensionField.coefficients;
  degree = g.EF.ExtensionField.DIMENSION;
  root = g.F.TwoAdicField.root;
  two_adicity = g.F.TwoAdicField.TWO_ADICITY;
  shift = g.F.Field.GENERATOR;
}

abbrev moves_of : (g : Over) → Moves g.row.C.Denot g.row.F.Denot g.row.EF.Denot
    g.row.M-Commitment.Denot
moves_of g = moves g.C.CanObserve-1.observed g.C.CanObserve-2.observed g.C.CanSample.sampled
    g.EF.ExtensionField.of_coefficients g.EF.ExtensionField.DIMENSION
    g.C.CanSampleBits.sampled_bits

two_adic_fields : (g : Over) → AreTwoAdicFields (fields_of g)
two_adic_fields g = record {
  base = g.met.F.Field.laws;
  ext = g.met.EF.Field.laws;
  lifts = g.met.EF.ExtensionField.lift_law;
  roots = g.met.F.TwoAdicField.roots_law;
  shift = g.met.F.Field.generator_law;
}

pub returns-clause-accepted : goal.returns-clause-accepted
returns-clause-accepted g c accepted =
    sound_proof (fields_of g) (moves_of g) (g.InputMmcs.Mmcs.opens c.args.scheme.now.mmcs)
    (g.M.Mmcs.opens c.args.scheme.now.fri.mmcs) (two_adic_fields g)
    g.C.CanSampleBits.MAX_SAMPLE_BITS c.requires.index_bits g.met.C.CanSampleBits.width_law
    (parameters_of c.args.scheme.now.fri)
    (relation_claims (λ d. d.log_size) (map claim c.args.claims.now))
    (proof_of c.args.proof.now) c.args.challenger.now
    accepted

pub returns-clause-preprocessed : goal.returns-clause-preprocessed
returns-clause-preprocessed g c index accepted =
    sound_proof (fields_of g) (moves_of g) (g.InputMmcs.Mmcs.opens c.args.scheme.now.mmcs)
    (g.M.Mmcs.opens c.args.scheme.now.fri.mmcs) (two_adic_fields g)
    g.C.CanSampleBits.MAX_SAMPLE_BITS c.requires.index_bits g.met.C.CanSampleBits.width_law
    (parameters_of c.args.scheme.now.fri)
    (relation_claims (λ d. d.log_size) (map claim c.args.claims.now))
    (proof_of c.args.proof.now) c.args.challenger.now
    accepted
