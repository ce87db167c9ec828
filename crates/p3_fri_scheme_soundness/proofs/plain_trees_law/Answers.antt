use Rattle.std.proofs.Common.{ℕ, List, map}
use Rattle.p3_challenger_core.specs.Run.{Moves, moves}
use Rattle.p3_pcs.specs.Claims.{claim}
use Rattle.p3_fri_relation.specs.Setting.{Fields}
use Rattle.p3_fri_relation.specs.Views.{parameters_of, proof_of}
use Rattle.p3_fri_openings.specs.SchemeClaims.{relation_claims}
use Rattle.p3_fri_scheme_soundness.specs.Shown.{tree_of}
use Rattle.p3_fri_scheme_soundness.proofs.Accepted.{opens_or_collides}
use Rattle.p3_fri_scheme_soundness.proofs.plain_trees_law.Given.{Over}
use Rattle.p3_fri_scheme_soundness.proofs.plain_trees_law.Goals as goal

abbrev fields_of : (g : Over) → Fields g.row.F.Denot g.row.EF.Denot
fields_of g = record {
  base = g.F.Field.ops;
  ext = g.EF.Field.ops;
  lift = g.EF.ExtensionField.lift;
  coefficients = g.EF.ExtensionField.coefficients;
  degree = g.EF.ExtensionField.DIMENSION;
  root = g.F.TwoAdicField.root;
  two_adicity = g.F.TwoAdicField.TWO_ADICITY;
  shift = g.F.Field.GENERATOR;
}

abbrev moves_of : (g : Over) → Moves g.row.C.Denot g.row.F.Denot g.row.EF.Denot (List ℕ)
moves_of g = moves g.C.CanObserve-1.observed g.C.CanObserve-2.observed g.C.CanSample.sampled
    g.EF.ExtensionField.of_coefficients g.EF.ExtensionField.DIMENSION
    g.C.CanSampleBits.sampled_bits

pub returns : goal.returns
returns g c index accepted =
    opens_or_collides (fields_of g) (moves_of g) (tree_of g.F.ElementBytes.bytes)
    (tree_of g.EF.ElementBytes.bytes) g.F.ElementBytes.LEN g.EF.ElementBytes.LEN
    (record {
      long = g.met.F.ElementBytes.bytes_length;
      injective = g.met.F.ElementBytes.bytes_injective;
    })
    (record {
      long = g.met.EF.ElementBytes.bytes_length;
      injective = g.met.EF.ElementBytes.bytes_injective;
    })
    (parameters_of c.args.scheme.now.fri)
    (relation_claims (λ d. d.log_size) (map claim c.args.claims.now))
    (proof_of c.args.proof.now) c.args.challenger.now
    accepted
