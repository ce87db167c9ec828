use Rattle.std.proofs.Common.{◌<◌, length, ap, arith}
use Rattle.std.proofs.lemmas.Bool.{ltb-true}
use Rattle.p3_mmcs.specs.ProverData.{matrices_of}
use Rattle.p3_stark_pcs_tests.proofs.scheme.SchemeTested.can_read.Goals as goal

pub returns-clause-shown : goal.returns-clause-shown
returns-clause-shown c = λ t domain.
    let below : c.args.index < length (matrices_of c.args.held.now) =
    omega (arith, ltb-true _ _ t, ap length c.get_matrices.ensures) in
    record { below = below; coset = λ m. c.requires _ m below }

pub returns-clause-whole : goal.returns-clause-whole
returns-clause-whole c = λ t domain.
    let below : c.args.index < length (matrices_of c.args.held.now) =
    omega (arith, ltb-true _ _ t, ap length c.get_matrices.ensures) in
    record { below = below; coset = λ m. c.requires _ m below }
