use Rattle.std.proofs.Common.{◌≡◌, ◌==◌, ◌+◌, ◌^◌, length, not, ap, arith}
use Rattle.std.proofs.lemmas.Grind.{common_steps}
use Rattle.std.specs.Option.{is_some}
use Rattle.p3_uni_stark_verifier.specs.Chunks.{hiding_bits}
use Rattle.p3_uni_stark_prover_tests.proofs.Statements.{provable, held}
use Rattle.p3_uni_stark_prover_tests.proofs.proving.prove_instance.Goals as goal

pub prove-requires-clause-statement : goal.prove-requires-clause-statement
prove-requires-clause-statement g c =
    let given = c.args.instance.now.given in
    let layout = c.args.instance.now.air.layout in
    let publics : length given.public_values.items ≡ layout.num_public_values
    = grind (arith, common_steps) in
    let periods : length given.periodic.items ≡ layout.num_periodic_columns
    = grind (arith, common_steps) in
    let some : is_some c.args.key ≡ not (layout.preprocessed_width == 0)
    = grind (arith, common_steps) in
    provable c.statement_of.result c.args.instance.now.air c.args.key c.statement_of.ensures.air
    c.statement_of.ensures.preprocessed given.public_values.items given.periodic.items
    c.statement_of.ensures.public_values c.statement_of.ensures.periodic c.requires.well_formed
    publics periods some

pub prove-requires-clause-preprocessed : goal.prove-requires-clause-preprocessed
prove-requires-clause-preprocessed g c = λ k power.
    let rows_are = ap length (rw c.expect-trace.ensures at c.matrix_of_rows.ensures.rows) in
    let height : length c.args.instance.now.given.trace.items ≡ 2 ^ k
    = grind (arith, common_steps, rows_are, power) in
    held c.statement_of.result c.args.instance.now.air c.args.key c.statement_of.ensures.air
    c.statement_of.ensures.preprocessed (g.P.Pcs.rules c.args.scheme.now)
    (g.P.UnivariateStarkPcs.stark_rules c.args.scheme.now)
    (λ d. (d.shift ≡ _) × (d.log_size ≡ k + hiding_bits g.P.UnivariateStarkPcs.ZK)) k
    c.args.preprocessed (c.requires.preprocessed k height)
