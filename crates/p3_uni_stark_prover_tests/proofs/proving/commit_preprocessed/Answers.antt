use Rattle.std.proofs.Common.{◌≡◌, ◌≤◌, ◌+◌, ◌^◌, length, sym, subst, arith}
use Rattle.std.proofs.lemmas.Grind.{common_steps}
use Rattle.p3_uni_stark_verifier.specs.Chunks.{hiding_bits}
use Rattle.p3_uni_stark_prover.proofs.Fitting.{same_power}
use Rattle.p3_uni_stark_prover_tests.proofs.Columns.{fits_trace}
use Rattle.p3_uni_stark_prover_tests.proofs.proving.commit_preprocessed.Goals as goal

pub commit_columns-requires-clause-room : goal.commit_columns-requires-clause-room
commit_columns-requires-clause-room g c =
    let zk = g.P.UnivariateStarkPcs.ZK in
    let n = length c.args.instance.now.given.trace.items in
    let power : n ≡ 2 ^ c.log2_strict_usize-log_height.result = grind (arith, common_steps) in
    let room = fits_trace 27 1 zk c.args.instance.now.air n
    c.log2_strict_usize-log_height.result c.requires.room power in
    subst (λ b. c.log2_strict_usize-log_height.result + hiding_bits zk + b ≤ 27)
    (sym c.requires.log_blowup) room

pub returns-clause-held : goal.returns-clause-held
returns-clause-held g c = λ k is.
    let n = length c.args.instance.now.given.trace.items in
    let power : n ≡ 2 ^ c.log2_strict_usize-log_height.result = grind (arith, common_steps) in
    c.commit_columns.ensures.held k c.args.instance.now.air.layout.preprocessed_width
    (same_power c.log2_strict_usize-log_height.result k n power is)
    (rw c.expect-columns.ensures at c.matrix_of_rows.ensures.width)
