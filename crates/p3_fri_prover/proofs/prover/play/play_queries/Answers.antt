use Rattle.std.proofs.Common.{◌≡◌, ◌^◌, ◌≤◌, ◌∙◌, List, Err, length, unwrap_or, sym, ap, subst}
use Rattle.std.proofs.Common.{arith}
use Rattle.algebra.proofs.FinalPolynomials.{length-final_polynomial}
use Rattle.algebra.proofs.Points.{lifted_roots}
use Rattle.p3_challenger_core.specs.Run.{Moves, moves}
use Rattle.p3_fri_pow.proofs.Found.{sent_is}
use Rattle.p3_fri_transcript.specs.Replay.{polynomial_observed}
use Rattle.p3_fri_transcript.specs.Shapes.{fri_shape}
use Rattle.p3_fri_transcript.specs.Views.{state_of}
use Rattle.p3_fri_relation.specs.Setting.{Fields}
use Rattle.p3_fri_prover.specs.Played.{AreQueriesPlayed}
use Rattle.p3_fri_prover.proofs.Plays.{queries_refused}
use Rattle.p3_fri_prover.proofs.prover.play.play_queries.Given.{Over}
use Rattle.p3_fri_prover.proofs.prover.play.play_queries.Goals as goal

abbrev fields_at : (g : Over) → Fields g.row.F.Denot g.row.EF.Denot
fields_at g = record {
  base = g.F.Field.ops;
  ext = g.EF.Field.ops;
  lift = g.EF.ExtensionField.lift;
  coefficients = g.EF.ExtensionField.coefficients;
  degree = g.EF.ExtensionField.DIMENSION;
  root = g.F.TwoAdicField.root;
  two_adicity = g.F.TwoAdicField.TWO_ADICITY;
  shift = g.F.Field.GENERATOR;
}

abbrev moves_at : (g : Over) → Moves g.row.C.Denot g.row.F.Denot g.row.EF.Denot g.row.F.Denot
moves_at g = moves g.C.CanObserve.observed g.C.CanObserve.observed g.C.CanSample.sampled
    g.EF.ExtensionField.of_coefficients g.EF.ExtensionField.DIMENSION
    g.C.CanSampleBits.sampled_bits

pub query_phase-requires-clause-described : goal.query_phase-requires-clause-described
query_phase-requires-clause-described g c =
    let fields = fields_at g in
    let long : 2 ^ c.args.params.now.log_final_poly_len ≤ length c.args.word.items =
    omega (arith, c.args.word.ok.0, c.requires.long_enough) in
    ap length (c.deref.ensures.value ∙ c.in_ok-final_poly.ensures)
    ∙ length-final_polynomial fields.ext g.met.EF.Field.laws fields.two_adicity
    (λ k. fields.lift (fields.root k))
    (lifted_roots fields.base fields.ext fields.lift g.met.F.Field.laws g.met.EF.Field.laws
    g.met.EF.ExtensionField.lift_law fields.two_adicity fields.root
    g.met.F.TwoAdicField.roots_law) c.args.params.now.log_final_poly_len c.args.word.items
    c.requires.within_two_adicity long ∙ sym c.requires.described

pub returns-in-Ok-clause-played : goal.returns-in-Ok-clause-played
returns-in-Ok-clause-played g c =
    let zero = g.F.Field.ops.zero in
    let numbers = fri_shape c.args.transcript.now.shape in
    let reached = state_of c.args.transcript.now in
    let shown = c.deref.result.now in
    let drawn = c.in-Ok.ensures in
    let P : List g.row.EF.Denot → g.row.F.Denot → Type 0 = λ poly w.
    AreQueriesPlayed (fields_at g) (moves_at g) c.args.params.now.log_final_poly_len numbers
    c.args.word.items reached g.C.GrindingChallenger.solution poly w c.in-Ok.indices.items
    (state_of c.query_phase.new.self) in
    let sent : c.unwrap_or.result ≡ unwrap_or c.in-Ok.witness zero = c.unwrap_or.ensures
    ∙ ap (λ z. unwrap_or c.in-Ok.witness z) (c.ZERO.ensures ∙ g.met.F.Field.zero_law) in
    subst (λ poly. P poly c.unwrap_or.result) c.deref.ensures.value
    (subst (P shown) (sym sent) (record {
      polynomial = c.deref.ensures.value ∙ c.in_ok-final_poly.ensures;
      queries = drawn.queries;
      drawn = drawn.indices;
      found = sent_is zero g.C.GrindingChallenger.solution
          (polynomial_observed g.C.CanObserve.observed g.EF.ExtensionField.coefficients reached
          shown) numbers.query_pow_bits c.in-Ok.witness drawn.witness drawn.found;
    }))

pub returns-in-Err-clause-refused : goal.returns-in-Err-clause-refused
returns-in-Err-clause-refused g c =
    queries_refused (fields_at g) (moves_at g) c.args.params.now.log_final_poly_len
    (fri_shape c.args.transcript.now.shape) c.args.word.items (state_of c.args.transcript.now)
    c.deref.result.now c.in-Err.refusal (c.deref.ensures.value ∙ c.in_ok-final_poly.ensures)
    c.in-Err.ensures.refused (λ is. c.in-Err.ensures.none_passes (ap Err is))
