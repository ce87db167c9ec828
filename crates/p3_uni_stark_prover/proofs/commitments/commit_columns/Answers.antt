use Rattle.std.proofs.Common.{◌≡◌, ◌≤◌, ◌+◌, ℕ, List, [], ◌∷◌, length, subst, refl, ◌∙◌, arith}
use Rattle.p3_challenger_core.specs.Run.{Moves, moves}
use Rattle.p3_field_core.specs.Basis.{unit_vector}
use Rattle.p3_field_core.specs.declared.coset.TwoAdicMultiplicativeCoset.{
  TwoAdicMultiplicativeCoset,
}
use Rattle.p3_matrix.specs.declared.dense.RowMajorMatrix.{RowMajorMatrix}
use Rattle.p3_periodic.specs.Views.{rows_if_any}
use Rattle.p3_pcs.specs.Scheme.{kept_since}
use Rattle.std.specs.Prelude.{◌⊎◌}
use Rattle.p3_uni_stark_verifier.specs.Chunks.{hiding_bits}
use Rattle.p3_uni_stark_verifier.specs.Setting.{StarkFields}
use Rattle.p3_uni_stark_phases.specs.Refusals.{TraceRefusal, EvaluationRefusal, QuotientRefusal}
use Rattle.p3_uni_stark_phases.specs.Refusals.{RandomizationRefusal}
use Rattle.p3_uni_stark_pcs.specs.Rooms.{HasRoom}
use Rattle.p3_uni_stark_prover.specs.Finished.{first_drawn}
use Rattle.p3_uni_stark_prover.specs.Held.{HoldPreprocessed}
use Rattle.p3_uni_stark_prover.specs.Refused.{CommitRefusal}
use Rattle.p3_uni_stark_prover.proofs.Committing.{extendable, all_committed}
use Rattle.p3_uni_stark_prover.proofs.Kept.{preprocessed_kept, kept_stark_since}
use Rattle.p3_uni_stark_prover.proofs.Readings.{fit_readings}
use Rattle.p3_uni_stark_prover.proofs.Refusals.{handed_on, trace_refused, reading_refused}
use Rattle.p3_uni_stark_prover.proofs.Refusals.{chunks_refused, random_refused}
use Rattle.p3_uni_stark_prover.proofs.commitments.commit_columns.Given.{Over}
use Rattle.std.proofs.lemmas.Result.{IfOk-from_err}
use Rattle.p3_uni_stark_prover.proofs.commitments.commit_columns.Goals as goal

abbrev fields_of : (g : Over) → StarkFields g.row.F.Denot g.row.EF.Denot
fields_of g = record {
  base = g.F.Field.ops;
  ext = g.EF.Field.ops;
  lift = g.EF.ExtensionField.lift;
  root = g.F.TwoAdicField.root;
  two_adicity = g.F.TwoAdicField.TWO_ADICITY;
  generator = g.F.Field.GENERATOR;
  dimension = g.EF.ExtensionField.DIMENSION;
  basis = λ e. g.EF.ExtensionField.of_coefficients
      (unit_vector g.F.Field.ops g.EF.ExtensionField.DIMENSION e);
  canonical = g.F.PrimeField64.canonical;
}

abbrev moves_of : (g : Over) → Moves g.row.C.Denot g.row.F.Denot g.row.EF.Denot g.row.Com.Denot
moves_of g = moves g.C.CanObserve-1.observed g.C.CanObserve-2.observed g.C.CanSample.sampled
    g.EF.ExtensionField.of_coefficients g.EF.ExtensionField.DIMENSION
    g.C.CanSampleBits.sampled_bits

abbrev Coset : Over → Type 0
Coset g = TwoAdicMultiplicativeCoset g.row.F.Denot g.row.F-Prepared.Denot g.F.TwoAdicField
    g.F.Field g.F.PartialEq g.F.Add g.F.Sub g.F.Mul g.F.Neg

abbrev shift_of : (g : Over) → Coset g → g.row.F.Denot
shift_of g x = x.shift

abbrev log_size_of : (g : Over) → Coset g → ℕ
log_size_of g x = x.log_size

-- the subgroup on which columns of `2^k` rows are committed to, by the name of one
abbrev IsNamed : (g : Over) → (k : ℕ) → Coset g → Type 0
IsNamed g k x = (x.shift ≡ g.F.Field.ONE)
    × (x.log_size ≡ k + hiding_bits g.P.UnivariateStarkPcs.ZK)

abbrev IsColumn : (g : Over) → (k : ℕ) → Coset g → Type 0
IsColumn g k x = (x.shift ≡ g.F.Field.ops.one)
    × (x.log_size ≡ k + hiding_bits g.P.UnivariateStarkPcs.ZK)

-- the scheme has room
room_of : (g : Over) (s : g.row.P.Denot) (k n log : ℕ)
    → n ≡ log + hiding_bits g.P.UnivariateStarkPcs.ZK → k + n ≤ g.F.TwoAdicField.TWO_ADICITY
    → k + hiding_bits g.P.UnivariateStarkPcs.ZK + g.P.TwoAdicStarkPcs.log_blowup s
    ≤ g.F.TwoAdicField.TWO_ADICITY
    → HasRoom (fields_of g) (shift_of g) (log_size_of g) g.P.UnivariateStarkPcs.ZK
    (g.P.Pcs.rules s) (g.P.UnivariateStarkPcs.stark_rules s) k log
room_of g s k n log counted within room = g.met.P.TwoAdicStarkPcs.room_law s k log
    (subst (λ m. k + m ≤ g.F.TwoAdicField.TWO_ADICITY) counted within) room

pub returns-in_err-first-clause-kept : goal.returns-in_err-first-clause-kept
returns-in_err-first-clause-kept g c = g.met.P.Pcs.keeps_law c.args.scheme.now
    c.commit_trace.new.scheme c.commit_trace.ensures.kept

pub returns-in_err-first-clause-kept_for_stark : goal.returns-in_err-first-clause-kept_for_stark
returns-in_err-first-clause-kept_for_stark g c = g.met.P.UnivariateStarkPcs.keeps_stark_law
    c.args.scheme.now c.commit_trace.new.scheme c.commit_trace.ensures.kept

pub returns-in_err-alpha-clause-kept : goal.returns-in_err-alpha-clause-kept
returns-in_err-alpha-clause-kept g c = g.met.P.Pcs.keeps_law c.args.scheme.now
    c.commit_trace.new.scheme c.commit_trace.ensures.kept

pub returns-in_err-alpha-clause-kept_for_stark : goal.returns-in_err-alpha-clause-kept_for_stark
returns-in_err-alpha-clause-kept_for_stark g c = g.met.P.UnivariateStarkPcs.keeps_stark_law
    c.args.scheme.now c.commit_trace.new.scheme c.commit_trace.ensures.kept

pub returns-in_err-chunks-clause-kept : goal.returns-in_err-chunks-clause-kept
returns-in_err-chunks-clause-kept g c = g.met.P.Pcs.keeps_law c.args.scheme.now
    c.commit_trace.new.scheme c.commit_trace.ensures.kept

pub returns-in_err-chunks-clause-kept_for_stark : goal.returns-in_err-chunks-clause-kept_for_stark
returns-in_err-chunks-clause-kept_for_stark g c = g.met.P.UnivariateStarkPcs.keeps_stark_law
    c.args.scheme.now c.commit_trace.new.scheme c.commit_trace.ensures.kept

pub returns-in_err-second-clause-kept : goal.returns-in_err-second-clause-kept
returns-in_err-second-clause-kept g c =
    kept_since (g.P.Pcs.rules c.args.scheme.now) (g.P.Pcs.rules c.commit_trace.new.scheme)
    (g.P.Pcs.rules c.commit_chunks.new.scheme)
    (g.met.P.Pcs.keeps_law c.args.scheme.now c.commit_trace.new.scheme c.commit_trace.ensures.kept)
    (g.met.P.Pcs.keeps_law c.commit_trace.new.scheme c.commit_chunks.new.scheme
    c.commit_chunks.ensures.kept)

pub returns-in_err-second-clause-kept_for_stark : goal.returns-in_err-second-clause-kept_for_stark
returns-in_err-second-clause-kept_for_stark g c =
    let rules = g.P.UnivariateStarkPcs.stark_rules in
    let law = g.met.P.UnivariateStarkPcs.keeps_stark_law in
    kept_stark_since (rules c.args.scheme.now) (rules c.commit_trace.new.scheme)
    (rules c.commit_chunks.new.scheme)
    (law c.args.scheme.now c.commit_trace.new.scheme c.commit_trace.ensures.kept)
    (law c.commit_trace.new.scheme c.commit_chunks.new.scheme c.commit_chunks.ensures.kept)

pub returns-in_err-found-clause-kept : goal.returns-in_err-found-clause-kept
returns-in_err-found-clause-kept g c =
    let rules = g.P.Pcs.rules in
    let law = g.met.P.Pcs.keeps_law in
    kept_since (rules c.args.scheme.now) (rules c.commit_chunks.new.scheme)
    (rules c.commit_random.new.scheme)
    (kept_since (rules c.args.scheme.now) (rules c.commit_trace.new.scheme)
    (rules c.commit_chunks.new.scheme)
    (law c.args.scheme.now c.commit_trace.new.scheme c.commit_trace.ensures.kept)
    (law c.commit_trace.new.scheme c.commit_chunks.new.scheme c.commit_chunks.ensures.kept))
    (law c.commit_chunks.new.scheme c.commit_random.new.scheme c.commit_random.ensures.kept)

pub returns-in_err-found-clause-kept_for_stark : goal.returns-in_err-found-clause-kept_for_stark
returns-in_err-found-clause-kept_for_stark g c =
    let rules = g.P.UnivariateStarkPcs.stark_rules in
    let law = g.met.P.UnivariateStarkPcs.keeps_stark_law in
    kept_stark_since (rules c.args.scheme.now) (rules c.commit_chunks.new.scheme)
    (rules c.commit_random.new.scheme)
    (kept_stark_since (rules c.args.scheme.now) (rules c.commit_trace.new.scheme)
    (rules c.commit_chunks.new.scheme)
    (law c.args.scheme.now c.commit_trace.new.scheme c.commit_trace.ensures.kept)
    (law c.commit_trace.new.scheme c.commit_chunks.new.scheme c.commit_chunks.ensures.kept))
    (law c.commit_chunks.new.scheme c.commit_random.new.scheme c.commit_random.ensures.kept)

pub returns-clause-kept : goal.returns-clause-kept
returns-clause-kept g c =
    let rules = g.P.Pcs.rules in
    let law = g.met.P.Pcs.keeps_law in
    kept_since (rules c.args.scheme.now) (rules c.commit_chunks.new.scheme)
    (rules c.commit_random.new.scheme)
    (kept_since (rules c.args.scheme.now) (rules c.commit_trace.new.scheme)
    (rules c.commit_chunks.new.scheme)
    (law c.args.scheme.now c.commit_trace.new.scheme c.commit_trace.ensures.kept)
    (law c.commit_trace.new.scheme c.commit_chunks.new.scheme c.commit_chunks.ensures.kept))
    (law c.commit_chunks.new.scheme c.commit_random.new.scheme c.commit_random.ensures.kept)

pub returns-clause-kept_for_stark : goal.returns-clause-kept_for_stark
returns-clause-kept_for_stark g c =
    let rules = g.P.UnivariateStarkPcs.stark_rules in
    let law = g.met.P.UnivariateStarkPcs.keeps_stark_law in
    kept_stark_since (rules c.args.scheme.now) (rules c.commit_chunks.new.scheme)
    (rules c.commit_random.new.scheme)
    (kept_stark_since (rules c.args.scheme.now) (rules c.commit_trace.new.scheme)
    (rules c.commit_chunks.new.scheme)
    (law c.args.scheme.now c.commit_trace.new.scheme c.commit_trace.ensures.kept)
    (law c.commit_trace.new.scheme c.commit_chunks.new.scheme c.commit_chunks.ensures.kept))
    (law c.commit_chunks.new.scheme c.commit_random.new.scheme c.commit_random.ensures.kept)

-- preprocessed columns once the trace is committed to
held_then : (g : Over) (s t : g.row.P.Denot) → g.P.Pcs.Keeps s t → (k w : ℕ) (key : _) (d : _)
    → HoldPreprocessed (g.P.Pcs.rules s) (g.P.UnivariateStarkPcs.stark_rules s) (IsNamed g k) k w
    key d
    → HoldPreprocessed (g.P.Pcs.rules t) (g.P.UnivariateStarkPcs.stark_rules t) (IsColumn g k) k w
    key d
held_then g s t keeps k w key d h = preprocessed_kept (g.P.Pcs.rules s) (g.P.Pcs.rules t)
    (g.met.P.Pcs.keeps_law s t keeps) (g.P.UnivariateStarkPcs.stark_rules s)
    (g.P.UnivariateStarkPcs.stark_rules t)
    (g.met.P.UnivariateStarkPcs.keeps_stark_law s t keeps) (IsNamed g k) (IsColumn g k)
    (λ x n. (n.0 ∙ g.met.F.Field.one_law, n.1)) k w key d h

pub quotient_of-requires-clause-readings : goal.quotient_of-requires-clause-readings
quotient_of-requires-clause-readings g c =
    let s = c.commit_trace.new.scheme in
    let p = c.requires.prepared.1 in
    let k = c.args.prepared.now.log_height in
    let within = p.within in
    let counted = p.num_chunks in
    let low : k + hiding_bits g.P.UnivariateStarkPcs.ZK ≤ g.F.TwoAdicField.TWO_ADICITY =
    omega (arith, within, counted) in
    fit_readings (fields_of g) g.met.F.Field.laws g.met.EF.Field.laws
    g.met.EF.ExtensionField.lift_law g.met.F.TwoAdicField.roots_law (shift_of g) (log_size_of g)
    g.P.UnivariateStarkPcs.ZK (g.P.Pcs.rules s) (g.P.UnivariateStarkPcs.stark_rules s)
    g.P.UnivariateStarkPcs.embed g.P.UnivariateStarkPcs.point
    g.P.UnivariateStarkPcs.chunk_polynomials g.P.UnivariateStarkPcs.recombined
    g.P.UnivariateStarkPcs.IsPeriodicValue (g.met.P.TwoAdicStarkPcs.polynomials_law s)
    (g.met.P.Pcs.rules_law s) (g.met.P.UnivariateStarkPcs.rows_law s) k low
    (g.met.P.UnivariateStarkPcs.stark_law s) c.args.prepared.now.coset
    c.args.prepared.now.coset.log_size refl c.args.statement.now c.requires.statement
    c.column_domain-domain.result
    (c.column_domain-domain.ensures.shift, c.column_domain-domain.ensures.size)
    c.args.trace c.requires.height c.requires.width c.in_ok-first.first.commitment
    c.in_ok-first.first.prover_data c.in_ok-first.ensures.trace c.args.preprocessed
    (held_then g c.args.scheme.now s c.commit_trace.ensures.kept k
    c.args.statement.now.air.now.layout.preprocessed_width c.args.statement.now.preprocessed
    c.args.preprocessed c.requires.preprocessed)
    (rows_if_any c.args.prepared.now.periodic) p.some_row p.widths

pub quotient_of-requires-clause-size : goal.quotient_of-requires-clause-size
quotient_of-requires-clause-size g c = c.requires.prepared.1.size

pub quotient_of-requires-clause-shift : goal.quotient_of-requires-clause-shift
quotient_of-requires-clause-shift g c = c.requires.prepared.1.shift_is

pub quotient_of-requires-clause-off : goal.quotient_of-requires-clause-off
quotient_of-requires-clause-off g c = c.requires.prepared.1.off

pub quotient_of-requires-clause-room : goal.quotient_of-requires-clause-room
quotient_of-requires-clause-room g c chunks pairs =
    let s = c.args.scheme.now in
    let p = c.requires.prepared.1 in
    let k = c.args.prepared.now.log_height in
    let d = c.args.prepared.now.log_num_chunks in
    let kept = g.met.P.UnivariateStarkPcs.keeps_stark_law s c.commit_trace.new.scheme
    c.commit_trace.ensures.kept in
    kept.extendable chunks (length chunks) (extendable (fields_of g) (shift_of g) (log_size_of g)
    g.P.UnivariateStarkPcs.ZK (g.P.Pcs.rules s) (g.P.UnivariateStarkPcs.stark_rules s) k
    c.requires.prepared.0 d p.num_chunks (room_of g s k d c.requires.prepared.0 p.num_chunks
    p.within c.requires.room) chunks pairs)

pub returns-in_err-first-clause-refused : goal.returns-in_err-first-clause-refused
returns-in_err-first-clause-refused g c =
    let k = c.args.prepared.now.log_height in
    let domain = c.column_domain-domain.result in
    let is : IsColumn g k domain = (
      c.column_domain-domain.ensures.shift,
      c.column_domain-domain.ensures.size,
    ) in
    handed_on c.from_residual.result _
    (TraceRefusal ((g.P.Pcs.rules c.args.scheme.now).CommitRefuses ((domain, c.args.trace) ∷ [])))
    (CommitRefusal (fields_of g) (shift_of g) (log_size_of g) g.P.UnivariateStarkPcs.ZK
    (g.P.Pcs.rules c.args.scheme.now) (g.P.UnivariateStarkPcs.stark_rules c.args.scheme.now)
    g.P.UnivariateStarkPcs.EvaluationRefuses k c.args.trace)
    c.from_residual.ensures.1 c.in_err-first.ensures.refused
    (trace_refused (fields_of g) (shift_of g) (log_size_of g) g.P.UnivariateStarkPcs.ZK
    (g.P.Pcs.rules c.args.scheme.now) (g.P.UnivariateStarkPcs.stark_rules c.args.scheme.now)
    g.P.UnivariateStarkPcs.EvaluationRefuses k c.args.trace domain is)

pub returns-in_err-chunks-clause-refused : goal.returns-in_err-chunks-clause-refused
returns-in_err-chunks-clause-refused g c =
    let k = c.args.prepared.now.log_height in
    handed_on c.from_residual-in_err-chunks.result _
    (EvaluationRefusal g.P.UnivariateStarkPcs.EvaluationRefuses)
    (CommitRefusal (fields_of g) (shift_of g) (log_size_of g) g.P.UnivariateStarkPcs.ZK
    (g.P.Pcs.rules c.args.scheme.now) (g.P.UnivariateStarkPcs.stark_rules c.args.scheme.now)
    g.P.UnivariateStarkPcs.EvaluationRefuses k c.args.trace)
    c.from_residual-in_err-chunks.ensures.1 c.in_err-chunks.ensures.refused
    (reading_refused (fields_of g) (shift_of g) (log_size_of g) g.P.UnivariateStarkPcs.ZK
    (g.P.Pcs.rules c.args.scheme.now) (g.P.UnivariateStarkPcs.stark_rules c.args.scheme.now)
    g.P.UnivariateStarkPcs.EvaluationRefuses k c.args.trace)

pub returns-in_err-second-clause-refused : goal.returns-in_err-second-clause-refused
returns-in_err-second-clause-refused g c =
    let k = c.args.prepared.now.log_height in
    let t = g.P.UnivariateStarkPcs.stark_rules c.commit_trace.new.scheme in
    let chunks = c.in_ok-chunks.chunks.items in
    handed_on c.from_residual-in_err-second.result _
    (QuotientRefusal (λ f. t.QuotientsRefuse chunks f
    ⊎ ((ldes : List (RowMajorMatrix g.row.F.Denot)) × t.LdesRefuse ldes f)))
    (CommitRefusal (fields_of g) (shift_of g) (log_size_of g) g.P.UnivariateStarkPcs.ZK
    (g.P.Pcs.rules c.args.scheme.now) (g.P.UnivariateStarkPcs.stark_rules c.args.scheme.now)
    g.P.UnivariateStarkPcs.EvaluationRefuses k c.args.trace)
    c.from_residual-in_err-second.ensures.1 c.in_err-second.ensures.refused
    (chunks_refused (fields_of g) (shift_of g) (log_size_of g) g.P.UnivariateStarkPcs.ZK
    (g.P.Pcs.rules c.args.scheme.now) (g.P.UnivariateStarkPcs.stark_rules c.args.scheme.now)
    g.P.UnivariateStarkPcs.EvaluationRefuses k c.args.trace t
    (g.met.P.UnivariateStarkPcs.keeps_stark_law c.args.scheme.now c.commit_trace.new.scheme
    c.commit_trace.ensures.kept) c.args.prepared.now.log_num_chunks chunks
    c.in_ok-chunks.ensures.quotient.pairs)

pub returns-in_err-found-clause-refused : goal.returns-in_err-found-clause-refused
returns-in_err-found-clause-refused g c =
    let k = c.args.prepared.now.log_height in
    let domain = c.column_domain-domain.result in
    let rules = g.P.UnivariateStarkPcs.stark_rules in
    let law = g.met.P.UnivariateStarkPcs.keeps_stark_law in
    let is : IsColumn g k domain = (
      c.column_domain-domain.ensures.shift,
      c.column_domain-domain.ensures.size,
    ) in
    handed_on c.from_residual-in_err-found.result _
    (RandomizationRefusal ((rules c.commit_chunks.new.scheme).RandomizationRefuses (domain ∷ [])))
    (CommitRefusal (fields_of g) (shift_of g) (log_size_of g) g.P.UnivariateStarkPcs.ZK
    (g.P.Pcs.rules c.args.scheme.now) (rules c.args.scheme.now)
    g.P.UnivariateStarkPcs.EvaluationRefuses k c.args.trace)
    c.from_residual-in_err-found.ensures.1 c.in_err-found.ensures.refused
    (random_refused (fields_of g) (shift_of g) (log_size_of g) g.P.UnivariateStarkPcs.ZK
    (g.P.Pcs.rules c.args.scheme.now) (rules c.args.scheme.now)
    g.P.UnivariateStarkPcs.EvaluationRefuses k c.args.trace (rules c.commit_chunks.new.scheme)
    (kept_stark_since (rules c.args.scheme.now) (rules c.commit_trace.new.scheme)
    (rules c.commit_chunks.new.scheme)
    (law c.args.scheme.now c.commit_trace.new.scheme c.commit_trace.ensures.kept)
    (law c.commit_trace.new.scheme c.commit_chunks.new.scheme c.commit_chunks.ensures.kept))
    domain is)

pub returns-clause-committed : goal.returns-clause-committed
returns-clause-committed g c =
    let k = c.args.prepared.now.log_height in
    let s = c.args.scheme.now in
    let t = c.commit_trace.new.scheme in
    let u = c.commit_chunks.new.scheme in
    let v = c.commit_random.new.scheme in
    let rules = g.P.Pcs.rules in
    let stark = g.P.UnivariateStarkPcs.stark_rules in
    let chunks = c.in_ok-chunks.chunks.items in
    let second = g.met.P.UnivariateStarkPcs.keeps_stark_law t u c.commit_chunks.ensures.kept in
    let can = second.extendable chunks (length chunks) c.in_ok-chunks.ensures.extendable in
    all_committed (fields_of g) g.EF.ExtensionField.coefficients (moves_of g) (shift_of g)
    (log_size_of g) g.P.UnivariateStarkPcs.ZK g.P.UnivariateStarkPcs.embed
    g.P.UnivariateStarkPcs.point g.P.UnivariateStarkPcs.recombined
    g.P.UnivariateStarkPcs.chunk_polynomials c.args.statement.now c.args.prepared.now c.args.trace
    (rules t) (rules u) (rules v) (stark t) (stark u) (stark v)
    (g.met.P.Pcs.keeps_law t u c.commit_chunks.ensures.kept)
    (g.met.P.Pcs.keeps_law u v c.commit_random.ensures.kept) second
    (g.met.P.UnivariateStarkPcs.keeps_stark_law u v c.commit_random.ensures.kept)
    c.args.challenger.now c.begin.new.challenger c.in_ok-alpha.alpha
    c.in_ok-first.first.commitment
    (subst (λ b. first_drawn (fields_of g) (moves_of g) c.args.statement.now k b
    c.in_ok-first.first.commitment c.args.challenger.now
    ≡ record { value = c.in_ok-alpha.alpha; state = c.begin.new.challenger })
    c.ZK-hides.ensures c.in_ok-alpha.ensures.drawn)
    c.column_domain-domain.result
    (c.column_domain-domain.ensures.shift, c.column_domain-domain.ensures.size)
    c.in_ok-first.first.prover_data c.in_ok-first.ensures.trace c.args.preprocessed
    (held_then g s t c.commit_trace.ensures.kept k
    c.args.statement.now.air.now.layout.preprocessed_width c.args.statement.now.preprocessed
    c.args.preprocessed c.requires.preprocessed)
    chunks c.in_ok-chunks.ensures.quotient c.in_ok-second.second.commitment
    c.in_ok-second.second.prover_data c.in_ok-second.ensures.chunks
    (λ ldes e. (g.met.P.TwoAdicStarkPcs.polynomials_law u).widths chunks (length chunks) ldes can e)
    c.in_ok-found.found c.in_ok-found.ensures.random c.split-random_data.result.0
    c.split-random_data.result.1 c.split-random_data.ensures.commitment c.split-random_data.ensures.committed

-- of what is answered no refusal is said
pub returns-clause-refused : goal.returns-clause-refused
returns-clause-refused g c = tt

-- where nothing is answered nothing is said of the answer
pub returns-in_err-found-clause-committed : goal.returns-in_err-found-clause-committed
returns-in_err-found-clause-committed g c =
    IfOk-from_err c.from_residual-in_err-found.result _ c.from_residual-in_err-found.ensures.0
