use Rattle.std.proofs.Common.{◌≡◌, ◌≤◌, ◌+◌, ◌^◌, ◌<◌, ℕ, length, subst, sym, ap, ◌∙◌, arith}
use Rattle.std.proofs.Common.{inl, inr}
use Rattle.std.specs.Prelude.{slice_index_or}
use Rattle.std.proofs.lemmas.Nat.{one_shl}
use Rattle.std.proofs.lemmas.Result.{IfOk-weaker, IfErr-weaker}
use Rattle.stark_algebra.specs.Laws.{HasBasis}
use Rattle.p3_challenger_core.specs.Run.{Moves, moves}
use Rattle.p3_domain.proofs.Recombined.{is_basis}
use Rattle.p3_field_core.specs.Basis.{unit_vector}
use Rattle.p3_field_core.specs.declared.coset.TwoAdicMultiplicativeCoset.{
  TwoAdicMultiplicativeCoset,
}
use Rattle.p3_matrix.specs.Matrix.{rows}
use Rattle.p3_pcs.specs.Scheme.{still_kept}
use Rattle.p3_stark_pcs.specs.Scheme.{still_kept_stark}
use Rattle.p3_uni_stark_verifier.specs.Chunks.{hiding_bits}
use Rattle.p3_uni_stark_verifier.specs.Setting.{StarkFields}
use Rattle.p3_uni_stark_prover.specs.Finished.{FinishRefusal}
use Rattle.p3_uni_stark_prover.specs.Held.{HavePreprocessedRows}
use Rattle.p3_uni_stark_prover.specs.Refused.{PreparationRefusal, CommitRefusal}
use Rattle.p3_uni_stark_prover.proofs.Fitting.{same_power}
use Rattle.p3_uni_stark_prover.proofs.Kept.{rows_kept}
use Rattle.p3_uni_stark_prover.proofs.Refusals.{handed_on}
use Rattle.p3_uni_stark_prover.proofs.Whole.{openable, commitments_are, state_of, accepted_of}
use Rattle.p3_uni_stark_prover.proofs.prover.prove.Given.{Over}
use Rattle.std.proofs.lemmas.Result.{IfOk-from_err}
use Rattle.p3_uni_stark_prover.proofs.prover.prove.Goals as goal

abbrev fields_of : (g : Over) → StarkFields g.row.F.Denot g.row.EF.Denot
fields_of g = record {
  base = g.F.Field.ops;
  ext = g.EF.Field.ops;
  lift = g.EF.ExtensionField.lift;
  root = g.F.TwoAdicField.root;
  two_adicity = g.F.TwoAdicField.TWO_ADICITY;
  generator = g.F.Field.GENERATOR;
  dimension = g.EF.ExtensionField.DIMENSION;
  basis = λ e. g.EF.ExtensionField.of_coefficients
      (unit_vector g.F.Field.ops g.EF.ExtensionField.DIMENSION e);
  canonical = g.F.PrimeField64.canonical;
}

abbrev moves_of : (g : Over) → Moves g.row.C.Denot g.row.F.Denot g.row.EF.Denot g.row.Com.Denot
moves_of g = moves g.C.CanObserve-1.observed g.C.CanObserve-2.observed g.C.CanSample.sampled
    g.EF.ExtensionField.of_coefficients g.EF.ExtensionField.DIMENSION
    g.C.CanSampleBits.sampled_bits

abbrev Coset : Over → Type 0
Coset g = TwoAdicMultiplicativeCoset g.row.F.Denot g.row.F-Prepared.Denot g.F.TwoAdicField
    g.F.Field g.F.PartialEq g.F.Add g.F.Sub g.F.Mul g.F.Neg

abbrev shift_of : (g : Over) → Coset g → g.row.F.Denot
shift_of g x = x.shift

abbrev log_size_of : (g : Over) → Coset g → ℕ
log_size_of g x = x.log_size

-- the subgroup on which columns of `2^k` rows are committed to, by the name of one
abbrev IsNamed : (g : Over) → (k : ℕ) → Coset g → Type 0
IsNamed g k x = (x.shift ≡ g.F.Field.ONE)
    × (x.log_size ≡ k + hiding_bits g.P.UnivariateStarkPcs.ZK)

abbrev IsColumn : (g : Over) → (k : ℕ) → Coset g → Type 0
IsColumn g k x = (x.shift ≡ g.F.Field.ops.one)
    × (x.log_size ≡ k + hiding_bits g.P.UnivariateStarkPcs.ZK)

abbrev IsSubgroup : (g : Over) → ℕ → Coset g → Type 0
IsSubgroup g k x = (x.shift ≡ g.F.Field.ONE) × (x.log_size ≡ k)

has : (g : Over) → HasBasis g.EF.Field.ops g.EF.ExtensionField.lift g.EF.ExtensionField.DIMENSION
    (λ e. g.EF.ExtensionField.of_coefficients
    (unit_vector g.F.Field.ops g.EF.ExtensionField.DIMENSION e))
    (λ x e. slice_index_or (g.EF.ExtensionField.coefficients x) e g.F.Field.ops.zero)
has g = is_basis g.EF.Field.ops g.met.EF.Field.laws g.EF.ExtensionField.lift
    g.EF.ExtensionField.DIMENSION
    (λ e. g.EF.ExtensionField.of_coefficients
    (unit_vector g.F.Field.ops g.EF.ExtensionField.DIMENSION e))
    (λ x e. slice_index_or (g.EF.ExtensionField.coefficients x) e g.F.Field.ops.zero)
    g.met.EF.ExtensionField.basis_law

-- the height's logarithm
power_of : (k n m : ℕ) → 2 ^ k ≡ n → n ≡ m → m ≡ 2 ^ k
power_of k n m a b = sym (a ∙ b)

pub log2_strict_usize-log_height-requires : goal.log2_strict_usize-log_height-requires
log2_strict_usize-log_height-requires g c = record {
  power_of_two = (c.requires.room.log_height, c.height.ensures ∙ c.requires.room.height);
}

pub prepare-requires-clause-room : goal.prepare-requires-clause-room
prepare-requires-clause-room g c = λ log needs.
    subst (λ k. k + (log + hiding_bits g.P.UnivariateStarkPcs.ZK) ≤ g.F.TwoAdicField.TWO_ADICITY)
    (same_power c.requires.room.log_height c.log2_strict_usize-log_height.result
    (length (rows c.args.trace)) c.requires.room.height
    (power_of c.log2_strict_usize-log_height.result c.height.result (length (rows c.args.trace))
    c.log2_strict_usize-log_height.ensures.power c.height.ensures))
    (c.requires.room.quotient log needs)

pub returns-in_err-prepared-clause-kept : goal.returns-in_err-prepared-clause-kept
returns-in_err-prepared-clause-kept g c = still_kept (g.P.Pcs.rules c.args.scheme.now)

pub returns-in_err-prepared-clause-kept_for_stark : goal.returns-in_err-prepared-clause-kept_for_stark
returns-in_err-prepared-clause-kept_for_stark g c =
    still_kept_stark (g.P.UnivariateStarkPcs.stark_rules c.args.scheme.now)

pub returns-in_err-prepared-clause-refused : goal.returns-in_err-prepared-clause-refused
returns-in_err-prepared-clause-refused g c = λ k power.
    let same = same_power c.log2_strict_usize-log_height.result k (length (rows c.args.trace))
    (power_of c.log2_strict_usize-log_height.result c.height.result (length (rows c.args.trace))
    c.log2_strict_usize-log_height.ensures.power c.height.ensures) power in
    handed_on c.from_residual.result _
    (PreparationRefusal (fields_of g) c.args.statement.now c.log2_strict_usize-log_height.result) _
    c.from_residual.ensures.1 c.in_err-prepared.ensures.refused
    (λ e h. inl (subst (λ n. PreparationRefusal (fields_of g) c.args.statement.now n e) same h))

-- the height of what is prepared
height_of : (k n m j : ℕ) → 2 ^ k ≡ n → n ≡ m → j ≡ k → m ≡ 2 ^ j
height_of k n m j a b e = sym (a ∙ b) ∙ ap (λ x. 2 ^ x) (sym e)

pub commit_columns-requires-clause-height : goal.commit_columns-requires-clause-height
commit_columns-requires-clause-height g c =
    height_of c.log2_strict_usize-log_height.result c.height.result (length (rows c.args.trace))
    c.in_ok-prepared.prepared.log_height c.log2_strict_usize-log_height.ensures.power
    c.height.ensures c.in_ok-prepared.ensures.height

pub commit_columns-requires-clause-room : goal.commit_columns-requires-clause-room
commit_columns-requires-clause-room g c =
    subst (λ k. k + hiding_bits g.P.UnivariateStarkPcs.ZK
    + g.P.TwoAdicStarkPcs.log_blowup c.args.scheme.now ≤ g.F.TwoAdicField.TWO_ADICITY)
    (same_power c.requires.room.log_height c.in_ok-prepared.prepared.log_height
    (length (rows c.args.trace)) c.requires.room.height
    (height_of c.log2_strict_usize-log_height.result c.height.result (length (rows c.args.trace))
    c.in_ok-prepared.prepared.log_height c.log2_strict_usize-log_height.ensures.power
    c.height.ensures c.in_ok-prepared.ensures.height))
    c.requires.room.trace

pub commit_columns-requires-clause-preprocessed : goal.commit_columns-requires-clause-preprocessed
commit_columns-requires-clause-preprocessed g c =
    c.requires.preprocessed c.in_ok-prepared.prepared.log_height
    (height_of c.log2_strict_usize-log_height.result c.height.result (length (rows c.args.trace))
    c.in_ok-prepared.prepared.log_height c.log2_strict_usize-log_height.ensures.power
    c.height.ensures c.in_ok-prepared.ensures.height)

pub returns-in_err-commitments-clause-refused : goal.returns-in_err-commitments-clause-refused
returns-in_err-commitments-clause-refused g c = λ k power.
    let same = same_power c.in_ok-prepared.prepared.log_height k (length (rows c.args.trace))
    (height_of c.log2_strict_usize-log_height.result c.height.result (length (rows c.args.trace))
    c.in_ok-prepared.prepared.log_height c.log2_strict_usize-log_height.ensures.power
    c.height.ensures c.in_ok-prepared.ensures.height) power in
    handed_on c.from_residual-in_err-commitments.result _
    (CommitRefusal (fields_of g) (shift_of g) (log_size_of g) g.P.UnivariateStarkPcs.ZK
    (g.P.Pcs.rules c.args.scheme.now) (g.P.UnivariateStarkPcs.stark_rules c.args.scheme.now)
    g.P.UnivariateStarkPcs.EvaluationRefuses c.in_ok-prepared.prepared.log_height c.args.trace) _
    c.from_residual-in_err-commitments.ensures.1 c.in_err-commitments.ensures.refused
    (λ e h. inr (inl (subst (λ n. CommitRefusal (fields_of g) (shift_of g) (log_size_of g)
    g.P.UnivariateStarkPcs.ZK (g.P.Pcs.rules c.args.scheme.now)
    (g.P.UnivariateStarkPcs.stark_rules c.args.scheme.now)
    g.P.UnivariateStarkPcs.EvaluationRefuses n c.args.trace e) same h)))

pub finish-requires-clause-range : goal.finish-requires-clause-range
finish-requires-clause-range g c = c.commit_columns.ensures.kept.prover_range c.requires.range

pub finish-requires-clause-within_two_adicity : goal.finish-requires-clause-within_two_adicity
finish-requires-clause-within_two_adicity g c =
    let within = c.in_ok-prepared.ensures.prepared.1.within in omega (arith, within)

pub finish-requires-clause-committed : goal.finish-requires-clause-committed
finish-requires-clause-committed g c =
    let s = c.commit_columns.new.scheme in
    let made = c.in_ok-commitments.ensures.committed in
    let prepared = c.in_ok-prepared.ensures.prepared.1 in
    let within = prepared.within in
    let few = g.met.F.TwoAdicField.two_adicity_law in
    let small : c.in_ok-prepared.prepared.log_num_chunks < 64 = omega (arith, within, few) in (
      (g.P.Pcs.rules s).domain_size made.domain,
      openable (fields_of g) g.met.F.Field.laws g.met.EF.Field.laws
          g.met.EF.ExtensionField.lift_law g.met.F.TwoAdicField.roots_law
          g.met.F.TwoAdicField.two_adicity_law g.met.F.Field.generator_law
          g.EF.ExtensionField.coefficients (has g) (moves_of g) (shift_of g) (log_size_of g)
          g.P.UnivariateStarkPcs.ZK (g.P.Pcs.rules s) (g.P.UnivariateStarkPcs.stark_rules s)
          g.P.UnivariateStarkPcs.embed g.P.UnivariateStarkPcs.point
          g.P.UnivariateStarkPcs.recombined g.P.UnivariateStarkPcs.chunk_polynomials
          g.P.UnivariateStarkPcs.IsPeriodicValue (g.met.P.TwoAdicStarkPcs.polynomials_law s)
          (g.met.P.Pcs.rules_law s) (g.met.P.UnivariateStarkPcs.rows_law s)
          c.args.statement.now c.requires.statement c.in_ok-prepared.prepared
          c.in_ok-prepared.ensures.prepared.0 prepared c.args.trace
          (height_of c.log2_strict_usize-log_height.result c.height.result
          (length (rows c.args.trace)) c.in_ok-prepared.prepared.log_height
          c.log2_strict_usize-log_height.ensures.power c.height.ensures
          c.in_ok-prepared.ensures.height) c.requires.width c.args.preprocessed
          c.args.challenger.now c.commit_columns.new.challenger c.in_ok-commitments.commitments
          c.in_ok-commitments.committed made _
          (one_shl c.in_ok-prepared.prepared.log_num_chunks 64 small),
    )

pub finish-requires-clause-commitments : goal.finish-requires-clause-commitments
finish-requires-clause-commitments g c =
    let s = c.commit_columns.new.scheme in
    let made = c.in_ok-commitments.ensures.committed in
    commitments_are (fields_of g) g.met.F.Field.laws g.met.EF.Field.laws
    g.met.EF.ExtensionField.lift_law g.met.F.TwoAdicField.roots_law
    g.met.F.TwoAdicField.two_adicity_law g.met.F.Field.generator_law
    g.EF.ExtensionField.coefficients (has g) (moves_of g) (shift_of g) (log_size_of g)
    g.P.UnivariateStarkPcs.ZK (g.P.Pcs.rules s) (g.P.UnivariateStarkPcs.stark_rules s)
    g.P.UnivariateStarkPcs.embed g.P.UnivariateStarkPcs.point
    g.P.UnivariateStarkPcs.recombined g.P.UnivariateStarkPcs.chunk_polynomials
    g.P.UnivariateStarkPcs.IsPeriodicValue (g.met.P.TwoAdicStarkPcs.polynomials_law s)
    (g.met.P.Pcs.rules_law s) (g.met.P.UnivariateStarkPcs.rows_law s)
    c.args.statement.now c.requires.statement c.in_ok-prepared.prepared
    c.in_ok-prepared.ensures.prepared.0 c.in_ok-prepared.ensures.prepared.1 c.args.trace
    (height_of c.log2_strict_usize-log_height.result c.height.result
    (length (rows c.args.trace)) c.in_ok-prepared.prepared.log_height
    c.log2_strict_usize-log_height.ensures.power c.height.ensures
    c.in_ok-prepared.ensures.height) c.requires.width c.args.preprocessed
    c.args.challenger.now c.commit_columns.new.challenger c.in_ok-commitments.commitments
    c.in_ok-commitments.committed made

pub returns-clause-height : goal.returns-clause-height
returns-clause-height g c = IfOk-weaker c.finish.result _ _ (λ proof f.
    height_of c.log2_strict_usize-log_height.result c.height.result (length (rows c.args.trace))
    c.in_ok-prepared.prepared.log_height c.log2_strict_usize-log_height.ensures.power
    c.height.ensures c.in_ok-prepared.ensures.height
    ∙ ap (λ x. 2 ^ x) (sym f.log_height)) c.finish.ensures.finished

pub returns-clause-state : goal.returns-clause-state
returns-clause-state g c =
    let s = c.commit_columns.new.scheme in
    let made = c.in_ok-commitments.ensures.committed in
    let prepared = c.in_ok-prepared.ensures.prepared.1 in
    let within = prepared.within in
    let few = g.met.F.TwoAdicField.two_adicity_law in
    let small : c.in_ok-prepared.prepared.log_num_chunks < 64 = omega (arith, within, few) in
    IfOk-weaker c.finish.result _ _ (λ proof f.
    state_of (fields_of g) g.met.F.Field.laws g.met.EF.Field.laws
    g.met.EF.ExtensionField.lift_law g.met.F.TwoAdicField.roots_law
    g.met.F.TwoAdicField.two_adicity_law g.met.F.Field.generator_law
    g.EF.ExtensionField.coefficients (has g) (moves_of g) (shift_of g) (log_size_of g)
    g.P.UnivariateStarkPcs.ZK (g.P.Pcs.rules s) (g.P.UnivariateStarkPcs.stark_rules s)
    g.P.UnivariateStarkPcs.embed g.P.UnivariateStarkPcs.point
    g.P.UnivariateStarkPcs.recombined g.P.UnivariateStarkPcs.chunk_polynomials
    g.P.UnivariateStarkPcs.IsPeriodicValue (g.met.P.TwoAdicStarkPcs.polynomials_law s)
    (g.met.P.Pcs.rules_law s) (g.met.P.UnivariateStarkPcs.rows_law s)
    c.args.statement.now c.requires.statement c.in_ok-prepared.prepared
    c.in_ok-prepared.ensures.prepared.0 prepared c.args.trace
    (height_of c.log2_strict_usize-log_height.result c.height.result
    (length (rows c.args.trace)) c.in_ok-prepared.prepared.log_height
    c.log2_strict_usize-log_height.ensures.power c.height.ensures
    c.in_ok-prepared.ensures.height) c.requires.width c.args.preprocessed
    c.args.challenger.now c.commit_columns.new.challenger c.in_ok-commitments.commitments
    c.in_ok-commitments.committed made (IsSubgroup g)
    (made.shift_is ∙ sym g.met.F.Field.one_law, made.size) _
    (one_shl c.in_ok-prepared.prepared.log_num_chunks 64 small) c.finish.new.challenger proof f)
    c.finish.ensures.finished

pub returns-clause-complete : goal.returns-clause-complete
returns-clause-complete g c = λ k given power have satisfied.
    let s = c.commit_columns.new.scheme in
    let made = c.in_ok-commitments.ensures.committed in
    let prepared = c.in_ok-prepared.ensures.prepared.1 in
    let within = prepared.within in
    let few = g.met.F.TwoAdicField.two_adicity_law in
    let small : c.in_ok-prepared.prepared.log_num_chunks < 64 = omega (arith, within, few) in
    let high = height_of c.log2_strict_usize-log_height.result c.height.result
    (length (rows c.args.trace)) c.in_ok-prepared.prepared.log_height
    c.log2_strict_usize-log_height.ensures.power c.height.ensures
    c.in_ok-prepared.ensures.height in
    let same = same_power k c.in_ok-prepared.prepared.log_height (length (rows c.args.trace)) power
    high in
    let there = rows_kept (g.P.Pcs.rules c.args.scheme.now) (g.P.Pcs.rules s)
    c.commit_columns.ensures.kept (IsNamed g k) (IsColumn g c.in_ok-prepared.prepared.log_height)
    (λ x n. (
      n.0 ∙ g.met.F.Field.one_law,
      n.1 ∙ ap (λ m. m + hiding_bits g.P.UnivariateStarkPcs.ZK) same,
    )) given c.args.preprocessed have
    in
    IfOk-weaker c.finish.result _ _ (λ proof f.
    accepted_of (fields_of g) g.met.F.Field.laws g.met.EF.Field.laws
    g.met.EF.ExtensionField.lift_law g.met.F.TwoAdicField.roots_law
    g.met.F.TwoAdicField.two_adicity_law g.met.F.Field.generator_law
    g.EF.ExtensionField.coefficients (has g) (moves_of g) (shift_of g) (log_size_of g)
    g.P.UnivariateStarkPcs.ZK (g.P.Pcs.rules s) (g.P.UnivariateStarkPcs.stark_rules s)
    g.P.UnivariateStarkPcs.embed g.P.UnivariateStarkPcs.point
    g.P.UnivariateStarkPcs.recombined g.P.UnivariateStarkPcs.chunk_polynomials
    g.P.UnivariateStarkPcs.IsPeriodicValue (g.met.P.TwoAdicStarkPcs.polynomials_law s)
    (g.met.P.Pcs.rules_law s) (g.met.P.UnivariateStarkPcs.rows_law s)
    c.args.statement.now c.requires.statement c.in_ok-prepared.prepared
    c.in_ok-prepared.ensures.prepared.0 prepared c.args.trace high c.requires.width
    c.args.preprocessed c.args.challenger.now c.commit_columns.new.challenger
    c.in_ok-commitments.commitments c.in_ok-commitments.committed made (IsSubgroup g)
    (made.shift_is ∙ sym g.met.F.Field.one_law, made.size) _
    (one_shl c.in_ok-prepared.prepared.log_num_chunks 64 small) c.finish.new.challenger proof f
    given
    (subst (λ d. HavePreprocessedRows (g.P.Pcs.rules s)
    (IsColumn g c.in_ok-prepared.prepared.log_height) given d) (sym made.preprocessed_is) there)
    satisfied) c.finish.ensures.finished

pub returns-clause-refused : goal.returns-clause-refused
returns-clause-refused g c = λ k power.
    let high = height_of c.log2_strict_usize-log_height.result c.height.result
    (length (rows c.args.trace)) c.in_ok-prepared.prepared.log_height
    c.log2_strict_usize-log_height.ensures.power c.height.ensures
    c.in_ok-prepared.ensures.height in
    let same = same_power c.in_ok-prepared.prepared.log_height k (length (rows c.args.trace)) high
    power in
    IfErr-weaker c.finish.result _ _ (λ e h. inr (inr (record {
      prepared = c.in_ok-prepared.prepared;
      height = same;
      middle = c.commit_columns.new.challenger;
      commitments = c.in_ok-commitments.commitments;
      columns = c.in_ok-commitments.committed;
      committed = c.in_ok-commitments.ensures.committed;
      refusal = subst (λ n. FinishRefusal (fields_of g) (moves_of g)
          (g.P.Pcs.rules c.commit_columns.new.scheme) n c.in_ok-commitments.commitments
          c.commit_columns.new.challenger e) same h;
    }))) c.finish.ensures.refused

-- where nothing is answered nothing is said of the answer
pub returns-in_err-commitments-clause-height : goal.returns-in_err-commitments-clause-height
returns-in_err-commitments-clause-height g c =
    IfOk-from_err c.from_residual-in_err-commitments.result _ c.from_residual-in_err-commitments.ensures.0

pub returns-in_err-commitments-clause-state : goal.returns-in_err-commitments-clause-state
returns-in_err-commitments-clause-state g c =
    IfOk-from_err c.from_residual-in_err-commitments.result _ c.from_residual-in_err-commitments.ensures.0

pub returns-in_err-prepared-clause-height : goal.returns-in_err-prepared-clause-height
returns-in_err-prepared-clause-height g c =
    IfOk-from_err c.from_residual.result _ c.from_residual.ensures.0
