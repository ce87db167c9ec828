-- A proof that is finished over what is committed to is accepted, where the trace satisfies its
-- constraints, and ends in the verifier's state.
use Rattle.std.proofs.Common.{if◌then◌else◌}
use Rattle.std.proofs.Common.{◌≡◌, ◌≢◌, ℕ, ◌+◌, ◌%◌, ◌^◌, ◌<◌, ◌≤◌, Bool}
use Rattle.std.proofs.Common.{List, length, map, get_or, All, refl, sym, ap, subst, ◌∙◌}
use Rattle.std.proofs.Common.{arith, Option, None, Some}
use Rattle.std.specs.Option.{is_some}
use Rattle.std.specs.List.{AllZip}
use Rattle.std.specs.declared.alloc.Global.{Global}
use Rattle.std.specs.declared.vec.Vec.{Vec}
use Rattle.std.proofs.lemmas.List.{length-map}
use Rattle.algebra.specs.Field.{IsField, IsHomomorphism}
use Rattle.algebra.specs.Nested.{lists}
use Rattle.algebra.specs.Quotients.{values_at}
use Rattle.algebra.specs.TwoAdic.{AreRoots}
use Rattle.algebra.proofs.Lists.{Each, each_from_All, All_from_each}
use Rattle.p3_field_core.specs.Coset.{coset_point}
use Rattle.stark_algebra.specs.Laws.{HasBasis}
use Rattle.p3_challenger_core.specs.Run.{Moves, After}
use Rattle.p3_matrix.specs.declared.dense.RowMajorMatrix.{RowMajorMatrix}
use Rattle.p3_matrix.specs.Matrix.{rows, matrix_width}
use Rattle.p3_air.specs.Nodes.{Entries}
use Rattle.p3_air.specs.Satisfied.{IsSatisfied, row_at}
use Rattle.p3_air_laws.specs.Columns.{Columns, entries_over}
use Rattle.p3_periodic.specs.Columns.{HasPeriod}
use Rattle.p3_periodic.specs.Values.{IsColumnValue}
use Rattle.p3_periodic.specs.Views.{rows_if_any}
use Rattle.p3_pcs.specs.Requests.{Held}
use Rattle.p3_pcs.specs.Scheme.{Scheme, IsLawful}
use Rattle.p3_stark_pcs.specs.Evaluations.{HaveRows, HasShape, held_at}
use Rattle.p3_stark_pcs.specs.Scheme.{StarkScheme}
use Rattle.p3_uni_stark_transcript.specs.Replay.{zeta_drawn}
use Rattle.p3_uni_stark_identity.specs.Chunks.{chunk_shifts, quotient_at}
use Rattle.p3_uni_stark_identity.specs.Identity.{IsQuotientOf}
use Rattle.p3_uni_stark_completeness.proofs.Columns.{functions_values}
use Rattle.p3_uni_stark_verifier.specs.declared.proof.Commitments.{Commitments}
use Rattle.p3_uni_stark_verifier.specs.declared.proof.OpenedValues.{OpenedValues}
use Rattle.p3_uni_stark_verifier.specs.declared.proof.PreprocessedVerifierKey.{
  PreprocessedVerifierKey,
}
use Rattle.p3_uni_stark_verifier.specs.declared.proof.Proof.{Proof}
use Rattle.p3_uni_stark_verifier.specs.declared.proof.Statement.{Statement}
use Rattle.p3_uni_stark_verifier.specs.Chunks.{hiding_bits}
use Rattle.p3_uni_stark_verifier.specs.Inputs.{IsReady, HasColumnWidths}
use Rattle.p3_uni_stark_verifier.specs.Opened.{ArePeriodic, Agrees}
use Rattle.p3_uni_stark_verifier.specs.Relation.{drawn, StarkAccepts, IsLastState}
use Rattle.p3_uni_stark_verifier.specs.Setting.{StarkFields, StarkSetting, stark_setting}
use Rattle.p3_uni_stark_verifier.specs.Shown.{HasHeight, key_commitment}
use Rattle.p3_uni_stark_phases.specs.declared.commits.Committed.{Committed}
use Rattle.p3_uni_stark_phases.specs.Commits.{IsRandom}
use Rattle.p3_uni_stark_phases.specs.Split.{commitment_in, data_in}
use Rattle.p3_uni_stark_phases.proofs.Tables.{zip_length}
use Rattle.p3_uni_stark_opening.specs.declared.opening.ColumnData.{ColumnData}
use Rattle.p3_uni_stark_opening.specs.Opened.{if_some, commitments_to, AreOpenable, AreOpened}
use Rattle.p3_uni_stark_opening.specs.Opened.{values_of, values_if}
use Rattle.p3_uni_stark_pcs.specs.Laws.{StarkPcsLaws, HoldsRowsOn}
use Rattle.p3_uni_stark_prover.specs.declared.preparation.Preparation.{Preparation}
use Rattle.p3_uni_stark_prover.specs.Committed.{AreCommitted}
use Rattle.p3_uni_stark_prover.specs.Finished.{first_drawn, IsFinished}
use Rattle.p3_uni_stark_prover.specs.Held.{assigned_to, HoldPreprocessed, HavePreprocessedRows}
use Rattle.p3_uni_stark_prover.specs.Prepared.{IsPrepared}
use Rattle.p3_uni_stark_prover.specs.Provable.{IsProvable}
use Rattle.p3_uni_stark_prover.specs.Quotients.{IsQuotientOn}
use Rattle.p3_uni_stark_prover.proofs.Accepted.{accepted_is, state_is}
use Rattle.p3_uni_stark_prover.proofs.Agreed.{AreKnown, columns as agreed_columns, within}
use Rattle.p3_uni_stark_prover.proofs.Agreed.{identity_with, entries_with}
use Rattle.p3_uni_stark_prover.proofs.Chunks.{counted, sized, columns_each, values_each}
use Rattle.p3_uni_stark_prover.proofs.Chunks.{are_chunk_columns}
use Rattle.p3_uni_stark_prover.proofs.Columns.{only_one}
use Rattle.p3_uni_stark_prover.proofs.Openable.{data_openable, known_commitment, random_commitment}
use Rattle.p3_uni_stark_prover.proofs.Openable.{zip_first, key_height, random_is, random_many}
use Rattle.p3_uni_stark_prover.proofs.Entries.{each_weaker, each_mapped, same_commitments}
use Rattle.p3_uni_stark_prover.proofs.Known.{known_one, known_if}
use Rattle.p3_uni_stark_prover.proofs.Readings.{values_in, preprocessed_values, size_is}
use Rattle.p3_uni_stark_prover.proofs.Recombined.{same_quotient}

module _ {V E C Com Dom D Opening Error ProverError : Type 0} (fields : StarkFields V E)
    (L : IsField fields.base) (M : IsField fields.ext)
    (H : IsHomomorphism fields.base fields.ext fields.lift)
    (W : AreRoots fields.base fields.two_adicity fields.root) (few : fields.two_adicity < 64)
    (nonzero : fields.generator ≢ fields.base.zero) (coefficients : E → List V)
    (has : HasBasis fields.ext fields.lift fields.dimension fields.basis
    (λ x e. get_or (coefficients x) e fields.base.zero)) (m : Moves C V E Com) (shift : Dom → V)
    (log_size : Dom → ℕ) (zk : Bool) (r : Scheme E C V Dom Com D Opening Error ProverError)
    (t : StarkScheme E V Dom D ProverError) (embed : V → E) (point : Dom → ℕ → V)
    (recombined : List Dom → List (List E) → E → List E)
    (chunk_polynomials : Dom × RowMajorMatrix V → Held E)
    (IsPeriodicValue : Dom → V → Vec V Global → V → Type 0)
    (laws : StarkPcsLaws fields shift log_size zk r t embed point chunk_polynomials recombined
    IsPeriodicValue) (lawful : IsLawful r)
    (rows_law : (m : Held E) (e : Dom × RowMajorMatrix V) → r.Extends m e
    → HaveRows embed (point e.0) (if zk then 2 else 1) e.1 m) (s : Statement V Com)
    (provable : IsProvable s) (p : Preparation V Dom) (log : ℕ)
    (prepared : IsPrepared fields shift log_size zk s log p) (trace : RowMajorMatrix V)
    (height : length (rows trace) ≡ 2 ^ p.log_height)
    (width : matrix_width trace ≡ s.air.now.layout.width) (pre : Option D) (c middle : C)
    (commitments : Commitments Com) (columns : ColumnData D)
    (made : AreCommitted fields coefficients m shift log_size zk r t embed point recombined
    chunk_polynomials s p trace pre c middle commitments columns) where
  abbrev k : ℕ
  k = p.log_height

  abbrev d : ℕ
  d = log + hiding_bits zk

  abbrev w : ℕ
  w = s.air.now.layout.preprocessed_width

  room : k + d ≤ fields.two_adicity
  room = subst (λ n. k + n ≤ fields.two_adicity) prepared.num_chunks prepared.within

  low : k + hiding_bits zk ≤ fields.two_adicity
  low = omega (arith, room)

  coset_size : log_size p.coset ≡ k + d
  coset_size = prepared.size ∙ ap (λ n. k + n) prepared.num_chunks

  quotient : IsQuotientOn fields coefficients shift log_size r embed point p.coset s
      (rows_if_any p.periodic) columns.trace columns.preprocessed k d made.alpha made.chunks
  quotient = subst (λ n. IsQuotientOn fields coefficients shift log_size r embed point p.coset s
      (rows_if_any p.periodic) columns.trace columns.preprocessed k n made.alpha made.chunks)
      prepared.num_chunks made.quotient

  many : length made.chunks ≡ 2 ^ d
  many = counted fields shift log_size k d made.chunks quotient.pairs

  abbrev polynomials : List (Held E)
  polynomials = r.committed_polynomials columns.quotient

  abbrev IsColumnDomain : Dom → Type 0
  IsColumnDomain x = (shift x ≡ fields.base.one) × (log_size x ≡ k + hiding_bits zk)

  is_domain : IsColumnDomain made.domain
  is_domain = (made.shift_is, made.size)

  sizes_are : (x : Dom) → IsColumnDomain x → r.domain_size x ≡ 2 ^ (k + hiding_bits zk)
  sizes_are x is = size_is fields L M H W shift log_size zk r t embed point chunk_polynomials
      recombined IsPeriodicValue laws lawful rows_law k low x is

  whole_size : r.domain_size made.domain ≡ 2 ^ (k + hiding_bits zk)
  whole_size = sizes_are made.domain is_domain

  chunk_sizes : Each (λ (e : Dom × RowMajorMatrix V). r.domain_size e.0 ≡ 2 ^ k) made.chunks
  chunk_sizes = each_weaker (λ (e : Dom × RowMajorMatrix V). log_size e.0 ≡ k)
      (λ (e : Dom × RowMajorMatrix V). r.domain_size e.0 ≡ 2 ^ k)
      (λ e f. laws.sizes e.0 ∙ ap (λ n. 2 ^ n) f) made.chunks
      (each_from_All (λ (e : Dom × RowMajorMatrix V). log_size e.0 ≡ k) made.chunks
      quotient.pairs.sizes)

  -- the data may be opened
  pub openable : (count : ℕ) → count ≡ 2 ^ p.log_num_chunks
      → AreOpenable r t count (r.domain_size made.domain) columns
  openable count is = data_openable r t lawful made.domain (r.domain_size made.domain) refl
      IsColumnDomain (λ x is. sizes_are x is ∙ sym whole_size) zk k count w whole_size s.preprocessed columns.preprocessed trace commitments.trace columns.trace
      recombined chunk_polynomials made.chunks commitments.quotient_chunks columns.quotient
      made.random.found columns.random made.preprocessed_held made.trace_held made.chunked
      chunk_sizes (many ∙ ap (λ n. 2 ^ n) (sym prepared.num_chunks) ∙ sym is) made.random.random
      made.random.data_is

  -- and the commitments are those to them
  pub commitments_are : commitments ≡ commitments_to r columns
  commitments_are = same_commitments commitments (commitments_to r columns)
      (sym made.trace_held.committed.commitment) (sym made.chunked.committed.commitment)
      (made.random.commitment_is
      ∙ sym (random_commitment r t lawful made.domain (r.domain_size made.domain) refl zk
      made.random.found made.random.random)
      ∙ ap (λ (o : Option D). if_some r.commitment_of o) (sym made.random.data_is))

  known : if_some r.commitment_of columns.preprocessed ≡ key_commitment s.preprocessed
  known = known_commitment r t lawful made.domain (r.domain_size made.domain) refl
      IsColumnDomain k w
      s.preprocessed columns.preprocessed made.preprocessed_held

  random_there : is_some commitments.random ≡ zk
  random_there = ap is_some made.random.commitment_is
      ∙ random_is r t lawful made.domain (r.domain_size made.domain) refl zk made.random.found
      made.random.random

  module _ (z y : E) (opened : OpenedValues E) (are : AreOpened r columns z y opened) where
    trace_many : (x : E) → length (values_of r x columns.trace) ≡ s.air.now.layout.width
    trace_many x = values_in fields L M H W shift log_size zk r t embed point chunk_polynomials
        recombined IsPeriodicValue laws lawful rows_law k low made.domain is_domain
        trace height columns.trace made.trace_held.committed.honest made.trace_held.extends x
        ∙ width

    preprocessed_many : (x : E) → length (values_if r x columns.preprocessed) ≡ w
    preprocessed_many x = preprocessed_values fields L M H W shift log_size zk r t embed point
        chunk_polynomials recombined IsPeriodicValue laws lawful rows_law k low w s.preprocessed columns.preprocessed provable.preprocessed
        made.preprocessed_held x

    widths_are : HasColumnWidths s.air.now.layout opened
    widths_are = record {
      trace_local = ap length are.trace_local ∙ trace_many z;
      trace_next = ap length are.trace_next ∙ trace_many y;
      preprocessed_local = ap length are.preprocessed_local ∙ preprocessed_many z;
      preprocessed_next = ap length are.preprocessed_next ∙ preprocessed_many y;
    }

    chunk_dimensions : Each (λ (m : Held E). length (m.values_at z) ≡ fields.dimension) polynomials
    chunk_dimensions = zip_first
        (λ (m : Held E) (e : Dom × RowMajorMatrix V). (x : E)
        → length (m.values_at x) ≡ matrix_width e.1)
        (λ (m : Held E). length (m.values_at z) ≡ fields.dimension)
        (λ (e : Dom × RowMajorMatrix V). matrix_width e.1 ≡ fields.dimension)
        (λ m e f h. h z ∙ f) polynomials made.chunks
        (each_from_All (λ (e : Dom × RowMajorMatrix V). matrix_width e.1 ≡ fields.dimension)
        made.chunks quotient.pairs.widths)
        made.chunked.widths

    ready : (proof : Opening) → IsReady fields.two_adicity fields.dimension zk s (record {
      commitments = commitments;
      opened_values = opened;
      opening_proof = proof;
      log_height = k;
    }) log
    ready proof = record {
      well_formed = provable.well_formed;
      public_count = provable.public_count;
      periodic_count = provable.periodic_count;
      preprocessed = provable.preprocessed;
      chunks = prepared.needs;
      shape = record {
        room = room;
        preprocessed_height = key_height r t lawful made.domain (r.domain_size made.domain) refl
            IsColumnDomain k w s.preprocessed columns.preprocessed made.preprocessed_held;
        columns = widths_are;
        chunk_count = sym (length-map opened.quotient_chunks.items (λ v. v.items))
            ∙ ap length are.chunks ∙ length-map polynomials (λ (m : Held E). m.values_at z)
            ∙ zip_length (λ (m : Held E) (e : Dom × RowMajorMatrix V). (x : E)
            → length (m.values_at x) ≡ matrix_width e.1) polynomials made.chunks
            made.chunked.widths
            ∙ many;
        chunk_widths = subst (λ vs. All (λ values. length values ≡ fields.dimension) vs)
            (sym are.chunks)
            (All_from_each (λ values. length values ≡ fields.dimension)
            (map (λ (m : Held E). m.values_at z) polynomials)
            (each_mapped (λ (m : Held E). m.values_at z)
            (λ values. length values ≡ fields.dimension) polynomials chunk_dimensions));
        random = ap length are.random
            ∙ ap (λ (o : Option D). length (values_if r z o)) made.random.data_is
            ∙ random_many r t lawful made.domain (r.domain_size made.domain) refl zk
            fields.dimension laws.random made.random.found made.random.random z;
      };
      randomized = random_there;
    }

  abbrev on_coset : ℕ → V
  on_coset i = coset_point fields.base (fields.root (k + d)) fields.generator i

  coset_many : r.domain_size p.coset ≡ 2 ^ (k + d)
  coset_many = laws.sizes p.coset ∙ ap (λ n. 2 ^ n) coset_size

  abbrev S : (ℕ → Dom → Type 0) → StarkSetting V E C Com Dom D Opening Error ProverError
  S IsSubgroup = stark_setting fields m zk r IsSubgroup

  module _ (IsSubgroup : ℕ → Dom → Type 0)
      (subgroup : IsSubgroup (k + hiding_bits zk) made.domain) (count : ℕ)
      (is : count ≡ 2 ^ p.log_num_chunks) (last : C) (proof : Proof E Com Opening)
      (finished : IsFinished fields m r t k count commitments columns middle last proof) where
    -- the prover ends in the verifier's state
    pub state_of : let begun = drawn fields m s proof c in
        IsLastState (S IsSubgroup) s proof begun.zeta begun.state last
    state_of = state_is (S IsSubgroup) t s k count commitments columns c middle last made.alpha
        (subst (λ b. first_drawn fields m s k b commitments.trace c
        ≡ record { value = made.alpha; state = middle }) (sym random_there) made.drawn)
        known made.domain subgroup (openable count is) proof finished

    module _ (given : List (List V))
        (have : HavePreprocessedRows r IsColumnDomain given columns.preprocessed)
        (satisfied : IsSatisfied fields.base s.air.now (assigned_to s (rows trace) given)) where
      trace_known : AreKnown fields k (2 ^ (k + hiding_bits zk)) (2 ^ (k + d)) on_coset
          (rows trace) (rows quotient.trace_rows) (λ z. values_of r z columns.trace)
      trace_known = known_one fields L M H W shift log_size zk r t embed point chunk_polynomials
          recombined IsPeriodicValue laws lawful rows_law k d w low p.coset prepared.shift_is
          coset_size made.domain is_domain trace height columns.trace
          made.trace_held.committed.honest made.trace_held.extends quotient.trace_rows
          quotient.trace_read

      preprocessed_known : AreKnown fields k (2 ^ (k + hiding_bits zk)) (2 ^ (k + d)) on_coset
          given (rows_if_any quotient.preprocessed_rows) (λ z. values_if r z columns.preprocessed)
      preprocessed_known = known_if fields L M H W shift log_size zk r t embed point
          chunk_polynomials recombined IsPeriodicValue laws lawful rows_law k d w low p.coset
          prepared.shift_is coset_size s.preprocessed columns.preprocessed given
          quotient.preprocessed_rows provable.preprocessed made.preprocessed_held have
          (λ n. satisfied.shape.rows.height n ∙ height) satisfied.shape.rows.preprocessed_widths
          quotient.preprocessed_read

      there : (i : ℕ) → AllZip (IsColumnValue fields.base fields.root k (on_coset i))
          s.periodic.now
          (row_at (rows_if_any p.periodic) (i % length (rows_if_any p.periodic)))
      there i = subst (λ n. AllZip (IsColumnValue fields.base fields.root k
          (coset_point fields.base (fields.root (k + n)) fields.generator i)) s.periodic.now
          (row_at (rows_if_any p.periodic) (i % length (rows_if_any p.periodic))))
          prepared.num_chunks (prepared.periodic i)

      abbrev begun : After C E
      begun = zeta_drawn m middle commitments.quotient_chunks commitments.random

      abbrev z : E
      z = begun.value

      abbrev y : E
      y = fields.ext.mul (fields.lift (fields.root k)) z

      abbrev all : Columns V E
      all = agreed_columns fields L M H W few nonzero prepared.off coefficients has zk s k log
          prepared.needs room prepared.periods (rows trace) given quotient.trace_rows
          quotient.preprocessed_rows (rows_if_any p.periodic) (λ x. values_of r x columns.trace)
          (λ x. values_if r x columns.preprocessed) trace_known preprocessed_known
          (quotient.trace_read.height ∙ coset_many) there satisfied height made.alpha

      abbrev periodic : List E
      periodic = map (λ f. f z) all.periodic

      are_periodic : ArePeriodic fields k s.periodic.now z periodic
      are_periodic = functions_values fields.base L fields.ext M fields.lift H fields.two_adicity
          fields.root W k (within fields L M H W few nonzero prepared.off coefficients has zk s k
          log prepared.needs room prepared.periods (rows trace) given quotient.trace_rows
          quotient.preprocessed_rows (rows_if_any p.periodic) (λ x. values_of r x columns.trace)
          (λ x. values_if r x columns.preprocessed) trace_known preprocessed_known
          (quotient.trace_read.height ∙ coset_many) there satisfied height made.alpha)
          few z s.periodic.now
          (each_from_All (HasPeriod (2 ^ k)) s.periodic.now prepared.periods)

      fits : Each (λ (e : Dom × RowMajorMatrix V).
          HoldsRowsOn fields (shift e.0) (log_size e.0) e.1 (chunk_polynomials e)) made.chunks
      fits = each_weaker
          (λ (e : Dom × RowMajorMatrix V). length (rows e.1) ≡ 2 ^ log_size e.0)
          (λ (e : Dom × RowMajorMatrix V).
          HoldsRowsOn fields (shift e.0) (log_size e.0) e.1 (chunk_polynomials e)) laws.chunks
          made.chunks (sized fields shift log_size k d made.chunks quotient.pairs)

      abbrev chunk_columns : List (List (List V))
      chunk_columns = columns_each fields shift log_size chunk_polynomials made.chunks fits

      abbrev recombined_at : List (List E) → E
      recombined_at values = quotient_at fields.ext fields.dimension fields.basis k
          (map fields.lift (chunk_shifts fields.base fields.root fields.generator k d)) values z

      abbrev opened : OpenedValues E
      opened = proof.opened_values

      quotient_is : recombined_at (map (λ chunk. values_at fields.base fields.ext fields.lift
          chunk z) chunk_columns) ≡ recombined_at (lists opened.quotient_chunks.items)
      quotient_is =
          ap recombined_at
          (values_each fields shift log_size chunk_polynomials z made.chunks fits)
          ∙ same_quotient fields shift log_size recombined laws.recombine k d made.chunks
          quotient.pairs (map (λ (m : Held E). m.values_at z) polynomials)
          (map (λ e. (chunk_polynomials e).values_at z) made.chunks) z (made.chunked.recombine z)
          ∙ ap recombined_at (sym finished.opened.chunks)

      abbrev Holds : Entries V E → E → Type 0
      Holds entries q = IsQuotientOf fields.ext fields.lift fields.base.zero s.air.now
          (fields.lift (fields.root k)) (2 ^ k) entries made.alpha z q

      agrees : Agrees fields zk s (record {
        commitments = commitments;
        opened_values = opened;
        opening_proof = proof.opening_proof;
        log_height = k;
      }) log made.alpha z periodic
      agrees = subst (λ entries. Holds entries (recombined_at (lists opened.quotient_chunks.items)))
          (entries_with fields L M H W few nonzero prepared.off coefficients has zk s k log
          prepared.needs room prepared.periods (rows trace) given quotient.trace_rows
          quotient.preprocessed_rows (rows_if_any p.periodic) (λ x. values_of r x columns.trace)
          (λ x. values_if r x columns.preprocessed) trace_known preprocessed_known
          (quotient.trace_read.height ∙ coset_many) there satisfied height made.alpha z
          opened.trace_local.items opened.trace_next.items opened.preprocessed_local.items
          opened.preprocessed_next.items finished.opened.trace_local finished.opened.trace_next
          finished.opened.preprocessed_local finished.opened.preprocessed_next)
          (subst (λ q. Holds (entries_over fields.base fields.ext fields.lift all
          s.public_values.now z y) q) quotient_is
          (identity_with fields L M H W few nonzero prepared.off coefficients has zk s k log
          prepared.needs room prepared.periods (rows trace) given quotient.trace_rows
          quotient.preprocessed_rows (rows_if_any p.periodic) (λ x. values_of r x columns.trace)
          (λ x. values_if r x columns.preprocessed) trace_known preprocessed_known
          (quotient.trace_read.height ∙ coset_many) there satisfied height made.alpha
          chunk_columns
          (are_chunk_columns fields shift log_size chunk_polynomials k d made.chunks
          quotient.pairs fits coefficients _ quotient.rows_are (p.coset, trace)) z finished.off))

      -- the verifier accepts it
      pub accepted_of : StarkAccepts (S IsSubgroup) s proof c
      accepted_of = accepted_is (S IsSubgroup) t s k count commitments columns c middle last
          made.alpha
          (subst (λ b. first_drawn fields m s k b commitments.trace c
          ≡ record { value = made.alpha; state = middle }) (sym random_there) made.drawn)
          known made.domain subgroup (openable count is) log proof finished
          (ready z y opened finished.opened proof.opening_proof) prepared.periods periodic
          are_periodic agrees
