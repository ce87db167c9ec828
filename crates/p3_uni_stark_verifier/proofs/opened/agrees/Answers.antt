use Rattle.std.proofs.Common.{◌^◌, ◌<◌, ℕ, length, map, ap, sym, ◌∙◌, slice_index_or}
use Rattle.std.proofs.lemmas.List.{length-map}
use Rattle.algebra.specs.Nested.{lists}
use Rattle.p3_field_core.specs.Basis.{unit_vector}
use Rattle.p3_uni_stark_identity.specs.Chunks.{chunk_shifts}
use Rattle.p3_uni_stark_identity.specs.Identity.{IsQuotientOf}
use Rattle.p3_uni_stark_verifier.proofs.Agreeing.{decided, same_entries, same_quotient}
use Rattle.p3_uni_stark_verifier.proofs.Domains.{counted, some_power}
use Rattle.p3_uni_stark_verifier.proofs.opened.agrees.Goals as goal

pub identity_holds-requires-clause-widths : goal.identity_holds-requires-clause-widths
identity_holds-requires-clause-widths g c =
    let ready = c.requires.ready in
    record {
      local = ap length c.as_slice.ensures.value ∙ ready.shape.columns.trace_local;
      next = ap length c.as_slice-2.ensures.value ∙ ready.shape.columns.trace_next;
      preprocessed = ap length c.as_slice-3.ensures.value ∙ ready.shape.columns.preprocessed_local;
      preprocessed_next = ap length c.as_slice-4.ensures.value ∙ ready.shape.columns.preprocessed_next;
      public_values = ready.public_count;
      periodic = c.requires.periodic ∙ ready.periodic_count;
    }

pub identity_holds-requires-clause-some_chunk : goal.identity_holds-requires-clause-some_chunk
identity_holds-requires-clause-some_chunk g c =
    rw c.as_slice-6.ensures.value (some_power _ _ c.requires.ready.shape.chunk_count)

pub identity_holds-requires-clause-count : goal.identity_holds-requires-clause-count
identity_holds-requires-clause-count g c =
    ap length c.as_slice-6.ensures.value ∙ c.requires.ready.shape.chunk_count
    ∙ ap (λ k. 2 ^ k) (sym c.with_hiding-log_num_chunks.ensures)
    ∙ sym (counted c.in_ok-domains.domains.items (λ d. d.shift) _ _ c.in_ok-domains.ensures.shifts)
    ∙ sym (ap length c.as_slice-5.ensures.value)

pub identity_holds-requires-clause-chunk_widths : goal.identity_holds-requires-clause-chunk_widths
identity_holds-requires-clause-chunk_widths g c =
    rw c.as_slice-6.ensures.value c.requires.ready.shape.chunk_widths

pub identity_holds-requires-clause-disjoint : goal.identity_holds-requires-clause-disjoint
identity_holds-requires-clause-disjoint g c =
    rw c.as_slice-5.ensures.value c.in_ok-domains.ensures.disjoint

pub returns : goal.returns
returns g c =
    let K = g.EF.Field.ops in
    let lift = g.EF.ExtensionField.lift in
    let height = c.args.proof.now.log_height in
    let air = c.args.statement.now.air.now in
    let domains = c.in_ok-domains.domains.items in
    let many : 0 < length (map (λ d. d.log_size) domains) =
    some_power _ _ (length-map domains (λ d. d.log_size)
    ∙ counted domains (λ d. d.shift) _ _ c.in_ok-domains.ensures.shifts) in
    let basis = λ (e : ℕ). g.EF.ExtensionField.of_coefficients
    (unit_vector g.F.Field.ops g.EF.ExtensionField.DIMENSION e) in
    decided (λ entries quotient. IsQuotientOf K lift g.F.Field.ops.zero air
    (lift (g.F.TwoAdicField.root height)) (2 ^ height) entries c.args.challenges.alpha
    c.args.challenges.zeta quotient) c.identity_holds.result _ _ _ _
    (same_entries _ _ _ _ _ _ _ _ _ _ c.as_slice.ensures.value c.as_slice-2.ensures.value
    c.as_slice-3.ensures.value c.as_slice-4.ensures.value)
    (same_quotient K g.EF.ExtensionField.DIMENSION basis lift c.args.challenges.zeta _ _ _ _ _ _
    (ap (λ ds. slice_index_or (map (λ d. d.log_size) ds) 0 0) c.as_slice-5.ensures.value
    ∙ c.in_ok-domains.ensures.sizes 0 0 many)
    (ap (λ ds. map (λ d. d.shift) ds) c.as_slice-5.ensures.value
    ∙ c.in_ok-domains.ensures.shifts
    ∙ ap (λ d. chunk_shifts g.F.Field.ops g.F.TwoAdicField.root g.F.Field.GENERATOR height d)
    c.with_hiding-log_num_chunks.ensures)
    (ap lists c.as_slice-6.ensures.value)) c.identity_holds.ensures
