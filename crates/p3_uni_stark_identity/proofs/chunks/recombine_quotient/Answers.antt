use Rattle.std.proofs.Common.{◌≡◌, [], ◌∷◌, ◌++◌, ℕ, length, map, slice_index_or, sym, ap, ap₂, ◌∙◌, arith}
use Rattle.std.proofs.lemmas.List.{length-map}
use Rattle.algebra.specs.Cosets.{vanishing}
use Rattle.algebra.specs.Nested.{lists}
use Rattle.algebra.specs.Polynomial.{tabulate}
use Rattle.algebra.proofs.Lists.{tabulate-next, length-tabulate}
use Rattle.algebra.proofs.Nested.{length-lists}
use Rattle.p3_field_core.specs.Basis.{unit_vector}
use Rattle.p3_uni_stark_identity.proofs.Recombination.{chunk_factor_at, quotient_is}
use Rattle.p3_uni_stark_identity.proofs.chunks.recombine_quotient.Goals as goal

pub factor_of_chunk-factor-requires-clause-values : goal.factor_of_chunk-factor-requires-clause-values
factor_of_chunk-factor-requires-clause-values g c =
    let domains = c.args.domains.now in
    let K = g.EF.Field.ops in
    ap length (c.as_slice-vanishing_at_point.ensures.value ∙ c.in_ok-vanishing.ensures)
    ∙ length-tabulate (length domains) (λ j. vanishing K
    (slice_index_or (map g.EF.ExtensionField.lift (map (λ d. d.shift) domains)) j K.zero)
    (slice_index_or (map (λ d. d.log_size) domains) j 0) c.args.point)

pub loop-index-preserved : goal.loop-index-preserved
loop-index-preserved g c =
    let domains = c.args.domains.now in
    c.in_ok-push.ensures.items
    ∙ ap₂ (λ xs x. xs ++ x ∷ []) c.loop-index.invariant
    (c.factor_of_chunk-factor.ensures c.args.point
    (c.as_slice-vanishing_at_point.ensures.value ∙ c.in_ok-vanishing.ensures))
    ∙ sym (tabulate-next c.loop-index.index (chunk_factor_at g.EF.Field.ops
    (slice_index_or (map (λ d. d.log_size) domains) 0 0)
    (map g.EF.ExtensionField.lift (map (λ d. d.shift) domains)) c.args.point (length domains)))

pub combine_columns-quotient-requires : goal.combine_columns-quotient-requires
combine_columns-quotient-requires g c =
    let domains = c.args.domains.now in
    let factor = chunk_factor_at g.EF.Field.ops
    (slice_index_or (map (λ d. d.log_size) domains) 0 0)
    (map g.EF.ExtensionField.lift (map (λ d. d.shift) domains)) c.args.point (length domains) in
    let test = c.loop-index-test.false in
    let auto = c.loop-index.auto in
    let end : c.loop-index.index ≡ length domains = omega (arith, test, auto) in
    record {
      count = ap length (c.as_slice-all_factors.ensures.value ∙ c.loop-index.invariant)
          ∙ length-tabulate c.loop-index.index factor ∙ end ∙ sym c.requires.count;
      widths = c.requires.widths;
    }

pub returns : goal.returns
returns g c =
    let K = g.EF.Field.ops in
    let extension = g.EF.ExtensionField in
    let domains = c.args.domains.now in
    let chunks = c.args.chunks.now in
    let shifts = map extension.lift (map (λ d. d.shift) domains) in
    let k = slice_index_or (map (λ d. d.log_size) domains) 0 0 in
    let test = c.loop-index-test.false in
    let auto = c.loop-index.auto in
    let end : c.loop-index.index ≡ length domains = omega (arith, test, auto) in
    let count = c.requires.count in
    let some = c.requires.some_chunk in
    c.combine_columns-quotient.ensures
    ∙ quotient_is K extension.DIMENSION
    (λ e. extension.of_coefficients (unit_vector g.F.Field.ops extension.DIMENSION e)) k shifts
    (lists chunks) c.args.point (length domains)
    (length-map (map (λ d. d.shift) domains) extension.lift ∙ length-map domains (λ d. d.shift))
    (length-lists chunks ∙ count) (omega (arith, count, some)) c.requires.widths
    c.as_slice-all_factors.result.now
    (c.as_slice-all_factors.ensures.value ∙ c.loop-index.invariant
    ∙ ap (λ n. tabulate n (chunk_factor_at K k shifts c.args.point (length domains))) end)
    (length chunks) count
