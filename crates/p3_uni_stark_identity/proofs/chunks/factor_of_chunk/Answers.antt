use Rattle.std.proofs.Common.{◌≡◌, ℕ, ◌==◌, if◌then◌else◌, length, map, slice_index_or, ap, ◌∙◌, arith}
use Rattle.std.proofs.lemmas.List.{get_or_default, length-map}
use Rattle.algebra.specs.Cosets.{vanishing}
use Rattle.algebra.specs.RecombinedQuotients.{product_below}
use Rattle.p3_uni_stark_identity.proofs.Recombination.{factor_next, factor_is}
use Rattle.p3_uni_stark_identity.proofs.chunks.factor_of_chunk.Goals as goal

pub loop-other-preserved : goal.loop-other-preserved
loop-other-preserved g c =
    let K = g.EF.Field.ops in
    let index = c.args.index in
    let shifts = map g.EF.ExtensionField.lift (map (λ d. d.shift) c.args.domains.now) in
    let k = slice_index_or (map (λ d. d.log_size) c.args.domains.now) 0 0 in
    let values = c.args.vanishing_at_point.now in
    let other = c.loop-other.other in
    let inverse = λ (j : ℕ). K.inv (vanishing K
    (slice_index_or shifts j K.zero) k (slice_index_or shifts index K.zero)) in
    let test = c.loop-other-test.true in
    factor_next K g.met.EF.Field.laws.ring other
    (λ j. if j == index then K.one else K.mul (slice_index_or values j K.zero) (inverse j))
    c.loop-other.factor c.factor_by.result c.mul-factor.result c.loop-other.invariant
    (c.factor_by.ensures
    ∙ ap (λ p. if other == index then K.one else K.mul p (inverse other))
    (c.index-vanishing_at_point-other.is
    ∙ get_or_default values other c.index-vanishing_at_point-other.result K.zero
    (omega (arith, test, c.requires.values))))
    (g.met.EF.Field.mul_law c.loop-other.factor c.factor_by.result c.mul-factor.result
    c.mul-factor.ensures)

pub returns : goal.returns
returns g c z are =
    let K = g.EF.Field.ops in
    let index = c.args.index in
    let domains = c.args.domains.now in
    let shifts = map g.EF.ExtensionField.lift (map (λ d. d.shift) domains) in
    let sizes = map (λ d. d.log_size) domains in
    let k = slice_index_or sizes 0 0 in
    let values = c.args.vanishing_at_point.now in
    let test = c.loop-other-test.false in
    let auto = c.loop-other.auto in
    let end : c.loop-other.other ≡ length domains = omega (arith, test, auto) in
    c.loop-other.invariant
    ∙ ap (λ n. product_below K n (λ j. if j == index then K.one else
    K.mul (slice_index_or values j K.zero) (K.inv (vanishing K
    (slice_index_or shifts j K.zero) k (slice_index_or shifts index K.zero))))) end
    ∙ factor_is K g.met.EF.Field.laws.ring (length domains) k
    (λ j. slice_index_or shifts j K.zero) sizes c.requires.disjoint.one_size
    (length-map domains (λ d. d.log_size)) index z values are
