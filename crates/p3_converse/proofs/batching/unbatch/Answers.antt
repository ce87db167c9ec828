use Rattle.std.proofs.Common.{◌≡◌, ◌+◌, ◌*◌, ◌<◌, ℕ, List, [], ◌∷◌, ◌++◌, All, length, get_or, subst, sym, ap, ap₂, ◌∙◌, arith}
use Rattle.std.proofs.lemmas.List.{map-append}
use Rattle.algebra.specs.Polynomial.{tabulate}
use Rattle.algebra.proofs.Lists.{each_from_All, tabulate-next, length-tabulate}
use Rattle.algebra.proofs.Nested.{length-lists}
use Rattle.p3_converse.specs.Batching.{unbatched, IsUnbatching}
use Rattle.p3_converse.specs.Positions.{stepped}
use Rattle.algebra.specs.Nested.{lists}
use Rattle.p3_converse.specs.Unfolding.{common_length}
use Rattle.p3_converse.proofs.Positions.{common_length-first, one_length-lists, one_length-vectors, all-tabulate}
use Rattle.p3_converse.proofs.Interpolated.{length-interpolated, places, is_unbatching}
use Rattle.p3_converse.proofs.batching.unbatch.Goals as goal

pub stepped-requires-clause-count : goal.stepped-requires-clause-count
stepped-requires-clause-count g c =
    let F = g.EF.Field.ops in
    let alphas = c.args.alphas.now in
    let polys = c.args.polys.now in
    let d = c.len-degree_bound.result in
    let some : 0 < length polys = omega (arith, c.requires.as_many, c.requires.some) in
    let degree : d ≡ common_length polys = c.len-degree_bound.ensures ∙ common_length-first polys c.index-polys-0.result some c.index-polys-0.is in
    ap length (c.deref.ensures.value ∙ c.in_ok-entries.ensures)
    ∙ length-interpolated F g.met.EF.Field.laws (length alphas) d alphas (lists polys) c.requires.distinct (let same : length alphas ≡ length alphas = omega arith in same) (length-lists polys ∙ c.requires.as_many)
    (each_from_All (λ p. length p ≡ d) (lists polys) (one_length-lists polys d (λ t z l. c.requires.one_length t z l ∙ sym degree)))

pub loop-s-preserved : goal.loop-s-preserved
loop-s-preserved g c =
    let F = g.EF.Field.ops in
    let here = c.loop-s in
    let part = c.in_ok-stepped.field-0 in
    let places : ℕ → List g.row.EF.Denot = λ s. stepped F c.in_ok-entries.entries.items s (length c.args.alphas.now) c.len-degree_bound.result in
    ap (λ vs. lists vs) c.in_ok-push.ensures.items
    ∙ map-append (λ v. v.items) here.unbatched.items (part ∷ [])
    ∙ ap₂ (λ ps p. ps ++ p ∷ []) here.invariant
    (c.in_ok-stepped.ensures ∙ ap (λ xs. stepped F xs here.s (length c.args.alphas.now) c.len-degree_bound.result) c.deref.ensures.value)
    ∙ sym (tabulate-next here.s places)

pub returns-clause-count : goal.returns-clause-count
returns-clause-count g c =
    let F = g.EF.Field.ops in
    let here = c.loop-s in
    let places : ℕ → List g.row.EF.Denot = λ s. stepped F c.in_ok-entries.entries.items s (length c.args.alphas.now) c.len-degree_bound.result in
    omega (arith, here.unbatched.ok.0, length-lists here.unbatched.items, ap length here.invariant, length-tabulate here.s places, here.auto.s-end, c.loop-s-test.false)

pub returns-clause-lengths : goal.returns-clause-lengths
returns-clause-lengths g c =
    let F = g.EF.Field.ops in
    let here = c.loop-s in
    let d = c.len-degree_bound.result in
    let polys = c.args.polys.now in
    let some : 0 < length polys = omega (arith, c.requires.as_many, c.requires.some) in
    let degree : d ≡ common_length polys = c.len-degree_bound.ensures ∙ common_length-first polys c.index-polys-0.result some c.index-polys-0.is in
    let places : ℕ → List g.row.EF.Denot = λ s. stepped F c.in_ok-entries.entries.items s (length c.args.alphas.now) d in
    one_length-vectors here.unbatched.items (common_length polys)
    (subst (λ ps. All (λ p. length p ≡ common_length polys) ps) (sym here.invariant)
    (all-tabulate (λ p. length p ≡ common_length polys) here.s places (λ s. length-tabulate d (λ m. get_or c.in_ok-entries.entries.items (m * length c.args.alphas.now + s) F.zero) ∙ degree)))

pub returns-clause-coefficients : goal.returns-clause-coefficients
returns-clause-coefficients g c =
    let F = g.EF.Field.ops in
    let here = c.loop-s in
    let alphas = c.args.alphas.now in
    let n = length alphas in
    let polys = c.args.polys.now in
    let d = c.len-degree_bound.result in
    let some : 0 < length polys = omega (arith, c.requires.as_many, c.requires.some) in
    let degree : d ≡ common_length polys = c.len-degree_bound.ensures ∙ common_length-first polys c.index-polys-0.result some c.index-polys-0.is in
    let all : here.s ≡ n = omega (arith, here.auto.s-end, c.loop-s-test.false) in
    here.invariant
    ∙ ap₂ (λ m xs. tabulate m (λ s. stepped F xs s n d)) all c.in_ok-entries.ensures
    ∙ places F g.met.EF.Field.laws n d alphas (lists polys) c.requires.distinct (let same : length alphas ≡ length alphas = omega arith in same) (length-lists polys ∙ c.requires.as_many)
    (each_from_All (λ p. length p ≡ d) (lists polys) (one_length-lists polys d (λ t z l. c.requires.one_length t z l ∙ sym degree)))
    ∙ ap (λ k. unbatched F alphas (lists polys) k) degree

pub returns-clause-values : goal.returns-clause-values
returns-clause-values g c =
    let F = g.EF.Field.ops in
    let alphas = c.args.alphas.now in
    let polys = c.args.polys.now in
    let d = common_length polys in
    subst (λ ps. IsUnbatching F alphas (lists polys) ps)
    (sym (returns-clause-coefficients g c))
    (is_unbatching F g.met.EF.Field.laws (length alphas) d alphas (lists polys) c.requires.distinct (let same : length alphas ≡ length alphas = omega arith in same) (length-lists polys ∙ c.requires.as_many)
    (each_from_All (λ p. length p ≡ d) (lists polys) (one_length-lists polys d c.requires.one_length)))
