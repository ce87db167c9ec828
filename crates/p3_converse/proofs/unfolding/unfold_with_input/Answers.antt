use Rattle.std.proofs.Common.{◌≡◌, ◌<◌, ◌*◌, ◌^◌, [], ◌∷◌, ◌++◌, All, length, get_or, take, vec_len, subst, sym, ap, ap₂, ◌∙◌, arith, length-append}
use Rattle.std.proofs.lemmas.List.{map-append}
use Rattle.std.specs.Option.{option_to_list}
use Rattle.p3_converse.specs.Positions.{coefficients_at, interleaved}
use Rattle.p3_converse.specs.Batching.{unbatched, IsUnbatching}
use Rattle.algebra.specs.Nested.{lists}
use Rattle.p3_converse.specs.Unfolding.{common_length, IsUnfoldingWithInput}
use Rattle.p3_converse.proofs.Positions.{length-coefficients_at, common_length-first, one_length-lists, log_small, all-front, front_and_last}
use Rattle.p3_converse.proofs.Concatenated.{length-concatenated}
use Rattle.p3_converse.proofs.Unfolded.{is_unfolding_with_input}
use Rattle.std.proofs.Common.{refl, true}
use Rattle.p3_converse.proofs.Branches.{is_one_round}
use Rattle.algebra.proofs.Lists.{all-last}
use Rattle.algebra.proofs.Nested.{length-lists}
use Rattle.p3_converse.proofs.unfolding.unfold_with_input.Given.{Over}
use Rattle.p3_converse.proofs.unfolding.unfold_with_input.Goals.{After-interleave}
use Rattle.p3_converse.proofs.unfolding.unfold_with_input.Goals as goal

pub overflow_shl-arity : goal.overflow_shl-arity
overflow_shl-arity g c = log_small c.args.log_arity (omega (arith, c.requires.arity))

pub interleave-requires-clause-one_length : goal.interleave-requires-clause-one_length
interleave-requires-clause-one_length g c =
    let polys = c.args.polys.now in
    let parts = c.pop.new.self.items in
    let input = c.unwrap-input.result in
    let some : 0 < length polys = omega (arith, c.requires.as_many) in
    let degree : c.len-degree_bound.result ≡ common_length polys = c.len-degree_bound.ensures ∙ common_length-first polys c.index-polys-0.result some c.index-polys-0.is in
    let all : c.in_ok-parts.parts.items ≡ parts ++ input ∷ [] = c.pop.ensures.items ∙ ap (λ o. parts ++ option_to_list o) c.unwrap-input.ensures in
    subst (λ vs. All (λ p. vec_len p ≡ c.len-degree_bound.result) vs) (sym c.deref.ensures.value)
    (all-front (λ p. vec_len p ≡ c.len-degree_bound.result) parts input
    (subst (λ vs. All (λ p. vec_len p ≡ c.len-degree_bound.result) vs) all (λ k e l. c.in_ok-parts.ensures.lengths k e l ∙ sym degree)))

pub returns-clause-word_length : goal.returns-clause-word_length
returns-clause-word_length g c =
    let F = g.EF.Field.ops in
    let polys = c.args.polys.now in
    let parts = c.pop.new.self.items in
    let input = c.unwrap-input.result in
    let some : 0 < length polys = omega (arith, c.requires.as_many) in
    let degree : c.len-degree_bound.result ≡ common_length polys = c.len-degree_bound.ensures ∙ common_length-first polys c.index-polys-0.result some c.index-polys-0.is in
    let all : c.in_ok-parts.parts.items ≡ parts ++ input ∷ [] = c.pop.ensures.items ∙ ap (λ o. parts ++ option_to_list o) c.unwrap-input.ensures in
    let count : length parts ≡ 2 ^ c.args.log_arity = omega (arith, c.in_ok-parts.parts.ok.0, c.in_ok-parts.ensures.count, ap length all, length-append parts (input ∷ []), c.requires.arity) in
    c.interleave.new.entries.ok.0
    ∙ ap length c.in_ok-interleave.ensures
    ∙ length-concatenated (2 ^ c.args.log_arity) c.len-degree_bound.result (coefficients_at F (lists c.deref.result.now))
    (λ m l. length-coefficients_at F (lists c.deref.result.now) m ∙ length-lists c.deref.result.now ∙ ap length c.deref.ensures.value ∙ count)
    ∙ ap (λ d. d * 2 ^ c.args.log_arity) degree

pub returns-clause-input_length : goal.returns-clause-input_length
returns-clause-input_length g c =
    let polys = c.args.polys.now in
    let parts = c.pop.new.self.items in
    let input = c.unwrap-input.result in
    let all : c.in_ok-parts.parts.items ≡ parts ++ input ∷ [] = c.pop.ensures.items ∙ ap (λ o. parts ++ option_to_list o) c.unwrap-input.ensures in
    all-last (λ p. vec_len p ≡ common_length polys) parts input (subst (λ vs. All (λ p. vec_len p ≡ common_length polys) vs) all c.in_ok-parts.ensures.lengths)

-- what was unbatched: the parts of the word, and then the input
apart : (g : Over) (c : After-interleave g) → (lists c.pop.new.self.items ≡ take (2 ^ c.args.log_arity) (unbatched g.EF.Field.ops c.args.betas.now (lists c.args.polys.now) (common_length c.args.polys.now)))
    × (c.unwrap-input.result.items ≡ get_or (unbatched g.EF.Field.ops c.args.betas.now (lists c.args.polys.now) (common_length c.args.polys.now)) (2 ^ c.args.log_arity) [])
apart g c =
    let parts = c.pop.new.self.items in
    let input = c.unwrap-input.result in
    let all : c.in_ok-parts.parts.items ≡ parts ++ input ∷ [] = c.pop.ensures.items ∙ ap (λ o. parts ++ option_to_list o) c.unwrap-input.ensures in
    let count : length parts ≡ 2 ^ c.args.log_arity = omega (arith, c.in_ok-parts.parts.ok.0, c.in_ok-parts.ensures.count, ap length all, length-append parts (input ∷ []), c.requires.arity) in
    front_and_last (2 ^ c.args.log_arity) (lists parts) input.items (unbatched g.EF.Field.ops c.args.betas.now (lists c.args.polys.now) (common_length c.args.polys.now)) [] (length-lists parts ∙ count)
    (sym c.in_ok-parts.ensures.coefficients ∙ ap (λ vs. lists vs) all ∙ map-append (λ v. v.items) parts (input ∷ []))

pub returns-clause-word_coefficients : goal.returns-clause-word_coefficients
returns-clause-word_coefficients g c =
    let F = g.EF.Field.ops in
    let polys = c.args.polys.now in
    let some : 0 < length polys = omega (arith, c.requires.as_many) in
    let degree : c.len-degree_bound.result ≡ common_length polys = c.len-degree_bound.ensures ∙ common_length-first polys c.index-polys-0.result some c.index-polys-0.is in
    c.in_ok-interleave.ensures
    ∙ ap₂ (λ vs d. interleaved F (lists vs) d) c.deref.ensures.value degree
    ∙ ap (λ ps. interleaved F ps (common_length polys)) (apart g (goal.at.returns-clause-word_coefficients g c).After-interleave).0

pub returns-clause-input_coefficients : goal.returns-clause-input_coefficients
returns-clause-input_coefficients g c = (apart g (goal.at.returns-clause-input_coefficients g c).After-interleave).1

pub returns-clause-rows : goal.returns-clause-rows
returns-clause-rows g c =
    let F = g.EF.Field.ops in
    let k = c.args.log_arity in
    let betas = c.args.betas.now in
    let polys = c.args.polys.now in
    let parts = c.pop.new.self.items in
    let input = c.unwrap-input.result in
    let d = c.len-degree_bound.result in
    let some : 0 < length polys = omega (arith, c.requires.as_many) in
    let degree : d ≡ common_length polys = c.len-degree_bound.ensures ∙ common_length-first polys c.index-polys-0.result some c.index-polys-0.is in
    let all : c.in_ok-parts.parts.items ≡ parts ++ input ∷ [] = c.pop.ensures.items ∙ ap (λ o. parts ++ option_to_list o) c.unwrap-input.ensures in
    let count : length parts ≡ 2 ^ k = omega (arith, c.in_ok-parts.parts.ok.0, c.in_ok-parts.ensures.count, ap length all, length-append parts (input ∷ []), c.requires.arity) in
    let lengths : All (λ p. vec_len p ≡ d) parts =
    all-front (λ p. vec_len p ≡ d) parts input (subst (λ vs. All (λ p. vec_len p ≡ d) vs) all (λ k e l. c.in_ok-parts.ensures.lengths k e l ∙ sym degree)) in
    subst (λ word. IsUnfoldingWithInput F k betas (lists polys) word input.items)
    (sym (c.in_ok-interleave.ensures ∙ ap (λ vs. interleaved F (lists vs) d) c.deref.ensures.value))
    (is_unfolding_with_input F g.met.EF.Field.laws k d betas (lists polys) (lists parts) input.items c.requires.arity (length-lists parts ∙ count)
    (λ s e l. one_length-lists parts d lengths s e l)
    (subst (λ ps. IsUnbatching F betas (lists polys) ps) (ap (λ vs. lists vs) all ∙ map-append (λ v. v.items) parts (input ∷ [])) c.in_ok-parts.ensures.values))

pub returns-clause-one_round : goal.returns-clause-one_round
returns-clause-one_round g c =
    let F = g.EF.Field.ops in
    let k = c.args.log_arity in
    let betas = c.args.betas.now in
    let polys = c.args.polys.now in
    let parts = c.pop.new.self.items in
    let input = c.unwrap-input.result in
    let d = c.len-degree_bound.result in
    let some : 0 < length polys = omega (arith, c.requires.as_many) in
    let degree : d ≡ common_length polys = c.len-degree_bound.ensures ∙ common_length-first polys c.index-polys-0.result some c.index-polys-0.is in
    let all : c.in_ok-parts.parts.items ≡ parts ++ input ∷ [] = c.pop.ensures.items ∙ ap (λ o. parts ++ option_to_list o) c.unwrap-input.ensures in
    let count : length parts ≡ 2 ^ k = omega (arith, c.in_ok-parts.parts.ok.0, c.in_ok-parts.ensures.count, ap length all, length-append parts (input ∷ []), c.requires.arity) in
    let lengths : All (λ p. vec_len p ≡ d) parts =
    all-front (λ p. vec_len p ≡ d) parts input (subst (λ vs. All (λ p. vec_len p ≡ d) vs) all (λ k e l. c.in_ok-parts.ensures.lengths k e l ∙ sym degree)) in
    is_one_round F (k, true) betas (lists polys) c.interleave.new.entries.items (input.items ∷ []) (c.requires.arity ∙ sym (length-lists polys ∙ c.requires.as_many)) (omega (arith, c.requires.arity)) (
      input.items,
      subst (λ word. IsUnfoldingWithInput F k betas (lists polys) word input.items)
          (sym (c.in_ok-interleave.ensures ∙ ap (λ vs. interleaved F (lists vs) d) c.deref.ensures.value))
          (is_unfolding_with_input F g.met.EF.Field.laws k d betas (lists polys) (lists parts) input.items c.requires.arity (length-lists parts ∙ count)
          (λ s e l. one_length-lists parts d lengths s e l)
          (subst (λ ps. IsUnbatching F betas (lists polys) ps) (ap (λ vs. lists vs) all ∙ map-append (λ v. v.items) parts (input ∷ [])) c.in_ok-parts.ensures.values)),
      refl,
    )
