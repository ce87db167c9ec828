use Rattle.std.proofs.Common.{◌≡◌, ◌*◌, ◌^◌, ◌<◌, length, subst, sym, ap, ◌∙◌, arith, vec_len}
use Rattle.std.proofs.lemmas.Nat.{pow_pos}
use Rattle.std.proofs.lemmas.Result.{IfOk-weaker}
use Rattle.algebra.proofs.Lists.{each_from_All}
use Rattle.algebra.proofs.Nested.{length-lists}
use Rattle.p3_converse.specs.Positions.{interpolated}
use Rattle.algebra.specs.Nested.{lists}
use Rattle.p3_converse.specs.Unfolding.{common_length, IsUnfolding}
use Rattle.p3_converse.proofs.Positions.{common_length-first, one_length-lists, log_small}
use Rattle.p3_converse.proofs.Interpolated.{length-interpolated}
use Rattle.p3_converse.proofs.Unfolded.{is_unfolding}
use Rattle.std.proofs.Common.{[], ◌∷◌, refl, false}
use Rattle.p3_converse.specs.Branches.{IsTreeUnfolding}
use Rattle.p3_converse.specs.Trees.{one_round}
use Rattle.p3_converse.proofs.Branches.{is_one_round}
use Rattle.p3_converse.proofs.unfolding.unfold.Goals as goal

pub overflow_shl-arity : goal.overflow_shl-arity
overflow_shl-arity g c = log_small c.args.log_arity (omega (arith, c.requires.arity))

pub returns-clause-length : goal.returns-clause-length
returns-clause-length g c =
    let F = g.EF.Field.ops in
    let k = c.args.log_arity in
    let betas = c.args.betas.now in
    let polys = c.args.polys.now in
    let d = c.len-degree_bound.result in
    let some : 0 < length polys = omega (arith, c.requires.as_many, pow_pos k) in
    let degree : d ≡ common_length polys = c.len-degree_bound.ensures ∙ common_length-first polys c.index-polys-0.result some c.index-polys-0.is in
    IfOk-weaker c.interpolate_positions.result (λ v. v.items ≡ interpolated F betas (lists polys) d) (λ v. vec_len v ≡ common_length polys * 2 ^ k)
    (λ v e. v.ok.0 ∙ ap length e
    ∙ length-interpolated F g.met.EF.Field.laws (2 ^ k) d betas (lists polys) c.requires.distinct c.requires.arity (length-lists polys ∙ c.requires.as_many)
    (each_from_All (λ p. length p ≡ d) (lists polys) (one_length-lists polys d (λ t z l. c.requires.one_length t z l ∙ sym degree)))
    ∙ ap (λ n. n * 2 ^ k) degree)
    c.interpolate_positions.ensures

pub returns-clause-coefficients : goal.returns-clause-coefficients
returns-clause-coefficients g c =
    let F = g.EF.Field.ops in
    let betas = c.args.betas.now in
    let polys = c.args.polys.now in
    let d = c.len-degree_bound.result in
    let some : 0 < length polys = omega (arith, c.requires.as_many, pow_pos c.args.log_arity) in
    let degree : d ≡ common_length polys = c.len-degree_bound.ensures ∙ common_length-first polys c.index-polys-0.result some c.index-polys-0.is in
    IfOk-weaker c.interpolate_positions.result (λ v. v.items ≡ interpolated F betas (lists polys) d) (λ v. v.items ≡ interpolated F betas (lists polys) (common_length polys))
    (λ v e. e ∙ ap (λ n. interpolated F betas (lists polys) n) degree)
    c.interpolate_positions.ensures

pub returns-clause-rows : goal.returns-clause-rows
returns-clause-rows g c =
    let F = g.EF.Field.ops in
    let k = c.args.log_arity in
    let betas = c.args.betas.now in
    let polys = c.args.polys.now in
    let d = c.len-degree_bound.result in
    let some : 0 < length polys = omega (arith, c.requires.as_many, pow_pos k) in
    let degree : d ≡ common_length polys = c.len-degree_bound.ensures ∙ common_length-first polys c.index-polys-0.result some c.index-polys-0.is in
    IfOk-weaker c.interpolate_positions.result (λ v. v.items ≡ interpolated F betas (lists polys) d) (λ v. IsUnfolding F k betas (lists polys) v.items)
    (λ v e. subst (λ p. IsUnfolding F k betas (lists polys) p) (sym e)
    (is_unfolding F g.met.EF.Field.laws k d betas (lists polys) c.requires.distinct c.requires.arity (length-lists polys ∙ c.requires.as_many)
    (each_from_All (λ p. length p ≡ d) (lists polys) (one_length-lists polys d (λ t z l. c.requires.one_length t z l ∙ sym degree)))))
    c.interpolate_positions.ensures

pub returns-clause-one_round : goal.returns-clause-one_round
returns-clause-one_round g c =
    let F = g.EF.Field.ops in
    let k = c.args.log_arity in
    let betas = c.args.betas.now in
    let polys = c.args.polys.now in
    let d = c.len-degree_bound.result in
    let some : 0 < length polys = omega (arith, c.requires.as_many, pow_pos k) in
    let degree : d ≡ common_length polys = c.len-degree_bound.ensures ∙ common_length-first polys c.index-polys-0.result some c.index-polys-0.is in
    IfOk-weaker c.interpolate_positions.result (λ v. v.items ≡ interpolated F betas (lists polys) d) (λ v. IsTreeUnfolding F ((k, false) ∷ []) (one_round betas (lists polys)) v.items [])
    (λ v e. is_one_round F (k, false) betas (lists polys) v.items [] (c.requires.arity ∙ sym (length-lists polys ∙ c.requires.as_many)) (omega (arith, c.requires.arity, pow_pos k)) (
      subst (λ p. IsUnfolding F k betas (lists polys) p) (sym e)
          (is_unfolding F g.met.EF.Field.laws k d betas (lists polys) c.requires.distinct c.requires.arity (length-lists polys ∙ c.requires.as_many)
          (each_from_All (λ p. length p ≡ d) (lists polys) (one_length-lists polys d (λ t z l. c.requires.one_length t z l ∙ sym degree)))),
      refl,
    ))
    c.interpolate_positions.ensures
