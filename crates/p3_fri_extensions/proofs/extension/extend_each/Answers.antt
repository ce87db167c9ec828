use Rattle.std.proofs.Common.{◌++◌, ◌∷◌, [], length, append_assoc, ap, sym, ◌∙◌, arith, subst, All}
use Rattle.std.specs.List.{AllZip}
use Rattle.p3_fri_extensions.specs.Extension.{FitsDomain, IsLowDegreeExtension}
use Rattle.p3_fri_extensions.proofs.Batches.{in_middle, nothing_left}
use Rattle.algebra.proofs.Lists.{all_zip-push}
use Rattle.p3_fri_extensions.proofs.extension.extend_each.Goals as goal

pub extend-requires : goal.extend-requires
extend-requires g c =
    let all = subst (λ es. All (λ e. FitsDomain g.F.TwoAdicField.TWO_ADICITY c.args.log_blowup e.0.log_size e.1) es)
    (sym c.loop-domain.invariant.whole ∙ ap (λ t. c.loop-domain.yielded ++ t) c.in-Some.ensures.steps.0) c.requires.fits in
    record {
      fits = in_middle (λ e. FitsDomain g.F.TwoAdicField.TWO_ADICITY c.args.log_blowup e.0.log_size e.1)
          c.loop-domain.yielded (c.in-Some.domain, c.in-Some.values) c.next.new.self.rest.items all;
    }

pub loop-domain-preserved : goal.loop-domain-preserved
loop-domain-preserved g c =
    let pushed = c.in_ok-push.ensures.items in
    let step = c.in-Some.ensures.steps.0 in
    let fewer = c.in-Some.ensures.steps.1 in
    let counted = ap length step in
    let before = c.loop-domain.invariant.count in
    record {
      words_so_far = subst (λ ws. AllZip (λ matrix e. IsLowDegreeExtension g.F.Field.ops g.F.TwoAdicField.root
          g.F.Field.GENERATOR c.args.log_blowup e.0.shift e.0.log_size e.1 matrix) ws
          (c.loop-domain.yielded ++ (c.in-Some.domain, c.in-Some.values) ∷ [])) (sym pushed)
          (all_zip-push (λ matrix e. IsLowDegreeExtension g.F.Field.ops g.F.TwoAdicField.root
          g.F.Field.GENERATOR c.args.log_blowup e.0.shift e.0.log_size e.1 matrix) c.loop-domain.words.items
          c.loop-domain.yielded c.in_ok-extend.field-0 (c.in-Some.domain, c.in-Some.values)
          c.loop-domain.invariant.words_so_far c.in_ok-extend.ensures);
      whole = append_assoc c.loop-domain.yielded _ c.next.new.self.rest.items
          ∙ ap (λ t. c.loop-domain.yielded ++ t) (sym step) ∙ c.loop-domain.invariant.whole;
      count = omega arith;
    }

pub returns : goal.returns
returns g c =
    let all = nothing_left c.loop-domain.yielded c.loop-domain.domain-iterator.rest.items c.args.evaluations.items
    c.loop-domain.domain-iterator.rest.len c.loop-domain.invariant.count c.in-None.ensures.steps.0 c.loop-domain.invariant.whole in
    rw (← all) (record { words = c.loop-domain.invariant.words_so_far })
