use Rattle.std.proofs.Common.{◌≡◌, ◌<◌, [], ◌∷◌, length, get_or, map, ap, subst, ◌∙◌, arith}
use Rattle.std.specs.List.{All}
use Rattle.std.proofs.lemmas.List.{map-append}
use Rattle.std.proofs.lemmas.List.Elements.{All-more}
use Rattle.std.proofs.lemmas.Grind.{common_steps}
use Rattle.p3_fri_plain.specs.Faults.{IsFaultless}
use Rattle.p3_fri_plain.proofs.Faultless.{mapped_faultless}
use Rattle.p3_fri_plain.proofs.Mapped.{image_more}
use Rattle.p3_fri_plain.proofs.plain.EachPlain.from_plain.Goals as goal

pub returns-clause-faultless : goal.returns-clause-faultless
returns-clause-faultless g c =
    let T = g.T.Plain in
    let all : All (λ form. IsFaultless T.has_fault (T.listed form)) c.args.forms.now.items
    = grind (arith, common_steps) in
    mapped_faultless T.has_fault T.listed c.args.forms.now.items all

pub loop-form-preserved : goal.loop-form-preserved
loop-form-preserved g c =
    let T = g.T.Plain in
    let forms = c.args.forms.now.items in
    let i = c.loop-form.form-index in
    let form = c.form-item.result in
    let value = c.in_ok-from_plain.field-0 in
    let given = c.deref-form-items.ensures.value in
    let below : i < length forms = subst (λ fs. i < length fs) given c.loop-form-test.true in
    let is : form ≡ get_or forms i form = subst (λ fs. form ≡ get_or fs i form) given c.form-item.is in
    record {
      numbers = image_more T.numbers (map T.seen c.loop-form.values.items)
          (map T.seen c.push.new.self.items) (T.seen value) forms i form T.listed below is
          (ap (map T.seen) c.in_ok-push.ensures.items
          ∙ map-append T.seen c.loop-form.values.items (value ∷ []))
          c.in_ok-from_plain.ensures.ok c.loop-form.invariant.numbers;
      faultless = All-more (λ f. IsFaultless T.has_fault (T.listed f)) forms i form below
          c.loop-form.invariant.faultless
          (subst (λ f. IsFaultless T.has_fault (T.listed f)) is c.in_ok-from_plain.ensures.faultless);
    }
