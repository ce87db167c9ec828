use Rattle.std.proofs.Common.{◌≡◌, ◌<◌, [], ◌∷◌, ◌++◌, length, get_or, sym, subst}
use Rattle.std.specs.List.{All}
use Rattle.std.proofs.lemmas.List.Elements.{All-push}
use Rattle.p3_fri_plain.specs.Faults.{IsFaultless}
use Rattle.p3_fri_plain.proofs.Mapped.{image_more_of}
use Rattle.p3_fri_plain.proofs.Faultless.{mapped_faultless}
use Rattle.p3_fri_plain.proofs.plain.EachPlain.to_plain.Goals as goal

pub returns-clause-faultless : goal.returns-clause-faultless
returns-clause-faultless g c =
    mapped_faultless g.T.Plain.has_fault g.T.Plain.listed c.loop-value.forms.items
    c.loop-value.invariant.faultless

pub loop-value-preserved : goal.loop-value-preserved
loop-value-preserved g c =
    let T = g.T.Plain in
    let values = c.args.values.now.items in
    let i = c.loop-value.value-index in
    let value = c.value-item.result in
    let form = c.in_ok-to_plain.field-0 in
    let given = c.deref-value-items.ensures.value in
    let grown = c.in_ok-push.ensures.items in
    record {
      numbers = image_more_of T.listed c.loop-value.forms.items c.push.new.self.items form values i
          value T.numbers T.seen (subst (λ vs. i < length vs) given c.loop-value-test.true)
          (subst (λ vs. value ≡ get_or vs i value) given c.value-item.is) grown
          c.in_ok-to_plain.ensures.numbers c.loop-value.invariant.numbers;
      faultless = subst (All (λ f. IsFaultless T.has_fault (T.listed f))) (sym grown)
          (All-push (λ f. IsFaultless T.has_fault (T.listed f)) c.loop-value.forms.items form
          c.loop-value.invariant.faultless c.in_ok-to_plain.ensures.faultless);
    }
