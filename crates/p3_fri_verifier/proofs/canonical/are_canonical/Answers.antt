use Rattle.std.proofs.Common.{◌≡◌, ◌∙◌, sym, refl, take}
use Rattle.std.proofs.lemmas.List.{take_all}
use Rattle.std.proofs.lemmas.List.Elements.{All-more, All-same}
use Rattle.p3_fri_verifier.proofs.canonical.are_canonical.Goals as goal

pub returns-then-not-is_canonical-clause-exact : goal.returns-then-not-is_canonical-clause-exact
returns-then-not-is_canonical-clause-exact g c =
    let fault = c.is_canonical.ensures.otherwise c.if-not-is_canonical.true in
    let i = c.loop-witness.witness-index in
    let w = c.witness-item.result in
    ((λ e. cc), (λ h. absurd (fault.1 (c.witness-item.is ∙ h fault.0 i w c.loop-witness-test.true))))

pub returns-then-not-is_canonical-clause-otherwise : goal.returns-then-not-is_canonical-clause-otherwise
returns-then-not-is_canonical-clause-otherwise g c e =
    let fault = c.is_canonical.ensures.otherwise c.if-not-is_canonical.true in
    let i = c.loop-witness.witness-index in
    let w = c.witness-item.result in
    (fault.0, (i, w, c.loop-witness-test.true, sym c.witness-item.is, fault.1))

pub loop-witness-preserved : goal.loop-witness-preserved
loop-witness-preserved g c none =
    let w = c.witness-item.result in
    All-more (λ x. x ≡ g.F.Field.ops.zero) c.args.witnesses.now c.loop-witness.witness-index w c.loop-witness-test.true
    (c.loop-witness.invariant none)
    (sym c.witness-item.is ∙ c.is_canonical.ensures.exact.0 c.if-not-is_canonical.false none)

pub returns-clause-exact : goal.returns-clause-exact
returns-clause-exact g c =
    let xs = c.args.witnesses.now in
    let i = c.loop-witness.witness-index in
    ((λ e none. All-same (λ x. x ≡ g.F.Field.ops.zero) xs (take i xs) (sym (take_all i xs c.loop-witness-test.false)) (c.loop-witness.invariant none)), (λ h. refl))
