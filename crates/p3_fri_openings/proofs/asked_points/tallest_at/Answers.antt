use Rattle.std.proofs.Common.{◌≡◌, ◌≤◌, ◌⊎◌, inl, inr, Contains, sym, subst, ◌∙◌, arith}
use Rattle.std.proofs.lemmas.Bool.{cases_lt}
use Rattle.p3_fri_openings.specs.Points.{asked_point}
use Rattle.p3_fri_openings.proofs.First.{to_the_end}
use Rattle.p3_fri_openings.proofs.AskedPoints.{above_next, contains_item}
use Rattle.p3_fri_openings.proofs.asked_points.tallest_at.Goals as goal

pub loop-matrix-preserved : goal.loop-matrix-preserved
loop-matrix-preserved g c =
    let asked = c.args.asked.now in
    let z = c.args.point in
    let i = c.loop-matrix.matrix-index in
    let a = c.matrix-item.result in
    let old = c.loop-matrix.tallest in
    let own = c.height_at.result in
    let new = c.max-tallest.result in
    let older : old ≤ new = omega (arith, c.max-tallest.ensures) in
    let owner : own ≤ new = omega (arith, c.max-tallest.ensures) in
    let either : (new ≡ own) ⊎ (new ≡ old) = elim (cases_lt old own) [
      | inl below ↦ inl (omega (arith, below, c.max-tallest.ensures))
      | inr above ↦ inr (omega (arith, above, c.max-tallest.ensures))
    ] in
    record {
      none_above = above_next asked z i a own old new c.loop-matrix-test.true c.matrix-item.is
          older owner c.height_at.ensures.here c.loop-matrix.invariant.none_above;
      asked_there = λ positive. elim either [
        | inl e ↦
            let there = c.height_at.ensures.only_there (omega (arith, e, positive)) in
            contains_item asked z i a new c.loop-matrix-test.true c.matrix-item.is there
            (e ∙ c.height_at.ensures.here there)
        | inr e ↦ subst (λ n. Contains asked (asked_point n z)) (sym e)
            (c.loop-matrix.invariant.asked_there (omega (arith, e, positive)))
      ];
    }

pub returns-clause-none_above : goal.returns-clause-none_above
returns-clause-none_above g c =
    to_the_end (λ a. a.point ≡ c.args.point → a.height ≤ c.loop-matrix.tallest) c.args.asked.now
    c.loop-matrix.matrix-index c.loop-matrix-test.false c.loop-matrix.invariant.none_above
