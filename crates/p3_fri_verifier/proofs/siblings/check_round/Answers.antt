use Rattle.std.proofs.Common.{◌≡◌, suc, ◌-◌, ◌^◌, ◌∙◌, ap, sym, refl, arith, length, subst}
use Rattle.std.specs.List.{Any}
use Rattle.std.proofs.lemmas.List.Elements.{All-same}
use Rattle.algebra.specs.Nested.{lists}
use Rattle.algebra.proofs.Nested.{length-lists}
use Rattle.p3_fri_pow.specs.Counts.{IsWrongCount}
use Rattle.p3_fri_verifier.proofs.siblings.check_round.Goals as goal

pub returns-in-None-clause-exact : goal.returns-in-None-clause-exact
returns-in-None-clause-exact g c =
    let rows = ap (λ vectors. lists vectors) c.as_slice-rows.ensures.value in
    let wanted = c.siblings_in_row-expected.result in
    let all = All-same (λ row. length row ≡ wanted) _ _ (sym rows) (c.in-None.ensures.none.0 refl) in (
      (λ _. (
        ap length (sym rows) ∙ length-lists c.as_slice-rows.result.now ∙ c.if-rows-num_queries.false,
        λ k row l. omega (arith, all k row l, c.siblings_in_row-expected.ensures),
      )),
      (λ _. refl),
    )

pub returns-in-Some-clause-exact : goal.returns-in-Some-clause-exact
returns-in-Some-clause-exact g c =
    let rows = ap (λ vectors. lists vectors) c.as_slice-rows.ensures.value in
    let other = c.in-Some.ensures.some in (
      (λ e. cc),
      (λ h.
          let all = All-same (λ row. suc (length row) ≡ 2 ^ c.args.log_arity) _ _ rows h.1 in
          absurd (other.4.differ (omega (arith, all other.0 other.1 other.2, ap length other.3, other.4.got_is, c.siblings_in_row-expected.ensures)))),
    )

pub returns-in-Some-clause-refusal : goal.returns-in-Some-clause-refusal
returns-in-Some-clause-refusal g c =
    let wanted = c.siblings_in_row-expected.result in
    let asked : wanted ≡ 2 ^ c.args.log_arity - 1 = omega (arith, c.siblings_in_row-expected.ensures) in (
      refl,
      subst (λ vectors. Any (λ row. IsWrongCount (2 ^ c.args.log_arity - 1) (length row) wanted c.in-Some.got) (lists vectors))
          c.as_slice-rows.ensures.value
          (subst (λ n. Any (λ row. IsWrongCount n (length row) wanted c.in-Some.got) (lists c.as_slice-rows.result.now)) asked c.in-Some.ensures.some),
    )
