use Rattle.std.proofs.Common.{◌≡◌, [], ◌∙◌, sym, ap, arith, length, get_or, below_more}
use Rattle.algebra.specs.Nested.{lists}
use Rattle.algebra.proofs.Nested.{length-lists, lists_at}
use Rattle.p3_fri_verifier.proofs.Lists.{all_from}
use Rattle.p3_fri_verifier.proofs.siblings.other_length.Goals as goal

pub returns-then-len-wanted-clause-none : goal.returns-then-len-wanted-clause-none
returns-then-len-wanted-clause-none g c =
    let i = c.loop-row.row-index in
    let at : length (get_or (lists c.args.rows.now) i []) ≡ c.len.result =
    ap length (lists_at c.args.rows.now i c.row-item.result c.loop-row-test.true)
    ∙ ap (λ v. length v.items) (sym c.row-item.is) ∙ sym c.row-item.result.ok.0 ∙ sym c.len.ensures in (
      (λ e. cc),
      (λ h. absurd (c.if-len-wanted.true (sym at ∙ h i []
          (omega (arith, c.loop-row-test.true, length-lists c.args.rows.now))))),
    )

pub loop-row-preserved : goal.loop-row-preserved
loop-row-preserved g c =
    let i = c.loop-row.row-index in
    let at : length (get_or (lists c.args.rows.now) i []) ≡ c.len.result =
    ap length (lists_at c.args.rows.now i c.row-item.result c.loop-row-test.true)
    ∙ ap (λ v. length v.items) (sym c.row-item.is) ∙ sym c.row-item.result.ok.0 ∙ sym c.len.ensures in
    below_more (λ k. length (get_or (lists c.args.rows.now) k []) ≡ c.args.wanted) i
    c.loop-row.invariant (at ∙ c.if-len-wanted.false)

pub returns-clause-none : goal.returns-clause-none
returns-clause-none g c = (
  (λ e. all_from (λ row. length row ≡ c.args.wanted) (lists c.args.rows.now) []
      (λ k l. c.loop-row.invariant k (omega (arith, l, c.loop-row-test.false, length-lists c.args.rows.now)))),
  (λ h. cc),
)
