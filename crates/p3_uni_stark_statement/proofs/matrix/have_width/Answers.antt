use Rattle.std.proofs.Common.{◌≡◌, ◌<◌, List, [], length, arith, refl, subst, sym, ap, ◌∙◌}
use Rattle.std.proofs.lemmas.Bool.{false≢true}
use Rattle.algebra.specs.Nested.{lists}
use Rattle.algebra.proofs.Nested.{length-lists}
use Rattle.p3_air.proofs.First.{list_read, one_list_more, lists_to_the_end}
use Rattle.p3_uni_stark_statement.proofs.matrix.have_width.Goals as goal

pub loop-i-preserved : goal.loop-i-preserved
loop-i-preserved g c =
    let Fits : List g.row.T.Denot → Type 0 = λ row. length row ≡ c.args.width in
    let row = c.index-rows-i.result in
    let here : length row.items ≡ c.args.width =
    omega (arith, row.ok.0, c.len.ensures, c.if-len-width.false) in
    one_list_more Fits c.args.rows.now c.loop-i.i row c.loop-i-test.true
    c.index-rows-i.is c.loop-i.invariant here

pub returns-then-len-width : goal.returns-then-len-width
returns-then-len-width g c = (
  λ no. absurd (false≢true no),
  λ all.
      let rows = c.args.rows.now in
      let row = c.index-rows-i.result in
      let there : c.loop-i.i < length (lists rows) =
      subst (λ n. c.loop-i.i < n) (sym (length-lists rows)) c.loop-i-test.true in
      let here : length row.items ≡ c.args.width =
      ap length (sym (list_read rows c.loop-i.i row c.loop-i-test.true c.index-rows-i.is))
      ∙ all c.loop-i.i [] there in
      absurd (omega (arith, row.ok.0, c.len.ensures, c.if-len-width.true, here)),
)

pub returns : goal.returns
returns g c =
    let Fits : List g.row.T.Denot → Type 0 = λ row. length row ≡ c.args.width in (
      λ yes. lists_to_the_end Fits c.args.rows.now c.loop-i.i c.loop-i-test.false
          c.loop-i.invariant,
      λ all. refl,
    )
