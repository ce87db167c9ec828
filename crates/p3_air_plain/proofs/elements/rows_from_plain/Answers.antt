use Rattle.std.proofs.Common.{◌≡◌, ◌++◌, ◌∷◌, [], subst, sym, map, take, ◌+◌}
use Rattle.std.proofs.lemmas.Grind.{common_steps}
use Rattle.std.proofs.Common.{arith}
use Rattle.algebra.specs.Nested.{lists}
use Rattle.p3_air_plain.specs.Elements.{ListFault}
use Rattle.p3_air_plain.proofs.Rows.{row_refused, rows_more}
use Rattle.p3_air_plain.proofs.elements.rows_from_plain.Goals as goal

pub returns-in-Err-elements_from_plain-clause-refused : goal.returns-in-Err-elements_from_plain-clause-refused
returns-in-Err-elements_from_plain-clause-refused g c =
    let order = g.F.PrimeField64.ORDER_U64 in
    let fault = c.in-Err-elements_from_plain.fault in
    row_refused order c.args.part c.args.rows.now c.loop-row.row c.index-rows-row.result
    c.loop-row-test.true c.index-rows-row.is fault
    (subst (λ numbers. ListFault order c.args.part c.loop-row.row numbers fault)
    c.as_slice.ensures.value c.in-Err-elements_from_plain.ensures.refused)

pub loop-row-preserved : goal.loop-row-preserved
loop-row-preserved g c =
    let canonical = g.F.PrimeField64.canonical in
    let elements = c.in-Ok-elements_from_plain.elements in
    let here : map canonical elements.items ≡ c.index-rows-row.result.items =
    subst (λ numbers. map canonical elements.items ≡ numbers) c.as_slice.ensures.value
    c.in-Ok-elements_from_plain.ensures.numbers in
    let more = rows_more canonical c.loop-row.all.items c.args.rows.now c.loop-row.row elements
    c.index-rows-row.result c.loop-row-test.true c.index-rows-row.is here c.loop-row.invariant in
    let pushed : c.push.new.self.items ≡ c.loop-row.all.items ++ elements ∷ [] =
    grind (arith, common_steps) in
    subst (λ rows. map (map canonical) (lists rows) ≡ take (c.loop-row.row + 1) (lists c.args.rows.now))
    (sym pushed) more

-- where nothing is answered nothing is said of the answer
pub returns-in-Err-elements_from_plain-clause-numbers : goal.returns-in-Err-elements_from_plain-clause-numbers
returns-in-Err-elements_from_plain-clause-numbers g c = tt

pub returns-then-is_err-clause-numbers : goal.returns-then-is_err-clause-numbers
returns-then-is_err-clause-numbers g c = tt
