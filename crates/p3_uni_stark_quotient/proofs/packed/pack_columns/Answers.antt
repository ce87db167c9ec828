use Rattle.std.proofs.Common.{◌≡◌, ◌<◌, [], ◌∷◌, ◌++◌, length, map, sym, ap, ap₂, subst, ◌∙◌, ◌≤◌, arith, slice_index_or}
use Rattle.std.proofs.lemmas.List.{map-append, take_more, take_all}
use Rattle.p3_uni_stark_quotient.proofs.packed.pack_columns.Goals as goal

pub loop-column-preserved : goal.loop-column-preserved
loop-column-preserved g c k row l =
    let zero = g.F.Field.ops.zero in
    let at : g.row.P.Denot → g.row.F.Denot = λ v. g.P.PackedField.lane v k in
    let column = c.loop-column.column in
    let entries = (slice_index_or c.args.rows.now k row).now in
    let long : length entries ≡ c.args.width =
    c.requires.width k row (omega (arith, l, c.requires.count)) in
    let test = c.loop-column-test.true in
    let within : column < length entries = omega (arith, long, test) in
    ap (λ vs. map at vs) c.in_ok-push.ensures.items
    ∙ map-append at c.loop-column.packed.items (c.pack_column.result ∷ [])
    ∙ ap₂ (λ xs x. xs ++ x ∷ []) (c.loop-column.invariant k row l)
    (c.pack_column.ensures k zero row l)
    ∙ sym (take_more entries column zero within)

pub returns : goal.returns
returns g c l row within =
    let column = c.loop-column.column in
    let rows = c.args.rows.now in
    let long = c.requires.width l row (subst (λ n. l < n) (sym c.requires.count) within) in
    c.loop-column.invariant l row within
    ∙ take_all column (slice_index_or rows l row).now
    (subst (λ n. n ≤ column) (sym long) c.loop-column-test.false)
