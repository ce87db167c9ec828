use Rattle.std.proofs.Common.{◌≡◌, ◌<◌, ◌∙◌, length, sym, arith, Vec, Global}
use Rattle.algebra.specs.Nested.{lists}
use Rattle.algebra.proofs.Nested.{length-lists}
use Rattle.p3_fri_inputs.proofs.Places.{at_mapped, holds_next, holds_of_all}
use Rattle.p3_fri_inputs.proofs.opening.wrong_count.Goals as goal

pub returns-then-got-matrices : goal.returns-then-got-matrices
returns-then-got-matrices g c =
    let sets = c.args.sets.now in
    let k = c.loop-k.k in
    let v = c.index-sets-k.result in
    let is = c.index-sets-k.is in
    let below : k < length sets = c.loop-k-test.true in
    let rows_of = λ (set : Vec (Vec g.row.T.Denot Global) Global). lists set.items in
    let n = c.args.matrices in
    let count : c.len-got.result ≡ length (lists v.items) =
    c.len-got.ensures ∙ v.ok.0 ∙ sym (length-lists v.items) in
    let at = at_mapped rows_of (λ rows. length rows ≡ c.len-got.result) sets k v below is (sym count) in
    (c.if-got-matrices.true, (k, at.0, at.1, at.2, at.3))

pub loop-k-preserved : goal.loop-k-preserved
loop-k-preserved g c =
    let sets = c.args.sets.now in
    let k = c.loop-k.k in
    let v = c.index-sets-k.result in
    let is = c.index-sets-k.is in
    let below : k < length sets = c.loop-k-test.true in
    let rows_of = λ (set : Vec (Vec g.row.T.Denot Global) Global). lists set.items in
    let n = c.args.matrices in
    let count : c.len-got.result ≡ length (lists v.items) =
    c.len-got.ensures ∙ v.ok.0 ∙ sym (length-lists v.items) in
    holds_next rows_of (λ rows. length rows ≡ n) sets k v below is c.loop-k.invariant
    (sym count ∙ c.if-got-matrices.false)

pub returns : goal.returns
returns g c =
    let sets = c.args.sets.now in
    let k = c.loop-k.k in
    let rows_of = λ (set : Vec (Vec g.row.T.Denot Global) Global). lists set.items in
    holds_of_all rows_of (λ rows. length rows ≡ c.args.matrices) sets k (omega arith)
    c.loop-k.invariant
