use Rattle.std.proofs.Common.{◌≡◌, ◌^◌, length, sym, ap, ◌∙◌, arith}
use Rattle.algebra.specs.Nested.{lists, nested}
use Rattle.p3_matrix.specs.Matrix.{matrix_width}
use Rattle.p3_fri_prover.proofs.Openings.{some_row_at, place_within, opens_rows, some_rows, same_only}
use Rattle.std.proofs.lemmas.List.{length-map}
use Rattle.std.proofs.lemmas.Nat.{pow_pos}
use Rattle.algebra.proofs.Nested.{length-nested}
use Rattle.p3_fri_prover.proofs.prover.openings.open_round.Goals as goal

pub siblings_of_each-requires-clause-some_place : goal.siblings_of_each-requires-clause-some_place
siblings_of_each-requires-clause-some_place g c =
    omega (arith, c.arity_of.ensures, pow_pos c.args.log_arity)

pub siblings_of_each-requires-clause-count : goal.siblings_of_each-requires-clause-count
siblings_of_each-requires-clause-count g c =
    let opened = c.in_ok-opened.opened.items in
    omega (
      arith,
      ap length c.deref_mut.ensures.value,
      length-nested opened,
      simp length-map at (ap length c.in_ok-opened.ensures.rows),
      ap length c.deref.ensures.value,
      simp length-map at (ap length c.in_ok-rows.ensures),
    )

pub siblings_of_each-requires-clause-some_row : goal.siblings_of_each-requires-clause-some_row
siblings_of_each-requires-clause-some_row g c =
    let matrices = g.M.Mmcs.committed c.args.prover_data.now in
    let one = c.requires.one_matrix in
    let own = c.in_ok-rows.rows.items in
    let opened = nested c.in_ok-opened.opened.items in
    let given : c.deref.result.now ≡ own = c.deref.ensures.value in
    let lent : c.deref_mut.result.now ≡ c.in_ok-opened.opened.items = c.deref_mut.ensures.value in
    rw lent (some_row_at c.args.log_arity one.matrix matrices c.args.indices.now own opened one.only
    (some_rows matrices one.matrix one.only (g.met.M.Mmcs.heights_law c.args.prover_data.now))
    one.width_of c.in_ok-rows.ensures (rw given at c.in_ok-opened.ensures.rows))

pub siblings_of_each-requires-clause-within : goal.siblings_of_each-requires-clause-within
siblings_of_each-requires-clause-within g c =
    let matrices = g.M.Mmcs.committed c.args.prover_data.now in
    let one = c.requires.one_matrix in
    let own = c.in_ok-rows.rows.items in
    let opened = nested c.in_ok-opened.opened.items in
    let given : c.deref.result.now ≡ own = c.deref.ensures.value in
    let lent : c.deref_mut.result.now ≡ c.in_ok-opened.opened.items = c.deref_mut.ensures.value in
    rw lent (λ j l. place_within c.args.log_arity one.matrix matrices c.args.indices.now own opened one.only
    (some_rows matrices one.matrix one.only (g.met.M.Mmcs.heights_law c.args.prover_data.now))
    one.width_of c.in_ok-rows.ensures (rw given at c.in_ok-opened.ensures.rows)
    (rw (sym c.in_ok-rows.ensures) at c.requires.below) c.arity_of.result j c.arity_of.ensures l)

pub returns : goal.returns
returns g c = λ matrix only.
    let datum = c.args.prover_data.now in
    let matrices = g.M.Mmcs.committed datum in
    let one = c.requires.one_matrix in
    let own = c.in_ok-rows.rows.items in
    let opened = nested c.in_ok-opened.opened.items in
    let given : c.deref.result.now ≡ own = c.deref.ensures.value in
    let lent : c.deref_mut.result.now ≡ c.in_ok-opened.opened.items = c.deref_mut.ensures.value in
    let width : matrix_width matrix ≡ 2 ^ c.args.log_arity =
    ap matrix_width (same_only matrices matrix one.matrix only one.only) ∙ one.width_of in
    opens_rows c.args.log_arity matrix matrices c.args.indices.now own opened only
    (some_rows matrices matrix only (g.met.M.Mmcs.heights_law datum))
    width c.in_ok-rows.ensures (rw given at c.in_ok-opened.ensures.rows)
    (g.M.Mmcs.opens c.args.mmcs.now) c.arity_of.result (g.M.Mmcs.commitment_of datum)
    (lists c.in_ok-sibling_values.sibling_values.items) c.in_ok-opened.opening_proof c.arity_of.ensures
    (rw lent at c.in_ok-sibling_values.ensures) (rw given at c.in_ok-opened.ensures.opens)
