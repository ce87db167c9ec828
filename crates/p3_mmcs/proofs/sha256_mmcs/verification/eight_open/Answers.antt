use Rattle.std.proofs.Common.{◌≡◌, ◌<◌, ◌^◌, ℕ, [], slice_index_or, rules, arith, ap, sym, ◌∙◌}
use Rattle.std.specs.Prelude.{IsTrue}
use Rattle.algebra.specs.Nested.{lists, nested}
use Rattle.algebra.proofs.Nested.{length-lists, length-nested}
use Rattle.p3_mmcs.specs.Tree.{leaf, climb, OpensAt}
use Rattle.p3_mmcs.proofs.Queries.{each_at, each_from}
use Rattle.p3_mmcs.proofs.Shapes.{opening_shaped}
use Rattle.p3_mmcs.proofs.sha256_mmcs.verification.eight_open.Goals as goal

pub returns-then-not-are_shaped : goal.returns-then-not-are_shaped
returns-then-not-are_shaped g c =
    let bytes = g.T.ElementBytes.bytes in
    let commitment = c.args.commitment.now in
    let dims = c.args.dimensions.now in
    let indices = c.args.indices.now in
    let sets = nested c.args.opened_values.now in
    let paths = lists c.args.paths.now in (
      λ e. cc,
      λ opens. c.if-not-are_shaped.ensures.1 (λ k l.
          opening_shaped bytes commitment dims c.args.log_height (slice_index_or indices k 0)
          (slice_index_or sets k []) (slice_index_or paths k []) c.requires.greatest
          (each_at (OpensAt bytes commitment dims) indices sets paths opens k
          (omega (arith, l, c.requires.sets, c.requires.indices)))),
    )

pub roots_over_eight-roots-requires-clause-levels : goal.roots_over_eight-roots-requires-clause-levels
roots_over_eight-roots-requires-clause-levels g c k l =
    let shaped : IsTrue c.are_shaped.result = search rules in
    (c.are_shaped.ensures.0 shaped k (omega (arith, l, c.requires.sets))).levels

pub returns : goal.returns
returns g c =
    let bytes = g.T.ElementBytes.bytes in
    let commitment = c.args.commitment.now in
    let dims = c.args.dimensions.now in
    let indices = c.args.indices.now in
    let sets = nested c.args.opened_values.now in
    let paths = lists c.args.paths.now in
    let opens = OpensAt bytes commitment dims in
    let shaped : IsTrue c.are_shaped.result = search rules in
    let root_is : (k : ℕ) → k < 8 → slice_index_or c.roots_over_eight-roots.result k []
    ≡ climb (slice_index_or indices k 0) (leaf bytes (slice_index_or sets k []))
    (slice_index_or paths k []) =
    λ k l. c.roots_over_eight-roots.ensures k l
    ∙ ap (λ d. climb (slice_index_or indices k 0) d (slice_index_or paths k []))
    (c.leaves_of_eight-leaves.ensures k l) in (
      λ all. each_from opens indices sets paths
          (length-nested c.args.opened_values.now ∙ c.requires.sets ∙ sym c.requires.indices)
          (length-lists c.args.paths.now ∙ c.requires.paths ∙ sym c.requires.indices)
          (λ k l.
          let eight : k < 8 = omega (arith, l, c.requires.indices) in
          let here = c.are_shaped.ensures.0 shaped k (omega (arith, eight, c.requires.sets)) in
          record {
            widths = here.widths;
            levels = ap (λ n. 2 ^ n) here.levels ∙ c.requires.greatest;
            root = sym (root_is k eight) ∙ c.are_all.ensures.0 all k eight;
          }),
      λ each. c.are_all.ensures.1 (λ k l. root_is k l
          ∙ (each_at opens indices sets paths each k (omega (arith, l, c.requires.indices))).root),
    )
