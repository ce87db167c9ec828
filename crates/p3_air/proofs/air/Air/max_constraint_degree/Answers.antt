use Rattle.std.proofs.Common.{◌<◌, ◌-◌, length, arith, subst, sym, ap}
use Rattle.std.proofs.lemmas.List.{get_or_read}
use Rattle.p3_air.specs.Nodes.{degrees_in}
use Rattle.p3_air.proofs.Degrees.{greatest_more}
use Rattle.p3_air.proofs.Meanings.{length_meanings}
use Rattle.p3_air.proofs.air.Air.max_constraint_degree.Goals as goal

pub index-requires-in-loop-k : goal.index-requires-in-loop-k
index-requires-in-loop-k g c =
    let air = c.args.self.now in
    let read = c.index.result.now in
    let there : c.loop-k.k - 1 < length air.constraints.items = omega arith in
    let named : read.node < length air.nodes.items =
    subst (λ x. x.node < length air.nodes.items) (sym c.index.ensures)
    (c.requires.well_formed.constraints (c.loop-k.k - 1) read there) in
    omega (
      arith,
      named,
      ap length c.in-Ok.ensures,
      length_meanings degrees_in air.nodes.items,
      c.in-Ok.degrees.ok.0,
    )

pub loop-k-preserved : goal.loop-k-preserved
loop-k-preserved g c =
    let air = c.args.self.now in
    let read = c.index.result.now in
    let degrees = c.in-Ok.degrees in
    let there : c.loop-k.k - 1 < length air.constraints.items = omega arith in
    let named : read.node < length air.nodes.items =
    subst (λ x. x.node < length air.nodes.items) (sym c.index.ensures)
    (c.requires.well_formed.constraints (c.loop-k.k - 1) read there) in
    let known : read.node < length degrees.items =
    omega (arith, named, ap length c.in-Ok.ensures, length_meanings degrees_in air.nodes.items) in
    record {
      within = omega (arith, there);
      run = greatest_more degrees.items air.constraints.items c.loop-k.k read
          c.index-in-loop-k.result.now c.loop-k.greatest c.max-greatest.result c.loop-k-test.true
          there c.index.ensures
          (get_or_read degrees.items read.node c.index-in-loop-k.result.now known
          c.index-in-loop-k.ensures 0)
          c.loop-k.invariant.run c.max-greatest.ensures;
    }
