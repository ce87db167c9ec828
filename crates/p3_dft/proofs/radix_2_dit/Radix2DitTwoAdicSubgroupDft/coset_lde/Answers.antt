-- One column is a matrix of width one.
use Rattle.std.proofs.Common.{◌+◌, ◌*◌, ◌^◌, arith, ap, sym, ◌∙◌}
use Rattle.algebra.proofs.Lists.{length-tabulate}
use Rattle.p3_field_core.specs.Coset.{coset_point, coset_points}
use Rattle.p3_dft.specs.Evaluations.{subgroup_points}
use Rattle.p3_dft.proofs.Columns.{Holds, length-held}
use Rattle.p3_dft.proofs.Batches.{held_by_values, held_by_new}
use Rattle.p3_dft.proofs.SingleColumns.{single_extension}
use Rattle.p3_dft.proofs.radix_2_dit.Radix2DitTwoAdicSubgroupDft.coset_lde.Goals as goal

pub coset_lde_batch-requires-clause-power_of_two : goal.coset_lde_batch-requires-clause-power_of_two
coset_lde_batch-requires-clause-power_of_two g c =
    let given = c.args.column in
    let held = held_by_new c.new-matrix.result 1 given.len given.len given.items (omega arith) given.ok.0 c.new-matrix.ensures.rows c.new-matrix.ensures.width (omega arith) in
    (c.requires.power_of_two.0, length-held g.F.Field.ops c.new-matrix.result 1 given.len given.items held ∙ c.requires.power_of_two.1)

pub coset_lde_batch-requires-clause-within_two_adicity : goal.coset_lde_batch-requires-clause-within_two_adicity
coset_lde_batch-requires-clause-within_two_adicity g c =
    let given = c.args.column in
    let held = held_by_new c.new-matrix.result 1 given.len given.len given.items (omega arith) given.ok.0 c.new-matrix.ensures.rows c.new-matrix.ensures.width (omega arith) in
    omega (arith, c.requires.within_two_adicity, ap (λ n. n * 2 ^ c.args.added_bits) (length-held g.F.Field.ops c.new-matrix.result 1 given.len given.items held))

pub returns : goal.returns
returns g c k size =
    let F = g.F.Field.ops in
    let given = c.args.column in
    let matrix = c.new-matrix.result in
    let extended = c.in_ok-extended.extended in
    let made = c.into_values.result in
    let root = g.F.TwoAdicField.root in
    let n = k + c.args.added_bits in
    let held : Holds matrix 1 (2 ^ k) given.items = held_by_new matrix 1 (2 ^ k) given.len given.items (omega arith) given.ok.0 c.new-matrix.ensures.rows c.new-matrix.ensures.width (omega (arith, size)) in
    let known = c.in_ok-extended.ensures k (length-held F matrix 1 (2 ^ k) given.items held) in
    single_extension F (subgroup_points F (root k) k) (coset_points F (root n) c.args.shift n) matrix extended (2 ^ k) (2 ^ n) given.items made.items known held
    (held_by_values extended 1 (2 ^ n) made.len made.items (omega arith) made.ok.0 (sym (known.width ∙ c.new-matrix.ensures.width))
    (sym (known.height ∙ length-tabulate (2 ^ n) (coset_point F (root n) c.args.shift))) c.into_values.ensures.rows c.into_values.ensures.len)
