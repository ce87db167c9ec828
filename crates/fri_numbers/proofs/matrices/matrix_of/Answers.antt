use Rattle.std.proofs.Common.{◌^◌, length, ap, ◌∙◌, sym}
use Rattle.fri_numbers.proofs.Sizes.{whole_rows, height_of}
use Rattle.fri_numbers.proofs.matrices.matrix_of.Goals as goal

pub new-requires-clause-whole_rows : goal.new-requires-clause-whole_rows
new-requires-clause-whole_rows g c =
    whole_rows _ c.args.width (2 ^ c.args.log_size) c.requires.size c.requires.some

pub returns-clause-height : goal.returns-clause-height
returns-clause-height g c = ap length c.new.ensures.rows
    ∙ height_of c.args.width (2 ^ c.args.log_size) c.args.values.items
    (sym c.args.values.ok.0 ∙ c.requires.size) c.requires.some
