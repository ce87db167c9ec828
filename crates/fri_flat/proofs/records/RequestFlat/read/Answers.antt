use Rattle.std.specs.Prelude.{string_bytes}
use Rattle.fri_flat.specs.Flat.{context, parameters, list, batch}
use Rattle.fri_flat.proofs.Parts.{three_read}
use Rattle.fri_flat.proofs.records.RequestFlat.read.Goals as goal

pub returns-clause-form : goal.returns-clause-form
returns-clause-form c = three_read c.args.reader.now.left.now
    (context (string_bytes c.in_ok-context.field-0)) (parameters c.in_ok-read.field-0)
    (list (batch c.args.layout) c.in_ok-read-2.field-0) c.context.new.self.left.now
    c.read.new.reader.left.now c.read-2.new.reader.left.now c.in_ok-context.ensures.form
    c.in_ok-read.ensures.form c.in_ok-read-2.ensures.form
