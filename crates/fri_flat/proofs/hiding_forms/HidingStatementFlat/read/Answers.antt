use Rattle.std.proofs.Common.{◌++◌}
use Rattle.std.specs.Prelude.{string_bytes}
use Rattle.fri_flat.specs.Flat.{word, context, parameters, list, batch_claims}
use Rattle.fri_flat.specs.Hiding.{index, hiding_proof}
use Rattle.fri_flat.proofs.Parts.{three_read, read_next}
use Rattle.fri_flat.proofs.hiding_forms.HidingStatementFlat.read.Goals as goal

pub returns-clause-form : goal.returns-clause-form
returns-clause-form c =
    let bytes = c.args.reader.now.left.now in
    let hidden = word c.in_ok-word.field-0 ++ index c.in_ok-index.field-0
    ++ context (string_bytes c.in_ok-context.field-0) in
    let stated = parameters c.in_ok-read.field-0 in
    let claimed = list (batch_claims c.args.layout) c.in_ok-read-2.field-0 in
    let after = c.context.new.self.left.now in
    let last = c.read-2.new.reader.left.now in
    read_next bytes (hidden ++ stated ++ claimed)
    (hiding_proof c.args.layout c.in_ok-read-3.field-0) last c.read-3.new.reader.left.now
    (three_read bytes hidden stated claimed after c.read.new.reader.left.now last
    (three_read bytes (word c.in_ok-word.field-0) (index c.in_ok-index.field-0)
    (context (string_bytes c.in_ok-context.field-0)) c.word.new.self.left.now
    c.index.new.self.left.now after c.in_ok-word.ensures.form c.in_ok-index.ensures.form
    c.in_ok-context.ensures.form)
    c.in_ok-read.ensures.form c.in_ok-read-2.ensures.form)
    c.in_ok-read-3.ensures.form
