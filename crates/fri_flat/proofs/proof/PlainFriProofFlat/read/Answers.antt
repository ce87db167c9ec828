use Rattle.std.proofs.Common.{◌++◌}
use Rattle.fri_flat.specs.Flat.{number, element, list, digest_bytes, batch_opening, round_opening}
use Rattle.fri_flat.proofs.Parts.{three_read}
use Rattle.fri_flat.proofs.proof.PlainFriProofFlat.read.Goals as goal

pub returns-clause-form : goal.returns-clause-form
returns-clause-form c =
    let l = c.args.layout in
    let bytes = c.args.reader.now.left.now in
    let witness = number l c.in_ok-read.field-0 in
    let commitments = list digest_bytes c.in_ok-read-2.field-0 in
    let witnesses = list (number l) c.in_ok-read-3.field-0 in
    let inputs = list (batch_opening l) c.in_ok-read-4.field-0 in
    let rounds = list (round_opening l) c.in_ok-read-5.field-0 in
    let after_third = c.read-3.new.reader.left.now in
    let after_fifth = c.read-5.new.reader.left.now in
    three_read bytes (witness ++ commitments ++ witnesses ++ inputs ++ rounds)
    (list (element l) c.in_ok-read-6.field-0) (number l c.in_ok-read-7.field-0) after_fifth
    c.read-6.new.reader.left.now c.read-7.new.reader.left.now
    (three_read bytes (witness ++ commitments ++ witnesses) inputs rounds after_third
    c.read-4.new.reader.left.now after_fifth
    (three_read bytes witness commitments witnesses c.read.new.reader.left.now
    c.read-2.new.reader.left.now after_third c.in_ok-read.ensures.form
    c.in_ok-read-2.ensures.form c.in_ok-read-3.ensures.form)
    c.in_ok-read-4.ensures.form c.in_ok-read-5.ensures.form)
    c.in_ok-read-6.ensures.form c.in_ok-read-7.ensures.form
