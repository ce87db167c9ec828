use Rattle.std.proofs.Common.{◌==◌, ◌<◌, Bool, map, length, sym, ap, ◌∙◌, arith}
use Rattle.std.proofs.lemmas.List.{length-map}
use Rattle.std.proofs.lemmas.List.Folds.{list_any_at}
use Rattle.p3_fri_openings.specs.Rounds.{log_height}
use Rattle.p3_fri_batch.specs.Words.{Opened}
use Rattle.p3_fri_batch.specs.Rounds.{as_opened}
use Rattle.algebra.proofs.Lists.{entry_of_map}
use Rattle.p3_fri_batch.proofs.opened.has_log_height.Goals as goal

pub returns-then-is_of_log_height : goal.returns-then-is_of_log_height
returns-then-is_of_log_height g c =
    let k = c.loop-opened.opened-index in
    let matrices = c.args.matrices.now in
    let o = c.opened-item.result in
    let below : k < length matrices = omega arith in
    let test : Opened g.row.F.Denot g.row.EF.Denot
    → Bool = λ m. log_height m.matrix == c.args.log_height in
    sym (list_any_at test (map as_opened matrices) k (as_opened o)
    (omega (arith, below, length-map matrices as_opened))
    (ap test (sym (entry_of_map as_opened matrices k o below c.opened-item.is))
    ∙ sym c.is_of_log_height.ensures ∙ c.if-is_of_log_height.true))
