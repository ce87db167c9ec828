use Rattle.std.proofs.Common.{length, ap, ◌∙◌, add-one}
use Rattle.std.proofs.lemmas.List.Edits.{length-insert}
use Rattle.p3_field_core.proofs.IndexPowers.{index_cut}
use Rattle.p3_fri_queries.proofs.Rows.{place_in_row}
use Rattle.p3_fri_queries.proofs.rounds.fold_round.Goals as goal

pub fold_row-folded-requires-clause-within_word : goal.fold_row-folded-requires-clause-within_word
fold_row-folded-requires-clause-within_word g c =
    index_cut c.args.link.index c.args.link.log_height c.args.round.log_arity
    c.requires.within_word c.requires.within_height

pub fold_row-folded-requires-clause-width : goal.fold_row-folded-requires-clause-width
fold_row-folded-requires-clause-width g c =
    let siblings = c.args.siblings.now in
    let below = place_in_row (length siblings) c.args.link.index c.args.round.log_arity
    c.requires.siblings c.requires.small in
    ap length (c.as_slice.ensures.value ∙ c.in_ok-row.ensures)
    ∙ length-insert siblings _ c.args.link.value below ∙ add-one (length siblings)
    ∙ c.requires.siblings
