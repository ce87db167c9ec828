use Rattle.std.proofs.Common.{◌≡◌, ◌+◌, ◌%◌, get_or, ap, ap₂, ◌∙◌, arith}
use Rattle.sha2.specs.Sha256.{add32, small_sigma0, small_sigma1}
use Rattle.sha256_lanes.specs.Words.{lane_words}
use Rattle.sha256_lanes.proofs.Windows.{lane_words_at}
use Rattle.sha256_lanes.proofs.rounds.schedule_word.Goals as goal

pub returns-clause-value : goal.returns-clause-value
returns-clause-value c = λ lane lt.
    let rows = c.args.window.now in
    let own : c.args.place ≡ c.args.place % 16 = omega arith in
    c.sum-word.ensures lane lt
    ∙ ap₂ add32 (
    c.sum-old.ensures lane lt
    ∙ ap₂ add32 (
    c.sum-recent.ensures lane lt
    ∙ ap₂ add32
    (c.lower_sigma1.ensures lane lt ∙ ap small_sigma1 (lane_words_at rows lane ((c.args.place + 14) % 16) _ (omega arith)))
    (lane_words_at rows lane ((c.args.place + 9) % 16) _ (omega arith)))
    (c.lower_sigma0.ensures lane lt ∙ ap small_sigma0 (lane_words_at rows lane ((c.args.place + 1) % 16) _ (omega arith))))
    (lane_words_at rows lane c.args.place _ (omega arith) ∙ ap (λ i. get_or (lane_words rows lane) i 0) own)
