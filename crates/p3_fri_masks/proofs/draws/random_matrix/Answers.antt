use Rattle.std.proofs.Common.{◌∙◌, ap}
use Rattle.p3_matrix.specs.Words.{past}
use Rattle.p3_fri_masks.proofs.RandomRows.{random_rows_are, whole_rows_drawn}
use Rattle.p3_fri_masks.proofs.draws.random_matrix.Goals as goal

pub new-requires-clause-whole_rows : goal.new-requires-clause-whole_rows
new-requires-clause-whole_rows g c =
    whole_rows_drawn g.T.SampleField.from_word c.args.height c.args.width c.in-Some.size
    c.in_ok-values.values.len c.in_ok-values.values.items (g.R.Rng.stream c.args.rng.now)
    c.requires.has_columns c.in-Some.ensures.1 c.in_ok-values.ensures.values c.in_ok-values.values.ok.0

pub returns-clause-rows : goal.returns-clause-rows
returns-clause-rows g c =
    c.new.ensures.rows
    ∙ random_rows_are g.T.SampleField.from_word c.args.height c.args.width c.in-Some.size
    c.in_ok-values.values.items (g.R.Rng.stream c.args.rng.now) c.requires.has_columns c.in-Some.ensures.1
    c.in_ok-values.ensures.values

pub returns-clause-past : goal.returns-clause-past
returns-clause-past g c =
    c.in_ok-values.ensures.past
    ∙ ap (λ n. past n (g.R.Rng.stream c.args.rng.now)) c.in-Some.ensures.1
