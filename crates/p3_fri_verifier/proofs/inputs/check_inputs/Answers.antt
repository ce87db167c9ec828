use Rattle.std.proofs.Common.{◌≡◌, ◌<◌, ◌∙◌, inr, sym, ap, refl, arith, length, take}
use Rattle.std.proofs.lemmas.List.{take_all}
use Rattle.std.proofs.lemmas.List.Elements.{All-more, All-same}
use Rattle.p3_fri_pow.specs.Counts.{IsWrongCount}
use Rattle.p3_fri_relation.specs.Views.{inputs_opened}
use Rattle.p3_fri_verifier.proofs.InputOpenings.{input_opened, length-inputs, input_at, input_within, rows_counted, at_input}
use Rattle.p3_fri_verifier.proofs.inputs.check_inputs.Goals as goal

pub returns-then-got-num_queries-clause-exact : goal.returns-then-got-num_queries-clause-exact
returns-then-got-num_queries-clause-exact g c =
    let i = c.loop-batch.batch in
    let o = c.index-inputs-batch.result in
    let l : i < length c.args.inputs.now = c.loop-batch-test.true in
    let found = rows_counted c.args.inputs.now i o l c.index-inputs-batch.is c.len-got.result c.len-got.ensures in (
      (λ e. cc),
      (λ h. absurd (c.if-got-num_queries.true (found
          ∙ ap (λ x. length x.rows) (sym (input_at c.args.inputs.now i o l c.index-inputs-batch.is))
          ∙ h.rows i (input_opened o) (input_within c.args.inputs.now i o l c.index-inputs-batch.is)))),
    )

pub returns-then-got-num_queries-clause-refusal : goal.returns-then-got-num_queries-clause-refusal
returns-then-got-num_queries-clause-refusal g c =
    let i = c.loop-batch.batch in
    let o = c.index-inputs-batch.result in
    let l : i < length c.args.inputs.now = c.loop-batch-test.true in
    let found = rows_counted c.args.inputs.now i o l c.index-inputs-batch.is c.len-got.result c.len-got.ensures in
    let wrong : IsWrongCount c.args.num_queries (length (input_opened o).rows) c.args.num_queries c.len-got.result =
    record { expected_is = refl; got_is = found; differ = λ e. c.if-got-num_queries.true (sym e) } in
    inr (
      i,
      c.args.num_queries,
      c.len-got.result,
      refl,
      at_input c.args.inputs.now i o l c.index-inputs-batch.is
          (λ x. IsWrongCount c.args.num_queries (length x.rows) c.args.num_queries c.len-got.result) wrong,
    )

pub loop-batch-preserved : goal.loop-batch-preserved
loop-batch-preserved g c =
    let i = c.loop-batch.batch in
    let o = c.index-inputs-batch.result in
    let l : i < length c.args.inputs.now = c.loop-batch-test.true in
    let found = rows_counted c.args.inputs.now i o l c.index-inputs-batch.is c.len-got.result c.len-got.ensures in
    All-more (λ x. length x.rows ≡ c.args.num_queries) (inputs_opened c.args.inputs.now) i (input_opened o)
    (input_within c.args.inputs.now i o l c.index-inputs-batch.is) c.loop-batch.invariant
    (ap (λ x. length x.rows) (input_at c.args.inputs.now i o l c.index-inputs-batch.is) ∙ sym found ∙ c.if-got-num_queries.false)

pub returns-clause-exact : goal.returns-clause-exact
returns-clause-exact g c =
    let opened = inputs_opened c.args.inputs.now in
    let i = c.loop-batch.batch in (
      (λ _. record {
        count = length-inputs c.args.inputs.now ∙ c.if-got-num_commitments.false;
        rows = All-same (λ x. length x.rows ≡ c.args.num_queries) opened (take i opened)
            (sym (take_all i opened (omega (arith, length-inputs c.args.inputs.now, c.loop-batch-test.false))))
            c.loop-batch.invariant;
      }),
      (λ _. refl),
    )
