use Rattle.std.proofs.Common.{◌≡◌, ◌+◌}
use Rattle.std.proofs.lemmas.Result.{IfOk-weaker}
use Rattle.p3_fri_extensions.specs.Extension.{IsLowDegreeExtension}
use Rattle.p3_fri_extensions.proofs.Batches.{have_powers}
use Rattle.p3_fri_extensions.proofs.extension.commit_evaluations.Goals as goal

pub commit-requires : goal.commit-requires
commit-requires g c = record {
  heights = have_powers (λ matrix e. IsLowDegreeExtension g.F.Field.ops g.F.TwoAdicField.root
      g.F.Field.GENERATOR c.args.log_blowup e.0.shift e.0.log_size e.1 matrix) c.in_ok-words.words.items
      c.args.evaluations.items (λ w e r. (e.0.log_size + c.args.log_blowup, r.height)) c.in_ok-words.ensures.words;
}

pub returns-clause-words : goal.returns-clause-words
returns-clause-words g c =
    IfOk-weaker c.commit.result
    (λ pair. g.M.Mmcs.committed pair.1 ≡ c.in_ok-words.words.items) _
    (λ pair is. rw is c.in_ok-words.ensures.words) c.commit.ensures.matrices
