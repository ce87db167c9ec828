-- What calls of a transcript keep, one call after another.
use Rattle.std.proofs.Common.{◌∙◌}
use Rattle.p3_challenger_fs.specs.declared.script.Script.{Script}
use Rattle.p3_fri_transcript.specs.declared.transcript.shape.FriShape.{FriShape}
use Rattle.p3_fri_transcript.specs.declared.transcript.state.FriTranscript.{FriTranscript}
use Rattle.p3_fri_transcript.specs.Views.{Kept}

pub kept_join : {Side C F E : Type 0} {before between after : FriTranscript Side C F E FriShape Script}
    → Kept before between → Kept between after → Kept before after
kept_join first second = record {
  same = second.same ∙ first.same;
  shape = second.shape ∙ first.shape;
}
