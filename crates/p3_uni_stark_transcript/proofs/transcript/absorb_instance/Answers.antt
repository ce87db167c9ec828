use Rattle.std.proofs.Common.{◌∙◌, ap}
use Rattle.p3_challenger_fs.specs.Description.{stream_of}
use Rattle.p3_challenger_fs.specs.Turns.{bytes_observed}
use Rattle.p3_uni_stark_transcript.specs.Steps.{stark_stream}
use Rattle.p3_uni_stark_transcript.proofs.transcript.absorb_instance.Goals as goal

pub returns-clause-absorbed : goal.returns-clause-absorbed
unfolding stark_stream
returns-clause-absorbed g c =
    c.start-script.ensures.state
    ∙ ap (λ bytes. bytes_observed g.F.Field.ops g.C.CanObserve.observed c.args.challenger.now bytes)
    (c.in_ok-seed.ensures.stream ∙ ap (λ d. stream_of d) c.in_ok-separator.ensures)
