-- A transcript that lends its challenger.
use Rattle.p3_challenger_fs.specs.declared.script.Script.{Script}
use Rattle.p3_challenger_fs.specs.Script.{step_played}
use Rattle.p3_fri_pcs_transcript.specs.declared.pcs_transcript.shape.PcsShape.{PcsShape}
use Rattle.p3_fri_pcs_transcript.specs.declared.pcs_transcript.state.PcsTranscript.{PcsTranscript}

-- the transcript when its challenger is given back in the state `now`: one more step was played
abbrev pub given_back : {Side C F E : Type 0} → PcsTranscript Side C F E PcsShape Script → C
    → PcsTranscript Side C F E PcsShape Script
given_back t now =
    record t { challenger = record t.challenger { now = now }; script = step_played t.script }
