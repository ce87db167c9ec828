-- What contracts see of a transcript: its challenger's state, the steps left, its shape.
use Rattle.std.specs.Prelude.{◌≡◌, ℕ, List}
use Rattle.std.specs.Borrow.{MutBor}
use Rattle.algebra.specs.Field.{FieldOps}
use Rattle.p3_challenger_fs.specs.declared.pattern.Turn.{Turn}
use Rattle.p3_challenger_fs.specs.declared.script.Script.{Script}
use Rattle.p3_challenger_fs.specs.Script.{remaining}
use Rattle.p3_challenger_fs.specs.Turns.{bytes_observed}
use Rattle.p3_fri_transcript.specs.declared.transcript.shape.FriShape.{FriShape}
use Rattle.p3_fri_transcript.specs.declared.transcript.state.FriTranscript.{FriTranscript}
use Rattle.p3_fri_transcript.specs.Shapes.{fri_shape}
use Rattle.p3_fri_transcript.specs.Steps.{FriNumbers}

module _ {Side C F E : Type 0} where
  -- the state of its challenger
  abbrev pub state_of : FriTranscript Side C F E FriShape Script → C
  state_of t = t.challenger.now

  -- the steps that aren't played yet, in order
  abbrev pub left_of : FriTranscript Side C F E FriShape Script → List Turn
  left_of t = remaining t.script

  -- what it describes
  abbrev pub shape_of : FriTranscript Side C F E FriShape Script → FriNumbers
  shape_of t = fri_shape t.shape

  -- what each call keeps: the challenger that is borrowed, and the shape
  pub record Kept (before after : FriTranscript Side C F E FriShape Script) : Type 0 where
    pub same : after.challenger.ghost_name ≡ before.challenger.ghost_name
    pub shape : shape_of after ≡ shape_of before

  -- it borrows this challenger, which has absorbed the stream, and has this shape
  pub record Starts (ops : FieldOps F) (observe : C → F → C) (challenger : MutBor C)
      (stream : List ℕ) (described : FriShape)
      (t : FriTranscript Side C F E FriShape Script) : Type 0 where
    pub same : t.challenger.ghost_name ≡ challenger.ghost_name
    pub state : state_of t ≡ bytes_observed ops observe challenger.now stream
    pub shape : shape_of t ≡ fri_shape described
