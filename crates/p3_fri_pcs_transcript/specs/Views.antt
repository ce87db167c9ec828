-- What contracts see of a transcript: its challenger's state, the turns left, its shape.
use Rattle.std.specs.Prelude.{◌≡◌, ℕ, List, []}
use Rattle.std.specs.Borrow.{MutBor}
use Rattle.algebra.specs.Field.{FieldOps}
use Rattle.p3_challenger_fs.specs.declared.pattern.Turn.{Turn}
use Rattle.p3_challenger_fs.specs.declared.script.Script.{Script}
use Rattle.p3_challenger_fs.specs.Script.{remaining}
use Rattle.p3_challenger_fs.specs.Turns.{bytes_observed}
use Rattle.p3_fri_pcs_transcript.specs.declared.pcs_transcript.shape.PcsShape.{PcsShape}
use Rattle.p3_fri_pcs_transcript.specs.declared.pcs_transcript.state.PcsTranscript.{PcsTranscript}
use Rattle.p3_fri_pcs_transcript.specs.Shapes.{pcs_shape}
use Rattle.p3_fri_pcs_transcript.specs.Steps.{PcsNumbers, widths, pcs_stream}
use Rattle.p3_fri_pcs_transcript.specs.Turns.{ClaimsLeft}

module _ {Side C F E : Type 0} where
  -- the state of its challenger
  abbrev pub state_of : PcsTranscript Side C F E PcsShape Script → C
  state_of t = t.challenger.now

  -- the turns that aren't played yet, in order
  abbrev pub left_of : PcsTranscript Side C F E PcsShape Script → List Turn
  left_of t = remaining t.script

  -- what it describes
  abbrev pub shape_of : PcsTranscript Side C F E PcsShape Script → PcsNumbers
  shape_of t = pcs_shape t.shape

  -- all claims are left, and what follows them
  abbrev pub AllClaimsLeft : (d : ℕ) → PcsTranscript Side C F E PcsShape Script → Type 0
  AllClaimsLeft d t = ClaimsLeft d (shape_of t) (widths (shape_of t).counts) (left_of t)

  -- what follows the claims is left
  abbrev pub NoClaimsLeft : (d : ℕ) → PcsTranscript Side C F E PcsShape Script → Type 0
  NoClaimsLeft d t = ClaimsLeft d (shape_of t) [] (left_of t)

  -- what each call keeps: the challenger that is borrowed, and the shape
  pub record Kept (before after : PcsTranscript Side C F E PcsShape Script) : Type 0 where
    pub same : after.challenger.ghost_name ≡ before.challenger.ghost_name
    pub shape : shape_of after ≡ shape_of before

  -- it borrows this challenger, which has absorbed the stream, and has this shape
  pub record Starts (ops : FieldOps F) (observe : C → F → C) (challenger : MutBor C)
      (stream : List ℕ) (described : PcsShape)
      (t : PcsTranscript Side C F E PcsShape Script) : Type 0 where
    pub same : t.challenger.ghost_name ≡ challenger.ghost_name
    pub state : state_of t ≡ bytes_observed ops observe challenger.now stream
    pub shape : shape_of t ≡ pcs_shape described

  -- it has absorbed the stream of its shape, from this state on
  abbrev pub IsSeeded : FieldOps F → (C → F → C) → (d : ℕ) (before : C)
      → PcsTranscript Side C F E PcsShape Script → Type 0
  IsSeeded ops observe d before t =
      state_of t ≡ bytes_observed ops observe before (pcs_stream d (shape_of t))
