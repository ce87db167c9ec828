-- What a statement and a proof show to the transcript and to the constraints.
use Rattle.std.specs.Prelude.{◌≡◌, ⊤, ℕ, List, Option, Some, None}
use Rattle.algebra.specs.Nested.{lists}
use Rattle.p3_air.specs.Nodes.{Entries}
use Rattle.p3_uni_stark_transcript.specs.Instance.{Instance}
use Rattle.p3_uni_stark_transcript.specs.declared.transcript.StarkCommitments.{StarkCommitments}
use Rattle.p3_uni_stark_verifier.specs.declared.proof.PreprocessedVerifierKey.{
  PreprocessedVerifierKey,
}
use Rattle.p3_uni_stark_verifier.specs.declared.proof.Statement.{Statement}
use Rattle.p3_uni_stark_verifier.specs.declared.proof.Proof.{Proof}

-- the commitment of a key that there may be
abbrev pub key_commitment : {Com : Type 0} → Option (PreprocessedVerifierKey Com) → Option Com
key_commitment None = None
key_commitment (Some key) = Some key.commitment

-- the columns of a key that there may be have `2^k` rows
abbrev pub HasHeight : {Com : Type 0} → Option (PreprocessedVerifierKey Com) → (k : ℕ) → Type 0
HasHeight None k = ⊤
HasHeight (Some key) k = key.log_height ≡ k

module _ {V E Com Opening : Type 0} (s : Statement V Com) (p : Proof E Com Opening) where
  -- all commitments, in the order in which they are absorbed: that to preprocessed columns is the
  -- statement's, the others are the proof's
  abbrev pub all_commitments : StarkCommitments Com
  all_commitments = record {
    preprocessed = key_commitment s.preprocessed;
    trace = p.commitments.trace;
    quotient = p.commitments.quotient_chunks;
    random = p.commitments.random;
  }

  -- what the transcript is bound to
  abbrev pub instance_shown : Instance V
  instance_shown = record {
    layout = s.air.now.layout;
    nodes = s.air.now.nodes.items;
    constraints = s.air.now.constraints.items;
    public_values = s.public_values.now;
    periodic = lists s.periodic.now;
    log_height = p.log_height;
  }

  -- what constraints see, where periodic columns have these values
  abbrev pub entries_shown : (periodic : List E) → Entries V E
  entries_shown periodic = record {
    local = p.opened_values.trace_local.items;
    next = p.opened_values.trace_next.items;
    preprocessed = p.opened_values.preprocessed_local.items;
    preprocessed_next = p.opened_values.preprocessed_next.items;
    public_values = s.public_values.now;
    periodic = periodic;
  }
