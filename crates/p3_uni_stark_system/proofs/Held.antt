-- What is known of held columns, as prover and verifier ask for it.
use Rattle.std.proofs.Common.{◌≡◌, ℕ, ◌+◌, ◌^◌, Bool, List, length, ap, subst, ◌∙◌}
use Rattle.std.proofs.Common.{Option, None, Some}
use Rattle.p3_pcs.specs.Scheme.{Scheme, AreKept}
use Rattle.p3_stark_pcs.specs.Scheme.{StarkScheme}
use Rattle.p3_uni_stark_verifier.specs.Chunks.{hiding_bits}
use Rattle.p3_uni_stark_verifier.specs.declared.proof.PreprocessedVerifierKey.{
  PreprocessedVerifierKey,
}
use Rattle.p3_uni_stark_prover.specs.Held.{HoldPreprocessed, HavePreprocessedRows}
use Rattle.p3_uni_stark_prover.proofs.Kept.{extends_kept}
use Rattle.p3_uni_stark_system.specs.Keys.{IsKeyOf, AreHeld}

module _ {E C V Dom Com D Opening Error ProverError : Type 0}
    (r : Scheme E C V Dom Com D Opening Error ProverError) (zk : Bool)
    (IsSubgroup : ℕ → Dom → Type 0) (t : StarkScheme E V Dom D ProverError) (k width : ℕ)
    (rows : List (List V)) where
  pub held_key : (key : Option (PreprocessedVerifierKey Com)) (d : Option D)
      → AreHeld r zk IsSubgroup t k width rows key d → IsKeyOf r zk IsSubgroup width rows key
  held_key None None h = h
  held_key None (Some d) h = absurd h
  held_key (Some key) None h = absurd h
  held_key (Some key) (Some d) h = (d, h.3)

  pub held_rows : (key : Option (PreprocessedVerifierKey Com)) (d : Option D)
      → AreHeld r zk IsSubgroup t k width rows key d
      → HavePreprocessedRows r (IsSubgroup (k + hiding_bits zk)) rows d
  held_rows None None h = tt
  held_rows None (Some d) h = absurd h
  held_rows (Some key) None h = absurd h
  held_rows (Some key) (Some d) h = (
    h.3.domain,
    subst (λ n. IsSubgroup (n + hiding_bits zk) h.3.domain) h.1 h.3.is_domain,
    h.3.columns,
    h.3.are_rows,
    h.3.extends,
  )

  pub held_columns : (key : Option (PreprocessedVerifierKey Com)) (d : Option D)
      → AreHeld r zk IsSubgroup t k width rows key d
      → HoldPreprocessed r t (IsSubgroup (k + hiding_bits zk)) k width key d
  held_columns None None h = tt
  held_columns None (Some d) h = absurd h
  held_columns (Some key) None h = absurd h
  held_columns (Some key) (Some d) h = record {
    committed = h.3.committed;
    openable = h.2;
    log_height = h.1;
    columns = h.3.columns;
    width = h.3.widths;
    height = ap length h.3.are_rows ∙ h.3.height ∙ ap (λ n. 2 ^ n) h.1;
    domain = h.3.domain;
    is_domain = subst (λ n. IsSubgroup (n + hiding_bits zk) h.3.domain) h.1 h.3.is_domain;
    extends = h.3.extends;
  }

-- by other names of the width and the rows
pub held_renamed : {E C V Dom Com D Opening Error ProverError : Type 0}
    (r : Scheme E C V Dom Com D Opening Error ProverError) (zk : Bool)
    (IsSubgroup : ℕ → Dom → Type 0) (t : StarkScheme E V Dom D ProverError) (k : ℕ)
    (width other : ℕ) (rows others : List (List V)) → width ≡ other → rows ≡ others
    → (key : Option (PreprocessedVerifierKey Com)) (d : Option D)
    → AreHeld r zk IsSubgroup t k width rows key d → AreHeld r zk IsSubgroup t k other others key d
held_renamed r zk IsSubgroup t k width other rows others w s key d h =
    subst (λ v. AreHeld r zk IsSubgroup t k v others key d) w
    (subst (λ xs. AreHeld r zk IsSubgroup t k width xs key d) s h)

module _ {E C V Dom Com D Opening Error ProverError : Type 0}
    (old new : Scheme E C V Dom Com D Opening Error ProverError) (kept : AreKept old new)
    (zk : Bool) (IsSubgroup : ℕ → Dom → Type 0) (width : ℕ) (rows : List (List V)) where
  -- a key of one state of the scheme is one of a later state
  pub key_kept : (key : Option (PreprocessedVerifierKey Com))
      → IsKeyOf old zk IsSubgroup width rows key → IsKeyOf new zk IsSubgroup width rows key
  key_kept None h = h
  key_kept (Some key) h = (
    h.0,
    record {
      columns = h.1.columns;
      are_rows = h.1.are_rows;
      widths = h.1.widths;
      height = h.1.height;
      committed = record {
        honest = kept.honest h.0 h.1.committed.honest;
        commitment = ap (λ (f : D → Com). f h.0) kept.commitments ∙ h.1.committed.commitment;
      };
      domain = h.1.domain;
      is_domain = h.1.is_domain;
      extends = extends_kept old new kept h.1.domain h.1.columns h.0 h.1.extends;
    },
  )
