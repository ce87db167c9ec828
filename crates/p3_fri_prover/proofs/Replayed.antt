-- What is drawn along the whole test, from the rounds and the queries that were played, and where
-- the positions lie.
use Rattle.std.proofs.Common.{◌≡◌, ℕ, ◌+◌, ◌-◌, ◌/◌, ◌^◌, ◌<◌, true, List, length, get_or, map, Some}
use Rattle.std.proofs.Common.{sym, ap, ◌∙◌, arith, subst}
use Rattle.std.specs.Prelude.{All}
use Rattle.std.proofs.lemmas.List.{length-map}
use Rattle.std.proofs.lemmas.List.Elements.{All-map}
use Rattle.p3_challenger_fs.specs.Turns.{bytes_observed}
use Rattle.p3_fri_transcript.specs.Indices.{AreIndices}
use Rattle.p3_fri_transcript.specs.Steps.{FriNumbers, fri_stream}
use Rattle.p3_fri_transcript.specs.Replay.{rounds_replay, shown_queries_replay, FriReplay}
use Rattle.p3_fri_transcript.proofs.Joining.{queries_joined}
use Rattle.p3_fri_relation.specs.Setting.{Setting, Parameters, Proof}
use Rattle.p3_fri_prover.specs.Proved.{fri_numbers, replayed, positions}
use Rattle.p3_field_core.proofs.IndexPowers.{index_cut}

-- indices without their lowest bits
module _ (numbers : FriNumbers) (top extra : ℕ) (indices ps : List ℕ)
    (width : numbers.index_bits ≡ top + extra) (drawn : AreIndices numbers indices)
    (shifted : ps ≡ map (λ i. i / 2 ^ extra) indices) where
  pub positions_many : length ps ≡ numbers.num_queries
  positions_many = ap length shifted ∙ length-map indices (λ i. i / 2 ^ extra) ∙ drawn.count

  pub positions_below : All (λ q. q < 2 ^ top) ps
  positions_below =
      subst (λ qs. All (λ q. q < 2 ^ top) qs) (sym shifted)
      (All-map (λ q. q < 2 ^ top) (λ i. i / 2 ^ extra) indices
      (λ k d l.
      let e : top + extra - extra ≡ top = omega arith in
      subst (λ m. get_or indices k d / 2 ^ extra < 2 ^ m) e
      (index_cut (get_or indices k d) (top + extra) extra
      (subst (λ m. get_or indices k d < 2 ^ m) width (drawn.below k d l)) (omega arith))))

module _ {F E C Com Path InCom InPath : Type 0} (s : Setting F E C Com Path InCom InPath)
    (p : Parameters) (heights : List ℕ) (top : ℕ) (words : List (List E)) (c : C)
    (proof : Proof F E Com Path InPath) (seeded now last : C) (betas : List E) (indices : List ℕ)
    (start : seeded ≡ bytes_observed s.fields.base s.moves.observe_value c
    (fri_stream s.fields.degree (fri_numbers p heights top s.extra_bits)))
    (rounds : rounds_replay s.moves p.commit_pow_bits seeded proof.commitments
    proof.commit_witnesses ≡ record { passes = true; betas = betas; state = now })
    (queries : shown_queries_replay s.moves s.fields.coefficients
    (fri_numbers p heights top s.extra_bits) now proof.final_poly (Some proof.query_witness)
    ≡ record { passes = true; indices = indices; state = last }) where
  abbrev whole : FriReplay C E
  whole = replayed s p heights top words c proof

  is_replayed : whole
      ≡ record { passes = true; betas = betas; indices = indices; state = last }
  is_replayed =
      let numbers = fri_numbers p heights top s.extra_bits in
      queries_joined s.moves s.fields.coefficients numbers s.fields.base
      (fri_stream s.fields.degree numbers) c seeded now last proof.commitments
      proof.commit_witnesses proof.final_poly (Some proof.query_witness) betas indices start rounds
      queries

  pub replayed_passes : whole.passes ≡ true
  replayed_passes = ap (λ (r : FriReplay C E). r.passes) is_replayed

  pub replayed_betas : whole.betas ≡ betas
  replayed_betas = ap (λ (r : FriReplay C E). r.betas) is_replayed

  pub replayed_state : whole.state ≡ last
  replayed_state = ap (λ (r : FriReplay C E). r.state) is_replayed

  pub replayed_positions : (ps : List ℕ) → ps ≡ map (λ i. i / 2 ^ s.extra_bits) indices
      → positions s p heights top words c proof ≡ ps
  replayed_positions ps shifted =
      ap (λ (r : FriReplay C E). map (λ i. i / 2 ^ s.extra_bits) r.indices) is_replayed
      ∙ sym shifted
