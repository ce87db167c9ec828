-- What acceptance shows of two-adic words, by challengers that draw as many bits as asked.
use Rattle.std.proofs.Common.{ℕ, ◌+◌, ◌^◌, ◌<◌, ◌≤◌, List, arith}
use Rattle.p3_challenger_core.specs.Run.{Moves}
use Rattle.p3_fri_relation.specs.Setting.{Fields, Opening, Parameters, CommitmentClaim, Proof}
use Rattle.p3_fri_relation.specs.Acceptance.{Accepts, batch_replayed, top_height}
use Rattle.p3_fri_relation.proofs.Instances.{instance_top}
use Rattle.p3_fri_opening_verifier.specs.Accepted.{two_adic}
use Rattle.p3_fri_soundness.specs.Laws.{AreTwoAdicFields}
use Rattle.p3_fri_soundness.specs.Trees.{Tree, IsEncoded, opened_by}
use Rattle.p3_fri_soundness.proofs.Settings.{polynomial_setting}
use Rattle.p3_fri_soundness.proofs.Drawn.{drawn_inside}
use Rattle.p3_fri_soundness.proofs.Sound.{is_sound, opened_from_bound, opened_from_trees}
use Rattle.p3_fri_scheme_soundness.specs.Shown.{IsSoundProof, OpensOrCollides}

pub sound_proof : {F E C Com Path InCom InPath : Type 0} (f : Fields F E) (m : Moves C F E Com)
    (opens_input : Opening F InCom InPath) (opens_round : Opening E Com Path)
    → AreTwoAdicFields f → (most : ℕ) → f.two_adicity ≤ most
    → ((c : C) (bits : ℕ) → bits ≤ most → (m.draw_bits c bits).value < 2 ^ bits)
    → (p : Parameters) (claims : List (CommitmentClaim E InCom)) (proof : Proof F E Com Path InPath)
    (c : C) → Accepts (two_adic f m opens_input opens_round) p claims proof c
    → IsSoundProof (two_adic f m opens_input opens_round) p claims proof c
sound_proof f m opens_input opens_round laws most enough width p claims proof c accepts =
    let s = two_adic f m opens_input opens_round in
    let before = batch_replayed s p claims proof c in
    let within = instance_top p claims f.two_adicity accepts.accepts.instance_of.in_range in
    record {
      sound = λ words tables from.
          is_sound s (polynomial_setting f 0 m opens_input opens_round laws) p claims proof words
          tables before.state before.alpha accepts.accepts from
          (drawn_inside s p claims proof before.state
          (λ d. width d (top_height p claims + 0) (omega (arith, enough, within.1))));
      opened = λ words tables bound.
          opened_from_bound s p claims proof words tables before.state before.alpha accepts.accepts
          bound;
    }

pub opens_or_collides : {F E C Com Path InCom InPath : Type 0} (f : Fields F E)
    (m : Moves C F E Com) (input_tree : Tree F InCom InPath) (round_tree : Tree E Com Path)
    (input_len round_len : ℕ) → IsEncoded input_tree input_len → IsEncoded round_tree round_len
    → (p : Parameters) (claims : List (CommitmentClaim E InCom)) (proof : Proof F E Com Path InPath)
    (c : C) → Accepts (two_adic f m (opened_by input_tree) (opened_by round_tree)) p claims proof c
    → OpensOrCollides (two_adic f m (opened_by input_tree) (opened_by round_tree)) p claims proof c
    input_tree round_tree
opens_or_collides f m input_tree round_tree input_len round_len input_encoded round_encoded p claims
    proof c accepts words tables input_paths round_paths are tables_fit rounds inputs =
    let s = two_adic f m (opened_by input_tree) (opened_by round_tree) in
    let before = batch_replayed s p claims proof c in
    opened_from_trees f 0 m input_tree round_tree input_len round_len input_encoded round_encoded p
    claims proof words tables before.state before.alpha input_paths round_paths accepts.accepts are
    tables_fit rounds inputs
