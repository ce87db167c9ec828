-- The relation holds of the small proof, and of none with another sibling.
use Rattle.std.proofs.Common.{◌≡◌, ◌≢◌, ℕ, zero, suc, ◌≤◌, List, [], ◌∷◌, length, get_or, refl, ap}
use Rattle.std.proofs.Common.{arith, lit<, lit≤}
use Rattle.std.specs.Prelude.{All, EachIndex}
use Rattle.algebra.specs.Field.{pow, multiple}
use Rattle.algebra.specs.Polynomial.{val, sum_below}
use Rattle.algebra.specs.Digits.{rev}
use Rattle.algebra.specs.TwoAdic.{pt}
use Rattle.algebra.specs.Folds.{fold_value}
use Rattle.p3_challenger_fs.specs.Pattern.{seed_stream}
use Rattle.p3_fri_folding.specs.Schedule.{schedule, stops, rounds_over, rounds_through}
use Rattle.p3_fri_transcript.specs.Steps.{fri_stream, fri_steps, fri_labels}
use Rattle.p3_fri_transcript.specs.Replay.{fri_replay, rounds_replay, shown_queries_replay}
use Rattle.p3_fri_pcs_transcript.specs.Steps.{pcs_stream, pcs_steps, pcs_labels}
use Rattle.p3_fri_pcs_transcript.specs.Replay.{claims_replay}
use Rattle.p3_fri_pcs_transcript.specs.Replay.{BatchReplay}
use Rattle.p3_pcs.specs.Claims.{PointClaim}
use Rattle.p3_fri_relation.specs.Setting.{MatrixClaim}
use Rattle.p3_fri_relation.specs.Heights.{log_height}
use Rattle.p3_fri_relation.specs.QuotientSums.{point_read}
use Rattle.p3_fri_relation.specs.Inputs.{HasPoints}
use Rattle.p3_fri_relation.specs.Acceptance.{test_replay, positions, Accepts, QueryHolds, batch_replayed}
use Rattle.p3_fri_relation.specs.Example.{small_setting, small_parameters, small_claims}
use Rattle.p3_fri_relation.specs.Example.{small_proof, IsExample}

all_1 : {X : Type 0} (P : X → Type 0) (x : X) → P x → All P (x ∷ [])
all_1 P x p zero d l = p
all_1 P x p (suc k) d l = absurd (omega arith)

all_2 : {X : Type 0} (P : X → Type 0) (x y : X) → P x → P y → All P (x ∷ y ∷ [])
all_2 P x y p q zero d l = p
all_2 P x y p q (suc k) d l = all_1 P y q k d (omega arith)

all_3 : {X : Type 0} (P : X → Type 0) (x y z : X) → P x → P y → P z → All P (x ∷ y ∷ z ∷ [])
all_3 P x y z p q r zero d l = p
all_3 P x y z p q r (suc k) d l = all_2 P y z q r k d (omega arith)

two_indices : {X : Type 0} (P : ℕ → Type 0) (x y : X) → P 0 → P 1 → EachIndex (x ∷ y ∷ []) P
two_indices P x y p q zero l = p
two_indices P x y p q (suc zero) l = q
two_indices P x y p q (suc (suc k)) l = absurd (omega arith)

abbrev batch : BatchReplay ℕ ℕ
batch = batch_replayed small_setting small_parameters small_claims (small_proof 82) 0

abbrev holds_at : ℕ → Type 0
holds_at = QueryHolds small_setting small_parameters small_claims (small_proof 82) batch.alpha
    (test_replay small_setting small_parameters small_claims (small_proof 82) batch.state).betas
    (positions small_setting small_parameters small_claims (small_proof 82) batch.state)

abbrev claims : (width : ℕ) → PointClaim ℕ → Type 0
claims width z = length z.values ≡ width

abbrev is_short_of : (arity : ℕ) → List ℕ → Type 0
is_short_of arity row = suc (length row) ≡ arity

-- the point isn't the one read at that position
abbrev reads : (position h : ℕ) → PointClaim ℕ → Type 0
reads position h z = z.point ≢ point_read small_setting.fields 5 position h

abbrev is_off : (position : ℕ) → MatrixClaim ℕ → Type 0
is_off position m = All (reads position (log_height 1 m)) m.points

accepted : Accepts small_setting small_parameters small_claims (small_proof 82) 0
unfolding schedule stops rounds_over rounds_through fri_stream fri_steps fri_labels seed_stream fri_replay rounds_replay shown_queries_replay pcs_stream pcs_steps pcs_labels claims_replay val sum_below pt rev fold_value pow multiple
accepted = record {
  passes = refl;
  accepts = record {
    instance_of = record {
      in_range = record {
        queries = lit< tt;
        blowup = lit< tt;
        cap = lit< tt;
        some_matrix = λ e. cc;
        tall_enough = all_3 (λ m. 2 ≤ log_height 1 m) _ _ _ (lit≤ tt) (lit≤ tt) (lit≤ tt);
        within_two_adicity = all_3 (λ m. log_height 1 m ≤ 5) _ _ _ (lit≤ tt) (lit≤ tt) (lit≤ tt);
      };
      points = all_3 HasPoints _ _ _
          (record { some_point = λ e. cc; counts = all_2 (claims 2) _ _ refl refl })
          (record { some_point = λ e. cc; counts = all_1 (claims 1) _ refl })
          (record { some_point = λ e. cc; counts = all_1 (claims 1) _ refl });
    };
    counts = record {
      commitments = refl;
      commit_witnesses = refl;
      rounds = ((refl, all_2 (is_short_of 4) _ _ refl refl), ((refl, all_2 (is_short_of 2) _ _ refl refl), tt));
      inputs = refl;
      final_poly = refl;
    };
    canonical = record {
      batch = λ _. refl;
      in_test = record { commit = λ e. absurd (omega (arith, e)); query = λ _. refl };
    };
    passes = refl;
    openings = record {
      inputs_open = (
        record { sizes = refl; rows = refl },
        (record { sizes = refl; rows = refl }, (record { sizes = refl; rows = refl }, tt)),
      );
      rounds_open = (
        record { sizes = refl; rows = refl },
        (record { sizes = refl; rows = refl }, tt),
      );
      queries_hold = two_indices {X = ℕ} holds_at 30 3
          (record {
            sums = record {
              defined = all_3 (is_off 30) _ _ _ (all_2 (reads 30 5) _ _ (λ e. omega (arith, e)) (λ e. omega (arith, e))) (all_1 (reads 30 3) _ (λ e. omega (arith, e))) (all_1 (reads 30 5) _ (λ e. omega (arith, e)));
              constants = λ h. cc;
            };
            ends = refl;
          })
          (record {
            sums = record {
              defined = all_3 (is_off 3) _ _ _ (all_2 (reads 3 5) _ _ (λ e. omega (arith, e)) (λ e. omega (arith, e))) (all_1 (reads 3 3) _ (λ e. omega (arith, e))) (all_1 (reads 3 5) _ (λ e. omega (arith, e)));
              constants = λ h. cc;
            };
            ends = refl;
          });
    };
  };
}

pub is_example : IsExample
unfolding schedule stops rounds_over rounds_through fri_stream fri_steps fri_labels seed_stream fri_replay rounds_replay shown_queries_replay pcs_stream pcs_steps pcs_labels claims_replay val sum_below pt rev fold_value pow multiple
is_example = record {
  accepted = accepted;
  refused = λ sibling a.
      ap (λ (sets : List (List (List ℕ))). get_or (get_or (get_or sets 0 []) 0 []) 0 0) a.accepts.openings.rounds_open.1.0.rows;
  state = refl;
}
