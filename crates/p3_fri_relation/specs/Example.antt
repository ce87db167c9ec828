-- A setting small enough to compute in: the field of 97 elements, which extends itself, commitments
-- that are their own matrices, and a challenger that counts. All numbers are those of a plain
-- program.
use Rattle.std.specs.Prelude.{◌≡◌, ℕ, ◌+◌, ◌-◌, ◌*◌, ◌/◌, ◌%◌, ◌^◌, List, [], ◌∷◌, length, map}
use Rattle.std.specs.Prelude.{slice_index, slice_index_or}
use Rattle.algebra.specs.Field.{FieldOps}
use Rattle.algebra.specs.Folds.{fold_value}
use Rattle.p3_matrix.specs.declared.Dimensions.{Dimensions}
use Rattle.p3_mmcs.specs.Batch.{max_height}
use Rattle.p3_fri_relation.specs.Setting.{Setting, Parameters, CommitmentClaim, Proof}
use Rattle.p3_fri_relation.specs.Acceptance.{Accepts, batch_replayed, test_replay}

-- the integers modulo 97
abbrev pub small_field : FieldOps ℕ
small_field = record {
  zero = 0;
  one = 1;
  add = λ a b. (a + b) % 97;
  mul = λ a b. (a * b) % 97;
  neg = λ a. (97 - a) % 97;
  inv = λ a. (a ^ 95) % 97;
}

-- roots of unity of the orders 1, 2, 4, 8, 16 and 32
abbrev pub small_root : ℕ → ℕ
small_root k = slice_index (1 ∷ 96 ∷ 22 ∷ 64 ∷ 8 ∷ 28 ∷ []) k

-- a matrix by its rows
abbrev pub Rows : Type 0
Rows = List (List ℕ)

abbrev pub size_of : Rows → Dimensions
size_of rows = record { width = length (slice_index_or rows 0 []); height = length rows }

-- matrices, as a commitment to themselves, open to the row of each at an index of the tallest
pub record OpensOwn (matrices : List Rows) (dimensions : List Dimensions) (indices : List ℕ)
    (sets : List (List (List ℕ))) (path : ℕ) : Type 0 where
  pub sizes : dimensions ≡ map size_of matrices
  pub rows : sets ≡ map (λ i. map (λ rows.
      slice_index_or rows (i / (max_height dimensions / length rows)) []) matrices) indices

-- the challenger counts what it absorbs and draws, and draws from the count
abbrev pub small_setting : Setting ℕ ℕ ℕ (List Rows) ℕ (List Rows) ℕ
small_setting = record {
  fields = record {
    base = small_field;
    ext = small_field;
    lift = λ x. x;
    coefficients = λ x. x ∷ [];
    degree = 1;
    root = small_root;
    two_adicity = 5;
    shift = 5;
  };
  fold = fold_value small_field small_root;
  extra_bits = 1;
  moves = record {
    observe_value = λ c x. c + 1;
    observe_commitment = λ c commitment. c + 1;
    draw_element = λ c. record { value = c % 97; state = c + 1 };
    draw_bits = λ c bits. record { value = (11 * (c + 1)) % 2 ^ bits; state = c + 1 };
  };
  opens_input = OpensOwn;
  opens_round = OpensOwn;
}

abbrev pub small_parameters : Parameters
small_parameters = record {
  log_blowup = 1;
  log_final_poly_len = 1;
  max_log_arity = 2;
  num_queries = 2;
  batch_pow_bits = 0;
  commit_pow_bits = 1;
  query_pow_bits = 0;
}

-- two columns of degree below 16, over the coset of 32 points
abbrev pub wide : Rows
wide =
    (54 ∷ 36 ∷ []) ∷ (94 ∷ 16 ∷ []) ∷ (62 ∷ 74 ∷ []) ∷ (29 ∷ 42 ∷ []) ∷ (84 ∷ 28 ∷ []) ∷
    (42 ∷ 5 ∷ []) ∷ (16 ∷ 35 ∷ []) ∷ (20 ∷ 9 ∷ []) ∷ (38 ∷ 35 ∷ []) ∷ (86 ∷ 50 ∷ []) ∷
    (71 ∷ 77 ∷ []) ∷ (82 ∷ 6 ∷ []) ∷ (65 ∷ 10 ∷ []) ∷ (52 ∷ 51 ∷ []) ∷ (84 ∷ 23 ∷ []) ∷
    (39 ∷ 45 ∷ []) ∷ (78 ∷ 86 ∷ []) ∷ (36 ∷ 49 ∷ []) ∷ (50 ∷ 20 ∷ []) ∷ (34 ∷ 61 ∷ []) ∷
    (59 ∷ 29 ∷ []) ∷ (34 ∷ 50 ∷ []) ∷ (66 ∷ 91 ∷ []) ∷ (87 ∷ 89 ∷ []) ∷ (31 ∷ 75 ∷ []) ∷
    (30 ∷ 4 ∷ []) ∷ (34 ∷ 62 ∷ []) ∷ (93 ∷ 57 ∷ []) ∷ (3 ∷ 50 ∷ []) ∷ (47 ∷ 76 ∷ []) ∷
    (13 ∷ 87 ∷ []) ∷ (29 ∷ 44 ∷ []) ∷ []

-- one column of degree below 4, over the coset of 8 points
abbrev pub short : Rows
short =
    (53 ∷ []) ∷ (46 ∷ []) ∷ (66 ∷ []) ∷ (80 ∷ []) ∷ (86 ∷ []) ∷ (53 ∷ []) ∷ (96 ∷ []) ∷ (10 ∷ []) ∷
    []

-- one more column of degree below 16
abbrev pub narrow : Rows
narrow =
    (8 ∷ []) ∷ (60 ∷ []) ∷ (79 ∷ []) ∷ (56 ∷ []) ∷ (22 ∷ []) ∷ (74 ∷ []) ∷ (25 ∷ []) ∷ (93 ∷ []) ∷
    (88 ∷ []) ∷ (55 ∷ []) ∷ (8 ∷ []) ∷ (8 ∷ []) ∷ (81 ∷ []) ∷ (2 ∷ []) ∷ (48 ∷ []) ∷ (77 ∷ []) ∷
    (21 ∷ []) ∷ (86 ∷ []) ∷ (41 ∷ []) ∷ (48 ∷ []) ∷ (10 ∷ []) ∷ (62 ∷ []) ∷ (81 ∷ []) ∷ (11 ∷ []) ∷
    (26 ∷ []) ∷ (42 ∷ []) ∷ (65 ∷ []) ∷ (18 ∷ []) ∷ (68 ∷ []) ∷ (14 ∷ []) ∷ (69 ∷ []) ∷ (25 ∷ []) ∷
    []

-- three commitments: to two matrices of different heights, to one, and to none
abbrev pub small_claims : List (CommitmentClaim ℕ (List Rows))
small_claims =
    record {
      commitment = wide ∷ short ∷ [];
      matrices =
          record {
            domain = 4;
            points =
                record { point = 1; values = 79 ∷ 17 ∷ [] }
                ∷ record { point = 25; values = 10 ∷ 73 ∷ [] } ∷ [];
          }
          ∷ record {
            domain = 2;
            points = record { point = 7; values = 32 ∷ [] } ∷ [];
          } ∷ [];
    }
    ∷ record {
      commitment = narrow ∷ [];
      matrices = record {
        domain = 4;
        points = record { point = 25; values = 82 ∷ [] } ∷ [];
      } ∷ [];
    }
    ∷ record { commitment = []; matrices = [] } ∷ []

-- the quotients' word, in rows of four
abbrev pub first_word : Rows
first_word =
    (11 ∷ 32 ∷ 57 ∷ 27 ∷ []) ∷ (33 ∷ 26 ∷ 1 ∷ 5 ∷ []) ∷ (69 ∷ 20 ∷ 35 ∷ 62 ∷ []) ∷
    (18 ∷ 60 ∷ 90 ∷ 86 ∷ []) ∷ (50 ∷ 48 ∷ 27 ∷ 46 ∷ []) ∷ (35 ∷ 40 ∷ 84 ∷ 71 ∷ []) ∷
    (38 ∷ 47 ∷ 6 ∷ 96 ∷ []) ∷ (20 ∷ 91 ∷ 38 ∷ 89 ∷ []) ∷ []

-- the word that it folds to, with the short matrix's quotients rolled in, in rows of two
abbrev pub second_word : Rows
second_word =
    (43 ∷ 57 ∷ []) ∷ (80 ∷ 8 ∷ []) ∷ (87 ∷ 42 ∷ []) ∷ (82 ∷ 74 ∷ []) ∷ []

-- a proof of these claims: two rounds, and queries at the positions 30 and 3. `sibling` is what the
-- second round opens to the first of them
abbrev pub small_proof : (sibling : ℕ) → Proof ℕ ℕ (List Rows) ℕ ℕ
small_proof sibling = record {
  batch_witness = 0;
  commitments = (first_word ∷ []) ∷ (second_word ∷ []) ∷ [];
  commit_witnesses = 3 ∷ 4 ∷ [];
  inputs =
      record {
        rows =
            ((13 ∷ 87 ∷ []) ∷ (10 ∷ []) ∷ [])
            ∷ ((29 ∷ 42 ∷ []) ∷ (53 ∷ []) ∷ []) ∷ [];
        path = 0;
      }
      ∷ record { rows = ((69 ∷ []) ∷ []) ∷ ((56 ∷ []) ∷ []) ∷ []; path = 0 }
      ∷ record { rows = [] ∷ [] ∷ []; path = 0 } ∷ [];
  rounds =
      record { siblings = (20 ∷ 91 ∷ 89 ∷ []) ∷ (11 ∷ 32 ∷ 57 ∷ []) ∷ []; path = 0 }
      ∷ record { siblings = (sibling ∷ []) ∷ (57 ∷ []) ∷ []; path = 0 } ∷ [];
  final_poly = 72 ∷ 86 ∷ [];
  query_witness = 0;
}

-- the proof is accepted from the count of nothing and with no other sibling, and its replay ends at
-- the count of 821
pub record IsExample : Type 0 where
  pub accepted : Accepts small_setting small_parameters small_claims (small_proof 82) 0
  pub refused : (sibling : ℕ)
      → Accepts small_setting small_parameters small_claims (small_proof sibling) 0
      → sibling ≡ 82
  pub state :
      let batch = batch_replayed small_setting small_parameters small_claims (small_proof 82) 0 in
      let test = test_replay small_setting small_parameters small_claims (small_proof 82) in
      (test batch.state).state ≡ 821
