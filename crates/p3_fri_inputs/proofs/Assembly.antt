-- From what is checked one by one to the conditions of what comes after it.
use Rattle.std.proofs.Common.{◌≡◌, ◌≢◌, ℕ, ◌+◌, ◌*◌, ◌<◌, ◌≤◌, List, [], ◌∷◌}
use Rattle.std.proofs.Common.{length, map, All, IsTrue, get_or, sym, ap₂}
use Rattle.std.proofs.Common.{◌∙◌, arith, length-append}
use Rattle.std.specs.List.{flat_map, AllZip}
use Rattle.std.specs.Prelude.{EachIndex, slice_index}
use Rattle.std.proofs.lemmas.List.{length-map, get_or-map}
use Rattle.algebra.specs.Field.{FieldOps, IsField, sub}
use Rattle.algebra.proofs.Combine.{sub-eq}
use Rattle.p3_matrix.specs.declared.Dimensions.{Dimensions}
use Rattle.p3_mmcs.specs.Batch.{HasShape}
use Rattle.p3_mmcs.proofs.Shapes.{sets_count, set_at}
use Rattle.p3_pcs.specs.Claims.{PointClaim}
use Rattle.p3_fri_relation.specs.Setting.{Fields, Opening, MatrixClaim, CommitmentClaim}
use Rattle.p3_fri_relation.specs.Setting.{InputOpening}
use Rattle.p3_fri_relation.specs.Heights.{matrices_of, width, log_height, has_height, dimensions, opened_index}
use Rattle.p3_fri_relation.specs.QuotientSums.{IsDefinedAt}
use Rattle.p3_fri_relation.specs.Inputs.{HasPoints, OpensInput, AreInputsGood, sum_at}
use Rattle.p3_fri_inputs.specs.Claims.{distances, IsApart, IsEven, IsWithin, IsReadable}
use Rattle.p3_fri_inputs.specs.Claims.{HasRowsAt}
use Rattle.p3_fri_inputs.proofs.Places.{all_joined}

module _ {E : Type 0} where
  pub with_points : (ms : List (MatrixClaim E)) → All (λ m. m.points ≢ []) ms → All IsEven ms
      → All HasPoints ms
  with_points ms some even k d l = record { some_point = some k d l; counts = even k d l }

  pub within_greatest : (ms : List (MatrixClaim E)) (greatest powers : ℕ) → powers ≡ greatest
      → All HasPoints ms → All (λ m. width m ≤ greatest) ms → All (IsWithin powers) ms
  within_greatest ms greatest powers e points widths k d l j z q =
      omega (arith, e, (points k d l).counts j z q, widths k d l)

  pub readable : (log_blowup top greatest powers : ℕ) (ms : List (MatrixClaim E))
      → powers ≡ greatest → All (λ m. log_height log_blowup m ≤ top) ms → All HasPoints ms
      → All (λ m. width m ≤ greatest) ms → All (IsReadable log_blowup (top + 1) powers) ms
  readable log_blowup top greatest powers ms e heights points widths k d l = record {
    height = omega (arith, heights k d l);
    within = omega (arith, e, widths k d l);
    points = points k d l;
  }

module _ {F E InCom InPath : Type 0} (opens : Opening F InCom InPath)
    (shape : (c : InCom) (dims : List Dimensions) (indices : List ℕ) (sets : List (List (List F)))
    (path : InPath) → opens c dims indices sets path → HasShape dims indices sets)
    (log_blowup top : ℕ) (positions : List ℕ) where
  rows_there : (c : CommitmentClaim E InCom) (o : InputOpening F InPath)
      → OpensInput opens log_blowup top positions c o → (j : ℕ) → j < length positions
      → HasRowsAt log_blowup j c o
  rows_there c o h j l =
      let dims = map (dimensions log_blowup) c.matrices in
      let indices = map (opened_index log_blowup top c.matrices) positions in
      let has = shape c.commitment dims indices o.rows o.path h in
      let below : j < length o.rows =
      omega (
        arith,
        l,
        sets_count dims indices o.rows has,
        length-map positions (opened_index log_blowup top c.matrices),
      ) in
      record { there = below; rows = set_at dims indices o.rows has j below }

  -- what is opened has the rows of each query
  pub rows_of_opened : (cs : List (CommitmentClaim E InCom)) (inputs : List (InputOpening F InPath))
      → AllZip (OpensInput opens log_blowup top positions) cs inputs
      → (j : ℕ) → j < length positions → AllZip (HasRowsAt log_blowup j) cs inputs
  rows_of_opened [] [] h j l = tt
  rows_of_opened [] (o ∷ inputs) h j l = absurd h
  rows_of_opened (c ∷ cs) [] h j l = absurd h
  rows_of_opened (c ∷ cs) (o ∷ inputs) h j l =
      (rows_there c o h.0 j l, rows_of_opened cs inputs h.1 j l)

module _ {E : Type 0} (K : FieldOps E) (L : IsField K) (log_blowup : ℕ) where
  -- points that are apart are at distances that aren't zero
  pub distances_nonzero : (read : ℕ → E) (ms : List (MatrixClaim E)) → All (IsApart log_blowup read) ms
      → All (λ x. x ≢ K.zero) (distances K log_blowup read ms)
  distances_nonzero read ms apart =
      all_joined (λ m. map (λ z. sub K z.point (read (log_height log_blowup m))) m.points)
      (λ x. x ≢ K.zero) ms (λ i m l. nonzero (get_or ms i m) (apart i m l))
    where
      nonzero : (m : MatrixClaim E) → IsApart log_blowup read m
          → All (λ x. x ≢ K.zero) (map (λ z. sub K z.point (read (log_height log_blowup m))) m.points)
      nonzero m apart k x l e =
          let distance = λ (z : PointClaim E). sub K z.point (read (log_height log_blowup m)) in
          let z : PointClaim E = record { point = x; values = [] } in
          let below : k < length m.points = omega (arith, l, length-map m.points distance) in
          apart k z below
          (sub-eq K L.ring (sym (get_or-map distance m.points k z x below) ∙ e))

  pub all_nonzero : (read : ℕ → ℕ → E) (positions : List ℕ) (ms : List (MatrixClaim E))
      → ((j : ℕ) → j < length positions → (d : ℕ) → All (IsApart log_blowup (read (get_or positions j d))) ms)
      → All (λ x. x ≢ K.zero) (flat_map (λ q. distances K log_blowup (read q) ms) positions)
  all_nonzero read positions ms apart =
      all_joined (λ q. distances K log_blowup (read q) ms) (λ x. x ≢ K.zero) positions
      (λ j d l. distances_nonzero (read (get_or positions j d)) ms (apart j l d))

-- all that the checks and sums find makes the openings good
pub good_openings : {F E InCom InPath : Type 0} (f : Fields F E) (log_blowup : ℕ) (alpha : E) (top : ℕ)
    (cs : List (CommitmentClaim E InCom)) (inputs : List (InputOpening F InPath))
    (opens : Opening F InCom InPath) (positions : List ℕ)
    → length inputs ≡ length cs
    → All HasPoints (matrices_of cs)
    → AllZip (OpensInput opens log_blowup top positions) cs inputs
    → EachIndex positions (λ j. IsDefinedAt f log_blowup top cs (slice_index positions j))
    → ((j : ℕ) → j < length positions → IsTrue (has_height log_blowup (matrices_of cs) log_blowup)
    → sum_at f log_blowup alpha top cs inputs j (get_or positions j 0) log_blowup ≡ f.ext.zero)
    → AreInputsGood f log_blowup alpha top cs inputs opens positions
good_openings f log_blowup alpha top cs inputs opens positions count points opened defined zeros =
    record {
      count = count;
      points = points;
      opened = opened;
      sums = λ j l. record { defined = defined j l; constants = zeros j l };
    }

-- as many numbers for each, and so for all
pub length_equal_parts : {X Y : Type 0} (f : X → List Y) (count : ℕ) (xs : List X)
    → ((x : X) → length (f x) ≡ count) → length (flat_map f xs) ≡ length xs * count
length_equal_parts f count [] e = omega arith
length_equal_parts f count (x ∷ xs) e =
    length-append (f x) (flat_map f xs)
    ∙ ap₂ (λ a b. a + b) (e x) (length_equal_parts f count xs e)
    ∙ omega arith
