-- What is opened of the rounds that were played: that it may be, that it is as much as a proof has,
-- and that it is of the words that the rounds fold.
use Rattle.std.proofs.Common.{◌≡◌, ℕ, suc, ◌^◌, ◌<◌, ◌≤◌, List, []}
use Rattle.std.proofs.Common.{◌∷◌, Option, length, get_or, map, max, sum, sym, ap, ◌∙◌, arith}
use Rattle.std.proofs.Common.{subst, pow_pos}
use Rattle.std.specs.Prelude.{All}
use Rattle.std.specs.List.{AllZip}
use Rattle.std.proofs.lemmas.List.{length-map, get_or-map, get_or_default}
use Rattle.std.proofs.lemmas.List.Elements.{All-map}
use Rattle.algebra.specs.Field.{FieldOps}
use Rattle.algebra.specs.Folds.{neighbours}
use Rattle.p3_matrix.specs.declared.dense.RowMajorMatrix.{RowMajorMatrix}
use Rattle.p3_matrix.specs.Matrix.{rows}
use Rattle.p3_mmcs.specs.Batch.{AreBelow, max_height, dimensions_of}
use Rattle.p3_fri_relation.specs.Setting.{Opening, RoundOpening}
use Rattle.p3_fri_relation.specs.Queries.{heights_after, row_indices}
use Rattle.p3_fri_relation.specs.TestRounds.{HasSiblings}
use Rattle.p3_fri_prover.specs.Openings.{index_into, IsOpenable, OpensRows}
use Rattle.p3_fri_prover.specs.Rounds.{KeepsWord, KeepWords}
use Rattle.p3_fri_prover.proofs.Ways.{row_index, words, siblings_in}
use Rattle.p3_fri_prover.proofs.Queries.{length-siblings}
use Rattle.p3_fri_prover.proofs.Assembly.{row_inside, height_of_datum, siblings_here, opened_here}

an_element : {X : Type 0} (xs : List X) (k : ℕ) → k < length xs → X
an_element [] k l = absurd (omega (arith, l))
an_element (x ∷ xs) k l = x

-- what holds of each image, by place
mapped_each : {X Y : Type 0} (f : X → Y) (P : ℕ → Y → Type 0) (xs : List X) (n : ℕ)
    → length xs ≡ n → ((k : ℕ) (x : X) → k < n → P k (f (get_or xs k x)))
    → (k : ℕ) (y : Y) → k < n → P k (get_or (map f xs) k y)
mapped_each f P xs n count each k y l =
    let within : k < length xs = omega (arith, l, count) in
    let x = an_element xs k within in
    subst (P k) (sym (get_or-map f xs k x y within)) (each k x l)

zip_each : {Y : Type 0} (R : ℕ → Y → Type 0) (xs : List ℕ) (ys : List Y) → length ys ≡ length xs
    → ((k : ℕ) (y : Y) → k < length xs → R (get_or xs k 0) (get_or ys k y)) → AllZip R xs ys
zip_each R [] [] count each = tt
zip_each R [] (y ∷ ys) count each = absurd (omega (arith, count))
zip_each R (x ∷ xs) [] count each = absurd (omega (arith, count))
zip_each R (x ∷ xs) (y ∷ ys) count each = (
  each 0 y (omega arith),
  zip_each R xs ys (omega (arith, count)) (λ k z l. each (suc k) z (omega (arith, l))),
)

module _ {E Com Data Path : Type 0} (committed : Data → List (RowMajorMatrix E))
    (commitment_of : Data → Com) (opens : Opening E Com Path) (F : FieldOps E)
    (fold : ℕ → ℕ → ℕ → E → List E → E) (inputs : ℕ → Option (List E)) (top : ℕ) (first : List E)
    (arities : List ℕ) (betas : List E) (ps : List ℕ) (drawn : length betas ≡ length arities)
    (whole : length first ≡ 2 ^ top) (within : sum arities ≤ top)
    (below : (j : ℕ) → j < length ps → get_or ps j 0 < 2 ^ top)
    (commitments : List Com) (kept : List Data)
    (commitments_made : length commitments ≡ length arities)
    (keeps : KeepWords committed commitment_of arities
    (words F fold inputs arities betas top first) commitments kept) where
  below_each : (d j : ℕ) → j < length ps → get_or ps j d < 2 ^ top
  below_each d j l = subst (λ q. q < 2 ^ top) (get_or_default ps j 0 d l) (below j l)

  a_commitment : (k : ℕ) → k < length arities → Com
  a_commitment k l = an_element commitments k (omega (arith, l, commitments_made))

  keeps_at : (k : ℕ) (l : k < length arities) (datum : Data)
      → KeepsWord committed commitment_of (get_or arities k 0)
      (get_or (words F fold inputs arities betas top first) k [])
      (get_or commitments k (a_commitment k l)) (get_or kept k datum)
  keeps_at k l datum = keeps k (a_commitment k l) datum l

  -- the rounds can be opened at the positions
  pub openable : All (λ a. a < 64) arities → (k : ℕ) (datum : Data) → k < length arities
      → IsOpenable arities ps k (committed (get_or kept k datum))
  openable small k datum l =
      let here = keeps_at k l datum in
      let h = get_or (heights_after arities top) k 0 in
      let matrices = committed (get_or kept k datum) in
      let height : length (rows here.matrix) ≡ 2 ^ h =
      height_of_datum committed commitment_of opens F fold inputs top first arities betas ps drawn
      whole within below k l (get_or commitments k (a_commitment k l)) (get_or kept k datum) here in
      let tall : max_height (dimensions_of matrices) ≡ 2 ^ h =
      ap (λ ms. max_height (dimensions_of ms)) here.only
      ∙ (let e : max (length (rows here.matrix)) 1 ≡ 2 ^ h =
      omega (arith, height, pow_pos h) in e) in
      record {
        below_64 = small k 0 l;
        one_matrix = record {
          matrix = here.matrix;
          only = here.only;
          width_of = here.width;
        };
        below = subst (λ n. AreBelow n (map (λ q. get_or (row_indices arities q) k 0) ps))
            (sym tall)
            (All-map (λ i. i < 2 ^ h) (λ q. get_or (row_indices arities q) k 0) ps
            (λ j d m. subst (λ i. i < 2 ^ h) (sym (row_index arities (get_or ps j d) k l))
            (row_inside committed commitment_of opens F fold inputs top first arities betas ps
            drawn whole within below k l (get_or ps j d) (below_each d j m))));
      }

  -- and what is opened of them, each in a form that is seen as a round's opening
  module _ {X : Type 0} (view : X → RoundOpening E Path) (openings : List X)
      (count : length openings ≡ length arities)
      (data_kept : length kept ≡ length arities)
      (each : (k : ℕ) (o : X) (datum : Data) (matrix : RowMajorMatrix E) → k < length arities
      → committed (get_or kept k datum) ≡ matrix ∷ []
      → OpensRows opens (get_or arities k 0) matrix (map (λ q. index_into arities q k) ps)
      (commitment_of (get_or kept k datum)) (view (get_or openings k o)).siblings
      (view (get_or openings k o)).path) where
    abbrev rounds : List (RoundOpening E Path)
    rounds = map view openings

    a_datum : (k : ℕ) → k < length arities → Data
    a_datum k l = an_element kept k (omega (arith, l, data_kept))

    pub rounds_counted : length rounds ≡ length arities
    rounds_counted = length-map openings view ∙ count

    -- are the siblings in the words' rows
    pub siblings_of_words : (k : ℕ) (r : RoundOpening E Path) → k < length arities
        → (get_or rounds k r).siblings
        ≡ map (λ q. siblings_in F fold inputs arities betas top first q k) ps
    siblings_of_words =
        mapped_each view
        (λ k r. r.siblings ≡ map (λ q. siblings_in F fold inputs arities betas top first q k) ps)
        openings (length arities) count
        (λ k o l.
        let datum = a_datum k l in
        let here = keeps_at k l datum in
        siblings_here committed commitment_of opens F fold inputs top first arities betas ps drawn
        whole within below k l (get_or commitments k (a_commitment k l)) (get_or kept k datum)
        here (view (get_or openings k o)).siblings (view (get_or openings k o)).path
        (each k o datum here.matrix l here.only))

    -- which open
    pub rows_of_words_open : (k : ℕ) (com' : Com) (r : RoundOpening E Path) → k < length arities
        → opens (get_or commitments k com')
        (record {
          width = 2 ^ get_or arities k 0;
          height = 2 ^ get_or (heights_after arities top) k 0;
        } ∷ [])
        (map (λ q. get_or (row_indices arities q) k 0) ps)
        (map (λ q. neighbours (get_or (words F fold inputs arities betas top first) k [])
        (get_or (row_indices arities q) k 0) (get_or arities k 0) ∷ []) ps) (get_or rounds k r).path
    rows_of_words_open k com' =
        mapped_each view
        (λ k r. opens (get_or commitments k com')
        (record {
          width = 2 ^ get_or arities k 0;
          height = 2 ^ get_or (heights_after arities top) k 0;
        } ∷ [])
        (map (λ q. get_or (row_indices arities q) k 0) ps)
        (map (λ q. neighbours (get_or (words F fold inputs arities betas top first) k [])
        (get_or (row_indices arities q) k 0) (get_or arities k 0) ∷ []) ps) r.path)
        openings (length arities) count
        (λ k o l.
        let datum = a_datum k l in
        let here = keeps k com' datum l in
        opened_here committed commitment_of opens F fold inputs top first arities betas ps drawn
        whole within below k l (get_or commitments k com') (get_or kept k datum) here
        (view (get_or openings k o)).siblings (view (get_or openings k o)).path
        (each k o datum here.matrix l here.only)) k

    -- and are as many as a proof of so many queries has
    pub have_siblings : (n : ℕ) → length ps ≡ n → AllZip (HasSiblings n) arities rounds
    have_siblings n many =
        zip_each (HasSiblings n) arities rounds rounds_counted
        (λ k r l.
        let one = λ (q : ℕ). siblings_in F fold inputs arities betas top first q k in
        let e = siblings_of_words k r l in (
          ap length e ∙ length-map ps one ∙ many,
          subst (λ rows. All (λ row. suc (length row) ≡ 2 ^ get_or arities k 0) rows) (sym e)
              (All-map (λ row. suc (length row) ≡ 2 ^ get_or arities k 0) one ps
              (λ j d m. length-siblings F fold inputs top first arities betas ps rounds drawn whole
              within below rounds_counted siblings_of_words k (get_or ps j d) l
              (below_each d j m))),
        ))
