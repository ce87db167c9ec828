-- Openings that are good have none of the faults.
use Rattle.std.proofs.Common.{◌≡◌, ◌≢◌, ℕ, zero, suc, ◌<◌, List, [], ◌∷◌, length, map, All}
use Rattle.std.proofs.Common.{get_or, subst, refl, sym, ap, ◌∙◌, arith, ◌↔◌, ◌⊎◌, inl, inr}
use Rattle.std.proofs.Common.{Result, Ok, Err, IsOk}
use Rattle.std.specs.Prelude.{IfErr}
use Rattle.std.specs.List.{zip, AllZip}
use Rattle.std.proofs.lemmas.Bool.{false≢true}
use Rattle.std.proofs.lemmas.List.{length-map, get_or_default}
use Rattle.std.proofs.lemmas.Slice.Zip.{AllZip-long}
use Rattle.p3_matrix.specs.declared.Dimensions.{Dimensions}
use Rattle.p3_mmcs.specs.Batch.{HasShape}
use Rattle.p3_mmcs.proofs.Shapes.{rows_count, sets_count, set_at}
use Rattle.p3_fri_relation.specs.declared.error.FriError.{FriError}
use Rattle.p3_fri_relation.specs.declared.error.FriError.TheVariants.{InputProofBatchCountMismatch}
use Rattle.p3_fri_relation.specs.declared.error.FriError.TheVariants.{InputOpeningsQueryCountMismatch}
use Rattle.p3_fri_relation.specs.declared.error.FriError.TheVariants.{BatchOpenedValuesCountMismatch}
use Rattle.p3_fri_relation.specs.declared.error.FriError.TheVariants.{MatrixWithoutOpeningPoints}
use Rattle.p3_fri_relation.specs.declared.error.FriError.TheVariants.{PointEvaluationCountMismatch}
use Rattle.p3_fri_relation.specs.declared.error.FriError.TheVariants.{InputError, FinalPolyMismatch}
use Rattle.p3_fri_relation.specs.declared.error.FriError.TheVariants.{OpeningPointMatchesQueryPoint, OutOfMemory}
use Rattle.p3_fri_relation.specs.Setting.{Fields, Opening, MatrixClaim, CommitmentClaim, InputOpening}
use Rattle.p3_fri_relation.specs.Heights.{matrices_of, log_height, dimensions, opened_index}
use Rattle.p3_fri_relation.specs.QuotientSums.{point_read}
use Rattle.p3_fri_relation.specs.Inputs.{HasPoints, OpensInput, AreInputsGood}
use Rattle.p3_fri_pow.specs.Counts.{IsWrongCount}
use Rattle.p3_fri_relation.specs.Faults.{InputFault}
use Rattle.p3_fri_inputs.proofs.Openings.{all_of_one, all_zip_at}

pub wrong_differs : (asked found expected got : ℕ) → IsWrongCount asked found expected got → asked ≢ found
wrong_differs asked found expected got w e = w.differ (w.expected_is ∙ e ∙ sym w.got_is)

-- places of lists that are gone through side by side
pub length_zip : {X Y : Type 0} (xs : List X) (ys : List Y) → length ys ≡ length xs
    → length (zip xs ys) ≡ length xs
length_zip [] ys e = refl
length_zip (x ∷ xs) [] e = absurd (omega (arith, e))
length_zip (x ∷ xs) (y ∷ ys) e = ap suc (length_zip xs ys (omega (arith, e)))

pub zip_at : {X Y : Type 0} (xs : List X) (ys : List Y) (i : ℕ) (x : X) (y : Y)
    → length ys ≡ length xs → i < length xs
    → get_or (zip xs ys) i (x, y) ≡ (get_or xs i x, get_or ys i y)
zip_at [] ys i x y e l = absurd (omega (arith, l))
zip_at (u ∷ xs) [] i x y e l = absurd (omega (arith, e))
zip_at (u ∷ xs) (v ∷ ys) zero x y e l = refl
zip_at (u ∷ xs) (v ∷ ys) (suc i) x y e l = zip_at xs ys i x y (omega (arith, e)) (omega (arith, l))

-- what holds place by place holds of each pair
pub all_zip_pair : {X Y : Type 0} (R : X → Y → Type 0) (xs : List X) (ys : List Y) → AllZip R xs ys
    → (i : ℕ) (p : X × Y) → i < length (zip xs ys) → get_or (zip xs ys) i p ≡ p → R p.0 p.1
all_zip_pair R xs ys h i p l e =
    let count = AllZip-long R xs ys h in
    let below : i < length xs = omega (arith, l, length_zip xs ys count) in
    let pair = sym (zip_at xs ys i p.0 p.1 count below) ∙ e in
    subst (λ q. R q.0 q.1) pair (all_zip_at R xs ys h i p.0 p.1 below)

pub all_zip_right : {X Y : Type 0} (R : X → Y → Type 0) (xs : List X) (ys : List Y)
    → AllZip R xs ys → (i : ℕ) (y : Y) → i < length ys → get_or ys i y ≡ y → (x : X) × R x y
all_zip_right R [] [] h i y l e = absurd (omega (arith, l))
all_zip_right R [] (v ∷ ys) h i y l e = absurd h
all_zip_right R (u ∷ xs) [] h i y l e = absurd h
all_zip_right R (u ∷ xs) (v ∷ ys) h zero y l e = (u, subst (R u) e h.0)
all_zip_right R (u ∷ xs) (v ∷ ys) h (suc i) y l e =
    all_zip_right R xs ys h.1 i y (omega (arith, l)) e

module _ {F E InCom InPath : Type 0} (f : Fields F E) (log_blowup : ℕ) (alpha : E) (top : ℕ)
    (cs : List (CommitmentClaim E InCom)) (inputs : List (InputOpening F InPath))
    (opens : Opening F InCom InPath)
    (shape : (c : InCom) (dims : List Dimensions) (indices : List ℕ) (sets : List (List (List F)))
    (path : InPath) → opens c dims indices sets path → HasShape dims indices sets)
    (positions : List ℕ) (good : AreInputsGood f log_blowup alpha top cs inputs opens positions)
  where
    counted : (c : CommitmentClaim E InCom) (o : InputOpening F InPath)
        → OpensInput opens log_blowup top positions c o → length positions ≡ length o.rows
    counted c o h =
        let dims = map (dimensions log_blowup) c.matrices in
        let indices = map (opened_index log_blowup top c.matrices) positions in
        sym (length-map positions (opened_index log_blowup top c.matrices))
        ∙ sym (sets_count dims indices o.rows (shape c.commitment dims indices o.rows o.path h))

    filled : (c : CommitmentClaim E InCom) (o : InputOpening F InPath)
        → OpensInput opens log_blowup top positions c o → (k : ℕ) → k < length o.rows
        → length c.matrices ≡ length (get_or o.rows k [])
    filled c o h k l =
        let dims = map (dimensions log_blowup) c.matrices in
        let indices = map (opened_index log_blowup top c.matrices) positions in
        sym (length-map c.matrices (dimensions log_blowup))
        ∙ sym (rows_count dims (get_or o.rows k [])
        (set_at dims indices o.rows (shape c.commitment dims indices o.rows o.path h) k l))

    matrix_at : (P : MatrixClaim E → Type 0) → All P (matrices_of cs)
        → (i : ℕ) (c : CommitmentClaim E InCom) → i < length cs → get_or cs i c ≡ c
        → (k : ℕ) (m : MatrixClaim E) → k < length c.matrices → get_or c.matrices k m ≡ m → P m
    matrix_at P all i c l e k m q r =
        subst P r (all_of_one P cs all i c l (sym e) k m q)

module _ {F E InCom InPath A B : Type 0} (f : Fields F E) (log_blowup : ℕ) (alpha : E) (top : ℕ)
    (cs : List (CommitmentClaim E InCom)) (inputs : List (InputOpening F InPath))
    (opens : Opening F InCom InPath)
    (shape : (c : InCom) (dims : List Dimensions) (indices : List ℕ) (sets : List (List (List F)))
    (path : InPath) → opens c dims indices sets path → HasShape dims indices sets)
    (positions : List ℕ) (good : AreInputsGood f log_blowup alpha top cs inputs opens positions)
  where
    pub fault_refutes : (e : FriError A B) → e ≢ OutOfMemory
        → InputFault f log_blowup alpha top cs inputs opens positions e → ⊥
    fault_refutes (InputProofBatchCountMismatch expected got) n w =
        wrong_differs _ _ expected got w (sym good.count)
    fault_refutes (InputOpeningsQueryCountMismatch batch expected got) n (o, l, e, w) =
        let opened = all_zip_right (OpensInput opens log_blowup top positions) cs inputs good.opened
        batch o l e in
        wrong_differs _ _ expected got w (counted f log_blowup alpha top cs inputs opens shape positions good opened.0 o opened.1)
    fault_refutes (BatchOpenedValuesCountMismatch batch expected got) n (p, l, e, (k, rows, m, q, w)) =
        let opened = all_zip_pair (OpensInput opens log_blowup top positions) cs inputs good.opened
        batch p l e in
        let count : length p.0.matrices ≡ length (get_or p.1.rows k []) = filled f log_blowup alpha top cs inputs opens shape positions good p.0 p.1 opened k m in
        wrong_differs _ _ expected got w
        (count ∙ ap length (get_or_default p.1.rows k [] rows m ∙ q))
    fault_refutes (MatrixWithoutOpeningPoints batch matrix) n (c, l, e, (m, k, q, none)) =
        (matrix_at f log_blowup alpha top cs inputs opens shape positions good HasPoints good.points batch c l e matrix m k q).some_point none
    fault_refutes (PointEvaluationCountMismatch batch matrix point expected got) n
        (c, l, e, (m, k, q, (z, j, r, w))) =
        let even = (matrix_at f log_blowup alpha top cs inputs opens shape positions good HasPoints good.points batch c l e matrix m k q).counts point z j in
        wrong_differs _ _ expected got w (sym (ap (λ y. length y.values) (sym r) ∙ even))
    fault_refutes (InputError error) n (i, p, l, e, refused) =
        refused (all_zip_pair (OpensInput opens log_blowup top positions) cs inputs good.opened i p l e)
    fault_refutes (OpeningPointMatchesQueryPoint batch matrix point) n
        (c, l, e, (m, k, q, (z, j, r, (i, position, b, s, met)))) =
        let apart = matrix_at f log_blowup alpha top cs inputs opens shape positions good
        (λ m. All (λ z. z.point ≢ point_read f top (get_or positions i 0) (log_height log_blowup m)) m.points)
        (good.sums i b).defined batch c l e matrix m k q in
        apart point z j
        (ap (λ y. y.point) r ∙ met
        ∙ ap (λ p. point_read f top p (log_height log_blowup m))
        (sym s ∙ get_or_default positions i position 0 b))
    fault_refutes FinalPolyMismatch n (has, (j, l, (defined, wrong))) =
        wrong ((good.sums j l).constants has)
    fault_refutes OutOfMemory n h = n refl
    fault_refutes _ n h = absurd h

-- a refusal for a fault is right, unless it is for want of memory
pub fault_is_exact : {F E InCom InPath A B V : Type 0} (f : Fields F E) (log_blowup : ℕ) (alpha : E)
    (top : ℕ) (cs : List (CommitmentClaim E InCom)) (inputs : List (InputOpening F InPath))
    (opens : Opening F InCom InPath)
    → ((c : InCom) (dims : List Dimensions) (indices : List ℕ) (sets : List (List (List F)))
    (path : InPath) → opens c dims indices sets path → HasShape dims indices sets)
    → (positions : List ℕ) (e : FriError A B)
    → InputFault f log_blowup alpha top cs inputs opens positions e
    → let answer : Result V (FriError A B) = Err e in answer ≢ Err OutOfMemory
    → IsOk answer ↔ AreInputsGood f log_blowup alpha top cs inputs opens positions
fault_is_exact f log_blowup alpha top cs inputs opens shape positions e fault n = (
  λ ok. absurd (false≢true ok),
  λ good. absurd (fault_refutes f log_blowup alpha top cs inputs opens shape positions good e
      (λ q. n (ap (λ e. Err e) q)) fault),
)

-- and so is an answer that is given for good openings alone
pub answer_is_exact : {F E InCom InPath A B V : Type 0} (f : Fields F E) (log_blowup : ℕ) (alpha : E)
    (top : ℕ) (cs : List (CommitmentClaim E InCom)) (inputs : List (InputOpening F InPath))
    (opens : Opening F InCom InPath)
    → ((c : InCom) (dims : List Dimensions) (indices : List ℕ) (sets : List (List (List F)))
    (path : InPath) → opens c dims indices sets path → HasShape dims indices sets)
    → (positions : List ℕ) (answer : Result V (FriError A B))
    → (IsOk answer → AreInputsGood f log_blowup alpha top cs inputs opens positions)
    → IfErr answer (InputFault f log_blowup alpha top cs inputs opens positions)
    → answer ≢ Err OutOfMemory
    → IsOk answer ↔ AreInputsGood f log_blowup alpha top cs inputs opens positions
answer_is_exact f log_blowup alpha top cs inputs opens shape positions (Ok v) good fault n =
    (good, λ _. refl)
answer_is_exact f log_blowup alpha top cs inputs opens shape positions (Err e) good fault n =
    fault_is_exact f log_blowup alpha top cs inputs opens shape positions e fault n

-- want of memory is never a wrong answer, and a fault at each challenge is one at this
pub stands : {F E InCom InPath A B : Type 0} (f : Fields F E) (log_blowup : ℕ) (alpha : E)
    (top : ℕ) (cs : List (CommitmentClaim E InCom)) (inputs : List (InputOpening F InPath))
    (opens : Opening F InCom InPath) (positions : List ℕ) (e : FriError A B)
    → (e ≡ OutOfMemory)
    ⊎ ((alpha : E) → InputFault f log_blowup alpha top cs inputs opens positions e)
    → InputFault f log_blowup alpha top cs inputs opens positions e
stands f log_blowup alpha top cs inputs opens positions e (inl is) =
    subst (InputFault f log_blowup alpha top cs inputs opens positions) (sym is) tt
stands f log_blowup alpha top cs inputs opens positions e (inr wrong) = wrong alpha
