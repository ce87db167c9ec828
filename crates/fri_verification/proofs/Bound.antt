-- What claims state, and what is bound to it.
use Rattle.std.proofs.Common.{◌≡◌, ℕ, suc, zero, ◌+◌, ◌<◌, ◌≤◌, List, [], ◌∷◌, ◌++◌, map, length, take, drop, get_or, refl}
use Rattle.std.proofs.Common.{sym, ap, ap₂, ◌∙◌, arith, append_assoc, add-one, drop-cons}
use Rattle.std.proofs.lemmas.List.{append-nil, take_all, length-map}
use Rattle.algebra.proofs.Lists.{head_eq, tail_eq, map-map}
use Rattle.p3_mmcs.specs.declared.openings.PointOpening.{PointOpening}
use Rattle.p3_mmcs.specs.declared.openings.MatrixOpening.{MatrixOpening}
use Rattle.p3_mmcs.specs.declared.openings.CommitmentOpening.{CommitmentOpening}
use Rattle.p3_pcs.specs.Claims.{zip_with, point_claim, matrix_claim, claim}
use Rattle.fri_statement.specs.Statement.{OpenedMatrix, OpenedCommitment}
use Rattle.fri_verification.specs.Bound.{matrix_claimed, batch_claimed}
use Rattle.fri_numbers.specs.Claims.{point_by, batch_by, matrix_by}

-- a matrix by its parts
pub opened_same : (shift log_size w w' : ℕ) (zs zs' : List (List ℕ)) → w ≡ w' → zs ≡ zs'
    → ◌≡◌ {A = OpenedMatrix} (record { shift = shift; log_size = log_size; width = w; points = zs })
    (record { shift = shift; log_size = log_size; width = w'; points = zs' })
opened_same shift log_size w w' zs zs' e f = cc

module _ {E : Type 0} (numbers_of : E → List ℕ) where
  -- the points of claims, by their numbers
  pub points_stated : (ps : List (PointOpening E))
      → map numbers_of (map (λ p. p.point) ps)
      ≡ map (λ p. p.point) (map (point_by numbers_of) (map point_claim ps))
  points_stated [] = refl
  points_stated (p ∷ ps) = ap (λ zs. numbers_of p.point ∷ zs) (points_stated ps)

  module _ {D : Type 0} (shift_of log_size_of : D → ℕ) where
    -- what is stated of all
    pub matrices_ended : (news : List OpenedMatrix) (ms : List (MatrixOpening E D)) (i : ℕ)
        → length ms ≤ i
        → news ≡ map (λ m. matrix_claimed (matrix_by numbers_of shift_of log_size_of (matrix_claim m)))
        (take i ms)
        → news ≡ map matrix_claimed (map (matrix_by numbers_of shift_of log_size_of) (map matrix_claim ms))
    matrices_ended news ms i l known =
        known
        ∙ ap (λ ns. map (λ m. matrix_claimed (matrix_by numbers_of shift_of log_size_of (matrix_claim m))) ns)
        (take_all i ms l)
        ∙ sym (map-map (λ c. matrix_claimed (matrix_by numbers_of shift_of log_size_of c)) matrix_claim ms)
        ∙ sym (map-map matrix_claimed (matrix_by numbers_of shift_of log_size_of) (map matrix_claim ms))

    pub claims_ended : (news : List OpenedCommitment) (cs : List (CommitmentOpening E (List ℕ) D))
        (i : ℕ) → length cs ≤ i
        → news ≡ map (λ c. batch_claimed (batch_by numbers_of shift_of log_size_of (claim c))) (take i cs)
        → news ≡ map batch_claimed (map (batch_by numbers_of shift_of log_size_of) (map claim cs))
    claims_ended news cs i l known =
        known
        ∙ ap (λ ns. map (λ c. batch_claimed (batch_by numbers_of shift_of log_size_of (claim c))) ns)
        (take_all i cs l)
        ∙ sym (map-map (λ c. batch_claimed (batch_by numbers_of shift_of log_size_of c)) claim cs)
        ∙ sym (map-map batch_claimed (batch_by numbers_of shift_of log_size_of) (map claim cs))

-- entries at one place of lists that are read alike
pub entries_alike : {A B C : Type 0} (f : A → C) (g : B → C) (xs : List A) (ys : List B) (i : ℕ) (x : A)
    (y : B) → map f xs ≡ map g ys → i < length ys → x ≡ get_or xs i x → y ≡ get_or ys i y → f x ≡ g y
entries_alike f g [] [] i x y e l p q = absurd (omega (arith, l))
entries_alike f g [] (v ∷ ys) i x y e l p q = cc
entries_alike f g (u ∷ xs) [] i x y e l p q = absurd (omega (arith, l))
entries_alike f g (u ∷ xs) (v ∷ ys) zero x y e l p q = ap f p ∙ head_eq e ∙ sym (ap g q)
entries_alike f g (u ∷ xs) (v ∷ ys) (suc i) x y e l p q =
    entries_alike f g xs ys i x y (tail_eq e) (omega (arith, l)) p q

-- as many as are read alike
pub same_length : {A B C : Type 0} (f : A → C) (g : B → C) (xs : List A) (ys : List B)
    → map f xs ≡ map g ys → length xs ≡ length ys
same_length f g xs ys e = sym (length-map xs f) ∙ ap length e ∙ length-map ys g

-- one pair more of two lists that are taken apart together
pub zipped_more : {S T U : Type 0} (f : S → T → U) (done news whole : List U) (xs : List S) (ys : List T) (i : ℕ)
    (x : S) (y : T) (u : U) → i < length xs → i < length ys → x ≡ get_or xs i x → y ≡ get_or ys i y
    → news ≡ done ++ u ∷ [] → u ≡ f x y → done ++ zip_with f (drop i xs) (drop i ys) ≡ whole
    → news ++ zip_with f (drop (i + 1) xs) (drop (i + 1) ys) ≡ whole
zipped_more f done news whole xs ys i x y u l m p q pushed is known =
    ap (λ us. us ++ zip_with f (drop (i + 1) xs) (drop (i + 1) ys)) pushed
    ∙ append_assoc done (u ∷ []) (zip_with f (drop (i + 1) xs) (drop (i + 1) ys))
    ∙ ap (λ v. done ++ (v ∷ zip_with f (drop (i + 1) xs) (drop (i + 1) ys))) is
    ∙ ap₂ (λ vs ws. done ++ zip_with f vs ws) (sym (front xs x l p)) (sym (front ys y m q))
    ∙ known
  where
    front : {A : Type 0} (zs : List A) (z : A) → i < length zs → z ≡ get_or zs i z
        → drop i zs ≡ z ∷ drop (i + 1) zs
    front zs z k e = rw (add-one, drop-cons zs i z) (ap (λ w. w ∷ drop (suc i) zs) (sym e))

pub zipped_all : {S T U : Type 0} (f : S → T → U) (done whole : List U) (xs : List S) (ys : List T) (i : ℕ)
    → length ys ≤ i → length xs ≡ length ys → done ++ zip_with f (drop i xs) (drop i ys) ≡ whole → done ≡ whole
zipped_all f done whole xs ys i l same known =
    sym (append-nil done) ∙ ap (λ us. done ++ us) (sym (ended xs ys i l same)) ∙ known
  where
    ended : (vs : List _) (ws : List _) (k : ℕ) → length ws ≤ k → length vs ≡ length ws → zip_with f (drop k vs) (drop k ws) ≡ []
    ended [] ws zero h e = refl
    ended [] ws (suc k) h e = refl
    ended (v ∷ vs) [] k h e = absurd (omega (arith, e))
    ended (v ∷ vs) (w ∷ ws) zero h e = absurd (omega (arith, h))
    ended (v ∷ vs) (w ∷ ws) (suc k) h e = ended vs ws k (omega (arith, h)) (omega (arith, e))
