-- The quotients of all commitments' matrices, from some commitment on.
use Rattle.std.proofs.Common.{◌≡◌, ℕ, zero, suc, ◌+◌, ◌<◌, ◌≤◌, List, [], ◌∷◌, ◌++◌, take, drop}
use Rattle.std.proofs.Common.{length, map, All, get_or, subst, refl, sym, ap, ap₂, ◌∙◌, arith, add-one}
use Rattle.std.proofs.Common.{length-append}
use Rattle.std.specs.List.{flat_map, zip, between, AllZip}
use Rattle.std.proofs.lemmas.Grind.{flat_map-append}
use Rattle.std.proofs.lemmas.List.{length-map, take_all, drop_all}
use Rattle.std.proofs.lemmas.List.Concat.{get_or-flat_map}
use Rattle.std.proofs.lemmas.Slice.Zip.{AllZip-long}
use Rattle.std.specs.declared.vec.Vec.{Vec}
use Rattle.algebra.specs.Field.{FieldOps, IsRing, sub}
use Rattle.algebra.specs.Nested.{lists}
use Rattle.algebra.specs.Polynomial.{val}
use Rattle.algebra.proofs.Nested.{length-lists, lists_at}
use Rattle.algebra.proofs.Values.{val-nil}
use Rattle.algebra.proofs.Lists.{entry_of_map}
use Rattle.p3_mmcs.specs.declared.openings.CommitmentOpening.{CommitmentOpening}
use Rattle.p3_fri_relation.specs.Setting.{MatrixClaim, CommitmentClaim}
use Rattle.p3_fri_relation.specs.Heights.{matrices_of, log_height}
use Rattle.p3_fri_relation.specs.Views.{claims_of}
use Rattle.p3_fri_inputs.specs.Claims.{claim_of, combined_values, distances}
use Rattle.p3_fri_inputs.proofs.Places.{length-mapped_twice, mapped_twice_is}
use Rattle.p3_fri_inputs.proofs.Joined.{length-joined_next, length-joined_at, joined_part, map-joined}
use Rattle.p3_fri_inputs.proofs.Commitments.{terms_of}

-- parts of parts
pub joined_twice : {X Y Z : Type 0} (f : Y → List Z) (g : X → List Y) (xs : List X)
    → flat_map f (flat_map g xs) ≡ flat_map (λ x. flat_map f (g x)) xs
joined_twice f g [] = refl
joined_twice f g (x ∷ xs) =
    flat_map-append f (g x) (flat_map g xs)
    ∙ ap (λ ys. flat_map f (g x) ++ ys) (joined_twice f g xs)

-- what holds of all matrices holds of those under one commitment
pub all_of_one : {E InCom : Type 0} (P : MatrixClaim E → Type 0)
    (cs : List (CommitmentClaim E InCom)) → All P (matrices_of cs)
    → (i : ℕ) (c : CommitmentClaim E InCom) → i < length cs → c ≡ get_or cs i c
    → All P c.matrices
all_of_one P cs all i c l is j m k =
    let before = length (matrices_of (take i cs)) in
    let there : j < length (get_or cs i c).matrices = omega (arith, k, ap (λ d. length d.matrices) is) in
    subst P
    (get_or-flat_map (λ d. d.matrices) cs i j c m l there ∙ ap (λ d. get_or d.matrices j m) (sym is))
    (all (before + j) m (omega (arith, k, length-joined_at (λ d. d.matrices) cs i c l is)))

-- the same under the commitment of a claim
pub all_of_claim : {E InCom Domain : Type 0} (log_size : Domain → ℕ) (P : MatrixClaim E → Type 0)
    (claims : List (CommitmentOpening E InCom Domain))
    → All P (matrices_of (claims_of log_size claims))
    → (i : ℕ) {claim : CommitmentOpening E InCom Domain} → i < length claims
    → claim ≡ get_or claims i claim → All P (claim_of log_size claim).matrices
all_of_claim log_size P claims all i {claim = claim} l is =
    all_of_one P (claims_of log_size claims) all i (claim_of log_size claim)
    (omega (arith, l, length-map claims (claim_of log_size)))
    (entry_of_map (claim_of log_size) claims i claim l is)

-- what holds place by place holds at a place
pub all_zip_at : {X Y : Type 0} (R : X → Y → Type 0) (xs : List X) (ys : List Y) → AllZip R xs ys
    → (i : ℕ) (x : X) (y : Y) → i < length xs → R (get_or xs i x) (get_or ys i y)
all_zip_at R [] ys h i x y l = absurd (omega (arith, l))
all_zip_at R (u ∷ xs) [] h i x y l = absurd h
all_zip_at R (u ∷ xs) (v ∷ ys) h zero x y l = h.0
all_zip_at R (u ∷ xs) (v ∷ ys) h (suc i) x y l = all_zip_at R xs ys h.1 i x y (omega (arith, l))

-- the same of the images of two lists
pub all_zip_mapped_counts : {A B X Y : Type 0} (R : X → Y → Type 0) (f : A → X) (g : B → Y)
    (xs : List A) (ys : List B) → AllZip R (map f xs) (map g ys) → length ys ≡ length xs
all_zip_mapped_counts R f g xs ys all =
    sym (length-map ys g) ∙ AllZip-long R (map f xs) (map g ys) all ∙ length-map xs f

pub all_zip_mapped_at : {A B X Y : Type 0} (R : X → Y → Type 0) (f : A → X) (g : B → Y)
    (xs : List A) (ys : List B) → AllZip R (map f xs) (map g ys) → (i : ℕ) {x : A} {y : B}
    → i < length xs → x ≡ get_or xs i x → y ≡ get_or ys i y → R (f x) (g y)
all_zip_mapped_at R f g xs ys all i {x = x} {y = y} l is_x is_y =
    let there : i < length ys = omega (arith, l, all_zip_mapped_counts R f g xs ys all) in
    subst (λ a. R a (g y)) (sym (entry_of_map f xs i x l is_x))
    (subst (R (get_or (map f xs) i (f x))) (sym (entry_of_map g ys i y there is_y))
    (all_zip_at R (map f xs) (map g ys) all i (f x) (g y) (omega (arith, l, length-map xs f))))

-- vectors that hold what is made of each element of a list
module _ {A B E D : Type 0} (f : A → B) (values : B → List E) (xs : List A)
    (vectors : List (Vec E D)) (all : lists vectors ≡ map values (map f xs)) where
  pub held_counts : length vectors ≡ length xs
  held_counts = sym (length-lists vectors) ∙ ap length all ∙ length-mapped_twice f values xs

  pub held_at : (i : ℕ) {x : A} {vector : Vec E D} → i < length xs → x ≡ get_or xs i x
      → vector ≡ get_or vectors i vector → vector.items ≡ values (f x)
  held_at i {x = x} {vector = vector} l is_x is_vector =
      ap (λ v. v.items) is_vector ∙ sym (lists_at vectors i vector (omega (arith, l, held_counts)))
      ∙ ap (λ ys. get_or ys i []) all ∙ sym (mapped_twice_is f values xs i [] l is_x)

module _ {E : Type 0} (K : FieldOps E) (log_blowup : ℕ) where
  -- there are as many combined values as distances
  pub same_count : (alpha : E) (read : ℕ → E) (ms : List (MatrixClaim E))
      → length (combined_values K alpha ms) ≡ length (map K.inv (distances K log_blowup read ms))
  same_count alpha read [] = refl
  same_count alpha read (m ∷ ms) =
      let value = map (λ z. val K z.values alpha) m.points in
      let distance = map (λ z. sub K z.point (read (log_height log_blowup m))) m.points in
      omega (
        arith,
        length-append value (combined_values K alpha ms),
        length-map m.points (λ z. val K z.values alpha),
        length-append distance (distances K log_blowup read ms),
        length-map m.points (λ z. sub K z.point (read (log_height log_blowup m))),
        length-map (distance ++ distances K log_blowup read ms) K.inv,
        length-map (distances K log_blowup read ms) K.inv,
        same_count alpha read ms,
      )

module _ {F E InCom : Type 0} (K : FieldOps E) (lift : F → E) (log_blowup : ℕ) where
  abbrev pub all_terms : (h : ℕ) (x : E) → List (CommitmentClaim E InCom)
      → (rows : List (List (List F))) → List E
  all_terms h x cs rows =
      flat_map (λ (c, opened). terms_of K lift log_blowup h x c.matrices opened) (zip cs rows)

  -- the combined values under one commitment
  abbrev pub values_under : (alpha : E) → CommitmentClaim E InCom → List E
  values_under alpha c = combined_values K alpha c.matrices

  values_joined : (alpha : E) (cs : List (CommitmentClaim E InCom))
      → combined_values K alpha (matrices_of cs) ≡ flat_map (values_under alpha) cs
  values_joined alpha cs =
      joined_twice (λ m. map (λ z. val K z.values alpha) m.points) (λ d. d.matrices) cs

  -- from the commitment `k` on, the sums of all log heights are those of its matrices and those
  -- after them
  pub record AreSummedAfter (alpha : E) (cs : List (CommitmentClaim E InCom))
      (rows : List (List (List F))) (inverses before : List E) (k end : ℕ) (sums : List E)
      : Type 0 where
    pub taken : end ≡ length (flat_map (values_under alpha) (take k cs))
    pub count : length sums ≡ length before
    pub summed : (read : ℕ → E)
        → inverses ≡ map K.inv (distances K log_blowup read (matrices_of cs))
        → ((h : ℕ) (d : E) → h < length before → get_or before h d ≡ K.zero)
        → (h : ℕ) (d : E) → h < length before → get_or sums h d
        ≡ val K (all_terms h (read h) (drop k cs) (drop k rows)) alpha

  terms_after : (h : ℕ) (x : E) (cs : List (CommitmentClaim E InCom))
      (rows : List (List (List F))) (i : ℕ) (c : CommitmentClaim E InCom)
      → i < length cs → i < length rows
      → all_terms h x (drop i cs) (drop i rows)
      ≡ terms_of K lift log_blowup h x (get_or cs i c).matrices (get_or rows i [])
      ++ all_terms h x (drop (suc i) cs) (drop (suc i) rows)
  terms_after h x [] rows i c l k = absurd (omega (arith, l))
  terms_after h x (e ∷ cs) [] i c l k = absurd (omega (arith, k))
  terms_after h x (e ∷ cs) (opened ∷ rows) zero c l k = refl
  terms_after h x (e ∷ cs) (opened ∷ rows) (suc i) c l k =
      terms_after h x cs rows i c (omega (arith, l)) (omega (arith, k))

  -- all sums are zero before there is a commitment
  pub none_summed : IsRing K → (alpha : E) (cs : List (CommitmentClaim E InCom))
      (rows : List (List (List F))) (inverses before : List E) (k : ℕ) → length cs ≤ k
      → length inverses ≡ length (combined_values K alpha (matrices_of cs))
      → AreSummedAfter alpha cs rows inverses before k (length inverses) before
  none_summed ring alpha cs rows inverses before k l long = record {
    taken = long ∙ ap length (values_joined alpha cs)
        ∙ ap (λ ds. length (flat_map (values_under alpha) ds)) (sym (take_all k cs l));
    count = refl;
    summed = λ read inverses zeros h d below. zeros h d below ∙ sym (val-nil K ring alpha)
        ∙ ap (λ ds. val K (all_terms h (read h) ds (drop k rows)) alpha) (sym (drop_all k cs l));
  }

  -- the values under the next commitment end where those taken begin, and lie within all
  ends_before : {alpha : E} {cs : List (CommitmentClaim E InCom)} {rows : List (List (List F))}
      {inverses before sums : List E} {k end : ℕ} (i : ℕ) {c : CommitmentClaim E InCom}
      → AreSummedAfter alpha cs rows inverses before k end sums → k ≡ i + 1 → i < length cs
      → c ≡ get_or cs i c → end ≡ length (flat_map (values_under alpha) (take i cs))
      + length (values_under alpha c)
  ends_before {alpha = alpha} {cs = cs} i {c = c} so_far next here is =
      so_far.taken ∙ ap (λ n. length (flat_map (values_under alpha) (take n cs))) next
      ∙ length-joined_next (values_under alpha) cs i c here is

  pub own_within : {alpha : E} {cs : List (CommitmentClaim E InCom)} {rows : List (List (List F))}
      {inverses before sums : List E} {k end : ℕ} (i : ℕ) {c : CommitmentClaim E InCom}
      → AreSummedAfter alpha cs rows inverses before k end sums
      → length inverses ≡ length (combined_values K alpha (matrices_of cs))
      → k ≡ i + 1 → i < length cs → c ≡ get_or cs i c
      → (length (values_under alpha c) ≤ end) × (end ≤ length inverses)
  own_within {alpha = alpha} {cs = cs} i {c = c} so_far long next here is =
      let ends = ends_before i so_far next here is in (
        omega (arith, ends),
        omega (
          arith,
          ends,
          long,
          ap length (values_joined alpha cs),
          length-joined_at (values_under alpha) cs i c here is,
        ),
      )

  -- one commitment more
  pub opening_next : {alpha : E} {cs : List (CommitmentClaim E InCom)} {rows : List (List (List F))}
      {inverses before sums new : List E} {k end start i : ℕ} {c : CommitmentClaim E InCom}
      {opened : List (List F)} {claimed : List E}
      → AreSummedAfter alpha cs rows inverses before k end sums
      → k ≡ i + 1 → i < length cs → c ≡ get_or cs i c → i < length rows
      → opened ≡ get_or rows i []
      → claimed ≡ values_under alpha c → start + length claimed ≡ end
      → length new ≡ length sums
      → ((read : ℕ → E) (later : ℕ → List E)
      → between start end inverses ≡ map K.inv (distances K log_blowup read c.matrices)
      → ((h : ℕ) (d : E) → h < length sums → get_or sums h d ≡ val K (later h) alpha)
      → (h : ℕ) (d : E) → h < length sums → get_or new h d
      ≡ val K (terms_of K lift log_blowup h (read h) c.matrices opened ++ later h) alpha)
      → AreSummedAfter alpha cs rows inverses before i start new
  opening_next {alpha = alpha} {cs = cs} {rows = rows} {inverses = inverses} {end = end}
      {start = start} {i = i} {c = c} so_far next here is_c there is_opened is_claimed around long
      gains =
      let ends = ends_before i so_far next here is_c in
      let starts : start ≡ length (flat_map (values_under alpha) (take i cs)) =
      omega (arith, ends, around, ap length is_claimed) in
      let across : end ≡ start + length (values_under alpha c) = omega (arith, ends, starts) in
      record {
        taken = starts;
        count = long ∙ so_far.count;
        summed = λ read is_inverses zeros h d l.
            let part = λ (e : CommitmentClaim E InCom).
            map K.inv (distances K log_blowup read e.matrices) in
            let distance = λ (m : MatrixClaim E).
            map (λ z. sub K z.point (read (log_height log_blowup m))) m.points in
            let whole : inverses ≡ flat_map part cs =
            is_inverses ∙ ap (λ xs. map K.inv xs) (joined_twice distance (λ e. e.matrices) cs)
            ∙ map-joined (λ e. distances K log_blowup read e.matrices) K.inv cs in
            gains read (λ h. all_terms h (read h) (drop (i + 1) cs) (drop (i + 1) rows))
            (ap (λ xs. between start end xs) whole
            ∙ joined_part (values_under alpha) part (λ e. same_count K log_blowup alpha read e.matrices) cs i c
            start end here is_c starts across)
            (λ h d l. so_far.summed read is_inverses zeros h d (omega (arith, l, so_far.count))
            ∙ ap (λ n. val K (all_terms h (read h) (drop n cs) (drop n rows)) alpha) next)
            h d (omega (arith, l, so_far.count))
            ∙ ap (λ ts. val K ts alpha)
            (ap₂ (λ e r. terms_of K lift log_blowup h (read h) e.matrices r
            ++ all_terms h (read h) (drop (i + 1) cs) (drop (i + 1) rows)) is_c is_opened
            ∙ ap (λ n. terms_of K lift log_blowup h (read h) (get_or cs i c).matrices (get_or rows i [])
            ++ all_terms h (read h) (drop n cs) (drop n rows)) (add-one i)
            ∙ sym (terms_after h (read h) cs rows i c here there));
      }
