-- Encodings that determine where they end, and with them the stream of a description.
use Rattle.std.proofs.Common.{◌≡◌, ℕ, ◌+◌, ◌<◌, ◌≤◌, ◌^◌, List, [], ◌∷◌, ◌++◌, length, take, drop}
use Rattle.std.proofs.Common.{refl, sym, ap, ◌∙◌, arith, append_assoc, append-nil}
use Rattle.std.specs.List.{All, flat_map}
use Rattle.std.specs.Int.{w64, from_be_bytes}
use Rattle.std.proofs.lemmas.List.{take_at, drop_at, length-append}
use Rattle.std.proofs.lemmas.List.Elements.{All-nil, All-cons, All-head, All-tail}
use Rattle.std.proofs.lemmas.Nat.{from_be_bytes-to_be_bytes_8}
use Rattle.p3_challenger_fs.specs.declared.pattern.Hierarchy.{Hierarchy}
use Rattle.p3_challenger_fs.specs.declared.pattern.Hierarchy.TheVariants.{Atomic, Begin, End}
use Rattle.p3_challenger_fs.specs.declared.pattern.Kind.{Kind}
use Rattle.p3_challenger_fs.specs.declared.pattern.Kind.TheVariants.{Message, Challenge, Pow}
use Rattle.p3_challenger_fs.specs.declared.pattern.Kind.TheVariants.{Protocol}
use Rattle.p3_challenger_fs.specs.declared.pattern.TypeTag.{TypeTag}
use Rattle.p3_challenger_fs.specs.declared.pattern.TypeTag.TheVariants.{Opaque, Algebra, Bits}
use Rattle.p3_challenger_fs.specs.declared.pattern.TypeTag.TheVariants.{Marker}
use Rattle.p3_challenger_fs.specs.declared.pattern.Length.{Length}
use Rattle.p3_challenger_fs.specs.declared.pattern.Length.TheVariants.{Scalar, Fixed}
use Rattle.p3_challenger_fs.specs.Pattern.{Step, step, number_bytes, text_bytes, hierarchy_byte}
use Rattle.p3_challenger_fs.specs.Pattern.{kind_byte, type_bytes, length_bytes, step_bytes}
use Rattle.p3_challenger_fs.specs.Pattern.{seed_stream}
use Rattle.p3_challenger_fs.specs.Description.{Description, stream_of}
use Rattle.p3_challenger_fs.specs.StreamLaws.{FitsNumber, FitsText, FitsType, FitsLength, FitsStep}
use Rattle.p3_challenger_fs.specs.StreamLaws.{FitsStream}
use Rattle.algebra.proofs.Lists.{head_eq, tail_eq}

-- lists of one length at the front of equal lists
pub split_front : {A : Type 0} (xs ys s t : List A) → length xs ≡ length ys → xs ++ s ≡ ys ++ t
    → (xs ≡ ys) × (s ≡ t)
split_front xs ys s t l e = (
  sym (take_at xs s (length xs) refl) ∙ ap (take (length xs)) e ∙ take_at ys t (length xs) (sym l),
  sym (drop_at xs s (length xs) refl) ∙ ap (drop (length xs)) e ∙ drop_at ys t (length xs) (sym l),
)

-- the bytes of a value with `P` determine where they end, and which value it is
pub record IsDelimited {A : Type 0} (P : A → Type 0) (encode : A → List ℕ) : Type 0 where
  pub determined : (x y : A) (s t : List ℕ) → P x → P y → encode x ++ s ≡ encode y ++ t
      → (x ≡ y) × (s ≡ t)

pub number_injective : (x y : ℕ) → FitsNumber x → FitsNumber y → number_bytes x ≡ number_bytes y
    → x ≡ y
number_injective x y fits_x fits_y e = sym (from_be_bytes-to_be_bytes_8 x fits_x)
    ∙ ap (from_be_bytes w64) e ∙ from_be_bytes-to_be_bytes_8 y fits_y

pub number_delimited : IsDelimited FitsNumber number_bytes
number_delimited = record {
  determined = λ x y s t fits_x fits_y e.
      let p = split_front (number_bytes x) (number_bytes y) s t refl e in
      (number_injective x y fits_x fits_y p.0, p.1);
}

-- a value behind its length
text_determined : (encode : ℕ → List ℕ) → IsDelimited FitsNumber encode → (x y s t : List ℕ)
    → FitsText x → FitsText y
    → (encode (length x) ++ x) ++ s ≡ (encode (length y) ++ y) ++ t → (x ≡ y) × (s ≡ t)
text_determined encode D x y s t fits_x fits_y e =
    let p = D.determined (length x) (length y) (x ++ s) (y ++ t) fits_x fits_y
    (sym (append_assoc (encode (length x)) x s) ∙ e ∙ append_assoc (encode (length y)) y t) in
    split_front x y s t p.0 p.1

pub text_delimited : IsDelimited FitsText text_bytes
text_delimited = record { determined = text_determined number_bytes number_delimited }

type_determined : (x y : TypeTag) (s t : List ℕ) → FitsType x → FitsType y
    → type_bytes x ++ s ≡ type_bytes y ++ t → (x ≡ y) × (s ≡ t)
type_determined Opaque Opaque s t fits_x fits_y e = (refl, tail_eq e)
type_determined (Algebra m) (Algebra n) s t fits_x fits_y e =
    let p = number_delimited.determined m n s t fits_x fits_y
    (tail_eq e) in (ap Algebra p.0, p.1)
type_determined (Bits m) (Bits n) s t fits_x fits_y e =
    let p = number_delimited.determined m n s t fits_x fits_y
    (tail_eq e) in (ap Bits p.0, p.1)
type_determined Marker Marker s t fits_x fits_y e = (refl, tail_eq e)
type_determined x y s t fits_x fits_y e = absurd cc

pub type_delimited : IsDelimited FitsType type_bytes
type_delimited = record { determined = type_determined }

length_determined : (x y : Length) (s t : List ℕ) → FitsLength x → FitsLength y
    → length_bytes x ++ s ≡ length_bytes y ++ t → (x ≡ y) × (s ≡ t)
length_determined Scalar Scalar s t fits_x fits_y e = (refl, tail_eq e)
length_determined (Fixed m) (Fixed n) s t fits_x fits_y e =
    let p = number_delimited.determined m n s t fits_x fits_y
    (tail_eq e) in (ap Fixed p.0, p.1)
length_determined x y s t fits_x fits_y e = absurd cc

pub length_delimited : IsDelimited FitsLength length_bytes
length_delimited = record { determined = length_determined }

hierarchy_determined : (x y : Hierarchy) → hierarchy_byte x ≡ hierarchy_byte y → x ≡ y
hierarchy_determined Atomic Atomic e = refl
hierarchy_determined Begin Begin e = refl
hierarchy_determined End End e = refl
hierarchy_determined x y e = absurd cc

kind_determined : (x y : Kind) → kind_byte x ≡ kind_byte y → x ≡ y
kind_determined Message Message e = refl
kind_determined Challenge Challenge e = refl
kind_determined Pow Pow e = refl
kind_determined Protocol Protocol e = refl
kind_determined x y e = absurd cc

-- a type, a label and a length, one behind the other, are determined if each is
three_determined : {A B C : Type 0} {P : A → Type 0} {Q : B → Type 0} {R : C → Type 0}
    {f : A → List ℕ} {g : B → List ℕ} {h : C → List ℕ} → IsDelimited P f → IsDelimited Q g
    → IsDelimited R h
    → (x x' : A) (y y' : B) (z z' : C) (s t : List ℕ) → P x → P x' → Q y → Q y' → R z → R z'
    → ((f x ++ g y) ++ h z) ++ s ≡ ((f x' ++ g y') ++ h z') ++ t
    → (x ≡ x') × (y ≡ y') × (z ≡ z') × (s ≡ t)
three_determined {A} {B} {C} {P} {Q} {R} {f} {g} {h} D E G x x' y y' z z' s t px px' qy qy'
    rz rz' e =
    let first = D.determined x x' (g y ++ (h z ++ s)) (g y' ++ (h z' ++ t)) px px'
    (sym (regroup (f x) (g y) (h z) s) ∙ e ∙ regroup (f x') (g y') (h z') t) in
    let second = E.determined y y' (h z ++ s) (h z' ++ t) qy qy' first.1 in
    let third = G.determined z z' s t rz rz' second.1 in
    (first.0, second.0, third.0, third.1)
  where
    regroup : (a b c d : List ℕ) → ((a ++ b) ++ c) ++ d ≡ a ++ (b ++ (c ++ d))
    regroup a b c d = simp append_assoc

-- eight bytes hold each number that a step's bytes have
pub record FitsWhole (s : Step) : Type 0 where
  pub numbers : FitsStep s
  pub label : FitsText s.label

same_step : (h h' : Hierarchy) (k k' : Kind) (a a' : TypeTag) (l l' : List ℕ) (n n' : Length)
    → h ≡ h' → k ≡ k' → a ≡ a' → l ≡ l' → n ≡ n'
    → step h k a l n ≡ step h' k' a' l' n'
same_step h h' k k' a a' l l' n n' e f g i j = cc

pub step_delimited : IsDelimited FitsWhole step_bytes
step_delimited = record {
  determined = λ x y s t fits_x fits_y e.
      let rest = tail_eq
      (tail_eq e) in
      let parts = three_determined type_delimited text_delimited length_delimited x.type_tag
      y.type_tag x.label y.label x.length y.length s t
      fits_x.numbers.type_tag fits_y.numbers.type_tag fits_x.label fits_y.label
      fits_x.numbers.length fits_y.numbers.length rest in (
        same_step x.hierarchy y.hierarchy x.kind y.kind x.type_tag y.type_tag x.label y.label
            x.length y.length
            (hierarchy_determined x.hierarchy y.hierarchy (head_eq e))
            (kind_determined x.kind y.kind (head_eq (tail_eq e))) parts.0
            parts.1 parts.2,
        parts.3,
      );
}

pub cons_equal : {A : Type 0} (x y : A) (xs ys : List A) → x ≡ y → xs ≡ ys → x ∷ xs ≡ y ∷ ys
cons_equal x y xs ys e f = cc

module _ {A : Type 0} (P : A → Type 0) (f : A → List ℕ) (D : IsDelimited P f) where
  -- values one behind the other: of two such lists in front of equal bytes, one goes on where the
  -- other ends
  pub run_determined : (xs ys : List A) (s t : List ℕ) → All P xs → All P ys
      → flat_map f xs ++ s ≡ flat_map f ys ++ t
      → (u : List A) × (v : List A) × (xs ++ u ≡ ys ++ v) × (u ≡ v → s ≡ t)
  run_determined [] [] s t px py e = ([], [], refl, λ _. e)
  run_determined [] (y ∷ ys) s t px py e = (y ∷ ys, [], sym (append-nil (y ∷ ys)), λ h. absurd cc)
  run_determined (x ∷ xs) [] s t px py e = ([], x ∷ xs, append-nil (x ∷ xs), λ h. absurd cc)
  run_determined (x ∷ xs) (y ∷ ys) s t px py e =
      let first = D.determined x y (flat_map f xs ++ s) (flat_map f ys ++ t) (All-head P x xs px)
      (All-head P y ys py)
      (sym (append_assoc (f x) (flat_map f xs) s) ∙ e ∙ append_assoc (f y) (flat_map f ys) t) in
      let rest = run_determined xs ys s t (All-tail P x xs px) (All-tail P y ys py) first.1 in
      (rest.0, rest.1, cons_equal x y (xs ++ rest.0) (ys ++ rest.1) first.0 rest.2, rest.3)

  -- and where nothing follows they are the same
  pub last_determined : ((x : A) → 1 ≤ length (f x)) → (xs ys : List A) → All P xs → All P ys
      → flat_map f xs ≡ flat_map f ys → xs ≡ ys
  last_determined longer [] [] px py e = refl
  last_determined longer [] (y ∷ ys) px py e =
      absurd (omega (arith, longer y, length-append (f y) (flat_map f ys), ap length e))
  last_determined longer (x ∷ xs) [] px py e =
      absurd (omega (arith, longer x, length-append (f x) (flat_map f xs), ap length e))
  last_determined longer (x ∷ xs) (y ∷ ys) px py e =
      let first = D.determined x y (flat_map f xs) (flat_map f ys) (All-head P x xs px)
      (All-head P y ys py) e in
      cons_equal x y xs ys first.0
      (last_determined longer xs ys (All-tail P x xs px) (All-tail P y ys py) first.1)

length_text : (bytes : List ℕ) → length (text_bytes bytes) ≡ length bytes + 8
length_text bytes = length-append (number_bytes (length bytes)) bytes ∙ (omega arith)

-- where the counts of steps have the same bytes: the steps end where the others do, whatever
-- follows, and `Q` holds
abbrev pub AreDetermined : List Step → List Step → Type 0 → Type 0
AreDetermined steps steps' Q = number_bytes (length steps) ≡ number_bytes (length steps')
    → (u v : List Step) → steps ++ u ≡ steps' ++ v → Q × (u ≡ v)

-- a stream's parts are determined one after the other, over any encodings that are delimited
module _ (number_bytes : ℕ → List ℕ) (text_bytes : List ℕ → List ℕ) (bytes : Step → List ℕ)
    (same_length : (m n : ℕ) → length (number_bytes m) ≡ length (number_bytes n))
    (longer : (x : List ℕ) → 1 ≤ length (text_bytes x)) (T : IsDelimited FitsText text_bytes)
    (S : IsDelimited FitsWhole bytes) where
  parts_determined : (name name' : List ℕ) (steps steps' : List Step)
      (labels labels' : List (List ℕ)) (Q : Type 0) → FitsText name → FitsText name'
      → All FitsWhole steps → All FitsWhole steps'
      → (number_bytes (length steps) ≡ number_bytes (length steps') → (u v : List Step)
      → steps ++ u ≡ steps' ++ v → Q × (u ≡ v))
      → All FitsText labels → All FitsText labels'
      → text_bytes name ++ number_bytes (length steps) ++ flat_map bytes steps
      ++ number_bytes (length labels) ++ flat_map text_bytes labels
      ≡ text_bytes name' ++ number_bytes (length steps') ++ flat_map bytes steps'
      ++ number_bytes (length labels') ++ flat_map text_bytes labels'
      → (name ≡ name') × Q × (labels ≡ labels')
  parts_determined name name' steps steps' labels labels' Q n n' p p' counted q q' e =
      let first = T.determined name name' _ _ n n'
      (sym (regroup (text_bytes name) (number_bytes (length steps)) (flat_map bytes steps)
      (number_bytes (length labels)) (flat_map text_bytes labels))
      ∙ e ∙ regroup (text_bytes name') (number_bytes (length steps')) (flat_map bytes steps')
      (number_bytes (length labels')) (flat_map text_bytes labels')) in
      let count = split_front (number_bytes (length steps)) (number_bytes (length steps')) _ _
      (same_length (length steps) (length steps')) first.1 in
      let run = run_determined FitsWhole bytes S steps steps' _ _ p p' count.1 in
      let second = counted count.0 run.0 run.1 run.2 in
      let label_count = split_front (number_bytes (length labels))
      (number_bytes (length labels')) _ _ (same_length (length labels) (length labels'))
      (run.3 second.1) in (
        first.0,
        second.0,
        last_determined FitsText text_bytes T longer labels labels' q q'
            label_count.1,
      )
    where
      regroup : (a b c d e : List ℕ) → (((a ++ b) ++ c) ++ d) ++ e ≡ a ++ (b ++ (c ++ (d ++ e)))
      regroup a b c d e = simp append_assoc

-- and so are those of a stream
pub stream_determined : (version version' : ℕ) (name name' : List ℕ) (steps steps' : List Step)
    (labels labels' : List (List ℕ)) (Q : Type 0) → FitsText name → FitsText name'
    → All FitsWhole steps → All FitsWhole steps' → AreDetermined steps steps' Q
    → All FitsText labels → All FitsText labels'
    → seed_stream version name steps labels ≡ seed_stream version' name' steps' labels'
    → (version ≡ version') × (name ≡ name') × Q × (labels ≡ labels')
unfolding seed_stream
stream_determined version version' name name' steps steps' labels labels' Q n n' p p'
    counted q q' e =
    let parts = parts_determined number_bytes text_bytes step_bytes (λ m n. refl)
    (λ x. omega (arith, length_text x)) text_delimited step_delimited
    name name' steps steps' labels labels' Q n n' p p' counted q q' (tail_eq e) in
    (head_eq e, parts.0, parts.1, parts.2)

-- steps whose number fits are determined
counted_determined : (steps steps' : List Step) → FitsNumber (length steps)
    → FitsNumber (length steps') → AreDetermined steps steps' (steps ≡ steps')
counted_determined steps steps' c c' e u v f =
    split_front steps steps' u v (number_injective (length steps) (length steps') c c' e) f

whole_steps : (steps : List Step) → All FitsStep steps → All (λ (s : Step). FitsText s.label) steps
    → All FitsWhole steps
whole_steps steps p q k d l = record { numbers = p k d l; label = q k d l }

abbrev description : ℕ → List ℕ → List Step → List (List ℕ) → Description
description version name steps labels =
    record { version = version; name = name; steps = steps; labels = labels }

same_description : (v v' : ℕ) (n n' : List ℕ) (s s' : List Step) (l l' : List (List ℕ)) → v ≡ v'
    → n ≡ n' → s ≡ s' → l ≡ l' → description v n s l ≡ description v' n' s' l'
same_description v v' n n' s s' l l' e f g h = cc

-- the stream of a description determines the description
pub description_determined : (a b : Description) → FitsStream a → FitsStream b
    → stream_of a ≡ stream_of b → a ≡ b
description_determined a b p q e =
    let parts = stream_determined a.version b.version a.name b.name a.steps b.steps a.labels
    b.labels (a.steps ≡ b.steps) p.name q.name
    (whole_steps a.steps p.steps p.step_labels) (whole_steps b.steps q.steps q.step_labels)
    (counted_determined a.steps b.steps p.step_count q.step_count) p.labels q.labels e in
    same_description a.version b.version a.name b.name a.steps b.steps a.labels b.labels parts.0
    parts.1 parts.2 parts.3

-- a list of encodings, each as long as `size` or longer, is as long as each of these and as their
-- number
size_of_each : {A : Type 0} (f : A → List ℕ) (size : A → ℕ) → ((x : A) → size x ≤ length (f x))
    → (n : ℕ) (xs : List A) → length (flat_map f xs) < n → All (λ x. size x < n) xs
size_of_each f size longer n [] l = All-nil (λ x. size x < n)
size_of_each f size longer n (x ∷ xs) l =
    let split = length-append (f x) (flat_map f xs) in
    All-cons (λ x. size x < n) x xs (omega (arith, longer x, split, l))
    (size_of_each f size longer n xs (omega (arith, split, l)))

number_of_all : {A : Type 0} (f : A → List ℕ) → ((x : A) → 1 ≤ length (f x)) → (xs : List A)
    → length xs ≤ length (flat_map f xs)
number_of_all f longer [] = omega arith
number_of_all f longer (x ∷ xs) =
    omega (arith, longer x, length-append (f x) (flat_map f xs), number_of_all f longer xs)

length_step : (s : Step) → length s.label + 10 ≤ length (step_bytes s)
length_step s =
    omega (
      arith,
      length-append (type_bytes s.type_tag ++ text_bytes s.label)
          (length_bytes s.length),
      length-append (type_bytes s.type_tag) (text_bytes s.label),
      length_text s.label,
    )

length_five : (v : ℕ) (a b c d e : List ℕ) → length (v ∷ (a ++ b ++ c ++ d ++ e))
    ≡ length a + length b + length c + length d + length e + 1
length_five v a b c d e =
    omega (
      arith,
      length-append (a ++ b ++ c ++ d) e,
      length-append (a ++ b ++ c) d,
      length-append (a ++ b) c,
      length-append a b,
    )

length_stream : (version : ℕ) (name : List ℕ) (steps : List Step) (labels : List (List ℕ))
    → length (seed_stream version name steps labels)
    ≡ length name + length (flat_map step_bytes steps) + length (flat_map text_bytes labels) + 25
unfolding seed_stream
length_stream version name steps labels =
    length_five version (text_bytes name) (number_bytes (length steps)) (flat_map step_bytes steps)
    (number_bytes (length labels)) (flat_map text_bytes labels)
    ∙ (omega (arith, length_text name))

-- where eight bytes hold the stream's length, they hold the texts' lengths and the number of steps
pub short_fits : (d : Description) → All FitsStep d.steps → FitsNumber (length (stream_of d))
    → FitsStream d
short_fits d p l =
    let e = length_stream d.version d.name d.steps d.labels in
    record {
      name = omega arith;
      step_count = omega (
        arith,
        number_of_all step_bytes (λ s.
            omega (arith, length_step s)) d.steps,
      );
      steps = p;
      step_labels = size_of_each step_bytes (λ s. length s.label) (λ s.
          omega (arith, length_step s)) (2 ^ 64) d.steps (omega arith);
      labels = size_of_each text_bytes (λ x. length x) (λ x.
          omega (arith, length_text x)) (2 ^ 64) d.labels (omega arith);
    }
