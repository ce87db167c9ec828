-- What holds at the places of a list that was made of another, place by place.
use Rattle.std.proofs.Common.{◌≡◌, ℕ, zero, suc, ◌+◌, ◌<◌, ◌≤◌, List, [], ◌∷◌, length, map}
use Rattle.std.proofs.Common.{All, get_or, subst, refl, sym, ap, ◌∙◌, arith, below_more}
use Rattle.std.specs.List.{flat_map}
use Rattle.std.specs.Option.{MatchOption}
use Rattle.std.specs.Prelude.{Option, Some, None}
use Rattle.std.proofs.lemmas.List.{length-map, get_or-map}
use Rattle.std.proofs.lemmas.List.Elements.{All-append}
use Rattle.p3_fri_relation.specs.Faults.{At}
use Rattle.algebra.proofs.Lists.{entry_of_map}

-- of each of the first `k` of the list that `f` makes
abbrev pub HoldsBelow : {X A : Type 0} (f : X → A) (Q : A → Type 0) (xs : List X) (k : ℕ) → Type 0
HoldsBelow {A = A} f Q xs k = (j : ℕ) → j < k → (d : A) → Q (get_or (map f xs) j d)

module _ {X A : Type 0} (f : X → A) (Q : A → Type 0) (xs : List X) where
  pub at_mapped : (i : ℕ) (x : X) → i < length xs → x ≡ get_or xs i x → Q (f x) → At i Q (map f xs)
  at_mapped i x l is q = (
    f x,
    omega (arith, l, length-map xs f),
    get_or-map f xs i x (f x) l ∙ ap f (sym is),
    q,
  )

  pub holds_next : (k : ℕ) (x : X) → k < length xs → x ≡ get_or xs k x → HoldsBelow f Q xs k
      → Q (f x) → HoldsBelow f Q xs (k + 1)
  holds_next k x l is below here =
      below_more (λ j. (d : A) → Q (get_or (map f xs) j d)) k below
      (λ d. subst Q (ap f is ∙ sym (get_or-map f xs k x d l)) here)

  pub holds_of_all : (k : ℕ) → length xs ≤ k → HoldsBelow f Q xs k → All Q (map f xs)
  holds_of_all k l below j d m = below j (omega (arith, l, m, length-map xs f)) d

-- of all parts, and so of what they make together
pub all_joined : {X A : Type 0} (g : X → List A) (Q : A → Type 0) (xs : List X)
    → ((i : ℕ) (d : X) → i < length xs → All Q (g (get_or xs i d))) → All Q (flat_map g xs)
all_joined g Q [] h = λ k d l. absurd (omega (arith, l))
all_joined g Q (x ∷ xs) h =
    All-append Q (g x) (flat_map g xs) (h zero x (omega arith))
    (all_joined g Q xs (λ i d l. h (suc i) d (omega (arith, l))))

pub all_of_parts : {X C A : Type 0} (f : X → C) (g : C → List A) (Q : A → Type 0) (xs : List X)
    (k : ℕ) → length xs ≤ k → HoldsBelow f (λ c. All Q (g c)) xs k → All Q (flat_map g (map f xs))
all_of_parts f g Q xs k l below =
    all_joined g Q (map f xs) (λ i d m. below i (omega (arith, l, m, length-map xs f)) d)

pub all_mapped_at : {X A : Type 0} (f : X → A) (Q : A → Type 0) (xs : List X) → All Q (map f xs)
    → (k : ℕ) (x : X) → k < length xs → x ≡ get_or xs k x → Q (f x)
all_mapped_at f Q xs all k x l is =
    subst Q (get_or-map f xs k x (f x) l ∙ ap f (sym is)) (all k (f x) (omega (arith, l, length-map xs f)))

pub length-mapped_twice : {A B C : Type 0} (f : A → B) (g : B → C) (xs : List A)
    → length (map g (map f xs)) ≡ length xs
length-mapped_twice f g xs = length-map (map f xs) g ∙ length-map xs f

pub mapped_twice_is : {A B C : Type 0} (f : A → B) (g : B → C) (xs : List A) (k : ℕ) {x : A} (d : C)
    → k < length xs → x ≡ get_or xs k x → g (f x) ≡ get_or (map g (map f xs)) k d
mapped_twice_is f g xs k {x = x} d l is =
    ap g (entry_of_map f xs k x l is)
    ∙ sym (get_or-map g (map f xs) k (f x) d (omega (arith, l, length-map xs f)))

-- what is known of an answer that is there, or that isn't
pub of_some : {T : Type 0} (o : Option T) (x : T) (P : Type 0) (Q : T → Type 0) → o ≡ Some x
    → MatchOption o P Q → Q x
of_some o x P Q e h = subst (λ u. MatchOption u P Q) e h

pub of_none : {T : Type 0} (o : Option T) (P : Type 0) (Q : T → Type 0) → o ≡ None
    → MatchOption o P Q → P
of_none o P Q e h = subst (λ u. MatchOption u P Q) e h

-- the element at a place
pub element_at : {X : Type 0} (xs : List X) (k : ℕ) → k < length xs → (x : X) × (x ≡ get_or xs k x)
element_at [] k l = absurd (omega (arith, l))
element_at (x ∷ xs) zero l = (x, refl)
element_at (x ∷ xs) (suc k) l = element_at xs k (omega (arith, l))
