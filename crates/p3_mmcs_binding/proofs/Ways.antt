-- Two ways up to one root, from different digests, meet in a collision.
use Rattle.std.proofs.Common.{◌≡◌, ◌≢◌, ℕ, ◌/◌, ◌%◌, ◌==◌, List, [], ◌∷◌, ◌++◌, length, drop}
use Rattle.std.proofs.Common.{if◌then◌else◌, Bool, true, false, inl, inr, refl, sym, ap, ap₂, ◌∙◌, arith}
use Rattle.std.proofs.Common.{◌+◌, ◌≤◌, ◌⊎◌, length-drop, rules, Option, Some, None}
use Rattle.std.specs.Prelude.{MatchOption, IsSome}
use Rattle.sha2.specs.Sha256.{sha256}
use Rattle.sha2.proofs.Facts256.{length-sha256}
use Rattle.algebra.proofs.Lists.{tail_eq}
use Rattle.p3_field_core.proofs.IndexPowers.{exponents_agree}
use Rattle.p3_matrix.specs.declared.Dimensions.{Dimensions}
use Rattle.p3_mmcs.specs.Tree.{node, climb, leaf, OpensAt, Opens}
use Rattle.p3_mmcs_binding.specs.Collisions.{parent_message, CollidesAbove}
use Rattle.p3_mmcs_binding.specs.Collisions.{leaf_message, Collides, NoneCollides}
use Rattle.p3_mmcs_binding.proofs.Bytes.{decided, fronts, behind, leaf_told}

-- a parent's digest is that of its message
parent_is : (b : Bool) (digest sibling : List ℕ)
    → (if b then node digest sibling else node sibling digest)
    ≡ sha256 (if b then 1 ∷ digest ++ sibling else 1 ∷ sibling ++ digest)
parent_is true digest sibling = refl
parent_is false digest sibling = refl

-- the message of a parent tells the child
child_told : (b : Bool) (first second s t : List ℕ) → length first ≡ length second
    → (if b then 1 ∷ first ++ s else 1 ∷ s ++ first) ≡ (if b then 1 ∷ second ++ t else 1 ∷ t ++ second)
    → first ≡ second
child_told true first second s t n e = (fronts first second s t n (tail_eq e)).0
child_told false first second s t n e = behind s t first second n (tail_eq e)

pub above : (index : ℕ) (first second : List ℕ) (path other : List (List ℕ))
    → length first ≡ length second → first ≢ second → length path ≡ length other
    → climb index first path ≡ climb index second other
    → CollidesAbove index first second path other
above index first second [] [] n d l e = d e
above index first second [] (t ∷ other) n d l e = absurd (omega (arith, l))
above index first second (s ∷ path) [] n d l e = absurd (omega (arith, l))
above index first second (s ∷ path) (t ∷ other) n d l e =
    let message = parent_message index first s in
    let opposite = parent_message index second t in
    elim (decided (sha256 message) (sha256 opposite)) [
      | yes same ↦ inl (record {
        different = λ m. d (child_told (index % 2 == 0) first second s t n m);
        digest = same;
      })
      | no differ ↦ inr (above (index / 2) (sha256 message) (sha256 opposite) path other
          (length-sha256 message ∙ sym (length-sha256 opposite)) differ (omega (arith, l))
          (ap (λ z. climb (index / 2) z path) (sym (parent_is (index % 2 == 0) first s)) ∙ e
          ∙ ap (λ z. climb (index / 2) z other) (parent_is (index % 2 == 0) second t)))
    ]

module _ {T : Type 0} (bytes : T → List ℕ) (width : ℕ) (long : (x : T) → length (bytes x) ≡ width)
    (injective : (x y : T) → bytes x ≡ bytes y → x ≡ y) (commitment : List ℕ)
    (dims : List Dimensions) where
  -- two openings with different rows collide
  pub collide : (index : ℕ) (set : List (List T)) (path : List (List ℕ)) (other : List (List T))
      (other_path : List (List ℕ)) → OpensAt bytes commitment dims index set path
      → OpensAt bytes commitment dims index other other_path → set ≢ other
      → Collides bytes index set path other other_path
  collide index set path other other_path h k d =
      elim (decided (leaf bytes set) (leaf bytes other)) [
        | yes same ↦ inl (record {
          different = λ m. d (leaf_told bytes width long injective dims set other h.widths k.widths m);
          digest = same;
        })
        | no differ ↦ inr (above index (leaf bytes set) (leaf bytes other) path other_path
            (length-sha256 (leaf_message bytes set) ∙ sym (length-sha256 (leaf_message bytes other)))
            differ (exponents_agree (length path) (length other_path) (h.levels ∙ sym k.levels))
            (h.root ∙ sym k.root))
      ]

  -- where they don't, the rows are the same
  agree : (index : ℕ) (set : List (List T)) (path : List (List ℕ)) (other : List (List T))
      (other_path : List (List ℕ)) → OpensAt bytes commitment dims index set path
      → OpensAt bytes commitment dims index other other_path
      → ¬ (Collides bytes index set path other other_path) → set ≡ other
  agree index set path other other_path h k none =
      elim (decided (leaf_message bytes set) (leaf_message bytes other)) [
        | yes same ↦ leaf_told bytes width long injective dims set other h.widths k.widths same
        | no differ ↦ absurd (none (collide index set path other other_path h k
            (λ e. differ (ap (leaf_message bytes) e))))
      ]

  -- index by index
  pub same_sets : (indices : List ℕ) (sets : List (List (List T))) (paths : List (List (List ℕ)))
      (others : List (List (List T))) (other_paths : List (List (List ℕ)))
      → Opens bytes commitment dims indices sets paths
      → Opens bytes commitment dims indices others other_paths
      → NoneCollides bytes indices sets paths others other_paths → sets ≡ others
  same_sets [] [] [] [] [] h k none = refl
  same_sets [] [] [] [] (q ∷ qs) h k none = absurd k
  same_sets [] [] [] (o ∷ os) qs h k none = absurd k
  same_sets [] [] (p ∷ ps) os qs h k none = absurd h
  same_sets [] (s ∷ sets) ps os qs h k none = absurd h
  same_sets (i ∷ is) [] ps os qs h k none = absurd h
  same_sets (i ∷ is) (s ∷ sets) [] os qs h k none = absurd h
  same_sets (i ∷ is) (s ∷ sets) (p ∷ ps) [] qs h k none = absurd k
  same_sets (i ∷ is) (s ∷ sets) (p ∷ ps) (o ∷ os) [] h k none = absurd k
  same_sets (i ∷ is) (s ∷ sets) (p ∷ ps) (o ∷ os) (q ∷ qs) h k none = ap₂ (λ z zs. z ∷ zs)
      (agree i s p o q h.0 k.0 none.0) (same_sets is sets ps os qs h.1 k.1 none.1)

-- past the end of either there is none
pub above-end : (n at : ℕ) (first second : List ℕ) (path other : List (List ℕ))
    → (length path ≤ n) ⊎ (length other ≤ n)
    → CollidesAbove at first second (drop n path) (drop n other) → ⊥
above-end n at first second path other past h = elim past [
  | inl l ↦ none (drop n path) (drop n other) (inl (omega (arith, l, length-drop n path))) h
  | inr l ↦ none (drop n path) (drop n other) (inr (omega (arith, l, length-drop n other))) h
]
  where
    none : (ps qs : List (List ℕ)) → (length ps ≡ 0) ⊎ (length qs ≡ 0)
        → CollidesAbove at first second ps qs → ⊥
    none [] [] e c = c
    none [] (q ∷ qs) e c = c
    none (p ∷ ps) [] e c = c
    none (p ∷ ps) (q ∷ qs) (inl e) c = absurd (omega (arith, e))
    none (p ∷ ps) (q ∷ qs) (inr e) c = absurd (omega (arith, e))

-- what is answered where there is a collision
pub some_answered : {M : Type 0} (A : Type 0) (Q : M → Type 0) (answer : Option M)
    → MatchOption answer (¬ A) Q → A → IsSome answer
some_answered A Q None h a = absurd (h a)
some_answered A Q (Some m) h a = search rules
