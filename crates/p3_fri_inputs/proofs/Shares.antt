-- Equal shares of a list that holds the images of several parts, one after another.
use Rattle.std.proofs.Common.{◌≡◌, ℕ, ◌+◌, ◌/◌, ◌<◌, ◌≤◌, ◌∙◌, List, take, length, map, get_or, sym, ap}
use Rattle.std.proofs.Common.{arith}
use Rattle.std.proofs.lemmas.List.{length-map, get_or_default}
use Rattle.std.specs.List.{flat_map, between}
use Rattle.algebra.specs.Field.{FieldOps}
use Rattle.p3_fri_relation.specs.Setting.{MatrixClaim}
use Rattle.p3_fri_inputs.specs.Claims.{combined_values, distances}
use Rattle.p3_fri_inputs.proofs.Assembly.{length_equal_parts}
use Rattle.p3_fri_inputs.proofs.Joined.{length-joined_at, length-joined_next, map-joined, joined_part}
use Rattle.p3_fri_inputs.proofs.Queries.{distances_count, share}

-- a share lies within the list, the next one begins at its end, and it has the images of its part
pub record ShareAt {X Y Z : Type 0} (f : X → List Y) (g : Y → Z) (images : List Z) (xs : List X)
    (i : ℕ) (x : X) (start end : ℕ) : Type 0 where
  pub within : end ≤ length images
  pub next : end ≡ length (flat_map f (take (i + 1) xs))
  pub part : between start end images ≡ map g (f x)

pub share_at : {X Y Z : Type 0} (f : X → List Y) (g : Y → Z) (count : ℕ) (images : List Z)
    (xs : List X) (i start : ℕ) (d : X) → ((x : X) → length (f x) ≡ count)
    → images ≡ map g (flat_map f xs) → i < length xs → start ≡ length (flat_map f (take i xs))
    → ShareAt f g images xs i (get_or xs i d) start (start + length images / length xs)
share_at f g count images xs i start d each all below starts =
    let x = get_or xs i d in
    let is : x ≡ get_or xs i x = get_or_default xs i d x below in
    let whole : length images ≡ length (flat_map f xs) =
    ap length all ∙ length-map (flat_map f xs) g in
    let size : length images / length xs ≡ count =
    share (length xs) count (length images) (omega (arith, below))
    (whole ∙ length_equal_parts f count xs each) in
    let end = start + length images / length xs in
    let across : end ≡ start + length (f x) = omega (arith, size, each x) in
    record {
      within = omega (arith, across, starts, whole, length-joined_at f xs i x below is);
      next = omega (arith, across, starts, length-joined_next f xs i x below is);
      part = ap (λ ys. between start end ys) (all ∙ map-joined f g xs)
          ∙ joined_part f (λ x. map g (f x)) (λ x. sym (length-map (f x) g)) xs i x start end below
          is starts across;
    }

-- the inverses of one query's distances, among those of all
pub own_inverses : {E : Type 0} (K : FieldOps E) (log_blowup : ℕ) (alpha : E) (read : ℕ → ℕ → E)
    (ms : List (MatrixClaim E)) (inverses : List E) (indices : List ℕ) (j start : ℕ)
    → inverses ≡ map K.inv (flat_map (λ q. distances K log_blowup (read q) ms) indices)
    → j < length indices
    → start ≡ length (flat_map (λ q. distances K log_blowup (read q) ms) (take j indices))
    → ShareAt (λ q. distances K log_blowup (read q) ms) K.inv inverses indices j
    (get_or indices j 0) start (start + length inverses / length indices)
own_inverses K log_blowup alpha read ms inverses indices j start all below starts =
    share_at (λ q. distances K log_blowup (read q) ms) K.inv (length (combined_values K alpha ms))
    inverses indices j start 0 (λ q. distances_count log_blowup K alpha (read q) ms) all below starts
