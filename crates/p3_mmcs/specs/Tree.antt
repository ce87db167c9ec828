-- Merkle's tree over SHA-256: the bytes of its digests, its root, and openings, which speak of
-- digests alone.
use Rattle.std.specs.Prelude.{◌≡◌, ℕ, zero, suc, ◌+◌, ◌-◌, ◌*◌, ◌/◌, ◌%◌, ◌^◌, ◌==◌, List, [], ◌∷◌}
use Rattle.std.specs.Prelude.{◌++◌, length, if◌then◌else◌, ⊤, ◌⊎◌}
use Rattle.std.specs.List.{flat_map}
use Rattle.std.specs.Int.{w64, to_le_bytes}
use Rattle.sha2.specs.Sha256.{sha256}
use Rattle.algebra.specs.Polynomial.{tabulate}
use Rattle.p3_matrix.specs.declared.Dimensions.{Dimensions}
use Rattle.p3_matrix.specs.declared.dense.RowMajorMatrix.{RowMajorMatrix}
use Rattle.p3_mmcs.specs.Batch.{max_height, HasRows, opened_rows}

-- the digest of two neighbours
abbrev pub node : List ℕ → List ℕ → List ℕ
node left right = sha256 (1 ∷ left ++ right)

-- the digest that `digest`, at `index` among its layer, leads to with its siblings from the lowest
-- up. It is the left child where its index is even, and its parent has half that index
abbrev pub climb : ℕ → List ℕ → List (List ℕ) → List ℕ
climb index digest [] = digest
climb index digest (sibling ∷ path) =
    climb (index / 2) (if index % 2 == 0 then node digest sibling else node sibling digest) path

-- `P` of each index with its set of rows and its path, of which there are as many
abbrev pub EachQuery : {T : Type 0} → (ℕ → List (List T) → List (List ℕ) → Type 0) → List ℕ
    → List (List (List T)) → List (List (List ℕ)) → Type 0
EachQuery P [] [] [] = ⊤
EachQuery P (index ∷ indices) (set ∷ sets) (path ∷ paths) =
    P index set path × EachQuery P indices sets paths
EachQuery P _ _ _ = ⊥

-- `P` of some index with its set of rows and its path
abbrev pub SomeQuery : {T : Type 0} → (ℕ → List (List T) → List (List ℕ) → Type 0) → List ℕ
    → List (List (List T)) → List (List (List ℕ)) → Type 0
SomeQuery P (index ∷ indices) (set ∷ sets) (path ∷ paths) =
    P index set path ⊎ SomeQuery P indices sets paths
SomeQuery P _ _ _ = ⊥

module _ {T : Type 0} (bytes : T → List ℕ) where
  -- a row's length in eight bytes, little endian, and the bytes of its elements
  abbrev pub row_bytes : List T → List ℕ
  row_bytes elements = to_le_bytes w64 (length elements) ++ flat_map bytes elements

  -- the digest of a set of rows
  abbrev pub leaf : List (List T) → List ℕ
  leaf set = sha256 (0 ∷ flat_map row_bytes set)

  -- the set of rows at `index` and the path belong to the commitment
  pub record OpensAt (commitment : List ℕ) (dims : List Dimensions) (index : ℕ)
      (set : List (List T)) (path : List (List ℕ)) : Type 0 where
    pub widths : HasRows dims set
    pub levels : 2 ^ length path ≡ max_height dims
    pub root : climb index (leaf set) path ≡ commitment

  -- so at each index
  abbrev pub Opens : List ℕ → List Dimensions → List ℕ → List (List (List T)) → List (List (List ℕ))
      → Type 0
  Opens commitment dims indices sets paths = EachQuery (OpensAt commitment dims) indices sets paths

  -- the leaves of the tree over these matrices
  abbrev pub leaf_at : List (RowMajorMatrix T) → ℕ → List ℕ
  leaf_at matrices index = leaf (opened_rows matrices index)

-- the digest at `index` of the layer `level` levels above the leaves
unfoldable pub digest_at : (ℕ → List ℕ) → ℕ → ℕ → List ℕ
digest_at leaves zero index = leaves index
digest_at leaves (suc level) index =
    node (digest_at leaves level (2 * index)) (digest_at leaves level (2 * index + 1))

-- the root of the tree over `2^height` leaves
abbrev pub root_of : (ℕ → List ℕ) → ℕ → List ℕ
root_of leaves height = digest_at leaves height 0

-- the other child of the same parent
abbrev pub sibling_of : ℕ → ℕ
sibling_of index = if index % 2 == 0 then index + 1 else index - 1

-- the siblings on the way from the leaf at `index` to the root
abbrev pub path_of : (ℕ → List ℕ) → ℕ → ℕ → List (List ℕ)
path_of leaves height index =
    tabulate height (λ level. digest_at leaves level (sibling_of (index / 2 ^ level)))
