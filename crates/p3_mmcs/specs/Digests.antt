-- A tree's digests in one list: the leaves, then each layer above them.
use Rattle.std.specs.Prelude.{◌≡◌, ℕ, ◌+◌, ◌*◌, ◌<◌, List, [], length, slice_index_or}
use Rattle.p3_mmcs.specs.Tree.{node}

-- after the `count` leaves stand the parents of all neighbours, in the neighbours' order
pub record IsTree (leaves : ℕ → List ℕ) (count : ℕ) (digests : List (List ℕ)) : Type 0 where
  pub len : length digests + 1 ≡ 2 * count
  pub leaf : (i : ℕ) → i < count → slice_index_or digests i [] ≡ leaves i
  pub parent : (k : ℕ) → k + 1 < count → slice_index_or digests (count + k) []
      ≡ node (slice_index_or digests (2 * k) []) (slice_index_or digests (2 * k + 1) [])
