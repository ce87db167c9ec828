-- A hasher over a buffer of one block.
use Rattle.std.specs.Prelude.{◌≡◌, ℕ, List, ◌++◌, take}
use Rattle.sha2.specs.Hashers.{Holds256}
use Rattle.p3_mmcs.specs.declared.sha256_mmcs.buffer.BufferedHasher.{BufferedHasher}

-- the hasher was fed the message: the end that it gathers next is still in the buffer
pub record HoldsMessage (h : BufferedHasher) (message : List ℕ) : Type 0 where
  pub flushed : List ℕ
  pub held : Holds256 h.hasher flushed
  pub rest : message ≡ flushed ++ take h.filled h.buffer
