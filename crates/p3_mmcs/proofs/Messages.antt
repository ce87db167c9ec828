-- Messages of which the end is in a buffer.
use Rattle.std.proofs.Common.{◌≡◌, ℕ, ◌+◌, ◌<◌, List, [], ◌∷◌, ◌++◌, length, take, ap, ◌∙◌, sym}
use Rattle.std.proofs.Common.{arith, append_assoc, slice_set}
use Rattle.std.proofs.lemmas.Grind.{common_steps}

-- a byte more
pub message-push : (flushed message buffer : List ℕ) (filled byte : ℕ) → filled < length buffer
    → message ≡ flushed ++ take filled buffer
    → message ++ byte ∷ [] ≡ flushed ++ take (filled + 1) (slice_set buffer filled byte)
message-push flushed message buffer filled byte l e =
    ap (λ m. m ++ byte ∷ []) e ∙ append_assoc flushed (take filled buffer) (byte ∷ []) ∙ ap (λ ys.
    flushed ++ ys) (sym (taken buffer filled byte l))
  where
    taken : (buffer : List ℕ) (filled byte : ℕ) → filled < length buffer
        → take (filled + 1) (slice_set buffer filled byte) ≡ take filled buffer ++ byte ∷ []
    taken buffer filled byte l = grind (arith, common_steps)
