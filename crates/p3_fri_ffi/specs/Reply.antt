-- What a call leaves in a caller's buffer.
use Rattle.std.specs.Prelude.{◌≡◌, ℕ, ◌<◌, ◌≤◌, List, length, drop}

-- Below 4 the first bytes are the reply, and all others stay. At 4 the buffer is too short for it,
-- and stays.
pub record IsReply (before after : List ℕ) (needed status : ℕ) : Type 0 where
  pub status_known : status ≤ 4
  pub fits : status < 4 → needed ≤ length before
  pub past : status < 4 → drop needed after ≡ drop needed before
  pub short : status ≡ 4 → length before < needed
  pub kept : status ≡ 4 → after ≡ before
