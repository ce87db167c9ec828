-- Values that are written to places of a list.
use Rattle.std.specs.Prelude.{◌≡◌, ℕ, ◌+◌, ◌*◌, ◌<◌, List, length, slice_index, slice_index_or}

module _ {A : Type 0} (target : ℕ → A) where
  -- the list has at this place what belongs there
  abbrev pub IsMet : (xs : List A) (place : ℕ) → Type 0
  IsMet xs place = (d : A) → slice_index_or xs place d ≡ target place

  module _ (start : ℕ) (places : List ℕ) where
    -- the values from `from` on are what belongs at these places, counted from `start`
    abbrev pub Belong : (from : ℕ) (values : List A) → Type 0
    Belong from values = (c : ℕ) (d : A) → c < length places
        → slice_index_or values (from + c) d ≡ target (start + slice_index places c)

    -- the list has them afterwards, and wherever it had them before
    pub record Meet (before after : List A) : Type 0 where
      pub kept : (place : ℕ) → IsMet before place → IsMet after place
      pub met : (c : ℕ) → c < length places → IsMet after (start + slice_index places c)

  -- the same of as many rows of `width` entries
  pub record MeetInRows (width height : ℕ) (places : List ℕ) (before after : List A) : Type 0 where
    pub kept : (place : ℕ) → IsMet before place → IsMet after place
    pub met : (i c : ℕ) → i < height → c < length places
        → IsMet after (i * width + slice_index places c)
