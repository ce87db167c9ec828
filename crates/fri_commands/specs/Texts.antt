-- Numbers as texts: decimal without leading zeros, read in lists joined by commas, written joined
-- by spaces.
use Rattle.std.specs.Prelude.{ℕ, ◌&&◌, ◌==◌, List, [], ◌∷◌, ◌++◌, Option, Some, None, if◌then◌else◌}
use Rattle.std.specs.Prelude.{nat_le, codes}
use Rattle.std.specs.Option.{option_and_then, option_map}
use Rattle.std.specs.List.{slice_split, join_by}
use Rattle.std.specs.Str.{bytes_eq}
use Rattle.std.specs.Str.Parse.{digits_value}
use Rattle.std.specs.Fmt.{decimal}

-- the number up to `most` whose decimal text this is
unfoldable pub parsed_number : ℕ → List ℕ → Option ℕ
parsed_number most text =
    let n = digits_value 10 text in
    if nat_le n most && bytes_eq text (decimal n) then Some n else None

-- the numbers up to `most` whose decimal texts these are
abbrev pub parsed_each : ℕ → List (List ℕ) → Option (List ℕ)
parsed_each most [] = Some []
parsed_each most (text ∷ texts) =
    option_and_then (λ n. option_map (λ ns. n ∷ ns) (parsed_each most texts))
    (parsed_number most text)

-- the numbers up to `most` whose decimal texts stand between commas; `-` stands for none
unfoldable pub parsed_list : ℕ → List ℕ → Option (List ℕ)
parsed_list most text =
    if bytes_eq text (codes "-") then Some []
    else parsed_each most (slice_split (λ b. b == 44) text)

-- the numbers in decimal, joined by spaces
abbrev pub spaced : List ℕ → List ℕ
spaced numbers = join_by decimal (32 ∷ []) numbers

-- the line of the numbers
abbrev pub line : List ℕ → List ℕ
line numbers = spaced numbers ++ 10 ∷ []
