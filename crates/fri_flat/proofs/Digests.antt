-- The digest of a hex text.
use Rattle.std.proofs.Common.{◌≡◌, ℕ, List, [], length, ap, ◌∙◌, Result, string_bytes}
use Rattle.std.specs.Prelude.{String}
use Rattle.std.specs.Result.{result_unwrap_or}
use Rattle.hex.specs.declared.error.FromHexError.{FromHexError}
use Rattle.hex.specs.Hex.{decode_sized, encode_lower, IsBytes}
use Rattle.hex.proofs.HexLemmas.{decode_sized-encode_lower}
use Rattle.fri_flat.specs.Flat.{digest}

-- the hex text of 32 bytes says these bytes
pub digest-of_hex : {A : Type 0} (text : String A) (bytes : List ℕ)
    → string_bytes text ≡ encode_lower bytes → length bytes ≡ 32 → IsBytes bytes
    → digest text ≡ bytes
digest-of_hex text bytes said size fits =
    ap (λ (t : List ℕ). result_unwrap_or (decode_sized t 32) []) said
    ∙ ap (λ (r : Result (List ℕ) FromHexError). result_unwrap_or r [])
    (decode_sized-encode_lower bytes 32 size fits)
