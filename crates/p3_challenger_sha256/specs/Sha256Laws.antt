-- Laws of the SHA-256 challenger.
use Rattle.std.specs.Prelude.{ℕ, ◌^◌, ◌<◌, ◌≤◌}
use Rattle.std.proofs.Common.{mod-lt, pow_pos, lit<}
use Rattle.p3_challenger_sha256.specs.declared.sha256_challenger.Sha256Challenger.{Sha256Challenger}
use Rattle.p3_challenger_sha256.specs.Sha256.{drawn_number, bits_sampled}

pub max_small : 63 < 64
max_small = lit< tt

pub bits_below : {F : Type 0} (c : Sha256Challenger F) (bits : ℕ) → bits ≤ 63
    → (bits_sampled c bits).value < 2 ^ bits
bits_below c bits h = mod-lt (drawn_number c) (pow_pos bits)
