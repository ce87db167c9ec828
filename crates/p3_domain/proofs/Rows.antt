-- Rows, every so many.
use Rattle.std.proofs.Common.{◌≡◌, ℕ, suc, ◌+◌, ◌*◌, ◌/◌, ◌<◌, ◌≤◌, sym, ap, ◌∙◌, arith}
use Rattle.std.proofs.Math.Nat.{mul-le-mul_right}

-- the block of rows that such a row begins is within
pub block_within : (index step height : ℕ) → index < height / step → height / step * step ≡ height
    → (index + 1) * step ≤ height
block_within index step height l whole =
    let h : (index + 1) * step ≤ height / step * step =
    mul-le-mul_right step (let m : index + 1 ≤ height / step = omega (arith, l) in m) in
    omega (arith, h, whole)

-- and so is the row
pub place_below : (start step index height : ℕ) → start < step → index < height / step
    → height / step * step ≡ height → start + index * step < height
place_below start step index height s l whole =
    let h = block_within index step height l whole in omega (arith, h, s)
