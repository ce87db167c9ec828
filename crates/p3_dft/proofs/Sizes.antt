-- The sizes of a transform: of its blocks, of its strides, and powers of two as elements of a
-- field.
use Rattle.std.proofs.Common.{◌≡◌, ℕ, suc, ◌+◌, ◌-◌, ◌*◌, ◌/◌, ◌%◌, ◌^◌, ◌<◌, ◌≤◌, refl, sym, ap}
use Rattle.std.proofs.Common.{◌∙◌, arith}
use Rattle.std.proofs.Math.Nat.{mul_assoc, pow-le-pow_right}
use Rattle.std.proofs.lemmas.Nat.{pow-add, pow_pos, row_fits, mul-le, one_shl}
use Rattle.algebra.specs.Field.{FieldOps, IsRing, multiple, pow}
use Rattle.algebra.proofs.Ring.{◌:+◌, ◌:*◌, ◌:=◌, ring}
use Rattle.algebra.proofs.RingLaws.{multiple-one, multiple-add}
use Rattle.algebra.proofs.Powers.{double, pow-next}

pub double_next : (k : ℕ) → 2 ^ (k + 1) ≡ 2 ^ k + 2 ^ k
double_next k = ap (λ n. 2 ^ n) (let e : k + 1 ≡ suc k = omega arith in e) ∙ double k

pub half_power : (k s : ℕ) → s < k → 2 ^ (k - s) ≡ 2 ^ (k - (s + 1)) + 2 ^ (k - (s + 1))
half_power k s l = ap (λ n. 2 ^ n) (let e : k - s ≡ suc (k - (s + 1)) = omega (arith, l) in e) ∙ double (k - (s + 1))

module _ (k s : ℕ) (below : s < k) where
  -- the twiddles of a layer span half a turn
  pub half_of_all : 2 ^ s * 2 ^ (k - (s + 1)) ≡ 2 ^ (k - 1)
  half_of_all = sym (pow-add 2 s (k - (s + 1))) ∙ ap (λ n. 2 ^ n) (let e : s + (k - (s + 1)) ≡ k - 1 = omega (arith, below) in e)

  pub twiddle_below : (m : ℕ) → m < 2 ^ s → m * 2 ^ (k - (s + 1)) < 2 ^ k / 2
  twiddle_below m l =
      let all : 2 ^ k ≡ 2 ^ (k - 1) + 2 ^ (k - 1) = ap (λ n. 2 ^ n) (let e : k ≡ suc (k - 1) = omega (arith, below) in e) ∙ double (k - 1) in
      omega (arith, all, half_of_all, pow_pos (k - (s + 1)), row_fits m (2 ^ (k - (s + 1))) (2 ^ s) (2 ^ (k - (s + 1))) l (omega arith))

-- what a logarithm bounds
pub power_within : (n k top : ℕ) → n ≡ 2 ^ k → k ≤ top → n ≤ 2 ^ top
power_within n k top e l = omega (arith, e, pow-le-pow_right {n = 2} (omega arith) {i = k} {j = top} l)

pub extended_power_within : (n k added top : ℕ) → n ≡ 2 ^ k → k + added ≤ top → n * 2 ^ added ≤ 2 ^ top
extended_power_within n k added top e l = power_within (n * 2 ^ added) (k + added) top (ap (λ m. m * 2 ^ added) e ∙ sym (pow-add 2 k added)) l

-- all blocks of a layer
all_blocks : (k s width block n : ℕ) → s ≤ k → block ≡ 2 ^ (k - s) * width → n ≡ 2 ^ k * width → n ≡ 2 ^ s * block
all_blocks k s width block n l e all =
    all
    ∙ ap (λ t. 2 ^ t * width) (let t : k ≡ s + (k - s) = omega (arith, l) in t)
    ∙ ap (λ t. t * width) (pow-add 2 s (k - s))
    ∙ mul_assoc (2 ^ s) (2 ^ (k - s)) width
    ∙ ap (λ t. 2 ^ s * t) (sym e)

-- what a call on the next layers computes: `blocks`, `stride` and the parts of the blocks
module _ (k s : ℕ) (bound : k < 64) where
  pub blocks_is : s < k → 1 * 2 ^ s % 2 ^ 64 ≡ 2 ^ s
  blocks_is below = one_shl s 64 (omega (arith, below, bound))

  pub stride_of_one : 1 * 2 ^ (k - s - 1) % 2 ^ 64 ≡ 2 ^ (k - (s + 1))
  stride_of_one =
      one_shl (k - s - 1) 64 (omega (arith, bound))
      ∙ ap (λ n. 2 ^ n) (let e : k - s - 1 ≡ k - (s + 1) = omega arith in e)

  pub stride_of_two : 1 * 2 ^ (k - s - 2) % 2 ^ 64 ≡ 2 ^ (k - (s + 1 + 1))
  stride_of_two =
      one_shl (k - s - 2) 64 (omega (arith, bound))
      ∙ ap (λ n. 2 ^ n) (let e : k - s - 2 ≡ k - (s + 1 + 1) = omega arith in e)

module _ (k s width : ℕ) where
  halves_of : (part : ℕ) → s < k → part ≡ 2 ^ (k - (s + 1)) * width → part + part ≡ 2 ^ (k - s) * width
  halves_of part below e =
      ap (λ n. n + n) e ∙ sum_times (2 ^ (k - (s + 1))) width ∙ ap (λ n. n * width) (sym (half_power k s below))
    where
      sum_times : (p w : ℕ) → p * w + p * w ≡ (p + p) * w
      sum_times p w = omega arith

  blocks_of : (blocks size : ℕ) → s ≤ k → blocks ≡ 2 ^ s → size ≡ 2 ^ (k - s) * width → 2 ^ k * width ≡ blocks * size
  blocks_of blocks size l count e =
      all_blocks k s width size (2 ^ k * width) l e refl ∙ ap (λ n. n * size) (sym count)

  pub size_of_halves : (blocks stride : ℕ) → s < k → blocks ≡ 2 ^ s → stride ≡ 2 ^ (k - (s + 1))
      → 2 ^ k * width ≡ blocks * (stride * width + stride * width)
  size_of_halves blocks stride below count e =
      blocks_of blocks (stride * width + stride * width) (omega (arith, below)) count
      (halves_of (stride * width) below (ap (λ n. n * width) e))

  pub part_within : (n : ℕ) → 2 ^ (k - n) * width ≤ 2 ^ k * width
  part_within n = mul-le (2 ^ (k - n)) width (2 ^ k) width (pow-le-pow_right {n = 2} (omega arith) {i = k - n} {j = k} (omega arith)) (omega arith)

pub size_of_quarters : (k s width blocks stride : ℕ) → s + 1 < k → blocks ≡ 2 ^ s → stride ≡ 2 ^ (k - (s + 1 + 1))
    → 2 ^ k * width ≡ blocks * (stride * width + stride * width + (stride * width + stride * width))
size_of_quarters k s width blocks stride below count e =
    blocks_of k s width blocks (stride * width + stride * width + (stride * width + stride * width))
    (omega (arith, below)) count
    (halves_of k s width (stride * width + stride * width) (omega (arith, below))
    (halves_of k (s + 1) width (stride * width) below (ap (λ n. n * width) e)))

pub power_below : (s : ℕ) → s < 62 → 2 ^ s < 2 ^ 63
power_below s l = omega (arith, pow-le-pow_right {n = 2} (omega arith) {i = s} {j = 62} (omega (arith, l)))

module _ {A : Type 0} (F : FieldOps A) (R : IsRing F) where
  pub size_of_none : F.mul (multiple F (2 ^ 0)) F.one ≡ F.one
  size_of_none = R.mul_one (multiple F 1) ∙ multiple-one F R

  -- half of an inverse is the inverse of the double
  pub size_halved : (k : ℕ) (inverse half : A) → F.add half half ≡ inverse → F.mul (multiple F (2 ^ k)) inverse ≡ F.one → F.mul (multiple F (2 ^ (k + 1))) half ≡ F.one
  size_halved k inverse half halves e =
      ap (λ n. F.mul (multiple F n) half) (double_next k)
      ∙ ap (λ m. F.mul m half) (multiple-add F R (2 ^ k) (2 ^ k))
      ∙ ring F R 2 (λ m h. (m :+ m) :* h := m :* (h :+ h)) refl (multiple F (2 ^ k)) half
      ∙ ap (λ x. F.mul (multiple F (2 ^ k)) x) halves
      ∙ e

  -- a running product of powers
  pub power_next : (first ratio : A) (i : ℕ) → F.mul (F.mul first (pow F ratio i)) ratio ≡ F.mul first (pow F ratio (i + 1))
  power_next first ratio i =
      ring F R 3 (λ f r p. f :* p :* r := f :* (r :* p)) refl first ratio (pow F ratio i)
      ∙ ap (λ x. F.mul first x) (sym (pow-next F ratio i))
