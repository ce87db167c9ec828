-- So many chunks are enough for the degrees of constraints.
use Rattle.std.proofs.Common.{◌≡◌, ℕ, zero, suc, ◌+◌, ◌-◌, ◌*◌, ◌^◌, ◌<◌, ◌≤◌, Bool, true, false}
use Rattle.std.proofs.Common.{get_or, arith, pow_pos, ap, sym, ◌∙◌, subst}
use Rattle.std.specs.Prelude.{pred}
use Rattle.std.proofs.Math.Nat.{mul-le-mul_right}
use Rattle.std.proofs.lemmas.Nat.{pow-add}
use Rattle.p3_air.specs.declared.air.Air.{Air}
use Rattle.p3_air.specs.declared.air.Constraint.{Constraint}
use Rattle.p3_air.specs.declared.air.Rows.{Rows}
use Rattle.p3_air.specs.declared.air.Rows.TheVariants as rows
use Rattle.p3_air.specs.Degrees.{node_degrees}
use Rattle.p3_air_laws.specs.Composition.{selector_degree}
use Rattle.p3_air_laws.specs.Laws.{Fits}
use Rattle.p3_uni_stark_verifier.specs.Chunks.{hiding_bits, allowed_degree, excess, NeedsChunks}

-- with `n = p + 1` rows and `m` chunks, without randomness
plain : (rs : Rows) (degree p m : ℕ) → 0 < m → degree - allowed_degree rs < m
    → degree * p + selector_degree (suc p) rs < suc m * suc p
plain rows.All degree p m some h =
    let l : degree * p ≤ suc m * p = mul-le-mul_right p (omega (arith, h)) in
    omega (arith, l)
plain rows.First degree p m some h =
    let l : degree * p ≤ m * p = mul-le-mul_right p (omega (arith, h)) in
    omega (arith, l)
plain rows.Last degree p m some h =
    let l : degree * p ≤ m * p = mul-le-mul_right p (omega (arith, h)) in
    omega (arith, l)
plain rows.Transition degree p m some h =
    let l : degree * p ≤ suc m * p = mul-le-mul_right p (omega (arith, h)) in
    omega (arith, l, some)

-- with randomness, which doubles the coefficients and the chunks
hiding : (rs : Rows) (degree p m : ℕ) → 0 < m → degree - (allowed_degree rs - 1) < m
    → degree * (suc p + p) + selector_degree (suc p) rs < suc (2 * m) * suc p
hiding rows.All degree p m some h =
    let l : degree * (suc p + p) ≤ m * (suc p + p) = mul-le-mul_right (suc p + p) (omega (arith, h)) in
    omega (arith, l)
hiding rows.First degree p m some h =
    let l : suc degree * (suc p + p) ≤ m * (suc p + p) =
    mul-le-mul_right (suc p + p) (omega (arith, h)) in
    omega (arith, l)
hiding rows.Last degree p m some h =
    let l : suc degree * (suc p + p) ≤ m * (suc p + p) =
    mul-le-mul_right (suc p + p) (omega (arith, h)) in
    omega (arith, l)
hiding rows.Transition degree p m some h =
    let l : degree * (suc p + p) ≤ m * (suc p + p) = mul-le-mul_right (suc p + p) (omega (arith, h)) in
    omega (arith, l, some)

-- `2^log` chunks are enough, or twice as many with randomness
below : (zk : Bool) (c : Constraint) (degree k log : ℕ) → excess zk degree c < 2 ^ log
    → degree * pred (2 ^ (k + hiding_bits zk)) + selector_degree (2 ^ k) c.rows
    < suc (2 ^ (log + hiding_bits zk)) * 2 ^ k
below false c degree k log h = from (2 ^ k) (2 ^ (k + 0)) (2 ^ (log + 0)) (pow_pos k)
    (ap (λ n. 2 ^ n) (let e : k + 0 ≡ k = omega arith in e))
    (ap (λ n. 2 ^ n) (let e : log + 0 ≡ log = omega arith in e))
  where
    from : (n l m : ℕ) → 0 < n → l ≡ n → m ≡ 2 ^ log
        → degree * pred l + selector_degree n c.rows < suc m * n
    from zero l m some e f = absurd (omega (arith, some))
    from (suc p) l m some e f =
        subst (λ x. degree * pred l + selector_degree (suc p) c.rows < suc x * suc p) (sym f)
        (subst (λ x. degree * pred x + selector_degree (suc p) c.rows < suc (2 ^ log) * suc p)
        (sym e) (plain c.rows degree p (2 ^ log) (pow_pos log) h))
below true c degree k log h = from (2 ^ k) (2 ^ (k + 1)) (2 ^ (log + 1)) (pow_pos k)
    (pow-add 2 k 1 ∙ (let e : 2 ^ k * 2 ^ 1 ≡ 2 ^ k + 2 ^ k = omega arith in e))
    (pow-add 2 log 1 ∙ (let e : 2 ^ log * 2 ^ 1 ≡ 2 * 2 ^ log = omega arith in e))
  where
    from : (n l m : ℕ) → 0 < n → l ≡ n + n → m ≡ 2 * 2 ^ log
        → degree * pred l + selector_degree n c.rows < suc m * n
    from zero l m some e f = absurd (omega (arith, some))
    from (suc p) l m some e f =
        let less : pred l ≡ suc p + p =
        ap pred (e ∙ (let d : suc p + suc p ≡ suc (suc p + p) = omega arith in d)) in
        subst (λ x. degree * pred l + selector_degree (suc p) c.rows < suc x * suc p) (sym f)
        (subst (λ x. degree * x + selector_degree (suc p) c.rows < suc (2 * 2 ^ log) * suc p)
        (sym less) (hiding c.rows degree p (2 ^ log) (pow_pos log) h))

-- a constraint system that needs `2^log` chunks fits in as many, or in twice as many with
-- randomness
pub needs_fit : {V : Type 0} (zk : Bool) (air : Air V) (k log : ℕ) → NeedsChunks zk air log
    → Fits (2 ^ (k + hiding_bits zk)) (2 ^ k) (2 ^ (log + hiding_bits zk)) air
needs_fit zk air k log needs = record {
  some_chunk = pow_pos (log + hiding_bits zk);
  degrees = λ i c l. below zk (get_or air.constraints.items i c)
      (get_or (node_degrees air) (get_or air.constraints.items i c).node 0) k log
      (needs.least.enough i c l);
}
