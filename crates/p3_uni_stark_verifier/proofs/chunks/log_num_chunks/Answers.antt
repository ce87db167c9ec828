use Rattle.std.proofs.Common.{◌≡◌, ◌*◌, ◌^◌, ◌%◌, ◌<◌, ℕ, All, true, below_more, subst, sym, ap, ◌∙◌, arith}
use Rattle.std.proofs.Math.Nat.{mod-eq_of_lt}
use Rattle.std.proofs.Math.Pow.{pow-lt}
use Rattle.p3_uni_stark_verifier.specs.Chunks.{IsBelow}
use Rattle.p3_uni_stark_verifier.proofs.chunks.log_num_chunks.Goals as goal

-- a shifted one is a power of two
shifted : (k : ℕ) → k < 63 → (1 * 2 ^ k) % 2 ^ 64 ≡ 2 ^ k
shifted k l =
    let one : 1 * 2 ^ k ≡ 2 ^ k = omega arith in
    ap (λ n. n % 2 ^ 64) one ∙ mod-eq_of_lt (pow-lt {i = k} {j = 64} (omega arith))

pub loop-log-preserved : goal.loop-log-preserved
loop-log-preserved c = below_more _ _ c.loop-log.invariant (λ all.
    let Enough : ℕ → Type 0 =
    λ bound. All (IsBelow c.args.zk c.args.degrees.now bound) c.args.constraints.now in
    let held : c.all_below.result ≡ true = c.all_below.ensures.1
    (subst Enough (sym (shifted c.loop-log.log c.loop-log-test.true)) all) in
    let not_held = c.if-all_below.false in
    let none : ⊥ = cc in none)
