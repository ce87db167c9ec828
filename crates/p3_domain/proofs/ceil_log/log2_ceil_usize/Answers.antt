use Rattle.std.proofs.Common.{◌≡◌, ◌+◌, ◌-◌, ◌*◌, ◌^◌, ◌<◌, ◌≤◌, subst, arith}
use Rattle.std.proofs.lemmas.Nat.{leading_length}
use Rattle.p3_domain.specs.Domains.{IsCeilLog}
use Rattle.p3_domain.proofs.Sizes.{ceil_log}
use Rattle.p3_domain.proofs.ceil_log.log2_ceil_usize.Goals as goal

pub returns : goal.returns
returns c =
    let less = c.saturating_sub.ensures in
    let h = leading_length 64 c.saturating_sub.result c.saturating_sub.type_inv in
    subst (λ m. IsCeilLog c.args.n m) (omega (arith, h.1))
    (ceil_log c.args.n h.0 (subst (λ a. a < 2 ^ h.0) less h.2)
    (subst (λ a. 2 ^ h.0 ≤ 2 * a + 1) less h.3))
