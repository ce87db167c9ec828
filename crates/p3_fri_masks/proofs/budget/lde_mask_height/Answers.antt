use Rattle.std.proofs.Common.{◌≡◌, ◌≤◌, ◌/◌, ◌^◌, sym, ap, arith}
use Rattle.std.proofs.Math.Nat.{pow-le-pow_right, div-eq_of_lt}
use Rattle.p3_fri_masks.proofs.budget.lde_mask_height.Goals as goal

pub returns-else-log_blowup-lt64 : goal.returns-else-log_blowup-lt64
returns-else-log_blowup-lt64 c =
    let large : 2 ^ 64 ≤ 2 ^ c.args.log_blowup = pow-le-pow_right {n = 2} (omega arith) {i = 64} {j = c.args.log_blowup} (omega arith) in
    let none : c.args.height / 2 ^ c.args.log_blowup ≡ 0 = div-eq_of_lt (omega (arith, large)) in
    sym (ap (λ n. n / 2) none)
