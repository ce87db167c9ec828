use Rattle.std.proofs.Common.{◌≡◌, ◌+◌, ◌^◌, ◌∙◌, sym, subst, ap, length, get_or, take, refl}
use Rattle.std.proofs.Common.{arith}
use Rattle.std.proofs.lemmas.List.{take_all}
use Rattle.algebra.specs.Nested.{lists}
use Rattle.p3_fri_prover.specs.Inputs.{HaveHeights}
use Rattle.p3_fri_prover_tests.proofs.Words.{one_more}
use Rattle.p3_fri_prover_tests.proofs.proofs.words_of.Goals as goal

pub loop-log_height-init : goal.loop-log_height-init
loop-log_height-init g c =
    subst (λ ws. HaveHeights (take 0 c.args.log_heights.now) (lists ws))
    (sym c.new-words.ensures.items) tt

pub loop-log_height-preserved : goal.loop-log_height-preserved
loop-log_height-preserved g c =
    let hs = c.args.log_heights.now in
    let i = c.loop-log_height.log_height-index in
    let word = c.expect-word.result in
    let entries = rw c.expect-word.ensures at c.vec.ensures.len in
    let size : length word.items ≡ 2 ^ get_or hs i 0 =
    sym word.ok.0 ∙ (entries ∙ c.length_of.ensures) in
    let pushed = rw c.expect.ensures at c.push.ensures.items in
    subst (λ ws. HaveHeights (take (i + 1) hs) (lists ws)) (sym pushed)
    (one_more hs c.loop-log_height.words.items i word (omega arith) size
    c.loop-log_height.invariant)

pub returns : goal.returns
returns g c =
    let hs = c.args.log_heights.now in
    record {
      heights = hs;
      have = subst (λ ks. HaveHeights ks (lists c.loop-log_height.words.items))
          (take_all c.loop-log_height.log_height-index hs (omega arith))
          c.loop-log_height.invariant;
      falling = c.is_strictly_falling.ensures.0 c.if-not-is_strictly_falling.false;
      some = λ e. absurd (omega (arith, ap length e));
      first = refl;
    }
