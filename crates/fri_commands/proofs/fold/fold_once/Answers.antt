use Rattle.std.proofs.Common.{arith, ◌≡◌, ◌+◌, ◌*◌, ◌^◌, ap, ◌∙◌, add-one}
use Rattle.std.proofs.Math.Nat.{pow-suc}
use Rattle.std.proofs.lemmas.Nat.{one_shl}
use Rattle.p3_field.specs.BabyBear.{baby_bear, root}
use Rattle.p3_fri_core.specs.Folds.{fold_value, folded_word}
use Rattle.fri_commands.proofs.Words.{slice_range-shared, done-more}
use Rattle.fri_commands.proofs.fold.fold_once.Goals as goal

pub loop-i-preserved : goal.loop-i-preserved
loop-i-preserved c =
    let height = one_shl c.args.log_height 64 (omega arith) in
    let twice : 2 ^ (c.args.log_height + 1) ≡ 2 ^ c.args.log_height * 2 = rw (add-one c.args.log_height) (pow-suc 2 c.args.log_height) in
    let at : 2 * c.loop-i.i ≡ c.loop-i.i * 2 = omega arith in
    done-more _ _ c.loop-i.word.items c.loop-i.i _ (omega (arith, c.loop-i.invariant.size)) c.loop-i.invariant
    (c.fold_row.ensures ∙ rw (c.deref.ensures.value, at) (ap (fold_value baby_bear root c.loop-i.i c.args.log_height 1 c.args.beta)
    (slice_range-shared c.loop-i.i (c.loop-i.i * 2) (c.loop-i.i * 2 + 2) c.loop-i.word.items c.args.word.now.items (omega arith) c.loop-i.invariant.rest)))

pub returns : goal.returns
unfolding folded_word
returns c =
    let height = one_shl c.args.log_height 64 (omega arith) in
    let all : c.loop-i.i ≡ 2 ^ c.args.log_height = omega arith in
    c.truncate.ensures.items ∙ rw (height, ← all) c.loop-i.invariant.done
