use Rattle.std.proofs.Common.{◌≡◌, ◌<◌, ◌∙◌, ap, ap₂, arith, length, get_or, below_more}
use Rattle.std.proofs.Math.ListN.{set}
use Rattle.std.proofs.lemmas.List.{get_or_default, get_or-set_same, get_or-set_other}
use Rattle.p3_fri_prover.proofs.Lists.{by_entries}
use Rattle.p3_fri_prover.proofs.prover.roll_in.add_multiple.Goals as goal

pub loop-i-preserved : goal.loop-i-preserved
loop-i-preserved g c =
    let F = g.EF.Field.ops in
    let factor = c.args.factor in
    let i = c.loop-i.i in
    let xs = c.loop-i.word in
    let ys = c.args.word.now in
    let zs = c.args.input.now in
    let x = c.index-word-i.result in
    let z = c.index-input-i.result in
    let v = c.add.result in
    let before = c.loop-i.invariant in
    let within : i < length xs = omega arith in
    let long : i < length ys = omega arith in
    let reaches : i < length zs = omega arith in
    let written : v ≡ F.add x (F.mul factor z) =
    g.met.EF.Field.add_law x c.mul.result v c.add.ensures
    ∙ ap (λ m. F.add x m) (g.met.EF.Field.mul_law factor z c.mul.result c.mul.ensures) in
    let left : x ≡ get_or ys i x = c.index-word-i.is ∙ before.others i x (omega arith) in
    let right : z ≡ get_or zs i F.zero =
    c.index-input-i.is ∙ get_or_default zs i z F.zero reaches in
    record {
      added = λ k d l. below_more (λ j. get_or (set xs i v) j d
          ≡ F.add (get_or ys j d) (F.mul factor (get_or zs j F.zero))) i
          (λ j m. get_or-set_other xs i j v d (λ e. omega (arith, e, m)) ∙ before.added j d m)
          (get_or-set_same xs i v d within ∙ written
          ∙ ap₂ (λ a b. F.add a (F.mul factor b)) (left ∙ get_or_default ys i x d long) right) k l;
      others = λ k d l. get_or-set_other xs i k v d (λ e. omega (arith, e, l))
          ∙ before.others k d (omega (arith, l));
    }

pub returns : goal.returns
returns g c =
    let F = g.EF.Field.ops in
    by_entries (length c.args.word.now)
    (λ i. F.add (get_or c.args.word.now i F.zero) (F.mul c.args.factor (get_or c.args.input.now i F.zero)))
    c.loop-i.word F.zero c.loop-i.auto.word
    (λ k l. c.loop-i.invariant.added k F.zero (omega arith))
