use Rattle.std.proofs.Common.{◌<◌, subst, refl}
use Rattle.p3_air.proofs.First.{to_the_end}
use Rattle.std.proofs.lemmas.List.Elements.{All-more}
use Rattle.p3_uni_stark_verifier.specs.Chunks.{IsBelow}
use Rattle.p3_uni_stark_verifier.proofs.chunks.all_below.Goals as goal

pub loop-i-preserved : goal.loop-i-preserved
loop-i-preserved c =
    All-more (IsBelow c.args.zk c.args.degrees.now c.args.bound) c.args.constraints.now c.loop-i.i _
    c.loop-i-test.true c.loop-i.invariant
    (subst (λ n. n < c.args.bound) c.excess.ensures c.if-excess-bound.false)

pub returns : goal.returns
returns c = (
  λ _. to_the_end (IsBelow c.args.zk c.args.degrees.now c.args.bound) c.args.constraints.now
      c.loop-i.i c.loop-i-test.false c.loop-i.invariant,
  λ _. refl,
)
