use Rattle.std.proofs.Common.{map, refl}
use Rattle.fri_numbers.proofs.Images.{read_more, image_all}
use Rattle.fri_commitments.proofs.committed.commitments_of.Goals as goal

pub loop-committed-preserved : goal.loop-committed-preserved
loop-committed-preserved g c =
    read_more (λ k. k.commitment) c.loop-committed.commitments.items c.push.new.self.items
    c.args.all.now c.loop-committed.committed-index _ c.committed-item.result
    c.loop-committed-test.true c.committed-item.is c.in_ok-push.ensures.items refl
    c.loop-committed.invariant

pub returns : goal.returns
returns g c =
    image_all (λ ks. map (λ k. k.commitment) ks) c.args.all.now c.loop-committed.committed-index
    c.loop-committed-test.false c.loop-committed.invariant
