use Rattle.std.proofs.Common.{arith}
use Rattle.p3_matrix.proofs.Words.{none_drawn, one_more_drawn}
use Rattle.p3_matrix.proofs.wider.push_random.Goals as goal

pub loop-init : goal.loop-init
loop-init g c = record {
  drawn = none_drawn g.T.SampleField.from_word _ _;
  capacity = omega arith;
  len = omega arith;
}

pub loop-preserved : goal.loop-preserved
loop-preserved g c = record {
  drawn = one_more_drawn g.T.SampleField.from_word _ _ _ _ _ _ _ _ _ c.loop.invariant.drawn c.next_u64-word.ensures c.from_word.ensures c.in_ok-push.ensures.items;
  capacity = omega (arith, c.loop.invariant.capacity, c.push.ensures.capacity);
  len = omega (arith, c.loop.invariant.len, c.in_ok-push.ensures.len);
}
