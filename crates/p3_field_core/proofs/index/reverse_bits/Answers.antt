use Rattle.p3_field_core.proofs.IndexBlocks.{by_exchanges}
use Rattle.p3_field_core.proofs.index.reverse_bits.Goals as goal

pub returns : goal.returns
returns c =
    by_exchanges c.args.x _ _ _ _ _ _ c.ranges.x.fits c.exchange_neighbors-pairs.ensures
    c.exchange_neighbors-fours.ensures c.exchange_neighbors-bytes.ensures
    c.exchange_neighbors-words.ensures c.exchange_neighbors-halves.ensures
    c.exchange_neighbors.ensures
