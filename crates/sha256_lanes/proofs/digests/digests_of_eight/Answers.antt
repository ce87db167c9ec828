use Rattle.std.proofs.Common.{◌≡◌, ℕ, List, ◌/◌, sym, ap, ◌∙◌, arith}
use Rattle.sha2.specs.Sha256.{digest_bytes, hash_after, initial_hash_256, padded_message, sha256}
use Rattle.sha256_lanes.specs.Lanes.{message_of}
use Rattle.sha256_lanes.specs.Hash.{lane_hash}
use Rattle.sha256_lanes.specs.Blocks.{block_of, blocks_of}
use Rattle.sha256_lanes.proofs.Pieces.{hashed, message_length}
use Rattle.sha256_lanes.proofs.Ends.{padded_blocks}
use Rattle.sha256_lanes.proofs.digests.digests_of_eight.Goals as goal

pub whole-init : goal.whole-init
unfolding hash_after
whole-init c = c.initial-hash.ensures

pub whole-preserved : goal.whole-preserved
whole-preserved c = λ lane lt.
    let padded = padded_message (message_of c.args.len lane c.args.messages.now) in
    hashed padded (lane_hash c.whole.hash lane) _ c.whole.n (c.whole.invariant lane lt)
    (c.compress-hash.ensures (block_of c.whole.n padded) lane lt (c.load_whole_block.ensures lane lt))

pub last-init : goal.last-init
last-init c = λ lane lt.
    let end : c.whole.n ≡ c.args.len / 64 = omega arith in
    c.whole.invariant lane lt
    ∙ ap (hash_after initial_hash_256 (padded_message (message_of c.args.len lane c.args.messages.now))) end

pub last-preserved : goal.last-preserved
last-preserved c = λ lane lt.
    let padded = padded_message (message_of c.args.len lane c.args.messages.now) in
    hashed padded (lane_hash c.last.hash lane) _ c.last.n (c.last.invariant lane lt)
    (c.compress-hash-in-last.ensures (block_of c.last.n padded) lane lt (c.load_last_block.ensures lane lt))

pub returns : goal.returns
unfolding sha256
returns c = λ lane lt.
    let m = message_of c.args.len lane c.args.messages.now in
    let count = padded_blocks m c.args.len (message_length c.args.messages.now c.args.len lane c.requires lt) in
    let end : c.last.n ≡ blocks_of c.args.len = omega arith in
    c.bytes_of_each.ensures lane lt
    ∙ ap (λ (h : List ℕ). digest_bytes h 8)
    (c.last.invariant lane lt ∙ ap (hash_after initial_hash_256 (padded_message m)) (end ∙ sym count))
