use Rattle.std.proofs.Common.{◌≡◌, ◌∙◌, ap₂, arith, slice_set}
use borrow.Rule.Slice.PartMut.{put_mid}
use Rattle.p3_mmcs.proofs.Buffers.{node_written}
use Rattle.p3_mmcs.proofs.sha256_mmcs.encoding.write_node.Goals as goal

pub returns : goal.returns
returns c =
    let left : c.copy_from_slice.new.self ≡ c.args.left.now =
    c.copy_from_slice.ensures.after ∙ c.as_slice.ensures in
    let right : c.copy_from_slice-2.new.self ≡ c.args.right.now =
    c.copy_from_slice-2.ensures.after ∙ c.as_slice-2.ensures in
    ap₂ (λ l r. put_mid 33 32 (put_mid 1 32 (slice_set c.args.out.now 0 1) l) r) left right
    ∙ node_written c.args.out.now c.args.left.now c.args.right.now c.requires (omega arith)
    (omega arith)
