use Rattle.std.proofs.Common.{◌≡◌, ◌+◌, length}
use Rattle.std.specs.List.{flat_map}
use Rattle.p3_fri_pcs_transcript.specs.Cursor.{counts_left}
use Rattle.p3_fri_pcs_transcript.proofs.pcs_transcript.described.DescribedCounts.next.Given as goal

abbrev pub invariant-loop-self : goal.invariant-loop-self
invariant-loop-self l = (counts_left l.self ≡ counts_left l.fn.self) × (l.self.opening ≡ l.fn.self.opening)

-- how many matrices and commitments are left
abbrev pub decreases-loop-self : goal.decreases-loop-self
decreases-loop-self l = length l.self.matrices.now + (length (flat_map (λ matrices. matrices.items) l.self.commitments.now) + length l.self.commitments.now)
