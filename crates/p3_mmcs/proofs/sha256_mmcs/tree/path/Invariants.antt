use Rattle.std.proofs.Common.{◌≡◌, ◌+◌, ◌-◌, ◌*◌, ◌/◌, ◌^◌, ℕ, List}
use Rattle.algebra.specs.Polynomial.{tabulate}
use Rattle.p3_mmcs.specs.Tree.{digest_at, sibling_of}
use Rattle.p3_mmcs.specs.Digests.{IsTree}
use Rattle.p3_mmcs.proofs.sha256_mmcs.tree.path.Given as goal

abbrev pub invariant-loop-level : goal.invariant-loop-level
invariant-loop-level l = record {
  place : l.at + 2 * 2 ^ (l.log_height - l._level) ≡ 2 * 2 ^ l.log_height + l.index / 2 ^ l._level;
  siblings : (leaves : ℕ → List ℕ) → IsTree leaves (2 ^ l.log_height) l.digests
      → l.path.items ≡ tabulate l._level (λ level.
      digest_at leaves level (sibling_of (l.index / 2 ^ level)));
}
