use Rattle.std.proofs.Common.{◌≡◌, ◌<◌, ◌≤◌, ℕ, get_or}
use Rattle.algebra.specs.Field.{sub}
use Rattle.p3_fri_batch.proofs.compression.add_scaled_quotients.Given as goal

abbrev pub invariant-loop-i : goal.invariant-loop-i
invariant-loop-i g l =
    let K = g.EF.Field.ops in
    record {
      added : (i : ℕ) (d : g.row.EF.Denot) → i < l.i → get_or l.word i d
          ≡ K.add (get_or l.initial.word i d) (K.mul l.fn.step (K.mul
          (sub K l.fn.claimed (get_or l.compressed i d)) (get_or l.inverses i d)));
      others : (i : ℕ) (d : g.row.EF.Denot) → l.i ≤ i → get_or l.word i d
          ≡ get_or l.initial.word i d;
    }
