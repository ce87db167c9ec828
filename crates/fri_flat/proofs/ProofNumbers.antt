-- The numbers of the proof that the scheme makes and takes.
use Rattle.std.proofs.Common.{◌≡◌}
use Rattle.std.specs.declared.vec.Vec.{Vec}
use Rattle.algebra.specs.Nested.{nested}
use Rattle.algebra.proofs.Lists.{map-map}
use Rattle.p3_fri_relation.specs.declared.proof.BatchMultiOpening.{BatchMultiOpening}
use Rattle.p3_fri_relation.specs.declared.proof.FriProof.{FriProof}
use Rattle.p3_fri_relation.specs.Views.{proof_of, round_opened}
use Rattle.p3_fri_plain.specs.Numbers.{Digest, proof_numbers}
use Rattle.p3_fri_plain.specs.Views.{proof_seen}
use Rattle.fri_statement.specs.Setting.{SchemeFields}
use Rattle.fri_flat.specs.Answers.{VectorPaths, numbers_of, input_shown, round_shown}

-- those of its lists are those that its plain form lists
pub numbers-proof_of : {F E M Data Err InM InCom InData InErr X : Type 0} (f : SchemeFields F E)
    (p : FriProof E M F
    (Vec (BatchMultiOpening F InM InCom InData VectorPaths InErr) X)
    Digest Data VectorPaths Err)
    → numbers_of f (proof_of p)
    ≡ proof_numbers f.canonical f.relation.coefficients (proof_seen p)
numbers-proof_of f p = λ i. proof_numbers f.canonical f.relation.coefficients (record {
  batch_witness = p.batch_pow_witness;
  commitments = p.commit_phase_commits.items;
  commit_witnesses = p.commit_pow_witnesses.items;
  inputs = map-map input_shown
      (λ o. record { rows = nested o.opened_values.items; path = o.opening_proof })
      p.input_openings.items i;
  rounds = map-map round_shown round_opened p.commit_phase_openings.items i;
  final_poly = p.final_poly.items;
  query_witness = p.query_pow_witness;
})
