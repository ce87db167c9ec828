use Rattle.std.proofs.Common.{◌≡◌, ◌<◌, length, vec_len, get_or, ◌∙◌, sym, ap, ap₂, subst, arith}
use Rattle.std.specs.List.{AllZip, zip, enumerate_from}
use Rattle.std.proofs.lemmas.List.{length-map}
use Rattle.std.proofs.lemmas.List.FromFn.{length-enumerate_from}
use Rattle.algebra.specs.Nested.{lists, nested}
use Rattle.algebra.proofs.Lists.{entry_of_map}
use Rattle.p3_pcs.specs.Claims.{opened_values}
use Rattle.p3_fri_relation.specs.Faults.{At}
use Rattle.p3_fri_relation.specs.Views.{matrix_claim, claims_of}
use Rattle.p3_fri_hiding_openings.specs.RandomValues.{commitment_claim, with_matrices, count_at}
use Rattle.p3_fri_hiding_openings.specs.RandomValues.{FitsMatrix}
use Rattle.p3_fri_hiding_openings.specs.RandomFaults.{MatrixFaults}
use Rattle.p3_fri_hiding_openings.proofs.Written.{written_more, placed_more, seen_before, zip_all}
use Rattle.p3_fri_hiding_openings.proofs.Faulty.{count_fault, round_fault}
use Rattle.p3_fri_hiding_openings.proofs.append.append_at_rounds.Goals as goal

pub returns-then-got-expected-clause-stands : goal.returns-then-got-expected-clause-stands
returns-then-got-expected-clause-stands g c =
    let i = c.loop-i.i in
    let y = c.index-claims-i.result in
    let r = c.index-random-i.result in
    let below : i < length c.args.claims.now = c.loop-i-test.true in
    let beside : i < length c.args.random.now = omega (arith, below, c.requires) in
    count_fault (claims_of (λ d. d.log_size) c.args.claims.now) (opened_values c.args.random.now)
    i c.len-expected.result c.len-got.result (commitment_claim (λ d. d.log_size) y)
    (nested r.items)
    (omega (arith, below, length-map c.args.claims.now (commitment_claim (λ d. d.log_size))))
    (omega (arith, beside, length-map c.args.random.now (λ vector. nested vector.items)))
    (seen_before (commitment_claim (λ d. d.log_size)) (λ vector. nested vector.items)
    with_matrices i c.args.claims.now c.loop-i.claims c.args.random.now y below
    c.index-claims-i.is c.loop-i.invariant.written)
    (entry_of_map (λ vector. nested vector.items) c.args.random.now i r beside
    c.index-random-i.is)
    (c.len-expected.ensures ∙ ap (λ claim. vec_len claim.matrices) (sym c.index-claims-i.is)
    ∙ y.matrices.ok.0 ∙ sym (length-map y.matrices.items (matrix_claim (λ d. d.log_size))))
    (c.len-got.ensures ∙ r.ok.0 ∙ sym (length-map r.items (λ vector. lists vector.items)))
    c.if-got-expected.true

pub returns-in-Err-clause-stands : goal.returns-in-Err-clause-stands
returns-in-Err-clause-stands g c =
    let i = c.loop-i.i in
    let y = c.index-claims-i-in-loop-i.result in
    let r = c.index-random-i-in-loop-i.result in
    let n = c.args.num_random_codewords in
    let index = c.args.preprocessing in
    let below : i < length c.args.claims.now = c.loop-i-test.true in
    let beside : i < length c.args.random.now = omega (arith, below, c.requires) in
    round_fault n c.args.num_queries g.EF.ExtensionField.DIMENSION index
    (claims_of (λ d. d.log_size) c.args.claims.now) (opened_values c.args.random.now)
    i (commitment_claim (λ d. d.log_size) y) (nested r.items)
    (omega (arith, below, length-map c.args.claims.now (commitment_claim (λ d. d.log_size))))
    (omega (arith, beside, length-map c.args.random.now (λ vector. nested vector.items)))
    (seen_before (commitment_claim (λ d. d.log_size)) (λ vector. nested vector.items)
    with_matrices i c.args.claims.now c.loop-i.claims c.args.random.now y below
    c.index-claims-i-in-loop-i.is c.loop-i.invariant.written)
    (entry_of_map (λ vector. nested vector.items) c.args.random.now i r beside
    c.index-random-i-in-loop-i.is)
    c.in-Err.refusal
    (subst (λ count. MatrixFaults c.args.num_queries g.EF.ExtensionField.DIMENSION
    (λ r k Holds. (r ≡ i) × At k (λ (m, points). Holds count m points)
    (zip (commitment_claim (λ d. d.log_size) c.index-claims-i-in-loop-i.result).matrices
    (nested c.index-random-i-in-loop-i.result.items))) c.in-Err.refusal)
    c.expected_count-count.ensures
    (subst (λ claim. MatrixFaults c.args.num_queries g.EF.ExtensionField.DIMENSION
    (λ r k Holds. (r ≡ i) × At k (λ (m, points). Holds c.expected_count-count.result m points)
    (zip (commitment_claim (λ d. d.log_size) claim).matrices
    (nested c.index-random-i-in-loop-i.result.items))) c.in-Err.refusal)
    (sym c.index-claims-i-in-loop-i.is)
    (subst (λ matrices. MatrixFaults c.args.num_queries g.EF.ExtensionField.DIMENSION
    (λ r k Holds. (r ≡ i) × At k (λ (m, points). Holds c.expected_count-count.result m points)
    (zip (commitment_claim (λ d. d.log_size) (get_or c.loop-i.claims i y)).matrices
    (nested matrices))) c.in-Err.refusal)
    c.as_slice.ensures.value c.in-Err.ensures.stands)))

pub loop-i-preserved : goal.loop-i-preserved
loop-i-preserved g c =
    let i = c.loop-i.i in
    let xs = c.args.claims.now in
    let ys = c.loop-i.claims in
    let rs = c.args.random.now in
    let y = c.index-claims-i-in-loop-i.result in
    let r = c.index-random-i-in-loop-i.result in
    let n = c.args.num_random_codewords in
    let index = c.args.preprocessing in
    let below : i < length xs = c.loop-i-test.true in
    let beside : i < length rs = omega (arith, below, c.requires) in
    record {
      written = written_more (commitment_claim (λ d. d.log_size)) (λ vector. nested vector.items)
          with_matrices i xs ys rs y c.append_at_round.new.claim r below beside
          c.index-claims-i-in-loop-i.is c.index-random-i-in-loop-i.is
          (c.in-Ok.ensures.appended
          ∙ ap₂ (λ claim zs. with_matrices (commitment_claim (λ d. d.log_size) claim) (nested zs))
          (sym c.index-claims-i-in-loop-i.is) c.as_slice.ensures.value)
          c.loop-i.invariant.written;
      fits = placed_more (commitment_claim (λ d. d.log_size)) (λ vector. nested vector.items)
          with_matrices (λ (round, claim) matrices.
          AllZip (FitsMatrix c.args.num_queries g.EF.ExtensionField.DIMENSION
          (count_at n index round)) claim.matrices matrices)
          i xs ys rs y r below beside c.index-claims-i-in-loop-i.is c.index-random-i-in-loop-i.is
          c.loop-i.invariant.written c.loop-i.invariant.fits
          (subst (λ count. AllZip
          (FitsMatrix c.args.num_queries g.EF.ExtensionField.DIMENSION count)
          (commitment_claim (λ d. d.log_size) c.index-claims-i-in-loop-i.result).matrices
          (nested c.index-random-i-in-loop-i.result.items)) c.expected_count-count.ensures
          (subst (λ claim. AllZip (FitsMatrix c.args.num_queries g.EF.ExtensionField.DIMENSION
          c.expected_count-count.result) (commitment_claim (λ d. d.log_size) claim).matrices
          (nested c.index-random-i-in-loop-i.result.items)) (sym c.index-claims-i-in-loop-i.is)
          (subst (λ matrices. AllZip (FitsMatrix c.args.num_queries g.EF.ExtensionField.DIMENSION
          c.expected_count-count.result)
          (commitment_claim (λ d. d.log_size) (get_or ys i y)).matrices (nested matrices))
          c.as_slice.ensures.value c.in-Ok.ensures.fits)));
    }

pub returns-clause-fits : goal.returns-clause-fits
returns-clause-fits g c =
    let xs = c.args.claims.now in
    let rs = c.args.random.now in
    let claims = claims_of (λ d. d.log_size) xs in
    zip_all (λ (round, claim) matrices.
    AllZip (FitsMatrix c.args.num_queries g.EF.ExtensionField.DIMENSION
    (count_at c.args.num_random_codewords c.args.preprocessing round)) claim.matrices matrices)
    c.loop-i.i (enumerate_from 0 claims) (opened_values rs)
    (omega (
      arith,
      length-enumerate_from 0 claims,
      length-map xs (commitment_claim (λ d. d.log_size)),
    ))
    (omega (arith, c.requires, length-map rs (λ vector. nested vector.items)))
    c.loop-i.invariant.fits

-- where nothing is answered nothing is said of the answer
pub returns-in-Err-clause-appended : goal.returns-in-Err-clause-appended
returns-in-Err-clause-appended g c = tt

pub returns-in-Err-clause-fits : goal.returns-in-Err-clause-fits
returns-in-Err-clause-fits g c = tt

pub returns-then-got-expected-clause-appended : goal.returns-then-got-expected-clause-appended
returns-then-got-expected-clause-appended g c = tt

pub returns-then-got-expected-clause-fits : goal.returns-then-got-expected-clause-fits
returns-then-got-expected-clause-fits g c = tt
