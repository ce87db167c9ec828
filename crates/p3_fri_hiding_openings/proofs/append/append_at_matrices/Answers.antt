use Rattle.std.proofs.Common.{◌≡◌, ◌<◌, map, length, get_or, ◌∙◌, sym, ap₂, subst, arith, rules}
use Rattle.std.proofs.lemmas.List.{length-map}
use Rattle.algebra.specs.Nested.{lists, nested}
use Rattle.algebra.proofs.Lists.{entry_of_map}
use Rattle.p3_fri_relation.specs.Views.{matrix_claim}
use Rattle.p3_fri_hiding_openings.specs.RandomValues.{with_points, FitsMatrix}
use Rattle.p3_fri_hiding_openings.specs.RandomFaults.{MatrixFaults}
use Rattle.p3_fri_hiding_openings.proofs.Written.{written_more, pairs_more, seen_before}
use Rattle.p3_fri_hiding_openings.proofs.Faulty.{matrix_fault}
use Rattle.p3_fri_hiding_openings.proofs.append.append_at_matrices.Goals as goal

pub returns-in-Err-clause-stands : goal.returns-in-Err-clause-stands
returns-in-Err-clause-stands g c =
    let i = c.loop-i.i in
    let y = c.index-claims-i.result in
    let r = c.index-random-i.result in
    let below : i < length c.args.claims.now = c.loop-i-test.true in
    let beside : i < length c.args.random.now = omega (arith, below, c.requires) in
    matrix_fault c.args.num_queries g.EF.ExtensionField.DIMENSION c.args.round i c.args.expected
    (map (matrix_claim (λ d. d.log_size)) c.args.claims.now) (nested c.args.random.now)
    (matrix_claim (λ d. d.log_size) y) (lists r.items)
    (omega (arith, below, length-map c.args.claims.now (matrix_claim (λ d. d.log_size))))
    (omega (arith, beside, length-map c.args.random.now (λ vector. lists vector.items)))
    (seen_before (matrix_claim (λ d. d.log_size)) (λ vector. lists vector.items) with_points
    i c.args.claims.now c.loop-i.claims c.args.random.now y below c.index-claims-i.is
    c.loop-i.invariant.written)
    (entry_of_map (λ vector. lists vector.items) c.args.random.now i r beside
    c.index-random-i.is)
    c.in-Err.refusal
    (subst (λ m. MatrixFaults c.args.num_queries g.EF.ExtensionField.DIMENSION
    (λ r k Holds. (r ≡ c.args.round) × (k ≡ i)
    × Holds c.args.expected (matrix_claim (λ d. d.log_size) m) (lists c.index-random-i.result.items))
    c.in-Err.refusal) (sym c.index-claims-i.is)
    (subst (λ zs. MatrixFaults c.args.num_queries g.EF.ExtensionField.DIMENSION
    (λ r k Holds. (r ≡ c.args.round) × (k ≡ i)
    × Holds c.args.expected (matrix_claim (λ d. d.log_size) (get_or c.loop-i.claims i y)) (lists zs))
    c.in-Err.refusal) c.as_slice-random.ensures.value c.in-Err.ensures.stands))

pub loop-i-preserved : goal.loop-i-preserved
loop-i-preserved g c =
    let i = c.loop-i.i in
    let xs = c.args.claims.now in
    let ys = c.loop-i.claims in
    let rs = c.args.random.now in
    let y = c.index-claims-i.result in
    let r = c.index-random-i.result in
    let new = c.append_at_matrix.new.claim in
    let below : i < length xs = c.loop-i-test.true in
    let beside : i < length rs = omega (arith, below, c.requires) in
    record {
      written = written_more (matrix_claim (λ d. d.log_size)) (λ vector. lists vector.items)
          with_points i xs ys rs y new r below beside c.index-claims-i.is c.index-random-i.is
          (c.in-Ok.ensures.appended
          ∙ ap₂ (λ m zs. with_points (matrix_claim (λ d. d.log_size) m) (lists zs))
          (sym c.index-claims-i.is) c.as_slice-random.ensures.value)
          c.loop-i.invariant.written;
      fits = pairs_more (matrix_claim (λ d. d.log_size)) (λ vector. lists vector.items)
          with_points (FitsMatrix c.args.num_queries g.EF.ExtensionField.DIMENSION
          c.args.expected) i xs ys rs y r below beside c.index-claims-i.is c.index-random-i.is
          c.loop-i.invariant.written c.loop-i.invariant.fits
          (subst (λ m. FitsMatrix c.args.num_queries g.EF.ExtensionField.DIMENSION c.args.expected
          (matrix_claim (λ d. d.log_size) m) (lists r.items)) (sym c.index-claims-i.is)
          (subst (λ zs. FitsMatrix c.args.num_queries g.EF.ExtensionField.DIMENSION
          c.args.expected (matrix_claim (λ d. d.log_size) (get_or ys i y)) (lists zs))
          c.as_slice-random.ensures.value c.in-Ok.ensures.fits));
    }

pub offset_bounds-claims-i : goal.offset_bounds-claims-i
offset_bounds-claims-i g c = search (rules, c.loop-i-test.true)

-- where nothing is answered nothing is said of the answer
pub returns-in-Err-clause-appended : goal.returns-in-Err-clause-appended
returns-in-Err-clause-appended g c = tt

pub returns-in-Err-clause-fits : goal.returns-in-Err-clause-fits
returns-in-Err-clause-fits g c = tt
