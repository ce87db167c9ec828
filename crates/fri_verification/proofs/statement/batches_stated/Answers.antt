use Rattle.std.proofs.Common.{◌<◌, ap, sym, ◌∙◌, ◌∷◌, [], map, arith, length}
use Rattle.std.proofs.lemmas.List.{length-map, map-append}
use Rattle.std.proofs.lemmas.Result.{IfOk-from_err}
use Rattle.algebra.specs.Nested.{lists, nested}
use Rattle.algebra.proofs.Lists.{map-map, entry_of_map}
use Rattle.p3_pcs.specs.Claims.{zip_with}
use Rattle.fri_verification.specs.Bound.{batch_asked, commitment_stated}
use Rattle.fri_numbers.specs.Listed.{domain_by, domain_committed}
use Rattle.fri_verification.proofs.Bound.{entries_alike, same_length, zipped_more, zipped_all}
use Rattle.fri_verification.proofs.statement.batches_stated.Goals as goal

pub bounds-known-index : goal.bounds-known-index
bounds-known-index g c = omega (
  arith,
  c.loop-index-test.true,
  same_length _ _ c.args.known.now c.args.batches.now c.requires.domains,
)

pub matrices_asked-requires-clause-domains : goal.matrices_asked-requires-clause-domains
matrices_asked-requires-clause-domains g c =
    ap (λ ds. map (λ d. domain_by (g.N.Numbered.shift_of d) (g.N.Numbered.log_size_of d)) ds) c.deref.ensures.value
    ∙ entries_alike (λ k. map (λ d. domain_by (g.N.Numbered.shift_of d) (g.N.Numbered.log_size_of d)) k.domains.items)
    (λ b. map (λ m. domain_committed c.args.hides m.domain) b.matrices.items) c.args.known.now c.args.batches.now
    c.loop-index.index c.index-known-index.result c.index-batches-index.result c.requires.domains
    c.loop-index-test.true c.index-known-index.is c.index-batches-index.is

pub matrices_asked-requires-clause-points : goal.matrices_asked-requires-clause-points
matrices_asked-requires-clause-points g c =
    ap (λ vs. map (map g.N.Numbered.numbers_of) (lists vs)) c.deref-in-loop-index.ensures.value
    ∙ entries_alike (λ v. map (map g.N.Numbered.numbers_of) (lists v.items)) (λ b. map (λ m. lists m.points.items) b.matrices.items)
    c.args.points.now c.args.batches.now c.loop-index.index c.index-points-index.result c.index-batches-index.result
    (sym (map-map (map (map g.N.Numbered.numbers_of)) (λ v. lists v.items) c.args.points.now) ∙ c.requires.points)
    c.loop-index-test.true c.index-points-index.is c.index-batches-index.is

pub loop-index-preserved : goal.loop-index-preserved
loop-index-preserved g c =
    let known = c.args.known.now in
    let kept = c.index-known-index.result in
    let i = c.loop-index.index in
    let within : i < length known = omega (
      arith,
      c.loop-index-test.true,
      same_length _ _ c.args.known.now c.args.batches.now c.requires.domains,
    ) in
    zipped_more (batch_asked c.args.hides) (map (commitment_stated g.N.Numbered.numbers_of g.N.Numbered.shift_of g.N.Numbered.log_size_of) c.loop-index.stated.items) (map (commitment_stated g.N.Numbered.numbers_of g.N.Numbered.shift_of g.N.Numbered.log_size_of) c.push.new.self.items)
    (zip_with (batch_asked c.args.hides) (map (λ k. k.commitment) known) c.args.batches.now)
    (map (λ k. k.commitment) known) c.args.batches.now i kept.commitment c.index-batches-index.result _
    (omega (arith, within, length-map known (λ k. k.commitment))) c.loop-index-test.true
    (entry_of_map (λ k. k.commitment) known i kept within c.index-known-index.is) c.index-batches-index.is
    (ap (λ ss. map (commitment_stated g.N.Numbered.numbers_of g.N.Numbered.shift_of g.N.Numbered.log_size_of) ss) c.in_ok-push.ensures.items ∙ map-append (commitment_stated g.N.Numbered.numbers_of g.N.Numbered.shift_of g.N.Numbered.log_size_of) c.loop-index.stated.items (_ ∷ []))
    (ap (λ ms. record { digest = kept.commitment; matrices = ms }) c.in_ok-matrices_asked.ensures)
    c.loop-index.invariant

pub returns : goal.returns
returns g c =
    zipped_all (batch_asked c.args.hides) (map (commitment_stated g.N.Numbered.numbers_of g.N.Numbered.shift_of g.N.Numbered.log_size_of) c.loop-index.stated.items) _
    (map (λ k. k.commitment) c.args.known.now) c.args.batches.now c.loop-index.index c.loop-index-test.false
    (length-map c.args.known.now (λ k. k.commitment)
    ∙ same_length _ _ c.args.known.now c.args.batches.now c.requires.domains)
    c.loop-index.invariant

-- where nothing is answered nothing is said of the answer
pub returns-in_err-stated : goal.returns-in_err-stated
returns-in_err-stated g c = IfOk-from_err c.from_residual.result _ c.from_residual.ensures.0

pub returns-in_err-matrices_asked : goal.returns-in_err-matrices_asked
returns-in_err-matrices_asked g c = IfOk-from_err c.from_residual-in_err-matrices_asked.result _ c.from_residual-in_err-matrices_asked.ensures.0

pub returns-in_err-push : goal.returns-in_err-push
returns-in_err-push g c = IfOk-from_err c.from_residual-in_err-push.result _ c.from_residual-in_err-push.ensures.0

pub bounds-points-index : goal.bounds-points-index
bounds-points-index g c =
    omega (
      arith,
      c.loop-index-test.true,
      same_length _ _ (nested c.args.points.now) c.args.batches.now c.requires.points,
      length-map c.args.points.now (λ v. lists v.items),
    )
