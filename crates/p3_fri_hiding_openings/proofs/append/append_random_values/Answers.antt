use Rattle.std.proofs.Common.{◌≡◌, ◌<◌, ◌≤◌, ℕ, length, Option, ◌∙◌, sym, subst, arith}
use Rattle.std.specs.Prelude.{IfSome, IfErr, OnOk}
use Rattle.std.proofs.lemmas.List.{length-map}
use Rattle.algebra.specs.Nested.{nested}
use Rattle.p3_pcs.specs.Claims.{opened_values}
use Rattle.p3_fri_relation.specs.Views.{claims_of}
use Rattle.p3_fri_hiding_openings.specs.RandomValues.{commitment_claim, FitRounds}
use Rattle.p3_fri_hiding_openings.specs.RandomFaults.{HidingFaults}
use Rattle.p3_fri_hiding_openings.proofs.Places.{placed_length}
use Rattle.p3_fri_hiding_openings.proofs.Faulty.{exactly_where, may_append_on, among_none}
use Rattle.p3_fri_hiding_openings.proofs.append.append_random_values.Goals as goal
use Rattle.p3_fri_hiding_openings.proofs.append.append_random_values.Goals.{in-Some+else-index-claims, in_default}

pub returns-then-random-claims-clause-exactly : goal.returns-then-random-claims-clause-exactly
returns-then-random-claims-clause-exactly g c other = (
  (λ ok. cc),
  (λ may. absurd (c.if-random-claims.true (omega (
    arith,
    placed_length _ 0 (claims_of (λ d. d.log_size) c.args.claims.now)
        (opened_values c.args.random.now) may.nest,
    length-map c.args.claims.now (commitment_claim (λ d. d.log_size)),
    length-map c.args.random.now (λ vector. nested vector.items),
  )))),
)

pub returns-clause-exactly : goal.returns-clause-exactly
returns-clause-exactly g c =
    let n = c.args.num_random_codewords in
    let claims = claims_of (λ d. d.log_size) c.args.claims.now in
    let random = opened_values c.args.random.now in
    let same : c.match-preprocessing.preprocessing ≡ c.args.preprocessing =
    elim c.match-preprocessing.branch [
      | in-Some+else-index-claims w ↦ w.preprocessing-is ∙ sym w.in-Some.is
      | in_default w ↦ w.preprocessing-is
    ] in
    let counted = length-map c.args.claims.now (commitment_claim (λ d. d.log_size)) in
    let among : IfSome c.args.preprocessing (λ index. index < length claims) =
    elim c.match-preprocessing.branch [
      | in-Some+else-index-claims w ↦
          subst (λ (o : Option ℕ). IfSome o (λ index. index < length claims)) (sym w.in-Some.is)
          (omega (arith, w.if-index-claims.false, counted))
      | in_default w ↦ among_none c.args.preprocessing (length claims) w.in_default.not-Some
    ] in
    exactly_where n c.args.num_queries g.EF.ExtensionField.DIMENSION c.args.preprocessing claims
    random c.append_at_rounds.result
    (may_append_on c.append_at_rounds.result n c.args.num_queries g.EF.ExtensionField.DIMENSION
    c.args.preprocessing claims random among
    (subst (λ (d : ℕ). d ≤ n) c.DIMENSION.ensures c.if-num_random_codewords-DIMENSION.false)
    (subst (λ (index : Option ℕ). OnOk c.append_at_rounds.result
    (FitRounds n c.args.num_queries g.EF.ExtensionField.DIMENSION index claims random)) same
    c.append_at_rounds.ensures.fits))
    (subst (λ (index : Option ℕ). IfErr c.append_at_rounds.result
    (HidingFaults n c.args.num_queries g.EF.ExtensionField.DIMENSION index claims random)) same
    c.append_at_rounds.ensures.stands)

pub returns-clause-stands : goal.returns-clause-stands
returns-clause-stands g c =
    let same : c.match-preprocessing.preprocessing ≡ c.args.preprocessing =
    elim c.match-preprocessing.branch [
      | in-Some+else-index-claims w ↦ w.preprocessing-is ∙ sym w.in-Some.is
      | in_default w ↦ w.preprocessing-is
    ] in
    subst (λ (index : Option ℕ). IfErr c.append_at_rounds.result
    (HidingFaults c.args.num_random_codewords c.args.num_queries g.EF.ExtensionField.DIMENSION
    index (claims_of (λ d. d.log_size) c.args.claims.now) (opened_values c.args.random.now))) same
    c.append_at_rounds.ensures.stands

pub returns-then-random-claims-clause-stands : goal.returns-then-random-claims-clause-stands
returns-then-random-claims-clause-stands g c = record {
  expected_is = sym (length-map c.args.claims.now (commitment_claim (λ d. d.log_size)));
  got_is = sym (length-map c.args.random.now (λ vector. nested vector.items));
  differ = λ same. c.if-random-claims.true (sym same);
}

pub returns-then-index-claims-clause-stands : goal.returns-then-index-claims-clause-stands
returns-then-index-claims-clause-stands g c = (
  c.in-Some.is,
  sym (length-map c.args.claims.now (commitment_claim (λ d. d.log_size))),
  c.if-index-claims.true,
)
