use Rattle.std.proofs.Common.{◌≡◌, ◌%◌, Some, ap, refl, sym, ◌∙◌, arith}
use Rattle.p3_challenger_sha256.proofs.Grinds.{passes, fails_next, fails_element, first_at_no_bits}
use Rattle.p3_challenger_sha256.proofs.Grinds.{first_element, state_at_no_bits, least_witness-none}
use Rattle.p3_challenger_sha256.proofs.Grinds.{least_witness-found}
use Rattle.p3_challenger_sha256.proofs.sha256_challenger.grind.Sha256ChallengerGrindingChallenger.grind.Invariants.{order, canonical, ops}
use Rattle.p3_challenger_sha256.proofs.sha256_challenger.grind.Sha256ChallengerGrindingChallenger.grind.Goals as goal

pub returns-then-check_witness-clause-value : goal.returns-then-check_witness-clause-value
returns-then-check_witness-clause-value g c =
    let here = c.loop-number in
    let w = c.from_canonical-witness in
    sym (least_witness-found (order g) (canonical g) (ops g) c.args.self.now c.args.bits here.number w.result
    (omega arith) w.ensures here.invariant.failed
    (ap (λ s. passes (order g) (canonical g) (ops g) s c.args.bits w.result) (sym here.invariant.same)
    ∙ sym c.check_witness.ensures.value ∙ c.if-check_witness.true))

pub returns-then-check_witness-clause-least : goal.returns-then-check_witness-clause-least
returns-then-check_witness-clause-least g c v less =
    let here = c.loop-number in
    let w = c.from_canonical-witness in
    let number : canonical g w.result ≡ here.number % order g = ap (canonical g) w.ensures
    ∙ g.met.F.PrimeField64.canonical_multiple here.number in
    fails_element (order g) (canonical g) (ops g) g.met.F.PrimeField64.multiple_canonical c.args.self.now c.args.bits here.number here.invariant.failed v (omega arith)

pub returns-then-check_witness-clause-zero_at_no_bits : goal.returns-then-check_witness-clause-zero_at_no_bits
returns-then-check_witness-clause-zero_at_no_bits g c none =
    let here = c.loop-number in
    let w = c.from_canonical-witness in
    ap Some (first_element (order g) (canonical g) (ops g) here.number w.result w.ensures
    (first_at_no_bits (order g) (canonical g) (ops g) c.args.self.now c.args.bits here.number none here.invariant.failed))

pub returns-then-check_witness-clause-same_at_no_bits : goal.returns-then-check_witness-clause-same_at_no_bits
returns-then-check_witness-clause-same_at_no_bits g c none =
    let here = c.loop-number in
    let w = c.from_canonical-witness in
    c.check_witness.ensures.state ∙ state_at_no_bits (order g) (canonical g) (ops g) here.self c.args.bits w.result none
    ∙ here.invariant.same

pub loop-number-preserved : goal.loop-number-preserved
loop-number-preserved g c =
    let here = c.loop-number in
    let w = c.from_canonical-witness in
    record {
      same = refl;
      kept = refl;
      failed = fails_next (order g) (canonical g) (ops g) c.args.self.now c.args.bits here.number w.result w.ensures
          here.invariant.failed
          (ap (λ s. passes (order g) (canonical g) (ops g) s c.args.bits w.result) (sym here.invariant.same)
          ∙ sym c.check_witness.ensures.value ∙ c.if-check_witness.false);
    }

pub returns-clause-value : goal.returns-clause-value
returns-clause-value g c = sym
    (least_witness-none (order g) (canonical g) (ops g) c.args.self.now c.args.bits (λ k l.
    c.loop-number.invariant.failed k (omega (arith, l))))

pub returns-clause-none_passes : goal.returns-clause-none_passes
returns-clause-none_passes g c w =
    fails_element (order g) (canonical g) (ops g) g.met.F.PrimeField64.multiple_canonical c.args.self.now c.args.bits c.loop-number.number c.loop-number.invariant.failed w
    (omega (arith, g.met.F.PrimeField64.canonical_below w))

pub returns-clause-zero_at_no_bits : goal.returns-clause-zero_at_no_bits
returns-clause-zero_at_no_bits g c none =
    absurd (omega (
      arith,
      g.met.F.PrimeField64.canonical_below (ops g).zero,
      first_at_no_bits (order g) (canonical g) (ops g) c.args.self.now c.args.bits c.loop-number.number none
          c.loop-number.invariant.failed,
    ))
