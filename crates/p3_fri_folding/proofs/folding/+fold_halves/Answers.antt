use Rattle.std.proofs.Common.{◌≡◌, ◌+◌, ◌/◌, ◌^◌, ℕ, zero, suc, [], ◌∷◌, length}
use Rattle.std.proofs.Common.{take, drop, sym, ap, ap₂, ◌∙◌, arith}
use Rattle.algebra.specs.Field.{pow}
use Rattle.algebra.specs.Folds.{fold_value}
use Rattle.algebra.proofs.Powers.{double, pow-one}
use Rattle.algebra.proofs.Points.{lifted_roots}
use Rattle.algebra.proofs.PairFolds.{two_entries}
use Rattle.algebra.proofs.BinaryFolds.{fold_by_halves}
use Rattle.p3_fri_folding.proofs.Halves.{starts_first_half, starts_second_half, half_inverse_of_row}
use Rattle.p3_fri_folding.proofs.Halves.{half_inverse_of_pair}
use Rattle.p3_fri_folding.proofs.folding.+fold_halves.Goals as goal

pub returns-then-round-eq0-clause-value : goal.returns-then-round-eq0-clause-value
returns-then-round-eq0-clause-value g t c i h (suc a) arity l b s =
    absurd (omega (arith, c.if-round-eq0.true, arity))
returns-then-round-eq0-clause-value g t c i h zero arity l b s =
    let K = g.EF.Field.ops in
    let F = g.F.Field.ops in
    let wK = λ (k : ℕ). g.EF.ExtensionField.lift (g.F.TwoAdicField.root k) in
    let row = c.args.row.now in
    let beta : g.EF.Field.factor_of c.factor_of_round-beta.result ≡ c.args.challenges.now.beta =
    c.factor_of_round-beta.ensures ∙ ap (λ k. pow K c.args.challenges.now.beta (2 ^ k)) c.if-round-eq0.true
    ∙ pow-one K g.met.EF.Field.laws.ring c.args.challenges.now.beta in
    let two : row ≡ c.index-row-0.result ∷ c.index-row-1.result ∷ [] =
    two_entries row c.index-row-0.result c.index-row-1.result (c.requires.width ∙ ap (λ n. 2 ^ n) arity) c.index-row-0.is c.index-row-1.is in
    c.fold_pair-fold.ensures i h l (omega (arith, b)) (half_inverse_of_pair F g.met.F.Field.laws g.F.TwoAdicField.TWO_ADICITY g.F.TwoAdicField.root g.met.F.TwoAdicField.roots_law i h c.args.half_inverse c.args.root_inverse s)
    ∙ ap₂ (λ x ys. fold_value K wK i h 1 x ys) beta (sym two)

pub returns-clause-half_inverse : goal.returns-clause-half_inverse
returns-clause-half_inverse g t c i h zero arity b s =
    absurd (omega (arith, c.if-round-eq0.false, arity))
returns-clause-half_inverse g t c i h (suc a) arity b s =
    let F = g.F.Field.ops in
    let L = g.met.F.Field.laws in
    let top = g.F.TwoAdicField.TWO_ADICITY in
    let w = g.F.TwoAdicField.root in
    let W = g.met.F.TwoAdicField.roots_law in
    half_inverse_of_row F L top w W i h c.fold_halves-left.result.1 c.double.result c.mul-half.result (omega (arith, b))
    (c.fold_halves-left.ensures.half_inverse (i + i) (suc h) a (omega (arith, arity)) (omega (arith, b))
    (starts_first_half F L top w W i h a c.args.half_inverse c.args.root_inverse c.square-square.result b c.square-square.ensures s))
    c.double.ensures
    (g.met.F.Field.mul_law c.double.result c.fold_halves-left.result.1 c.mul-half.result c.mul-half.ensures)

pub returns-clause-value : goal.returns-clause-value
returns-clause-value g t c i h zero arity l b s =
    absurd (omega (arith, c.if-round-eq0.false, arity))
returns-clause-value g t c i h (suc a) arity l b s =
    let F = g.F.Field.ops in
    let L = g.met.F.Field.laws in
    let K = g.EF.Field.ops in
    let M = g.met.EF.Field.laws in
    let lift = g.EF.ExtensionField.lift in
    let top = g.F.TwoAdicField.TWO_ADICITY in
    let w = g.F.TwoAdicField.root in
    let W = g.met.F.TwoAdicField.roots_law in
    let wK = λ (k : ℕ). lift (w k) in
    let row = c.args.row.now in
    let beta = c.args.challenges.now.beta in
    let long : length row ≡ 2 ^ suc (suc a) = c.requires.width ∙ ap (λ n. 2 ^ n) arity in
    let middle : length row / 2 ≡ 2 ^ suc a = omega (arith, long, double (suc a)) in
    let challenge : g.EF.Field.factor_of c.factor_of_round-beta.result ≡ pow K beta (2 ^ suc a) =
    c.factor_of_round-beta.ensures ∙ ap (λ k. pow K beta (2 ^ k)) (omega (arith, arity)) in
    let second = g.met.F.Field.mul_law c.args.half_inverse c.args.root_inverse c.mul-middle.result c.mul-middle.ensures in
    let left : c.fold_halves-left.result.0 ≡ fold_value K wK (i + i) (suc h) (suc a) beta (take (2 ^ suc a) row) =
    c.fold_halves-left.ensures.value (i + i) (suc h) a (omega (arith, arity)) (omega (arith, l, double h)) (omega (arith, b))
    (starts_first_half F L top w W i h a c.args.half_inverse c.args.root_inverse c.square-square.result b c.square-square.ensures s)
    ∙ ap (λ ys. fold_value K wK (i + i) (suc h) (suc a) beta ys) (c.split_at.ensures.front ∙ ap (λ n. take n row) middle) in
    let right : c.fold_halves-right.result.0 ≡ fold_value K wK (suc (i + i)) (suc h) (suc a) beta (drop (2 ^ suc a) row) =
    c.fold_halves-right.ensures.value (suc (i + i)) (suc h) a (omega (arith, arity)) (omega (arith, l, double h)) (omega (arith, b))
    (starts_second_half F L top w W i h a c.args.half_inverse c.args.root_inverse c.square-square.result c.mul-middle.result b c.square-square.ensures second s)
    ∙ ap (λ ys. fold_value K wK (suc (i + i)) (suc h) (suc a) beta ys) (c.split_at.ensures.back ∙ ap (λ n. drop n row) middle) in
    c.fold_pair.ensures i h l (omega (arith, b)) (returns-clause-half_inverse g t c i h (suc a) arity b s)
    ∙ ap (λ x. fold_value K wK i h 1 x (c.fold_halves-left.result.0 ∷ c.fold_halves-right.result.0 ∷ [])) challenge
    ∙ ap₂ (λ y z. fold_value K wK i h 1 (pow K beta (2 ^ suc a)) (y ∷ z ∷ [])) left right
    ∙ fold_by_halves K M top wK (lifted_roots F K lift L M g.met.EF.ExtensionField.lift_law top w W) i h (suc a) beta row l b long
