use Rattle.std.proofs.Common.{◌≡◌, ◌+◌, ◌/◌, ◌<◌, ◌^◌, ℕ, zero, suc, [], ◌∷◌, length}
use Rattle.std.proofs.Common.{map, take, drop, subst, sym, ap, ap₂, ◌∙◌, arith}
use Rattle.std.proofs.lemmas.List.{take-map, drop-map, length-map}
use Rattle.algebra.specs.Field.{pow}
use Rattle.algebra.specs.Folds.{fold_value}
use Rattle.algebra.proofs.Powers.{double, pow-one}
use Rattle.algebra.proofs.Points.{lifted_roots}
use Rattle.algebra.proofs.PairFolds.{two_entries}
use Rattle.algebra.proofs.BinaryFolds.{fold_by_halves}
use Rattle.p3_fri_folding.proofs.Halves.{starts_first_half, starts_second_half, half_inverse_of_row}
use Rattle.p3_fri_folding.proofs.Halves.{half_inverse_of_pair}
use Rattle.p3_fri_folding.proofs.lanes.+fold_halves_by_lanes.Goals as goal

pub returns-then-round-eq0-clause-value : goal.returns-then-round-eq0-clause-value
returns-then-round-eq0-clause-value g t c l i h (suc a) lane arity within b s =
    absurd (omega (arith, c.if-round-eq0.true, arity))
returns-then-round-eq0-clause-value g t c l i h zero lane arity within b s =
    let K = g.EF.Field.ops in
    let F = g.F.Field.ops in
    let wK = λ (k : ℕ). g.EF.ExtensionField.lift (g.F.TwoAdicField.root k) in
    let at : g.row.EF-ExtensionPacking.Denot → g.row.EF.Denot = λ x. g.EF.ExtensionPacking.PackedField.lane x l in
    let half = g.F.Packing.PackedField.lane c.args.half_inverses l in
    let values = c.args.values.now in
    let beta : c.of_round-beta.result ≡ c.args.challenges.now.beta =
    c.of_round-beta.ensures ∙ ap (λ k. pow K c.args.challenges.now.beta (2 ^ k)) c.if-round-eq0.true
    ∙ pow-one K g.met.EF.Field.laws.ring c.args.challenges.now.beta in
    let two : values ≡ c.index-values-0.result ∷ c.index-values-1.result ∷ [] =
    two_entries values c.index-values-0.result c.index-values-1.result (c.requires.width ∙ ap (λ n. 2 ^ n) arity) c.index-values-0.is c.index-values-1.is in
    c.fold_pair_by_lanes-fold.ensures l i h lane within (omega (arith, b)) (half_inverse_of_pair F g.met.F.Field.laws g.F.TwoAdicField.TWO_ADICITY g.F.TwoAdicField.root g.met.F.TwoAdicField.roots_law i h half c.args.root_inverse s)
    ∙ ap₂ (λ x vs. fold_value K wK i h 1 x (map at vs)) beta (sym two)

pub returns-clause-half_inverse : goal.returns-clause-half_inverse
returns-clause-half_inverse g t c l i h zero lane arity b s =
    absurd (omega (arith, c.if-round-eq0.false, arity))
returns-clause-half_inverse g t c l i h (suc a) lane arity b s =
    let F = g.F.Field.ops in
    let L = g.met.F.Field.laws in
    let top = g.F.TwoAdicField.TWO_ADICITY in
    let w = g.F.TwoAdicField.root in
    let W = g.met.F.TwoAdicField.roots_law in
    let packed = g.met.F.Packing.PackedField in
    let at : g.row.F-Packing.Denot → g.row.F.Denot = λ x. g.F.Packing.PackedField.lane x l in
    let base : l < g.F.Packing.PackedField.WIDTH = subst (λ n. l < n) g.met.EF.ExtensionPacking.PackedExtension.same_width lane in
    half_inverse_of_row F L top w W i h (at c.fold_halves_by_lanes-left.result.1) (at c.add.result) (at c.mul-half.result) (omega (arith, b))
    (c.fold_halves_by_lanes-left.ensures.half_inverse l (i + i) (suc h) a lane (omega (arith, arity)) (omega (arith, b))
    (starts_first_half F L top w W i h a (at c.args.half_inverses) c.args.root_inverse c.square-square.result b c.square-square.ensures s))
    (packed.add_law c.fold_halves_by_lanes-left.result.1 c.fold_halves_by_lanes-left.result.1 c.add.result c.add.ensures l base)
    (packed.mul_law c.add.result c.fold_halves_by_lanes-left.result.1 c.mul-half.result c.mul-half.ensures l base)

pub returns-clause-value : goal.returns-clause-value
returns-clause-value g t c l i h zero lane arity within b s =
    absurd (omega (arith, c.if-round-eq0.false, arity))
returns-clause-value g t c l i h (suc a) lane arity within b s =
    let F = g.F.Field.ops in
    let L = g.met.F.Field.laws in
    let K = g.EF.Field.ops in
    let M = g.met.EF.Field.laws in
    let lift = g.EF.ExtensionField.lift in
    let top = g.F.TwoAdicField.TWO_ADICITY in
    let w = g.F.TwoAdicField.root in
    let W = g.met.F.TwoAdicField.roots_law in
    let wK = λ (k : ℕ). lift (w k) in
    let at : g.row.EF-ExtensionPacking.Denot → g.row.EF.Denot = λ x. g.EF.ExtensionPacking.PackedField.lane x l in
    let base_at : g.row.F-Packing.Denot → g.row.F.Denot = λ x. g.F.Packing.PackedField.lane x l in
    let base : l < g.F.Packing.PackedField.WIDTH = subst (λ n. l < n) g.met.EF.ExtensionPacking.PackedExtension.same_width lane in
    let values = c.args.values.now in
    let row = map at values in
    let beta = c.args.challenges.now.beta in
    let long : length values ≡ 2 ^ suc (suc a) = c.requires.width ∙ ap (λ n. 2 ^ n) arity in
    let middle : length values / 2 ≡ 2 ^ suc a = omega (arith, long, double (suc a)) in
    let challenge : c.of_round-beta.result ≡ pow K beta (2 ^ suc a) =
    c.of_round-beta.ensures ∙ ap (λ k. pow K beta (2 ^ k)) (omega (arith, arity)) in
    let second : base_at c.mul-middle.result ≡ F.mul (base_at c.args.half_inverses) c.args.root_inverse =
    g.met.F.Packing.PackedField.mul_law c.args.half_inverses c.broadcast.result c.mul-middle.result c.mul-middle.ensures l base
    ∙ ap (λ x. F.mul (base_at c.args.half_inverses) x) (c.broadcast.ensures l base) in
    let left : at c.fold_halves_by_lanes-left.result.0 ≡ fold_value K wK (i + i) (suc h) (suc a) beta (take (2 ^ suc a) row) =
    c.fold_halves_by_lanes-left.ensures.value l (i + i) (suc h) a lane (omega (arith, arity)) (omega (arith, within, double h)) (omega (arith, b))
    (starts_first_half F L top w W i h a (base_at c.args.half_inverses) c.args.root_inverse c.square-square.result b c.square-square.ensures s)
    ∙ ap (λ ys. fold_value K wK (i + i) (suc h) (suc a) beta ys) (ap (map at) (c.split_at.ensures.front ∙ ap (λ n. take n values) middle) ∙ sym (take-map at (2 ^ suc a) values)) in
    let right : at c.fold_halves_by_lanes-right.result.0 ≡ fold_value K wK (suc (i + i)) (suc h) (suc a) beta (drop (2 ^ suc a) row) =
    c.fold_halves_by_lanes-right.ensures.value l (suc (i + i)) (suc h) a lane (omega (arith, arity)) (omega (arith, within, double h)) (omega (arith, b))
    (starts_second_half F L top w W i h a (base_at c.args.half_inverses) c.args.root_inverse c.square-square.result (base_at c.mul-middle.result) b c.square-square.ensures second s)
    ∙ ap (λ ys. fold_value K wK (suc (i + i)) (suc h) (suc a) beta ys) (ap (map at) (c.split_at.ensures.back ∙ ap (λ n. drop n values) middle) ∙ sym (drop-map at (2 ^ suc a) values)) in
    c.fold_pair_by_lanes.ensures l i h lane within (omega (arith, b)) (returns-clause-half_inverse g t c l i h (suc a) lane arity b s)
    ∙ ap (λ x. fold_value K wK i h 1 x (at c.fold_halves_by_lanes-left.result.0 ∷ at c.fold_halves_by_lanes-right.result.0 ∷ [])) challenge
    ∙ ap₂ (λ y z. fold_value K wK i h 1 (pow K beta (2 ^ suc a)) (y ∷ z ∷ [])) left right
    ∙ fold_by_halves K M top wK (lifted_roots F K lift L M g.met.EF.ExtensionField.lift_law top w W) i h (suc a) beta row within b (length-map values at ∙ long)
