use Rattle.std.proofs.Common.{◌≡◌, ◌<◌, ◌+◌, ◌-◌, ◌*◌, ◌%◌, ◌^◌, ℕ, get_or, arith}
use Rattle.std.proofs.Common.{ap, subst, refl, ◌∙◌}
use Rattle.p3_dft.specs.Strided.{AfterLayers}
use Rattle.p3_dft.proofs.Sizes.{blocks_is, stride_of_one, stride_of_two, size_of_halves}
use Rattle.p3_dft.proofs.Sizes.{size_of_quarters, part_within, power_below, twiddle_below}
use Rattle.p3_dft.proofs.Sizes.{double_next}
use Rattle.p3_dft.proofs.LayerSteps.{one_layer, two_layers}
use Rattle.p3_dft.proofs.Lifts.{lifted_turn, lifted_power}
use Rattle.p3_dft.proofs.layers.next_layers.Goals as goal

pub overflow_mul-stride : goal.overflow_mul-stride
overflow_mul-stride g c =
    let k = c.args.log_height in
    let s = c.args.done in
    omega (arith, c.requires.source, part_within k s c.args.width (s + 1), ap (λ n. n * c.args.width) (stride_of_one k s c.requires.log_height))

pub layer-requires-clause-source : goal.layer-requires-clause-source
layer-requires-clause-source g c =
    let k = c.args.log_height in
    let s = c.args.done in
    let bound = c.requires.log_height in
    c.requires.source ∙ size_of_halves k s c.args.width _ _ c.requires.left (blocks_is k s bound c.requires.left) (stride_of_one k s bound)

pub layer-requires-clause-target : goal.layer-requires-clause-target
layer-requires-clause-target g c =
    let k = c.args.log_height in
    let s = c.args.done in
    let bound = c.requires.log_height in
    c.requires.target ∙ size_of_halves k s c.args.width _ _ c.requires.left (blocks_is k s bound c.requires.left) (stride_of_one k s bound)

pub layer-requires-clause-twiddles : goal.layer-requires-clause-twiddles
layer-requires-clause-twiddles g c m l =
    let k = c.args.log_height in
    let s = c.args.done in
    let bound = c.requires.log_height in
    omega (arith, c.requires.twiddles, ap (λ n. m * n) (stride_of_one k s bound), twiddle_below k s c.requires.left m (omega (arith, l, blocks_is k s bound c.requires.left)))

pub returns-then-left-eq1-clause-values : goal.returns-then-left-eq1-clause-values
returns-then-left-eq1-clause-values g c root xs table turn known =
    let F = g.F.Field.ops in
    let K = g.EF.Field.ops in
    let lift = g.EF.ExtensionField.lift in
    let R = g.met.F.Field.laws.ring in
    let S = g.met.EF.Field.laws.ring in
    let H = g.met.EF.ExtensionField.lift_law in
    let k = c.args.log_height in
    let s = c.args.done in
    let ts = c.args.twiddles.now in
    let bound = c.requires.log_height in
    let blocks = 1 * 2 ^ s % 2 ^ 64 in
    let stride = 1 * 2 ^ (k - s - 1) % 2 ^ 64 in
    let count = blocks_is k s bound c.requires.left in
    let step = stride_of_one k s bound in
    one_layer K S (lift root) k (lifted_turn F K lift R S H root (2 ^ (k - 1)) turn) c.args.width s xs
    c.args.source.now c.layer.new.target blocks stride (stride * c.args.width) count refl known
    (λ m. lift (get_or ts (m * stride) F.zero)) c.requires.left step
    (λ m l. lifted_power F K lift R S H root _ (m * stride) ts F.zero table
    (omega (arith, ap (λ n. m * n) step, twiddle_below k s c.requires.left m (omega (arith, l, count)))))
    (λ m j l q. c.layer.ensures.sums m j K.zero F.zero l q)
    (λ m j l q. c.layer.ensures.differences m j K.zero F.zero l q)

pub overflow_mul-stride-else-left-eq1 : goal.overflow_mul-stride-else-left-eq1
overflow_mul-stride-else-left-eq1 g c =
    let k = c.args.log_height in
    let s = c.args.done in
    omega (arith, c.requires.source, part_within k s c.args.width (s + 1 + 1), ap (λ n. n * c.args.width) (stride_of_two k s c.requires.log_height))

pub two_layers-requires-clause-few : goal.two_layers-requires-clause-few
two_layers-requires-clause-few g c =
    let k = c.args.log_height in
    let s = c.args.done in
    let bound = c.requires.log_height in
    let more : s + 1 < k = omega (arith, c.if-left-eq1.false, c.requires.left) in
    omega (arith, blocks_is k s bound c.requires.left, power_below s (omega (arith, more, bound)))

pub two_layers-requires-clause-source : goal.two_layers-requires-clause-source
two_layers-requires-clause-source g c =
    let k = c.args.log_height in
    let s = c.args.done in
    let bound = c.requires.log_height in
    let more : s + 1 < k = omega (arith, c.if-left-eq1.false, c.requires.left) in
    c.requires.source ∙ size_of_quarters k s c.args.width _ _ more (blocks_is k s bound c.requires.left) (stride_of_two k s bound)

pub two_layers-requires-clause-target : goal.two_layers-requires-clause-target
two_layers-requires-clause-target g c =
    let k = c.args.log_height in
    let s = c.args.done in
    let bound = c.requires.log_height in
    let more : s + 1 < k = omega (arith, c.if-left-eq1.false, c.requires.left) in
    c.requires.target ∙ size_of_quarters k s c.args.width _ _ more (blocks_is k s bound c.requires.left) (stride_of_two k s bound)

pub two_layers-requires-clause-twiddles : goal.two_layers-requires-clause-twiddles
two_layers-requires-clause-twiddles g c m l =
    let k = c.args.log_height in
    let s = c.args.done in
    let bound = c.requires.log_height in
    let more : s + 1 < k = omega (arith, c.if-left-eq1.false, c.requires.left) in
    omega (arith, c.requires.twiddles, ap (λ n. m * n) (stride_of_two k s bound), twiddle_below k (s + 1) more m (omega (arith, l, double_next s, blocks_is k s bound c.requires.left)))

pub returns-else-left-eq1-clause-values : goal.returns-else-left-eq1-clause-values
returns-else-left-eq1-clause-values g c root xs table turn known =
    let F = g.F.Field.ops in
    let K = g.EF.Field.ops in
    let lift = g.EF.ExtensionField.lift in
    let R = g.met.F.Field.laws.ring in
    let S = g.met.EF.Field.laws.ring in
    let H = g.met.EF.ExtensionField.lift_law in
    let k = c.args.log_height in
    let s = c.args.done in
    let ts = c.args.twiddles.now in
    let bound = c.requires.log_height in
    let blocks = 1 * 2 ^ s % 2 ^ 64 in
    let stride = 1 * 2 ^ (k - s - 2) % 2 ^ 64 in
    let count = blocks_is k s bound c.requires.left in
    let step = stride_of_two k s bound in
    let more : s + 1 < k = omega (arith, c.if-left-eq1.false, c.requires.left) in
    let After : ℕ → Type 0 = λ n. AfterLayers K (lift root) c.args.width k n xs c.two_layers.new.target in
    let next : s + 1 + 1 ≡ s + 2 = omega arith in
    subst After next
    (two_layers K S (lift root) k (lifted_turn F K lift R S H root (2 ^ (k - 1)) turn) c.args.width s xs
    c.args.source.now c.two_layers.new.target blocks stride (stride * c.args.width) count refl known
    (λ m. lift (get_or ts (m * stride) F.zero)) more step
    (λ m l. lifted_power F K lift R S H root _ (m * stride) ts F.zero table
    (omega (arith, ap (λ n. m * n) step, twiddle_below k (s + 1) more m (omega (arith, l, double_next s, count)))))
    (λ m j l q. c.two_layers.ensures.first m j K.zero F.zero l q)
    (λ m j l q. c.two_layers.ensures.second m j K.zero F.zero l q)
    (λ m j l q. c.two_layers.ensures.third m j K.zero F.zero l q)
    (λ m j l q. c.two_layers.ensures.fourth m j K.zero F.zero l q))
