use Rattle.std.proofs.Common.{◌≡◌, ◌≤◌, ◌<◌, ◌+◌, ◌-◌, ◌*◌, ◌^◌, ◌++◌, length, replicate, subst, sym, ap, ◌∙◌, arith}
use Rattle.algebra.specs.RecombinedQuotients.{masked_chunk}
use Rattle.p3_field_core.specs.Coset.{coset_points}
use Rattle.p3_matrix.specs.Matrix.{rows}
use Rattle.p3_dft.specs.Evaluations.{AreEvaluations}
use Rattle.p3_dft.proofs.Columns.{Holds, length-held}
use Rattle.p3_dft.proofs.Batches.{held_by_values, held_by_new, whole_columns}
use Rattle.p3_dft.proofs.Extensions.{size_of_product}
use Rattle.p3_dft.proofs.Sizes.{power_within}
use Rattle.p3_fri_masks.specs.MaskedChunks.{HoldsMaskedChunk}
use Rattle.p3_fri_masks.proofs.MaskedWords.{room_for_mask, length-masked_and_padded, holds_masked_chunk}
use Rattle.std.proofs.lemmas.Result.{IfOk-from_err}
use Rattle.p3_fri_masks.proofs.extension.masked_extension.Goals as goal

pub overflow_add-log_twice : goal.overflow_add-log_twice
overflow_add-log_twice g c =
    omega (arith, g.met.F.TwoAdicField.two_adicity_law, c.requires.within, c.log_size-log_twice.ensures)

pub overflow_add-log_words : goal.overflow_add-log_words
overflow_add-log_words g c =
    omega (arith, g.met.F.TwoAdicField.two_adicity_law, c.requires.within, c.log_size-log_twice.ensures)

pub overflow_shl-log_words : goal.overflow_shl-log_words
overflow_shl-log_words g c =
    omega (arith, g.met.F.TwoAdicField.two_adicity_law, c.requires.within, c.log_size-log_twice.ensures)

pub coset_idft_batch-requires-clause-power_of_two : goal.coset_idft_batch-requires-clause-power_of_two
coset_idft_batch-requires-clause-power_of_two g c =
    (c.args.domain.log_size, c.requires.height)

pub coset_idft_batch-requires-clause-within_two_adicity : goal.coset_idft_batch-requires-clause-within_two_adicity
coset_idft_batch-requires-clause-within_two_adicity g c =
    power_within _ c.args.domain.log_size _ c.requires.height (omega (arith, c.requires.within))

pub masked_coefficients-requires-clause-same : goal.masked_coefficients-requires-clause-same
masked_coefficients-requires-clause-same g c =
    let F = g.F.Field.ops in
    let top = g.F.TwoAdicField.TWO_ADICITY in
    let root = g.F.TwoAdicField.root in
    let k = c.args.domain.log_size in
    let b = c.args.log_blowup in
    let n = k + 1 + b in
    let width = c.width-width.result in
    let columns = c.width-width.ensures.columns in
    let r = c.log_size-log_twice in
    let bound : r.result + 1 + b < 64 = omega (arith, g.met.F.TwoAdicField.two_adicity_law, c.requires.within, r.ensures) in
    let size : c.in-Some.size ≡ 2 ^ n * width = size_of_product (r.result + 1 + b) width c.in-Some.size bound c.in-Some.ensures.1
    ∙ ap (λ m. 2 ^ (m + 1 + b) * width) r.ensures in
    let mask : length c.args.mask.now ≡ 2 ^ k * width = c.requires.mask ∙ ap (λ x. 2 ^ k * x) (sym columns) in
    let room : length c.args.mask.now + length c.args.mask.now ≤ c.in-Some.size = room_for_mask k b width _ _ mask size in
    let C = c.in_ok-coefficients.coefficients in
    let known : AreEvaluations F (coset_points F (root k) c.args.domain.shift k) C c.args.chunk =
    subst (λ x. AreEvaluations F (coset_points F (root k) x k) C c.args.chunk) c.shift.ensures (c.in_ok-coefficients.ensures k c.requires.height) in
    let cs = c.into_values.result.items in
    let given : Holds C width (2 ^ k) cs = held_by_values C width (2 ^ k) c.into_values.result.len cs c.width-width.ensures.some
    c.into_values.result.ok.0 (columns ∙ known.width) (sym c.requires.height ∙ known.height) c.into_values.ensures.rows c.into_values.ensures.len in
    given.size ∙ sym mask

pub masked_coefficients-requires-clause-room : goal.masked_coefficients-requires-clause-room
masked_coefficients-requires-clause-room g c =
    let F = g.F.Field.ops in
    let top = g.F.TwoAdicField.TWO_ADICITY in
    let root = g.F.TwoAdicField.root in
    let k = c.args.domain.log_size in
    let b = c.args.log_blowup in
    let n = k + 1 + b in
    let width = c.width-width.result in
    let columns = c.width-width.ensures.columns in
    let r = c.log_size-log_twice in
    let bound : r.result + 1 + b < 64 = omega (arith, g.met.F.TwoAdicField.two_adicity_law, c.requires.within, r.ensures) in
    let size : c.in-Some.size ≡ 2 ^ n * width = size_of_product (r.result + 1 + b) width c.in-Some.size bound c.in-Some.ensures.1
    ∙ ap (λ m. 2 ^ (m + 1 + b) * width) r.ensures in
    let mask : length c.args.mask.now ≡ 2 ^ k * width = c.requires.mask ∙ ap (λ x. 2 ^ k * x) (sym columns) in
    let room : length c.args.mask.now + length c.args.mask.now ≤ c.in-Some.size = room_for_mask k b width _ _ mask size in
    room

pub new-padded-requires-clause-whole_rows : goal.new-padded-requires-clause-whole_rows
new-padded-requires-clause-whole_rows g c =
    let F = g.F.Field.ops in
    let top = g.F.TwoAdicField.TWO_ADICITY in
    let root = g.F.TwoAdicField.root in
    let k = c.args.domain.log_size in
    let b = c.args.log_blowup in
    let n = k + 1 + b in
    let width = c.width-width.result in
    let columns = c.width-width.ensures.columns in
    let r = c.log_size-log_twice in
    let bound : r.result + 1 + b < 64 = omega (arith, g.met.F.TwoAdicField.two_adicity_law, c.requires.within, r.ensures) in
    let size : c.in-Some.size ≡ 2 ^ n * width = size_of_product (r.result + 1 + b) width c.in-Some.size bound c.in-Some.ensures.1
    ∙ ap (λ m. 2 ^ (m + 1 + b) * width) r.ensures in
    let mask : length c.args.mask.now ≡ 2 ^ k * width = c.requires.mask ∙ ap (λ x. 2 ^ k * x) (sym columns) in
    let room : length c.args.mask.now + length c.args.mask.now ≤ c.in-Some.size = room_for_mask k b width _ _ mask size in
    let C = c.in_ok-coefficients.coefficients in
    let known : AreEvaluations F (coset_points F (root k) c.args.domain.shift k) C c.args.chunk =
    subst (λ x. AreEvaluations F (coset_points F (root k) x k) C c.args.chunk) c.shift.ensures (c.in_ok-coefficients.ensures k c.requires.height) in
    let cs = c.into_values.result.items in
    let given : Holds C width (2 ^ k) cs = held_by_values C width (2 ^ k) c.into_values.result.len cs c.width-width.ensures.some
    c.into_values.result.ok.0 (columns ∙ known.width) (sym c.requires.height ∙ known.height) c.into_values.ensures.rows c.into_values.ensures.len in
    let ps = c.in_ok-masked.masked.items in
    let rest = c.in-Some.size - (length c.args.mask.now + length c.args.mask.now) in
    let are : ps ≡ masked_chunk F c.args.domain.shift k cs c.args.mask.now ++ replicate rest F.zero = c.in_ok-masked.ensures in
    let long : length ps ≡ 2 ^ n * width = ap length are
    ∙ length-masked_and_padded F g.met.F.Field.laws.ring c.args.domain.shift k width c.in-Some.size cs c.args.mask.now given.size mask room ∙ size in
    whole_columns c.in_ok-masked.masked.len (2 ^ n) width (c.in_ok-masked.masked.ok.0 ∙ long)

pub coset_dft_batch-requires-clause-power_of_two : goal.coset_dft_batch-requires-clause-power_of_two
coset_dft_batch-requires-clause-power_of_two g c =
    let F = g.F.Field.ops in
    let top = g.F.TwoAdicField.TWO_ADICITY in
    let root = g.F.TwoAdicField.root in
    let k = c.args.domain.log_size in
    let b = c.args.log_blowup in
    let n = k + 1 + b in
    let width = c.width-width.result in
    let columns = c.width-width.ensures.columns in
    let r = c.log_size-log_twice in
    let bound : r.result + 1 + b < 64 = omega (arith, g.met.F.TwoAdicField.two_adicity_law, c.requires.within, r.ensures) in
    let size : c.in-Some.size ≡ 2 ^ n * width = size_of_product (r.result + 1 + b) width c.in-Some.size bound c.in-Some.ensures.1
    ∙ ap (λ m. 2 ^ (m + 1 + b) * width) r.ensures in
    let mask : length c.args.mask.now ≡ 2 ^ k * width = c.requires.mask ∙ ap (λ x. 2 ^ k * x) (sym columns) in
    let room : length c.args.mask.now + length c.args.mask.now ≤ c.in-Some.size = room_for_mask k b width _ _ mask size in
    let C = c.in_ok-coefficients.coefficients in
    let known : AreEvaluations F (coset_points F (root k) c.args.domain.shift k) C c.args.chunk =
    subst (λ x. AreEvaluations F (coset_points F (root k) x k) C c.args.chunk) c.shift.ensures (c.in_ok-coefficients.ensures k c.requires.height) in
    let cs = c.into_values.result.items in
    let given : Holds C width (2 ^ k) cs = held_by_values C width (2 ^ k) c.into_values.result.len cs c.width-width.ensures.some
    c.into_values.result.ok.0 (columns ∙ known.width) (sym c.requires.height ∙ known.height) c.into_values.ensures.rows c.into_values.ensures.len in
    let ps = c.in_ok-masked.masked.items in
    let rest = c.in-Some.size - (length c.args.mask.now + length c.args.mask.now) in
    let are : ps ≡ masked_chunk F c.args.domain.shift k cs c.args.mask.now ++ replicate rest F.zero = c.in_ok-masked.ensures in
    let long : length ps ≡ 2 ^ n * width = ap length are
    ∙ length-masked_and_padded F g.met.F.Field.laws.ring c.args.domain.shift k width c.in-Some.size cs c.args.mask.now given.size mask room ∙ size in
    let M = c.new-padded.result in
    let made : Holds M width (2 ^ n) ps = held_by_new M width (2 ^ n) c.in_ok-masked.masked.len ps c.width-width.ensures.some
    c.in_ok-masked.masked.ok.0 c.new-padded.ensures.rows c.new-padded.ensures.width (c.in_ok-masked.masked.ok.0 ∙ long) in
    let tall : length (rows M) ≡ 2 ^ n = length-held F M width (2 ^ n) ps made in
    (n, tall)

pub coset_dft_batch-requires-clause-within_two_adicity : goal.coset_dft_batch-requires-clause-within_two_adicity
coset_dft_batch-requires-clause-within_two_adicity g c =
    let F = g.F.Field.ops in
    let top = g.F.TwoAdicField.TWO_ADICITY in
    let root = g.F.TwoAdicField.root in
    let k = c.args.domain.log_size in
    let b = c.args.log_blowup in
    let n = k + 1 + b in
    let width = c.width-width.result in
    let columns = c.width-width.ensures.columns in
    let r = c.log_size-log_twice in
    let bound : r.result + 1 + b < 64 = omega (arith, g.met.F.TwoAdicField.two_adicity_law, c.requires.within, r.ensures) in
    let size : c.in-Some.size ≡ 2 ^ n * width = size_of_product (r.result + 1 + b) width c.in-Some.size bound c.in-Some.ensures.1
    ∙ ap (λ m. 2 ^ (m + 1 + b) * width) r.ensures in
    let mask : length c.args.mask.now ≡ 2 ^ k * width = c.requires.mask ∙ ap (λ x. 2 ^ k * x) (sym columns) in
    let room : length c.args.mask.now + length c.args.mask.now ≤ c.in-Some.size = room_for_mask k b width _ _ mask size in
    let C = c.in_ok-coefficients.coefficients in
    let known : AreEvaluations F (coset_points F (root k) c.args.domain.shift k) C c.args.chunk =
    subst (λ x. AreEvaluations F (coset_points F (root k) x k) C c.args.chunk) c.shift.ensures (c.in_ok-coefficients.ensures k c.requires.height) in
    let cs = c.into_values.result.items in
    let given : Holds C width (2 ^ k) cs = held_by_values C width (2 ^ k) c.into_values.result.len cs c.width-width.ensures.some
    c.into_values.result.ok.0 (columns ∙ known.width) (sym c.requires.height ∙ known.height) c.into_values.ensures.rows c.into_values.ensures.len in
    let ps = c.in_ok-masked.masked.items in
    let rest = c.in-Some.size - (length c.args.mask.now + length c.args.mask.now) in
    let are : ps ≡ masked_chunk F c.args.domain.shift k cs c.args.mask.now ++ replicate rest F.zero = c.in_ok-masked.ensures in
    let long : length ps ≡ 2 ^ n * width = ap length are
    ∙ length-masked_and_padded F g.met.F.Field.laws.ring c.args.domain.shift k width c.in-Some.size cs c.args.mask.now given.size mask room ∙ size in
    let M = c.new-padded.result in
    let made : Holds M width (2 ^ n) ps = held_by_new M width (2 ^ n) c.in_ok-masked.masked.len ps c.width-width.ensures.some
    c.in_ok-masked.masked.ok.0 c.new-padded.ensures.rows c.new-padded.ensures.width (c.in_ok-masked.masked.ok.0 ∙ long) in
    let tall : length (rows M) ≡ 2 ^ n = length-held F M width (2 ^ n) ps made in
    power_within _ n top tall c.requires.within

pub bit_reverse_rows-requires : goal.bit_reverse_rows-requires
bit_reverse_rows-requires g c =
    let F = g.F.Field.ops in
    let top = g.F.TwoAdicField.TWO_ADICITY in
    let root = g.F.TwoAdicField.root in
    let k = c.args.domain.log_size in
    let b = c.args.log_blowup in
    let n = k + 1 + b in
    let width = c.width-width.result in
    let columns = c.width-width.ensures.columns in
    let r = c.log_size-log_twice in
    let bound : r.result + 1 + b < 64 = omega (arith, g.met.F.TwoAdicField.two_adicity_law, c.requires.within, r.ensures) in
    let size : c.in-Some.size ≡ 2 ^ n * width = size_of_product (r.result + 1 + b) width c.in-Some.size bound c.in-Some.ensures.1
    ∙ ap (λ m. 2 ^ (m + 1 + b) * width) r.ensures in
    let mask : length c.args.mask.now ≡ 2 ^ k * width = c.requires.mask ∙ ap (λ x. 2 ^ k * x) (sym columns) in
    let room : length c.args.mask.now + length c.args.mask.now ≤ c.in-Some.size = room_for_mask k b width _ _ mask size in
    let C = c.in_ok-coefficients.coefficients in
    let known : AreEvaluations F (coset_points F (root k) c.args.domain.shift k) C c.args.chunk =
    subst (λ x. AreEvaluations F (coset_points F (root k) x k) C c.args.chunk) c.shift.ensures (c.in_ok-coefficients.ensures k c.requires.height) in
    let cs = c.into_values.result.items in
    let given : Holds C width (2 ^ k) cs = held_by_values C width (2 ^ k) c.into_values.result.len cs c.width-width.ensures.some
    c.into_values.result.ok.0 (columns ∙ known.width) (sym c.requires.height ∙ known.height) c.into_values.ensures.rows c.into_values.ensures.len in
    let ps = c.in_ok-masked.masked.items in
    let rest = c.in-Some.size - (length c.args.mask.now + length c.args.mask.now) in
    let are : ps ≡ masked_chunk F c.args.domain.shift k cs c.args.mask.now ++ replicate rest F.zero = c.in_ok-masked.ensures in
    let long : length ps ≡ 2 ^ n * width = ap length are
    ∙ length-masked_and_padded F g.met.F.Field.laws.ring c.args.domain.shift k width c.in-Some.size cs c.args.mask.now given.size mask room ∙ size in
    let M = c.new-padded.result in
    let made : Holds M width (2 ^ n) ps = held_by_new M width (2 ^ n) c.in_ok-masked.masked.len ps c.width-width.ensures.some
    c.in_ok-masked.masked.ok.0 c.new-padded.ensures.rows c.new-padded.ensures.width (c.in_ok-masked.masked.ok.0 ∙ long) in
    let tall : length (rows M) ≡ 2 ^ n = length-held F M width (2 ^ n) ps made in
    let V = c.in_ok-words.words in
    let evaluated : AreEvaluations F (coset_points F (root n) g.F.Field.GENERATOR n) M V =
    subst (λ x. AreEvaluations F (coset_points F (root n) x n) M V) c.GENERATOR.ensures (c.in_ok-words.ensures n tall) in
    record { power_of_two = (n, evaluated.height ∙ tall) }

pub returns : goal.returns
returns g c =
    let F = g.F.Field.ops in
    let top = g.F.TwoAdicField.TWO_ADICITY in
    let root = g.F.TwoAdicField.root in
    let k = c.args.domain.log_size in
    let b = c.args.log_blowup in
    let n = k + 1 + b in
    let width = c.width-width.result in
    let columns = c.width-width.ensures.columns in
    let r = c.log_size-log_twice in
    let bound : r.result + 1 + b < 64 = omega (arith, g.met.F.TwoAdicField.two_adicity_law, c.requires.within, r.ensures) in
    let size : c.in-Some.size ≡ 2 ^ n * width = size_of_product (r.result + 1 + b) width c.in-Some.size bound c.in-Some.ensures.1
    ∙ ap (λ m. 2 ^ (m + 1 + b) * width) r.ensures in
    let mask : length c.args.mask.now ≡ 2 ^ k * width = c.requires.mask ∙ ap (λ x. 2 ^ k * x) (sym columns) in
    let room : length c.args.mask.now + length c.args.mask.now ≤ c.in-Some.size = room_for_mask k b width _ _ mask size in
    let C = c.in_ok-coefficients.coefficients in
    let known : AreEvaluations F (coset_points F (root k) c.args.domain.shift k) C c.args.chunk =
    subst (λ x. AreEvaluations F (coset_points F (root k) x k) C c.args.chunk) c.shift.ensures (c.in_ok-coefficients.ensures k c.requires.height) in
    let cs = c.into_values.result.items in
    let given : Holds C width (2 ^ k) cs = held_by_values C width (2 ^ k) c.into_values.result.len cs c.width-width.ensures.some
    c.into_values.result.ok.0 (columns ∙ known.width) (sym c.requires.height ∙ known.height) c.into_values.ensures.rows c.into_values.ensures.len in
    let ps = c.in_ok-masked.masked.items in
    let rest = c.in-Some.size - (length c.args.mask.now + length c.args.mask.now) in
    let are : ps ≡ masked_chunk F c.args.domain.shift k cs c.args.mask.now ++ replicate rest F.zero = c.in_ok-masked.ensures in
    let long : length ps ≡ 2 ^ n * width = ap length are
    ∙ length-masked_and_padded F g.met.F.Field.laws.ring c.args.domain.shift k width c.in-Some.size cs c.args.mask.now given.size mask room ∙ size in
    let M = c.new-padded.result in
    let made : Holds M width (2 ^ n) ps = held_by_new M width (2 ^ n) c.in_ok-masked.masked.len ps c.width-width.ensures.some
    c.in_ok-masked.masked.ok.0 c.new-padded.ensures.rows c.new-padded.ensures.width (c.in_ok-masked.masked.ok.0 ∙ long) in
    let tall : length (rows M) ≡ 2 ^ n = length-held F M width (2 ^ n) ps made in
    let V = c.in_ok-words.words in
    let evaluated : AreEvaluations F (coset_points F (root n) g.F.Field.GENERATOR n) M V =
    subst (λ x. AreEvaluations F (coset_points F (root n) x n) M V) c.GENERATOR.ensures (c.in_ok-words.ensures n tall) in
    subst (λ x. HoldsMaskedChunk F root k g.F.Field.GENERATOR b c.args.domain.shift x (rows c.args.chunk) c.args.mask.now c.bit_reverse_rows.result) columns
    (holds_masked_chunk F g.met.F.Field.laws top root g.met.F.TwoAdicField.roots_law c.args.domain.shift
    g.F.Field.GENERATOR c.args.domain.nonzero k b c.requires.within c.args.chunk C M V
    c.bit_reverse_rows.result width rest c.args.mask.now cs ps c.requires.height known given made are mask
    evaluated (c.bit_reverse_rows.ensures.rows n (evaluated.height ∙ tall)) c.bit_reverse_rows.ensures.width)

-- where nothing is answered nothing is said of the answer
pub returns-in_err-words : goal.returns-in_err-words
returns-in_err-words g c =
    IfOk-from_err c.from_residual-in_err-words.result _ c.from_residual-in_err-words.ensures.0
