use Rattle.std.proofs.Common.{◌++◌, ◌∷◌, [], ap, ◌∙◌}
use Rattle.std.specs.Prelude.{ℕ, vec_len}
use Rattle.fri_flat.specs.Flat.{words, number, numbers, elements}
use Rattle.fri_flat.proofs.Parts.{four_parts}
use Rattle.fri_flat.proofs.records.MatrixFlat.write.Goals as goal

pub returns : goal.returns
returns c =
    let l = c.args.layout in
    let m = c.args.matrix.now in
    let sizes = λ (points : ℕ). words (m.domain.log_size ∷ m.width ∷ points ∷ []) in
    four_parts c.args.out.now.items (number l m.domain.shift) (sizes (vec_len m.points))
    (numbers l m.values.items) (elements l m.points.items) c.push_number.new.out.items
    c.push_counts.new.out.items c.push_numbers.new.out.items c.push_elements.new.out.items
    c.in_ok-push_number.ensures
    (c.in_ok-push_counts.ensures
    ∙ ap (λ (n : ℕ). c.push_number.new.out.items ++ sizes n) c.len.ensures)
    (cc (c.in_ok-push_numbers.ensures, c.deref.ensures.value))
    (cc (c.in_ok-push_elements.ensures.form, c.deref-2.ensures.value))
