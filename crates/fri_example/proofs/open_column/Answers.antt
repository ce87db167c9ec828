use Rattle.std.proofs.Common.{◌≡◌, ◌^◌, sym, ap, refl, ◌∙◌, arith}
use Rattle.std.specs.Prelude.{slice_index_or}
use Rattle.algebra.specs.Polynomial.{val}
use Rattle.p3_field.specs.BabyBear.{baby_bear, root, element}
use Rattle.p3_field.specs.BabyBearLaws.{baby_bear_laws}
use Rattle.p3_field.specs.BabyBear4.{lift4, coefficients4}
use Rattle.p3_field.specs.BabyBear4Laws.{baby_bear4_laws, lift4_homomorphism, lift4_constant}
use Rattle.p3_field.specs.baby_bear.BabyBear.{BabyBear}
use Rattle.p3_dft.proofs.Columns.{length-held}
use Rattle.p3_fri_relation.specs.Views.{parameters_of, proof_of}
use Rattle.p3_fri_two_adic.specs.Held.{Extends}
use Rattle.fri_statement.specs.BabyBear.{fields}
use Rattle.p3_fri_extensions.specs.Extension.{FitsDomain, polynomial_on}
use Rattle.fri_example.proofs.Acceptance.{accepted}
use Rattle.fri_example.proofs.Openings.{same_log, value_held, held_value}
use Rattle.algebra.proofs.Lists.{all-one}
use Rattle.fri_example.proofs.open_column.Goals as goal

pub commit_matrix-requires : goal.commit_matrix-requires
commit_matrix-requires c =
    let size = same_log c.len.result c.natural_domain_for_degree-domain.result.log_size c.args.log_size c.natural_domain_for_degree-domain.ensures.size (omega (arith, c.len.ensures, c.requires.size)) in
    let height = length-held baby_bear c.new-matrix.result 1 (2 ^ c.args.log_size) c.args.column.items
    (record { some = omega arith; entries = c.new-matrix.ensures.rows; columns = c.new-matrix.ensures.width; size = omega (arith, c.args.column.ok.0, c.requires.size) }) in
    let blowup : c.new-scheme.result.fri.log_blowup ≡ c.args.log_blowup = ap (λ p. p.log_blowup) c.new-scheme.ensures.parameters ∙ ap (λ p. p.log_blowup) c.parameters.ensures in
    all-one (λ e. FitsDomain 27 c.new-scheme.result.fri.log_blowup e.0.log_size e.1) _
    (c.natural_domain_for_degree-domain.result, c.new-matrix.result) refl
    (record { height = height ∙ ap (λ k. 2 ^ k) (sym size); within = omega (arith, size, blowup, c.requires.height) })

pub returns-clause-value : goal.returns-clause-value
returns-clause-value c =
    let size = same_log c.len.result c.natural_domain_for_degree-domain.result.log_size c.args.log_size c.natural_domain_for_degree-domain.ensures.size (omega (arith, c.len.ensures, c.requires.size)) in
    let value : BabyBear = val baby_bear (polynomial_on baby_bear root (element 1) c.args.log_size c.args.column.items) c.args.point in
    let same : c.in_ok-value.value ≡ lift4 value = value_held (λ m e. Extends fields e.0.shift e.0.log_size e.1 m) _ c.from_base-lifted.result (lift4 value) c.in_ok-value.value _ c.in_ok-commitment.ensures.extends (λ m extends.
    held_value fields baby_bear_laws.ring baby_bear4_laws.ring lift4_homomorphism (element 1) c.args.log_size c.new-matrix.result c.args.column.items
    (record { some = omega arith; entries = c.new-matrix.ensures.rows; columns = c.new-matrix.ensures.width; size = omega (arith, c.args.column.ok.0, c.requires.size) })
    c.args.point m _ _ c.from_base-lifted.result extends
    c.natural_domain_for_degree-domain.ensures.shift size c.from_base-lifted.ensures) c.in_ok-value.ensures.value in
    let read = c.coefficient.ensures ∙ ap (λ w. slice_index_or (coefficients4 w) 0 baby_bear.zero) same ∙ lift4_constant value in
    read

pub returns-clause-accepted : goal.returns-clause-accepted
returns-clause-accepted c =
    let size = same_log c.len.result c.natural_domain_for_degree-domain.result.log_size c.args.log_size c.natural_domain_for_degree-domain.ensures.size (omega (arith, c.len.ensures, c.requires.size)) in
    let value : BabyBear = val baby_bear (polynomial_on baby_bear root (element 1) c.args.log_size c.args.column.items) c.args.point in
    let same : c.in_ok-value.value ≡ lift4 value = value_held (λ m e. Extends fields e.0.shift e.0.log_size e.1 m) _ c.from_base-lifted.result (lift4 value) c.in_ok-value.value _ c.in_ok-commitment.ensures.extends (λ m extends.
    held_value fields baby_bear_laws.ring baby_bear4_laws.ring lift4_homomorphism (element 1) c.args.log_size c.new-matrix.result c.args.column.items
    (record { some = omega arith; entries = c.new-matrix.ensures.rows; columns = c.new-matrix.ensures.width; size = omega (arith, c.args.column.ok.0, c.requires.size) })
    c.args.point m _ _ c.from_base-lifted.result extends
    c.natural_domain_for_degree-domain.ensures.shift size c.from_base-lifted.ensures) c.in_ok-value.ensures.value in
    let read = c.coefficient.ensures ∙ ap (λ w. slice_index_or (coefficients4 w) 0 baby_bear.zero) same ∙ lift4_constant value in
    accepted c.args.log_blowup c.args.log_final_poly_len c.args.log_size c.in_ok-commitment.commitment c.args.point c.coefficient.result (proof_of c.in_ok-value.proof)
    (parameters_of c.commit_matrix.new.scheme.fri) (parameters_of c.parameters-params.result) _ _ _ _ _
    (ap (λ s. parameters_of s.fri) c.commit_matrix.ensures.kept ∙ ap parameters_of c.new-scheme.ensures.parameters ∙ c.parameters.ensures)
    c.parameters-params.ensures (ap (λ x. x.value) c.natural_domain_for_degree-domain.ensures.shift) size c.from_base-lifted.ensures
    (same ∙ ap lift4 (sym read)) c.in_ok-challenger.ensures c.in_ok-value.ensures.accepted
