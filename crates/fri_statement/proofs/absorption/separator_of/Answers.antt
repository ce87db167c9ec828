use Rattle.std.proofs.Common.{◌≡◌, List, [], ◌∷◌, ◌∙◌, ap, map, codes}
use Rattle.std.specs.List.{flat_map}
use Rattle.p3_challenger_fs.specs.Description.{Description}
use Rattle.p3_challenger_fs.specs.Pattern.{Step, pattern_steps}
use Rattle.p3_challenger_fs.specs.Separator.{description}
use Rattle.p3_fri_relation.specs.Views.{parameters_of}
use Rattle.fri_statement.specs.Numbers.{PrimeFields}
use Rattle.fri_statement.specs.Stated.{opened_commitment}
use Rattle.fri_statement.specs.Statement.{Statement, numbers_bytes, parameter_numbers, commitment_labels}
use Rattle.fri_statement.specs.Statement.{statement_labels, statement_steps, statement_description}
use Rattle.fri_statement.proofs.Pushes.{with_labels, labels_more}
use Rattle.fri_statement.proofs.absorption.separator_of.Given as given
use Rattle.fri_statement.proofs.absorption.separator_of.Goals as goal

abbrev begun : List Step → Description
begun steps = record { version = 1; name = codes "p3-fri-statement"; steps = steps; labels = [] }

-- the labels of a statement, added in order
described : (s : Statement) (d d₁ d₂ d₃ : Description) (steps : List Step) → d ≡ begun steps
    → steps ≡ statement_steps → d₁ ≡ with_labels d (s.context ∷ [])
    → d₂ ≡ with_labels d₁ (numbers_bytes (parameter_numbers s.parameters) ∷ [])
    → d₃ ≡ with_labels d₂ (flat_map commitment_labels s.commitments) → d₃ ≡ statement_description s
unfolding statement_labels
described s d d₁ d₂ d₃ steps begins played context parameters commitments =
    labels_more d d₂ d₃ (s.context ∷ numbers_bytes (parameter_numbers s.parameters) ∷ [])
    (flat_map commitment_labels s.commitments)
    (labels_more d d₁ d₂ (s.context ∷ []) (numbers_bytes (parameter_numbers s.parameters) ∷ []) context parameters)
    commitments
    ∙ ap (λ b. with_labels b (statement_labels s)) (begins ∙ ap begun played)

abbrev fields : (g : given.Over) → PrimeFields g.row.F.Denot g.row.EF.Denot
fields g = record {
  base = g.F.Field.ops;
  order = g.F.PrimeField64.ORDER_U64;
  canonical = g.F.PrimeField64.canonical;
  degree = g.EF.ExtensionField.DIMENSION;
  coefficients = g.EF.ExtensionField.coefficients;
  of_coefficients = g.EF.ExtensionField.of_coefficients;
}

pub returns : goal.returns
returns g c =
    described (record {
      context = c.args.context.now;
      parameters = parameters_of c.args.params.now;
      commitments = map (opened_commitment (fields g) (λ d. d.shift) (λ d. d.log_size)) c.args.commitments.now;
    }) (description c.new-separator.result) (description c.instance.new.self) (description c.instance-2.new.self)
    (description c.push_commitments.new.separator) (pattern_steps c.in_ok-pattern.pattern) c.new-separator.ensures c.in_ok-pattern.ensures c.in_ok-instance.ensures.ok
    (c.in_ok-instance-2.ensures.ok
    ∙ ap (λ label. with_labels (description c.instance.new.self) (label ∷ [])) (c.deref.ensures.value ∙ c.in_ok-label.ensures))
    c.in_ok-push_commitments.ensures
