use Rattle.std.proofs.Common.{◌≡◌, ℕ, List, [], ◌∷◌, ◌∙◌, ap, codes}
use Rattle.std.specs.Prelude.{Option}
use Rattle.p3_challenger_fs.specs.Description.{Description}
use Rattle.p3_challenger_fs.specs.Pattern.{Step, pattern_steps}
use Rattle.p3_challenger_fs.specs.Separator.{description}
use Rattle.fri_statement.specs.Hiding.{hiding_steps, hiding_label, hiding_description}
use Rattle.fri_statement.proofs.Pushes.{with_labels}
use Rattle.fri_statement.proofs.hiding.separator_of.Goals as goal

abbrev begun : List Step → Description
begun steps = record { version = 1; name = codes "p3-fri-hiding"; steps = steps; labels = [] }

described : (n : ℕ) (i : Option ℕ) (d after : Description) (steps : List Step) (label : List ℕ)
    → d ≡ begun steps → steps ≡ hiding_steps → label ≡ hiding_label n i
    → after ≡ with_labels d (label ∷ []) → after ≡ hiding_description n i
described n i d after steps label begins played labelled added =
    added ∙ ap (λ l. with_labels d (l ∷ [])) labelled
    ∙ ap (λ b. with_labels b (hiding_label n i ∷ [])) (begins ∙ ap begun played)

pub returns : goal.returns
returns c =
    described c.args.num_random_codewords c.args.preprocessing (description c.new-separator.result)
    (description c.instance.new.self) (pattern_steps c.in_ok-pattern.pattern) c.deref.result.now
    c.new-separator.ensures c.in_ok-pattern.ensures (c.deref.ensures.value ∙ c.in_ok-label.ensures)
    c.in_ok-instance.ensures.ok
