-- Steps, pushed one after another.
use Rattle.std.proofs.Common.{◌≡◌, List, [], ◌∷◌, ◌++◌, map, ap, ◌∙◌}
use Rattle.std.proofs.lemmas.List.{map-append}
use Rattle.p3_challenger_fs.specs.declared.pattern.Interaction.{Interaction}
use Rattle.p3_challenger_fs.specs.Pattern.{Step, step_of}

-- a step behind others
pub pushed : (a b : List Interaction) (x : Interaction) (s : Step) → b ≡ a ++ x ∷ []
    → step_of x ≡ s → map step_of b ≡ map step_of a ++ s ∷ []
pushed a b x s is step = ap (λ xs. map step_of xs) is ∙ map-append step_of a (x ∷ []) ∙ ap (λ t. map step_of a ++ t ∷ []) step
