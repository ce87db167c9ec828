-- The bytes of an element that is drawn.
use Rattle.std.proofs.Common.{◌≡◌, ℕ, List, [], ◌++◌, ap, ◌∙◌}
use Rattle.fri_flat.specs.declared.layout.Layout.{Layout}
use Rattle.fri_flat.specs.Flat.{numbers}

-- its numbers after nothing, in a layout that is another's
pub drawn : (l m : Layout) (bytes before ns expected : List ℕ) → bytes ≡ before ++ numbers l ns
    → before ≡ [] → ns ≡ expected → l ≡ m → bytes ≡ numbers m expected
drawn l m bytes before ns expected parts nothing same layouts =
    parts ∙ ap (λ (x : List ℕ). x ++ numbers l ns) nothing
    ∙ ap (λ (x : List ℕ). numbers l x) same ∙ ap (λ (k : Layout). numbers k expected) layouts
