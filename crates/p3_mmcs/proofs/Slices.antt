-- Vectors that are read as slices, by place.
use Rattle.std.proofs.Common.{◌≡◌, ℕ, ◌<◌, List, [], length, get_or, ap, sym, ◌∙◌}
use Rattle.std.specs.declared.vec.Vec.{Vec}
use Rattle.algebra.specs.Nested.{lists, nested}
use Rattle.algebra.proofs.Nested.{lists_at, nested_at}

module _ {T A : Type 0} where
  pub lists_read : (vectors : List (Vec T A)) (k : ℕ) (vector : Vec T A) (slice : List T)
      → k < length vectors → vector ≡ get_or vectors k vector → slice ≡ vector.items
      → get_or (lists vectors) k [] ≡ slice
  lists_read vectors k vector slice within is value =
      lists_at vectors k vector within ∙ ap (λ v. v.items) (sym is) ∙ sym value

module _ {T A B : Type 0} where
  pub nested_read : (vectors : List (Vec (Vec T A) B)) (k : ℕ) (vector : Vec (Vec T A) B)
      (slice : List (Vec T A)) → k < length vectors → vector ≡ get_or vectors k vector
      → slice ≡ vector.items → get_or (nested vectors) k [] ≡ lists slice
  nested_read vectors k vector slice within is value =
      nested_at vectors k vector within ∙ ap (λ v. lists v.items) (sym is) ∙ ap lists (sym value)
