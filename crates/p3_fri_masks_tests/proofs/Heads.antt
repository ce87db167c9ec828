-- What stands first in pairs.
use Rattle.std.proofs.Common.{◌≡◌, List, [], ◌∷◌, map, refl, ap}

pub heads : {D M B : Type 0} (f : D → B) (es : List (D × M))
    → map f (map (λ e. e.0) es) ≡ map (λ e. f e.0) es
heads f [] = refl
heads f (e ∷ es) = ap (λ xs. f e.0 ∷ xs) (heads f es)
