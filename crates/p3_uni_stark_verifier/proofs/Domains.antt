-- How many domains there are.
use Rattle.std.proofs.Common.{◌≡◌, ℕ, ◌<◌, ◌^◌, List, length, map, sym, ap, ◌∙◌, arith}
use Rattle.std.proofs.lemmas.List.{length-map}
use Rattle.std.proofs.lemmas.Nat.{pow_pos}
use Rattle.algebra.specs.Polynomial.{tabulate}
use Rattle.algebra.proofs.Lists.{length-tabulate}

pub counted : {D A : Type 0} (domains : List D) (f : D → A) (n : ℕ) (g : ℕ → A)
    → map f domains ≡ tabulate n g → length domains ≡ n
counted domains f n g e = sym (length-map domains f) ∙ ap length e ∙ length-tabulate n g

pub some_power : {X : Type 0} (xs : List X) (k : ℕ) → length xs ≡ 2 ^ k → 0 < length xs
some_power xs k e = omega (arith, e, pow_pos k)
