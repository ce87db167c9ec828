-- Words of falling heights, made one after another.
use Rattle.std.proofs.Common.{◌≡◌, ℕ, ◌+◌, ◌^◌, ◌<◌, List, [], ◌∷◌, ◌++◌, length, get_or, take}
use Rattle.std.proofs.Common.{sym, subst}
use Rattle.std.specs.declared.vec.Vec.{Vec}
use Rattle.std.proofs.lemmas.List.{take_more, map-append}
use Rattle.algebra.specs.Nested.{lists}
use Rattle.algebra.proofs.Lists.{all_zip-push}
use Rattle.p3_fri_prover.specs.Inputs.{HaveHeights}

module _ {E A : Type 0} where
  pub one_more : (heights : List ℕ) (words : List (Vec E A)) (i : ℕ) (word : Vec E A)
      → i < length heights → length word.items ≡ 2 ^ get_or heights i 0
      → HaveHeights (take i heights) (lists words)
      → HaveHeights (take (i + 1) heights) (lists (words ++ word ∷ []))
  one_more heights words i word within size have =
      subst (λ hs. HaveHeights hs (lists (words ++ word ∷ [])))
      (sym (take_more heights i 0 within))
      (subst (λ ws. HaveHeights (take i heights ++ get_or heights i 0 ∷ []) ws) (sym pushed)
      (all_zip-push (λ h w. length w ≡ 2 ^ h) (take i heights) (lists words) (get_or heights i 0)
      word.items have size))
    where
      pushed : lists (words ++ word ∷ []) ≡ lists words ++ word.items ∷ []
      pushed = map-append (λ (v : Vec E A). v.items) words (word ∷ [])
