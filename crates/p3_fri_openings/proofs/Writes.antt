-- A list that was lent, written in place and given back.
use Rattle.std.proofs.Common.{◌≡◌, ℕ, List, ◌++◌, length, take, drop, ap, ◌∙◌, arith}
use Rattle.std.proofs.Math.Seq.{drop-length}
use Rattle.std.proofs.lemmas.List.{take_all, append-nil}

module _ {X : Type 0} where
  -- a list that was lent whole and given back
  pub given_back : (n : ℕ) (news items : List X) → length news ≡ length items → n ≡ length items
      → take n (news ++ drop (length news) items) ≡ news
  given_back n news items e m =
      ap (λ k. take n (news ++ drop k items)) e
      ∙ ap (λ zs. take n (news ++ zs)) (drop-length items)
      ∙ ap (λ zs. take n zs) (append-nil news)
      ∙ take_all n news (omega (arith, e, m))
