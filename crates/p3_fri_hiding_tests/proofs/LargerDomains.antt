-- Domains twice as large as others.
use Rattle.std.proofs.Common.{◌≡◌, ◌+◌, ◌*◌, ◌^◌, ℕ, List, [], ◌∷◌, map, ap, ◌∙◌, sym, add-one}
use Rattle.std.proofs.Math.Nat.{pow-succ'}

module _ {D : Type 0} (log_size : D → ℕ) where
  twice : (d e : D) → log_size d ≡ log_size e + 1 → 2 ^ log_size d ≡ 2 * 2 ^ log_size e
  twice d e larger =
      ap (λ n. 2 ^ n) (larger ∙ add-one (log_size e)) ∙ pow-succ' 2 (log_size e)

  module _ {M : Type 0} where
    pub both_twice : (a b : D × M) (c d : D) (es : List (D × M)) (ds : List D)
        → es ≡ a ∷ b ∷ [] → ds ≡ c ∷ d ∷ []
        → log_size c ≡ log_size a.0 + 1 → log_size d ≡ log_size b.0 + 1
        → map (λ d. 2 ^ log_size d) ds ≡ map (λ e. 2 * 2 ^ log_size e.0) es
    both_twice a b c d es ds es_are ds_are of_a of_b =
        let size : D → ℕ = λ d. 2 ^ log_size d in
        let doubled : D × M → ℕ = λ e. 2 * 2 ^ log_size e.0 in
        ap (λ xs. map size xs) ds_are
        ∙ ap (λ n. n ∷ size d ∷ []) (twice c a.0 of_a)
        ∙ ap (λ n. doubled a ∷ n ∷ []) (twice d b.0 of_b)
        ∙ sym (ap (λ xs. map doubled xs) es_are)
