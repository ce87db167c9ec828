-- Indices that are drawn one after another.
use Rattle.std.proofs.Common.{◌≡◌, ℕ, zero, suc, ◌^◌, ◌<◌, List, length, refl, ap, ◌∙◌}
use Rattle.std.proofs.Common.{subst, sym}
use Rattle.std.specs.List.{All}
use Rattle.std.proofs.lemmas.List.Elements.{All-nil, All-cons}
use Rattle.p3_challenger_core.specs.Run.{After, draws}
use Rattle.p3_fri_transcript.specs.Steps.{FriNumbers}
use Rattle.p3_fri_transcript.specs.Indices.{AreIndices}

module _ {C : Type 0} (draw : C → After C ℕ) where
  pub length-draws : (c : C) (n : ℕ) → length (draws draw c n).value ≡ n
  length-draws c zero = refl
  length-draws c (suc n) = ap suc (length-draws (draw c).state n)

  draws_below : (bits : ℕ) → ((c : C) → (draw c).value < 2 ^ bits) → (c : C) (n : ℕ)
      → All (λ index. index < 2 ^ bits) (draws draw c n).value
  draws_below bits below c zero = All-nil (λ index. index < 2 ^ bits)
  draws_below bits below c (suc n) =
      let P : ℕ → Type 0 = λ index. index < 2 ^ bits in
      All-cons P (draw c).value (draws draw (draw c).state n).value (below c)
      (draws_below bits below (draw c).state n)

  pub draws_are_indices : (shape : FriNumbers) → ((c : C) → (draw c).value < 2 ^ shape.index_bits)
      → (c : C) (indices : List ℕ) → indices ≡ (draws draw c shape.num_queries).value
      → AreIndices shape indices
  draws_are_indices shape below c indices is = record {
    count = ap length is ∙ length-draws c shape.num_queries;
    below =
        let P : List ℕ → Type 0 = λ xs. All (λ index. index < 2 ^ shape.index_bits) xs in
        subst P (sym is) (draws_below shape.index_bits below c shape.num_queries);
  }
