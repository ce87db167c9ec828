-- Values written to places of a list, row after row.
use Rattle.std.proofs.Common.{◌≡◌, ℕ, ◌+◌, ◌*◌, ◌<◌, ◌⊎◌, List, get_or, sym, ap, ◌∙◌, arith, inl, inr}
use Rattle.p3_periodic.specs.Writes.{Meet, MeetInRows}

module _ {A : Type 0} (target : ℕ → A) where
  -- one row more
  pub rows_one_more : (width i start : ℕ) (places : List ℕ) (first before after : List A)
      → start ≡ i * width → MeetInRows target width i places first before
      → Meet target start places before after → MeetInRows target width (i + 1) places first after
  rows_one_more width i start places first before after e rows row = record {
    kept = λ place m. row.kept place (rows.kept place m);
    met = λ k c b l. elim (which k b) [
      | inl below ↦ row.kept (k * width + get_or places c 0) (rows.met k c below l)
      | inr same ↦
          λ d. ap (λ n. get_or after (n + get_or places c 0) d)
          (ap (λ n. n * width) same ∙ sym e)
          ∙ row.met c l d
          ∙ ap (λ n. target (n + get_or places c 0)) (e ∙ ap (λ n. n * width) (sym same))
    ];
  }
    where
      which : (k : ℕ) → k < i + 1 → (k < i) ⊎ (k ≡ i)
      which k b = grind (arith, b)
