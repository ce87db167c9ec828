-- Requests of which the first may be for preprocessing, looked at one after another.
use Rattle.std.proofs.Common.{◌≡◌, ◌<◌, ◌≤◌, ◌+◌, ℕ, List, [], ◌∷◌, length, drop, get_or, All}
use Rattle.std.proofs.Common.{false, refl, sym, subst, arith, add-one, drop-cons}
use Rattle.std.specs.Prelude.{Bool}
use Rattle.std.proofs.lemmas.List.{at_drop_all}
use Rattle.std.proofs.lemmas.List.Elements.{All-nil, All-cons}
use Rattle.p3_matrix.specs.declared.dense.RowMajorMatrix.{RowMajorMatrix}
use Rattle.p3_pcs.specs.declared.requests.OpeningRequest.{OpeningRequest}
use Rattle.p3_fri_hiding_openings.specs.declared.data.HidingFriPcsProverData.{
  HidingFriPcsProverData,
}
use Rattle.p3_fri_hiding_tests.specs.Openable.{IsAsked, AreAsked, AreFresh}

module _ {T F E : Type 0} (codewords : ℕ) (committed : T → List (RowMajorMatrix F)) where
  -- with the next request, those from it on are as they are to be
  pub from_next : (b : Bool) (rs : List (OpeningRequest (HidingFriPcsProverData T) E)) (i : ℕ)
      (r : OpeningRequest (HidingFriPcsProverData T) E) → i < length rs → r ≡ get_or rs i r
      → IsAsked codewords committed b r → AreAsked codewords committed false (drop (i + 1) rs)
      → AreAsked codewords committed b (drop i rs)
  unfolding AreAsked
  from_next b rs i r below is asked others =
      let step : drop i rs ≡ get_or rs i r ∷ drop (i + 1) rs = rw (add-one, drop-cons rs i r) in
      subst (λ qs. AreAsked codewords committed b qs) (sym step)
      (subst (λ q. IsAsked codewords committed b q) is asked, others)

  pub from_end : (b : Bool) (rs : List (OpeningRequest (HidingFriPcsProverData T) E)) (i : ℕ)
      → length rs ≤ i → AreAsked codewords committed b (drop i rs)
  unfolding AreAsked
  from_end b rs i end =
      subst (λ qs. AreAsked codewords committed b qs) (sym (at_drop_all (λ qs. qs) rs i end)) tt

  each : (rs : List (OpeningRequest (HidingFriPcsProverData T) E))
      → AreAsked codewords committed false rs → All (λ r. IsAsked codewords committed false r) rs
  unfolding AreAsked
  each [] asked = All-nil (λ r. IsAsked codewords committed false r)
  each (r ∷ rs) asked =
      All-cons (λ r. IsAsked codewords committed false r) r rs asked.0 (each rs asked.1)

  pub are_fresh : (b : Bool) (rs : List (OpeningRequest (HidingFriPcsProverData T) E))
      → 0 < length rs → AreAsked codewords committed b rs → AreFresh codewords b committed rs
  unfolding AreAsked
  are_fresh b [] some asked = absurd (omega (arith, some))
  are_fresh b (r ∷ rs) some asked = record {
    first = r;
    others = rs;
    are = refl;
    first_fresh = asked.0.fresh;
    first_counted = asked.0.counted;
    others_fresh = λ k d below. (each rs asked.1 k d below).fresh;
    others_counted = λ k d below. (each rs asked.1 k d below).counted;
  }
