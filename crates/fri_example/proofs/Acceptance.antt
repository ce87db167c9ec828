-- Acceptance as the scheme tells it is acceptance as the example tells it.
use Rattle.std.proofs.Common.{◌≡◌, ℕ, List, [], ◌∷◌, ap, subst, ◌∙◌}
use Rattle.std.specs.declared.vec.Vec.{Vec}
use Rattle.p3_field.specs.baby_bear.BabyBear.{BabyBear}
use Rattle.p3_field.specs.baby_bear4.BabyBear4.{BabyBear4}
use Rattle.p3_field.specs.BabyBear4.{lift4}
use Rattle.p3_challenger.specs.sha256_challenger.Sha256Challenger.{Sha256Challenger}
use Rattle.p3_challenger.specs.Sha256.{start}
use Rattle.p3_fri_relation.specs.Setting.{Parameters, Proof}
use Rattle.p3_fri_relation.specs.Acceptance.{Accepts}
use Rattle.fri_statement.specs.BabyBear.{statement_absorbed}
use Rattle.fri_example.specs.Opened.{IsAcceptedOpening, opening_parameters, single_statement}
use Rattle.fri_statement.specs.BabyBear.{sha256_setting}

module _ {X Y : Type 0} (b l k : ℕ) (commitment : List ℕ) (z y : BabyBear)
    (proof : Proof BabyBear BabyBear4 (List ℕ) (Vec (Vec (List ℕ) X) Y) (Vec (Vec (List ℕ) X) Y))
  where
    -- of a domain of `2^n` points
    abbrev Holds : Parameters → (n : ℕ) → (point value : BabyBear4) → Sha256Challenger BabyBear → Type 0
    Holds p n point value c = Accepts sha256_setting p ((record {
      commitment = commitment;
      matrices = (record {
        domain = n;
        points = (record { point = point; values = value ∷ [] }) ∷ [];
      }) ∷ [];
    }) ∷ []) proof c

    abbrev bound : Parameters → (shift n : ℕ) → BabyBear4 → Sha256Challenger BabyBear
    bound p shift n point = statement_absorbed start (single_statement p commitment shift n point)

    pub accepted : (p q : Parameters) (shift n : ℕ) (point value : BabyBear4) (c : Sha256Challenger BabyBear)
        → p ≡ opening_parameters b l → q ≡ opening_parameters b l → shift ≡ 1 → n ≡ k
        → point ≡ lift4 z → value ≡ lift4 y → c ≡ bound q shift n point → Holds p n point value c
        → IsAcceptedOpening b l k commitment z y proof
    accepted p q shift n point value c of_p of_q unshifted sized lifted valued absorbed holds =
        let o = opening_parameters b l in
        let begun = absorbed ∙ ap (λ r. bound r shift n point) of_q
        ∙ ap (λ s. bound o s n point) unshifted ∙ ap (λ m. bound o 1 m point) sized
        ∙ ap (λ x. bound o 1 k x) lifted in
        record {
          holds = subst (λ d. Holds o k (lift4 z) (lift4 y) d) begun
              (subst (λ v. Holds o k (lift4 z) v c) valued
              (subst (λ x. Holds o k x value c) lifted
              (subst (λ m. Holds o m point value c) sized
              (subst (λ r. Holds r n point value c) of_p holds))));
        }
