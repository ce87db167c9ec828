-- From the last round to the first: low degree goes back through a round whose challenge isn't bad.
use Rattle.std.proofs.Common.{◌≡◌, ℕ, zero, suc, ◌+◌, ◌-◌, ◌*◌, ◌/◌, ◌%◌, ◌^◌, ◌<◌, ◌≤◌, List, [], ◌∷◌}
use Rattle.std.proofs.Common.{length, take, get_or, refl, sym, ap, ◌∙◌, subst, arith, Some, inl, inr}
use Rattle.std.proofs.Common.{pow_pos, mod-lt, div-lt_iff_lt-mul}
use Rattle.std.proofs.lemmas.Nat.{pow-add, div-add-mod'}
use Rattle.std.proofs.lemmas.List.{length-take-le}
use Rattle.algebra.specs.Field.{FieldOps, IsField}
use Rattle.algebra.specs.Polynomial.{val, tabulate}
use Rattle.algebra.specs.TwoAdic.{AreRoots, pt}
use Rattle.algebra.proofs.Lists.{Each, length-tabulate, get_or-tabulate, each_from_All}
use Rattle.fri_soundness.specs.Counting.{AllBut, AtMost}
use Rattle.fri_soundness.specs.Curves.{Row, Meets, HasValues, IsClose, IsCorrelated}
use Rattle.fri_soundness.specs.FoldTests.{Step, indices, curve_row, curve_rows, curve_degree, FoldsTo, Passes, AreSteps}
use Rattle.fri_soundness.specs.FoldTests.{AgreesWhere, EndsLow, HasRoom, IsBadIn, FewFail, InputsAgree}
use Rattle.fri_soundness.proofs.OneRound.{few_are_bad}
use Rattle.fri_soundness.proofs.Decided.{correlated_unless_bad}
use Rattle.fri_soundness.proofs.Weave.{weave, length-weave}
use Rattle.fri_soundness.proofs.FoldRows.{curve_is, are_rows, word_at, input_at, fits_in_degree}

pub all_but-tabulate : {X Y : Type 0} (P : X → Type 0) (Q : Y → Type 0) (e n : ℕ) (f : ℕ → X) (g : ℕ → Y)
    → ((i : ℕ) → i < n → P (f i) → Q (g i)) → AllBut P e (tabulate n f) → AllBut Q e (tabulate n g)
all_but-tabulate P Q e zero f g t h = tt
all_but-tabulate P Q zero (suc n) f g t h = (
  t zero (omega arith) h.0,
  all_but-tabulate P Q zero n (λ i. f (suc i)) (λ i. g (suc i)) (λ i l. t (suc i) (omega (arith, l))) h.1,
)
all_but-tabulate P Q (suc e) (suc n) f g t (inl h) = inl (
  t zero (omega arith) h.0,
  all_but-tabulate P Q (suc e) n (λ i. f (suc i)) (λ i. g (suc i)) (λ i l. t (suc i) (omega (arith, l))) h.1,
)
all_but-tabulate P Q (suc e) (suc n) f g t (inr h) =
    inr (all_but-tabulate P Q e n (λ i. f (suc i)) (λ i. g (suc i)) (λ i l. t (suc i) (omega (arith, l))) h)

module _ {A : Type 0} (F : FieldOps A) (L : IsField F) (top : ℕ) (w : ℕ → A) (W : AreRoots F top w)
    (log_blowup : ℕ) (e : ℕ → ℕ) where
  pub few_bad_in_step : (s : Step A) → HasRoom F w log_blowup e s → s.height + s.round.log_arity ≤ top
      → length s.word ≡ 2 ^ (s.height + s.round.log_arity)
      → AtMost (IsBadIn F w log_blowup e s) (curve_degree F w s.round.log_arity s.input * (e s.height + 1))
  few_bad_in_step s room within long =
      few_are_bad F L (curve_rows F w s.height s.round.log_arity s.input s.word) (2 ^ (s.height - log_blowup))
      (curve_degree F w s.round.log_arity s.input) (e s.height)
      (are_rows F L top w W s.height s.round.log_arity s.input s.word within long (2 ^ (s.height - log_blowup)) (e s.height) room.enough)

  -- through one round
  module _ (s : Step A) (Q : ℕ → Type 0) (within : s.height + s.round.log_arity ≤ top) (long : length s.word ≡ 2 ^ (s.height + s.round.log_arity))
      (room : HasRoom F w log_blowup e s) (good : ¬ (IsBadIn F w log_blowup e s s.round.beta))
      (few : AllBut (λ row. FoldsTo F w s row × Q row) (e s.height) (indices s.height))
      (next : AgreesWhere F w s.height (2 ^ (s.height - log_blowup)) Q s.next) where
    abbrev a : ℕ
    a = s.round.log_arity

    abbrev k : ℕ
    k = 2 ^ (s.height - log_blowup)

    abbrev row_at : ℕ → Row A
    row_at i = curve_row F w s.height a s.input s.word i

    abbrev rows : List (Row A)
    rows = curve_rows F w s.height a s.input s.word

    meets_at : (i : ℕ) → i < 2 ^ s.height → FoldsTo F w s i × Q i → Meets F s.round.beta next.polynomial (row_at i)
    meets_at i l h = curve_is F L top w W s.height a s.input s.word within long s.round i refl l ∙ sym h.0 ∙ next.values i l h.1

    close : IsClose F rows k (e s.height) s.round.beta next.polynomial
    close = record {
      degree = next.degree;
      meets = all_but-tabulate (λ row. FoldsTo F w s row × Q row) (Meets F s.round.beta next.polynomial) (e s.height) (2 ^ s.height)
          (λ i. i) row_at meets_at few;
    }

    correlated : IsCorrelated F rows k (curve_degree F w a s.input) s.round.beta next.polynomial
    correlated = correlated_unless_bad F L rows k (curve_degree F w a s.input) (e s.height)
        (are_rows F L top w W s.height a s.input s.word within long k (e s.height) room.enough) s.round.beta next.polynomial close good

    degrees : Each (λ p. length p ≡ k) correlated.polynomials
    degrees = each_from_All (λ p. length p ≡ k) correlated.polynomials correlated.degrees

    values_at : (i : ℕ) → i < 2 ^ s.height → FoldsTo F w s i × Q i → HasValues F correlated.polynomials (row_at i)
    values_at i l h =
        subst (λ row. Meets F s.round.beta next.polynomial row → HasValues F correlated.polynomials row) (get_or-tabulate (2 ^ s.height) row_at i (row_at i) l)
        (correlated.values i (row_at i) (omega (arith, l, length-tabulate (2 ^ s.height) row_at))) (meets_at i l h)

    pub word_agrees : AgreesWhere F w (s.height + a) (2 ^ (s.height + a - log_blowup)) (λ q. FoldsTo F w s (q / 2 ^ a) × Q (q / 2 ^ a)) s.word
    word_agrees = record {
      polynomial = weave F k (take (2 ^ a) correlated.polynomials);
      degree = length-weave F k (take (2 ^ a) correlated.polynomials)
          ∙ ap (λ n. k * n) (length-take-le (2 ^ a) correlated.polynomials (fits_in_degree F w a s.input (length correlated.polynomials) correlated.count))
          ∙ sym (pow-add 2 (s.height - log_blowup) a)
          ∙ ap (λ n. 2 ^ n) (let same : s.height - log_blowup + a ≡ s.height + a - log_blowup = omega (arith, room.blowup) in same);
      values = λ q l h.
          let row : q / 2 ^ a < 2 ^ s.height = (div-lt_iff_lt-mul (pow_pos a)).1 (rw (← pow-add 2 s.height a) l) in
          subst (λ n. get_or s.word n F.zero ≡ val F (weave F k (take (2 ^ a) correlated.polynomials)) (pt F w n (s.height + a))) (div-add-mod' q (2 ^ a))
          (word_at F L top w W s.height a s.input s.word within long k correlated.polynomials correlated.count degrees (q / 2 ^ a) row
          (values_at (q / 2 ^ a) row h) (q % 2 ^ a) (mod-lt q (pow_pos a)));
    }

    pub input_agrees : (us : List A) → s.input ≡ Some us → AgreesWhere F w s.height k (λ row. FoldsTo F w s row × Q row) us
    input_agrees us is = record {
      polynomial = get_or correlated.polynomials (2 ^ a) [];
      degree = correlated.degrees (2 ^ a) [] (omega (arith, correlated.count, ap (λ o. curve_degree F w a o) is));
      values = λ i l h. input_at F L top w W s.height a s.input s.word within long k correlated.polynomials correlated.count degrees i l (values_at i l h) us is;
    }

  pub sound : (h : ℕ) (ys c : List A) (steps : List (Step A)) → h ≤ top → AreSteps F w h ys c steps → EndsLow F w log_blowup e h c steps
      → Each (HasRoom F w log_blowup e) steps → Each (λ (s : Step A). ¬ (IsBadIn F w log_blowup e s s.round.beta)) steps
      → FewFail F w log_blowup e steps
      → AgreesWhere F w h (2 ^ (h - log_blowup)) (Passes F w steps) ys × InputsAgree F w log_blowup e steps
  sound h ys c [] t are ends room good few = (
    record {
      polynomial = c;
      degree = ends;
      values = λ i l _. ap (λ zs. get_or zs i F.zero) are ∙ get_or-tabulate (2 ^ h) (λ i. val F c (pt F w i h)) i F.zero l;
    },
    tt,
  )
  sound h ys c (s ∷ steps) t are ends room good few =
      let below : s.height ≤ top = omega (arith, t, are.2) in
      let within : s.height + s.round.log_arity ≤ top = omega (arith, t, are.2) in
      let long : length s.word ≡ 2 ^ (s.height + s.round.log_arity) = ap length are.0 ∙ are.1 ∙ ap (λ n. 2 ^ n) (sym are.2) in
      let later = sound s.height s.next c steps below are.3 ends room.1 good.1 few.1 in
      let agrees = word_agrees s (Passes F w steps) within long room.0 good.0 few.0 later.0 in (
        subst (λ n. AgreesWhere F w n (2 ^ (n - log_blowup)) (Passes F w (s ∷ steps)) ys) are.2
            (subst (λ zs. AgreesWhere F w (s.height + s.round.log_arity) (2 ^ (s.height + s.round.log_arity - log_blowup)) (Passes F w (s ∷ steps)) zs) are.0 agrees),
        (input_agrees s (Passes F w steps) within long room.0 good.0 few.0 later.0, later.1),
      )
