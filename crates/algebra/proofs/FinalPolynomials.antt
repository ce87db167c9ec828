-- The final polynomial: it is the last word's where that is of low degree, the inverse transform of
-- the turned entries gives it, and the chain of each query ends at its value.
use Rattle.std.proofs.Common.{◌≡◌, ℕ, ◌+◌, ◌-◌, ◌/◌, ◌^◌, ◌<◌, ◌≤◌, List, Option, length, take}
use Rattle.std.proofs.Common.{get_or, sym, ap, ap₂, ◌∙◌, arith, pow_pos, length-take-le}
use Rattle.std.proofs.Math.Nat.{div-lt_iff_lt-mul}
use Rattle.std.proofs.lemmas.Nat.{pow-add}
use Rattle.algebra.specs.Field.{FieldOps, IsField, pow}
use Rattle.algebra.specs.Polynomial.{val, tabulate}
use Rattle.algebra.specs.Interpolation.{Interpolates, interpolant}
use Rattle.algebra.specs.Digits.{rev}
use Rattle.algebra.specs.TwoAdic.{AreRoots, pt, domain_points}
use Rattle.algebra.specs.Words.{word, IsWord}
use Rattle.algebra.specs.Folds.{LowersDegrees}
use Rattle.algebra.specs.Rounds.{Round, total_log_arity, after_rounds, words_folded, chain}
use Rattle.algebra.specs.Rounds.{siblings_met, link_in, AreValuesMet, AreLowDegreeWords}
use Rattle.algebra.specs.Rounds.{final_polynomial}
use Rattle.algebra.proofs.Digits.{rev-lt, rev-rev}
use Rattle.algebra.proofs.Interpolation.{interpolant_interpolates, interpolates_unique}
use Rattle.algebra.proofs.Points.{domain_distinct, powers_differ}
use Rattle.algebra.proofs.Words.{word-restrict}
use Rattle.algebra.proofs.Rounds.{word_as, rounds_lower_degrees}
use Rattle.algebra.proofs.Chains.{chain_through_words}
use Rattle.algebra.proofs.Lists.{Distinct, length-tabulate, get_or-tabulate, map-tabulate}
use Rattle.algebra.proofs.Lists.{tabulate-equal, distinct_from_AllPairs, distinct-tabulate}

module _ {A : Type 0} (F : FieldOps A) (L : IsField F) (top : ℕ) (w : ℕ → A)
    (W : AreRoots F top w) where
  open F use {zero as 𝟘}

  distinct : (l : ℕ) → l ≤ top → Distinct (domain_points F w l)
  distinct l t = distinct_from_AllPairs (domain_points F w l) (domain_distinct F L top w W l t)

  through_entries : (l : ℕ) (ys : List A) → l ≤ top → 2 ^ l ≤ length ys
      → Interpolates F (domain_points F w l) (take (2 ^ l) ys) (final_polynomial F w l ys)
  through_entries l ys t n =
      interpolant_interpolates F L (domain_points F w l) (take (2 ^ l) ys)
      (length-tabulate (2 ^ l) (λ i. pt F w i l) ∙ sym (length-take-le (2 ^ l) ys n)) (distinct l t)

  pub length-final_polynomial : (l : ℕ) (ys : List A) → l ≤ top → 2 ^ l ≤ length ys
      → length (final_polynomial F w l ys) ≡ 2 ^ l
  length-final_polynomial l ys t n = (through_entries l ys t n).count
      ∙ length-tabulate (2 ^ l) (λ i. pt F w i l)

  -- of a word of as low a degree it is the polynomial
  pub final_polynomial-word : (l m : ℕ) (c : List A) → l + m ≤ top → length c ≡ 2 ^ l
      → final_polynomial F w l (word F w (l + m) c) ≡ c
  final_polynomial-word l m c t n =
      let k : l ≤ top = omega (arith, t) in
      ap (λ ys. interpolant F (domain_points F w l) ys) (word-restrict F L top w W l m c t)
      ∙ interpolates_unique F L (domain_points F w l) (word F w l c)
      (interpolant F (domain_points F w l) (word F w l c)) c (distinct l k)
      (interpolant_interpolates F L (domain_points F w l) (word F w l c)
      (length-tabulate (2 ^ l) (λ i. pt F w i l)
      ∙ sym (length-tabulate (2 ^ l) (λ i. val F c (pt F w i l)))) (distinct l k))
      (record {
        count = n ∙ sym (length-tabulate (2 ^ l) (λ i. pt F w i l));
        values =
            map-tabulate (λ x. val F c x) (2 ^ l) (λ i. pt F w i l);
      })

  -- so such a word is that of its final polynomial
  pub word_of_final_polynomial : (l m : ℕ) (ys : List A) → l + m ≤ top
      → IsWord F w (l + m) (2 ^ l) ys → ys ≡ word F w (l + m) (final_polynomial F w l ys)
  word_of_final_polynomial l m ys t y =
      y.values ∙ ap (λ c. word F w (l + m) c)
      (sym (final_polynomial-word l m y.polynomial t y.degree)
      ∙ ap (λ zs. final_polynomial F w l zs) (sym y.values))

  -- the inverse transform of the entries in natural order
  pub final_polynomial_by_transform : (l : ℕ) (ys p : List A) (d : A) → l ≤ top → 2 ^ l ≤ length ys
      → Interpolates F (tabulate (2 ^ l) (λ i. pow F (w l) i))
      (tabulate (2 ^ l) (λ i. get_or (take (2 ^ l) ys) (rev l i) d)) p
      → p ≡ final_polynomial F w l ys
  unfolding pt
  final_polynomial_by_transform l ys p d t n h =
      interpolates_unique F L (tabulate (2 ^ l) (λ i. pow F (w l) i))
      (tabulate (2 ^ l) (λ i. get_or (take (2 ^ l) ys) (rev l i) d)) p
      (final_polynomial F w l ys)
      (distinct-tabulate (2 ^ l) (λ i. pow F (w l) i)
      (λ i j p q e. differ i j p (powers_differ F L top w W l i j t (omega (arith, p, q)) q e)))
      h
      (record {
        count = length-final_polynomial l ys t n
            ∙ sym (length-tabulate (2 ^ l) (λ i. pow F (w l) i));
        values = map-tabulate (λ x. val F (final_polynomial F w l ys) x) (2 ^ l)
            (λ i. pow F (w l) i)
            ∙ tabulate-equal (2 ^ l) (λ i. val F (final_polynomial F w l ys) (pow F (w l) i))
            (λ i. get_or (take (2 ^ l) ys) (rev l i) d) entry;
      })
    where
      differ : (i j : ℕ) → i < j → i ≡ j → ⊥
      differ i j p e = omega (arith, p, e)

      entry : (i : ℕ) → i < 2 ^ l
          → val F (final_polynomial F w l ys) (pow F (w l) i) ≡ get_or (take (2 ^ l) ys) (rev l i) d
      entry i q =
          ap (λ m. val F (final_polynomial F w l ys) (pow F (w l) m)) (sym (rev-rev l i q))
          ∙ sym (get_or-tabulate (2 ^ l) (λ j. val F (final_polynomial F w l ys) (pt F w j l))
          (rev l i) d (rev-lt l i))
          ∙ ap (λ zs. get_or zs (rev l i) d)
          (sym (map-tabulate (λ x. val F (final_polynomial F w l ys) x) (2 ^ l)
          (λ j. pt F w j l)) ∙ (through_entries l ys t n).values)

  -- From a word of low degree, with inputs of low degrees rolled in, the chain of each query ends
  -- at the value of the final polynomial.
  pub chain_ends_at_final_polynomial : (fold : ℕ → ℕ → ℕ → A → List A → A)
      → LowersDegrees F w top fold
      → (inputs : ℕ → Option (List A)) (values : ℕ → Option A) (k l log_blowup : ℕ)
      (rounds : List (Round A)) (ys : List A) (q : ℕ)
      → AreLowDegreeWords F w log_blowup inputs → IsWord F w k (2 ^ (k - log_blowup)) ys
      → k ≤ top → total_log_arity rounds + (l + log_blowup) ≡ k → q < 2 ^ k
      → AreValuesMet F inputs k q values
      → chain F fold values rounds (siblings_met rounds (words_folded F fold inputs k rounds ys) q)
      (link_in F k ys q)
      ≡ record {
        index = q / 2 ^ total_log_arity rounds;
        log_height = l + log_blowup;
        value = val F (final_polynomial F w l (after_rounds F fold inputs k rounds ys))
            (pt F w (q / 2 ^ total_log_arity rounds) (l + log_blowup));
      }
  chain_ends_at_final_polynomial fold falls inputs values k l b rounds ys q low y t s i met =
      chain_through_words F fold inputs values k rounds ys q count (omega (arith, s)) i met
      ∙ ap₂ (λ h v. record { index = end; log_height = h; value = v }) height
      (ap (λ zs. get_or zs end 𝟘) (word_of_final_polynomial l b last (omega (arith, s, t)) low_last)
      ∙ get_or-tabulate (2 ^ (l + b))
      (λ j. val F (final_polynomial F w l last) (pt F w j (l + b))) end 𝟘 inside)
    where
      end : ℕ
      end = q / 2 ^ total_log_arity rounds

      last : List A
      last = after_rounds F fold inputs k rounds ys

      height : k - total_log_arity rounds ≡ l + b
      height = omega (arith, s)

      count : length ys ≡ 2 ^ k
      count = ap length y.values ∙ length-tabulate (2 ^ k) (λ j. val F y.polynomial (pt F w j k))

      low_last : IsWord F w (l + b) (2 ^ l) last
      low_last =
          word_as F L.ring w (k - total_log_arity rounds) (l + b)
          (2 ^ (k - total_log_arity rounds - b)) (2 ^ l) last height
          (ap (λ n. 2 ^ n) (let e : k - total_log_arity rounds - b ≡ l = omega (arith, s) in e))
          (rounds_lower_degrees F L.ring w top fold falls inputs b low k rounds ys t
          (omega (arith, s)) y)

      inside : end < 2 ^ (l + b)
      inside = (div-lt_iff_lt-mul (pow_pos (total_log_arity rounds))).1
          (rw (← pow-add 2 (l + b) (total_log_arity rounds))
          (let e : k ≡ l + b + total_log_arity rounds = omega (arith, s) in rw e at i))
