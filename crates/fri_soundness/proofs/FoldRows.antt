-- A round of folding seen as a curve: its rows, its value, and the word behind it.
use Rattle.std.proofs.Common.{◌≡◌, ℕ, ◌+◌, ◌-◌, ◌*◌, ◌^◌, ◌<◌, ◌≤◌, List, [], ◌∷◌, ◌++◌}
use Rattle.std.proofs.Common.{length, map, take, drop, get_or, sym, ap, ap₂, ◌∙◌, subst, arith, Option, Some, None}
use Rattle.std.proofs.Common.{length-append, length-drop, pow_pos, append-nil}
use Rattle.std.proofs.lemmas.Nat.{pow-add}
use Rattle.std.proofs.lemmas.List.{get_or-map, get_or-take, get_or-drop, take_at, take-map, length-take-le}
use Rattle.std.proofs.Math.Seq.{get_or-append_seam}
use Rattle.algebra.specs.Field.{FieldOps, IsField, pow}
use Rattle.algebra.specs.Polynomial.{val}
use Rattle.algebra.specs.Interpolation.{AreDistinct, Interpolates, interpolant}
use Rattle.algebra.specs.TwoAdic.{AreRoots, pt, row_points}
use Rattle.algebra.specs.Folds.{neighbours, fold_value}
use Rattle.algebra.specs.Rounds.{Round, rolled_in, entry_of, folded_entry}
use Rattle.algebra.proofs.Interpolation.{interpolant_interpolates}
use Rattle.algebra.proofs.FoldedWords.{row_within}
use Rattle.algebra.proofs.Points.{row-power, row_distinct, domain_distinct}
use Rattle.algebra.proofs.Values.{val-append, val-one}
use Rattle.algebra.proofs.Lists.{Each, length-tabulate, get_or-tabulate, map-tabulate, distinct_from_AllPairs}
use Rattle.fri_soundness.specs.Curves.{Row, AreRows}
use Rattle.fri_soundness.specs.FoldTests.{input_entries, curve_row, curve_rows, curve_degree}
use Rattle.fri_soundness.proofs.OneRound.{each-take}
use Rattle.fri_soundness.proofs.Weave.{weave, val-weave}

-- the word's entry at a place of a row
pub get_or-neighbours : {A : Type 0} (ys : List A) (i a j : ℕ) (d : A) → j < 2 ^ a → get_or (neighbours ys i a) j d ≡ get_or ys (i * 2 ^ a + j) d
get_or-neighbours ys i a j d l =
    get_or-take (i * 2 ^ a + 2 ^ a - i * 2 ^ a) (drop (i * 2 ^ a) ys) j d (omega (arith, l)) ∙ get_or-drop (i * 2 ^ a) ys j d

pub length-neighbours : {A : Type 0} (ys : List A) (i a h : ℕ) → length ys ≡ 2 ^ (h + a) → i < 2 ^ h → length (neighbours ys i a) ≡ 2 ^ a
length-neighbours ys i a h n l =
    length-take-le (i * 2 ^ a + 2 ^ a - i * 2 ^ a) (drop (i * 2 ^ a) ys)
    (omega (arith, length-drop (i * 2 ^ a) ys, n, pow-add 2 h a, row_within i (2 ^ h) (2 ^ a) l)) ∙ (let e : i * 2 ^ a + 2 ^ a - i * 2 ^ a ≡ 2 ^ a = omega arith in e)

pub fits_in_degree : {A : Type 0} (F : FieldOps A) (w : ℕ → A) (a : ℕ) (input : Option (List A)) (n : ℕ) → n ≡ curve_degree F w a input + 1 → 2 ^ a ≤ n
fits_in_degree F w a None n e = omega (arith, e, pow_pos a)
fits_in_degree F w a (Some us) n e = omega (arith, e)

module _ {A : Type 0} (F : FieldOps A) (L : IsField F) (top : ℕ) (w : ℕ → A) (W : AreRoots F top w)
    (h a : ℕ) (input : Option (List A)) (ys : List A) (within : h + a ≤ top) (long : length ys ≡ 2 ^ (h + a)) where
  abbrev polynomial : ℕ → List A
  polynomial i = interpolant F (row_points F w i a h) (neighbours ys i a)

  through_row : (i : ℕ) → i < 2 ^ h → Interpolates F (row_points F w i a h) (neighbours ys i a) (polynomial i)
  through_row i l = interpolant_interpolates F L (row_points F w i a h) (neighbours ys i a)
      (length-tabulate (2 ^ a) (λ j. pt F w (i * 2 ^ a + j) (h + a)) ∙ sym (length-neighbours ys i a h long l))
      (distinct_from_AllPairs (row_points F w i a h) (row_distinct F L top w W i a h within l))

  length-polynomial : (i : ℕ) → i < 2 ^ h → length (polynomial i) ≡ 2 ^ a
  length-polynomial i l = (through_row i l).count ∙ length-tabulate (2 ^ a) (λ j. pt F w (i * 2 ^ a + j) (h + a))

  -- through a row goes a polynomial with the word's entries
  polynomial_at : (i j : ℕ) → i < 2 ^ h → j < 2 ^ a → val F (polynomial i) (pt F w (i * 2 ^ a + j) (h + a)) ≡ get_or ys (i * 2 ^ a + j) F.zero
  polynomial_at i j l b =
      sym (get_or-tabulate (2 ^ a) (λ j. val F (polynomial i) (pt F w (i * 2 ^ a + j) (h + a))) j F.zero b)
      ∙ ap (λ vs. get_or vs j F.zero) (sym (map-tabulate (λ x. val F (polynomial i) x) (2 ^ a) (λ j. pt F w (i * 2 ^ a + j) (h + a))) ∙ (through_row i l).values)
      ∙ get_or-neighbours ys i a j F.zero b

  -- the curve takes, at the round's challenge, the value that the round gives the next word
  pub curve_is : (r : Round A) (i : ℕ) → r.log_arity ≡ a → i < 2 ^ h → val F (curve_row F w h a input ys i).entries r.beta
      ≡ rolled_in F r (entry_of F input i) (folded_entry (fold_value F w) h r ys i)
  unfolding fold_value
  curve_is r i e l = by input
    where
      at_arity : val F (polynomial i) r.beta ≡ folded_entry (fold_value F w) h r ys i
      at_arity = ap (λ n. fold_value F w i h n r.beta (neighbours ys i n)) (sym e)

      by : (o : Option (List A)) → val F (polynomial i ++ input_entries F w o i) r.beta ≡ rolled_in F r (entry_of F o i) (folded_entry (fold_value F w) h r ys i)
      by None = ap (λ c. val F c r.beta) (append-nil (polynomial i)) ∙ at_arity
      by (Some us) = val-append F L.ring (polynomial i) (get_or us i F.zero ∷ []) r.beta
          ∙ ap₂ (λ n v. F.add (val F (polynomial i) r.beta) (F.mul (pow F r.beta n) v)) (length-polynomial i l ∙ ap (λ n. 2 ^ n) (sym e)) (val-one F L.ring (get_or us i F.zero) r.beta)
          ∙ ap (λ v. F.add v (F.mul (pow F r.beta (2 ^ r.log_arity)) (get_or us i F.zero))) at_arity

  length-entries : (i : ℕ) → i < 2 ^ h → length (curve_row F w h a input ys i).entries ≡ curve_degree F w a input + 1
  length-entries i l = length-append (polynomial i) (input_entries F w input i) ∙ by input
    where
      by : (o : Option (List A)) → length (polynomial i) + length (input_entries F w o i) ≡ curve_degree F w a o + 1
      by None = omega (arith, length-polynomial i l, pow_pos a)
      by (Some us) = omega (arith, length-polynomial i l)

  -- the curve's rows are those of as many words as its degree says, over distinct points
  pub are_rows : (k e : ℕ) → (curve_degree F w a input + 2) * e + k ≤ 2 ^ h
      → AreRows F (curve_rows F w h a input ys) k (curve_degree F w a input) e
  are_rows k e enough = record {
    distinct = subst AreDistinct (sym (map-tabulate (λ (row : Row A). row.point) (2 ^ h) (curve_row F w h a input ys)))
        (domain_distinct F L top w W h (omega (arith, within)));
    words = λ i d l.
        let b : i < 2 ^ h = omega (arith, l, length-tabulate (2 ^ h) (curve_row F w h a input ys)) in
        ap (λ (row : Row A). length row.entries) (get_or-tabulate (2 ^ h) (curve_row F w h a input ys) i d b) ∙ length-entries i b;
    enough = omega (arith, enough, length-tabulate (2 ^ h) (curve_row F w h a input ys));
  }

  -- polynomials with a row's entries for values weave into one with the word's entries
  module _ (k : ℕ) (ps : List (List A)) (count : length ps ≡ curve_degree F w a input + 1) (degrees : Each (λ p. length p ≡ k) ps)
      (i : ℕ) (l : i < 2 ^ h) (values : (curve_row F w h a input ys i).entries ≡ map (λ p. val F p (pt F w i h)) ps) where
    arity_fits : 2 ^ a ≤ length ps
    arity_fits = fits_in_degree F w a input (length ps) count

    first_entries : polynomial i ≡ map (λ p. val F p (pt F w i h)) (take (2 ^ a) ps)
    first_entries = sym (take_at (polynomial i) (input_entries F w input i) (2 ^ a) (length-polynomial i l))
        ∙ ap (λ us. take (2 ^ a) us) values ∙ take-map (λ p. val F p (pt F w i h)) (2 ^ a) ps

    pub word_at : (j : ℕ) → j < 2 ^ a
        → get_or ys (i * 2 ^ a + j) F.zero ≡ val F (weave F k (take (2 ^ a) ps)) (pt F w (i * 2 ^ a + j) (h + a))
    word_at j b =
        sym (polynomial_at i j l b)
        ∙ ap (λ c. val F c (pt F w (i * 2 ^ a + j) (h + a)))
        (first_entries ∙ ap (λ x. map (λ p. val F p x) (take (2 ^ a) ps)) (sym (row-power F L top w W i j a h b within)))
        ∙ sym (val-weave F L.ring k (2 ^ a) (take (2 ^ a) ps) (pt F w (i * 2 ^ a + j) (h + a)) (length-take-le (2 ^ a) ps arity_fits)
        (each-take (λ p. length p ≡ k) (2 ^ a) ps degrees))

    pub input_at : (us : List A) → input ≡ Some us → get_or us i F.zero ≡ val F (get_or ps (2 ^ a) []) (pt F w i h)
    input_at us e =
        sym (get_or-append_seam (polynomial i) (get_or us i F.zero) [] F.zero)
        ∙ ap₂ (λ (o : Option (List A)) n. get_or (polynomial i ++ input_entries F w o i) n F.zero) (sym e) (length-polynomial i l)
        ∙ ap (λ us. get_or us (2 ^ a) F.zero) values
        ∙ get_or-map (λ p. val F p (pt F w i h)) ps (2 ^ a) [] F.zero inside
      where
        inside : 2 ^ a < length ps
        inside = omega (arith, count, ap (λ o. curve_degree F w a o) e)
