-- Words of low degree agree with their own parts at every challenge.
use Rattle.std.proofs.Common.{◌≡◌, ℕ, zero, suc, ◌+◌, ◌-◌, ◌*◌, ◌^◌, ◌<◌, ◌≤◌, List, [], ◌∷◌, ◌++◌, length, map, take, drop, get_or, replicate, Option, Some, None}
use Rattle.std.proofs.Common.{refl, sym, ap, ap₂, ◌∙◌, subst, arith, length-drop, length-append, append-nil, pow_pos, All}
use Rattle.std.proofs.lemmas.Nat.{pow-add}
use Rattle.std.proofs.lemmas.List.{length-take-le, length-replicate, map-append}
use Rattle.algebra.specs.Field.{FieldOps, IsRing, IsField}
use Rattle.algebra.specs.Polynomial.{val, tabulate}
use Rattle.algebra.specs.Interpolation.{interpolant}
use Rattle.algebra.specs.TwoAdic.{AreRoots, pt, row_points}
use Rattle.algebra.specs.Words.{word}
use Rattle.algebra.specs.Lists.{add_lists}
use Rattle.algebra.specs.Folds.{neighbours}
use Rattle.algebra.proofs.Values.{val-nil, val-cons}
use Rattle.algebra.proofs.Blocks.{block_values, block_sum, length-block_sum, val-blocks, val-block_sum}
use Rattle.algebra.proofs.Interpolation.{interpolant_interpolates, interpolates_unique}
use Rattle.algebra.proofs.Points.{row-power, row_distinct}
use Rattle.algebra.proofs.FoldedWords.{neighbours-tabulate}
use Rattle.algebra.proofs.Lists.{Each, Distinct, length-tabulate, get_or-tabulate, map-tabulate, tabulate-equal, distinct_from_AllPairs, All_from_each, each-append}
use Rattle.fri_soundness.specs.Curves.{Meets, HasValues, IsCorrelated}
use Rattle.fri_soundness.specs.FoldTests.{Step, IsBadIn, curve_row, curve_rows, curve_degree}
use Rattle.fri_soundness.specs.Honest.{IsHonestStep}

each-empty : (A : Type 0) (n : ℕ) → Each (λ (p : List A). length p ≡ 0) (replicate n [])
each-empty A zero = tt
each-empty A (suc n) = (refl, each-empty A n)

module _ {A : Type 0} where
  abbrev cons_each : List A → List (List A) → List (List A)
  cons_each [] ps = []
  cons_each (b ∷ bs) [] = []
  cons_each (b ∷ bs) (p ∷ ps) = (b ∷ p) ∷ cons_each bs ps

  -- the parts of a polynomial: of the `n` first coefficients, each with every `n`-th behind it
  abbrev parts : (n d : ℕ) → List A → List (List A)
  parts n zero c = replicate n []
  parts n (suc d) c = cons_each (take n c) (parts n d (drop n c))

  length-cons_each : (bs : List A) (ps : List (List A)) → length bs ≡ length ps → length (cons_each bs ps) ≡ length bs
  length-cons_each [] ps e = refl
  length-cons_each (b ∷ bs) [] e = absurd (omega (arith, e))
  length-cons_each (b ∷ bs) (p ∷ ps) e = ap suc (length-cons_each bs ps (omega (arith, e)))

  each-cons_each : (d : ℕ) (bs : List A) (ps : List (List A)) → Each (λ p. length p ≡ d) ps → Each (λ p. length p ≡ suc d) (cons_each bs ps)
  each-cons_each d [] ps h = tt
  each-cons_each d (b ∷ bs) [] h = tt
  each-cons_each d (b ∷ bs) (p ∷ ps) h = (ap suc h.0, each-cons_each d bs ps h.1)

  length-parts : (n d : ℕ) (c : List A) → length c ≡ d * n → length (parts n d c) ≡ n
  length-parts n zero c e = length-replicate n []
  length-parts n (suc d) c e =
      let front : length (take n c) ≡ n = length-take-le n c (omega (arith, e)) in
      length-cons_each (take n c) (parts n d (drop n c)) (front ∙ sym (length-parts n d (drop n c) (omega (arith, e, length-drop n c)))) ∙ front

  each-parts : (n d : ℕ) (c : List A) → Each (λ p. length p ≡ d) (parts n d c)
  each-parts n zero c = each-empty A n
  each-parts n (suc d) c = each-cons_each d (take n c) (parts n d (drop n c)) (each-parts n d (drop n c))

module _ {A : Type 0} (F : FieldOps A) (R : IsRing F) (z : A) where
  val-empty : (n : ℕ) → map (λ p. val F p z) (replicate n []) ≡ replicate n F.zero
  val-empty zero = refl
  val-empty (suc n) = ap₂ (λ v vs. v ∷ vs) (val-nil F R z) (val-empty n)

  val-cons_each : (bs : List A) (ps : List (List A)) → map (λ p. val F p z) (cons_each bs ps) ≡ add_lists F bs (map (λ a. F.mul z a) (map (λ p. val F p z) ps))
  val-cons_each [] ps = refl
  val-cons_each (b ∷ bs) [] = refl
  val-cons_each (b ∷ bs) (p ∷ ps) = ap₂ (λ v vs. v ∷ vs) (val-cons F R b p z) (val-cons_each bs ps)

  val-parts : (n d : ℕ) (c : List A) → map (λ p. val F p z) (parts n d c) ≡ block_sum F n d c z
  val-parts n zero c = val-empty n
  val-parts n (suc d) c = val-cons_each (take n c) (parts n d (drop n c)) ∙ ap (λ us. add_lists F (take n c) (map (λ a. F.mul z a) us)) (val-parts n d (drop n c))

module _ {A : Type 0} (F : FieldOps A) (L : IsField F) (top : ℕ) (w : ℕ → A) (W : AreRoots F top w) where
  -- the polynomial through a row of values has the parts' values for coefficients
  row_is : (h a d i : ℕ) (c : List A) → h + a ≤ top → i < 2 ^ h → length c ≡ d * 2 ^ a
      → interpolant F (row_points F w i a h) (neighbours (word F w (h + a) c) i a) ≡ map (λ p. val F p (pt F w i h)) (parts (2 ^ a) d c)
  row_is h a d i c b l e =
      ap (λ ys. interpolant F points ys) (neighbours-tabulate h a i (λ j. val F c (pt F w j (h + a))) l)
      ∙ interpolates_unique F L points ys (interpolant F points ys) (block_sum F (2 ^ a) d c (pt F w i h)) distinct
      (interpolant_interpolates F L points ys (length-tabulate (2 ^ a) at ∙ sym (length-tabulate (2 ^ a) (λ j. val F c (at j)))) distinct)
      (record {
        count = length-block_sum F L.ring (2 ^ a) d c (pt F w i h) e ∙ sym (length-tabulate (2 ^ a) at);
        values = map-tabulate (λ x. val F (block_sum F (2 ^ a) d c (pt F w i h)) x) (2 ^ a) at
            ∙ tabulate-equal (2 ^ a) (λ j. val F (block_sum F (2 ^ a) d c (pt F w i h)) (at j)) (λ j. val F c (at j))
            (λ j k. val-block_sum F L.ring (2 ^ a) d c (pt F w i h) (at j) e
            ∙ ap (λ z. val F (block_values F (2 ^ a) d c (at j)) z) (sym (row-power F L top w W i j a h k b))
            ∙ sym (val-blocks F L.ring (2 ^ a) d c (at j) e));
      })
      ∙ sym (val-parts F L.ring (pt F w i h) (2 ^ a) d c)
    where
      at : ℕ → A
      at j = pt F w (i * 2 ^ a + j) (h + a)

      points : List A
      points = row_points F w i a h

      ys : List A
      ys = tabulate (2 ^ a) (λ j. val F c (at j))

      distinct : Distinct points
      distinct = distinct_from_AllPairs points (row_distinct F L top w W i a h b l)

  pub none_bad_in_honest : (log_blowup : ℕ) (e : ℕ → ℕ) (s : Step A) → s.height + s.round.log_arity ≤ top → log_blowup ≤ s.height → IsHonestStep F w log_blowup s
      → (beta : A) → ¬ (IsBadIn F w log_blowup e s beta)
  none_bad_in_honest log_blowup e s b t honest beta bad = by s.input refl bad.polynomial bad.uncorrelated
    where
      h : ℕ
      h = s.height

      a : ℕ
      a = s.round.log_arity

      d : ℕ
      d = 2 ^ (s.height - log_blowup)

      c : List A
      c = honest.word.polynomial

      degree : length c ≡ d * 2 ^ a
      degree = honest.word.degree ∙ ap (λ n. 2 ^ n) (let same : s.height + s.round.log_arity - log_blowup ≡ s.height - log_blowup + s.round.log_arity = omega (arith, t) in same)
          ∙ pow-add 2 (s.height - log_blowup) s.round.log_arity

      row : (i : ℕ) → i < 2 ^ h → interpolant F (row_points F w i a h) (neighbours s.word i a) ≡ map (λ p. val F p (pt F w i h)) (parts (2 ^ a) d c)
      row i l = ap (λ ys. interpolant F (row_points F w i a h) (neighbours ys i a)) honest.word.values ∙ row_is h a d i c b l degree

      at_each : (o : Option (List A)) (qs : List (List A)) → ((i : ℕ) → i < 2 ^ h → HasValues F qs (curve_row F w h a o s.word i))
          → (k : List A) → All (λ row. Meets F beta k row → HasValues F qs row) (curve_rows F w h a o s.word)
      at_each o qs values k i x l m =
          let inner : i < 2 ^ h = omega (arith, l, length-tabulate (2 ^ h) (curve_row F w h a o s.word)) in
          subst (λ row. HasValues F qs row) (sym (get_or-tabulate (2 ^ h) (curve_row F w h a o s.word) i x inner)) (values i inner)

      by : (o : Option (List A)) → s.input ≡ o → (k : List A) → ¬ (IsCorrelated F (curve_rows F w h a o s.word) d (curve_degree F w a o) beta k) → ⊥
      by None none k uncorrelated = uncorrelated (record {
        polynomials = parts (2 ^ a) d c;
        count = length-parts (2 ^ a) d c degree ∙ (let n : 2 ^ a ≡ 2 ^ a - 1 + 1 = omega (arith, pow_pos a) in n);
        degrees = All_from_each (λ p. length p ≡ d) (parts (2 ^ a) d c) (each-parts (2 ^ a) d c);
        values = at_each None (parts (2 ^ a) d c) (λ i l. append-nil (interpolant F (row_points F w i a h) (neighbours s.word i a)) ∙ row i l) k;
      })
      by (Some us) some k uncorrelated =
          let g = honest.input us some in
          uncorrelated (record {
            polynomials = parts (2 ^ a) d c ++ g.polynomial ∷ [];
            count = length-append (parts (2 ^ a) d c) (g.polynomial ∷ []) ∙ ap (λ n. n + 1) (length-parts (2 ^ a) d c degree);
            degrees = All_from_each (λ p. length p ≡ d) (parts (2 ^ a) d c ++ g.polynomial ∷ [])
                (each-append (λ p. length p ≡ d) (parts (2 ^ a) d c) (g.polynomial ∷ []) (each-parts (2 ^ a) d c) (g.degree, tt));
            values = at_each (Some us) (parts (2 ^ a) d c ++ g.polynomial ∷ []) (λ i l.
                ap₂ (λ xs v. xs ++ v ∷ []) (row i l)
                (ap (λ ys. get_or ys i F.zero) g.values ∙ get_or-tabulate (2 ^ h) (λ j. val F g.polynomial (pt F w j h)) i F.zero l)
                ∙ sym (map-append (λ p. val F p (pt F w i h)) (parts (2 ^ a) d c) (g.polynomial ∷ []))) k;
          })
