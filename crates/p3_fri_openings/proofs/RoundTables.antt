-- Tables of inverse differences for all points: how they grow, and that they cover all points.
use Rattle.std.proofs.Common.{◌≡◌, ◌≢◌, ℕ, ◌<◌, ◌≤◌, ◌^◌, List, [], ◌∷◌, ◌++◌, take, length, get_or}
use Rattle.std.proofs.Common.{All, Contains}
use Rattle.std.proofs.Common.{refl, sym, ap, ◌∙◌, arith, subst}
use Rattle.std.specs.Vec.{vec_len}
use Rattle.std.proofs.lemmas.List.{length-map, map-append, get_or-map, get_or_default}
use Rattle.std.proofs.lemmas.List.Elements.{All-nil, All-map, All-push, All-contains}
use Rattle.std.proofs.lemmas.List.Elements.{Contains-append_left, Contains-push, Contains-get_or}
use Rattle.std.proofs.lemmas.List.Quantifiers.{all_pairs_push}
use Rattle.algebra.specs.Field.{IsField, sub}
use Rattle.algebra.specs.Polynomial.{tabulate}
use Rattle.algebra.specs.Interpolation.{AreDistinct}
use Rattle.algebra.specs.TwoAdic.{AreRoots, pt}
use Rattle.algebra.specs.Cosets.{coset_pt}
use Rattle.algebra.proofs.Lists.{length-tabulate, entry_of_map}
use Rattle.p3_field_core.specs.Coset.{bit_reversed_points}
use Rattle.p3_matrix.specs.declared.dense.RowMajorMatrix.{RowMajorMatrix}
use Rattle.p3_matrix.specs.Matrix.{rows}
use Rattle.p3_fri_relation.specs.Setting.{Fields}
use Rattle.p3_fri_openings.specs.declared.asked_points.AskedPoint.{AskedPoint}
use Rattle.p3_fri_openings.specs.declared.denominators.PointDenominators.{PointDenominators}
use Rattle.p3_fri_openings.specs.declared.round.OpeningRound.{OpeningRound}
use Rattle.p3_fri_openings.specs.Log2.{log2}
use Rattle.p3_fri_openings.specs.Rounds.{asked_in, HasCoset, IsRound, log_height}
use Rattle.p3_fri_openings.specs.Committed.{coset_of, inverse_differences}
use Rattle.p3_fri_openings.specs.Sums.{StartsWith}
use Rattle.p3_fri_openings.specs.Points.{asked_point, IsTallest, points_of, points_in, asked_points}
use Rattle.p3_fri_openings.specs.Denominators.{AreInverses, IsCovered, points_of_table, size_of}
use Rattle.p3_fri_openings.specs.Denominators.{ArePointsCovered, HoldsCosets, HasDenominators}
use Rattle.p3_fri_openings.specs.Denominators.{IsTableFor}
use Rattle.p3_fri_openings.proofs.Log2.{log2-pow, pow-log2}
use Rattle.p3_fri_openings.proofs.Pushed.{all_parts, all_of_map}
use Rattle.p3_fri_openings.proofs.Tables.{coset_taken}

module _ {F E : Type 0} (f : Fields F E) where
  -- the powers in bit-reversed order are the coset
  reversed_points_are : (k : ℕ) → bit_reversed_points f.base (f.root k) f.shift k
      ≡ coset_of f (2 ^ k)
  unfolding pt
  reversed_points_are k = ap (λ m. tabulate (2 ^ k) (λ i. coset_pt f.base f.root f.shift i m))
      (sym (log2-pow k))

  coset_length : (n : ℕ) → length (coset_of f n) ≡ n
  coset_length n = length-tabulate n (λ i. coset_pt f.base f.root f.shift i (log2 n))

  inverses_length : (n : ℕ) (z : E) → length (inverse_differences f z n) ≡ n
  inverses_length n z = length-map (coset_of f n) (λ x. f.ext.inv (sub f.ext z (f.lift x)))
      ∙ coset_length n

  -- the greatest coset begins with each of the smaller ones
  pub holds_cosets : IsField f.base → AreRoots f.base f.two_adicity f.root → (top : ℕ)
      → top ≤ f.two_adicity
      → (coset : List F) → coset ≡ bit_reversed_points f.base (f.root top) f.shift top
      → (rounds : List (OpeningRound F E)) → All (IsRound f.two_adicity) rounds
      → All (λ r. All (λ m. log_height m ≤ top) r.matrices.now) rounds
      → All (HoldsCosets f coset) rounds
  holds_cosets L W top within coset e rounds right low k d l i m j =
      starts (get_or (get_or rounds k d).matrices.now i m) ((right k d l).cosets i m j)
      (low k d l i m j)
    where
      starts : (m : RowMajorMatrix F) → HasCoset f.two_adicity m → log_height m ≤ top
          → StartsWith coset (coset_of f (length (rows m)))
      starts m h low =
          let size : length (rows m) ≡ 2 ^ log_height m =
          sym (pow-log2 (length (rows m)) h.power.0 h.power.1) in
          ap (λ n. take n coset) (coset_length (length (rows m)) ∙ size)
          ∙ ap (λ xs. take (2 ^ log_height m) xs) (e ∙ reversed_points_are top)
          ∙ coset_taken f L W (log_height m) top low within
          ∙ ap (λ n. coset_of f n) (sym size)

module _ {E : Type 0} where
  -- an entry of the point is found, or none is
  pub found_entry : (table : List (PointDenominators E)) (i : ℕ) (entry : PointDenominators E)
      (z : E)
      → i < length table → entry ≡ get_or table i entry → entry.point ≡ z
      → Contains (points_of_table table) z
  found_entry table i entry z l is p =
      let within : i < length (points_of_table table) =
      omega (arith, l, length-map table (λ entry. entry.point)) in (
        i,
        within,
        get_or_default (points_of_table table) i z entry.point within
            ∙ sym (entry_of_map (λ (entry : PointDenominators E). entry.point) table i entry l is)
            ∙ p,
      )

  pub no_entry : (table : List (PointDenominators E)) (z : E) → All (λ entry. entry.point ≢ z) table
      → Contains (points_of_table table) z → ⊥
  no_entry table z none there =
      All-contains (λ w. w ≢ z) (points_of_table table) z
      (All-map (λ w. w ≢ z) (λ entry. entry.point) table none) there refl

  points_more : (table news : List (PointDenominators E)) (entry : PointDenominators E)
      → news ≡ table ++ entry ∷ []
      → points_of_table news ≡ points_of_table table ++ entry.point ∷ []
  points_more table news entry e = ap points_of_table e
      ∙ map-append (λ entry. entry.point) table (entry ∷ [])

  -- the points of a table with one more entry
  pub entries_kept : (table news : List (PointDenominators E)) (entry : PointDenominators E)
      → news ≡ table ++ entry ∷ [] → (z : E) → Contains (points_of_table table) z
      → Contains (points_of_table news) z
  entries_kept table news entry e z there =
      subst (λ zs. Contains zs z) (sym (points_more table news entry e))
      (Contains-append_left (points_of_table table) (entry.point ∷ []) z there)

  pub entry_added : (table news : List (PointDenominators E)) (entry : PointDenominators E) (z : E)
      → news ≡ table ++ entry ∷ [] → entry.point ≡ z → Contains (points_of_table news) z
  entry_added table news entry z e p =
      subst (λ w. Contains (points_of_table news) w) p
      (subst (λ zs. Contains zs entry.point) (sym (points_more table news entry e))
      (Contains-push (points_of_table table) entry.point))

module _ {F E : Type 0} (f : Fields F E) (asked : List (AskedPoint E)) where
  pub table_nil : IsTableFor f asked []
  table_nil = record {
    inverses = All-nil (AreInverses f);
    distinct = λ i j d p q. absurd (omega (arith, q));
    tallest = All-nil (λ (entry : PointDenominators E). IsTallest asked entry.point
        (vec_len entry.inverses));
  }

  -- an entry of another point, for the tallest matrix opened there
  pub table_more : (coset : List F) (table news : List (PointDenominators E))
      (entry : PointDenominators E)
      (z : E) (n : ℕ) → IsTableFor f asked table → (Contains (points_of_table table) z → ⊥)
      → IsTallest asked z n → HasDenominators f coset (asked_point n z) → entry.point ≡ z
      → entry.inverses.items ≡ inverse_differences f z n → news ≡ table ++ entry ∷ []
      → IsTableFor f asked news
  table_more coset table news entry z n t none tall s p i e = record {
    inverses = subst (λ es. All (AreInverses f) es) (sym e)
        (All-push (AreInverses f) table entry t.inverses inverses);
    distinct = subst (λ zs. AreDistinct zs) (sym (points_more table news entry e))
        (all_pairs_push (λ x y. x ≢ y) (points_of_table table) entry.point t.distinct
        (λ k d l same. none (k, l, get_or_default (points_of_table table) k z d l ∙ same ∙ p)));
    tallest = subst (λ es. All IsTall es) (sym e) (All-push IsTall table entry t.tallest tallest);
  }
    where
      IsTall : PointDenominators E → Type 0
      IsTall entry = IsTallest asked entry.point (vec_len entry.inverses)

      inverses : AreInverses f entry
      inverses = record {
        log_height = s.log_height;
        within = s.within;
        inverses_are = i ∙ ap (λ m. inverse_differences f z m) s.height
            ∙ ap (λ w. inverse_differences f w (2 ^ s.log_height)) (sym p);
      }

      tallest : IsTall entry
      tallest =
          subst (λ w. IsTallest asked w (vec_len entry.inverses)) (sym p)
          (subst (λ m. IsTallest asked z m)
          (sym (entry.inverses.ok.0 ∙ ap length i ∙ inverses_length f n z)) tall)

  covered_point : (table : List (PointDenominators E))
      → All (λ entry. IsTallest asked entry.point (vec_len entry.inverses)) table
      → (a : AskedPoint E) → Contains asked a → Contains (points_of_table table) a.point
      → IsCovered a.height table a.point
  covered_point table tallest a there (k, l, e) =
      let within : k < length table = omega (arith, l, length-map table (λ entry. entry.point)) in
      let same : (d : PointDenominators E) → (get_or table k d).point ≡ a.point =
      λ d. sym (get_or-map (λ entry. entry.point) table k d a.point within) ∙ e in
      record {
        place = k;
        within = within;
        tall = λ d. All-contains
            (λ b. b.point ≡ (get_or table k d).point
            → b.height ≤ vec_len (get_or table k d).inverses)
            asked a (tallest k d within).none_above there (sym (same d));
        point = same;
      }

module _ {F E : Type 0} (f : Fields F E) (rounds : List (OpeningRound F E))
    (table : List (PointDenominators E))
    (t : IsTableFor f (asked_points rounds) table) where
  -- each point of each matrix is covered
  pub all_covered : All (λ a. Contains (points_of_table table) a.point) (asked_points rounds)
      → All (ArePointsCovered table) rounds
  all_covered there k d l i a j =
      all_of_map IsServed (asked_point
      (length (rows (get_or (asked_in (get_or rounds k d)) i a).matrix)))
      (get_or (asked_in (get_or rounds k d)) i a).points
      (all_parts IsServed points_of (asked_in (get_or rounds k d))
      (all_parts IsServed points_in rounds all k d l) i a j)
    where
      IsServed : AskedPoint E → Type 0
      IsServed a = IsCovered a.height table a.point

      all : All IsServed (asked_points rounds)
      all k d l =
          covered_point f (asked_points rounds) table t.tallest (get_or (asked_points rounds) k d)
          (Contains-get_or (asked_points rounds) k d l) (there k d l)

  -- no entry is larger than its matrix
  pub none_larger : All (λ entry. Contains (asked_points rounds) (size_of entry)) table
  none_larger k d l = (t.tallest k d l).asked_there
