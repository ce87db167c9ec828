-- The quotients of a commitment's matrices, from some matrix on, in front of other terms.
use Rattle.std.proofs.Common.{◌≡◌, ◌==◌, if◌then◌else◌, cond, ℕ, zero, suc, ◌+◌, ◌-◌, ◌<◌, ◌≤◌}
use Rattle.std.proofs.Common.{List, [], ◌∷◌, ◌++◌, take, drop, length, map, All, get_or, set, subst}
use Rattle.std.proofs.Common.{true, false, refl, sym, ap, ap₂, ◌∙◌, arith, add-one, append_assoc, eqb, inl, inr}
use Rattle.std.specs.List.{flat_map, zip, between}
use Rattle.std.proofs.lemmas.List.{length-map, get_or-set_same, get_or-set_other, length-set, map-append}
use Rattle.std.proofs.lemmas.List.{take_all, drop_all}
use Rattle.std.proofs.lemmas.Bool.Decides.{eqb_tells}
use Rattle.std.proofs.lemmas.Simd.{map-map}
use Rattle.algebra.specs.Field.{FieldOps, sub}
use Rattle.algebra.specs.Polynomial.{val}
use Rattle.algebra.specs.Quotients.{quotients}
use Rattle.p3_mmcs.specs.Batch.{HasRows}
use Rattle.p3_pcs.specs.Claims.{PointClaim}
use Rattle.p3_fri_relation.specs.Setting.{MatrixClaim}
use Rattle.p3_fri_relation.specs.Heights.{log_height, width, dimensions}
use Rattle.p3_fri_relation.specs.Inputs.{HasPoints}
use Rattle.p3_fri_inputs.specs.Claims.{combined_values, distances, IsReadable}
use Rattle.p3_fri_inputs.specs.Points.{AreCombined}
use Rattle.p3_fri_inputs.proofs.Joined.{length-joined_next, length-joined_at, joined_part}

module _ {F E : Type 0} (K : FieldOps E) (lift : F → E) (log_blowup : ℕ) where
  -- a matrix's quotients
  abbrev pub quotients_of : (x : E) → MatrixClaim E → List F → List E
  quotients_of x m row =
      flat_map (λ z. quotients K z.point x z.values (map lift row)) m.points

  -- the quotients of the matrices of one log height, each beside its row
  abbrev pub terms_of : (h : ℕ) (x : E) → List (MatrixClaim E) → List (List F) → List E
  terms_of h x ms rows = flat_map (λ (m, row).
      if log_height log_blowup m == h then quotients_of x m row else []) (zip ms rows)

  -- from the matrix `k` on, the sums of all log heights are those with the terms of the matrices
  -- from it on in front
  pub record AreSummedFrom (alpha : E) (ms : List (MatrixClaim E)) (rows : List (List F))
      (inverses before : List E) (k end : ℕ) (sums : List E) : Type 0 where
    pub taken : end ≡ length (combined_values K alpha (take k ms))
    pub count : length sums ≡ length before
    pub summed : (read : ℕ → E) (later : ℕ → List E)
        → inverses ≡ map K.inv (distances K log_blowup read ms)
        → ((h : ℕ) (d : E) → h < length before → get_or before h d ≡ val K (later h) alpha)
        → (h : ℕ) (d : E) → h < length before → get_or sums h d
        ≡ val K (terms_of h (read h) (drop k ms) (drop k rows) ++ later h) alpha

  -- before the first turn
  pub none_summed : (alpha : E) (ms : List (MatrixClaim E)) (rows : List (List F))
      (inverses sums : List E) (k end : ℕ) → length ms ≤ k
      → end ≡ length (combined_values K alpha ms)
      → AreSummedFrom alpha ms rows inverses sums k end sums
  none_summed alpha ms rows inverses sums k end all counted = record {
    taken = counted
        ∙ ap (λ xs. length (combined_values K alpha xs)) (sym (take_all k ms all));
    count = refl;
    summed = λ read later inverted before h d l. before h d l
        ∙ ap (λ xs. val K (terms_of h (read h) xs (drop k rows) ++ later h) alpha)
        (sym (drop_all k ms all));
  }

  -- what is known of a matrix among those of a commitment, of which there are sums below `count`
  pub record IsAmong (count powers : ℕ) (alpha : E) (ms : List (MatrixClaim E))
      (rows : List (List F)) (i : ℕ) (m : MatrixClaim E) : Type 0 where
    pub here : i < length ms
    pub is : m ≡ get_or ms i m
    pub height : log_height log_blowup m < count
    pub row_there : i < length rows
    pub row_width : length (get_or rows i []) ≡ width m
    pub within : width m ≤ powers
    pub points : HasPoints m
    pub cut : length (combined_values K alpha (take (i + 1) ms))
        ≡ length (combined_values K alpha (take i ms)) + length m.points
    pub inside : length (combined_values K alpha (take i ms)) + length m.points
        ≤ length (combined_values K alpha ms)

  row_at : (ms : List (MatrixClaim E)) (rows : List (List F)) (i : ℕ) (m : MatrixClaim E)
      → HasRows (map (dimensions log_blowup) ms) rows → i < length ms
      → (i < length rows) × (length (get_or rows i []) ≡ width (get_or ms i m))
  row_at [] rows i m h l = absurd (omega (arith, l))
  row_at (n ∷ ms) [] i m h l = absurd h
  row_at (n ∷ ms) (row ∷ rows) zero m h l = (omega arith, h.0)
  row_at (n ∷ ms) (row ∷ rows) (suc i) m h l =
      let t = row_at ms rows i m h.1 (omega (arith, l)) in (omega (arith, t.0), t.1)

  pub among : (count powers : ℕ) (alpha : E) (ms : List (MatrixClaim E)) (rows : List (List F))
      → All (IsReadable log_blowup count powers) ms
      → HasRows (map (dimensions log_blowup) ms) rows
      → (i : ℕ) (m : MatrixClaim E) → i < length ms → m ≡ get_or ms i m
      → IsAmong count powers alpha ms rows i m
  among count powers alpha ms rows readable opened i m l is =
      let values = λ (m : MatrixClaim E). map (λ z. val K z.values alpha) m.points in
      let points : length (values m) ≡ length m.points =
      length-map m.points (λ z. val K z.values alpha) in
      let row = row_at ms rows i m opened l in
      let read = subst (IsReadable log_blowup count powers) (sym is) (readable i m l) in
      record {
        here = l;
        is = is;
        height = read.height;
        row_there = row.0;
        row_width = row.1 ∙ ap width (sym is);
        within = read.within;
        points = read.points;
        cut = length-joined_next values ms i m l is ∙ ap (λ n. length (flat_map values (take i ms)) + n) points;
        inside = omega (arith, points, length-joined_at values ms i m l is);
      }

  -- the values at the next matrix's points end where those taken begin
  pub ends_before : {count powers : ℕ} {alpha : E} {ms : List (MatrixClaim E)}
      {rows : List (List F)} {inverses before sums : List E} {k end i : ℕ} {m : MatrixClaim E}
      → AreSummedFrom alpha ms rows inverses before k end sums
      → IsAmong count powers alpha ms rows i m → k ≡ i + 1
      → end ≡ length (combined_values K alpha (take i ms)) + length m.points
  ends_before {alpha = alpha} {ms = ms} so_far known next =
      so_far.taken ∙ ap (λ n. length (combined_values K alpha (take n ms))) next ∙ known.cut

  -- one matrix more in front
  terms_next : (h : ℕ) (x : E) (ms : List (MatrixClaim E)) (rows : List (List F)) (i : ℕ)
      (m : MatrixClaim E) → i < length ms → i < length rows
      → terms_of h x (drop i ms) (drop i rows)
      ≡ cond (eqb (log_height log_blowup (get_or ms i m)) h)
      (quotients_of x (get_or ms i m) (get_or rows i [])) []
      ++ terms_of h x (drop (suc i) ms) (drop (suc i) rows)
  terms_next h x [] rows i m l k = absurd (omega (arith, l))
  terms_next h x (n ∷ ms) [] i m l k = absurd (omega (arith, k))
  terms_next h x (n ∷ ms) (row ∷ rows) zero m l k = refl
  terms_next h x (n ∷ ms) (row ∷ rows) (suc i) m l k =
      terms_next h x ms rows i m (omega (arith, l)) (omega (arith, k))

  module _ (alpha : E) (ms : List (MatrixClaim E)) (rows : List (List F)) (i : ℕ)
      (m : MatrixClaim E) (row : List F) (is_m : m ≡ get_or ms i m) (is_row : row ≡ get_or rows i [])
      (here : i < length ms) (there : i < length rows) (later : ℕ → List E) (read : ℕ → E) where
    -- what stands in front of the later terms, from this matrix on and after it
    abbrev from_here : ℕ → List E
    from_here h = terms_of h (read h) (drop i ms) (drop i rows) ++ later h

    abbrev after_it : ℕ → List E
    after_it h = terms_of h (read h) (drop (i + 1) ms) (drop (i + 1) rows) ++ later h

    next_is : (h : ℕ) → from_here h
        ≡ cond (eqb (log_height log_blowup m) h) (quotients_of (read h) m row) [] ++ after_it h
    next_is h =
        ap (λ ts. ts ++ later h) (terms_next h (read h) ms rows i m here there)
        ∙ append_assoc (cond (eqb (log_height log_blowup (get_or ms i m)) h)
        (quotients_of (read h) (get_or ms i m) (get_or rows i [])) [])
        (terms_of h (read h) (drop (suc i) ms) (drop (suc i) rows)) (later h)
        ∙ ap₂ (λ n r. cond (eqb (log_height log_blowup n) h) (quotients_of (read h) n r) []
        ++ (terms_of h (read h) (drop (suc i) ms) (drop (suc i) rows) ++ later h))
        (sym is_m) (sym is_row)
        ∙ ap (λ n. cond (eqb (log_height log_blowup m) h) (quotients_of (read h) m row) []
        ++ (terms_of h (read h) (drop n ms) (drop n rows) ++ later h)) (sym (add-one i))

    pub other_height : (h : ℕ) → eqb (log_height log_blowup m) h ≡ false → from_here h ≡ after_it h
    other_height h e =
        next_is h ∙ ap (λ b. cond b (quotients_of (read h) m row) [] ++ after_it h) e

    pub its_height : (h : ℕ) → eqb (log_height log_blowup m) h ≡ true
        → from_here h ≡ quotients_of (read h) m row ++ after_it h
    its_height h e =
        next_is h ∙ ap (λ b. cond b (quotients_of (read h) m row) [] ++ after_it h) e

  -- the inverses, point by point
  pub inverted : (read : ℕ → E) (ms : List (MatrixClaim E))
      → map K.inv (distances K log_blowup read ms)
      ≡ flat_map (λ m. map (λ z. K.inv (sub K z.point (read (log_height log_blowup m)))) m.points) ms
  inverted read [] = refl
  inverted read (m ∷ ms) =
      let distance = λ (z : PointClaim E). sub K z.point (read (log_height log_blowup m)) in
      map-append K.inv (map distance m.points) (distances K log_blowup read ms)
      ∙ ap₂ (λ xs ys. xs ++ ys) (map-map K.inv distance m.points) (inverted read ms)

  -- the sum of the matrix's log height, with its quotients in front, takes the place of that
  -- without
  pub summed_next : {powers : ℕ} {alpha : E} {ms : List (MatrixClaim E)} {rows : List (List F)}
      {claimed inverses before sums : List E} {k end start i : ℕ} {m : MatrixClaim E}
      {row : List F} {sum : E} (v : E)
      → claimed ≡ combined_values K alpha ms
      → AreSummedFrom alpha ms rows inverses before k end sums
      → IsAmong (length before) powers alpha ms rows i m
      → k ≡ i + 1 → row ≡ get_or rows i [] → start ≡ end - length m.points
      → sum ≡ get_or sums (log_height log_blowup m) sum
      → ((x : E) (n : MatrixClaim E) (later : List E)
      → AreCombined K alpha x n.points (map lift row) (between start end claimed)
      (between start end inverses)
      → sum ≡ val K later alpha → v ≡ val K (quotients_of x n row ++ later) alpha)
      → AreSummedFrom alpha ms rows inverses before i start (set sums (log_height log_blowup m) v)
  summed_next {alpha = alpha} {ms = ms} {rows = rows} {claimed = claimed} {inverses = inverses}
      {before = before} {sums = sums} {end = end} {start = start} {i = i} {m = m} {row = row}
      {sum = sum} v is_claimed so_far among next is_row is_start is_sum gains =
      let here = among.here in
      let is_m = among.is in
      let values = λ (m : MatrixClaim E). map (λ z. val K z.values alpha) m.points in
      let long : length (values m) ≡ length m.points =
      length-map m.points (λ z. val K z.values alpha) in
      let high = log_height log_blowup m in
      let at_end = ends_before so_far among next in
      let at_start : start ≡ length (combined_values K alpha (take i ms)) = omega arith in
      let across : end ≡ start + length (values m) = omega arith in
      let below : high < length sums = omega (arith, among.height, so_far.count) in
      record {
        taken = at_start;
        count = length-set sums high v ∙ so_far.count;
        summed = λ read later is_inverses is_before h d l.
            let inverse = λ (n : MatrixClaim E).
            map (λ z. K.inv (sub K z.point (read (log_height log_blowup n)))) n.points in
            let combined : AreCombined K alpha (read high) m.points (map lift row)
            (between start end claimed) (between start end inverses) = record {
              values = ap (λ xs. between start end xs) is_claimed
                  ∙ joined_part values values (λ n. refl) ms i m start end here is_m at_start across;
              distances = ap (λ xs. between start end xs) (is_inverses ∙ inverted read ms)
                  ∙ joined_part values inverse
                  (λ n. length-map n.points (λ z. val K z.values alpha)
                  ∙ sym (length-map n.points (λ z. K.inv (sub K z.point (read (log_height log_blowup n))))))
                  ms i m start end here is_m at_start across;
              widths = λ j z q. among.points.counts j z q ∙ sym among.row_width ∙ ap length (sym is_row)
                  ∙ sym (length-map row lift);
            } in
            let summed = so_far.summed read later is_inverses is_before in
            let rest : (h : ℕ) (d : E) → h < length before → get_or sums h d
            ≡ val K (after_it alpha ms rows i m row is_m is_row here among.row_there later read h) alpha =
            λ h d l. summed h d l ∙ ap (λ n.
            val K (terms_of h (read h) (drop n ms) (drop n rows) ++ later h) alpha) next in
            elim (eqb_tells high h) [
              | inl (e, same) ↦
                  ap (λ j. get_or (set sums high v) j d) (sym same)
                  ∙ get_or-set_same sums high v d below
                  ∙ gains (read high) m
                  (after_it alpha ms rows i m row is_m is_row here among.row_there later read high)
                  combined
                  (is_sum ∙ rest high sum among.height)
                  ∙ ap (λ j. val K (quotients_of (read j) m row
                  ++ after_it alpha ms rows i m row is_m is_row here among.row_there later read j)
                  alpha) same
                  ∙ ap (λ ts. val K ts alpha) (sym
                  (its_height alpha ms rows i m row is_m is_row here among.row_there later read h e))
              | inr (e, other) ↦
                  get_or-set_other sums high h v d (λ q. other (sym q)) ∙ rest h d l
                  ∙ ap (λ ts. val K ts alpha) (sym
                  (other_height alpha ms rows i m row is_m is_row here among.row_there later read h e))
            ];
      }
