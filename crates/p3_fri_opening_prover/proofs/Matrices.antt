-- The matrices of rounds, and those that are opened of them with values.
use Rattle.std.proofs.Common.{◌≡◌, ◌<◌, ◌≤◌, ◌^◌, ℕ, suc, List, [], ◌∷◌, map}
use Rattle.std.proofs.Common.{length, All, sym, ◌∙◌, arith}
use Rattle.std.specs.List.{AllZip}
use Rattle.std.proofs.lemmas.Nat.{pow_pos}
use Rattle.std.proofs.lemmas.List.{length-map}
use Rattle.std.proofs.Math.Nat.{pow-le-pow_right}
use Rattle.algebra.specs.Nested.{lists}
use Rattle.algebra.proofs.Lists.{Each, each_from_All, All_from_each, each-append}
use Rattle.p3_matrix.specs.declared.dense.RowMajorMatrix.{RowMajorMatrix}
use Rattle.p3_matrix.specs.Matrix.{rows}
use Rattle.p3_mmcs.specs.Batch.{max_height, dimensions_of}
use Rattle.p3_pcs.specs.Claims.{zip_with}
use Rattle.p3_fri_relation.specs.Setting.{Parameters}
use Rattle.p3_fri_openings.specs.declared.round.OpeningRound.{OpeningRound}
use Rattle.p3_fri_openings.specs.Rounds.{HasCoset, IsRound, ask, log_height}
use Rattle.p3_fri_relation.specs.TallEnough.{IsTallEnough}
use Rattle.p3_fri_openings.specs.Refusals.{AreTallEnough}
use Rattle.p3_fri_openings.proofs.Log2.{pow-log2}
use Rattle.p3_fri_batch.specs.Words.{Opened}
use Rattle.p3_fri_batch.specs.Rounds.{HasValues, HaveValues, opened_at, opened_in, opened_of}
use Rattle.p3_fri_completeness.proofs.Claims.{each_left, each_right}
use Rattle.p3_fri_opening_prover.proofs.Transported.{all_same}

-- what holds of the matrices
module _ {F E : Type 0} (P : RowMajorMatrix F → Type 0) where
  abbrev OfOpened : Opened F E → Type 0
  OfOpened m = P m.matrix

  opened_here : (ms : List (RowMajorMatrix F)) (points : List (List E))
      (values : List (List (List E))) → Each P ms
      → Each OfOpened (zip_with opened_at (zip_with ask ms points) values)
  opened_here [] points values h = tt
  opened_here (m ∷ ms) [] values h = tt
  opened_here (m ∷ ms) (zs ∷ points) [] h = tt
  opened_here (m ∷ ms) (zs ∷ points) (ys ∷ values) h = (h.0, opened_here ms points values h.1)

  opened_each : (rounds : List (OpeningRound F E)) (values : List (List (List (List E))))
      → Each (λ r. Each P r.matrices.now) rounds → Each OfOpened (opened_of rounds values)
  opened_each [] values h = tt
  opened_each (r ∷ rounds) [] h = tt
  opened_each (r ∷ rounds) (ys ∷ values) h =
      each-append OfOpened (opened_in r ys) (opened_of rounds values)
      (opened_here r.matrices.now (lists r.points.now) ys h.0)
      (opened_each rounds values h.1)

  all_by_round : (rounds : List (OpeningRound F E)) → All (λ r. All P r.matrices.now) rounds
      → Each (λ r. Each P r.matrices.now) rounds
  all_by_round rounds h = by_round rounds (each_from_All (λ r. All P r.matrices.now) rounds h)
    where
      by_round : (rs : List (OpeningRound F E)) → Each (λ r. All P r.matrices.now) rs
          → Each (λ r. Each P r.matrices.now) rs
      by_round [] k = tt
      by_round (r ∷ rs) k = (each_from_All P r.matrices.now k.0, by_round rs k.1)

  -- holds of what is opened of them
  pub of_opened : (rounds : List (OpeningRound F E)) (values : List (List (List (List E))))
      → All (λ r. All P r.matrices.now) rounds → All OfOpened (opened_of rounds values)
  of_opened rounds values h =
      All_from_each OfOpened (opened_of rounds values)
      (opened_each rounds values (all_by_round rounds h))

  -- and the other way round, where all of them are opened
  back_here : (ms : List (RowMajorMatrix F)) (points : List (List E))
      (values : List (List (List E))) → length points ≡ length ms
      → AllZip HasValues (zip_with ask ms points) values
      → Each OfOpened (zip_with opened_at (zip_with ask ms points) values) → Each P ms
  back_here [] points values count have h = tt
  back_here (m ∷ ms) [] values count have h = absurd (omega (arith, count))
  back_here (m ∷ ms) (zs ∷ points) [] count have h = absurd have
  back_here (m ∷ ms) (zs ∷ points) (ys ∷ values) count have h =
      (h.0, back_here ms points values (omega (arith, count)) have.1 h.1)

  back_each : (adicity : ℕ) (rounds : List (OpeningRound F E))
      (values : List (List (List (List E)))) → Each (IsRound adicity) rounds
      → AllZip HaveValues rounds values → Each OfOpened (opened_of rounds values)
      → Each (λ r. All P r.matrices.now) rounds
  back_each adicity [] values are have h = tt
  back_each adicity (r ∷ rounds) [] are have h = absurd have
  back_each adicity (r ∷ rounds) (ys ∷ values) are have h = (
    All_from_each P r.matrices.now
        (back_here r.matrices.now (lists r.points.now) ys
        (length-map r.points.now (λ v. v.items) ∙ are.0.lists_of_points) have.0
        (each_left OfOpened (opened_in r ys) (opened_of rounds values) h)),
    back_each adicity rounds values are.1 have.1
        (each_right OfOpened (opened_in r ys) (opened_of rounds values) h),
  )

  pub of_rounds : (adicity : ℕ) (rounds : List (OpeningRound F E))
      (values : List (List (List (List E)))) → All (IsRound adicity) rounds
      → AllZip HaveValues rounds values → All OfOpened (opened_of rounds values)
      → All (λ r. All P r.matrices.now) rounds
  of_rounds adicity rounds values are have h =
      All_from_each (λ r. All P r.matrices.now) rounds
      (back_each adicity rounds values (each_from_All (IsRound adicity) rounds are) have
      (each_from_All OfOpened (opened_of rounds values) h))

module _ {F : Type 0} where
  -- the greatest height of matrices on cosets, none higher than `top`
  max_bounded : (adicity top : ℕ) (ms : List (RowMajorMatrix F)) → Each (HasCoset adicity) ms
      → Each (λ m. log_height m ≤ top) ms → max_height (dimensions_of ms) ≤ 2 ^ top
  max_bounded adicity top [] cosets bound = omega (arith, pow_pos top)
  max_bounded adicity top (m ∷ ms) cosets bound =
      let rest = max_bounded adicity top ms cosets.1 bound.1 in
      let height = pow-log2 (length (rows m)) cosets.0.power.0 cosets.0.power.1 in
      let two : 0 < 2 = omega arith in
      let low : 2 ^ log_height m ≤ 2 ^ top = pow-le-pow_right two bound.0 in
      omega (arith, rest, height, low)

module _ {F E : Type 0} where
  -- each stands on a coset
  pub opened_cosets : (adicity : ℕ) (rounds : List (OpeningRound F E))
      (values : List (List (List (List E)))) → All (IsRound adicity) rounds
      → All (λ m. log_height m.matrix < suc adicity) (opened_of rounds values)
  opened_cosets adicity rounds values are k d l =
      let here = of_opened (HasCoset adicity) rounds values
      (λ i r h. let is = are i r h in is.cosets) k d l in
      omega (arith, here.within)

  pub opened_tall : (p : Parameters) (rounds : List (OpeningRound F E))
      (values : List (List (List (List E))))
      → All (λ r. AreTallEnough p r.matrices.now) rounds
      → All (λ m. IsTallEnough p (log_height m.matrix)) (opened_of rounds values)
  opened_tall p rounds values tall =
      of_opened (λ m. IsTallEnough p (log_height m)) rounds values tall

  -- of each round, and of each datum that holds such matrices
  pub data_bounded : {D : Type 0} (committed : D → List (RowMajorMatrix F)) (adicity top : ℕ)
      (rounds : List (OpeningRound F E)) (values : List (List (List (List E)))) (opened : List D)
      → All (IsRound adicity) rounds → AllZip HaveValues rounds values
      → All (λ m. log_height m.matrix ≤ top) (opened_of rounds values)
      → map (λ d. committed d) opened ≡ map (λ r. r.matrices.now) rounds
      → All (λ d. max_height (dimensions_of (committed d)) ≤ 2 ^ top) opened
  data_bounded committed adicity top rounds values opened are have bound same =
      all_same (λ r. r.matrices.now) (λ d. committed d) rounds opened (sym same)
      (λ ms. max_height (dimensions_of ms) ≤ 2 ^ top)
      (λ k r l.
      let is = are k r l in
      let low =
      of_rounds (λ m. log_height m ≤ top) adicity rounds values are have bound k r l in
      max_bounded adicity top _ (each_from_All (HasCoset adicity) _ is.cosets)
      (each_from_All (λ m. log_height m ≤ top) _ low))
