-- The queries that are folded so far.
use Rattle.std.proofs.Common.{◌≡◌, ◌≢◌, ◌↔◌, ◌⊎◌, inl, inr, ℕ, ◌+◌, ◌/◌, ◌^◌, ◌<◌, List, [], ◌∷◌}
use Rattle.std.proofs.Common.{length, map, get_or, ap, ap₂, sym, subst, ◌∙◌, zero-add, arith}
use Rattle.std.proofs.Common.{below_none, below_more}
use Rattle.std.specs.Prelude.{sum, slice_index, EachIndex, SomeIndex, IsOk}
use Rattle.std.specs.List.{enumerate_from}
use Rattle.std.proofs.Math.ListN.{get_or-map}
use Rattle.std.proofs.lemmas.List.{length-map}
use Rattle.std.proofs.lemmas.List.FromFn.{length-enumerate_from, get_or-enumerate_from}
use Rattle.std.specs.declared.vec.Vec.{Vec}
use Rattle.std.proofs.lemmas.Simd.{map-map}
use Rattle.algebra.specs.Nested.{lists, nested}
use Rattle.algebra.specs.Polynomial.{val, tabulate}
use Rattle.algebra.specs.TwoAdic.{pt}
use Rattle.algebra.proofs.Lists.{length-tabulate, tabulate-equal, map-tabulate}
use Rattle.algebra.proofs.Nested.{length-lists, lists_at}
use Rattle.p3_fri_relation.specs.declared.proof.CommitPhaseMultiStep.{CommitPhaseMultiStep}
use Rattle.p3_fri_relation.specs.declared.error.FriError.{FriError}
use Rattle.p3_fri_relation.specs.declared.error.FriError.TheVariants.{OutOfMemory}
use Rattle.p3_fri_relation.specs.declared.error.FriError.TheVariants.{FinalPolyMismatch}
use Rattle.p3_fri_relation.specs.Setting.{Fields}
use Rattle.p3_fri_relation.specs.Queries.{row_indices}
use Rattle.p3_fri_relation.specs.FoldedQuery.{QueryInput, folded, folded_value, group_rows, gains}
use Rattle.p3_fri_relation.specs.Views.{query_input, rows_collected}
use Rattle.p3_fri_queries.specs.Folded.{query_at, EndsAtFinal, indices_folded, rows_folded}
use Rattle.p3_fri_relation.proofs.ZippedLists.{gathered, gathered-next}
use Rattle.p3_fri_relation.proofs.QueryLinks.{length-row_indices}
use Rattle.p3_fri_queries.proofs.Gains.{tabulated}
use Rattle.p3_fri_queries.proofs.Refusals.{failed, not_ok}
use Rattle.p3_fri_queries.proofs.Lengths.{folded_all}

-- collectors without a row
pub rows_none : {T A B D : Type 0} (r : ℕ) (vectors : List (Vec (Vec (Vec T A) B) D))
    → lists vectors ≡ tabulate r (λ _. []) → rows_collected vectors ≡ tabulate r (λ _. [])
rows_none {T} {A} {B} {D} r vectors e =
    sym (map-map (λ (sets : List (Vec (Vec T A) B)). nested sets)
    (λ (v : Vec (Vec (Vec T A) B) D). v.items) vectors)
    ∙ ap (map (λ (sets : List (Vec (Vec T A) B)). nested sets)) e
    ∙ map-tabulate (λ (sets : List (Vec (Vec T A) B)). nested sets) r (λ _. [])

module _ {F E : Type 0} (f : Fields F E) (fold : ℕ → ℕ → ℕ → E → List E → E)
    (final_poly : List E) where
  -- when the value and the index that a query is folded to meet the final polynomial
  pub ends_here : (q : QueryInput E) (value : E) (index : ℕ) → length q.betas ≡ length q.log_arities
      → length q.siblings ≡ length q.log_arities → value ≡ folded_value q f.ext fold
      → index ≡ q.index / 2 ^ sum (folded q)
      → (value ≡ val f.ext final_poly (f.lift (pt f.base f.root index q.final_height)))
      ↔ EndsAtFinal f fold final_poly q
  ends_here q value index b s e i =
      let g : index ≡ q.index / 2 ^ sum q.log_arities =
      i ∙ ap (λ (arities : List ℕ). q.index / 2 ^ sum arities) (folded_all q b s) in
      let h = ap (λ (n : ℕ). val f.ext final_poly (f.lift (pt f.base f.root n q.final_height))) g in
      (λ p. sym e ∙ p ∙ h, λ p. e ∙ p ∙ sym h)

  module _ (log_arities positions : List ℕ) (q : ℕ → QueryInput E) where
    pub record FoldedUpTo (n : ℕ) (indices : List (List ℕ)) (rows : List (List (List (List E))))
        : Type 0 where
      pub indices_are : indices ≡ gathered (length log_arities) n
          (λ j. row_indices log_arities (slice_index positions j)) 0
      pub rows_are : rows ≡ gathered (length log_arities) n
          (λ j. map (λ row. row ∷ []) (group_rows (q j) f.ext fold)) ([] ∷ [])
      pub ends : (j : ℕ) → j < n → EndsAtFinal f fold final_poly (q j)

    folded_more : (n m : ℕ) (indices indices' : List (List ℕ))
        (rows rows' : List (List (List (List E))))
        → FoldedUpTo n indices rows → m ≡ n + 1
        → length (group_rows (q n) f.ext fold) ≡ length log_arities
        → indices' ≡ gains indices (row_indices log_arities (slice_index positions n))
        → rows' ≡ gains rows (map (λ row. row ∷ []) (group_rows (q n) f.ext fold))
        → EndsAtFinal f fold final_poly (q n) → FoldedUpTo m indices' rows'
    folded_more n m indices indices' rows rows' so_far is_m l i r end =
        let rows_at = λ (j : ℕ). map (λ row. row ∷ []) (group_rows (q j) f.ext fold) in
        let indices_at = λ (j : ℕ). row_indices log_arities (slice_index positions j) in
        let more : FoldedUpTo (n + 1) indices' rows' = record {
          indices_are = i ∙ ap (λ lists. gains lists (indices_at n)) so_far.indices_are
              ∙ gathered-next (length log_arities) n indices_at 0
              (length-row_indices log_arities (slice_index positions n));
          rows_are = r ∙ ap (λ lists. gains lists (rows_at n)) so_far.rows_are
              ∙ gathered-next (length log_arities) n rows_at ([] ∷ [])
              (length-map (group_rows (q n) f.ext fold) (λ row. row ∷ []) ∙ l);
          ends = below_more (λ (j : ℕ). EndsAtFinal f fold final_poly (q j)) n so_far.ends end;
        } in
        subst (λ (k : ℕ). FoldedUpTo k indices' rows') (sym is_m) more

-- what was read is the `n`-th query
pub record IsNext {E : Type 0} (positions : List ℕ) (q : ℕ → QueryInput E) (n query : ℕ)
    (here : QueryInput E) : Type 0 where
  pub below : n < length positions
  pub number : query ≡ n
  pub is : here ≡ q n

-- so is what was read of vectors of inputs at the `n`-th place
module _ {E M Com Data Path Err A : Type 0} (positions : List ℕ) (betas : List E)
    (log_arities : List ℕ) (openings : List (CommitPhaseMultiStep E M Com Data Path Err))
    (vectors : List (Vec (ℕ × E) A)) (log_height final_height : ℕ) where
  pub query_read : {n query : ℕ} {inputs : Vec (ℕ × E) A}
      → (n < length vectors) × (query ≡ n) × (inputs ≡ get_or vectors n inputs)
      → length vectors ≡ length positions
      → IsNext positions
      (query_at positions betas log_arities openings (lists vectors) log_height final_height) n
      query
      (query_input query (get_or positions query 0) betas log_arities openings inputs.items
      log_height final_height)
  query_read {n} {query} {inputs} h count = record {
    below = omega (arith, h.0, count);
    number = h.1;
    is = ap₂ (λ (j : ℕ) (us : List (ℕ × E)). query_input j (get_or positions j 0) betas log_arities
        openings us log_height final_height) h.1
        (ap (λ (v : Vec (ℕ × E) A). v.items) h.2 ∙ sym (lists_at vectors n inputs h.0));
  }

-- what a counted iterator gives
pub counted : {X : Type 0} (xs : List X) (n query : ℕ) (x : X)
    → (n < length (enumerate_from 0 xs)) × ((query, x) ≡ get_or (enumerate_from 0 xs) n (query, x))
    → (n < length xs) × (query ≡ n) × (x ≡ get_or xs n x)
counted {X} xs n query x h =
    let l : n < length xs = omega (arith, h.0, length-enumerate_from 0 xs) in
    let e : (query, x) ≡ (0 + n, get_or xs n x) = h.1 ∙ get_or-enumerate_from 0 xs n (query, x) l in
    (l, ap (λ (p : ℕ × X). p.0) e ∙ zero-add n, ap (λ (p : ℕ × X). p.1) e)

module _ {F E : Type 0} {f : Fields F E} {fold : ℕ → ℕ → ℕ → E → List E → E} {final_poly : List E}
    {log_arities positions : List ℕ} {q : ℕ → QueryInput E} where
  pub folded_none : {indices : List (List ℕ)} {rows : List (List (List (List E)))}
      → indices ≡ tabulate (length log_arities) (λ _. [])
      → rows ≡ tabulate (length log_arities) (λ _. [])
      → FoldedUpTo f fold final_poly log_arities positions q 0 indices rows
  folded_none e g = record {
    indices_are = e;
    rows_are = g;
    ends = below_none (λ (j : ℕ). EndsAtFinal f fold final_poly (q j));
  }

  pub indices_length : {A : Type 0} {n : ℕ} (vectors : List (Vec ℕ A))
      {rows : List (List (List (List E)))}
      → FoldedUpTo f fold final_poly log_arities positions q n (lists vectors) rows
      → length vectors ≡ length log_arities
  indices_length vectors so_far =
      sym (length-lists vectors) ∙ ap length so_far.indices_are
      ∙ length-tabulate (length log_arities) _

  pub rows_length : {A B D : Type 0} {n : ℕ} {indices : List (List ℕ)}
      (vectors : List (Vec (Vec (Vec E A) B) D))
      → FoldedUpTo f fold final_poly log_arities positions q n indices (rows_collected vectors)
      → length vectors ≡ length log_arities
  rows_length vectors so_far =
      sym (length-map vectors (λ round. nested round.items)) ∙ ap length so_far.rows_are
      ∙ length-tabulate (length log_arities) _

  -- a query is folded, which was read
  pub folded_read : {n m query : ℕ} {here : QueryInput E} {indices indices' : List (List ℕ)}
      {rows rows' : List (List (List (List E)))}
      → FoldedUpTo f fold final_poly log_arities positions q n indices rows
      → IsNext positions q n query here → m ≡ n + 1
      → length (group_rows here f.ext fold) ≡ length log_arities
      → indices' ≡ gains indices (row_indices log_arities (get_or positions query 0))
      → rows' ≡ gains rows (map (λ row. row ∷ []) (group_rows here f.ext fold))
      → EndsAtFinal f fold final_poly here
      → FoldedUpTo f fold final_poly log_arities positions q m indices' rows'
  folded_read {n} {m} {query} {here} {indices} {indices'} {rows} {rows'} so_far next is_m l i r
      end =
      folded_more f fold final_poly log_arities positions q n m indices indices' rows rows' so_far
      is_m
      (subst (λ (p : QueryInput E). length (group_rows p f.ext fold) ≡ length log_arities) next.is
      l)
      (i ∙ ap (λ (j : ℕ). gains indices (row_indices log_arities (get_or positions j 0)))
      next.number)
      (r ∙ ap (λ (p : QueryInput E). gains rows
      (map (λ row. row ∷ []) (group_rows p f.ext fold))) next.is)
      (subst (λ (p : QueryInput E). EndsAtFinal f fold final_poly p) next.is end)

  pub ends_all : {n : ℕ} {indices : List (List ℕ)} {rows : List (List (List (List E)))}
      → FoldedUpTo f fold final_poly log_arities positions q n indices rows → n ≡ length positions
      → EachIndex positions (λ j. EndsAtFinal f fold final_poly (q j))
  ends_all all e j l = all.ends j (rw e l)

  pub indices_all : {n : ℕ} {indices : List (List ℕ)} {rows : List (List (List (List E)))}
      → FoldedUpTo f fold final_poly log_arities positions q n indices rows → n ≡ length positions
      → indices ≡ indices_folded log_arities positions
  indices_all {n} all e =
      all.indices_are ∙ tabulate-equal (length log_arities) _ _
      (λ k l. sym (tabulated (λ (position : ℕ). slice_index (row_indices log_arities position) k) n
      positions 0 (sym e)))

  pub rows_all : {n : ℕ} {indices : List (List ℕ)} {rows : List (List (List (List E)))}
      → FoldedUpTo f fold final_poly log_arities positions q n indices rows → n ≡ length positions
      → rows ≡ rows_folded f.ext fold (length log_arities) (length positions) q
  rows_all {n} all e =
      all.rows_are
      ∙ tabulate-equal (length log_arities) _ _ (λ k _. tabulate-equal n _ _
      (λ j _. get_or-map (λ (row : List E). row ∷ []) (group_rows (q j) f.ext fold) k []))
      ∙ ap (λ (m : ℕ). rows_folded f.ext fold (length log_arities) m q) e

-- a refusal at one query
module _ {F E : Type 0} (f : Fields F E) (fold : ℕ → ℕ → ℕ → E → List E → E) (final_poly : List E)
    {positions : List ℕ} {q : ℕ → QueryInput E} {n query : ℕ} {here : QueryInput E}
    (next : IsNext positions q n query here) {A B : Type 0} (e : FriError A B)
    (fault : (e ≡ OutOfMemory) ⊎ ((e ≡ FinalPolyMismatch) × (¬ EndsAtFinal f fold final_poly here)))
  where
    pub refused_each : (T : Type 0) → failed T e ≢ failed T OutOfMemory
        → IsOk (failed T e) ↔ EachIndex positions (λ j. EndsAtFinal f fold final_poly (q j))
    refused_each T memory = (
      λ is_ok. absurd (not_ok is_ok),
      λ each. absurd (elim fault [
        | inl out ↦ memory (ap (λ x. failed T x) out)
        | inr wrong ↦ wrong.1 (subst (λ (p : QueryInput E). EndsAtFinal f fold final_poly p)
            (sym next.is) (each n next.below))
      ]),
    )

    pub refused_some : (e ≡ OutOfMemory) ⊎ ((e ≡ FinalPolyMismatch)
        × SomeIndex positions (λ j. ¬ EndsAtFinal f fold final_poly (q j)))
    refused_some = elim fault [
      | inl out ↦ inl out
      | inr wrong ↦ inr (
        wrong.0,
        (
          n,
          next.below,
          subst (λ (p : QueryInput E). ¬ EndsAtFinal f fold final_poly p) next.is wrong.1,
        ),
      )
    ]
