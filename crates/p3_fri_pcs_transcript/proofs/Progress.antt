-- Lists of values, absorbed and compared one after another.
use Rattle.std.proofs.Common.{◌≡◌, ℕ, ◌+◌, ◌-◌, ◌^◌, min, List, [], ◌∷◌, ◌++◌, length, map, drop, sym, ap, subst, ◌∙◌, append_assoc}
use Rattle.std.specs.List.{flat_map}
use Rattle.p3_challenger_fs.specs.declared.pattern.Hierarchy.TheVariants.{Atomic}
use Rattle.p3_challenger_fs.specs.declared.pattern.Kind.TheVariants.{Message}
use Rattle.p3_challenger_fs.specs.declared.pattern.TypeTag.TheVariants.{Algebra}
use Rattle.p3_challenger_fs.specs.declared.pattern.Length.TheVariants.{Fixed}
use Rattle.p3_challenger_fs.specs.declared.pattern.Turn.{Turn}
use Rattle.p3_challenger_fs.specs.declared.script.Script.{Script}
use Rattle.p3_challenger_core.specs.Run.{observed_all}
use Rattle.p3_challenger_fs.specs.Script.{remaining}
use Rattle.p3_challenger_fs.specs.Turns.{IsNext}
use Rattle.p3_fri_pow.proofs.Turns.{next_of, rest_of}
use Rattle.p3_fri_pcs_transcript.specs.declared.pcs_transcript.described.DescribedCounts.{DescribedCounts}
use Rattle.p3_fri_pcs_transcript.specs.Absorption.{Absorbs, ClaimsThen}
use Rattle.p3_fri_pcs_transcript.specs.Cursor.{counts_left, IsCompared}
use Rattle.p3_fri_pcs_transcript.specs.Turns.{claim_turns}
use Rattle.p3_fri_pcs_transcript.proofs.ClaimTurns.{absorbed_both, absorbed_one, claims_both, claims_first}
use Rattle.p3_fri_pcs_transcript.proofs.Comparisons.{compared_one, compared_next}

module _ {C F E : Type 0} (observe : C → F → C) (coefficients : E → List F) (d : ℕ) where
  -- one more, whose turn was the next
  pub absorbs_more : (start before after : Script) (c now last : C) (lists all : List (List E)) (values : List E)
      → Absorbs observe coefficients d start before c now lists
      → last ≡ observed_all observe now (flat_map coefficients values) → remaining after ≡ drop 1 (remaining before)
      → all ≡ lists ++ values ∷ [] → Absorbs observe coefficients d start after c last all
  absorbs_more start before after c now last lists all values till state turns is = record {
    state = absorbed_one observe coefficients now last values state
        ∙ ap (λ s. observed_all observe s (flat_map coefficients (values ++ []))) till.state
        ∙ sym (absorbed_both observe coefficients c lists (values ∷ []))
        ∙ ap (λ ls. observed_all observe c (flat_map coefficients (flat_map (λ l. l) ls))) (sym is);
    turns = λ rest was. rest_of _ _ _ _
        (till.turns (claim_turns d (map length (values ∷ [])) ++ rest)
        (claims_first d lists (values ∷ []) rest (was ∙ ap (λ ls. claim_turns d (map length ls) ++ rest) is)))
        turns;
  }

  -- the turn of the next list is the next
  pub claim_is_next : (start now : Script) (c s : C) (lists all more : List (List E)) (slice values : List E) (rest : List Turn)
      → Absorbs observe coefficients d start now c s lists → slice ≡ values → all ≡ lists ++ (values ∷ []) ++ more
      → remaining start ≡ claim_turns d (map length all) ++ rest
      → IsNext Atomic Message (Algebra d) (Fixed (length slice)) (remaining now)
  claim_is_next start now c s lists all more slice values rest till same is was =
      next_of Atomic Message (Algebra d) (Fixed (length slice)) (remaining now) (claim_turns d (map length more) ++ rest)
      (till.turns (claim_turns d (map length (slice ∷ more)) ++ rest)
      (claims_first d lists (slice ∷ more) rest
      (was ∙ ap (λ ls. claim_turns d (map length ls) ++ rest)
      (is ∙ append_assoc lists (values ∷ []) more ∙ ap (λ vs. lists ++ vs ∷ more) (sym same)))))

  -- these lists were compared and absorbed
  pub record Progress (start now : DescribedCounts) (before after : Script) (c last : C) (lists : List (List E)) : Type 0 where
    pub compared : IsCompared start now lists
    pub absorbed : Absorbs observe coefficients d before after c last lists

  -- one more list
  pub progress_more : (start now next : DescribedCounts) (before at after : Script) (c s last : C) (lists all : List (List E)) (values : List E)
      → Progress start now before at c s lists
      → counts_left now ≡ length values ∷ counts_left next → next.opening ≡ min (now.opening + 1) (2 ^ 64 - 1)
      → last ≡ observed_all observe s (flat_map coefficients values) → remaining after ≡ drop 1 (remaining at)
      → all ≡ lists ++ values ∷ [] → Progress start next before after c last all
  progress_more start now next before at after c s last lists all values till counts place state turns is = record {
    compared = compared_next start now next lists (values ∷ []) all is till.compared (compared_one now next values counts place);
    absorbed = absorbs_more before at after c s last lists all values till.absorbed state turns is;
  }

-- lists that are equal to those
module _ {C F E : Type 0} {observe : C → F → C} {coefficients : E → List F} {d : ℕ} where
  pub absorbs_equal : {before after : Script} {c last : C} {lists all : List (List E)}
      → Absorbs observe coefficients d before after c last lists → lists ≡ all → Absorbs observe coefficients d before after c last all
  absorbs_equal {before} {after} {c} {last} till is = subst (λ ls. Absorbs observe coefficients d before after c last ls) is till

  pub progress_equal : {start now : DescribedCounts} {before after : Script} {c last : C} {lists all : List (List E)}
      → Progress observe coefficients d start now before after c last lists → lists ≡ all
      → Progress observe coefficients d start now before after c last all
  progress_equal {start} {now} {before} {after} {c} {last} till is =
      subst (λ ls. Progress observe coefficients d start now before after c last ls) is till

  -- the turn of the next count is the next
  pub count_is_next : {start now : DescribedCounts} {before at : Script} {c s : C} {lists : List (List E)} (next : DescribedCounts) (count : ℕ)
      → Progress observe coefficients d start now before at c s lists → counts_left now ≡ count ∷ counts_left next
      → ClaimsThen d (counts_left start) (remaining before) → IsNext Atomic Message (Algebra d) (Fixed count) (remaining at)
  count_is_next {start} {now} {before} {at} {c} {s} {lists} next count till counts first =
      let left = counts_left next in
      next_of Atomic Message (Algebra d) (Fixed count) (remaining at) (claim_turns d left ++ first.0)
      (till.absorbed.turns (claim_turns d (count ∷ left) ++ first.0)
      (first.1 ∙ ap (λ counts. claim_turns d counts ++ first.0) (till.compared.counts ∙ ap (λ counts. map length lists ++ counts) counts)
      ∙ claims_both d (map length lists) (count ∷ left) first.0))
