-- A whole proof: its rounds open to the rows of the queries' chains, and these end at the final
-- polynomial's value.
use Rattle.std.proofs.Common.{◌≡◌, ℕ, ◌+◌, ◌/◌, ◌^◌, ◌<◌, ◌≤◌, List, []}
use Rattle.std.proofs.Common.{◌∷◌, Some, length, get_or, map, sum, refl, sym, ap, ap₂, ◌∙◌, arith, subst}
use Rattle.std.specs.Prelude.{EachIndex}
use Rattle.algebra.specs.Field.{IsField, IsHomomorphism}
use Rattle.algebra.specs.Folds.{neighbours, LowersDegrees}
use Rattle.algebra.specs.Polynomial.{val}
use Rattle.algebra.specs.TwoAdic.{AreRoots, pt}
use Rattle.algebra.specs.Rounds.{after_rounds, final_polynomial, total_log_arity}
use Rattle.algebra.proofs.FinalPolynomials.{chain_ends_at_final_polynomial}
use Rattle.algebra.proofs.Lifting.{lifted_pt}
use Rattle.algebra.proofs.Points.{lifted_roots}
use Rattle.p3_fri_relation.specs.Setting.{Setting, Parameters, RoundOpening, Proof, final_height}
use Rattle.p3_fri_relation.specs.Queries.{Source, rounds_of, heights_after, row_indices}
use Rattle.p3_fri_relation.specs.Queries.{final_value}
use Rattle.p3_fri_relation.specs.TestRounds.{OpensRound, RoundsOpen, QueryEnds}
use Rattle.p3_fri_prover.specs.Inputs.{input_of}
use Rattle.p3_fri_prover.specs.Proved.{log_arities, positions, replayed, entries_met, AreLow}
use Rattle.p3_fri_prover.proofs.Ways.{words, siblings_in, total_of_rounds}
use Rattle.p3_fri_prover.proofs.Queries.{by_place, rows_by_query, link_of_query}

module _ {F E C Com Path InCom InPath : Type 0} (s : Setting F E C Com Path InCom InPath)
    (p : Parameters) (heights : List ℕ) (top : ℕ) (ws : List (List E)) (c : C)
    (proof : Proof F E Com Path InPath) where
  abbrev arities : List ℕ
  arities = log_arities p heights top

  abbrev ps : List ℕ
  ps = positions s p heights top ws c proof

  abbrev betas : List E
  betas = (replayed s p heights top ws c proof).betas

  abbrev first : List E
  first = get_or ws 0 []

  abbrev folded_words : List (List E)
  folded_words = words s.fields.ext s.fold (input_of heights ws) arities betas top first

  abbrev source : Source E
  source = entries_met s.fields.ext heights top ws

  abbrev opens : (k : ℕ) → Com × RoundOpening E Path → Type 0
  opens = OpensRound s p arities top proof source betas ps

  module _ (drawn : length betas ≡ length arities) (whole : length first ≡ 2 ^ top)
      (within : sum arities ≤ top)
      (below : (j : ℕ) → j < length ps → get_or ps j 0 < 2 ^ top)
      (many : length ps ≡ p.num_queries)
      (rounds_opened : length proof.rounds ≡ length arities)
      (commitments : length proof.commitments ≡ length arities)
      (siblings : (k : ℕ) (o : RoundOpening E Path) → k < length arities
      → (get_or proof.rounds k o).siblings
      ≡ map (λ q. siblings_in s.fields.ext s.fold (input_of heights ws) arities betas top first q k)
      ps)
      (opened : (k : ℕ) (com' : Com) (o : RoundOpening E Path) → k < length arities
      → s.opens_round (get_or proof.commitments k com')
      (record {
        width = 2 ^ get_or arities k 0;
        height = 2 ^ get_or (heights_after arities top) k 0;
      } ∷ [])
      (map (λ q. get_or (row_indices arities q) k 0) ps)
      (map (λ q. neighbours (get_or folded_words k []) (get_or (row_indices arities q) k 0)
      (get_or arities k 0) ∷ []) ps) (get_or proof.rounds k o).path) where
    pub rounds_open : RoundsOpen s p arities top proof source betas ps
    rounds_open =
        by_place opens (length arities) 0 proof.commitments
        proof.rounds commitments rounds_opened
        (λ k com' o l.
        let e : 0 + k ≡ k = omega arith in
        subst (λ m. opens m
        (get_or proof.commitments k com', get_or proof.rounds k o)) (sym e)
        (subst (λ sets. s.opens_round (get_or proof.commitments k com')
        (record {
          width = 2 ^ get_or arities k 0;
          height = 2 ^ get_or (heights_after arities top) k 0;
        } ∷ [])
        (map (λ q. get_or (row_indices arities q) k 0) ps) sets (get_or proof.rounds k o).path)
        (sym (rows_by_query s.fields.ext s.fold (input_of heights ws) top first arities betas ps
        proof.rounds drawn whole within below rounds_opened siblings
        (source.met 0) k p.num_queries l many (λ q h m. refl)))
        (opened k com' o l)))

    module _ (two_adicity : ℕ) (base : IsField s.fields.base) (ext : IsField s.fields.ext)
        (lifts : IsHomomorphism s.fields.base s.fields.ext s.fields.lift)
        (roots : AreRoots s.fields.base two_adicity s.fields.root) (small : top ≤ two_adicity)
        (falls : LowersDegrees s.fields.ext (λ k. s.fields.lift (s.fields.root k)) two_adicity
        s.fold)
        (is_first : input_of heights ws top ≡ Some first)
        (total : sum arities + final_height p ≡ top)
        (final : proof.final_poly ≡ final_polynomial s.fields.ext
        (λ k. s.fields.lift (s.fields.root k)) p.log_final_poly_len
        (after_rounds s.fields.ext s.fold (input_of heights ws) top (rounds_of arities betas)
        first)) where
      pub chains_end : AreLow s p heights top ws c proof
          → EachIndex ps (QueryEnds s p arities top proof source betas ps)
      chains_end low j l =
          let q = get_or ps j 0 in
          let w : ℕ → E = λ k. s.fields.lift (s.fields.root k) in
          let e = total_of_rounds arities betas drawn in
          let ends = link_of_query s.fields.ext s.fold (input_of heights ws) top first arities
          betas ps proof.rounds drawn whole within below rounds_opened siblings
          (source.met j q) j _ l
          (chain_ends_at_final_polynomial s.fields.ext ext two_adicity w
          (lifted_roots s.fields.base s.fields.ext s.fields.lift base ext lifts two_adicity
          s.fields.root roots) s.fold falls (input_of heights ws)
          (source.met j q) top p.log_final_poly_len p.log_blowup
          (rounds_of arities betas) first q low.degrees (low.degrees top first is_first) small
          (omega (arith, total, e)) (below j l) (λ h m. refl)) in
          subst (λ link. link.value ≡ final_value s p proof link) (sym ends)
          (ap₂ (λ f x. val s.fields.ext f x) (sym final)
          (ap (λ h. pt s.fields.ext w (q / 2 ^ total_log_arity (rounds_of arities betas)) h)
          (let f : p.log_final_poly_len + p.log_blowup ≡ p.log_blowup + p.log_final_poly_len =
          omega arith in f)
          ∙ sym (lifted_pt s.fields.base s.fields.ext s.fields.lift lifts s.fields.root
          (q / 2 ^ total_log_arity (rounds_of arities betas)) (final_height p))))
