-- Openings of trees that don't collide with others of the same indices have the others' rows.
use Rattle.std.proofs.Common.{◌≡◌, ℕ, zero, suc, ◌+◌, ◌^◌, ◌<◌, List, [], ◌∷◌, length, map, get_or}
use Rattle.std.proofs.Common.{refl, ap, ap₂, ◌∙◌, subst, arith}
use Rattle.std.specs.List.{AllZip, zip, range_with_len}
use Rattle.std.proofs.lemmas.List.{get_or-map}
use Rattle.p3_challenger_core.specs.Run.{Moves}
use Rattle.p3_mmcs_binding.proofs.Ways.{same_sets}
use Rattle.p3_fri_relation.specs.Setting.{Fields, Setting, Parameters, CommitmentClaim}
use Rattle.p3_fri_relation.specs.Setting.{InputOpening, RoundOpening, Proof}
use Rattle.p3_fri_relation.specs.Heights.{dimensions, opened_index}
use Rattle.p3_fri_relation.specs.Inputs.{OpensInput, rows_at}
use Rattle.p3_fri_relation.specs.Queries.{heights_after}
use Rattle.p3_fri_relation.specs.TestRounds.{OpensRound}
use Rattle.p3_fri_relation.specs.Acceptance.{top_height, log_arities, source, test_replay}
use Rattle.p3_fri_relation.specs.Acceptance.{positions}
use Rattle.p3_fri_soundness.specs.BoundInputs.{rows_of, rows_claimed}
use Rattle.p3_fri_soundness.specs.Trees.{Tree, IsEncoded, opened_by, RoundAgrees, InputAgrees}
use Rattle.p3_fri_soundness.specs.Trees.{tables_opening, rows_opened, rows_of_word, indices_opened}
use Rattle.p3_fri_soundness.specs.Laws.{setting}

module _ {F E C Com Path InCom InPath : Type 0} (f : Fields F E) (extra_bits : ℕ)
    (moves : Moves C F E Com) (input_tree : Tree F InCom InPath) (round_tree : Tree E Com Path)
    (input_len round_len : ℕ) (input_encoded : IsEncoded input_tree input_len)
    (round_encoded : IsEncoded round_tree round_len) (p : Parameters)
    (claims : List (CommitmentClaim E InCom)) (proof : Proof F E Com Path InPath)
    (words : List (List E)) (tables : List (List (List (List F)))) (c : C) (alpha : E) where
  abbrev s : Setting F E C Com Path InCom InPath
  s = setting F E C Com Path InCom InPath f extra_bits moves (opened_by input_tree)
      (opened_by round_tree)

  abbrev las : List ℕ
  las = log_arities p claims

  abbrev top : ℕ
  top = top_height p claims

  abbrev drawn : List ℕ
  drawn = positions s p claims proof c

  -- round by round, from the `a`-th on
  pub rounds_agree : (a n : ℕ) (coms : List Com) (rounds : List (RoundOpening E Path))
      (others : List Path)
      → AllZip (OpensRound s p las top proof (source s p claims proof alpha)
      (test_replay s p claims proof c).betas drawn) (range_with_len a n) (zip coms rounds)
      → AllZip (λ k (commitment, (r, other)).
      RoundAgrees s input_tree round_tree p claims proof words tables c alpha k commitment r.path
      other) (range_with_len a n) (zip coms (zip rounds others))
      → (k : ℕ) → k < n
      → rows_opened s input_tree round_tree p claims proof words tables c alpha (a + k)
      ≡ rows_of_word s input_tree round_tree p claims proof words tables c alpha (a + k)
  rounds_agree a zero coms rounds others o g k l = absurd (omega (arith, l))
  rounds_agree a (suc n) [] rounds others o g k l = absurd o
  rounds_agree a (suc n) (cm ∷ coms) [] others o g k l = absurd o
  rounds_agree a (suc n) (cm ∷ coms) (r ∷ rounds) [] o g k l = absurd g
  rounds_agree a (suc n) (cm ∷ coms) (r ∷ rounds) (q ∷ others) o g zero l =
      subst (λ m. rows_opened s input_tree round_tree p claims proof words tables c alpha m
      ≡ rows_of_word s input_tree round_tree p claims proof words tables c alpha m) here
      (same_sets round_tree.bytes round_len round_encoded.long round_encoded.injective
      (round_tree.root cm)
      (record { width = 2 ^ get_or las a 0; height = 2 ^ get_or (heights_after las top) a 0 } ∷ [])
      (indices_opened s input_tree round_tree p claims proof words tables c alpha a)
      (rows_opened s input_tree round_tree p claims proof words tables c alpha a)
      (round_tree.paths r.path)
      (rows_of_word s input_tree round_tree p claims proof words tables c alpha a)
      (round_tree.paths q) o.0 g.0.opens g.0.none)
    where
      here : a ≡ a + 0
      here = omega arith
  rounds_agree a (suc n) (cm ∷ coms) (r ∷ rounds) (q ∷ others) o g (suc k) l =
      subst (λ m. rows_opened s input_tree round_tree p claims proof words tables c alpha m
      ≡ rows_of_word s input_tree round_tree p claims proof words tables c alpha m) further
      (rounds_agree (a + 1) n coms rounds others o.1 g.1 k (omega (arith, l)))
    where
      further : a + 1 + k ≡ a + suc k
      further = omega arith

  -- the rows of the `j`-th query, commitment by commitment
  pub inputs_agree : (j : ℕ) → j < length drawn → (cs : List (CommitmentClaim E InCom))
      (inputs : List (InputOpening F InPath)) (ts : List (List (List (List F))))
      (others : List InPath)
      → AllZip (OpensInput s.opens_input p.log_blowup top drawn) cs inputs
      → AllZip (λ claim (o, (t, other)).
      InputAgrees s input_tree round_tree p claims proof words tables c alpha claim o t other)
      cs (zip inputs (zip ts others))
      → rows_at j inputs ≡ rows_claimed f p.log_blowup top (get_or drawn j 0) cs ts
  inputs_agree j l [] [] ts others o g = refl
  inputs_agree j l [] (i ∷ inputs) ts others o g = absurd o
  inputs_agree j l (claim ∷ cs) [] ts others o g = absurd o
  inputs_agree j l (claim ∷ cs) (i ∷ inputs) [] others o g = absurd g
  inputs_agree j l (claim ∷ cs) (i ∷ inputs) (t ∷ ts) [] o g = absurd g
  inputs_agree j l (claim ∷ cs) (i ∷ inputs) (t ∷ ts) (q ∷ others) o g = ap₂ (λ r rs. r ∷ rs)
      (ap (λ rs. get_or rs j [])
      (same_sets input_tree.bytes input_len input_encoded.long input_encoded.injective
      (input_tree.root claim.commitment) (map (dimensions p.log_blowup) claim.matrices)
      (map (opened_index p.log_blowup top claim.matrices) drawn) i.rows (input_tree.paths i.path)
      (tables_opening s input_tree round_tree p claims proof words tables drawn claim t q).rows
      (input_tree.paths q) o.0 g.0.opens g.0.none)
      ∙ get_or-map (λ q. rows_of f p.log_blowup top q claim.matrices t) drawn j 0 [] l)
      (inputs_agree j l cs inputs ts others o.1 g.1)
