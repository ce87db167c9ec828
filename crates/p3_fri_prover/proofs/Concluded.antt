-- The proof of what was planned, played and opened.
use Rattle.std.proofs.Common.{◌≡◌, ℕ, ◌/◌, ◌^◌, ◌<◌, ◌≤◌, List, [], ◌∷◌, length, get_or, map, sym}
use Rattle.std.proofs.Common.{Option, ap, ◌∙◌, subst, refl}
use Rattle.std.specs.List.{AllZip}
use Rattle.algebra.specs.Field.{IsField, IsHomomorphism}
use Rattle.algebra.specs.Folds.{LowersDegrees}
use Rattle.algebra.specs.TwoAdic.{AreRoots}
use Rattle.p3_matrix.specs.declared.dense.RowMajorMatrix.{RowMajorMatrix}
use Rattle.p3_challenger_fs.specs.Turns.{bytes_observed}
use Rattle.p3_fri_transcript.specs.Steps.{FriNumbers, fri_stream}
use Rattle.p3_fri_relation.specs.Setting.{Setting, Parameters, RoundOpening, Proof}
use Rattle.p3_fri_prover.specs.Inputs.{HaveHeights}
use Rattle.p3_fri_prover.specs.Openings.{index_into, OpensRows}
use Rattle.p3_fri_prover.specs.Played.{IsPlayed}
use Rattle.p3_fri_prover.specs.Proved.{log_arities, fri_numbers, positions, IsProved}
use Rattle.p3_fri_prover.proofs.Planned.{IsPlan, places}
use Rattle.p3_fri_prover.proofs.Replayed.{replayed_positions}
use Rattle.p3_fri_prover.proofs.Assembled.{is_proved}

-- openings beside what they are of, in another form
pub zip_viewed : {X Y Z : Type 0} (R : X → Z → Type 0) (view : Y → Z) (xs : List X) (ys : List Y)
    → AllZip (λ x y. R x (view y)) xs ys → AllZip R xs (map view ys)
zip_viewed R view [] [] all = tt
zip_viewed R view [] (y ∷ ys) all = absurd all
zip_viewed R view (x ∷ xs) [] all = absurd all
zip_viewed R view (x ∷ xs) (y ∷ ys) all = (all.0, zip_viewed R view xs ys all.1)

-- the proof has what was played from the challenger's state on
pub record IsMade {F E C Com Path InCom InPath Data : Type 0}
    (committed : Data → List (RowMajorMatrix E)) (commitment_of : Data → Com)
    (s : Setting F E C Com Path InCom InPath) (p : Parameters) (heights : List ℕ) (top : ℕ)
    (inputs : List (List E)) (c : C) (solution : C → ℕ → Option F)
    (proof : Proof F E Com Path InPath) (extra : ℕ) (kept : List Data) (indices : List ℕ) (last : C)
    : Type 0 where
  pub extra_bits : extra ≡ s.extra_bits
  pub played : IsPlayed committed commitment_of s.fields s.fold s.moves p.log_final_poly_len
      (fri_numbers p heights top s.extra_bits) top inputs
      (bytes_observed s.fields.base s.moves.observe_value c
      (fri_stream s.fields.degree (fri_numbers p heights top s.extra_bits))) solution
      proof.commitments proof.commit_witnesses kept proof.final_poly proof.query_witness indices last

module _ {F E C Com Path InCom InPath Data : Type 0}
    {committed : Data → List (RowMajorMatrix E)} {commitment_of : Data → Com}
    {s : Setting F E C Com Path InCom InPath} {p : Parameters} {heights : List ℕ} {top : ℕ}
    {inputs : List (List E)} {c : C} {solution : C → ℕ → Option F}
    {proof : Proof F E Com Path InPath} {extra : ℕ} {kept : List Data} {indices : List ℕ}
    {last : C} where
  pub made_of_played : {numbers : FriNumbers} {stream : List ℕ} {commitments : List Com}
      {witnesses : List F} {final_poly : List E} {query_witness : F}
      → IsPlayed committed commitment_of s.fields s.fold s.moves p.log_final_poly_len numbers top
      inputs (bytes_observed s.fields.base s.moves.observe_value c stream) solution commitments
      witnesses kept final_poly query_witness indices last
      → extra ≡ s.extra_bits → numbers ≡ fri_numbers p heights top extra
      → stream ≡ fri_stream s.fields.degree numbers
      → proof.commitments ≡ commitments → proof.commit_witnesses ≡ witnesses
      → proof.final_poly ≡ final_poly → proof.query_witness ≡ query_witness
      → IsMade committed commitment_of s p heights top inputs c solution proof extra kept indices
      last
  made_of_played {numbers} {stream} {commitments} {witnesses} {final_poly} {query_witness} played
      is_extra described is_stream same_commitments same_witnesses same_polynomial same_witness =
      let wanted = fri_numbers p heights top s.extra_bits in
      let is_wanted : numbers ≡ wanted =
      described ∙ ap (λ x. fri_numbers p heights top x) is_extra in
      let Played : FriNumbers → List ℕ → List Com → List F → List E → F → Type 0 =
      λ n xs cs ws poly w. IsPlayed committed commitment_of s.fields s.fold s.moves
      p.log_final_poly_len n top inputs (bytes_observed s.fields.base s.moves.observe_value c xs)
      solution cs ws kept poly w indices last in
      record {
        extra_bits = is_extra;
        played =
            subst (λ xs. Played wanted xs proof.commitments proof.commit_witnesses proof.final_poly
            proof.query_witness)
            (is_stream ∙ ap (λ n. fri_stream s.fields.degree n) is_wanted)
            (subst (λ cs. Played wanted stream cs proof.commit_witnesses proof.final_poly
            proof.query_witness) (sym same_commitments)
            (subst (λ ws. Played wanted stream commitments ws proof.final_poly proof.query_witness)
            (sym same_witnesses)
            (subst (λ poly. Played wanted stream commitments witnesses poly proof.query_witness)
            (sym same_polynomial)
            (subst (λ w. Played wanted stream commitments witnesses final_poly w)
            (sym same_witness)
            (subst (λ n. Played n stream commitments witnesses final_poly query_witness) is_wanted
            played)))));
      }

  module _ (made : IsMade committed commitment_of s p heights top inputs c solution proof extra kept
      indices last) where
    abbrev seeded : C
    seeded = bytes_observed s.fields.base s.moves.observe_value c
        (fri_stream s.fields.degree (fri_numbers p heights top s.extra_bits))

    shifted : places extra indices ≡ map (λ i. i / 2 ^ s.extra_bits) indices
    shifted = ap (λ x. map (λ i. i / 2 ^ x) indices) made.extra_bits

    -- the positions are where it was opened
    pub positions_of_proof : positions s p heights top inputs c proof ≡ places extra indices
    positions_of_proof =
        replayed_positions s p heights top inputs c proof seeded made.played.reached last
        made.played.rounds.betas indices refl made.played.rounds.replay made.played.ended.queries
        (places extra indices) shifted

    -- all that was proved
    pub proof_is_proved : {X : Type 0} {arities : List ℕ} {numbers : FriNumbers}
        (plan : IsPlan p top extra inputs arities numbers) (have : HaveHeights heights inputs)
        (view : X → RoundOpening E Path) (openings : List X) → proof.rounds ≡ map view openings
        → length openings ≡ length arities
        → ((k : ℕ) (o : X) (datum : Data) (matrix : RowMajorMatrix E) → k < length arities
        → committed (get_or kept k datum) ≡ matrix ∷ []
        → OpensRows s.opens_round (get_or arities k 0) matrix
        (map (λ q. index_into arities q k) (places extra indices))
        (commitment_of (get_or kept k datum)) (view (get_or openings k o)).siblings
        (view (get_or openings k o)).path)
        → (most num_data : ℕ) → IsField s.fields.base → IsField s.fields.ext
        → IsHomomorphism s.fields.base s.fields.ext s.fields.lift
        → AreRoots s.fields.base s.fields.two_adicity s.fields.root
        → LowersDegrees s.fields.ext (λ k. s.fields.lift (s.fields.root k)) most s.fold
        → s.fields.two_adicity ≤ most → top ≤ s.fields.two_adicity
        → length proof.inputs ≡ num_data → IsProved s p heights top inputs c proof num_data last
    proof_is_proved {X} {arities} plan have view openings rounds_are count each most num_data base
        ext lifts roots falls enough small batches =
        let scheduled : arities ≡ log_arities p heights top = plan.scheduled heights have in
        is_proved committed commitment_of s p heights top inputs c seeded last proof plan.are have
        plan.capped solution kept indices (places extra indices) refl made.played shifted view openings
        rounds_are (count ∙ ap length scheduled)
        (subst (λ xs. (k : ℕ) (o : X) (datum : Data) (matrix : RowMajorMatrix E) → k < length xs
        → committed (get_or kept k datum) ≡ matrix ∷ []
        → OpensRows s.opens_round (get_or xs k 0) matrix
        (map (λ q. index_into xs q k) (places extra indices))
        (commitment_of (get_or kept k datum)) (view (get_or openings k o)).siblings
        (view (get_or openings k o)).path) scheduled each)
        most num_data base ext lifts roots falls enough small (plan.tall heights have) batches
