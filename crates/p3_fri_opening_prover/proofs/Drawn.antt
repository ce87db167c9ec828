-- What the transcript around the test did: what it absorbed, and what was drawn then.
use Rattle.std.proofs.Common.{◌≡◌, ◌≢◌, ◌<◌, ℕ, zero, true, List, [], ◌∷◌, ◌++◌, map, length}
use Rattle.std.proofs.Common.{Option, Some, IsSome, unwrap_or, refl, sym, ap, ap₂, ◌∙◌, subst}
use Rattle.std.specs.Global.{Global}
use Rattle.std.specs.List.{AllZip, flat_map}
use Rattle.std.specs.declared.vec.Vec.{Vec}
use Rattle.std.proofs.lemmas.Grind.{flat_map-append}
use Rattle.std.proofs.lemmas.List.{length-map}
use Rattle.algebra.specs.Nested.{lists, nested, joined}
use Rattle.p3_challenger_core.specs.Run.{observed_all}
use Rattle.p3_challenger_fs.specs.Turns.{bytes_observed}
use Rattle.p3_pcs.specs.Claims.{opened_values}
use Rattle.p3_fri_folding.specs.declared.error.FriProverError.{FriProverError}
use Rattle.p3_fri_folding.specs.declared.error.FriProverError.TheVariants.{NoPowWitness}
use Rattle.p3_fri_folding.specs.declared.pow_phase.PowPhase.TheVariants.{Batch}
use Rattle.p3_fri_pow.specs.Pow.{NonePasses, found_witness, sent_witness}
use Rattle.p3_fri_pow.proofs.Found.{sent_is}
use Rattle.p3_fri_pcs_transcript.specs.Counts.{counts_in_matrices, counts_of_values}
use Rattle.p3_fri_pcs_transcript.specs.Counts.{lists_in_matrices, lists_of_values, all_values}
use Rattle.p3_fri_pcs_transcript.specs.Steps.{PcsNumbers, pcs_stream}
use Rattle.p3_fri_pcs_transcript.specs.Replay.{BatchReplay, shown_batch_replay, claims_replay}
use Rattle.p3_fri_pcs_transcript.specs.Replay.{batch_replay}
use Rattle.p3_fri_relation.specs.Setting.{Proof}
use Rattle.p3_fri_batch.specs.Words.{Opened}
use Rattle.p3_fri_prover.specs.Openings.{OpensBatch}
use Rattle.p3_fri_prover.specs.Proved.{positions, IsProved}
use Rattle.p3_fri_prover.specs.Prover.{ProverRefusal}
use Rattle.p3_fri_opening_prover.specs.Setting.{OpeningSetting}
use Rattle.p3_fri_opening_prover.specs.Opening.{counts_of, all_of, heights, top, words}
use Rattle.p3_fri_opening_prover.specs.Opening.{absorbed, batch, GoesOn, IsOpening, OpeningStops}
use Rattle.p3_fri_opening_prover.proofs.Refused.{stops}
use Rattle.p3_fri_prover.proofs.Plays.{bits_asked}
use Rattle.algebra.proofs.Lists.{map-map, all_zip-mapped}

-- values in vectors, and the same as lists
module _ {E : Type 0} where
  counts_in : (matrices : List (Vec (Vec E Global) Global))
      → counts_in_matrices matrices ≡ map (λ points. map (λ ys. length ys) points) (nested matrices)
  counts_in [] = refl
  counts_in (points ∷ matrices) =
      ap₂ (λ n ns. n ∷ ns) (sym (map-map (λ ys. length ys) (λ v. v.items) points.items))
      (counts_in matrices)

  pub counts_same : (vectors : List (Vec (Vec (Vec E Global) Global) Global))
      → counts_of_values vectors ≡ counts_of (opened_values vectors)
  counts_same [] = refl
  counts_same (matrices ∷ vectors) =
      ap₂ (λ n ns. n ∷ ns) (counts_in matrices.items) (counts_same vectors)

  values_in : (matrices : List (Vec (Vec E Global) Global))
      → joined (lists_in_matrices matrices) ≡ flat_map (λ points. joined points) (nested matrices)
  values_in [] = refl
  values_in (points ∷ matrices) =
      flat_map-append (λ part. part) (lists points.items) (lists_in_matrices matrices)
      ∙ ap (λ rest. joined (lists points.items) ++ rest) (values_in matrices)

  pub all_same : (vectors : List (Vec (Vec (Vec E Global) Global) Global))
      → all_values vectors ≡ all_of (opened_values vectors)
  all_same [] = refl
  all_same (matrices ∷ vectors) =
      flat_map-append (λ part. part) (lists_in_matrices matrices.items) (lists_of_values vectors)
      ∙ ap₂ (λ xs ys. xs ++ ys) (values_in matrices.items) (all_same vectors)

module _ {F E C D Data Com Path InCom InPath : Type 0}
    (r : OpeningSetting F E C D Data Com Path InCom InPath) (ms : List (Opened F E))
    (values : List (List (List (List E)))) (c : C) where
  -- the state once the values are absorbed, and how many bits the transcript asks for then
  pub record IsClaimed (claimed : C) (bits : ℕ) : Type 0 where
    pub absorbs : claimed ≡ absorbed r ms values c
    pub asks : bits ≡ r.parameters.batch_pow_bits

  -- the work passes with the witness, and the challenger is lent after the challenge
  pub record IsDrawn (witness : F) (alpha : E) (lent : C) : Type 0 where
    pub is : batch r ms values c witness ≡ record { passes = true; alpha = alpha; state = lent }

-- once the values are claimed
module _ {F E C D Data Com Path InCom InPath : Type 0}
    (r : OpeningSetting F E C D Data Com Path InCom InPath) (ms : List (Opened F E))
    (vectors : List (Vec (Vec (Vec E Global) Global) Global)) (c : C) where
  numbered : List (List (List ℕ)) → PcsNumbers
  numbered counts = record { counts = counts; batch_pow_bits = r.parameters.batch_pow_bits }

  pub is_claimed : (described begun_with left : PcsNumbers) (stream : List ℕ) (started claimed : C)
      → described
      ≡ record { counts = counts_of_values vectors; batch_pow_bits = r.parameters.batch_pow_bits }
      → begun_with ≡ described → left ≡ begun_with
      → stream ≡ pcs_stream r.setting.fields.degree described
      → started
      ≡ bytes_observed r.setting.fields.base r.setting.moves.observe_value c stream
      → claimed ≡ observed_all r.setting.moves.observe_value started
      (flat_map r.setting.fields.coefficients (all_values vectors))
      → IsClaimed r ms (opened_values vectors) c claimed left.batch_pow_bits
  unfolding numbered
  is_claimed described begun_with left stream started claimed is_described begins keeps streams
      begun observed = record {
        absorbs = observed
            ∙ ap₂ (λ (t : C) ys. observed_all r.setting.moves.observe_value t
            (flat_map r.setting.fields.coefficients ys))
            (begun ∙ ap (λ bytes. bytes_observed r.setting.fields.base
            r.setting.moves.observe_value c bytes)
            (streams ∙ ap (λ n. pcs_stream r.setting.fields.degree n)
            (is_described ∙ ap numbered (counts_same vectors))))
            (all_same vectors);
        asks = ap (λ (n : PcsNumbers). n.batch_pow_bits) (keeps ∙ begins ∙ is_described);
      }

module _ {F E C D Data Com Path InCom InPath : Type 0}
    {r : OpeningSetting F E C D Data Com Path InCom InPath} {ms : List (Opened F E)}
    {values : List (List (List (List E)))} {c : C} where
  module _ {claimed : C} {bits : ℕ} (claims : IsClaimed r ms values c claimed bits) where
    pub is_drawn : (witness sent : F) (alpha : E) (after lent : C) → witness ≡ sent
        → batch_replay r.setting.moves bits claimed sent
        ≡ record { passes = true; alpha = alpha; state = after } → lent ≡ after
        → IsDrawn r ms values c witness alpha lent
    unfolding claims_replay
    is_drawn witness sent alpha after lent carried replayed given = record {
      is = ap (λ (t : C). shown_batch_replay r.setting.moves r.parameters.batch_pow_bits t
          (Some witness)) (sym claims.absorbs)
          ∙ ap₂ (λ n w. batch_replay r.setting.moves n claimed w) (sym claims.asks) carried
          ∙ replayed ∙ ap (λ (t : C). record { passes = true; alpha = alpha; state = t })
          (sym given);
    }

    -- the witness that is sent is the one that the search gives, and zero at no bits
    pub is_sent : (found : Option F) (witness : F)
        → witness ≡ unwrap_or found r.setting.fields.base.zero
        → found ≡ found_witness r.solution claimed bits
        → (bits ≢ 0 → IsSome found)
        → sent_witness r.setting.fields.base.zero r.solution (absorbed r ms values c)
        r.parameters.batch_pow_bits ≡ Some witness
    is_sent found witness carried is some =
        ap₂ (λ t n. sent_witness r.setting.fields.base.zero r.solution t n) (sym claims.absorbs)
        (sym claims.asks)
        ∙ sent_is r.setting.fields.base.zero r.solution claimed bits found is some
        ∙ ap Some (sym carried)

    pub zero_at_no_bits : (found : Option F) (witness : F)
        → witness ≡ unwrap_or found r.setting.fields.base.zero
        → found ≡ found_witness r.solution claimed bits
        → r.parameters.batch_pow_bits ≡ 0 → witness ≡ r.setting.fields.base.zero
    zero_at_no_bits found witness carried is none =
        carried ∙ ap (λ o. unwrap_or o r.setting.fields.base.zero)
        (is ∙ ap (λ n. found_witness r.solution claimed n) (claims.asks ∙ none))

    -- where no witness passes
    pub no_witness : (e : FriProverError) → e ≡ NoPowWitness Batch
        → NonePasses r.setting.moves.observe_value r.setting.moves.draw_bits claimed bits
        → OpeningStops r ms values c e
    no_witness e is none =
        let observe = r.setting.moves.observe_value in
        let draw_bits = r.setting.moves.draw_bits in
        subst (λ x. OpeningStops r ms values c x) (sym is) (
          subst (λ n. 0 < n) claims.asks
              (bits_asked observe draw_bits claimed bits r.setting.fields.base.zero none),
          subst (λ n. NonePasses observe draw_bits (absorbed r ms values c) n) claims.asks
              (subst (λ t. NonePasses observe draw_bits t bits) claims.absorbs none),
        )

  module _ {witness : F} {alpha : E} {lent : C}
      (drawn : IsDrawn r ms values c witness alpha lent) where
    -- it is an opening if the test goes on, of the data that are read of `xs`
    pub opening_made : {X : Type 0} (xs : List X) (datum : X → D)
        (proof : Proof F E Com Path InPath) (tested last : C) → proof.batch_witness ≡ witness
        → (r.parameters.batch_pow_bits ≡ 0 → witness ≡ r.setting.fields.base.zero)
        → IsProved r.setting r.parameters (heights r.setting.fields ms)
        (top r.setting.fields ms) (words r.setting.fields ms alpha) lent proof (length xs) tested
        → AllZip (λ x o. OpensBatch r.setting.opens_input (top r.setting.fields ms)
        (positions r.setting r.parameters (heights r.setting.fields ms)
        (top r.setting.fields ms) (words r.setting.fields ms alpha) lent proof)
        (r.committed (datum x)) (r.commitment_of (datum x)) o) xs proof.inputs
        → tested ≡ last
        → IsOpening r ms values c (map datum xs) proof last
    opening_made xs datum proof tested last carried canonical proved inputs ends =
        let f = r.setting.fields in
        let hs = heights f ms in
        let ws = words f ms alpha in
        let found : GoesOn r ms values c (map datum xs) proof tested
        (record { passes = true; alpha = alpha; state = lent }) = record {
          passes = refl;
          proved = subst (λ n. IsProved r.setting r.parameters hs (top f ms) ws lent proof n tested)
              (sym (length-map xs datum)) proved;
          inputs = all_zip-mapped datum (λ d o. OpensBatch r.setting.opens_input (top f ms)
              (positions r.setting r.parameters hs (top f ms) ws lent proof) (r.committed d)
              (r.commitment_of d) o) xs proof.inputs inputs;
        } in
        record {
          canonical = λ none. carried ∙ canonical none;
          tested = subst (λ t. GoesOn r ms values c (map datum xs) proof t
              (batch r ms values c proof.batch_witness)) ends
              (subst (λ w. GoesOn r ms values c (map datum xs) proof tested
              (batch r ms values c w)) (sym carried)
              (subst (λ b. GoesOn r ms values c (map datum xs) proof tested b)
              (sym drawn.is) found));
        }

    -- and stops if it does
    pub stopped : (e : FriProverError)
        → sent_witness r.setting.fields.base.zero r.solution (absorbed r ms values c)
        r.parameters.batch_pow_bits ≡ Some witness
        → ProverRefusal r.setting r.round_committed r.round_commitment_of r.parameters
        (heights r.setting.fields ms) (top r.setting.fields ms)
        (words r.setting.fields ms alpha) lent r.solution e
        → OpeningStops r ms values c e
    stopped e found refused = stops r ms values c e (record {
      witness = witness;
      found = found;
      passes = ap (λ (b : BatchReplay C E). b.passes) drawn.is;
      refused = subst (λ (b : BatchReplay C E). ProverRefusal r.setting r.round_committed
          r.round_commitment_of r.parameters (heights r.setting.fields ms)
          (top r.setting.fields ms) (words r.setting.fields ms b.alpha) b.state r.solution e)
          (sym drawn.is) refused;
    })
