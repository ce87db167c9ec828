-- What an honest prover opens of committed matrices, what it claims of them, and what it leaves.
use Rattle.std.specs.Prelude.{◌≡◌, ◌≢◌, ℕ, ◌-◌, ◌^◌, ◌<◌, ◌≤◌, List, [], map, length, All}
use Rattle.std.specs.List.{AllZip, zip}
use Rattle.algebra.specs.Field.{IsField, IsHomomorphism}
use Rattle.algebra.specs.TwoAdic.{AreRoots}
use Rattle.algebra.specs.Nested.{joined}
use Rattle.p3_challenger_core.specs.Run.{Moves}
use Rattle.p3_fri_relation.specs.Setting.{Fields, Setting, Parameters, Proof, final_height}
use Rattle.p3_fri_relation.specs.Setting.{CommitmentClaim, InputOpening}
use Rattle.p3_fri_relation.specs.Heights.{matrices_of, heights_of}
use Rattle.p3_fri_relation.specs.Acceptance.{top_height}
use Rattle.p3_fri_openings.specs.Rounds.{log_height}
use Rattle.p3_fri_batch.specs.Words.{Opened, IsOpenedWord, batch_word}
use Rattle.p3_fri_batch.specs.Claimed.{AreClaimsOf, matrices_in}
use Rattle.p3_fri_prover.specs.Openings.{OpensBatch}
use Rattle.p3_fri_prover.specs.Proved.{positions, IsProved}

-- two fields, the second an extension of the first, with roots of unity and a shift of the first
pub record AreTwoAdic {F E : Type 0} (f : Fields F E) : Type 0 where
  pub base : IsField f.base
  pub ext : IsField f.ext
  pub lifts : IsHomomorphism f.base f.ext f.lift
  pub roots : AreRoots f.base f.two_adicity f.root
  pub shift : f.shift ≢ f.base.zero

-- a matrix that an honest prover opens: its height is neither below the final one nor above the
-- field's, its columns are words of a degree `2^log_blowup` times below it, and it is opened at
-- some points, all off its coset, to its committed polynomials' values there
pub record IsHonest {F E : Type 0} (f : Fields F E) (p : Parameters) (m : Opened F E) : Type 0
  where
    pub tall_enough : final_height p ≤ log_height m.matrix
    pub within_two_adicity : log_height m.matrix ≤ f.two_adicity
    pub some_point : m.claims ≢ []
    pub word : IsOpenedWord f p.log_blowup (log_height m.matrix)
        (log_height m.matrix - p.log_blowup) m

-- numbers that are drawn of this width have it
abbrev pub DrawsFit : {C F E Com : Type 0} → Moves C F E Com → (bits : ℕ) → Type 0
DrawsFit {C} m bits = (c : C) → (m.draw_bits c bits).value < 2 ^ bits

-- of claims on matrices, which `rounds` has by commitment
module _ {F E InCom : Type 0} (p : Parameters) (claims : List (CommitmentClaim E InCom))
    (rounds : List (List (Opened F E))) where
  -- the log heights, falling
  abbrev pub heights_claimed : List ℕ
  heights_claimed = heights_of p.log_blowup (matrices_of claims)

  -- of each the word of the matrices' quotients
  abbrev pub words_claimed : Fields F E → (alpha : E) → List (List E)
  words_claimed f alpha = map (λ h. batch_word f alpha h (joined rounds)) heights_claimed

module _ {F E C Com Path InCom InPath : Type 0} (s : Setting F E C Com Path InCom InPath)
    (p : Parameters) (claims : List (CommitmentClaim E InCom)) (rounds : List (List (Opened F E)))
    (alpha : E) (c : C) (proof : Proof F E Com Path InPath) where
  abbrev pub words : List (List E)
  words = words_claimed p claims rounds s.fields alpha

  -- the positions of the queries of a test on these words
  abbrev pub queried : List ℕ
  queried = positions s p (heights_claimed p claims rounds) (top_height p claims) words c proof

  -- a commitment opens to its matrices' rows there
  abbrev pub OpensThere :
      CommitmentClaim E InCom × List (Opened F E) → InputOpening F InPath → Type 0
  OpensThere (claim, ms) o = OpensBatch s.opens_input (top_height p claims) queried
      (matrices_in ms) claim.commitment o

  -- An honest opening, from the state `c` on and with the batching challenge `alpha`: the
  -- parameters are positive, some matrix is opened, and each honestly, and the claims are theirs;
  -- the test's proof is one of the words of their quotients, beside it is what the commitments open
  -- at its positions, and the challenger is left in the state `last`.
  pub record IsHonestlyOpened (last : C) : Type 0 where
    pub some_query : 0 < p.num_queries
    pub some_blowup : 0 < p.log_blowup
    pub some_arity : 0 < p.max_log_arity
    pub some_matrix : joined rounds ≢ []
    pub honest : All (IsHonest s.fields p) (joined rounds)
    pub claimed : AreClaimsOf p.log_blowup claims rounds
    pub proved : IsProved s p (heights_claimed p claims rounds) (top_height p claims) words c proof
        (length claims) last
    pub inputs : AllZip OpensThere (zip claims rounds) proof.inputs
    pub batch_canonical : p.batch_pow_bits ≡ 0 → proof.batch_witness ≡ s.fields.base.zero
