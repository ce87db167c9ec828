-- Rounds whose commitments open to words, and what their queries meet.
use Rattle.std.specs.Prelude.{◌≡◌, ℕ, ◌-◌, ◌^◌, List, [], ◌∷◌, map, length, Option, EachIndex}
use Rattle.std.specs.Prelude.{slice_index}
use Rattle.algebra.specs.Field.{IsRing, IsHomomorphism}
use Rattle.algebra.specs.Folds.{neighbours, fold_value}
use Rattle.algebra.specs.Rounds.{AreValuesMet, rows_met}
use Rattle.p3_fri_relation.specs.Setting.{Setting, Parameters, CommitmentClaim, Proof}
use Rattle.p3_fri_relation.specs.Queries.{rounds_of, rows_folded}
use Rattle.p3_fri_relation.specs.Acceptance.{top_height, log_arities, source, test_replay}
use Rattle.p3_fri_relation.specs.Acceptance.{positions}

-- rows of `2^a` entries of a word, each by itself under its index, as a commitment has them
abbrev pub word_rows : {E : Type 0} → (a : ℕ) (ys : List E) → List ℕ → List (List (List E))
word_rows a ys indices = map (λ i. neighbours ys i a ∷ []) indices

module _ {F E C Com Path InCom InPath : Type 0} (s : Setting F E C Com Path InCom InPath) where
  -- whatever rows of `2^a` entries the commitment opens to, they are this word's
  abbrev pub BindsWord : (a h : ℕ) → Com → List E → Type 0
  BindsWord a h commitment ys = (indices : List ℕ) (rows : List (List (List E))) (path : Path)
      → s.opens_round commitment (record { width = 2 ^ a; height = 2 ^ h } ∷ []) indices rows path
      → rows ≡ word_rows a ys indices

  -- each round's commitment opens to its word alone, which is as long as its log height says
  abbrev pub BindWords : (log_arities : List ℕ) (h : ℕ) → List Com → List (List E) → Type 0
  BindWords [] h commitments words = words ≡ []
  BindWords (a ∷ arities) h [] words = ⊥
  BindWords (a ∷ arities) h (commitment ∷ commitments) [] = ⊥
  BindWords (a ∷ arities) h (commitment ∷ commitments) (ys ∷ words) =
      BindsWord a (h - a) commitment ys × (length ys ≡ 2 ^ h)
      × BindWords arities (h - a) commitments words

  -- the roots of unity, lifted to the extension
  abbrev pub lifted_root : ℕ → E
  lifted_root k = s.fields.lift (s.fields.root k)

  -- both fields are rings, the lift keeps their operations, and rows are folded as polynomials
  pub record FoldsPolynomials : Type 0 where
    pub base_ring : IsRing s.fields.base
    pub ext_ring : IsRing s.fields.ext
    pub lift : IsHomomorphism s.fields.base s.fields.ext s.fields.lift
    pub fold : s.fold ≡ fold_value s.fields.ext lifted_root

  module _ (p : Parameters) (claims : List (CommitmentClaim E InCom))
      (proof : Proof F E Com Path InPath) (alpha : E) where
    -- at their positions the queries meet entries of these words, by log height
    abbrev pub AreInputsMet : (inputs : ℕ → Option (List E)) → List ℕ → Type 0
    AreInputsMet inputs positions = EachIndex positions (λ j. AreValuesMet s.fields.ext inputs
        (top_height p claims) (slice_index positions j)
        ((source s p claims proof alpha).met j (slice_index positions j)))

    -- from the challenger's state `c` on, each query folds the rows that these words have at its
    -- position
    abbrev pub RoundsOpenedFrom : (c : C) (words : List (List E)) → Type 0
    RoundsOpenedFrom c words = EachIndex (positions s p claims proof c) (λ j.
        let rounds = rounds_of (log_arities p claims) (test_replay s p claims proof c).betas in
        let position = slice_index (positions s p claims proof c) j in
        rows_folded s p (top_height p claims) (source s p claims proof alpha) proof rounds j
        position
        ≡ rows_met rounds words position)
