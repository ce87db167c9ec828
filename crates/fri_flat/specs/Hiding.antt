-- The flat form of the records of the scheme that hides.
use Rattle.std.specs.Prelude.{ℕ, ◌<◌, List, ◌++◌, ◌≡◌, Option, Some, None, IfSome, length}
use Rattle.std.specs.Prelude.{string_bytes}
use Rattle.std.specs.List.{All}
use Rattle.p3_fri_plain.specs.declared.forms.PlainHidingProof.{PlainHidingProof}
use Rattle.fri_flat.specs.declared.hiding_forms.HidingRequest.{HidingRequest}
use Rattle.fri_flat.specs.declared.hiding_forms.HidingStatement.{HidingStatement}
use Rattle.fri_flat.specs.declared.layout.Layout.{Layout}
use Rattle.fri_flat.specs.Flat.{word, numbers, list, element, IsElement, context, parameters}
use Rattle.fri_flat.specs.Flat.{request, IsRequest, batch_claims, IsBatchClaims, proof, IsProof}
use Rattle.fri_verification.specs.Bound.{IsContext}

-- an index, or the greatest number of four bytes where there is none
abbrev pub index : Option ℕ → List ℕ
index None = word 4294967295
index (Some i) = word i

abbrev pub IsIndex : Option ℕ → Type 0
IsIndex place = IfSome place (λ i. i < 4294967295)

-- over a field whose numbers lie in bytes as the layout says
module _ (l : Layout) where
  -- how many random columns there are, the seed, the index of the preprocessed commitment, and then
  -- the plain request
  abbrev pub hiding_request : HidingRequest → List ℕ
  hiding_request h = word h.masking.num_random_codewords ++ h.masking.seed
      ++ index h.preprocessed ++ request l h.request

  pub record IsHidingRequest (h : HidingRequest) : Type 0 where
    pub seed : length h.masking.seed ≡ 32
    pub index : IsIndex h.preprocessed
    pub request : IsRequest l h.request

  -- the values of the random columns, by commitment, matrix and point, and then the proof inside
  abbrev pub hiding_proof : PlainHidingProof → List ℕ
  hiding_proof p = list (list (list (list (element l)))) p.random_values ++ proof l p.proof

  pub record IsHidingProof (p : PlainHidingProof) : Type 0 where
    pub values : All (λ matrices. All (λ points. All (λ columns. All (IsElement l) columns.items)
        points.items) matrices.items) p.random_values.items
    pub proof : IsProof l p.proof

  abbrev pub hiding_statement : HidingStatement → List ℕ
  hiding_statement s = word s.num_random_codewords ++ index s.preprocessed
      ++ context (string_bytes s.context) ++ parameters s.parameters
      ++ list (batch_claims l) s.claims ++ hiding_proof s.proof

  pub record IsHidingStatement (s : HidingStatement) : Type 0 where
    pub index : IsIndex s.preprocessed
    pub context : IsContext (string_bytes s.context)
    pub claims : All (IsBatchClaims l) s.claims.items
    pub proof : IsHidingProof s.proof

  -- what `open` answers
  abbrev pub hiding_answer : (next_challenge : List ℕ) → HidingStatement → List ℕ
  hiding_answer next_challenge s = numbers l next_challenge ++ hiding_statement s
