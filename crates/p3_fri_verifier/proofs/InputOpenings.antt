-- What a proof opens of the commitments, by place.
use Rattle.std.proofs.Common.{◌≡◌, ℕ, ◌<◌, ◌∙◌, List, length, get_or, vec_len, sym, ap, arith}
use Rattle.std.proofs.lemmas.List.{length-map, get_or-map}
use Rattle.algebra.specs.Nested.{nested}
use Rattle.algebra.proofs.Nested.{length-nested}
use Rattle.p3_fri_relation.specs.declared.proof.BatchMultiOpening.{BatchMultiOpening}
use Rattle.p3_fri_relation.specs.Setting.{InputOpening}
use Rattle.p3_fri_relation.specs.Faults.{At}
use Rattle.p3_fri_relation.specs.Views.{inputs_opened}

module _ {F M Com Data Path Err : Type 0} where
  abbrev pub input_opened : BatchMultiOpening F M Com Data Path Err → InputOpening F Path
  input_opened o = record { rows = nested o.opened_values.items; path = o.opening_proof }

  pub length-inputs : (openings : List (BatchMultiOpening F M Com Data Path Err))
      → length (inputs_opened openings) ≡ length openings
  length-inputs openings = length-map openings input_opened

  module _ (openings : List (BatchMultiOpening F M Com Data Path Err)) (k : ℕ)
      (o : BatchMultiOpening F M Com Data Path Err) (l : k < length openings) (is : o ≡ get_or openings k o) where
    pub input_at : get_or (inputs_opened openings) k (input_opened o) ≡ input_opened o
    input_at = get_or-map input_opened openings k o (input_opened o) l ∙ ap input_opened (sym is)

    pub input_within : k < length (inputs_opened openings)
    input_within = omega (arith, l, length-inputs openings)

    -- as many sets of rows as there are in the vector
    pub rows_counted : (n : ℕ) → n ≡ vec_len (get_or openings k o).opened_values → n ≡ length (input_opened o).rows
    rows_counted n e = e ∙ ap (λ x. vec_len x.opened_values) (sym is) ∙ o.opened_values.ok.0
        ∙ sym (length-nested o.opened_values.items)

    -- an opening with a property
    pub at_input : (P : InputOpening F Path → Type 0) → P (input_opened o) → At k P (inputs_opened openings)
    at_input P h = (input_opened o, input_within, input_at, h)
