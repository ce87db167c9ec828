-- Lists of numbers that show no fault.
use Rattle.std.specs.Prelude.{List, map}
use Rattle.std.specs.List.{All, Any}
use Rattle.std.proofs.Common.{subst}
use Rattle.std.proofs.lemmas.List.Elements.{All-map}
use Rattle.p3_fri_plain.specs.declared.error.PlainProofError.{PlainProofError}
use Rattle.p3_fri_plain.specs.Faults.{IsFaultless}

-- where no entry shows one, the list shows none
pub list_faultless : {A : Type 0} (HasFault : PlainProofError → A → Type 0) (ns : List A)
    → All (IsFaultless HasFault) ns → IsFaultless (λ error. Any (HasFault error)) ns
list_faultless HasFault ns all error (k, n, below, is, bad) =
    subst (λ entry. ¬ HasFault error entry) is (all k n below error) bad

-- the same of the numbers of a list of forms
pub mapped_faultless : {A B : Type 0} (HasFault : PlainProofError → A → Type 0) (listed : B → A)
    (forms : List B) → All (λ form. IsFaultless HasFault (listed form)) forms
    → IsFaultless (λ error. Any (HasFault error)) (map listed forms)
mapped_faultless HasFault listed forms all =
    list_faultless HasFault (map listed forms) (All-map (IsFaultless HasFault) listed forms all)
