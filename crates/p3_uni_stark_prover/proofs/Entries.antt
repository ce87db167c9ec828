-- What holds of each entry of a list, and of commitments.
use Rattle.std.proofs.Common.{◌≡◌, List, [], ◌∷◌, map, ap, ap₂, ◌∙◌}
use Rattle.algebra.proofs.Lists.{Each}
use Rattle.p3_uni_stark_verifier.specs.declared.proof.Commitments.{Commitments}

pub each_weaker : {A : Type 0} (P Q : A → Type 0) → ((x : A) → P x → Q x) → (xs : List A)
    → Each P xs → Each Q xs
each_weaker P Q f [] h = tt
each_weaker P Q f (x ∷ xs) h = (f x h.0, each_weaker P Q f xs h.1)

pub each_mapped : {A B : Type 0} (g : A → B) (P : B → Type 0) (xs : List A)
    → Each (λ x. P (g x)) xs → Each P (map g xs)
each_mapped g P [] h = tt
each_mapped g P (x ∷ xs) h = (h.0, each_mapped g P xs h.1)

pub same_commitments : {Com : Type 0} (x y : Commitments Com) → x.trace ≡ y.trace
    → x.quotient_chunks ≡ y.quotient_chunks → x.random ≡ y.random → x ≡ y
same_commitments x y a b c =
    ap₂ (λ t q. (let z : Commitments _ = record {
      trace = t;
      quotient_chunks = q;
      random = x.random;
    } in z)) a b
    ∙ ap (λ r. (let z : Commitments _ = record {
      trace = y.trace;
      quotient_chunks = y.quotient_chunks;
      random = r;
    } in z)) c
