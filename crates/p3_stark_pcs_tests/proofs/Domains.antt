-- Sizes of domains.
use Rattle.std.proofs.Common.{◌≡◌, ◌<◌, ◌+◌, ◌*◌, ℕ, List, [], ◌∷◌, ◌++◌, Bool, false}
use Rattle.std.proofs.Common.{map, length, take, get_or, refl, ap, ◌∙◌, sym, subst, arith}
use Rattle.std.proofs.lemmas.List.{map_more}
use Rattle.std.specs.Prelude.{if◌then◌else◌}

-- where nothing is hidden, the domains of matrices have each their size once
pub sizes_once : {D M : Type 0} (hides : Bool) → hides ≡ false → (size : D → ℕ) (ds : List D)
    (es : List (D × M)) → ds ≡ map (λ e. e.0) es
    → map size ds ≡ map (λ e. (if hides then 2 else 1) * size e.0) es
sizes_once {D = D} {M = M} hides shown size ds es are =
    subst (λ b. map size ds ≡ map (λ e. (if b then 2 else 1) * size e.0) es) (sym shown)
    (ap (λ xs. map size xs) are ∙ each es)
  where
    each : (es : List (D × M)) → map size (map (λ e. e.0) es) ≡ map (λ e. 1 * size e.0) es
    each [] = refl
    each (e ∷ es) =
        let first : size e.0 ≡ 1 * size e.0 = omega arith in
        let rest = each es in
        cc

-- the domains of one more of these evaluations
pub one_more_domain : {A B : Type 0} (es : List (A × B)) (i : ℕ) (e : A × B) (ds more : List A)
    → i < length es → e ≡ get_or es i e → more ≡ ds ++ e.0 ∷ [] → ds ≡ map (λ e. e.0) (take i es)
    → more ≡ map (λ e. e.0) (take (i + 1) es)
one_more_domain {A} {B} es i e ds more below is pushed before =
    pushed ∙ ap (λ (ds : List A). ds ++ e.0 ∷ []) before
    ∙ ap (λ (x : A × B). map (λ (e : A × B). e.0) (take i es) ++ x.0 ∷ []) is
    ∙ sym (map_more (λ (e : A × B). e.0) es i e below)
