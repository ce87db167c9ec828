-- Cosets that are disjoint, by tests of each against the others.
use Rattle.std.proofs.Common.{◌≡◌, ◌≢◌, ℕ, ◌+◌, ◌-◌, ◌<◌, ◌≤◌, ◌⊎◌, inl, inr, Bool, true, false, List, length, map, All}
use Rattle.std.proofs.Common.{take, drop, get_or, refl, sym, ap, ap₂, subst, ◌∙◌, arith, length-drop}
use Rattle.std.specs.Prelude.{◌↔◌, IsTrue}
use Rattle.std.proofs.lemmas.Bool.{cases_lt, false≢true}
use Rattle.std.proofs.lemmas.List.{get_or-map, length-map, get_or-take, get_or-drop, length-take-le, get_or_default}
use Rattle.algebra.specs.Field.{FieldOps}
use Rattle.algebra.specs.Cosets.{vanishing}
use Rattle.p3_fri_masks.specs.QuotientMasks.{AreDisjoint, IsOffOthers}
use Rattle.p3_fri_masks.proofs.Firsts.{one_more_holds, all_hold}

pub passed : {P : Type 0} → P → IsTrue true ↔ P
passed p = ((λ e. p), (λ q. refl))

pub refused : {P : Type 0} → (P → ⊥) → IsTrue false ↔ P
refused none = ((λ e. absurd (false≢true e)), (λ p. absurd (none p)))

-- of cosets with shifts and sizes
module _ {A C : Type 0} (F : FieldOps A) (shift : C → A) (log_size : C → ℕ) (domains : List C) where
  abbrev IsOff : (p : A) → C → Type 0
  IsOff p d = vanishing F (shift d) (log_size d) p ≢ F.zero

  -- one coset more, and all of them
  pub one_more_off : (p v : A) (i : ℕ) (d : C) (t : Bool) → All (IsOff p) (take i domains)
      → i < length domains → d ≡ get_or domains i d → v ≡ vanishing F (shift d) (log_size d) p
      → (IsTrue t ↔ (v ≡ F.zero)) → t ≡ false → All (IsOff p) (take (i + 1) domains)
  one_more_off p v i d t before l is value tested off =
      one_more_holds (IsOff p) domains i d before l is
      (λ e. false≢true (sym off ∙ tested.1 (value ∙ e)))

  pub off_all : (p : A) (i : ℕ) → All (IsOff p) (take i domains) → length domains ≤ i
      → IsTrue true ↔ All (IsOff p) domains
  off_all p i before l = passed (all_hold (IsOff p) domains i before l)

  pub size_at : (i : ℕ) (d : C) → i < length domains → d ≡ get_or domains i d
      → get_or (map log_size domains) i 0 ≡ log_size d
  size_at i d l is = get_or-map log_size domains i d 0 l ∙ ap log_size (sym is)

  -- of disjoint cosets each is off the others, and where each is and all have one size they are
  -- disjoint
  pub off_others_of : AreDisjoint F (map log_size domains) (map shift domains) → (i : ℕ)
      → i < length domains → IsOffOthers F (map log_size domains) (map shift domains) i
  off_others_of disjoint i l j m other e =
      let sizes = map log_size domains in
      let shifts = map shift domains in
      let inside : j < length sizes =
      omega (arith, m, length-map domains shift, length-map domains log_size) in
      disjoint.apart i j (omega (arith, l, length-map domains log_size)) inside other
      (subst (λ k. vanishing F (get_or shifts j F.zero) k (get_or shifts i F.zero) ≡ F.zero)
      (disjoint.one_size j 0 inside) e)

  pub disjoint_of : (n : ℕ)
      → All (λ k. k ≡ get_or (map log_size domains) 0 0) (map log_size domains)
      → ((i : ℕ) → i < n → IsOffOthers F (map log_size domains) (map shift domains) i)
      → length domains ≤ n → AreDisjoint F (map log_size domains) (map shift domains)
  disjoint_of n one_size off all = record {
    one_size = one_size;
    apart = λ i j l m other e.
        let shifts = map shift domains in
        off i (omega (arith, l, all, length-map domains log_size)) j
        (omega (arith, m, length-map domains shift, length-map domains log_size)) other
        (subst (λ k. vanishing F (get_or shifts j F.zero) k (get_or shifts i F.zero) ≡ F.zero)
        (sym (one_size j 0 m)) e);
  }

  -- where the point `p` is the first of coset `i`, and `d` any coset
  module _ (i : ℕ) (p : A) (d : C) (below : i < length domains)
      (first : p ≡ get_or (map shift domains) i F.zero) where
    same_value : (j : ℕ) → j < length domains
        → vanishing F (get_or (map shift domains) j F.zero) (get_or (map log_size domains) j 0)
        (get_or (map shift domains) i F.zero)
        ≡ vanishing F (shift (get_or domains j d)) (log_size (get_or domains j d)) p
    same_value j l =
        ap₂ (λ s k. vanishing F s k (get_or (map shift domains) i F.zero))
        (get_or-map shift domains j d F.zero l) (get_or-map log_size domains j d 0 l)
        ∙ ap (λ x. vanishing F (shift (get_or domains j d)) (log_size (get_or domains j d)) x)
        (sym first)

    pub off_others : All (IsOff p) (take i domains) → All (IsOff p) (drop (i + 1) domains)
        → IsOffOthers F (map log_size domains) (map shift domains) i
    off_others before after j l ne e = found (cases_lt j i)
      where
        inside : j < length domains
        inside = omega (arith, l, length-map domains shift)

        value : vanishing F (shift (get_or domains j d)) (log_size (get_or domains j d)) p ≡ F.zero
        value = sym (same_value j inside) ∙ e

        found : (j < i) ⊎ (i ≤ j) → ⊥
        found (inl lower) =
            before j d (omega (arith, lower, length-take-le i domains (omega (arith, below))))
            (ap (λ c. vanishing F (shift c) (log_size c) p) (get_or-take i domains j d lower) ∙ value)
        found (inr above) =
            after (j - (i + 1)) d
            (omega (arith, above, ne, inside, length-drop (i + 1) domains))
            (ap (λ c. vanishing F (shift c) (log_size c) p)
            (get_or-drop (i + 1) domains (j - (i + 1)) d
            ∙ ap (λ n. get_or domains n d)
            (let at : (i + 1) + (j - (i + 1)) ≡ j = omega (arith, above, ne) in at))
            ∙ value)

    pub off_before : IsOffOthers F (map log_size domains) (map shift domains) i
        → All (IsOff p) (take i domains)
    off_before off j x l e =
        off j (omega (arith, lower, below, length-map domains shift))
        (λ same. omega (arith, same, lower))
        (same_value j (omega (arith, lower, below))
        ∙ ap (λ c. vanishing F (shift c) (log_size c) p) (sym here) ∙ e)
      where
        lower : j < i
        lower = omega (arith, l, length-take-le i domains (omega (arith, below)))

        here : get_or (take i domains) j x ≡ get_or domains j d
        here = get_or-take i domains j x lower
            ∙ get_or_default domains j x d (omega (arith, lower, below))

    pub off_after : IsOffOthers F (map log_size domains) (map shift domains) i
        → All (IsOff p) (drop (i + 1) domains)
    off_after off j x l e =
        off (i + 1 + j) (omega (arith, within, length-map domains shift))
        (λ same. omega (arith, same))
        (same_value (i + 1 + j) within
        ∙ ap (λ c. vanishing F (shift c) (log_size c) p) (sym here) ∙ e)
      where
        within : i + 1 + j < length domains
        within = omega (arith, l, length-drop (i + 1) domains)

        here : get_or (drop (i + 1) domains) j x ≡ get_or domains (i + 1 + j) d
        here = get_or-drop (i + 1) domains j x ∙ get_or_default domains (i + 1 + j) x d within

    -- by tests of the cosets before it and after it
    module _ (front : List C) (a : Bool) (firsts : front ≡ take i domains)
        (tested : IsTrue a ↔ All (IsOff p) front) where
      pub off_by_parts : (back : List C) (b : Bool) → back ≡ drop (i + 1) domains
          → (IsTrue b ↔ All (IsOff p) back) → IsTrue a
          → IsTrue b ↔ IsOffOthers F (map log_size domains) (map shift domains) i
      off_by_parts back b others also passes = (
        (λ t. off_others (subst (λ ds. All (IsOff p) ds) firsts (tested.0 passes))
            (subst (λ ds. All (IsOff p) ds) others (also.0 t))),
        (λ off. also.1 (subst (λ ds. All (IsOff p) ds) (sym others) (off_after off))),
      )

      pub on_another : a ≡ false
          → IsTrue a ↔ IsOffOthers F (map log_size domains) (map shift domains) i
      on_another fails = (
        (λ t. absurd (false≢true (sym fails ∙ t))),
        (λ off. tested.1 (subst (λ ds. All (IsOff p) ds) (sym firsts) (off_before off))),
      )
