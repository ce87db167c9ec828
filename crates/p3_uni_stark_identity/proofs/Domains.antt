-- Domains of chunks, and what the polynomials that vanish on them give to a chunk's factor.
use Rattle.std.proofs.Common.{◌≡◌, ◌≢◌, ℕ, ◌+◌, ◌^◌, ◌<◌, ◌≤◌, ◌==◌, cond, List, [], ◌∷◌, ◌++◌}
use Rattle.std.proofs.Common.{length, map, get_or, All, sym, ap, ap₂, subst, ◌∙◌, arith}
use Rattle.std.proofs.lemmas.List.{length-map, get_or-map, map-append}
use Rattle.std.proofs.lemmas.List.Elements.{All-push}
use Rattle.algebra.specs.Field.{FieldOps, IsRing, IsField, IsHomomorphism, pow}
use Rattle.algebra.specs.Polynomial.{tabulate}
use Rattle.algebra.specs.TwoAdic.{AreRoots}
use Rattle.algebra.specs.Cosets.{vanishing}
use Rattle.algebra.proofs.Lifting.{homomorphism-inv}
use Rattle.algebra.proofs.Lists.{tabulate-next, get_or-tabulate}
use Rattle.algebra.proofs.Powers.{pow-zero, pow-next}
use Rattle.p3_field_core.specs.Coset.{coset_point}
use Rattle.stark_algebra.specs.Laws.{IsSplit}
use Rattle.stark_algebra.proofs.Columns.{lifted_vanishing}
use Rattle.stark_algebra.proofs.Recombined.{cosets_split}
use Rattle.p3_uni_stark_identity.specs.Chunks.{AreChunkDomains, chunk_shifts}
use Rattle.p3_uni_stark_identity.proofs.Recombination.{elsewhere}

module _ {D A : Type 0} (F : FieldOps A) (domains : List D) (shift : D → A) (log_size : D → ℕ)
  where
    -- the shift of a domain that was read
    pub shift_at : (i : ℕ) (d : D) → i < length domains → d ≡ get_or domains i d
        → shift d ≡ get_or (map shift domains) i F.zero
    shift_at i d l is = ap shift is ∙ sym (get_or-map shift domains i d F.zero l)

    pub size_at : (i : ℕ) (d : D) → i < length domains → d ≡ get_or domains i d
        → log_size d ≡ get_or (map log_size domains) i 0
    size_at i d l is = ap log_size is ∙ sym (get_or-map log_size domains i d 0 l)

    -- and in an extension
    pub lifted_shift : {E : Type 0} (lift : A → E) (nothing : E) (i : ℕ) (d : D) → i < length domains
        → d ≡ get_or domains i d → lift (shift d) ≡ get_or (map lift (map shift domains)) i nothing
    lifted_shift lift nothing i d l is =
        ap lift (shift_at i d l is)
        ∙ sym (get_or-map lift (map shift domains) i F.zero nothing
        (omega (arith, l, length-map domains shift)))

    module _ (disjoint : AreChunkDomains F (map log_size domains) (map shift domains)) where
      abbrev k : ℕ
      k = get_or (map log_size domains) 0 0

      many : length (map log_size domains) ≡ length domains
      many = length-map domains log_size

      pub one_size : (i : ℕ) (d : D) → i < length domains → d ≡ get_or domains i d → log_size d ≡ k
      one_size i d l is = size_at i d l is ∙ disjoint.one_size i 0 (omega (arith, l, many))

      -- the value on another domain of the polynomial that vanishes on one isn't zero
      pub off_others : (i j : ℕ) (d e : D) → i < length domains → j < length domains → j ≢ i
          → d ≡ get_or domains i d → e ≡ get_or domains j e → (v : A)
          → v ≡ vanishing F (shift e) (log_size e) (shift d) → v ≢ F.zero
      off_others i j d e li lj other di ej v is z =
          disjoint.apart i j (omega (arith, li, many)) (omega (arith, lj, many)) other
          (ap₂ (λ s x. vanishing F s k x) (sym (shift_at j e lj ej)) (sym (shift_at i d li di))
          ∙ ap (λ n. vanishing F (shift e) n (shift d)) (sym (one_size j e lj ej))
          ∙ sym is ∙ z)

      module _ {E : Type 0} (L : IsField F) (K : FieldOps E) (M : IsField K) (lift : A → E)
          (H : IsHomomorphism F K lift) (top : ℕ) (w : ℕ → A) (W : AreRoots F top w) where
        pub factor_elsewhere : (i j : ℕ) (d e : D) → i < length domains → j < length domains → j ≢ i
            → d ≡ get_or domains i d → e ≡ get_or domains j e → shift e ≢ F.zero
            → log_size e ≤ top → (p r : E) (v u : A)
            → v ≡ vanishing F (shift e) (log_size e) (shift d) → u ≡ F.inv v
            → r ≡ K.mul p (lift u)
            → r ≡ cond (j == i) K.one (K.mul p (K.inv (vanishing K
            (get_or (map lift (map shift domains)) j K.zero) k
            (get_or (map lift (map shift domains)) i K.zero))))
        factor_elsewhere i j d e li lj other di ej n b p r v u is inverted product =
            product
            ∙ ap (λ x. K.mul p x)
            (ap lift inverted
            ∙ homomorphism-inv F K lift L M H v (off_others i j d e li lj other di ej v is)
            ∙ ap K.inv (ap lift is
            ∙ lifted_vanishing F L K M lift H top w W (log_size e) b (shift e) (shift d) n
            ∙ ap (λ m. vanishing K (lift (shift e)) m (lift (shift d))) (one_size j e lj ej)
            ∙ ap₂ (λ s x. vanishing K s k x) (lifted_shift lift K.zero j e lj ej) (lifted_shift lift K.zero i d li di)))
            ∙ sym (elsewhere K M.ring i j (K.mul p (K.inv (vanishing K
            (get_or (map lift (map shift domains)) j K.zero) k
            (get_or (map lift (map shift domains)) i K.zero)))) other)

-- shifts, one after another
module _ {A : Type 0} (F : FieldOps A) (R : IsRing F) (w s : A) where
  pub shift_first : (x : A) → x ≡ s → x ≡ coset_point F w s 0
  shift_first x e = e ∙ sym (ap (λ p. F.mul s p) (pow-zero F w) ∙ R.mul_one s)

  pub shift_next : (i : ℕ) (x y : A) → x ≡ coset_point F w s i → y ≡ F.mul x w
      → y ≡ coset_point F w s (i + 1)
  shift_next i x y e h =
      h ∙ ap (λ a. F.mul a w) e ∙ R.mul_assoc s (pow F w i) w
      ∙ ap (λ p. F.mul s p) (R.mul_comm (pow F w i) w ∙ sym (pow-next F w i))

-- domains, one more
pub shifts_next : {D A : Type 0} (xs ys : List D) (x : D) → ys ≡ xs ++ x ∷ [] → (shift : D → A)
    (n : ℕ) (f : ℕ → A) → map shift xs ≡ tabulate n f → shift x ≡ f n
    → map shift ys ≡ tabulate (n + 1) f
shifts_next xs ys x grown shift n f e h =
    ap (λ zs. map shift zs) grown ∙ map-append shift xs (x ∷ [])
    ∙ ap₂ (λ zs z. zs ++ z ∷ []) e h ∙ sym (tabulate-next n f)

pub sizes_next : {D : Type 0} (xs ys : List D) (x : D) → ys ≡ xs ++ x ∷ [] → (log_size : D → ℕ)
    (m : ℕ) → All (λ n. n ≡ m) (map log_size xs) → log_size x ≡ m
    → All (λ n. n ≡ m) (map log_size ys)
sizes_next xs ys x grown log_size m e h =
    subst (λ ns. All (λ n. n ≡ m) ns)
    (sym (ap (λ zs. map log_size zs) grown ∙ map-append log_size xs (x ∷ [])))
    (All-push (λ n. n ≡ m) (map log_size xs) (log_size x) e h)

pub sizes_none : {D : Type 0} (xs : List D) (log_size : D → ℕ) (m : ℕ) → xs ≡ []
    → All (λ n. n ≡ m) (map log_size xs)
sizes_none xs log_size m none =
    subst (λ zs. All (λ n. n ≡ m) (map log_size zs)) (sym none) (λ i d l. absurd (omega (arith, l)))

-- the cosets into which one is split
module _ {A : Type 0} (F : FieldOps A) (L : IsField F) (top : ℕ) (w : ℕ → A) (W : AreRoots F top w)
    (s : A) (n : s ≢ F.zero) (k d : ℕ) (b : k + d ≤ top) where
  abbrev split : IsSplit F w s k d
  split = cosets_split F L top w W s n k d b

  pub shift_nonzero : (i : ℕ) (x : A) → x ≡ coset_point F (w (k + d)) s i → x ≢ F.zero
  shift_nonzero i x is e = let h = split in h.nonzero i (sym is ∙ e)

  pub are_domains : (sizes : List ℕ) (shifts : List A) → length sizes ≡ 2 ^ d
      → shifts ≡ chunk_shifts F w s k d → All (λ m. m ≡ k) sizes → AreChunkDomains F sizes shifts
  are_domains sizes shifts many are all = record {
    one_size = λ i e l. all i e l ∙ sym (first i l);
    apart = λ i j li lj other e. let h = split in
        h.apart i j (omega (arith, li, many)) (omega (arith, lj, many)) other
        (ap₂ (λ a x. vanishing F a k x) (sym (at j (omega (arith, lj, many))))
        (sym (at i (omega (arith, li, many))))
        ∙ ap (λ m. vanishing F (get_or shifts j F.zero) m (get_or shifts i F.zero))
        (sym (first i li)) ∙ e);
  }
    where
      first : (i : ℕ) → i < length sizes → get_or sizes 0 0 ≡ k
      first i l = all 0 0 (omega (arith, l))

      at : (i : ℕ) → i < 2 ^ d → get_or shifts i F.zero ≡ F.mul s (pow F (w (k + d)) i)
      at i l = ap (λ xs. get_or xs i F.zero) are
          ∙ get_or-tabulate (2 ^ d) (coset_point F (w (k + d)) s) i F.zero l
