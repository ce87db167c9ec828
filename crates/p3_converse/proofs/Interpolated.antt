-- Polynomials through points and what given polynomials have at each position: the converse of batching.
use Rattle.std.proofs.Common.{◌≡◌, ℕ, zero, suc, ◌+◌, ◌*◌, ◌<◌, List, [], ◌∷◌, length, get_or, map, refl, sym, ap, ap₂, ◌∙◌, arith}
use Rattle.std.proofs.lemmas.List.{take_at, drop_at}
use Rattle.algebra.specs.Field.{FieldOps, IsField}
use Rattle.algebra.specs.Polynomial.{val, tabulate}
use Rattle.algebra.specs.Interpolation.{AreDistinct, Interpolates, interpolant}
use Rattle.algebra.proofs.Lists.{Each, map-tabulate, tabulate-get_or, tabulate-equal, map-each, head_eq, tail_eq, distinct_from_AllPairs}
use Rattle.algebra.proofs.Interpolation.{interpolant_interpolates, equal_from_values}
use Rattle.algebra.proofs.Blocks.{block_values, block_sum, length-block_sum, val-block_sum}
use Rattle.p3_converse.specs.Positions.{part, concatenated, coefficients_at, interleaved, interpolated, stepped}
use Rattle.p3_converse.specs.Batching.{unbatched, IsUnbatching}
use Rattle.p3_converse.proofs.Positions.{length-coefficients_at}
use Rattle.p3_converse.proofs.Concatenated.{length-concatenated, concatenated-equal, part-of_concatenated}
use Rattle.p3_converse.proofs.Blocks.{get_or-concatenated, across, block_sum-concatenated}
use Rattle.p3_converse.proofs.NewtonForm.{map-equal}

-- the values of the blocks, one after another
pub block_values-concatenated : {A : Type 0} (F : FieldOps A) (n d : ℕ) (f : ℕ → List A) (x : A) → ((m : ℕ) → m < d → length (f m) ≡ n)
    → block_values F n d (concatenated d f) x ≡ tabulate d (λ m. val F (f m) x)
block_values-concatenated F n zero f x h = refl
block_values-concatenated F n (suc d) f x h = ap₂ (λ v vs. v ∷ vs)
    (ap (λ c. val F c x) (take_at (f zero) (concatenated d (λ m. f (suc m))) n (h zero (omega arith))))
    (ap (λ c. block_values F n d c x) (drop_at (f zero) (concatenated d (λ m. f (suc m))) n (h zero (omega arith)))
    ∙ block_values-concatenated F n d (λ m. f (suc m)) x (λ m l. h (suc m) (omega (arith, l))))

-- each position interpolated where it stands
pub interpolated-parts : {A : Type 0} (F : FieldOps A) (points : List A) (polys : List (List A)) (d : ℕ) (given : List A) → length polys ≡ length points
    → given ≡ interleaved F polys d → concatenated d (λ m. interpolant F points (part given m (length points))) ≡ interpolated F points polys d
interpolated-parts F points polys d given n e =
    concatenated-equal d (λ m. interpolant F points (part given m (length points))) (λ m. interpolant F points (coefficients_at F polys m))
    (λ m l. ap (λ ys. interpolant F points ys) (ap (λ xs. part xs m (length points)) e
    ∙ part-of_concatenated (length points) d m (coefficients_at F polys) (λ i _. length-coefficients_at F polys i ∙ n) l))

-- polynomials whose values at the points are the coefficients at each position give, at each point, the polynomial beside it
transposed : {A : Type 0} (F : FieldOps A) (d : ℕ) (f : ℕ → List A) (points : List A) (polys : List (List A)) → length points ≡ length polys
    → ((m : ℕ) → m < d → map (λ b. val F (f m) b) points ≡ coefficients_at F polys m) → Each (λ p. length p ≡ d) polys → map (λ b. tabulate d (λ m. val F (f m) b)) points ≡ polys
transposed F d f [] [] e h n = refl
transposed F d f [] (p ∷ ps) e h n = absurd (omega (arith, e))
transposed F d f (b ∷ bs) [] e h n = absurd (omega (arith, e))
transposed F d f (b ∷ bs) (p ∷ ps) e h n = ap₂ (λ q qs. q ∷ qs)
    (tabulate-equal d (λ m. val F (f m) b) (λ m. get_or p m F.zero) (λ m l. head_eq (h m l)) ∙ tabulate-get_or d p F.zero n.0)
    (transposed F d f bs ps (omega (arith, e)) (λ m l. tail_eq (h m l)) n.1)

map-map : {A B C : Type 0} (f : A → B) (g : B → C) (xs : List A) → map (λ x. g (f x)) xs ≡ map g (map f xs)
map-map f g [] = refl
map-map f g (x ∷ xs) = ap (λ ys. g (f x) ∷ ys) (map-map f g xs)

module _ {A : Type 0} (F : FieldOps A) (L : IsField F) (n d : ℕ) (points : List A) (polys : List (List A)) (distinct : AreDistinct points)
    (count : length points ≡ n) (as_many : length polys ≡ n) (one_length : Each (λ p. length p ≡ d) polys) where
  -- the polynomial through what stands at a position
  abbrev through_position : ℕ → List A
  through_position m = interpolant F points (coefficients_at F polys m)

  interpolates_position : (m : ℕ) → Interpolates F points (coefficients_at F polys m) (through_position m)
  interpolates_position m =
      interpolant_interpolates F L points (coefficients_at F polys m) (count ∙ sym as_many ∙ sym (length-coefficients_at F polys m)) (distinct_from_AllPairs points distinct)

  length-through_position : (m : ℕ) → length (through_position m) ≡ n
  length-through_position m = (interpolates_position m).count ∙ count

  entries : List A
  entries = interpolated F points polys d

  pub length-interpolated : length (interpolated F points polys d) ≡ d * n
  length-interpolated = length-concatenated n d through_position (λ m l. length-through_position m)

  length-entries : length entries ≡ d * n
  unfolding entries
  length-entries = length-interpolated

  -- the positions, summed with the powers of `x`, have at each point the value at `x` of the polynomial beside it
  values_at_points : (x : A) → map (λ b. val F (block_sum F n d entries x) b) points ≡ map (λ p. val F p x) polys
  unfolding entries
  values_at_points x =
      map-equal (λ b. val F (block_sum F n d entries x) b) (λ b. val F (tabulate d (λ m. val F (through_position m) b)) x) points
      (λ t z l. val-block_sum F L.ring n d entries x (get_or points t z) length-entries
      ∙ ap (λ c. val F c x) (block_values-concatenated F n d through_position (get_or points t z) (λ m _. length-through_position m)))
      ∙ map-map (λ b. tabulate d (λ m. val F (through_position m) b)) (λ c. val F c x) points
      ∙ ap (λ ps. map (λ p. val F p x) ps) (transposed F d through_position points polys (count ∙ sym as_many) (λ m l. (interpolates_position m).values) one_length)

  -- and they are the only ones
  pub only_block_sum : (x : A) (us : List A) → length us ≡ n → map (λ b. val F us b) points ≡ map (λ p. val F p x) polys → us ≡ block_sum F n d (interpolated F points polys d) x
  unfolding entries
  only_block_sum x us e h =
      equal_from_values F L us (block_sum F n d entries x) points (e ∙ sym (length-block_sum F L.ring n d entries x length-entries))
      (omega (arith, e, count)) (distinct_from_AllPairs points distinct)
      (map-each (λ b. val F us b) (λ b. val F (block_sum F n d entries x) b) points (h ∙ sym (values_at_points x)))

  -- their places, as polynomials
  pub places : tabulate n (λ s. stepped F (interpolated F points polys d) s n d) ≡ unbatched F points polys d
  places =
      tabulate-equal n (λ s. stepped F (interpolated F points polys d) s n d) (λ s. across F L.ring d through_position s)
      (λ s l. tabulate-equal d (λ m. get_or (interpolated F points polys d) (m * n + s) F.zero) (λ m. get_or (through_position m) s F.zero)
      (λ m k. get_or-concatenated n d m s through_position F.zero (λ i _. length-through_position i) k l))
      ∙ ap (λ k. tabulate k (λ s. across F L.ring d through_position s)) (sym count)

  pub is_unbatching : IsUnbatching F points polys (unbatched F points polys d)
  is_unbatching = record {
    values = λ x us e h.
        only_block_sum x us (e ∙ count) h
        ∙ block_sum-concatenated F L.ring n d through_position x (λ m l. length-through_position m)
        ∙ sym (map-tabulate (λ p. val F p x) n (λ s. across F L.ring d through_position s))
        ∙ ap (λ k. map (λ p. val F p x) (tabulate k (λ s. across F L.ring d through_position s))) (sym count);
  }
