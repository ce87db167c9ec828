-- What a refusal names isn't so of what is accepted.
use Rattle.std.proofs.Common.{◌≡◌, ℕ, ◌<◌, ◌^◌, List, [], ◌∷◌, length, map, All, refl, sym, ap₂, ◌∙◌, arith, inl, inr, slice_index_or}
use Rattle.std.specs.List.{AllZip}
use Rattle.std.specs.declared.vec.Vec.{Vec}
use Rattle.std.proofs.lemmas.List.{length-map}
use Rattle.std.proofs.lemmas.List.Elements.{All-head, All-tail}
use Rattle.algebra.specs.Field.{FieldOps}
use Rattle.p3_air.specs.declared.air.Air.{Air}
use Rattle.p3_air.specs.declared.air.AirLayout.{AirLayout}
use Rattle.p3_air.specs.declared.air.Node.{Node}
use Rattle.p3_air.specs.declared.air.Node.TheVariants.{Constant, Local, Next, Preprocessed}
use Rattle.p3_air.specs.declared.air.Node.TheVariants.{PreprocessedNext, Public, Periodic}
use Rattle.p3_air.specs.declared.air.Node.TheVariants.{Add, Sub, Mul, Neg}
use Rattle.p3_air.specs.declared.air.Rows.TheVariants as rows
use Rattle.p3_air.specs.declared.air.Constraint.{Constraint}
use Rattle.p3_air.specs.declared.error.AirError.{AirError}
use Rattle.p3_air.specs.WellFormed.{IsGrounded, IsWellFormed, OperandFault, NodeFault, FirstFault}
use Rattle.p3_periodic.specs.declared.error.PeriodicError.{PeriodicError}
use Rattle.p3_periodic.specs.declared.error.PeriodicError.TheVariants.{NotPowerOfTwo, DoesNotDivide, OutOfMemory}
use Rattle.p3_periodic.specs.Columns.{IsPeriod, PeriodFault, HasPeriod, FirstFault as FirstPeriodFault}
use Rattle.p3_periodic.specs.Values.{IsValueOf, IsValueAt}

operands : (at a b : ℕ) (f : AirError) → OperandFault at a b f → (a < at) × (b < at) → ⊥
operands at a b f (inl h) g = omega (arith, h.0, g.0)
operands at a b f (inr h) g = omega (arith, h.1.0, g.1)

node_refused : {V : Type 0} (layout : AirLayout) (at : ℕ) (node : Node V) (f : AirError)
    → NodeFault layout at node f → IsGrounded layout at node → ⊥
node_refused layout at (Constant v) f h g = h
node_refused layout at (Local i) f h g = omega (arith, h.0, g)
node_refused layout at (Next i) f h g = omega (arith, h.0, g)
node_refused layout at (Preprocessed i) f h g = omega (arith, h.0, g)
node_refused layout at (PreprocessedNext i) f h g = omega (arith, h.0, g)
node_refused layout at (Public i) f h g = omega (arith, h.0, g)
node_refused layout at (Periodic i) f h g = omega (arith, h.0, g)
node_refused layout at (Add a b) f h g = operands at a b f h g
node_refused layout at (Sub a b) f h g = operands at a b f h g
node_refused layout at (Mul a b) f h g = operands at a b f h g
node_refused layout at (Neg a) f h g = omega (arith, h.0, g)

pub malformed : {V : Type 0} (air : Air V) (f : AirError) → FirstFault air f → IsWellFormed air → ⊥
malformed air f (inl h) w =
    node_refused air.layout h.at (slice_index_or air.nodes.items h.at (Local 0)) f (h.here (Local 0))
    (w.nodes h.at (Local 0) h.within)
malformed air f (inr h) w =
    let d : Constraint = record { rows = rows.All; node = 0 } in
    omega (arith, (h.here d).0, w.constraints h.at d h.within)

-- the first element of a list that has some
some_of : {X : Type 0} (xs : List X) (k : ℕ) → k < length xs → X
some_of [] k l = absurd (omega (arith, l))
some_of (x ∷ xs) k l = x

period_refused : (height place n : ℕ) (f : PeriodicError) → PeriodFault height place n f
    → IsPeriod height n → ⊥
period_refused height place n (NotPowerOfTwo column found) h q = h.0 q.power_of_two
period_refused height place n (DoesNotDivide column found rows) h q = h.1 q.divides
period_refused height place n OutOfMemory h q = h

pub not_periodic : {V A : Type 0} (height : ℕ) (columns : List (Vec V A)) (f : PeriodicError)
    → FirstPeriodFault height columns f → All (HasPeriod height) columns → ⊥
not_periodic height columns f h all =
    let d = some_of columns h.place h.within in
    period_refused height h.place _ f (h.here d) (all h.place d h.within)

module _ {V E A : Type 0} (K : FieldOps E) (w : ℕ → E) (log : ℕ) (z : E) (lift : V → E) where
  one_value : (c : Vec V A) (v u : E) → IsPeriod (2 ^ log) c.len
      → IsValueAt K w log z lift c v → IsValueAt K w log z lift c u → v ≡ u
  unfolding IsValueOf
  one_value c v u p a b =
      let k = p.power_of_two.0 in
      let n : length (map lift c.items) ≡ 2 ^ k =
      omega (arith, c.ok.0, length-map c.items lift, p.power_of_two.1) in
      a k n ∙ sym (b k n)

  -- periodic columns have one list of values
  pub same_periodic : (columns : List (Vec V A)) (vs us : List E)
      → All (HasPeriod (2 ^ log)) columns → AllZip (IsValueAt K w log z lift) columns vs
      → AllZip (IsValueAt K w log z lift) columns us → vs ≡ us
  same_periodic [] [] [] all a b = refl
  same_periodic [] [] (u ∷ us) all a b = absurd b
  same_periodic [] (v ∷ vs) us all a b = absurd a
  same_periodic (c ∷ cs) [] us all a b = absurd a
  same_periodic (c ∷ cs) (v ∷ vs) [] all a b = absurd b
  same_periodic (c ∷ cs) (v ∷ vs) (u ∷ us) all a b =
      ap₂ (λ x xs. x ∷ xs)
      (one_value c v u (All-head (HasPeriod (2 ^ log)) c cs all) a.0 b.0)
      (same_periodic cs vs us (All-tail (HasPeriod (2 ^ log)) c cs all) a.1 b.1)

  -- as many as there are columns
  pub periodic_count : (columns : List (Vec V A)) (vs : List E)
      → AllZip (IsValueAt K w log z lift) columns vs → length vs ≡ length columns
  periodic_count [] [] a = refl
  periodic_count [] (v ∷ vs) a = absurd a
  periodic_count (c ∷ cs) [] a = absurd a
  periodic_count (c ∷ cs) (v ∷ vs) a = let rest = periodic_count cs vs a.1 in omega (arith, rest)
