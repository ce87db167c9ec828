-- Tables of columns, gone through column by column.
use Rattle.std.proofs.Common.{◌≡◌, ℕ, ◌+◌, ◌<◌, ◌≤◌, List, [], ◌∷◌, ◌++◌, length, take, get_or, All}
use Rattle.std.proofs.Common.{sym, ap, subst, arith, ◌∙◌}
use Rattle.std.proofs.lemmas.List.{take_all, take_more}
use Rattle.std.proofs.lemmas.Slice.Zip.{all_zipped_more}
use Rattle.std.specs.Prelude.{vec_len}
use Rattle.std.specs.List.{AllZip}
use Rattle.std.specs.declared.vec.Vec.{Vec}
use Rattle.p3_periodic.specs.declared.error.PeriodicError.{PeriodicError}
use Rattle.p3_periodic.specs.declared.error.PeriodicError.TheVariants.{NotPowerOfTwo}
use Rattle.p3_periodic.specs.declared.error.PeriodicError.TheVariants.{DoesNotDivide, OutOfMemory}
use Rattle.p3_periodic.specs.Columns.{IsPeriod, HasPeriod, FirstFault, Refuses}

module _ {T A : Type 0} where
  -- the length of a column that is borrowed as a slice
  pub period_of_slice : (height : ℕ) (columns : List (Vec T A)) (i : ℕ) (column : Vec T A)
      (slice : List T) → i < length columns → column ≡ get_or columns i column
      → slice ≡ column.items → vec_len column ≡ length column.items
      → All (HasPeriod height) columns → IsPeriod height (length slice)
  period_of_slice height columns i column slice l e same counted all =
      subst (λ n. IsPeriod height n) (counted ∙ sym (ap length same))
      (subst (λ c. HasPeriod height c) (sym e) (all i column l))

  -- one column and its value more
  pub values_more : {E : Type 0} (R : Vec T A → E → Type 0) (columns : List (Vec T A)) (i : ℕ)
      (column : Vec T A) (values values' : List E) (value : E) → i < length columns
      → column ≡ get_or columns i column → values' ≡ values ++ value ∷ []
      → AllZip R (take i columns) values → R column value
      → AllZip R (take (i + 1) columns) values'
  values_more R columns i column values values' value l e pushed before here =
      subst (λ ys. AllZip R (take (i + 1) columns) ys) (sym pushed)
      (subst (λ xs. AllZip R xs (values ++ value ∷ []))
      (ap (λ c. take i columns ++ c ∷ []) e ∙ sym (take_more columns i column l))
      (all_zipped_more R (take i columns) values column value before here))

  pub values_of_all : {E : Type 0} (R : Vec T A → E → Type 0) (columns : List (Vec T A)) (i : ℕ)
      (values : List E) → length columns ≤ i → AllZip R (take i columns) values
      → AllZip R columns values
  values_of_all R columns i values l all =
      subst (λ xs. AllZip R xs values) (take_all i columns l) all

  -- what refuses the columns refuses the call
  pub refused_by_first : (height : ℕ) (columns : List (Vec T A)) (fault : PeriodicError)
      → FirstFault height columns fault → Refuses height columns fault
  refused_by_first height columns (NotPowerOfTwo _ _) first = first
  refused_by_first height columns (DoesNotDivide _ _ _) first = first
  refused_by_first height columns OutOfMemory first = absurd (no_place columns first)
    where
      no_place : (cs : List (Vec T A)) → FirstFault height cs OutOfMemory → ⊥
      no_place [] f = absurd (omega (arith, f.within))
      no_place (c ∷ cs) f = f.here c
