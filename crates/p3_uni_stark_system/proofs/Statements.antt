-- What a prover is asked of a statement of a system, by what the system is held against.
use Rattle.std.proofs.Common.{◌≡◌, ◌==◌, ◌≤◌, ◌<◌, ℕ, ◌+◌, ◌^◌, Bool, List, not, sym, subst}
use Rattle.std.proofs.Common.{Option, None, Some, arith, true, false}
use Rattle.std.proofs.lemmas.Bool.Decides.{nat_tests}
use Rattle.std.specs.Option.{is_some}
use Rattle.algebra.specs.Field.{FieldOps}
use Rattle.p3_air.specs.declared.air.Air.{Air}
use Rattle.p3_air.specs.Satisfied.{IsSatisfied}
use Rattle.p3_pcs.specs.Scheme.{Scheme}
use Rattle.p3_stark_pcs.specs.Scheme.{StarkScheme}
use Rattle.p3_uni_stark_verifier.specs.Chunks.{hiding_bits}
use Rattle.p3_uni_stark_verifier.specs.declared.proof.PreprocessedVerifierKey.{
  PreprocessedVerifierKey,
}
use Rattle.p3_uni_stark_prover.specs.Provable.{FitsField}
use Rattle.p3_uni_stark_prover.proofs.Fitting.{same_power}
use Rattle.p3_uni_stark_system.specs.Keys.{AreHeld}

-- a trace that fits the field has room there, by whatever name its height's logarithm has
pub fits_trace : {V : Type 0} (top log_blowup : ℕ) (zk : Bool) (air : Air V) (n k : ℕ)
    → FitsField top log_blowup zk air n → n ≡ 2 ^ k → k + hiding_bits zk + log_blowup ≤ top
fits_trace top log_blowup zk air n k fits is =
    subst (λ j. j + hiding_bits zk + log_blowup ≤ top)
    (same_power fits.log_height k n fits.height is) fits.trace

none_of_none : (width : ℕ) → width ≡ 0 → false ≡ not (width == 0)
none_of_none width h = grind (arith, nat_tests)

some_of_some : (width : ℕ) → 0 < width → true ≡ not (width == 0)
some_of_some width h = grind (arith, nat_tests)

-- there is a key exactly where there are columns
pub key_known : {E C V Dom Com D Opening Error ProverError : Type 0}
    (r : Scheme E C V Dom Com D Opening Error ProverError) (zk : Bool)
    (IsSubgroup : ℕ → Dom → Type 0) (t : StarkScheme E V Dom D ProverError) (k width : ℕ)
    (rows : List (List V)) (key : Option (PreprocessedVerifierKey Com)) (d : Option D)
    → AreHeld r zk IsSubgroup t k width rows key d → is_some key ≡ not (width == 0)
key_known r zk IsSubgroup t k width rows None None h = none_of_none width h
key_known r zk IsSubgroup t k width rows None (Some d) h = absurd h
key_known r zk IsSubgroup t k width rows (Some key) None h = absurd h
key_known r zk IsSubgroup t k width rows (Some key) (Some d) h = some_of_some width h.0

-- the same elements by other names satisfy the system
pub satisfied_named : {V : Type 0} (K : FieldOps V) (air : Air V) (t u p q : List (List V))
    (x y : List V) (m n : List (List V)) → t ≡ u → p ≡ q → x ≡ y → m ≡ n
    → IsSatisfied K air
    (record { trace = u; preprocessed = q; public_values = y; periodic = n })
    → IsSatisfied K air
    (record { trace = t; preprocessed = p; public_values = x; periodic = m })
satisfied_named K air t u p q x y m n a b e f h =
    subst (λ z. IsSatisfied K air
    (record { trace = z; preprocessed = p; public_values = x; periodic = m })) (sym a)
    (subst (λ z. IsSatisfied K air
    (record { trace = u; preprocessed = z; public_values = x; periodic = m })) (sym b)
    (subst (λ z. IsSatisfied K air
    (record { trace = u; preprocessed = q; public_values = z; periodic = m })) (sym e)
    (subst (λ z. IsSatisfied K air
    (record { trace = u; preprocessed = q; public_values = y; periodic = z })) (sym f) h)))
