-- The fields of a scheme as those of a STARK.
use Rattle.std.specs.Prelude.{ℕ}
use Rattle.p3_fri_relation.specs.Setting.{Fields}
use Rattle.p3_uni_stark_verifier.specs.Setting.{StarkFields}

-- the same fields, with a basis of the extension and the numbers of elements: the evaluation cosets
-- have the shift of the coset that is split into chunks
abbrev pub stark_fields : {F E : Type 0} → Fields F E → (basis : ℕ → E) (canonical : F → ℕ)
    → StarkFields F E
stark_fields f basis canonical = record {
  base = f.base;
  ext = f.ext;
  lift = f.lift;
  root = f.root;
  two_adicity = f.two_adicity;
  generator = f.shift;
  dimension = f.degree;
  basis = basis;
  canonical = canonical;
}
