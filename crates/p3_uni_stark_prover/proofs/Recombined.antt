-- What committed chunks recombine to.
use Rattle.std.proofs.Common.{◌≡◌, ℕ, ◌<◌, List, [], ◌∷◌, length, map, get_or, sym, ap, ap₂, ◌∙◌}
use Rattle.std.proofs.Common.{arith, pow_pos}
use Rattle.algebra.specs.RecombinedQuotients.{recombined_columns}
use Rattle.p3_matrix.specs.declared.dense.RowMajorMatrix.{RowMajorMatrix}
use Rattle.p3_uni_stark_identity.specs.Chunks.{chunk_shifts, quotient_at, by_basis}
use Rattle.p3_uni_stark_verifier.specs.Setting.{StarkFields}
use Rattle.p3_uni_stark_pcs.specs.Rooms.{AreChunksOf}
use Rattle.p3_uni_stark_prover.proofs.Chunks.{counted}
use Rattle.p3_uni_stark_prover.proofs.Kept.{twice_mapped}

module _ {V E Dom : Type 0} (fields : StarkFields V E) (shift : Dom → V) (log_size : Dom → ℕ)
    (recombined : List Dom → List (List E) → E → List E)
    (law : (domains : List Dom) (values : List (List E)) (z : E)
    → recombined domains values z ≡ recombined_columns fields.ext
    (get_or (map log_size domains) 0 0) (map fields.lift (map shift domains)) values z)
    (k d : ℕ) (es : List (Dom × RowMajorMatrix V)) (pairs : AreChunksOf fields shift log_size k d es)
  where
    abbrev domains : List Dom
    domains = map (λ e. e.0) es

    first_size : get_or (map log_size domains) 0 0 ≡ k
    first_size =
        ap (λ ns. get_or ns 0 0) (twice_mapped (λ e. e.0) log_size es)
        ∙ at_first es (omega (arith, counted fields shift log_size k d es pairs, pow_pos d))
        pairs
      where
        at_first : (es : List (Dom × RowMajorMatrix V)) → 0 < length es
            → AreChunksOf fields shift log_size k d es
            → get_or (map (λ e. log_size e.0) es) 0 0 ≡ k
        at_first [] l p = absurd (omega (arith, l))
        at_first (e ∷ es) l p = p.sizes 0 e (omega arith)

    shifts_are : map shift domains ≡ chunk_shifts fields.base fields.root fields.generator k d
    shifts_are = twice_mapped (λ e. e.0) shift es ∙ pairs.shifts

    -- values that recombine alike give one quotient
    pub same_quotient : (values others : List (List E)) (z : E)
        → recombined domains values z ≡ recombined domains others z
        → quotient_at fields.ext fields.dimension fields.basis k (map fields.lift
        (chunk_shifts fields.base fields.root fields.generator k d)) others z
        ≡ quotient_at fields.ext fields.dimension fields.basis k (map fields.lift
        (chunk_shifts fields.base fields.root fields.generator k d)) values z
    same_quotient values others z e =
        ap (λ vs. by_basis fields.ext fields.dimension fields.basis vs)
        (sym (known others) ∙ sym e ∙ known values)
      where
        known : (values : List (List E)) → recombined domains values z
            ≡ recombined_columns fields.ext k (map fields.lift
            (chunk_shifts fields.base fields.root fields.generator k d)) values z
        known values = law domains values z
            ∙ ap₂ (λ n ss. recombined_columns fields.ext n (map fields.lift ss) values z)
            first_size shifts_are
