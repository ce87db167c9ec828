-- The terms of a quotient sum over tables are the quotients of the tables' columns.
use Rattle.std.proofs.Common.{◌≡◌, ◌==◌, ℕ, ◌+◌, ◌-◌, ◌/◌, ◌^◌, ◌<◌, List, [], ◌∷◌, ◌++◌, length, map, get_or, drop}
use Rattle.std.proofs.Common.{refl, sym, ap, ap₂, ◌∙◌, arith, Bool, true, false, if◌then◌else◌}
use Rattle.std.specs.List.{flat_map, AllZip}
use Rattle.std.proofs.lemmas.Bool.{eqb-true}
use Rattle.std.proofs.lemmas.List.{drop_more, map-append}
use Rattle.algebra.specs.Field.{IsHomomorphism, sub}
use Rattle.algebra.specs.Cosets.{coset_pt}
use Rattle.algebra.specs.Quotients.{quotients}
use Rattle.algebra.proofs.Lists.{get_or-tabulate, each_from_All, Each}
use Rattle.algebra.proofs.Lifting.{lifted_coset_pt}
use Rattle.p3_pcs.specs.Claims.{PointClaim}
use Rattle.p3_fri_relation.specs.Setting.{Fields, MatrixClaim, CommitmentClaim}
use Rattle.p3_fri_relation.specs.Heights.{log_height}
use Rattle.p3_fri_relation.specs.Inputs.{HasPoints}
use Rattle.p3_fri_relation.specs.QuotientSums.{matrix_terms, commitment_terms, terms}
use Rattle.fri_soundness.specs.Batches.{OpenedColumn, quotient_at}
use Rattle.p3_fri_soundness.specs.BoundInputs.{column_of, columns_from, matrix_columns, commitment_columns, rows_of, IsTable, columns_claimed, rows_claimed, TablesFit}

module _ {F E : Type 0} (f : Fields F E) (H : IsHomomorphism f.base f.ext f.lift) (log_blowup : ℕ) (h i : ℕ) (inside : i < 2 ^ h) where
  abbrev quotient : OpenedColumn E → E
  quotient t = quotient_at f.ext (λ k. f.lift (f.root k)) (f.lift f.shift) h i t

  abbrev x : E
  x = f.lift (coset_pt f.base f.root f.shift i h)

  point_terms : (table : List (List F)) (z : E) (k : ℕ) (ys : List E) → length ys + k ≡ length (get_or table i [])
      → quotients f.ext z x ys (map f.lift (drop k (get_or table i []))) ≡ map quotient (columns_from f log_blowup h table z k ys)
  point_terms table z k [] n = refl
  point_terms table z k (y ∷ ys) n =
      ap (λ us. quotients f.ext z x (y ∷ ys) (map f.lift us)) (drop_more (get_or table i []) k f.base.zero (omega (arith, n)))
      ∙ ap₂ (λ v vs. v ∷ vs) one (point_terms table z (k + 1) ys (omega (arith, n)))
    where
      one : f.ext.mul (sub f.ext y (f.lift (get_or (get_or table i []) k f.base.zero))) (f.ext.inv (sub f.ext z x))
          ≡ quotient (record { point = z; claim = y; column = column_of f log_blowup h table k })
      one = ap₂ (λ u p. f.ext.mul (sub f.ext y u) (f.ext.inv (sub f.ext z p)))
          (sym (get_or-tabulate (2 ^ h) (λ i. f.lift (get_or (get_or table i []) k f.base.zero)) i f.ext.zero inside))
          (lifted_coset_pt f.base f.ext f.lift H f.root f.shift i h)

  matrix_is : (table : List (List F)) (points : List (PointClaim E)) → Each (λ z. length z.values ≡ length (get_or table i [])) points
      → flat_map (λ z. quotients f.ext z.point x z.values (map f.lift (get_or table i []))) points
      ≡ map quotient (flat_map (λ z. columns_from f log_blowup h table z.point 0 z.values) points)
  matrix_is table [] n = refl
  matrix_is table (z ∷ points) n =
      ap₂ (λ us vs. us ++ vs) (point_terms table z.point 0 z.values (omega (arith, n.0))) (matrix_is table points n.1)
      ∙ sym (map-append quotient (columns_from f log_blowup h table z.point 0 z.values) (flat_map (λ z. columns_from f log_blowup h table z.point 0 z.values) points))

  module _ (top q : ℕ) (at : q / 2 ^ (top - h) ≡ i) where
    commitment_is : {InCom : Type 0} (claim : InCom) (ms : List (MatrixClaim E)) (tables : List (List (List F))) → AllZip (IsTable f log_blowup) ms tables → Each HasPoints ms
        → commitment_terms f log_blowup h x (record { commitment = claim; matrices = ms }) (rows_of f log_blowup top q ms tables)
        ≡ map quotient (commitment_columns f log_blowup h ms tables)
    commitment_is claim [] tables t p = refl
    commitment_is claim (m ∷ ms) [] t p = absurd t
    commitment_is claim (m ∷ ms) (table ∷ tables) t p =
        ap₂ (λ us vs. us ++ vs) (by (log_height log_blowup m == h) refl) (commitment_is claim ms tables t.1 p.1)
        ∙ sym (map-append quotient (if log_height log_blowup m == h then matrix_columns f log_blowup h m table else []) (commitment_columns f log_blowup h ms tables))
      where
        by : (b : Bool) → (log_height log_blowup m == h) ≡ b
            → (if b then matrix_terms f x m (get_or table (q / 2 ^ (top - log_height log_blowup m)) []) else []) ≡ map quotient (if b then matrix_columns f log_blowup h m table else [])
        by false e = refl
        by true e =
            let same : log_height log_blowup m ≡ h = eqb-true (log_height log_blowup m) h e in
            ap (λ n. matrix_terms f x m (get_or table n [])) (ap (λ k. q / 2 ^ (top - k)) same ∙ at)
            ∙ matrix_is table m.points (each_from_All (λ z. length z.values ≡ length (get_or table i [])) m.points
            (λ k d l. p.0.counts k d l ∙ sym (t.0.widths i [] (omega (arith, inside, t.0.height, ap (λ k. 2 ^ k) same)))))

    pub terms_are : {InCom : Type 0} (claims : List (CommitmentClaim E InCom)) (tables : List (List (List (List F))))
        → TablesFit f log_blowup claims tables
        → Each (λ (claim : CommitmentClaim E InCom). Each HasPoints claim.matrices) claims
        → terms f log_blowup h x claims (rows_claimed f log_blowup top q claims tables) ≡ map quotient (columns_claimed f log_blowup h claims tables)
    terms_are [] tables t p = refl
    terms_are (claim ∷ claims) [] t p = absurd t
    terms_are (claim ∷ claims) (ts ∷ tables) t p =
        ap₂ (λ us vs. us ++ vs) (commitment_is claim.commitment claim.matrices ts t.0 p.0) (terms_are claims tables t.1 p.1)
        ∙ sym (map-append quotient (commitment_columns f log_blowup h claim.matrices ts) (columns_claimed f log_blowup h claims tables))
