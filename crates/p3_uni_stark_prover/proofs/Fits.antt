-- What is read on a coset fits the layout.
use Rattle.std.proofs.Common.{◌+◌, ◌^◌, ap₂}
use Rattle.std.proofs.Common.{◌≡◌, ℕ, List, [], length, get_or, All, refl, sym, ap, ◌∙◌}
use Rattle.std.proofs.Common.{arith, Option, None, Some, true, false}
use Rattle.std.specs.Option.{is_some, option_copied}
use Rattle.std.specs.Borrow.{Bor}
use Rattle.std.proofs.lemmas.List.{length-map, get_or_default}
use Rattle.p3_matrix.specs.declared.dense.RowMajorMatrix.{RowMajorMatrix}
use Rattle.p3_matrix.specs.Matrix.{rows}
use Rattle.p3_periodic.specs.Views.{rows_if_any}
use Rattle.p3_pcs.specs.Scheme.{Scheme}
use Rattle.p3_stark_pcs.specs.Evaluations.{HoldsEvaluations}
use Rattle.p3_stark_pcs.specs.Scheme.{StarkScheme}
use Rattle.algebra.specs.Polynomial.{tabulate}
use Rattle.p3_air.specs.declared.air.Air.{Air}
use Rattle.p3_uni_stark_quotient.specs.Chunked.{chunk_rows}
use Rattle.p3_uni_stark_quotient.specs.Given.{OnCoset, FitsCoset, rows_if_any as lent_rows}
use Rattle.p3_uni_stark_quotient.specs.Quotient.{quotient_on_coset}
use Rattle.p3_uni_stark_verifier.specs.Setting.{StarkFields}
use Rattle.p3_uni_stark_verifier.specs.declared.proof.Statement.{Statement}
use Rattle.p3_uni_stark_phases.specs.Evaluated.{AreRead, AreReadIfAny}
use Rattle.p3_uni_stark_opening.specs.Opened.{HoldsIfSome, values_of}
use Rattle.p3_uni_stark_prover.specs.Quotients.{FitReadings, given_on}

-- rows that are lent are those that are held
pub lent_are : {V : Type 0} (b : Option (Bor (RowMajorMatrix V))) (o : Option (RowMajorMatrix V))
    → option_copied b ≡ o → lent_rows b ≡ rows_if_any o
lent_are None None e = refl
lent_are None (Some m) e = absurd (let h = ap is_some e in false_true h)
  where
    false_true : false ≡ true → ⊥
    false_true e = cc
lent_are (Some b) None e = absurd (let h = ap is_some e in true_false h)
  where
    true_false : true ≡ false → ⊥
    true_false e = cc
lent_are (Some b) (Some m) e = ap (λ (o : Option (RowMajorMatrix _)). rows_if_any o) e

-- columns that are lent are those that are held
pub given_same : {V Com : Type 0} (s : Statement V Com) (m : RowMajorMatrix V)
    (b : Option (Bor (RowMajorMatrix V))) (o : Option (RowMajorMatrix V)) → option_copied b ≡ o
    → (c : Option (Bor (RowMajorMatrix V))) (q : Option (RowMajorMatrix V)) → option_copied c ≡ q
    → (let on : OnCoset V = record {
      trace = rows m;
      preprocessed = lent_rows b;
      periodic = lent_rows c;
      public_values = s.public_values.now;
    } in on) ≡ given_on s m o (rows_if_any q)
given_same s m b o e c q f = ap₂ (λ (p q : List (List _)). (let on : OnCoset _ = record {
  trace = rows m;
  preprocessed = p;
  periodic = q;
  public_values = s.public_values.now;
} in on)) (lent_are b o e) (lent_are c q f)

-- a coset's size and shift by other names
pub rows_moved : {V E : Type 0} (coefficients : E → List V) (fields : StarkFields V E) (air : Air V)
    (k d : ℕ) (alpha : E) (on on' : OnCoset V) → on ≡ on' → (n : ℕ) → n ≡ k + d → (x : V)
    → x ≡ fields.generator
    → tabulate (2 ^ d) (chunk_rows coefficients fields.ext.zero k d (quotient_on_coset fields.base
    fields.ext fields.lift air (fields.root k) (2 ^ k) alpha on (fields.root n) x (2 ^ d) n))
    ≡ tabulate (2 ^ d) (chunk_rows coefficients fields.ext.zero k d (quotient_on_coset fields.base
    fields.ext fields.lift air (fields.root k) (2 ^ k) alpha on' (fields.root (k + d))
    fields.generator (2 ^ d) (k + d)))
rows_moved coefficients fields air k d alpha on on' e n f x h =
    ap (λ (g : OnCoset _). tabulate (2 ^ d) (chunk_rows coefficients fields.ext.zero k d
    (quotient_on_coset fields.base fields.ext fields.lift air (fields.root k) (2 ^ k) alpha g
    (fields.root n) x (2 ^ d) n))) e
    ∙ ap₂ (λ m y. tabulate (2 ^ d) (chunk_rows coefficients fields.ext.zero k d
    (quotient_on_coset fields.base fields.ext fields.lift air (fields.root k) (2 ^ k) alpha on'
    (fields.root m) y (2 ^ d) m))) f h

-- rows of evaluations are as wide as there are values
pub evaluated_widths : {V E : Type 0} (embed : V → E) (point : ℕ → E) (size w : ℕ)
    (values_at : E → List E) (m : RowMajorMatrix V) → HoldsEvaluations embed point size values_at m
    → ((z : E) → length (values_at z) ≡ w) → All (λ row. length row ≡ w) (rows m)
evaluated_widths embed point size w values_at m h many i d l =
    ap length (get_or_default (rows m) i d [] l)
    ∙ sym (length-map (get_or (rows m) i []) embed)
    ∙ ap length (h.value i (omega (arith, l, h.height))) ∙ many (point i)

module _ {E C V Dom Com D Opening Error ProverError : Type 0}
    (r : Scheme E C V Dom Com D Opening Error ProverError) (t : StarkScheme E V Dom D ProverError)
    (embed : V → E) (point : Dom → ℕ → V) (coset : Dom) (size : ℕ) (s : Statement V Com)
    (periodic : List (List V)) (trace : D) (pre : Option D)
    (fit : FitReadings r t coset size s periodic trace pre) where
  pre_height : (o : Option D) (m : Option (RowMajorMatrix V)) → is_some o ≡ true
      → AreReadIfAny r embed point coset o m → length (rows_if_any m) ≡ r.domain_size coset
  pre_height None m e h = absurd (false_true e)
    where
      false_true : false ≡ true → ⊥
      false_true e = cc
  pre_height (Some d) None e h = absurd h
  pre_height (Some d) (Some m) e h = h.height

  pre_widths : (o : Option D) (m : Option (RowMajorMatrix V)) (w : ℕ)
      → HoldsIfSome (λ d. (z : E) → length (values_of r z d) ≡ w) o
      → AreReadIfAny r embed point coset o m → All (λ row. length row ≡ w) (rows_if_any m)
  pre_widths None None w many h = λ i d l. absurd (omega (arith, l))
  pre_widths None (Some m) w many h = absurd h
  pre_widths (Some d) None w many h = absurd h
  pre_widths (Some d) (Some m) w many h = evaluated_widths embed (λ i. embed (point coset i))
      (r.domain_size coset) w (λ z. values_of r z d) m h many

  pub fits_coset : (trace_rows : RowMajorMatrix V) (pre_rows : Option (RowMajorMatrix V))
      → AreRead r embed point coset trace trace_rows
      → AreReadIfAny r embed point coset pre pre_rows
      → FitsCoset s.air.now.layout size (given_on s trace_rows pre_rows periodic)
  fits_coset trace_rows pre_rows h p = record {
    height = h.height ∙ fit.points;
    widths = evaluated_widths embed (λ i. embed (point coset i)) (r.domain_size coset)
        s.air.now.layout.width (λ z. values_of r z trace) trace_rows h fit.trace_width;
    preprocessed_height = λ n. pre_height pre pre_rows (fit.preprocessed_there n) p ∙ fit.points;
    preprocessed_widths = pre_widths pre pre_rows s.air.now.layout.preprocessed_width
        fit.preprocessed_width p;
    periodic_height = fit.periodic_there;
    periodic_widths = fit.periodic_width;
    values = fit.public_count;
  }
