-- What the hiding scheme commits to, extends and reads are polynomials in the trace's field.
use Rattle.std.specs.Prelude.{◌≡◌, ◌≢◌, ◌≤◌, ◌<◌, ◌+◌, ◌-◌, ℕ, zero, suc, List, [], ◌∷◌}
use Rattle.std.specs.Prelude.{map, length, slice_index_or, true, refl}
use Rattle.std.specs.List.{AllZip}
use Rattle.std.proofs.Common.{sym, ◌∙◌, arith}
use Rattle.std.proofs.lemmas.List.{length-take-le}
use Rattle.rand_core.specs.Stream.{Stream}
use Rattle.algebra.specs.Field.{IsField}
use Rattle.algebra.specs.TwoAdic.{AreRoots}
use Rattle.algebra.proofs.Lists.{All_from_each}
use Rattle.p3_field_core.specs.Coset.{coset_point}
use Rattle.p3_matrix.specs.declared.dense.RowMajorMatrix.{RowMajorMatrix}
use Rattle.p3_matrix.specs.Matrix.{matrix_width}
use Rattle.p3_periodic.specs.Values.{IsColumnValue}
use Rattle.p3_fri_relation.specs.Setting.{Fields, Proof}
use Rattle.p3_fri_openings.specs.Committed.{committed_values}
use Rattle.p3_fri_openings.proofs.Committed.{width_of_values}
use Rattle.p3_fri_openings.specs.Held.{held_of}
use Rattle.p3_fri_masks.specs.QuotientLdes.{CanBeMasked, AreMaskedChunks, first_width}
use Rattle.p3_fri_masks.proofs.ManyMasks.{many_chunks}
use Rattle.p3_fri_hiding_openings.specs.Chunks.{polynomials_on, recombined_on}
use Rattle.p3_fri_hiding_openings.specs.Data.{hidden_columns}
use Rattle.p3_fri_hiding_openings.specs.Setting.{OpeningSetting}
use Rattle.p3_fri_hiding_openings.specs.Shown.{shown_in}
use Rattle.p3_fri_hiding.specs.Rules.{hiding_rules, hiding_stark_rules}
use Rattle.p3_uni_stark_pcs.specs.Laws.{StarkPcsLaws}
use Rattle.p3_uni_stark_pcs.specs.Rooms.{HasRoom}
use Rattle.p3_uni_stark_pcs.specs.Fields.{stark_fields}
use Rattle.p3_uni_stark_pcs.specs.HeldLaws.{all_held, all_shown}
use Rattle.p3_uni_stark_pcs.specs.ChunkLaws.{rows_on}
use Rattle.p3_uni_stark_pcs.specs.HidingRoomLaws.{fits_masked, extendable}

-- what holds at each place of two lists of one length
zip_by_entries : {A B : Type 0} (R : A → B → Type 0) (xs : List A) (ys : List B)
    → length xs ≡ length ys
    → ((i : ℕ) (x : A) (y : B) → i < length xs
    → R (slice_index_or xs i x) (slice_index_or ys i y)) → AllZip R xs ys
zip_by_entries R [] [] e h = tt
zip_by_entries R [] (y ∷ ys) e h = absurd (omega (arith, e))
zip_by_entries R (x ∷ xs) [] e h = absurd (omega (arith, e))
zip_by_entries R (x ∷ xs) (y ∷ ys) e h = (
  h zero x y (omega arith),
  zip_by_entries R xs ys (omega (arith, e)) (λ i a b l. h (suc i) a b (omega (arith, l))),
)

-- the words of masked chunks show as many columns as the chunks have
module _ {F E Domain : Type 0} (f : Fields F E) (L : IsField f.base) (shift : Domain → F)
    (log_size : Domain → ℕ) (from_word : ℕ → F) (b hidden : ℕ) where
  shown_width : (lde : RowMajorMatrix F) (n : ℕ) (z : E) → matrix_width lde ≡ n + hidden
      → length ((shown_in f b hidden lde).values_at z) ≡ n
  shown_width lde n z wide =
      let values = committed_values f b lde z in
      length-take-le (length values - hidden) values (omega arith)
      ∙ omega (arith, wide, width_of_values f b lde z)

  shown_widths : (chunks : List (Domain × RowMajorMatrix F))
      → CanBeMasked f.base shift log_size f.two_adicity b chunks → (words : Stream)
      → (ldes : List (RowMajorMatrix F))
      → AreMaskedChunks f.base shift log_size from_word hidden chunks words f.root f.shift b ldes
      → AllZip (λ lde e. (z : E) → length ((shown_in f b hidden lde).values_at z)
      ≡ matrix_width e.1) ldes chunks
  shown_widths chunks can words ldes masked =
      zip_by_entries (λ lde e. (z : E) → length ((shown_in f b hidden lde).values_at z)
      ≡ matrix_width e.1) ldes chunks many
      (λ i lde e l z. shown_width (slice_index_or ldes i lde) (first_width chunks) z
      (masked.held i lde l).columns ∙ sym (can.widths i e (omega (arith, l, many))))
    where
      many : length ldes ≡ length chunks
      many = masked.count ∙ many_chunks f.base L.ring shift log_size f.two_adicity b chunks can
          from_word hidden words

module _ {F E C D Data Domain Com Path InCom InPath Shown A B : Type 0}
    (basis : ℕ → E) (canonical : F → ℕ) (shift : Domain → F) (log_size : Domain → ℕ)
    (random_of : Shown → List (List (List (List E))))
    (proof_of : Shown → Proof F E Com Path InPath) (num_random : ℕ) (from_word : ℕ → F)
    (r : OpeningSetting F E C D Data Com Path InCom InPath) (L : IsField r.setting.fields.base)
    (W : AreRoots r.setting.fields.base r.setting.fields.two_adicity r.setting.fields.root) where
  pub hiding_polynomials : ((d : Domain) → shift d ≢ r.setting.fields.base.zero)
      → ((d : Domain) → log_size d ≤ r.setting.fields.two_adicity)
      → StarkPcsLaws (stark_fields r.setting.fields basis canonical) shift log_size true
      (hiding_rules {A = A} {B = B} shift log_size random_of proof_of num_random r)
      (hiding_stark_rules shift log_size num_random r from_word) r.setting.fields.lift
      (λ d. coset_point r.setting.fields.base (r.setting.fields.root (log_size d)) (shift d))
      (λ e. polynomials_on r.setting.fields (shift e.0) (log_size e.0) e.1)
      (λ domains rows z. recombined_on r.setting.fields (map log_size domains)
      (map shift domains) rows z)
      (λ d x. IsColumnValue r.setting.fields.base r.setting.fields.root (log_size d) x)
  hiding_polynomials nonzero within = record {
    sizes = λ d. refl;
    embeds = λ x. refl;
    points = λ d i. refl;
    polynomials = λ d honest. all_shown r.setting.fields basis canonical
        (hidden_columns num_random d)
        (held_of r.setting.fields r.committed r.parameters.log_blowup d.inner)
        (all_held r.setting.fields basis canonical r.parameters.log_blowup
        (r.committed d.inner) honest);
    chunks = λ e tall. rows_on r.setting.fields basis canonical L W (shift e.0) (nonzero e.0)
        (log_size e.0) (within e.0) e.1 tall;
    recombine = λ domains values z. refl;
    widths = λ chunks num_chunks ldes can extended. shown_widths r.setting.fields L shift log_size
        from_word r.parameters.log_blowup num_random chunks can.masked extended.0 ldes extended.1;
    periodic = λ d x column value h. h;
    random = λ hides. refl;
  }

  pub hiding_room : r.setting.fields.shift ≢ r.setting.fields.base.zero → (k log : ℕ)
      → k + (log + 1) ≤ r.setting.fields.two_adicity
      → k + 1 + r.parameters.log_blowup ≤ r.setting.fields.two_adicity
      → HasRoom (stark_fields r.setting.fields basis canonical) shift log_size true
      (hiding_rules {A = A} {B = B} shift log_size random_of proof_of num_random r)
      (hiding_stark_rules shift log_size num_random r from_word) k log
  hiding_room nonzero k log within extended = record {
    trace = λ domain matrix size tall. fits_masked r.setting.fields basis canonical shift log_size
        r.parameters.log_blowup k domain matrix size tall extended;
    chunks = λ chunks pairs. extendable r.setting.fields basis canonical shift log_size
        r.parameters.log_blowup k L W nonzero (log + 1) (omega arith) within extended chunks pairs;
    random = λ domain size. All_from_each (λ d. log_size d + r.parameters.log_blowup
        ≤ r.setting.fields.two_adicity) (domain ∷ []) (omega (arith, size, extended), tt);
  }
