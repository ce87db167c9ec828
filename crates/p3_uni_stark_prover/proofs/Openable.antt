-- Committed data may be opened.
use Rattle.std.proofs.Common.{if◌then◌else◌}
use Rattle.std.proofs.Common.{◌≡◌, ℕ, ◌+◌, ◌*◌, ◌^◌, Bool, true, false, List, [], ◌∷◌, length}
use Rattle.std.proofs.Common.{refl, sym, ap, subst, ◌∙◌, arith}
use Rattle.std.proofs.Common.{Option, None, Some}
use Rattle.std.specs.List.{AllZip}
use Rattle.std.specs.Option.{is_some}
use Rattle.std.proofs.lemmas.Nat.{pow-add}
use Rattle.algebra.proofs.Lists.{Each, All_from_each}
use Rattle.p3_matrix.specs.declared.dense.RowMajorMatrix.{RowMajorMatrix}
use Rattle.p3_pcs.specs.Requests.{Held}
use Rattle.p3_pcs.specs.Scheme.{Scheme, IsLawful}
use Rattle.p3_stark_pcs.specs.Evaluations.{HasShape, held_at}
use Rattle.p3_stark_pcs.specs.Scheme.{StarkScheme}
use Rattle.p3_uni_stark_verifier.specs.declared.proof.PreprocessedVerifierKey.{
  PreprocessedVerifierKey,
}
use Rattle.p3_uni_stark_verifier.specs.Chunks.{hiding_bits}
use Rattle.p3_uni_stark_verifier.specs.Shown.{HasHeight, key_commitment}
use Rattle.p3_uni_stark_phases.specs.declared.commits.Committed.{Committed}
use Rattle.p3_uni_stark_phases.specs.Commits.{ExtendsOne, HoldsTrace, IsRandom}
use Rattle.p3_uni_stark_phases.proofs.Tables.{zip_length}
use Rattle.p3_uni_stark_prover.specs.Held.{HoldPreprocessed}
use Rattle.p3_uni_stark_opening.specs.Opened.{if_some, HoldsIfSome, HoldsOneOf, IsOpenableOne}
use Rattle.p3_uni_stark_opening.specs.Opened.{AreOpenable, values_of, values_if}
use Rattle.p3_uni_stark_phases.specs.Split.{commitment_in, data_in}
use Rattle.p3_uni_stark_prover.proofs.Columns.{only_one}
use Rattle.p3_uni_stark_prover.specs.Committed.{IsChunked}

pub zip_first : {A B : Type 0} (R : A → B → Type 0) (P : A → Type 0) (Q : B → Type 0)
    → ((x : A) (y : B) → Q y → R x y → P x) → (xs : List A) (ys : List B)
    → Each Q ys → AllZip R xs ys → Each P xs
zip_first R P Q f [] [] e h = tt
zip_first R P Q f [] (y ∷ ys) e h = absurd h
zip_first R P Q f (x ∷ xs) [] e h = absurd h
zip_first R P Q f (x ∷ xs) (y ∷ ys) e h = (f x y e.0 h.0, zip_first R P Q f xs ys e.1 h.1)

-- as many coefficients as the domain of what is committed to has points
twice : (zk : Bool) (k : ℕ) → (if zk then 2 else 1) * 2 ^ k ≡ 2 ^ (k + hiding_bits zk)
twice false k = (let e : 1 * 2 ^ k ≡ 2 ^ k = omega arith in e)
    ∙ ap (λ n. 2 ^ n) (let e : k ≡ k + 0 = omega arith in e)
twice true k = (let e : 2 * 2 ^ k ≡ 2 ^ k * 2 ^ 1 = omega arith in e) ∙ sym (pow-add 2 k 1)

module _ {E C V Dom Com D Opening Error ProverError : Type 0}
    (r : Scheme E C V Dom Com D Opening Error ProverError) (t : StarkScheme E V Dom D ProverError)
    (lawful : IsLawful r) (domain : Dom) (size : ℕ) (sized : r.domain_size domain ≡ size) where
  one_of : (x : Dom) → r.domain_size x ≡ size → (matrix : RowMajorMatrix V) (d : D)
      → ExtendsOne r x matrix d → HoldsOneOf r size d
  one_of x fits matrix d h =
      let o = only_one r.Extends (x, matrix) (r.committed_polynomials d) h in
      (o.entry, o.only, lawful.extends_size o.entry (x, matrix) o.related ∙ fits)

  trace_openable : (trace : RowMajorMatrix V) (commitment : Com) (d : D)
      → HoldsTrace r domain trace commitment d → IsOpenableOne r t r.CanOpen size d
  trace_openable trace commitment d h = record {
    openable = h.openable;
    honest = h.committed.honest;
    one = one_of domain sized trace d h.extends;
  }

  preprocessed_openable : (IsDomain : Dom → Type 0)
      → ((x : Dom) → IsDomain x → r.domain_size x ≡ size) → (k width : ℕ)
      (key : Option (PreprocessedVerifierKey Com)) (d : Option D)
      → HoldPreprocessed r t IsDomain k width key d
      → HoldsIfSome (IsOpenableOne r t t.CanOpenPreprocessed size) d
  preprocessed_openable IsDomain fits k width None None h = tt
  preprocessed_openable IsDomain fits k width None (Some d) h = absurd h
  preprocessed_openable IsDomain fits k width (Some key) None h = absurd h
  preprocessed_openable IsDomain fits k width (Some key) (Some d) h = record {
    openable = h.openable;
    honest = h.committed.honest;
    one = one_of h.domain (fits h.domain h.is_domain) h.columns d h.extends;
  }

  random_openable : (zk : Bool) (b : Option (Committed Com D)) → IsRandom r t zk domain b
      → HoldsIfSome (IsOpenableOne r t r.CanOpen size) (data_in b)
  random_openable zk None h = tt
  random_openable zk (Some b) h =
      let o = only_one (λ (m : Held E) e. HasShape (r.domain_size e) t.random_columns m) domain
      (r.committed_polynomials b.prover_data) h.1.shape in
      record {
        openable = h.1.openable;
        honest = h.1.committed.honest;
        one = (o.entry, o.only, o.related.size ∙ sized);
      }

  pub data_openable : (IsDomain : Dom → Type 0)
      → ((x : Dom) → IsDomain x → r.domain_size x ≡ size)
      → (zk : Bool) (k count width : ℕ) → size ≡ 2 ^ (k + hiding_bits zk)
      → (key : Option (PreprocessedVerifierKey Com)) (pre : Option D) (trace : RowMajorMatrix V)
      (trace_commitment : Com) (trace_data : D)
      (recombined : List Dom → List (List E) → E → List E)
      (chunk_polynomials : Dom × RowMajorMatrix V → Held E)
      (chunks : List (Dom × RowMajorMatrix V)) (quotient_commitment : Com) (quotient_data : D)
      (b : Option (Committed Com D)) (random : Option D)
      → HoldPreprocessed r t IsDomain k width key pre
      → HoldsTrace r domain trace trace_commitment trace_data
      → IsChunked r (if zk then 2 else 1) recombined chunk_polynomials chunks quotient_commitment
      quotient_data
      → Each (λ e. r.domain_size e.0 ≡ 2 ^ k) chunks → length chunks ≡ count
      → IsRandom r t zk domain b → random ≡ data_in b
      → AreOpenable r t count size (record {
        preprocessed = pre;
        trace = trace_data;
        quotient = quotient_data;
        random = random;
      })
  data_openable IsDomain fits zk k count width whole key pre trace trace_commitment trace_data recombined
      chunk_polynomials chunks quotient_commitment quotient_data b random p h q each many r_is same =
      record {
        preprocessed = preprocessed_openable IsDomain fits k width key pre p;
        trace = trace_openable trace trace_commitment trace_data h;
        quotient_openable = q.openable;
        quotient_honest = q.committed.honest;
        chunks = zip_length (λ (m : Held E) (e : Dom × RowMajorMatrix V).
            m.size ≡ (if zk then 2 else 1) * r.domain_size e.0)
            (r.committed_polynomials quotient_data) chunks q.sizes ∙ many;
        sizes = All_from_each (λ (m : Held E). m.size ≡ size)
            (r.committed_polynomials quotient_data)
            (zip_first (λ (m : Held E) (e : Dom × RowMajorMatrix V).
            m.size ≡ (if zk then 2 else 1) * r.domain_size e.0) (λ (m : Held E). m.size ≡ size)
            (λ (e : Dom × RowMajorMatrix V). r.domain_size e.0 ≡ 2 ^ k)
            (λ m e s z. z ∙ ap (λ n. (if zk then 2 else 1) * n) s ∙ twice zk k ∙ sym whole)
            (r.committed_polynomials quotient_data) chunks each q.sizes);
        random = subst (λ o. HoldsIfSome (IsOpenableOne r t r.CanOpen size) o) (sym same)
            (random_openable zk b r_is);
      }

  -- commitments are those to the data
  pub known_commitment : (IsDomain : Dom → Type 0) (k width : ℕ)
      (key : Option (PreprocessedVerifierKey Com)) (d : Option D)
      → HoldPreprocessed r t IsDomain k width key d
      → if_some r.commitment_of d ≡ key_commitment key
  known_commitment IsDomain k width None None h = refl
  known_commitment IsDomain k width None (Some d) h = absurd h
  known_commitment IsDomain k width (Some key) None h = absurd h
  known_commitment IsDomain k width (Some key) (Some d) h = ap Some h.committed.commitment

  pub random_commitment : (zk : Bool) (b : Option (Committed Com D)) → IsRandom r t zk domain b
      → if_some r.commitment_of (data_in b) ≡ commitment_in b
  random_commitment zk None h = refl
  random_commitment zk (Some b) h = ap Some h.1.committed.commitment

  -- a key of preprocessed columns has their height
  pub key_height : (IsDomain : Dom → Type 0) (k width : ℕ)
      (key : Option (PreprocessedVerifierKey Com)) (d : Option D)
      → HoldPreprocessed r t IsDomain k width key d → HasHeight key k
  key_height IsDomain k width None None h = tt
  key_height IsDomain k width None (Some d) h = absurd h
  key_height IsDomain k width (Some key) None h = absurd h
  key_height IsDomain k width (Some key) (Some d) h = h.log_height

  -- there are random polynomials where the scheme hides, as many as an element has coefficients
  pub random_is : (zk : Bool) (found : Option (Committed Com D)) → IsRandom r t zk domain found
      → is_some (commitment_in found) ≡ zk
  random_is zk None h = sym h
  random_is zk (Some b) h = sym h.0

  pub random_many : (zk : Bool) (dimension : ℕ) → (zk ≡ true → t.random_columns ≡ dimension)
      → (found : Option (Committed Com D)) → IsRandom r t zk domain found
      → (z : E) → length (values_if r z (data_in found)) ≡ (if zk then dimension else 0)
  random_many zk dimension law None h z =
      subst (λ b. 0 ≡ (if b then dimension else 0)) (sym h) refl
  random_many zk dimension law (Some b) h z =
      let o = only_one (λ (m : Held E) e. HasShape (r.domain_size e) t.random_columns m)
      domain (r.committed_polynomials b.prover_data) h.1.shape in
      let e : length (values_of r z b.prover_data) ≡ t.random_columns =
      ap (λ (hs : List (Held E)). length (Held.values_at (held_at hs 0) z)) o.only
      ∙ o.related.columns z in
      subst (λ x. t.random_columns ≡ dimension → length (values_of r z b.prover_data)
      ≡ (if x then dimension else 0)) (sym h.0) (λ f. e ∙ f) (law h.0)
