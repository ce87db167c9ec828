-- The values that are opened of a proof's data, and the claims of them.
use Rattle.std.proofs.Common.{◌≡◌, ℕ, zero, suc, ◌+◌, List, [], ◌∷◌, ◌++◌, map, get_or, All}
use Rattle.std.proofs.Common.{if◌then◌else◌, replicate, refl, sym, ap, ap₂, subst, ◌∙◌, Option, None, Some}
use Rattle.std.specs.Option.{is_some}
use Rattle.algebra.specs.Nested.{lists}
use Rattle.algebra.proofs.Lists.{each_from_All}
use Rattle.p3_pcs.specs.Claims.{Claim, MatrixClaim, zip_with, matrix_claims}
use Rattle.p3_pcs.specs.Requests.{Held, Request, honest_values, honest_claim, honest_claims}
use Rattle.p3_pcs.specs.Requests.{FitDomains}
use Rattle.p3_pcs.specs.Scheme.{Scheme}
use Rattle.p3_stark_pcs.specs.Scheme.{StarkScheme}
use Rattle.p3_uni_stark_verifier.specs.declared.proof.OpenedValues.{OpenedValues}
use Rattle.p3_uni_stark_verifier.specs.Claimed.{claim_if, at_one, at_two, of_one, stark_claims}
use Rattle.p3_uni_stark_opening.specs.declared.opening.ColumnData.{ColumnData}
use Rattle.p3_uni_stark_opening.specs.Opened.{ask, ask_if, stark_requests, HoldsIfSome, if_some}
use Rattle.p3_uni_stark_opening.specs.Opened.{first_values, place_of, AreTakenFrom, commitments_to}
use Rattle.p3_uni_stark_opening.specs.Opened.{IsOpenableOne, AreOpenable, values_of, values_if}
use Rattle.p3_uni_stark_opening.specs.Opened.{AreOpened}
use Rattle.p3_uni_stark_opening.proofs.Asked.{alone, values_each, firsts, claims_each, sizes_each}
use Rattle.p3_uni_stark_opening.proofs.Asked.{one_held}

no_values : {E : Type 0} (none : List E) (i : ℕ) → none ≡ get_or (none ∷ none ∷ []) i none
no_values none zero = refl
no_values none (suc zero) = refl
no_values none (suc (suc i)) = refl

module _ {E C V Dom Com D Opening Error ProverError : Type 0}
    (r : Scheme E C V Dom Com D Opening Error ProverError) (t : StarkScheme E V Dom D ProverError)
    (count size : ℕ) (z y : E) where
  abbrev polys : D → List (Held E)
  polys = r.committed_polynomials

  abbrev both : List E
  both = z ∷ y ∷ []

  abbrev one : List E
  one = z ∷ []

  -- the values of a datum of one matrix
  of_alone : (CanOpen : D → Type 0) (points : List E) (d : D) → IsOpenableOne r t CanOpen size d
      → honest_values polys (ask 1 points d) ≡ map (λ x. values_of r x d) points ∷ []
  of_alone CanOpen points d h =
      alone points (polys d) (one_held (polys d) h.one.0 h.one.1)

  module _ (committed : ColumnData D) (are : AreOpenable r t count size committed) where
    abbrev Pre : Option D → Type 0
    Pre o = HoldsIfSome (IsOpenableOne r t t.CanOpenPreprocessed size) o

    abbrev Random : Option D → Type 0
    Random o = HoldsIfSome (IsOpenableOne r t r.CanOpen size) o

    -- the values of all batches, by what there is
    abbrev values_with : (pre random : Option D) → List (List (List (List E)))
    values_with pre random = map (honest_values polys) (ask_if both pre
        ++ (ask 1 both committed.trace ∷ ask count one committed.quotient ∷ []) ++ ask_if one random)

    trace_values : honest_values polys (ask 1 both committed.trace)
        ≡ (values_of r z committed.trace ∷ values_of r y committed.trace ∷ []) ∷ []
    trace_values = of_alone r.CanOpen both committed.trace are.trace

    at_trace : (pre random : Option D) (i : ℕ)
        → first_values (values_with pre random) (Some (if is_some pre then 1 else 0)) i
        ≡ get_or (values_of r z committed.trace ∷ values_of r y committed.trace ∷ []) i []
    at_trace None random i = ap (λ ms. get_or (get_or ms 0 []) i []) trace_values
    at_trace (Some d) random i = ap (λ ms. get_or (get_or ms 0 []) i []) trace_values

    at_first : (pre random : Option D) (i : ℕ) → Pre pre
        → first_values (values_with pre random) (place_of (is_some pre) 0) i
        ≡ get_or (values_if r z pre ∷ values_if r y pre ∷ []) i []
    at_first None random i h = no_values [] i
    at_first (Some d) random i h = ap (λ ms. get_or (get_or ms 0 []) i [])
        (of_alone t.CanOpenPreprocessed both d h)

    at_last : (pre random : Option D) → Random random
        → first_values (values_with pre random) (place_of (is_some random)
        ((if is_some pre then 1 else 0) + 2)) 0 ≡ values_if r z random
    at_last None None h = refl
    at_last (Some d) None h = refl
    at_last None (Some x) h = ap (λ ms. get_or (get_or ms 0 []) 0 []) (of_alone r.CanOpen one x h)
    at_last (Some d) (Some x) h =
        ap (λ ms. get_or (get_or ms 0 []) 0 []) (of_alone r.CanOpen one x h)

    at_chunks : (pre random : Option D) → map (λ points. get_or points 0 [])
        (get_or (values_with pre random) ((if is_some pre then 1 else 0) + 1) [])
        ≡ map (λ m. m.values_at z) (polys committed.quotient)
    at_chunks pre random = ap (λ ms. map (λ points. get_or points 0 []) ms) (found pre)
        ∙ firsts z (polys committed.quotient)
      where
        found : (pre : Option D)
            → get_or (values_with pre random) ((if is_some pre then 1 else 0) + 1) []
            ≡ map (λ m. m.values_at z ∷ []) (polys committed.quotient)
        found None = values_each z (polys committed.quotient) count (sym are.chunks)
        found (Some d) = values_each z (polys committed.quotient) count (sym are.chunks)

    -- what is taken from honest values are the values of what was committed to
    pub opened_are : (values : List (List (List (List E)))) (opened : OpenedValues E)
        → values ≡ map (honest_values polys) (stark_requests count z y committed)
        → AreTakenFrom values (is_some committed.preprocessed) (is_some committed.random) opened
        → AreOpened r committed z y opened
    opened_are values opened e taken =
        let vs = values_with committed.preprocessed committed.random in
        let pre = is_some committed.preprocessed in
        record {
          trace_local = taken.trace_local
              ∙ ap (λ vs. first_values vs (Some (if pre then 1 else 0)) 0) e
              ∙ at_trace committed.preprocessed committed.random 0;
          trace_next = taken.trace_next
              ∙ ap (λ vs. first_values vs (Some (if pre then 1 else 0)) 1) e
              ∙ at_trace committed.preprocessed committed.random 1;
          preprocessed_local = taken.preprocessed_local
              ∙ ap (λ vs. first_values vs (place_of pre 0) 0) e
              ∙ at_first committed.preprocessed committed.random 0 are.preprocessed;
          preprocessed_next = taken.preprocessed_next
              ∙ ap (λ vs. first_values vs (place_of pre 0) 1) e
              ∙ at_first committed.preprocessed committed.random 1 are.preprocessed;
          chunks = taken.chunks
              ∙ ap (λ vs. map (λ points. get_or points 0 [])
              (get_or vs ((if pre then 1 else 0) + 1) [])) e
              ∙ at_chunks committed.preprocessed committed.random;
          random = taken.random
              ∙ ap (λ vs. first_values vs (place_of (is_some committed.random)
              ((if pre then 1 else 0) + 2)) 0) e
              ∙ at_last committed.preprocessed committed.random are.random;
        }

    module _ (domain : Dom) (fits : r.domain_size domain ≡ size) where
      -- a domain for the one matrix of a datum that there may be
      abbrev domain_if : Option D → List (List Dom)
      domain_if None = []
      domain_if (Some d) = (domain ∷ []) ∷ []

      abbrev pub domains : List (List Dom)
      domains = domain_if committed.preprocessed
          ++ ((domain ∷ []) ∷ replicate count domain ∷ []) ++ domain_if committed.random

      alone_size : (CanOpen : D → Type 0) (d : D) → IsOpenableOne r t CanOpen size d
          → r.domain_size domain ∷ [] ≡ map (λ m. m.size) (polys d)
      alone_size CanOpen d h =
          ap (λ n. n ∷ []) (fits ∙ sym h.one.2)
          ∙ ap (λ (hs : List (Held E)). map (λ m. m.size) hs) (sym h.one.1)

      chunk_sizes : map r.domain_size (replicate count domain)
          ≡ map (λ m. m.size) (polys committed.quotient)
      chunk_sizes = sizes_each r.domain_size domain (polys committed.quotient) count (sym are.chunks)
          (each_from_All (λ (m : Held E). m.size ≡ r.domain_size domain) (polys committed.quotient)
          (subst (λ n. All (λ (m : Held E). m.size ≡ n) (polys committed.quotient)) (sym fits)
          are.sizes))

      fit_from : (pre random : Option D) → Pre pre → Random random
          → FitDomains polys r.domain_size (domain_if pre
          ++ ((domain ∷ []) ∷ replicate count domain ∷ []) ++ domain_if random)
          (ask_if both pre ++ (ask 1 both committed.trace ∷ ask count one committed.quotient ∷ [])
          ++ ask_if one random)
      fit_from None None a b =
          ap₂ (λ m n. m ∷ n ∷ []) (alone_size r.CanOpen committed.trace are.trace) chunk_sizes
      fit_from (Some d) None a b =
          ap₂ (λ l m. l ∷ m) (alone_size t.CanOpenPreprocessed d a)
          (ap₂ (λ m n. m ∷ n ∷ []) (alone_size r.CanOpen committed.trace are.trace) chunk_sizes)
      fit_from None (Some x) a b =
          ap₂ (λ l m. l ∷ m) (alone_size r.CanOpen committed.trace are.trace)
          (ap₂ (λ m n. m ∷ n ∷ []) chunk_sizes (alone_size r.CanOpen x b))
      fit_from (Some d) (Some x) a b =
          ap₂ (λ l m. l ∷ m) (alone_size t.CanOpenPreprocessed d a)
          (ap₂ (λ l m. l ∷ m) (alone_size r.CanOpen committed.trace are.trace)
          (ap₂ (λ m n. m ∷ n ∷ []) chunk_sizes (alone_size r.CanOpen x b)))

      pub domains_fit : FitDomains polys r.domain_size domains (stark_requests count z y committed)
      domains_fit = fit_from committed.preprocessed committed.random are.preprocessed are.random

      abbrev claim_two : (local next : List E) → D → Claim E Com Dom
      claim_two local next d = of_one (at_two domain z y local next) (r.commitment_of d)

      abbrev claim_one : (values : List E) → D → Claim E Com Dom
      claim_one values d = of_one (at_one domain z values) (r.commitment_of d)

      abbrev claim_chunks : (values : List (List E)) → Claim E Com Dom
      claim_chunks values = record {
        commitment = r.commitment_of committed.quotient;
        matrices = map (at_one domain z) values;
      }

      abbrev made : List Dom → Request D E → Claim E Com Dom
      made ds q = honest_claim polys r.commitment_of ds q

      two_made : (CanOpen : D → Type 0) (d : D) → IsOpenableOne r t CanOpen size d
          → made (domain ∷ []) (ask 1 both d)
          ≡ claim_two (values_of r z d) (values_of r y d) d
      two_made CanOpen d h = ap (λ (vs : List (List (List E))). (let c : Claim E Com Dom = record {
        commitment = r.commitment_of d;
        matrices = matrix_claims (domain ∷ []) (both ∷ []) vs;
      } in c)) (of_alone CanOpen both d h)

      one_made : (CanOpen : D → Type 0) (d : D) → IsOpenableOne r t CanOpen size d
          → made (domain ∷ []) (ask 1 one d) ≡ claim_one (values_of r z d) d
      one_made CanOpen d h = ap (λ (vs : List (List (List E))). (let c : Claim E Com Dom = record {
        commitment = r.commitment_of d;
        matrices = matrix_claims (domain ∷ []) (one ∷ []) vs;
      } in c)) (of_alone CanOpen one d h)

      chunks_made : made (replicate count domain) (ask count one committed.quotient)
          ≡ claim_chunks (map (λ m. m.values_at z) (polys committed.quotient))
      chunks_made = ap (λ (ms : List (MatrixClaim E Dom)). (let c : Claim E Com Dom = record {
        commitment = r.commitment_of committed.quotient;
        matrices = ms;
      } in c))
          (ap (λ vs. matrix_claims (replicate count domain) (replicate count one) vs)
          (values_each z (polys committed.quotient) count (sym are.chunks))
          ∙ claims_each domain z (polys committed.quotient) count (sym are.chunks))

      module _ (opened : OpenedValues E) (o : AreOpened r committed z y opened) where
        trace_claim : made (domain ∷ []) (ask 1 both committed.trace)
            ≡ claim_two opened.trace_local.items opened.trace_next.items committed.trace
        trace_claim = two_made r.CanOpen committed.trace are.trace
            ∙ ap₂ (λ a b. claim_two a b committed.trace) (sym o.trace_local) (sym o.trace_next)

        chunks_claim : made (replicate count domain) (ask count one committed.quotient)
            ≡ claim_chunks (lists opened.quotient_chunks.items)
        chunks_claim = chunks_made ∙ ap claim_chunks (sym o.chunks)

        first_claim : (d : D) → IsOpenableOne r t t.CanOpenPreprocessed size d
            → opened.preprocessed_local.items ≡ values_of r z d
            → opened.preprocessed_next.items ≡ values_of r y d
            → made (domain ∷ []) (ask 1 both d)
            ≡ claim_two opened.preprocessed_local.items opened.preprocessed_next.items d
        first_claim d h e f = two_made t.CanOpenPreprocessed d h
            ∙ ap₂ (λ a b. claim_two a b d) (sym e) (sym f)

        last_claim : (d : D) → IsOpenableOne r t r.CanOpen size d
            → opened.random.items ≡ values_of r z d
            → made (domain ∷ []) (ask 1 one d) ≡ claim_one opened.random.items d
        last_claim d h e = one_made r.CanOpen d h ∙ ap (λ a. claim_one a d) (sym e)

        claims_from : (pre random : Option D) → Pre pre → Random random
            → opened.preprocessed_local.items ≡ values_if r z pre
            → opened.preprocessed_next.items ≡ values_if r y pre
            → opened.random.items ≡ values_if r z random
            → zip_with made (domain_if pre
            ++ ((domain ∷ []) ∷ replicate count domain ∷ []) ++ domain_if random)
            (ask_if both pre ++ (ask 1 both committed.trace ∷ ask count one committed.quotient ∷ [])
            ++ ask_if one random)
            ≡ claim_if (of_one (at_two domain z y opened.preprocessed_local.items
            opened.preprocessed_next.items)) (if_some r.commitment_of pre)
            ++ (claim_two opened.trace_local.items opened.trace_next.items committed.trace
            ∷ claim_chunks (lists opened.quotient_chunks.items) ∷ [])
            ++ claim_if (of_one (at_one domain z opened.random.items))
            (if_some r.commitment_of random)
        claims_from None None a b e f g = ap₂ (λ m n. m ∷ n ∷ []) trace_claim chunks_claim
        claims_from (Some d) None a b e f g = ap₂ (λ l m. l ∷ m) (first_claim d a e f)
            (ap₂ (λ m n. m ∷ n ∷ []) trace_claim chunks_claim)
        claims_from None (Some x) a b e f g = ap₂ (λ l m. l ∷ m) trace_claim
            (ap₂ (λ m n. m ∷ n ∷ []) chunks_claim (last_claim x b g))
        claims_from (Some d) (Some x) a b e f g = ap₂ (λ l m. l ∷ m) (first_claim d a e f)
            (ap₂ (λ l m. l ∷ m) trace_claim
            (ap₂ (λ m n. m ∷ n ∷ []) chunks_claim (last_claim x b g)))

        pub claims_are : honest_claims polys r.commitment_of domains
            (stark_requests count z y committed)
            ≡ stark_claims domain (if_some r.commitment_of committed.preprocessed)
            (commitments_to r committed) opened z y
        claims_are = claims_from committed.preprocessed committed.random are.preprocessed are.random
            o.preprocessed_local o.preprocessed_next o.random
