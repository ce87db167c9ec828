-- What is asked of a proof's data, what is opened of it, and what is then claimed.
use Rattle.std.proofs.Common.{◌≡◌, ◌≢◌, ℕ, zero, suc, List, [], ◌∷◌, ◌++◌, length, map, get_or, All}
use Rattle.std.proofs.Common.{replicate, refl, sym, ap, ap₂, ◌∙◌, arith, Option, None, Some}
use Rattle.std.proofs.lemmas.List.{length-replicate}
use Rattle.std.specs.List.{flat_map}
use Rattle.algebra.proofs.Lists.{Each, All_from_each, each-append}
use Rattle.p3_pcs.specs.Claims.{zip_with, matrix_claims}
use Rattle.p3_pcs.specs.Requests.{Held, Request, AreHonest}
use Rattle.p3_pcs.specs.Scheme.{Scheme}
use Rattle.p3_stark_pcs.specs.Evaluations.{held_at}
use Rattle.p3_stark_pcs.specs.Preprocessing.{CanBeOpened, AreOpenableAt}
use Rattle.p3_stark_pcs.specs.Scheme.{StarkScheme}
use Rattle.p3_uni_stark_verifier.specs.Claimed.{preprocessed_index, at_one}
use Rattle.p3_uni_stark_opening.specs.declared.opening.ColumnData.{ColumnData}
use Rattle.p3_uni_stark_opening.specs.Opened.{ask, ask_if, stark_requests, HoldsIfSome, if_some}
use Rattle.p3_uni_stark_opening.specs.Opened.{IsOpenableOne, AreOpenable}

-- requests, pushed one after another
pub ordered : {D E : Type 0} (points : List E) (pre : Option D) (t q : Request D E)
    (rest : List (Request D E))
    → ((([] ++ ask_if points pre) ++ t ∷ []) ++ q ∷ []) ++ rest
    ≡ ask_if points pre ++ (t ∷ q ∷ []) ++ rest
ordered points None t q rest = refl
ordered points (Some d) t q rest = refl

-- the one entry of a list
module _ {E : Type 0} where
  pub one_held : (hs : List (Held E)) (m : Held E) → hs ≡ m ∷ [] → hs ≡ held_at hs 0 ∷ []
  one_held [] m e = absurd (let h = ap length e in omega (arith, h))
  one_held (h ∷ []) m e = refl
  one_held (h ∷ g ∷ hs) m e = absurd (let l = ap length e in omega (arith, l))

  -- the values at these points of a matrix that is alone
  abbrev pub values_alone : (points : List E) → List (Held E) → List (List (List E))
  values_alone points hs = zip_with (λ m zs. map m.values_at zs) hs (points ∷ [])

  pub alone : (points : List E) (hs : List (Held E)) → hs ≡ held_at hs 0 ∷ []
      → values_alone points hs ≡ map (λ z. Held.values_at (held_at hs 0) z) points ∷ []
  alone points hs e = ap (values_alone points) e

  -- those of many matrices at one point
  pub values_each : (z : E) (hs : List (Held E)) (n : ℕ) → n ≡ length hs
      → zip_with (λ m zs. map m.values_at zs) hs (replicate n (z ∷ []))
      ≡ map (λ m. m.values_at z ∷ []) hs
  values_each z [] zero e = refl
  values_each z [] (suc n) e = absurd (omega (arith, e))
  values_each z (m ∷ hs) zero e = absurd (omega (arith, e))
  values_each z (m ∷ hs) (suc n) e =
      ap (λ rest. (m.values_at z ∷ []) ∷ rest) (values_each z hs n (omega (arith, e)))

  pub firsts : (z : E) (hs : List (Held E))
      → map (λ points. get_or points 0 []) (map (λ m. m.values_at z ∷ []) hs)
      ≡ map (λ m. m.values_at z) hs
  firsts z [] = refl
  firsts z (m ∷ hs) = ap (λ rest. m.values_at z ∷ rest) (firsts z hs)

  -- their claims
  pub claims_each : {Dom : Type 0} (domain : Dom) (z : E) (hs : List (Held E)) (n : ℕ) → n ≡ length hs
      → matrix_claims (replicate n domain) (replicate n (z ∷ [])) (map (λ m. m.values_at z ∷ []) hs)
      ≡ map (at_one domain z) (map (λ m. m.values_at z) hs)
  claims_each domain z [] zero e = refl
  claims_each domain z [] (suc n) e = absurd (omega (arith, e))
  claims_each domain z (m ∷ hs) zero e = absurd (omega (arith, e))
  claims_each domain z (m ∷ hs) (suc n) e =
      ap (λ rest. at_one domain z (m.values_at z) ∷ rest)
      (claims_each domain z hs n (omega (arith, e)))

  pub sizes_each : {Dom : Type 0} (size : Dom → ℕ) (domain : Dom) (hs : List (Held E)) (n : ℕ)
      → n ≡ length hs → Each (λ m. m.size ≡ size domain) hs
      → map size (replicate n domain) ≡ map (λ m. m.size) hs
  sizes_each size domain [] zero e h = refl
  sizes_each size domain [] (suc n) e h = absurd (omega (arith, e))
  sizes_each size domain (m ∷ hs) zero e h = absurd (omega (arith, e))
  sizes_each size domain (m ∷ hs) (suc n) e h =
      ap₂ (λ a b. a ∷ b) (sym h.0) (sizes_each size domain hs n (omega (arith, e)) h.1)

module _ {D E : Type 0} where
  each_if : (P : Request D E → Type 0) (points : List E) (o : Option D)
      → HoldsIfSome (λ d. P (ask 1 points d)) o → Each P (ask_if points o)
  each_if P points None h = tt
  each_if P points (Some d) h = (h, tt)

if_weaker : {D : Type 0} (P Q : D → Type 0) → ((d : D) → P d → Q d) → (o : Option D)
    → HoldsIfSome P o → HoldsIfSome Q o
if_weaker P Q f None h = tt
if_weaker P Q f (Some d) h = f d h

some_point : {E : Type 0} (z : E) (zs : List E) → z ∷ zs ≢ []
some_point z zs = λ e. cc

module _ {E C V Dom Com D Opening Error ProverError : Type 0}
    (r : Scheme E C V Dom Com D Opening Error ProverError) (t : StarkScheme E V Dom D ProverError)
    (count size : ℕ) (z y : E) (committed : ColumnData D) (are : AreOpenable r t count size committed) where
  abbrev pub polys : D → List (Held E)
  polys = r.committed_polynomials

  abbrev pub both : List E
  both = z ∷ y ∷ []

  abbrev pub one : List E
  one = z ∷ []

  abbrev pub requests : List (Request D E)
  requests = stark_requests count z y committed

  -- a datum of one matrix
  pub alone_in : (CanOpen : D → Type 0) (d : D) → IsOpenableOne r t CanOpen size d
      → polys d ≡ held_at (polys d) 0 ∷ []
  alone_in CanOpen d h = one_held (polys d) h.one.0 h.one.1

  counted : (CanOpen : D → Type 0) (d : D) → IsOpenableOne r t CanOpen size d → 1 ≡ length (polys d)
  counted CanOpen d h = sym (ap length h.one.1)

  -- what holds of each request
  each_request : (P : Request D E → Type 0)
      → HoldsIfSome (λ d. P (ask 1 both d)) committed.preprocessed → P (ask 1 both committed.trace)
      → P (ask count one committed.quotient) → HoldsIfSome (λ d. P (ask 1 one d)) committed.random
      → Each P requests
  each_request P a b c d = each-append P (ask_if both committed.preprocessed
      ++ (ask 1 both committed.trace ∷ ask count one committed.quotient ∷ []))
      (ask_if one committed.random)
      (each-append P (ask_if both committed.preprocessed)
      (ask 1 both committed.trace ∷ ask count one committed.quotient ∷ [])
      (each_if P both committed.preprocessed a) (b, (c, tt))) (each_if P one committed.random d)

  abbrev Shaped : Request D E → Type 0
  Shaped q = length q.points ≡ length (polys q.datum)

  shaped : (n : ℕ) (points : List E) (d : D) → n ≡ length (polys d) → Shaped (ask n points d)
  shaped n points d e = length-replicate n points ∙ e

  shapes : Each Shaped requests
  shapes = each_request Shaped
      (if_weaker (IsOpenableOne r t t.CanOpenPreprocessed size) (λ d. Shaped (ask 1 both d))
      (λ d h. shaped 1 both d (counted t.CanOpenPreprocessed d h)) committed.preprocessed
      are.preprocessed)
      (shaped 1 both committed.trace (counted r.CanOpen committed.trace are.trace))
      (shaped count one committed.quotient (sym are.chunks))
      (if_weaker (IsOpenableOne r t r.CanOpen size) (λ d. Shaped (ask 1 one d))
      (λ d h. shaped 1 one d (counted r.CanOpen d h)) committed.random are.random)

  leads : (hs : List (Held E)) (rest : List (Request D E)) → hs ≡ held_at hs 0 ∷ []
      → hs ++ flat_map (λ q. polys q.datum) rest ≢ []
  leads [] rest l e = absurd (let h = ap length l in omega (arith, h))
  leads (m ∷ hs) rest l e = cc

  -- the trace's matrix is one
  some_trace : (pre : Option D) → HoldsIfSome (IsOpenableOne r t t.CanOpenPreprocessed size) pre
      → flat_map (λ q. polys q.datum) (ask_if both pre
      ++ (ask 1 both committed.trace ∷ ask count one committed.quotient ∷ [])
      ++ ask_if one committed.random) ≢ []
  some_trace None h e = leads (polys committed.trace)
      (ask count one committed.quotient ∷ ask_if one committed.random)
      (alone_in r.CanOpen committed.trace are.trace) e
  some_trace (Some d) h e = leads (polys d)
      (ask 1 both committed.trace ∷ ask count one committed.quotient ∷ ask_if one committed.random)
      (alone_in t.CanOpenPreprocessed d h) e

  openable_others : Each r.CanOpen (map (λ q. q.datum)
      ((ask 1 both committed.trace ∷ ask count one committed.quotient ∷ []) ++ ask_if one committed.random))
  openable_others = (are.trace.openable, (are.quotient_openable, last committed.random are.random))
    where
      last : (o : Option D) → HoldsIfSome (IsOpenableOne r t r.CanOpen size) o
          → Each r.CanOpen (map (λ q. q.datum) (ask_if one o))
      last None h = tt
      last (Some d) h = (h.openable, tt)

  openable_from : (pre : Option D)
      → HoldsIfSome (IsOpenableOne r t t.CanOpenPreprocessed size) pre
      → CanBeOpened r.CanOpen t.CanOpenPreprocessed
      (preprocessed_index (if_some r.commitment_of pre)) (map (λ q. q.datum) (ask_if both pre
      ++ (ask 1 both committed.trace ∷ ask count one committed.quotient ∷ []) ++ ask_if one committed.random))
  openable_from None h = All_from_each r.CanOpen (map (λ q. q.datum)
      ((ask 1 both committed.trace ∷ ask count one committed.quotient ∷ [])
      ++ ask_if one committed.random)) openable_others
  openable_from (Some d) h = (
    h.openable,
    All_from_each r.CanOpen (map (λ q. q.datum)
        ((ask 1 both committed.trace ∷ ask count one committed.quotient ∷ [])
        ++ ask_if one committed.random)) openable_others,
  )

  pub openable : AreOpenableAt r.CanOpen t.CanOpenPreprocessed polys
      (preprocessed_index (if_some r.commitment_of committed.preprocessed)) requests
  openable = record {
    data_openable = openable_from committed.preprocessed are.preprocessed;
    points = All_from_each Shaped requests shapes;
    some_matrix = some_trace committed.preprocessed are.preprocessed;
  }

  abbrev HasPoints : Request D E → Type 0
  HasPoints q = All (λ zs. zs ≢ []) q.points

  pointed : (n : ℕ) (zs : List E) (d : D) → zs ≢ [] → HasPoints (ask n zs d)
  pointed n zs d some = All_from_each (λ zs. zs ≢ []) (replicate n zs) (copies n)
    where
      copies : (n : ℕ) → Each (λ zs. zs ≢ []) (replicate n zs)
      copies zero = tt
      copies (suc n) = (some, copies n)

  pub honest : AreHonest r.IsHonest requests
  honest = record {
    data_honest = All_from_each (λ (q : Request D E). r.IsHonest q.datum) requests
        (each_request (λ (q : Request D E). r.IsHonest q.datum)
        (if_weaker (IsOpenableOne r t t.CanOpenPreprocessed size) r.IsHonest (λ d h. h.honest)
        committed.preprocessed are.preprocessed) are.trace.honest are.quotient_honest
        (if_weaker (IsOpenableOne r t r.CanOpen size) r.IsHonest (λ d h. h.honest) committed.random
        are.random));
    points = All_from_each HasPoints requests (each_request HasPoints
        (if_weaker (IsOpenableOne r t t.CanOpenPreprocessed size) (λ d. HasPoints (ask 1 both d))
        (λ d h. pointed 1 both d (some_point z (y ∷ []))) committed.preprocessed are.preprocessed)
        (pointed 1 both committed.trace (some_point z (y ∷ [])))
        (pointed count one committed.quotient (some_point z []))
        (if_weaker (IsOpenableOne r t r.CanOpen size) (λ d. HasPoints (ask 1 one d))
        (λ d h. pointed 1 one d (some_point z [])) committed.random are.random));
  }
