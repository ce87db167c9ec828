-- The values of nodes at a row, lifted, are those over the polynomials at the row's point.
use Rattle.std.proofs.Common.{◌≡◌, ℕ, zero, suc, ◌+◌, ◌%◌, ◌^◌, ◌<◌, ◌≤◌, List, [], ◌∷◌, length}
use Rattle.std.proofs.Common.{map, get_or}
use Rattle.std.proofs.Common.{refl, sym, ap, ap₂, ◌∙◌, pow_pos, mod-lt}
use Rattle.algebra.specs.Field.{FieldOps, IsField, IsHomomorphism, sub, pow}
use Rattle.algebra.specs.Polynomial.{val}
use Rattle.algebra.specs.Quotients.{values_at}
use Rattle.algebra.specs.TwoAdic.{AreRoots}
use Rattle.algebra.proofs.Lifting.{homomorphism-sub, homomorphism-neg}
use Rattle.algebra.proofs.Lists.{map-map, map-agree}
use Rattle.algebra.proofs.Points.{lifted_roots}
use Rattle.algebra.proofs.Powers.{homomorphism-pow}
use Rattle.algebra.proofs.Values.{homomorphism-val}
use Rattle.p3_air.specs.declared.air.Air.{Air}
use Rattle.p3_air.specs.Nodes.{Entries, meanings, values_in}
use Rattle.p3_air.specs.Satisfied.{Assigned, row_at, entries_at, node_values}
use Rattle.p3_air_laws.specs.Columns.{Columns, AreColumnsOf, entries_over}
use Rattle.p3_air_laws.proofs.Related.{related}
use Rattle.p3_air_laws.proofs.Rows.{next_point}

get_or_of_map : {X Y : Type 0} (f : X → Y) (xs : List X) (i : ℕ) (d : X)
    → get_or (map f xs) i (f d) ≡ f (get_or xs i d)
get_or_of_map f [] i d = refl
get_or_of_map f (x ∷ xs) zero d = refl
get_or_of_map f (x ∷ xs) (suc i) d = get_or_of_map f xs i d

-- entries are the same where they are kind by kind
module _ {V E : Type 0} (v : List V) where
  abbrev entries_of : (l n p q r : List E) → Entries V E
  entries_of l n p q r = record {
    local = l;
    next = n;
    preprocessed = p;
    preprocessed_next = q;
    public_values = v;
    periodic = r;
  }

  entries_same : (l l' n n' p p' q q' r r' : List E) → l ≡ l' → n ≡ n' → p ≡ p' → q ≡ q' → r ≡ r'
      → entries_of l n p q r ≡ entries_of l' n' p' q' r'
  entries_same l l' n n' p p' q q' r r' a b c d e =
      ap (λ x. entries_of x n p q r) a ∙ ap (λ x. entries_of l' x p q r) b
      ∙ ap (λ x. entries_of l' n' x q r) c ∙ ap (λ x. entries_of l' n' p' x r) d
      ∙ ap (λ x. entries_of l' n' p' q' x) e

module _ {V A : Type 0} (F : FieldOps V) (L : IsField F) (K : FieldOps A) (M : IsField K)
    (lift : V → A) (H : IsHomomorphism F K lift) where
  -- entries over the extension
  abbrev lifted : Entries V V → Entries V A
  lifted entries = record {
    local = map lift entries.local;
    next = map lift entries.next;
    preprocessed = map lift entries.preprocessed;
    preprocessed_next = map lift entries.preprocessed_next;
    public_values = entries.public_values;
    periodic = map lift entries.periodic;
  }

  lifted_entry : (row : List V) (i : ℕ) → lift (get_or row i F.zero) ≡ get_or (map lift row) i K.zero
  lifted_entry row i =
      sym (get_or_of_map lift row i F.zero) ∙ ap (λ d. get_or (map lift row) i d) H.zero

  pub lifted_value : (air : Air V) (entries : Entries V V) (i : ℕ)
      → lift (get_or (meanings (values_in F (λ x. x) F.zero entries) air.nodes.items) i F.zero)
      ≡ get_or (meanings (values_in K lift F.zero (lifted entries)) air.nodes.items) i K.zero
  lifted_value air entries i =
      related (values_in F (λ x. x) F.zero entries) (values_in K lift F.zero (lifted entries))
      (λ v a. lift v ≡ a)
      (record {
        constant = λ v. refl;
        local = λ i. lifted_entry entries.local i;
        next = λ i. lifted_entry entries.next i;
        preprocessed = λ i. lifted_entry entries.preprocessed i;
        preprocessed_next = λ i. lifted_entry entries.preprocessed_next i;
        public_value = λ i. refl;
        periodic = λ i. lifted_entry entries.periodic i;
        add = λ a b c d e h. H.add a b ∙ ap₂ K.add e h;
        sub = λ a b c d e h. homomorphism-sub F K lift L.ring M.ring H a b
            ∙ ap₂ (λ x y. sub K x y) e h;
        mul = λ a b c d e h. H.mul a b ∙ ap₂ K.mul e h;
        neg = λ a c e. homomorphism-neg F K lift L.ring M.ring H a ∙ ap K.neg e;
        none = H.zero;
      }) air.nodes.items i

  -- columns over the extension at a lifted point
  lifted_columns : (columns : List (List V)) (x : V)
      → values_at F K lift columns (lift x) ≡ map lift (map (λ c. val F c x) columns)
  lifted_columns columns x =
      map-agree (λ c. val K (map lift c) (lift x)) (λ c. lift (val F c x))
      (λ c. sym (homomorphism-val F K lift L.ring M.ring H c x)) columns
      ∙ sym (map-map lift (λ c. val F c x) columns)

  module _ (top : ℕ) (w : ℕ → V) (W : AreRoots F top w) (k : ℕ) (b : k ≤ top) (l : ℕ)
      (given : Assigned V) (columns : Columns V A)
      (has : AreColumnsOf F K lift (w k) (2 ^ k) l given columns) where
    abbrev generator : A
    generator = lift (w k)

    abbrev after : ℕ → ℕ
    after i = (i + 1) % 2 ^ k

    next_there : (i : ℕ) → i < 2 ^ k
        → K.mul generator (pow K generator i) ≡ lift (pow F (w k) (after i))
    next_there i below =
        sym (next_point K M top (λ j. lift (w j)) (lifted_roots F K lift L M H top w W) k b i below)
        ∙ sym (homomorphism-pow F K lift H (w k) (after i))

    -- a list of columns at the point of row `i`
    row_there : (cs : List (List V)) (rows : List (List V)) (i : ℕ) (z : A)
        → row_at rows i ≡ map (λ c. val F c (pow F (w k) i)) cs → z ≡ lift (pow F (w k) i)
        → values_at F K lift cs z ≡ map lift (row_at rows i)
    row_there cs rows i z is at =
        ap (λ y. values_at F K lift cs y) at ∙ lifted_columns cs (pow F (w k) i)
        ∙ ap (λ row. map lift row) (sym is)

    entries_there : (i : ℕ) → i < 2 ^ k
        → entries_over F K lift columns given.public_values (pow K generator i)
        (K.mul generator (pow K generator i)) ≡ lifted (entries_at F given i)
    entries_there i below =
        let here = sym (homomorphism-pow F K lift H (w k) i) in
        let turned = ap (λ n. (i + 1) % n) has.height in
        let inside = mod-lt (i + 1) (pow_pos k) in
        let next : (rows : List (List V)) → map lift (row_at rows (after i))
        ≡ map lift (row_at rows ((i + 1) % length given.trace)) =
        λ (rows : List (List V)). ap (λ j. map lift (row_at rows j)) (sym turned) in
        let z = pow K generator i in
        let y = K.mul generator z in
        let rows = entries_at F given i in
        entries_same given.public_values (values_at F K lift columns.trace z) (map lift rows.local)
        (values_at F K lift columns.trace y) (map lift rows.next)
        (values_at F K lift columns.preprocessed z) (map lift rows.preprocessed)
        (values_at F K lift columns.preprocessed y) (map lift rows.preprocessed_next)
        (map (λ f. f z) columns.periodic) (map lift rows.periodic)
        (row_there columns.trace given.trace i z (has.trace i below) here)
        (row_there columns.trace given.trace (after i) y (has.trace (after i) inside)
        (next_there i below) ∙ next given.trace)
        (row_there columns.preprocessed given.preprocessed i z (has.preprocessed i below) here)
        (row_there columns.preprocessed given.preprocessed (after i) y
        (has.preprocessed (after i) inside) (next_there i below) ∙ next given.preprocessed)
        (sym (has.periodic i below))

    -- a node's value at row `i`
    pub value_there : (air : Air V) (node i : ℕ) → i < 2 ^ k
        → get_or (meanings (values_in K lift F.zero (entries_over F K lift columns
        given.public_values (pow K generator i) (K.mul generator (pow K generator i))))
        air.nodes.items) node K.zero
        ≡ lift (get_or (node_values F air given i) node F.zero)
    value_there air node i below =
        ap (λ e. get_or (meanings (values_in K lift F.zero e) air.nodes.items) node K.zero)
        (entries_there i below)
        ∙ sym (lifted_value air (entries_at F given i) node)
