-- Claims, compared one after another with the described counts.
use Rattle.std.proofs.Common.{◌≡◌, ℕ, ◌+◌, ◌-◌, ◌^◌, ◌<◌, ◌≤◌, min, List, [], ◌∷◌, ◌++◌, length, map, take, drop, get_or, refl, sym, ap, ◌∙◌, add_assoc, arith, append_assoc, length-append}
use Rattle.std.proofs.lemmas.List.{map-append, length-map, take_all, take-append-drop}
use Rattle.std.proofs.lemmas.Grind.{flat_map-append}
use Rattle.std.specs.List.{flat_map}
use Rattle.algebra.proofs.Growing.{joined_next}
use Rattle.p3_challenger_fs.proofs.Streams.{split_front}
use Rattle.p3_fri_pcs_transcript.specs.declared.pcs_transcript.described.DescribedCounts.{DescribedCounts}
use Rattle.p3_fri_pcs_transcript.specs.declared.pcs_transcript.failure.PcsTranscriptFailure.{PcsTranscriptFailure}
use Rattle.p3_fri_pcs_transcript.specs.declared.pcs_transcript.failure.PcsTranscriptFailure.TheVariants.{ClaimedEvaluationCount, PowWitness, MissingPowWitness, OutOfMemory}
use Rattle.p3_fri_pcs_transcript.specs.Claims.{BeginsWith, Differs, IsClaimFailure}
use Rattle.p3_fri_pcs_transcript.specs.Cursor.{counts_left, IsCompared}
use Rattle.p3_fri_pow.proofs.Lists.{next_item}
use Rattle.p3_fri_transcript.proofs.Replays.{take_next}

-- a list about one of its entries
about : {A : Type 0} (xs : List A) (i : ℕ) (x : A) → i < length xs → x ≡ get_or xs i x → xs ≡ take i xs ++ x ∷ drop (i + 1) xs
about xs i x less is = sym (take-append-drop i xs) ∙ ap (λ ys. take i xs ++ ys) (next_item xs i x less is)

-- the same of what is made of each entry
pub taken_item : {A B : Type 0} (f : A → B) (xs : List A) (i : ℕ) (x : A) → i < length xs → x ≡ get_or xs i x → map f (take (i + 1) xs) ≡ map f (take i xs) ++ f x ∷ []
taken_item f xs i x less is = ap (map f) (take_next xs i x less is) ∙ map-append f (take i xs) (x ∷ [])

pub about_item : {A B : Type 0} (f : A → B) (xs : List A) (i : ℕ) (x : A) → i < length xs → x ≡ get_or xs i x → map f xs ≡ map f (take i xs) ++ (f x ∷ []) ++ map f (drop (i + 1) xs)
about_item f xs i x less is =
    ap (map f) (about xs i x less is) ∙ map-append f (take i xs) (x ∷ drop (i + 1) xs) ∙ sym (append_assoc (map f (take i xs)) (f x ∷ []) (map f (drop (i + 1) xs)))

-- and of the lists that are made of each
pub about_lists : {A B : Type 0} (f : A → List B) (xs : List A) (i : ℕ) (x : A) → i < length xs → x ≡ get_or xs i x → flat_map f xs ≡ flat_map f (take i xs) ++ f x ++ flat_map f (drop (i + 1) xs)
about_lists f xs i x less is =
    ap (flat_map f) (about xs i x less is) ∙ flat_map-append f (take i xs) (x ∷ drop (i + 1) xs) ∙ sym (append_assoc (flat_map f (take i xs)) (f x) (flat_map f (drop (i + 1) xs)))

-- a whole entry's lists behind those of the entries before it
pub whole_entry : {A B Y : Type 0} (f : A → List B) (inner : List Y → List B) (first : List B) (xs : List A) (i : ℕ) (x : A) (ys : List Y) (j : ℕ)
    → i < length xs → x ≡ get_or xs i x → length ys ≤ j → inner ys ≡ f x
    → (first ++ flat_map f (take i xs)) ++ inner (take j ys) ≡ first ++ flat_map f (take (i + 1) xs)
whole_entry f inner first xs i x ys j less is whole same =
    ap (λ zs. (first ++ flat_map f (take i xs)) ++ inner zs) (take_all j ys whole)
    ∙ append_assoc first (flat_map f (take i xs)) (inner ys)
    ∙ ap (λ ls. first ++ ls) (ap (λ ls. flat_map f (take i xs) ++ ls) same ∙ sym (joined_next f xs i x less is))

-- a part of a part
pub part_within : {A : Type 0} (all first part others before inner after : List A) → all ≡ first ++ part ++ others → part ≡ before ++ inner ++ after
    → all ≡ (first ++ before) ++ inner ++ (after ++ others)
part_within all first part others before inner after is holds =
    is ∙ ap (λ xs. first ++ xs ++ others) holds
    ∙ simp append_assoc

-- a place one further on
one_place_more : (n m : ℕ) → n ≡ min m (2 ^ 64 - 1) → min (n + 1) (2 ^ 64 - 1) ≡ min (m + 1) (2 ^ 64 - 1)
one_place_more n m at = omega arith

-- one list was compared
pub compared_one : {E : Type 0} (a b : DescribedCounts) (values : List E) → counts_left a ≡ length values ∷ counts_left b → b.opening ≡ min (a.opening + 1) (2 ^ 64 - 1)
    → IsCompared a b (values ∷ [])
compared_one a b values counts place = record { counts = counts; place = λ from at. place ∙ one_place_more a.opening from at }

-- these were, and then those
pub compared_next : {E : Type 0} (a b c : DescribedCounts) (before first next : List (List E)) → next ≡ before ++ first → IsCompared a b before → IsCompared b c first → IsCompared a c next
compared_next a b c before first next is till then = record {
  counts = till.counts ∙ ap (λ left. map length before ++ left) then.counts ∙ sym (append_assoc (map length before) (map length first) (counts_left c))
      ∙ ap (λ lengths. lengths ++ counts_left c) (sym (map-append length before first)) ∙ ap (λ lists. map length lists ++ counts_left c) (sym is);
  place = λ from at. then.place (from + length before) (till.place from at)
      ∙ ap (λ n. min n (2 ^ 64 - 1)) (add_assoc from (length before) (length first) ∙ ap (λ n. from + n) (sym (length-append before first)) ∙ ap (λ lists. from + length lists) (sym is));
}

-- a fault after those that were compared
pub fault_after : {E : Type 0} (a b : DescribedCounts) (before first more all : List (List E)) (e : PcsTranscriptFailure) → all ≡ before ++ first ++ more → IsCompared a b before
    → ((from : ℕ) → b.opening ≡ min from (2 ^ 64 - 1) → IsClaimFailure from (counts_left b) (map length first) e)
    → (from : ℕ) → a.opening ≡ min from (2 ^ 64 - 1) → IsClaimFailure from (counts_left a) (map length all) e
fault_after a b before first more all (ClaimedEvaluationCount opening expected got) is till fault from at =
    let found = fault (from + length before) (till.place from at) in
    let lengths = map length before in
    let others = map length more in
    record {
      before = lengths ++ found.before;
      left = found.left;
      more = found.more ++ others;
      described_is = till.counts ∙ ap (λ left. lengths ++ left) found.described_is ∙ sym (append_assoc lengths found.before found.left);
      claimed_is = ap (map length) is ∙ map-append length (before ++ first) more ∙ ap (λ counts. counts ++ others) (map-append length before first)
          ∙ ap (λ counts. (lengths ++ counts) ++ others) found.claimed_is
          ∙ ap (λ counts. counts ++ others) (sym (append_assoc lengths found.before (got ∷ found.more)))
          ∙ append_assoc (lengths ++ found.before) (got ∷ found.more) others;
      place = found.place ∙ ap (λ n. min n (2 ^ 64 - 1)) (add_assoc from (length before) (length found.before)
          ∙ ap (λ n. from + n) (sym (length-append lengths found.before ∙ ap (λ n. n + length found.before) (length-map before length))));
      differs = found.differs;
    }
fault_after a b before first more all (PowWitness bits) is till fault from at = fault (from + length before) (till.place from at)
fault_after a b before first more all (MissingPowWitness bits) is till fault from at = fault (from + length before) (till.place from at)
fault_after a b before first more all OutOfMemory is till fault from at = fault (from + length before) (till.place from at)

-- the described counts that are left don't begin with it
not_first : (left : List ℕ) (expected got : ℕ) (others : List ℕ) → Differs left expected got → left ≡ got ∷ others → ⊥
not_first [] expected got others differs is = cc
not_first (described ∷ left) expected got others differs is = let same : got ≡ described = cc in differs.1 same

-- counts with a fault are no beginning of the described ones
pub fault_refused : (from : ℕ) (described claimed : List ℕ) (e : PcsTranscriptFailure) → IsClaimFailure from described claimed e → BeginsWith described claimed → ⊥
fault_refused from described claimed (ClaimedEvaluationCount opening expected got) fault begins =
    not_first fault.left expected got (fault.more ++ begins.0) fault.differs
    (split_front fault.before fault.before fault.left (got ∷ (fault.more ++ begins.0)) refl
    (sym fault.described_is ∙ begins.1 ∙ ap (λ counts. counts ++ begins.0) fault.claimed_is ∙ append_assoc fault.before (got ∷ fault.more) begins.0)).1
fault_refused from described claimed (PowWitness bits) fault begins = fault
fault_refused from described claimed (MissingPowWitness bits) fault begins = fault
fault_refused from described claimed OutOfMemory fault begins = fault
