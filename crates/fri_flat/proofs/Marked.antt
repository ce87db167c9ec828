-- The commitment that an index names, marked as preprocessed.
use Rattle.std.proofs.Common.{◌≡◌, ℕ, zero, suc, ◌<◌, List, [], ◌∷◌, length, set, get_or, map, All}
use Rattle.std.proofs.Common.{refl, ap, arith, true, false, Option, Some, None}
use Rattle.algebra.proofs.Lists.{Each, each_from_All, All_from_each}
use Rattle.p3_stark_pcs.specs.Preprocessing.{ArePreprocessedAt}
use Rattle.fri_records.specs.declared.records.Batch.{Batch}
use Rattle.fri_commitments.specs.Preprocessing.{NamesPreprocessed}

abbrev IsPlain : Batch → Type 0
IsPlain b = b.preprocessed ≡ false

abbrev IsPreprocessed : Batch → Type 0
IsPreprocessed b = b.preprocessed ≡ true

named_at : (bs : List Batch) (i : ℕ) (b : Batch) → i < length bs → Each IsPlain bs → IsPreprocessed b
    → ArePreprocessedAt IsPlain IsPreprocessed i (set bs i b)
named_at [] i b l plain is = absurd (omega (arith, l))
named_at (x ∷ xs) zero b l plain is = (is, All_from_each IsPlain xs plain.1)
named_at (x ∷ xs) (suc i) b l plain is = (plain.0, named_at xs i b (omega (arith, l)) plain.1 is)

-- where none was preprocessed, one that is put at an index is named by it
pub named_there : (bs : List Batch) (i : ℕ) (b : Batch) → i < length bs → All IsPlain bs
    → IsPreprocessed b → NamesPreprocessed (Some i) (set bs i b)
named_there bs i b l plain is = named_at bs i b l (each_from_All IsPlain bs plain) is

-- and with the same in it, all is the same
pub same_there : {A : Type 0} (f : Batch → A) (bs : List Batch) (i : ℕ) (b d : Batch)
    → f b ≡ f (get_or bs i d) → map f (set bs i b) ≡ map f bs
same_there f [] i b d e = refl
same_there f (x ∷ xs) zero b d e = ap (λ y. y ∷ map f xs) e
same_there f (x ∷ xs) (suc i) b d e = ap (λ ys. f x ∷ ys) (same_there f xs i b d e)

not_both : (b : Batch) → IsPreprocessed b → IsPlain b → ⊥
not_both b p q = cc

none_there : (n : ℕ) (bs : List Batch) → Each IsPlain bs
    → ArePreprocessedAt IsPlain IsPreprocessed n bs → ⊥
none_there n [] plain at = at
none_there zero (b ∷ bs) plain at = not_both b at.0 plain.0
none_there (suc n) (b ∷ bs) plain at = none_there n bs plain.1 at.1

one_there : (m n : ℕ) (bs : List Batch) → ArePreprocessedAt IsPlain IsPreprocessed m bs
    → ArePreprocessedAt IsPlain IsPreprocessed n bs → m ≡ n
one_there m n [] p q = absurd p
one_there zero zero (b ∷ bs) p q = refl
one_there zero (suc n) (b ∷ bs) p q = absurd (not_both b p.0 q.0)
one_there (suc m) zero (b ∷ bs) p q = absurd (not_both b q.0 p.0)
one_there (suc m) (suc n) (b ∷ bs) p q = ap suc (one_there m n bs p.1 q.1)

-- batches have one index
pub one_index : (i j : Option ℕ) (bs : List Batch) → NamesPreprocessed i bs → NamesPreprocessed j bs
    → i ≡ j
one_index None None bs p q = refl
one_index None (Some n) bs p q = absurd (none_there n bs (each_from_All IsPlain bs p) q)
one_index (Some m) None bs p q = absurd (none_there m bs (each_from_All IsPlain bs q) p)
one_index (Some m) (Some n) bs p q = ap Some (one_there m n bs p q)
