-- How many columns only hide others, by the place of a datum.
use Rattle.std.proofs.Common.{◌≡◌, ◌≢◌, ℕ, zero, suc, ◌+◌, ◌<◌, List, [], ◌∷◌, length, All}
use Rattle.std.proofs.Common.{Option, Some, None, Bool, true, false, sym, ap, ◌∙◌, arith}
use Rattle.std.specs.Prelude.{if◌then◌else◌, IfSome}
use Rattle.std.proofs.lemmas.Bool.{eq-eqb, ne_eqb}
use Rattle.std.proofs.lemmas.List.Elements.{All-head, All-tail, All-cons, All-weaker}
use Rattle.p3_matrix.specs.declared.dense.RowMajorMatrix.{RowMajorMatrix}
use Rattle.p3_stark_pcs.specs.Preprocessing.{ArePreprocessedAt, CanBeOpened}
use Rattle.p3_fri_relation.specs.Setting.{Fields}
use Rattle.p3_fri_hiding_openings.specs.RandomValues.{count_at}
use Rattle.p3_fri_hiding_openings.specs.declared.data.HidingFriPcsProverData.{HidingFriPcsProverData}
use Rattle.p3_fri_hiding_openings.specs.Data.{IsUnopened, IsPreprocessing, hidden_columns}

module _ {T : Type 0} (r : ℕ) (preprocessing : Option ℕ) where
  -- from place `n` on, as many values are kept back as columns hide others
  abbrev pub AreCounted : ℕ → List (HidingFriPcsProverData T) → Type 0
  AreCounted n [] = Unit
  AreCounted n (d ∷ ds) =
      (count_at r preprocessing n ≡ hidden_columns r d) × AreCounted (n + 1) ds

hidden_in : {T : Type 0} (r : ℕ) (d : HidingFriPcsProverData T) (kind : Bool)
    → d.preprocessed ≡ kind → hidden_columns r d ≡ (if kind then 0 else r)
hidden_in r d kind is = ap (λ (b : Bool). if b then 0 else r) is

count_elsewhere : (r index n : ℕ) → index ≢ n → count_at r (Some index) n ≡ r
count_elsewhere r index n other = ap (λ (b : Bool). if b then 0 else r) (ne_eqb index n other)

count_there : (r index n : ℕ) → index ≡ n → count_at r (Some index) n ≡ 0
count_there r index n same = ap (λ (b : Bool). if b then 0 else r) (eq-eqb index n same)

module _ {F E T : Type 0} (f : Fields F E) (committed : T → List (RowMajorMatrix F))
    (log_blowup r : ℕ) where
  abbrev CanOpen : HidingFriPcsProverData T → Type 0
  CanOpen = IsUnopened f committed log_blowup r

  abbrev CanOpenPreprocessed : HidingFriPcsProverData T → Type 0
  CanOpenPreprocessed = IsPreprocessing f committed log_blowup r

  private_counted : (n : ℕ) (ds : List (HidingFriPcsProverData T)) → All CanOpen ds
      → AreCounted r None n ds
  private_counted n [] can = tt
  private_counted n (d ∷ ds) can = (
    sym (hidden_in r d false (All-head CanOpen d ds can).private),
    private_counted (n + 1) ds (All-tail CanOpen d ds can),
  )

  -- past the preprocessed one
  past_counted : (index n : ℕ) (ds : List (HidingFriPcsProverData T)) → index < n
      → All CanOpen ds → AreCounted r (Some index) n ds
  past_counted index n [] below can = tt
  past_counted index n (d ∷ ds) below can =
      let other : index ≢ n = λ same. omega (arith, below, same) in (
        count_elsewhere r index n other
            ∙ sym (hidden_in r d false (All-head CanOpen d ds can).private),
        past_counted index (n + 1) ds (omega (arith, below)) (All-tail CanOpen d ds can),
      )

  named_counted : (index n k : ℕ) (ds : List (HidingFriPcsProverData T)) → index ≡ n + k
      → ArePreprocessedAt CanOpen CanOpenPreprocessed k ds → AreCounted r (Some index) n ds
  named_counted index n k [] is can = absurd can
  named_counted index n zero (d ∷ ds) is can = (
    count_there r index n (omega (arith, is)) ∙ sym (hidden_in r d true can.0.public),
    past_counted index (n + 1) ds (omega (arith, is)) can.1,
  )
  named_counted index n (suc k) (d ∷ ds) is can =
      let other : index ≢ n = λ same. omega (arith, is, same) in (
        count_elsewhere r index n other ∙ sym (hidden_in r d false can.0.private),
        named_counted index (n + 1) k ds (omega (arith, is)) can.1,
      )

  pub counted : (preprocessing : Option ℕ) (ds : List (HidingFriPcsProverData T))
      → CanBeOpened CanOpen CanOpenPreprocessed preprocessing ds
      → AreCounted r preprocessing 0 ds
  counted None ds can = private_counted 0 ds can
  counted (Some index) ds can = named_counted index 0 index ds (omega arith) can

  -- the index is one of a datum
  named_within : (k : ℕ) (ds : List (HidingFriPcsProverData T))
      → ArePreprocessedAt CanOpen CanOpenPreprocessed k ds → k < length ds
  named_within k [] can = absurd can
  named_within zero (d ∷ ds) can = omega arith
  named_within (suc k) (d ∷ ds) can =
      let rest = named_within k ds can.1 in omega (arith, rest)

  pub within : (preprocessing : Option ℕ) (ds : List (HidingFriPcsProverData T))
      → CanBeOpened CanOpen CanOpenPreprocessed preprocessing ds
      → IfSome preprocessing (λ index. index < length ds)
  within None ds can = tt
  within (Some index) ds can = named_within index ds can

  -- what holds of both kinds holds of each datum
  module _ (P : HidingFriPcsProverData T → Type 0) (private : (d : HidingFriPcsProverData T)
      → CanOpen d → P d) (public : (d : HidingFriPcsProverData T) → CanOpenPreprocessed d → P d)
    where
      named_each : (k : ℕ) (ds : List (HidingFriPcsProverData T))
          → ArePreprocessedAt CanOpen CanOpenPreprocessed k ds → All P ds
      named_each k [] can = absurd can
      named_each zero (d ∷ ds) can =
          All-cons P d ds (public d can.0) (All-weaker CanOpen P private ds can.1)
      named_each (suc k) (d ∷ ds) can =
          All-cons P d ds (private d can.0) (named_each k ds can.1)

      pub each_datum : (preprocessing : Option ℕ) (ds : List (HidingFriPcsProverData T))
          → CanBeOpened CanOpen CanOpenPreprocessed preprocessing ds → All P ds
      each_datum None ds can = All-weaker CanOpen P private ds can
      each_datum (Some index) ds can = named_each index ds can
