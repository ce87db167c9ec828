-- Which batch of a request is preprocessed.
use Rattle.std.specs.Prelude.{◌≡◌, ℕ, List, Option, true, false}
use Rattle.p3_stark_pcs.specs.Preprocessing.{CanBeOpened as AreNamed}
use Rattle.fri_records.specs.declared.records.Batch.{Batch}

-- the index names the preprocessed batch, if there is one, and no other is
abbrev pub NamesPreprocessed : Option ℕ → List Batch → Type 0
NamesPreprocessed index batches =
    AreNamed (λ b. b.preprocessed ≡ false) (λ b. b.preprocessed ≡ true) index batches
