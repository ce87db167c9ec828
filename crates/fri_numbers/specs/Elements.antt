-- The records that list matrices of elements.
use Rattle.std.specs.Prelude.{ℕ, map, false}
use Rattle.std.specs.declared.alloc.Global.{Global}
use Rattle.std.specs.declared.vec.Vec.{Vec}
use Rattle.std.proofs.Common.{sym, ◌∙◌}
use Rattle.std.proofs.lemmas.List.{length-map}
use Rattle.fri_records.specs.declared.records.Matrix.{Matrix}
use Rattle.fri_records.specs.declared.records.Batch.{Batch}
use Rattle.fri_numbers.specs.declared.matrices.ElementMatrix.{ElementMatrix}

-- a vector with the images of another's entries in their places
abbrev pub image_of : {X Y A : Type 0} → (X → Y) → Vec X A → Vec Y A
image_of f v = record {
  ptr = v.ptr;
  len = v.len;
  cap = v.cap;
  alloc = v.alloc;
  items = map f v.items;
  ok = (v.ok.0 ∙ sym (length-map v.items f), v.ok.1);
  small = v.small;
}

-- by the numbers of elements
module _ {F : Type 0} (canonical : F → ℕ) where
  -- the record of a matrix
  abbrev pub record_of : ElementMatrix F → Matrix
  record_of m = record {
    domain = m.domain;
    width = m.width;
    values = image_of canonical m.values;
    points = m.points;
  }

  -- the batch of such records, which isn't preprocessed
  abbrev pub batch_of : Vec (ElementMatrix F) Global → Batch
  batch_of matrices =
      record { matrices = image_of record_of matrices; preprocessed = false }
