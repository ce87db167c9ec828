-- Collisions of SHA-256 on the ways of two openings of one index.
use Rattle.std.specs.Prelude.{◌≡◌, ◌≢◌, ℕ, ◌/◌, ◌%◌, ◌==◌, List, ◌∷◌, ◌++◌, ◌⊎◌, ⊤}
use Rattle.std.specs.Prelude.{if◌then◌else◌}
use Rattle.std.specs.List.{flat_map}
use Rattle.sha2.specs.Sha256.{sha256}
use Rattle.p3_mmcs.specs.Tree.{row_bytes}

-- two different messages with one digest
pub record IsCollision (first second : List ℕ) : Type 0 where
  pub different : first ≢ second
  pub digest : sha256 first ≡ sha256 second

-- the message of which a parent's digest is taken, of the child at `index` and its sibling
abbrev pub parent_message : (index : ℕ) (digest sibling : List ℕ) → List ℕ
parent_message index digest sibling =
    if index % 2 == 0 then 1 ∷ digest ++ sibling else 1 ∷ sibling ++ digest

-- on the ways up of two digests at `index` stands a collision: at some level the messages of their
-- parents are one
abbrev pub CollidesAbove : (index : ℕ) (first second : List ℕ) (path other : List (List ℕ)) → Type 0
CollidesAbove index first second (sibling ∷ path) (cousin ∷ other) =
    let message = parent_message index first sibling in
    let opposite = parent_message index second cousin in
    IsCollision message opposite
    ⊎ CollidesAbove (index / 2) (sha256 message) (sha256 opposite) path other
CollidesAbove index first second _ _ = ⊥

module _ {T : Type 0} (bytes : T → List ℕ) where
  -- the message of which the leaf's digest is taken
  abbrev pub leaf_message : List (List T) → List ℕ
  leaf_message set = 0 ∷ flat_map (row_bytes bytes) set

  -- two openings of one index collide: among the messages hashed from leaf to root, level by level,
  -- some two are a collision
  abbrev pub Collides : (index : ℕ) (set : List (List T)) (path : List (List ℕ))
      (other : List (List T)) (other_path : List (List ℕ)) → Type 0
  Collides index set path other other_path =
      IsCollision (leaf_message set) (leaf_message other)
      ⊎ CollidesAbove index (sha256 (leaf_message set)) (sha256 (leaf_message other)) path
      other_path

  -- two openings of the same indices collide at none of them
  abbrev pub NoneCollides : List ℕ → (sets : List (List (List T))) (paths : List (List (List ℕ)))
      (others : List (List (List T))) (other_paths : List (List (List ℕ))) → Type 0
  NoneCollides (index ∷ indices) (set ∷ sets) (path ∷ paths) (other ∷ others)
      (other_path ∷ other_paths) =
      ¬ (Collides index set path other other_path)
      × NoneCollides indices sets paths others other_paths
  NoneCollides _ _ _ _ _ = ⊤
