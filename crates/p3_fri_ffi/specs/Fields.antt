-- The fields by their numbers.
use Rattle.std.specs.Prelude.{ℕ, zero, suc}

-- what holds over the field of this number: 0 BabyBear, 1 KoalaBear, 2 Goldilocks
abbrev pub OverField : (field : ℕ) → (baby_bear koala_bear goldilocks : Type 0) → Type 0
OverField zero B K G = B
OverField (suc zero) B K G = K
OverField (suc (suc zero)) B K G = G
OverField (suc (suc (suc n))) B K G = ⊥
