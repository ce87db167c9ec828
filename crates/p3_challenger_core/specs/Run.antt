-- Runs of a challenger: what it answers, and the state that it is left in.
use Rattle.std.specs.Prelude.{ℕ, zero, suc, Bool, true, IsTrue, ◌==◌, if◌then◌else◌, List, [], ◌∷◌}

-- an answer, and the state after it
pub record After (C A : Type 0) : Type 0 where
  pub value : A
  pub state : C

-- what a challenger does, as functions of its state: values of `F` and commitments of `Com` are
-- observed, elements of `E` and numbers of a width in bits are drawn
pub record Moves (C F E Com : Type 0) : Type 0 where
  pub observe_value : C → F → C
  pub observe_commitment : C → Com → C
  pub draw_element : C → After C E
  pub draw_bits : C → ℕ → After C ℕ

-- an event of a run: a value or a commitment is observed, an element or a number of so many bits is
-- drawn
pub data Event (F Com : Type 0) : Type 0 where
  ValueObserved : F → Event F Com
  CommitmentObserved : Com → Event F Com
  ElementDrawn : Event F Com
  BitsDrawn : ℕ → Event F Com

-- what an event draws
pub data Drawn (E : Type 0) : Type 0 where
  Element : E → Drawn E
  Bits : ℕ → Drawn E

-- the values drawn along the events from the state `c`, in order, and the last state
abbrev pub run : {C F E Com : Type 0} → Moves C F E Com → C → List (Event F Com)
    → After C (List (Drawn E))
run m c [] = record { value = []; state = c }
run m c (ValueObserved x ∷ events) = run m (m.observe_value c x) events
run m c (CommitmentObserved d ∷ events) = run m (m.observe_commitment c d) events
run m c (ElementDrawn ∷ events) =
    let first = m.draw_element c in
    let others = run m first.state events in
    record { value = Element first.value ∷ others.value; state = others.state }
run m c (BitsDrawn n ∷ events) =
    let first = m.draw_bits c n in
    let others = run m first.state events in
    record { value = Bits first.value ∷ others.value; state = others.state }

-- the state after the values are observed in order
abbrev pub observed_all : {C T : Type 0} → (C → T → C) → C → List T → C
observed_all observe c [] = c
observed_all observe c (x ∷ xs) = observed_all observe (observe c x) xs

-- `n` values drawn one after another, and the last state
abbrev pub draws : {C F : Type 0} → (C → After C F) → C → ℕ → After C (List F)
draws draw c zero = record { value = []; state = c }
draws draw c (suc n) =
    let first = draw c in
    let others = draws draw first.state n in
    record { value = first.value ∷ others.value; state = others.state }

-- the element of an extension of dimension `n` whose coefficients are drawn one after another, that
-- of one first
abbrev pub drawn_element : {C F E : Type 0} → (C → After C F) → (List F → E) → ℕ → C → After C E
drawn_element draw of_coefficients n c =
    let coefficients = draws draw c n in
    record { value = of_coefficients coefficients.value; state = coefficients.state }

-- the attempt of a grind of `b` bits with the witness `w`: whether it passes, and the state after
-- it. At no bits it passes and nothing happens; else `w` is observed and `b` bits are drawn, which
-- have to be 0
abbrev pub grind_attempt : {C W : Type 0} → (C → W → C) → (C → ℕ → After C ℕ) → C → ℕ → W
    → After C Bool
grind_attempt observe draw_bits c b w =
    if b == 0 then record { value = true; state = c }
    else (let drawn = draw_bits
    (observe c w) b in record { value = drawn.value == 0; state = drawn.state })

-- the witness passes that grind
abbrev pub Passes : {C W : Type 0} → (C → W → C) → (C → ℕ → After C ℕ) → C → ℕ → W → Type 0
Passes observe draw_bits c b w = IsTrue (grind_attempt observe draw_bits c b w).value

-- the moves of a challenger that draws elements of an extension coefficient by coefficient
abbrev pub moves : {C F E Com : Type 0} → (C → F → C) → (C → Com → C) → (C → After C F)
    → (List F → E) → ℕ → (C → ℕ → After C ℕ) → Moves C F E Com
moves observe observe_commitment draw of_coefficients dimension draw_bits = record {
  observe_value = observe;
  observe_commitment = observe_commitment;
  draw_element = drawn_element draw of_coefficients dimension;
  draw_bits = draw_bits;
}
