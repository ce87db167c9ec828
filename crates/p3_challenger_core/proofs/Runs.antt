-- Observations and draws one at a time, and runs joined.
use Rattle.std.proofs.Common.{◌≡◌, ℕ, ◌+◌, ◌-◌, ◌<◌, List, [], ◌∷◌, ◌++◌, length, map, take, drop}
use Rattle.std.proofs.Common.{get_or, slice_set, refl, sym, ap, ◌∙◌, arith, add-one, append_assoc}
use Rattle.std.proofs.Common.{append-nil, ◌≤◌}
use Rattle.std.proofs.Math.Seq.{drop-cons, drop-length}
use Rattle.std.proofs.lemmas.List.{take_more_set}
use Rattle.p3_challenger_core.specs.Run.{After, Moves, Event, run, observed_all, draws}
use Rattle.p3_challenger_core.specs.Run.Event.{ValueObserved, CommitmentObserved, ElementDrawn}
use Rattle.p3_challenger_core.specs.Run.Event.{BitsDrawn}
use Rattle.p3_challenger_core.specs.Run.Drawn.{Element, Bits}
use Rattle.p3_challenger_core.specs.Laws.{RunsJoin}

-- observations of two lists joined
pub observed_all-append : {C T : Type 0} (observe : C → T → C) (c : C) (xs ys : List T)
    → observed_all observe c (xs ++ ys) ≡ observed_all observe (observed_all observe c xs) ys
observed_all-append observe c [] ys = refl
observed_all-append observe c (x ∷ xs) ys = observed_all-append observe (observe c x) xs ys

-- after the next value is observed, from the state `s`, what is left leads where it led before
pub observed_all-next : {C T : Type 0} (observe : C → T → C) (c s : C) (xs : List T) (i : ℕ)
    (x d : T) → i < length xs → x ≡ get_or xs i d → s ≡ observe c x
    → observed_all observe s (drop (i + 1) xs) ≡ observed_all observe c (drop i xs)
observed_all-next observe c s xs i x d less is state =
    ap (λ t. observed_all observe t (drop (i + 1) xs)) (state ∙ ap (λ y. observe c y) is)
    ∙ ap (λ n. observed_all observe (observe c (get_or xs i d)) (drop n xs)) (add-one i)
    ∙ ap (λ ys. observed_all observe c ys) (sym (drop-cons xs i d less))

-- nothing is left at the end
pub observed_all-end : {C T : Type 0} (observe : C → T → C) (c last : C) (xs : List T) (i : ℕ)
    → i ≡ length xs → observed_all observe c (drop i xs) ≡ last → c ≡ last
observed_all-end observe c last xs i end is =
    sym (ap (λ n. observed_all observe c (drop n xs)) end ∙ ap (λ ys.
    observed_all observe c ys) (drop-length xs)) ∙ is

-- the first of the draws that are left
draws-next : {C F : Type 0} (draw : C → After C F) (c : C) (n i : ℕ) → i < n
    → draws draw c (n - i) ≡ record {
      value = (draw c).value ∷ (draws draw (draw c).state (n - (i + 1))).value;
      state =
          (draws draw (draw c).state (n - (i + 1))).state;
    }
draws-next draw c n i less = ap (λ m.
    draws draw c m) (let e : n - i ≡ (n - (i + 1)) + 1 = omega arith in e ∙ add-one (n - (i + 1)))

-- the state after what is left to draw stays the same when the next is drawn
pub draws-state : {C F : Type 0} (draw : C → After C F) (c s : C) (n i : ℕ) → i < n
    → s ≡ (draw c).state
    → (draws draw s (n - (i + 1))).state ≡ (draws draw c (n - i)).state
draws-state draw c s n i less state =
    ap (λ t. (draws draw t (n - (i + 1))).state) state
    ∙ sym (ap (λ (a : After _ _). a.state) (draws-next draw c n i less))

-- and so do the values, when the one that was drawn is written behind those before it
pub draws-values : {C F : Type 0} (draw : C → After C F) (c s : C) (xs ys : List F) (v : F)
    (n i : ℕ) → i < n → i < length xs
    → v ≡ (draw c).value → s ≡ (draw c).state → ys ≡ slice_set xs i v
    → take (i + 1) ys ++ (draws draw s (n - (i + 1))).value
    ≡ take i xs ++ (draws draw c (n - i)).value
draws-values draw c s xs ys v n i less within value state written =
    let left = (draws draw (draw c).state (n - (i + 1))).value in
    ap (λ t. take (i + 1) ys ++ (draws draw t (n - (i + 1))).value) state
    ∙ ap (λ zs. take (i + 1) zs ++ left) (written ∙ ap (λ w. slice_set xs i w) value)
    ∙ ap (λ zs. zs ++ left) (take_more_set xs i (draw c).value within)
    ∙ append_assoc (take i xs) ((draw c).value ∷ []) left
    ∙ ap (λ (a : After _ _). take i xs ++ a.value) (sym (draws-next draw c n i less))

-- a run that begins with values observed in order
pub run-observed_all : {C F E Com : Type 0} (m : Moves C F E Com) (c : C) (xs : List F)
    (events : List (Event F Com))
    → run m c (map ValueObserved xs ++ events) ≡ run m (observed_all m.observe_value c xs) events
run-observed_all m c [] events = refl
run-observed_all m c (x ∷ xs) events = run-observed_all m (m.observe_value c x) xs events

pub runs_join : {C F E Com : Type 0} (m : Moves C F E Com) (c : C)
    (first second : List (Event F Com)) → RunsJoin m c first second
runs_join m c [] second = record { values = refl; state = refl }
runs_join m c (ValueObserved x ∷ first) second =
    let others = runs_join m (m.observe_value c x) first second in
    record { values = others.values; state = others.state }
runs_join m c (CommitmentObserved d ∷ first) second =
    let others = runs_join m (m.observe_commitment c d) first second in
    record { values = others.values; state = others.state }
runs_join m c (ElementDrawn ∷ first) second =
    let drawn = m.draw_element c in
    let others = runs_join m drawn.state first second in
    record { values = ap (λ vs. Element drawn.value ∷ vs) others.values; state = others.state }
runs_join m c (BitsDrawn n ∷ first) second =
    let drawn = m.draw_bits c n in
    let others = runs_join m drawn.state first second in
    record { values = ap (λ vs. Bits drawn.value ∷ vs) others.values; state = others.state }

-- and when it is pushed behind them
pub draws-pushed : {C F : Type 0} (draw : C → After C F) (c s : C) (xs ys : List F) (v : F)
    (n i : ℕ) → i < n
    → ys ≡ xs ++ v ∷ [] → v ≡ (draw c).value → s ≡ (draw c).state
    → ys ++ (draws draw s (n - (i + 1))).value ≡ xs ++ (draws draw c (n - i)).value
draws-pushed draw c s xs ys v n i less pushed value state =
    let left = (draws draw (draw c).state (n - (i + 1))).value in
    ap (λ t. ys ++ (draws draw t (n - (i + 1))).value) state
    ∙ ap (λ zs. zs ++ left) pushed
    ∙ append_assoc xs (v ∷ []) left
    ∙ ap (λ w. xs ++ w ∷ left) value
    ∙ ap (λ (a : After _ _). xs ++ a.value) (sym (draws-next draw c n i less))

-- none is left at the end
pub draws-end : {C F : Type 0} (draw : C → After C F) (c : C) (xs all : List F) (n i : ℕ) → n ≤ i
    → xs ++ (draws draw c (n - i)).value ≡ all → xs ≡ all
draws-end draw c xs all n i reached is =
    let none_left : n - i ≡ 0 = omega arith in
    sym (append-nil xs) ∙ ap (λ m. xs ++ (draws draw c m).value) (sym none_left) ∙ is
