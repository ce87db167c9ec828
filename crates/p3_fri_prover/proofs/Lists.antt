-- Lists in vectors, by place, and what loops over them need.
use Rattle.std.proofs.Common.{◌≡◌, inl, inr, ℕ, zero, suc, ◌+◌, ◌^◌, ◌<◌, List, [], ◌∷◌, ◌++◌}
use Rattle.std.proofs.Common.{length, get_or, take, drop, refl, sym, ap, ap₂, ◌∙◌, arith}
use Rattle.std.proofs.Common.{Some, drop-cons, add-one}
use Rattle.std.specs.Prelude.{if◌then◌else◌}
use Rattle.std.specs.declared.vec.Vec.{Vec}
use Rattle.std.specs.Vec.{vec_len}
use Rattle.std.proofs.lemmas.List.{take_more}
use Rattle.std.proofs.lemmas.Bool.{eq-eqb, ne_eqb}
use Rattle.std.proofs.lemmas.Bool.Decides.{eqb_tells}
use Rattle.algebra.specs.Nested.{lists}
use Rattle.algebra.specs.Polynomial.{tabulate}
use Rattle.algebra.proofs.Nested.{length-lists, lists_at}
use Rattle.algebra.proofs.Lists.{tabulate-get_or, tabulate-equal, all_zip-push}
use Rattle.p3_fri_prover.specs.Inputs.{HaveHeights, of_length, HavePowerLengths}
use Rattle.p3_field_core.proofs.IndexPowers.{exponents_agree}

-- a list by its entries
pub by_entries : {A : Type 0} (n : ℕ) (f : ℕ → A) (xs : List A) (d : A) → length xs ≡ n
    → ((k : ℕ) → k < n → get_or xs k d ≡ f k) → xs ≡ tabulate n f
by_entries n f xs d e each =
    sym (tabulate-get_or n xs d e) ∙ tabulate-equal n (λ k. get_or xs k d) f each

module _ {E A : Type 0} (inputs : List (Vec E A)) (i : ℕ) (item : Vec E A)
    (within : i < length inputs) (is : item ≡ get_or inputs i item) where
  pub list_at : get_or (lists inputs) i [] ≡ item.items
  list_at = lists_at inputs i item within ∙ ap (λ (v : Vec E A). v.items) (sym is)

  in_lists : i < length (lists inputs)
  in_lists = omega (arith, length-lists inputs, within)

  pub power_of_item : (n : ℕ) → n ≡ vec_len item → HavePowerLengths (lists inputs)
      → (x : ℕ) × (n ≡ 2 ^ x)
  power_of_item n e powers =
      let p = powers i [] in_lists in
      (p.0, e ∙ item.ok.0 ∙ ap length (sym list_at) ∙ p.1)

  -- the logarithm of its length is the height beside it
  pub height_of_item : (heights : List ℕ) (log : ℕ) → HaveHeights heights (lists inputs)
      → 2 ^ log ≡ vec_len item → log ≡ get_or heights i 0
  height_of_item heights log have e =
      exponents_agree log (get_or heights i 0)
      (e ∙ item.ok.0 ∙ ap length (sym list_at) ∙ at heights (lists inputs) i have in_lists)
    where
      at : (heights : List ℕ) (words : List (List E)) (k : ℕ) → HaveHeights heights words
          → k < length words → length (get_or words k []) ≡ 2 ^ get_or heights k 0
      at [] [] k have l = absurd (omega (arith, l))
      at [] (w ∷ ws) k have l = absurd have
      at (h ∷ hs) [] k have l = absurd have
      at (h ∷ hs) (w ∷ ws) zero have l = have.0
      at (h ∷ hs) (w ∷ ws) (suc k) have l = at hs ws k have.1 (omega (arith, l))

  take_item : take (i + 1) (lists inputs) ≡ take i (lists inputs) ++ item.items ∷ []
  take_item = take_more (lists inputs) i [] in_lists
      ∙ ap (λ w. take i (lists inputs) ++ w ∷ []) list_at

  -- one height more
  pub heights_more : (heights : List ℕ) (log : ℕ) → HaveHeights heights (take i (lists inputs))
      → 2 ^ log ≡ vec_len item → HaveHeights (heights ++ log ∷ []) (take (i + 1) (lists inputs))
  heights_more heights log have e =
      rw take_item (all_zip-push (λ h word. length word ≡ 2 ^ h) heights (take i (lists inputs)) log
      item.items have (sym (e ∙ item.ok.0)))

  drop_item : drop i (lists inputs) ≡ item.items ∷ drop (i + 1) (lists inputs)
  drop_item = drop-cons (lists inputs) i [] in_lists
      ∙ ap₂ (λ w k. w ∷ drop k (lists inputs)) list_at (sym (add-one i))

  -- the item has the length, or another that follows
  pub found_here : (n : ℕ) → n ≡ vec_len item → of_length (drop i (lists inputs)) n ≡ Some item.items
  found_here n e = rw drop_item
      (ap (λ t. if t then Some item.items else of_length (drop (i + 1) (lists inputs)) n)
      (eq-eqb (length item.items) n (sym (e ∙ item.ok.0))))

  pub not_here : (n : ℕ) → (vec_len item ≡ n → ⊥)
      → of_length (drop (i + 1) (lists inputs)) n ≡ of_length (drop i (lists inputs)) n
  not_here n differ = rw drop_item
      (ap (λ t. if t then Some item.items else of_length (drop (i + 1) (lists inputs)) n)
      (sym (ne_eqb (length item.items) n (λ f. differ (item.ok.0 ∙ f)))))

pub has_length : {E : Type 0} (words : List (List E)) (n : ℕ) (us : List E)
    → of_length words n ≡ Some us → length us ≡ n
has_length [] n us e = absurd cc
has_length (w ∷ ws) n us e = elim (eqb_tells (length w) n) [
  | inl (t, same) ↦
      let f = rw t at e in
      let g : w ≡ us = cc in
      ap length (sym g) ∙ same
  | inr (t, differ) ↦ has_length ws n us (rw t at e)
]

pub length_heights : {E : Type 0} (heights : List ℕ) (words : List (List E))
    → HaveHeights heights words → length heights ≡ length words
length_heights [] [] have = refl
length_heights [] (w ∷ ws) have = absurd have
length_heights (h ∷ hs) [] have = absurd have
length_heights (h ∷ hs) (w ∷ ws) have = ap suc (length_heights hs ws have.1)
