-- Meanings of nodes, one node more, and at the end.
use Rattle.std.proofs.Common.{◌≡◌, ℕ, ◌+◌, ◌<◌, ◌≤◌, List, [], ◌∷◌, ◌++◌, length, drop, get_or}
use Rattle.std.proofs.Common.{refl, sym, ap, ◌∙◌, arith, subst, All}
use Rattle.std.proofs.lemmas.List.{at_drop_more, at_drop_all, length_push}
use Rattle.std.proofs.lemmas.List.{get_or_append_left, get_or_push}
use Rattle.p3_air.specs.declared.air.Constraint.{Constraint}
use Rattle.p3_air.specs.declared.air.Node.{Node}
use Rattle.p3_air.specs.Nodes.{Meaning, node_meaning, meanings_after, meanings}

module _ {V B : Type 0} (m : Meaning V B) where
  -- those before stay
  pub meanings_keep : (earlier : List B) (nodes : List (Node V)) (k : ℕ) (d : B)
      → k < length earlier → get_or (meanings_after m earlier nodes) k d ≡ get_or earlier k d
  meanings_keep earlier [] k d l = refl
  meanings_keep earlier (node ∷ nodes) k d l =
      let value = node_meaning m earlier node in
      let grown : k < length (earlier ++ value ∷ []) =
      omega (arith, l, length_push earlier value) in
      meanings_keep (earlier ++ value ∷ []) nodes k d grown ∙ get_or_append_left earlier (value ∷ []) d k l

  pub length_meanings_after : (earlier : List B) (nodes : List (Node V))
      → length (meanings_after m earlier nodes) ≡ length earlier + length nodes
  length_meanings_after earlier [] = omega arith
  length_meanings_after earlier (node ∷ nodes) =
      let value = node_meaning m earlier node in
      let step = length_meanings_after (earlier ++ value ∷ []) nodes in
      omega (arith, step, length_push earlier value)

  pub length_meanings : (nodes : List (Node V)) → length (meanings m nodes) ≡ length nodes
  length_meanings nodes = length_meanings_after [] nodes ∙ (omega arith)

  module _ (nodes : List (Node V)) where
    -- one node more
    pub meanings_next : (k : ℕ) (earlier new : List B) (node : Node V) (value : B)
        → k < length nodes → node ≡ get_or nodes k node → value ≡ node_meaning m earlier node
        → new ≡ earlier ++ value ∷ []
        → meanings_after m earlier (drop k nodes) ≡ meanings m nodes
        → meanings_after m new (drop (k + 1) nodes) ≡ meanings m nodes
    meanings_next k earlier new node value l is e grown h =
        ap (λ xs. meanings_after m xs (drop (k + 1) nodes)) (grown
        ∙ ap (λ v. earlier ++ v ∷ []) (e ∙ ap (λ n. node_meaning m earlier n) is))
        ∙ sym (at_drop_more (λ ns. meanings_after m earlier ns) nodes k node l) ∙ h

    -- all nodes
    pub meanings_end : (k : ℕ) (earlier : List B) → length nodes ≤ k
        → meanings_after m earlier (drop k nodes) ≡ meanings m nodes → earlier ≡ meanings m nodes
    meanings_end k earlier end h =
        sym (at_drop_all (λ ns. meanings_after m earlier ns) nodes k end) ∙ h

    -- what the next node means is among all meanings
    pub meaning_at : (k : ℕ) (earlier : List B) (node : Node V) (d : B) → k < length nodes
        → node ≡ get_or nodes k node → length earlier ≡ k
        → meanings_after m earlier (drop k nodes) ≡ meanings m nodes
        → get_or (meanings m nodes) k d ≡ node_meaning m earlier node
    meaning_at k earlier node d l is long h =
        let value = node_meaning m earlier node in
        let more = meanings_next k earlier (earlier ++ value ∷ []) node value l is refl refl h in
        let within : k < length (earlier ++ value ∷ []) =
        omega (arith, long, length_push earlier value) in
        ap (λ ms. get_or ms k d) (sym more)
        ∙ meanings_keep (earlier ++ value ∷ []) (drop (k + 1) nodes) k d within
        ∙ get_or_push earlier value d k long

-- constraints name values, where they name nodes of which there are as many
pub nodes_valued : {V : Type 0} (values : List V) (given constraints : List Constraint) (count : ℕ)
    → length values ≡ count → given ≡ constraints → All (λ c. c.node < count) constraints
    → All (λ c. c.node < length values) given
nodes_valued values given constraints count long same named k d l =
    let named_there : (get_or constraints k d).node < count =
    named k d (subst (λ cs. k < length cs) same l) in
    subst (λ cs. (get_or cs k d).node < length values) (sym same)
    (omega (arith, named_there, long))
