-- Two meanings of nodes that are related kind by kind are related node by node.
use Rattle.std.proofs.Common.{ℕ, zero, suc, List, [], ◌∷◌, ◌++◌, get_or}
use Rattle.std.specs.List.{AllZip}
use Rattle.algebra.proofs.Lists.{all_zip-push}
use Rattle.p3_air.specs.declared.air.Node.{Node}
use Rattle.p3_air.specs.declared.air.Node.TheVariants.{Constant, Local, Next, Preprocessed}
use Rattle.p3_air.specs.declared.air.Node.TheVariants.{PreprocessedNext, Public, Periodic}
use Rattle.p3_air.specs.declared.air.Node.TheVariants.{Add, Sub, Mul, Neg}
use Rattle.p3_air.specs.Nodes.{Meaning, node_meaning, meanings_after, meanings}

module _ {V B C : Type 0} (m : Meaning V B) (l : Meaning V C) (R : B → C → Type 0) where
  pub record AreRelated : Type 0 where
    pub constant : (v : V) → R (m.constant v) (l.constant v)
    pub local : (i : ℕ) → R (m.local i) (l.local i)
    pub next : (i : ℕ) → R (m.next i) (l.next i)
    pub preprocessed : (i : ℕ) → R (m.preprocessed i) (l.preprocessed i)
    pub preprocessed_next : (i : ℕ) → R (m.preprocessed_next i) (l.preprocessed_next i)
    pub public_value : (i : ℕ) → R (m.public_value i) (l.public_value i)
    pub periodic : (i : ℕ) → R (m.periodic i) (l.periodic i)
    pub add : (a b : B) (c d : C) → R a c → R b d → R (m.add a b) (l.add c d)
    pub sub : (a b : B) (c d : C) → R a c → R b d → R (m.sub a b) (l.sub c d)
    pub mul : (a b : B) (c d : C) → R a c → R b d → R (m.mul a b) (l.mul c d)
    pub neg : (a : B) (c : C) → R a c → R (m.neg a) (l.neg c)
    pub none : R m.none l.none

  related_entry : (bs : List B) (cs : List C) (i : ℕ) (b : B) (c : C) → AllZip R bs cs → R b c
      → R (get_or bs i b) (get_or cs i c)
  related_entry [] [] i b c all r = r
  related_entry [] (y ∷ cs) i b c all r = absurd all
  related_entry (x ∷ bs) [] i b c all r = absurd all
  related_entry (x ∷ bs) (y ∷ cs) zero b c all r = all.0
  related_entry (x ∷ bs) (y ∷ cs) (suc i) b c all r = related_entry bs cs i b c all.1 r

  related_node : AreRelated → (bs : List B) (cs : List C) → AllZip R bs cs → (node : Node V)
      → R (node_meaning m bs node) (node_meaning l cs node)
  related_node r bs cs all (Constant value) = r.constant value
  related_node r bs cs all (Local column) = r.local column
  related_node r bs cs all (Next column) = r.next column
  related_node r bs cs all (Preprocessed column) = r.preprocessed column
  related_node r bs cs all (PreprocessedNext column) = r.preprocessed_next column
  related_node r bs cs all (Public index) = r.public_value index
  related_node r bs cs all (Periodic column) = r.periodic column
  related_node r bs cs all (Add a b) =
      r.add (get_or bs a m.none) (get_or bs b m.none) (get_or cs a l.none) (get_or cs b l.none)
      (related_entry bs cs a m.none l.none all r.none)
      (related_entry bs cs b m.none l.none all r.none)
  related_node r bs cs all (Sub a b) =
      r.sub (get_or bs a m.none) (get_or bs b m.none) (get_or cs a l.none) (get_or cs b l.none)
      (related_entry bs cs a m.none l.none all r.none)
      (related_entry bs cs b m.none l.none all r.none)
  related_node r bs cs all (Mul a b) =
      r.mul (get_or bs a m.none) (get_or bs b m.none) (get_or cs a l.none) (get_or cs b l.none)
      (related_entry bs cs a m.none l.none all r.none)
      (related_entry bs cs b m.none l.none all r.none)
  related_node r bs cs all (Neg a) = r.neg (get_or bs a m.none) (get_or cs a l.none)
      (related_entry bs cs a m.none l.none all r.none)

  related_after : AreRelated → (bs : List B) (cs : List C) → AllZip R bs cs
      → (nodes : List (Node V)) → AllZip R (meanings_after m bs nodes) (meanings_after l cs nodes)
  related_after r bs cs all [] = all
  related_after r bs cs all (node ∷ nodes) =
      let b = node_meaning m bs node in
      let c = node_meaning l cs node in
      related_after r (bs ++ b ∷ []) (cs ++ c ∷ [])
      (all_zip-push R bs cs b c all (related_node r bs cs all node)) nodes

  -- what is looked up, also past the end
  pub related : AreRelated → (nodes : List (Node V)) (i : ℕ)
      → R (get_or (meanings m nodes) i m.none) (get_or (meanings l nodes) i l.none)
  related r nodes i = related_entry (meanings m nodes) (meanings l nodes) i m.none l.none
      (related_after r [] [] tt nodes) r.none
