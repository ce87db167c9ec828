-- Systems that gained something, and such that gave it back.
use Rattle.std.proofs.Common.{◌≡◌, ℕ, ◌+◌, pred, List, [], ◌∷◌, ◌++◌, length, take, true, false}
use Rattle.std.proofs.Common.{Result, Ok, Err, sym, subst, ap, ap₂, ◌∙◌, arith}
use Rattle.std.proofs.Math.Seq.{take-append_seam}
use Rattle.std.specs.Bool.{if◌then◌else◌}
use Rattle.std.specs.Result.{OnOk, OnErr, is_ok, is_err}
use Rattle.p3_air.specs.declared.air.Air.{Air}
use Rattle.p3_air.specs.declared.air.Constraint.{Constraint}
use Rattle.p3_air.specs.declared.air.Node.{Node}
use Rattle.p3_air.specs.declared.air.Rows.{Rows}
use Rattle.p3_air.specs.Built.{IsSame, GainsNode, GainsConstraint, GainsZero}

-- what is said of an outcome, where a test found that it is one
pub when_err : {T E P : Type 0} (r : Result T E) → true ≡ is_err r → OnErr r P → P
when_err (Ok x) e h = cc
when_err (Err e) is h = h

pub when_ok : {T E P : Type 0} (r : Result T E) → false ≡ is_err r → OnOk r P → P
when_ok (Ok x) e h = h
when_ok (Err e) is h = cc

pub kept_when_ok : {T E A : Type 0} (r : Result T E) (x y z : A) → false ≡ is_err r
    → x ≡ (if is_ok r then y else z) → x ≡ y
kept_when_ok (Ok v) x y z e h = h
kept_when_ok (Err v) x y z e h = cc

module _ {V : Type 0} (old grown : Air V) (number : ℕ) (node : Node V)
    (gains : GainsNode old grown number node) where
  -- back to the nodes that there were
  pub undone : (tried new : Air V) (count : ℕ) → count ≡ length old.nodes.items
      → IsSame grown tried → new.layout ≡ tried.layout
      → new.nodes.items ≡ take count tried.nodes.items
      → new.constraints.items ≡ tried.constraints.items → IsSame old new
  undone tried new count counted same layout nodes constraints = record {
    layout = layout ∙ same.layout ∙ gains.layout;
    nodes = nodes ∙ ap₂ take counted (same.nodes ∙ gains.nodes)
        ∙ take-append_seam old.nodes.items (node ∷ []);
    constraints = constraints ∙ same.constraints ∙ gains.constraints;
  }

  module _ (new : Air V) (rows : Rows) where
    -- the node has to be zero
    pub node_zero : GainsConstraint grown new rows number → GainsZero old new rows (node ∷ [])
    node_zero zero_on =
        let place : number ≡ length old.nodes.items + 0 = omega (arith, gains.number_is) in
        let asserted : ℕ → List Constraint = λ n. record { rows = rows; node = n } ∷ [] in
        record {
          layout = zero_on.layout ∙ gains.layout;
          nodes = zero_on.nodes ∙ gains.nodes;
          constraints = zero_on.constraints
              ∙ ap₂ (λ cs n. cs ++ asserted n) gains.constraints place;
        }
