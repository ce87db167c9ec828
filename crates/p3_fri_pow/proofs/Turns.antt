-- Steps without their labels, taken one after another.
use Rattle.std.proofs.Common.{◌≡◌, ℕ, zero, suc, ◌==◌, false, if◌then◌else◌, rules, List, [], ◌∷◌}
use Rattle.std.proofs.Common.{◌++◌, map, drop, refl, sym, ap, ◌∙◌, subst}
use Rattle.std.proofs.lemmas.Bool.Decides.{nat_tests}
use Rattle.p3_challenger_fs.specs.declared.pattern.Hierarchy.{Hierarchy}
use Rattle.p3_challenger_fs.specs.declared.pattern.Hierarchy.TheVariants.{Atomic}
use Rattle.p3_challenger_fs.specs.declared.pattern.Kind.{Kind}
use Rattle.p3_challenger_fs.specs.declared.pattern.Kind.TheVariants.{Pow}
use Rattle.p3_challenger_fs.specs.declared.pattern.TypeTag.{TypeTag}
use Rattle.p3_challenger_fs.specs.declared.pattern.TypeTag.TheVariants.{Algebra}
use Rattle.p3_challenger_fs.specs.declared.pattern.Length.{Length}
use Rattle.p3_challenger_fs.specs.declared.pattern.Length.TheVariants.{Fixed}
use Rattle.p3_challenger_fs.specs.declared.pattern.Turn.{Turn}
use Rattle.p3_challenger_fs.specs.Pattern.{Step, turn_of}
use Rattle.p3_challenger_fs.specs.Turns.{IsNext}
use Rattle.p3_fri_pow.specs.Steps.{pow_steps}
use Rattle.p3_fri_pow.specs.Pow.{pow_turns}

-- the first of the steps that are left
pub next_of : (hierarchy : Hierarchy) (kind : Kind) (type_tag : TypeTag) (number : Length) (left rest : List Turn)
    → left ≡ record { hierarchy = hierarchy; kind = kind; type_tag = type_tag; length = number } ∷ rest → IsNext hierarchy kind type_tag number left
next_of hierarchy kind type_tag number left rest is =
    let P : List Turn → Type 0 = λ turns. IsNext hierarchy kind type_tag number turns in subst P (sym is) refl

-- the steps after it
pub rest_of : (t : Turn) (left rest after : List Turn) → left ≡ t ∷ rest → after ≡ drop 1 left
    → after ≡ rest
rest_of t left rest after is dropped = dropped ∙ ap (drop 1) is

suc_is_some : (n : ℕ) → (suc n == 0) ≡ false
suc_is_some n = search (rules, nat_tests)

-- a proof of work and what follows it
pub pow_turns-of : (label : List ℕ) (bits : ℕ) (others : List Step)
    → map turn_of (pow_steps label bits ++ others) ≡ pow_turns bits ++ map turn_of others
pow_turns-of label zero others = refl
pow_turns-of label (suc n) others =
    ap (λ none. (if none then [] else record { hierarchy = Atomic; kind = Pow; type_tag = Algebra 1; length = Fixed (suc n) } ∷ []) ++ map turn_of others) (sym (suc_is_some n))
