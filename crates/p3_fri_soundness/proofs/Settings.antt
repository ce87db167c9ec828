-- Two-adic fields make a setting in which rows are folded as polynomials.
use Rattle.std.proofs.Common.{ℕ, refl}
use Rattle.algebra.proofs.Lifting.{homomorphism-nonzero}
use Rattle.algebra.proofs.Points.{lifted_roots}
use Rattle.p3_challenger_core.specs.Run.{Moves}
use Rattle.p3_fri_relation.specs.Setting.{Fields, Opening}
use Rattle.p3_fri_soundness.specs.Soundness.{IsPolynomialSetting}
use Rattle.p3_fri_soundness.specs.Laws.{AreTwoAdicFields, setting}

pub polynomial_setting : {F E C Com Path InCom InPath : Type 0} (f : Fields F E) (extra_bits : ℕ)
    (moves : Moves C F E Com) (opens_input : Opening F InCom InPath)
    (opens_round : Opening E Com Path) → AreTwoAdicFields f
    → IsPolynomialSetting
    (setting F E C Com Path InCom InPath f extra_bits moves opens_input opens_round)
polynomial_setting f extra_bits moves opens_input opens_round laws = record {
  field = laws.ext;
  folds = record {
    base_ring = laws.base.ring;
    ext_ring = laws.ext.ring;
    lift = laws.lifts;
    fold = refl;
  };
  roots = lifted_roots f.base f.ext f.lift laws.base laws.ext laws.lifts f.two_adicity f.root
      laws.roots;
  shift = homomorphism-nonzero f.base f.ext f.lift laws.base laws.ext laws.lifts f.shift laws.shift;
}
