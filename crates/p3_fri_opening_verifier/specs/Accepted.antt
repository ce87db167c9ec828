-- What the scheme stands on.
use Rattle.std.specs.Prelude.{⊤}
use Rattle.algebra.specs.Folds.{fold_value}
use Rattle.p3_challenger_core.specs.Run.{Moves}
use Rattle.p3_fri_relation.specs.declared.error.FriError.{FriError}
use Rattle.p3_fri_relation.specs.declared.error.FriError.TheVariants.{NonCanonicalPowWitness}
use Rattle.p3_fri_relation.specs.Setting.{Fields, Opening, Setting}

-- the scheme folds two-adic words, and draws no bits of an index beside a position's
abbrev pub two_adic : {F E C Com Path InCom InPath : Type 0} → Fields F E → Moves C F E Com
    → Opening F InCom InPath → Opening E Com Path → Setting F E C Com Path InCom InPath
two_adic f m opens_input opens_round = record {
  fields = f;
  fold = fold_value f.ext (λ k. f.lift (f.root k));
  extra_bits = 0;
  moves = m;
  opens_input = opens_input;
  opens_round = opens_round;
}

-- the refusals that leave a verifier's challenger as it was
abbrev pub LeavesVerifier : {A B : Type 0} → FriError A B → Type 0
LeavesVerifier (NonCanonicalPowWitness phase) = ⊤
LeavesVerifier _ = ⊥
