use Rattle.std.proofs.Common.{All, subst, sym, ap, ◌∙◌}
use Rattle.std.specs.List.{AllZip}
use Rattle.p3_pcs.specs.Claims.{opened_values}
use Rattle.p3_field.specs.baby_bear.BabyBear.{BabyBear}
use Rattle.p3_field.specs.baby_bear4.BabyBear4.{BabyBear4}
use Rattle.p3_field.specs.BabyBear.{baby_bear, root, element}
use Rattle.p3_field.specs.BabyBear4.{baby_bear4, lift4, coefficients4}
use Rattle.p3_fri_relation.specs.Setting.{Fields}
use Rattle.p3_fri_openings.specs.Denominators.{ArePointsCovered}
use Rattle.p3_fri_batch.specs.Rounds.{HaveValues}
use Rattle.p3_fri_batch.proofs.Honest.{rounds_have_values}
use Rattle.p3_fri_openings_tests.proofs.rounds.open.Goals as goal

pub batch_words-words-requires-clause-values : goal.batch_words-words-requires-clause-values
batch_words-words-requires-clause-values g c =
    let f : Fields BabyBear BabyBear4 = record {
      base = baby_bear;
      ext = baby_bear4;
      lift = lift4;
      coefficients = coefficients4;
      degree = 4;
      root = root;
      two_adicity = 27;
      shift = element 31;
    } in
    let opened = rw c.expect-values.ensures at c.open_values.ensures in
    subst (λ values. AllZip HaveValues c.args.rounds.now values)
    (sym (ap opened_values c.deref.ensures.value ∙ opened))
    (rounds_have_values f 1 c.args.rounds.now)

pub batch_words-words-requires-clause-covered : goal.batch_words-words-requires-clause-covered
batch_words-words-requires-clause-covered g c =
    let covered = rw c.expect-denominators.ensures at c.denominators_of_rounds.ensures.covered in
    subst (λ table. All (ArePointsCovered table) c.args.rounds.now) (sym c.deref-2.ensures.value)
    covered
