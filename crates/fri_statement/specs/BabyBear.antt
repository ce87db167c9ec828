-- What statements and schemes say, at BabyBear and its extension of degree 4.
use Rattle.std.specs.Prelude.{ℕ, List, map}
use Rattle.std.specs.declared.vec.Vec.{Vec}
use Rattle.p3_baby_bear.specs.declared.baby_bear.BabyBear.{BabyBear}
use Rattle.p3_baby_bear.specs.declared.baby_bear4.BabyBear4.{BabyBear4}
use Rattle.p3_baby_bear.specs.BabyBear.{baby_bear, element, root, number_bytes}
use Rattle.p3_baby_bear.specs.BabyBear4.{baby_bear4, lift4, coefficients4, of_coefficients4}
use Rattle.p3_baby_bear.specs.BabyBear4.{coefficient_bytes}
use Rattle.p3_challenger_core.specs.Run.{Moves}
use Rattle.p3_challenger_sha256.specs.declared.sha256_challenger.Sha256Challenger.{Sha256Challenger}
use Rattle.p3_fri_relation.specs.Setting as relation
use Rattle.fri_statement.specs.Context as context
use Rattle.fri_statement.specs.Numbers.{PrimeFields}
use Rattle.fri_statement.specs.Setting as scheme
use Rattle.fri_statement.specs.Statement as statement
use Rattle.fri_statement.specs.Statement.{Statement}

-- the one number below the order
abbrev pub canonical_number : BabyBear → ℕ
canonical_number x = x.value

-- those of the coefficients, that of one first
abbrev pub coefficient_numbers : BabyBear4 → List ℕ
coefficient_numbers x = map canonical_number (coefficients4 x)

abbrev pub fields : relation.Fields BabyBear BabyBear4
fields = record {
  base = baby_bear;
  ext = baby_bear4;
  lift = lift4;
  coefficients = coefficients4;
  degree = 4;
  root = root;
  two_adicity = 27;
  shift = element 31;
}

abbrev pub baby_bear_fields : scheme.SchemeFields BabyBear BabyBear4
baby_bear_fields = record {
  relation = fields;
  order = 2013265921;
  canonical = canonical_number;
  of_coefficients = of_coefficients4;
  bytes = number_bytes;
  extension_bytes = coefficient_bytes;
}

abbrev pub prime_fields : PrimeFields BabyBear BabyBear4
prime_fields = scheme.prime_fields baby_bear_fields

abbrev pub sha256_moves : Moves (Sha256Challenger BabyBear) BabyBear BabyBear4 (List ℕ)
sha256_moves = scheme.sha256_moves prime_fields

abbrev pub sha256_setting : {X Y : Type 0} → relation.Setting BabyBear BabyBear4
    (Sha256Challenger BabyBear) (List ℕ) (Vec (Vec (List ℕ) X) Y) (List ℕ)
    (Vec (Vec (List ℕ) X) Y)
sha256_setting = scheme.sha256_setting baby_bear_fields

abbrev pub statement_absorbed : Sha256Challenger BabyBear → Statement → Sha256Challenger BabyBear
statement_absorbed = statement.statement_absorbed 2013265921 canonical_number baby_bear

abbrev pub challenge_of : List ℕ → BabyBear4
challenge_of = context.challenge_of prime_fields
