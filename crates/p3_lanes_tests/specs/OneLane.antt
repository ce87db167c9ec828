-- BabyBear again, on a type of its own.
use Rattle.std.specs.Prelude.{ℕ, zero, suc, ◌≡◌, ◌≢◌, ◌==◌, ◌↔◌, IsTrue, refl}
use Rattle.std.proofs.Common.{ap}
use Rattle.std.proofs.lemmas.Bool.Decides.{Decides-eqb}
use Rattle.algebra.specs.Field.{FieldOps, IsField, multiple}
use Rattle.algebra.specs.TwoAdic.{AreRoots}
use Rattle.p3_field.specs.declared.baby_bear.BabyBear.{BabyBear}
use Rattle.p3_field.specs.BabyBear.{baby_bear, element, root}
use Rattle.p3_field.specs.BabyBearLaws.{baby_bear_laws, baby_bear_roots, same_number}
use Rattle.p3_field.specs.BabyBearLaws.{zero_is, one_is, two_is, generator_is}
use Rattle.p3_lanes_tests.specs.declared.one_lane.OneLane.{OneLane}

abbrev pub one_lane_of : BabyBear → OneLane
one_lane_of x = record { value = x.value; canonical = x.canonical }

abbrev pub of_one_lane : OneLane → BabyBear
of_one_lane x = record { value = x.value; canonical = x.canonical }

unfoldable pub one_lane : FieldOps OneLane
one_lane = record {
  zero = one_lane_of baby_bear.zero;
  one = one_lane_of baby_bear.one;
  add = λ a b. one_lane_of (baby_bear.add (of_one_lane a) (of_one_lane b));
  mul = λ a b. one_lane_of (baby_bear.mul (of_one_lane a) (of_one_lane b));
  neg = λ a. one_lane_of (baby_bear.neg (of_one_lane a));
  inv = λ a. one_lane_of (baby_bear.inv (of_one_lane a));
}

abbrev pub one_lane_root : ℕ → OneLane
one_lane_root k = one_lane_of (root k)

pub one_lane_laws : IsField one_lane
unfolding one_lane
one_lane_laws = let L = baby_bear_laws in record {
  ring = record {
    add_assoc = λ a b c.
        ap one_lane_of (L.add_assoc (of_one_lane a) (of_one_lane b) (of_one_lane c));
    add_comm = λ a b. ap one_lane_of (L.add_comm (of_one_lane a) (of_one_lane b));
    add_zero = λ a. ap one_lane_of (L.add_zero (of_one_lane a));
    add_neg = λ a. ap one_lane_of (L.add_neg (of_one_lane a));
    mul_assoc = λ a b c.
        ap one_lane_of (L.mul_assoc (of_one_lane a) (of_one_lane b) (of_one_lane c));
    mul_comm = λ a b. ap one_lane_of (L.mul_comm (of_one_lane a) (of_one_lane b));
    mul_one = λ a. ap one_lane_of (L.mul_one (of_one_lane a));
    mul_add = λ a b c. ap one_lane_of (L.mul_add (of_one_lane a) (of_one_lane b) (of_one_lane c));
  };
  one_not_zero = λ e. L.one_not_zero (ap of_one_lane e);
  two_not_zero = λ e. L.two_not_zero (ap of_one_lane e);
  mul_inv = λ a n. ap one_lane_of (L.mul_inv (of_one_lane a) (λ e. n (ap one_lane_of e)));
  decided =
      λ a b. elim (L.decided (of_one_lane a) (of_one_lane b))
      [ yes e ↦ yes (ap one_lane_of e) | no n ↦ no (λ e. n (ap of_one_lane e)) ];
}

pub zero1_is : one_lane_of (element 0) ≡ one_lane.zero
unfolding one_lane
zero1_is = ap one_lane_of zero_is

pub one1_is : one_lane_of (element 1) ≡ one_lane.one
unfolding one_lane
one1_is = ap one_lane_of one_is

pub two1_is : one_lane_of (element 2) ≡ one_lane.add one_lane.one one_lane.one
unfolding one_lane
two1_is = ap one_lane_of two_is

pub generator1_is : one_lane_of (element 31) ≢ one_lane.zero
unfolding one_lane
generator1_is e = generator_is (ap of_one_lane e)

pub eq1_same : (x y : OneLane) → IsTrue (x.value == y.value) ↔ (x ≡ y)
eq1_same x y =
    let agree = Decides-eqb x.value y.value in (
      (λ t. ap one_lane_of (same_number _ _ (agree.0 t))),
      (λ e. agree.1 (ap (λ (z : OneLane). z.value) e)),
    )

pub one_lane_roots : AreRoots one_lane 27 one_lane_root
unfolding one_lane
one_lane_roots = let W = baby_bear_roots in record {
  first = ap one_lane_of W.first;
  minus_one = λ l. ap one_lane_of (W.minus_one l);
  square = λ k l. ap one_lane_of (W.square k l);
}

pub multiple1_is : (n : ℕ) → one_lane_of (multiple baby_bear n) ≡ multiple one_lane n
unfolding one_lane multiple
multiple1_is zero = refl
multiple1_is (suc n) =
    ap (λ (x : OneLane). one_lane_of (baby_bear.add (of_one_lane x) baby_bear.one)) (multiple1_is n)
