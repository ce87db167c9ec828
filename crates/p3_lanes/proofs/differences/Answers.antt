use Rattle.std.proofs.Common.{◌≡◌, ℕ, ◌+◌, ◌-◌, ◌%◌, ◌<◌, ◌≤◌, List, length, map, Fits, w64, ap, ◌∙◌, arith}
use Rattle.std.specs.Prelude.{replicate}
use Rattle.std.specs.Simd.Lanes.{zip2}
use Rattle.std.proofs.lemmas.Simd.{Each2-of}
use Rattle.std.proofs.Math.Facts.{Fits-of_lt}
use Rattle.p3_lanes.proofs.LaneLists.{each_map, each_zip2, map_zip2, zip2_map_right, modulus_less}
use Rattle.p3_lanes.proofs.differences.Goals as goal

abbrev Below : ℕ → Type 0
Below n = n < 2013265921

pub overflow_add-a : goal.overflow_add-a
overflow_add-a c =
    rw (modulus_less c.args.b (omega arith))
    (Each2-of Below (λ m. m ≤ 2013265921) (λ x m. Fits w64 (x + m)) (λ x m l k. Fits-of_lt {w = w64} {n = x + m} (omega (arith, l, k))) c.args.a (map (λ n. 2013265921 - n) c.args.b) c.requires.a
    (each_map Below (λ m. m ≤ 2013265921) (λ n. 2013265921 - n) (λ n l. omega arith) c.args.b c.requires.b))

-- the sums that are reduced
rests : (xs ys : List ℕ) → length ys ≡ 8
    → zip2 (λ x y. x + y) xs (zip2 (λ n m. n - m) (replicate 8 2013265921) ys)
    ≡ zip2 (λ x y. x + (2013265921 - y)) xs ys
rests xs ys e =
    ap (λ ms. zip2 (λ x y. x + y) xs ms) (modulus_less ys e)
    ∙ zip2_map_right (λ x y. x + y) (λ n. 2013265921 - n) xs ys

pub reduced_once-requires : goal.reduced_once-requires
reduced_once-requires c =
    rw (rests c.args.a c.args.b (omega arith))
    (each_zip2 Below Below (λ n. n < 4026531842) (λ x y. x + (2013265921 - y)) (λ x y l m. omega (arith, l)) c.args.a c.args.b c.requires.a c.requires.b)

pub returns : goal.returns
returns c =
    c.reduced_once.ensures ∙ ap (λ ns. map (λ n. n % 2013265921) ns) (rests c.args.a c.args.b (omega arith))
    ∙ map_zip2 (λ n. n % 2013265921) (λ x y. x + (2013265921 - y)) c.args.a c.args.b
