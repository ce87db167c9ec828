use Rattle.std.proofs.Common.{ℕ, ◌+◌, ◌%◌, ◌<◌, Fits, w64, ◌∙◌, arith}
use Rattle.std.proofs.lemmas.Simd.{Each2-of}
use Rattle.std.proofs.Math.Facts.{Fits-of_lt}
use Rattle.p3_lanes.proofs.LaneLists.{each_zip2, map_zip2}
use Rattle.p3_lanes.proofs.sums.Goals as goal

abbrev Below : ℕ → Type 0
Below n = n < 2013265921

pub overflow_add-a : goal.overflow_add-a
overflow_add-a c =
    Each2-of Below Below (λ x y. Fits w64 (x + y)) (λ x y l m. Fits-of_lt {w = w64} {n = x + y} (omega (arith, l, m))) c.args.a c.args.b c.requires.a c.requires.b

pub reduced_once-requires : goal.reduced_once-requires
reduced_once-requires c =
    each_zip2 Below Below (λ n. n < 4026531842) (λ x y. x + y) (λ x y l m. omega (arith, l, m)) c.args.a c.args.b c.requires.a c.requires.b

pub returns : goal.returns
returns c = c.reduced_once.ensures ∙ map_zip2 (λ n. n % 2013265921) (λ x y. x + y) c.args.a c.args.b
