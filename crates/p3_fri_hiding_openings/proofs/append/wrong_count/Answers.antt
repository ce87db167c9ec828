use Rattle.std.proofs.Common.{◌≡◌, vec_len, All, subst, ap, arith}
use Rattle.std.proofs.lemmas.List.{take_all}
use Rattle.std.proofs.lemmas.List.Elements.{All-more}
use Rattle.p3_fri_hiding_openings.proofs.Places.{lists_of_length}
use Rattle.p3_fri_hiding_openings.proofs.append.wrong_count.Goals as goal

pub loop-point-preserved : goal.loop-point-preserved
loop-point-preserved g c =
    All-more (λ vector. vec_len vector ≡ c.args.expected) c.args.random.now
    c.loop-point.point c.index-random-point.result c.loop-point-test.true c.loop-point.invariant
    (omega (arith, ap vec_len c.index-random-point.is, c.len.ensures))

pub returns : goal.returns
returns g c = lists_of_length c.args.expected c.args.random.now
    (subst (All (λ vector. vec_len vector ≡ c.args.expected))
    (take_all c.loop-point.point c.args.random.now (omega arith)) c.loop-point.invariant)
