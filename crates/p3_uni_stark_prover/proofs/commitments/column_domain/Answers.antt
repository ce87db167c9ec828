use Rattle.std.proofs.Common.{◌≡◌, ◌<◌, ◌≤◌, ◌+◌, ◌∷◌, [], ◌∙◌, ap, arith}
use Rattle.p3_uni_stark_verifier.specs.Chunks.{hiding_bits}
use Rattle.p3_uni_stark_prover.proofs.commitments.column_domain.Given.{Over}
use Rattle.p3_uni_stark_prover.proofs.commitments.column_domain.Goals.{After-subgroup}
use Rattle.p3_uni_stark_prover.proofs.commitments.column_domain.Goals as goal

pub with_hiding-log_size-requires : goal.with_hiding-log_size-requires
with_hiding-log_size-requires g c =
    let room = c.requires.room in
    let few = g.met.F.TwoAdicField.two_adicity_law in
    let small : c.args.log_height < 64 = omega (arith, room, few) in
    omega (arith, small)

-- the domain is as large as columns of these rows ask for
sized : (g : Over) (c : After-subgroup g)
    → c.subgroup.result.log_size ≡ c.args.log_height + hiding_bits g.P.UnivariateStarkPcs.ZK
sized g c = c.subgroup.ensures.size ∙ c.with_hiding-log_size.ensures
    ∙ ap (λ b. c.args.log_height + hiding_bits b) c.ZK.ensures

pub returns-clause-shift : goal.returns-clause-shift
returns-clause-shift g c = c.subgroup.ensures.shift ∙ g.met.F.Field.one_law

pub returns-clause-size : goal.returns-clause-size
returns-clause-size g c = sized g (goal.at.returns-clause-size g c).After-subgroup

pub returns-clause-committable : goal.returns-clause-committable
returns-clause-committable g c =
    let room = c.requires.room in
    let most : c.args.log_height + (0 + hiding_bits g.P.UnivariateStarkPcs.ZK)
    ≤ g.F.TwoAdicField.TWO_ADICITY = omega (arith, room) in
    (g.met.P.TwoAdicStarkPcs.room_law c.args.scheme.now c.args.log_height 0 most room).trace
    c.subgroup.result c.args.trace.now
    (sized g (goal.at.returns-clause-committable g c).After-subgroup) c.requires.height

pub returns-clause-randomizable : goal.returns-clause-randomizable
returns-clause-randomizable g c first second twice once =
    let room = c.requires.room in
    let most : c.args.log_height + (0 + hiding_bits g.P.UnivariateStarkPcs.ZK)
    ≤ g.F.TwoAdicField.TWO_ADICITY = omega (arith, room) in
    let law = g.met.P.UnivariateStarkPcs.keeps_stark_law in
    let domains = c.subgroup.result ∷ [] in
    (law first second twice).randomizable domains
    ((law c.args.scheme.now first once).randomizable domains
    ((g.met.P.TwoAdicStarkPcs.room_law c.args.scheme.now c.args.log_height 0 most room).random
    c.subgroup.result (sized g (goal.at.returns-clause-randomizable g c).After-subgroup)))
