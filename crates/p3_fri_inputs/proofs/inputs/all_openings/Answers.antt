use Rattle.std.proofs.Common.{ap, ◌∙◌}
use Rattle.algebra.specs.Nested.{lists}
use Rattle.p3_fri_relation.specs.Heights.{matrices_of}
use Rattle.p3_fri_relation.specs.Views.{claims_of}
use Rattle.p3_fri_inputs.proofs.Assembly.{readable}
use Rattle.p3_fri_inputs.proofs.inputs.all_openings.Goals as goal

pub openings_by_query-requires-clause-readable : goal.openings_by_query-requires-clause-readable
openings_by_query-requires-clause-readable g c =
    let s = c.args.setting.now in
    readable s.log_blowup s.log_global_max_height c.greatest_width.result
    c.in_ok-ladder.ladder.powers.len
    (matrices_of (claims_of (λ domain. domain.log_size) s.claims.now))
    c.in_ok-ladder.ensures.width c.requires.heights c.requires.points c.greatest_width.ensures

pub openings_by_query-requires-clause-rows : goal.openings_by_query-requires-clause-rows
openings_by_query-requires-clause-rows g c = c.requires.rows

pub openings_by_query-requires-clause-combined : goal.openings_by_query-requires-clause-combined
openings_by_query-requires-clause-combined g c = ap lists c.deref.ensures.value ∙ c.in_ok-combined.ensures

pub openings_by_query-requires-clause-inverses : goal.openings_by_query-requires-clause-inverses
openings_by_query-requires-clause-inverses g c = c.requires.inverses

pub openings_by_query-requires-clause-heights : goal.openings_by_query-requires-clause-heights
openings_by_query-requires-clause-heights g c = c.deref-2.ensures.value ∙ c.in_ok-heights.ensures

pub returns : goal.returns
returns g c = rw c.in_ok-ladder.ensures.alpha at c.openings_by_query.ensures
