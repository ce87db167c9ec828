use Rattle.p3_field_core.specs.Coset.{coset_point}
use Rattle.p3_periodic.specs.Values.{IsColumnValue}
use Rattle.p3_fri_hiding_openings.proofs.Tabulated.{tabulated_by_sizes}
use Rattle.p3_fri_hiding.proofs.univariate.HidingFriPcsUnivariateStarkPcs.build_periodic_lde_table.Goals as goal

pub returns-clause-table : goal.returns-clause-table
returns-clause-table g c =
    tabulated_by_sizes c.args.trace_domain.log_size c.args.quotient_domain.log_size c.requires.larger
    c.args.periodic_table.now
    (λ index. IsColumnValue g.F.Field.ops g.F.TwoAdicField.root c.args.trace_domain.log_size
    (coset_point g.F.Field.ops (g.F.TwoAdicField.root c.args.quotient_domain.log_size)
    c.args.quotient_domain.shift index))
    c.build_periodic_lde_table_two_adic.result c.build_periodic_lde_table_two_adic.ensures.table
