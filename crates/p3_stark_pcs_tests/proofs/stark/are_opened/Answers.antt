use Rattle.p3_stark_pcs_tests.proofs.Domains.{sizes_once}
use Rattle.p3_stark_pcs_tests.proofs.stark.are_opened.Goals as goal

pub open_stark_columns-opened-requires-clause-preprocessed :
    goal.open_stark_columns-opened-requires-clause-preprocessed
open_stark_columns-opened-requires-clause-preprocessed g c =
    (g.met.P.Tested.room_law c.args.scheme c.requires.tested).commit _
    c.stark_columns-columns.ensures.preprocessed

pub open_stark_columns-opened-requires-clause-trace :
    goal.open_stark_columns-opened-requires-clause-trace
open_stark_columns-opened-requires-clause-trace g c =
    (g.met.P.Tested.room_law c.args.scheme c.requires.tested).commit _
    c.stark_columns-columns.ensures.trace

pub open_stark_columns-opened-requires-clause-quotient :
    goal.open_stark_columns-opened-requires-clause-quotient
open_stark_columns-opened-requires-clause-quotient g c =
    (g.met.P.Tested.room_law c.args.scheme c.requires.tested).extend _ _
    c.stark_columns-columns.ensures.quotient

pub open_stark_columns-opened-requires-clause-quotient_domains :
    goal.open_stark_columns-opened-requires-clause-quotient_domains
open_stark_columns-opened-requires-clause-quotient_domains g c =
    sizes_once _ g.met.P.Tested.hides_nothing_law _ _ _
    c.stark_columns-columns.ensures.quotient_domains

pub open_stark_columns-opened-requires-clause-random :
    goal.open_stark_columns-opened-requires-clause-random
open_stark_columns-opened-requires-clause-random g c = λ hides.
    (g.met.P.Tested.room_law c.args.scheme c.requires.tested).randomize _
