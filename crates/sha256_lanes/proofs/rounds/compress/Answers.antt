use Rattle.std.proofs.Common.{◌≡◌, ◌*◌, refl, ap, ◌∙◌, arith}
use Rattle.sha2.specs.Sha256.{add_state, compress}
use Rattle.sha256_lanes.specs.Hash.{lane_hash}
use Rattle.sha256_lanes.proofs.Windows.{added, begins, later_at}
use Rattle.sha256_lanes.proofs.rounds.compress.Goals as goal

pub turns-init : goal.turns-init
turns-init c = λ block lane lt holds.
    let hash = lane_hash c.args.state lane in
    let none = begins block hash lane c.args.window.now c.args.state (omega arith) holds refl in
    let four = c.four_block_rounds-v.ensures block hash lane lt none in
    let eight = c.four_block_rounds-v-2.ensures block hash lane lt four in
    let twelve = c.four_block_rounds-v-3.ensures block hash lane lt eight in
    c.four_block_rounds-v-4.ensures block hash lane lt twelve

pub turns-preserved : goal.turns-preserved
turns-preserved c = λ block lane lt holds.
    let hash = lane_hash c.args.state lane in
    let none = c.turns.invariant block lane lt holds in
    let four = c.four_schedule_rounds-v.ensures block hash lane lt (later_at block hash lane _ _ _ _ (omega arith) none) in
    let eight = c.four_schedule_rounds-v-in-turns.ensures block hash lane lt (later_at block hash lane _ _ _ _ (omega arith) four) in
    let twelve = c.four_schedule_rounds-v-in-turns-2.ensures block hash lane lt (later_at block hash lane _ _ _ _ (omega arith) eight) in
    let sixteen = c.four_schedule_rounds-v-in-turns-3.ensures block hash lane lt (later_at block hash lane _ _ _ _ (omega arith) twelve) in
    later_at block hash lane _ _ _ _ (omega arith) sixteen

pub returns : goal.returns
unfolding compress
returns c = λ block lane lt holds.
    let done : 16 * c.turns.turn ≡ 64 = omega (arith, c.turns.auto.turn-end (omega arith)) in
    let held = later_at block (lane_hash c.args.state lane) lane _ _ _ _ done (c.turns.invariant block lane lt holds) in
    added (lane_hash c.args.state lane) (lane_hash c.turns.v lane) (c.sum.ensures lane lt) (c.sum-2.ensures lane lt)
    (c.sum-3.ensures lane lt) (c.sum-4.ensures lane lt) (c.sum-5.ensures lane lt) (c.sum-6.ensures lane lt)
    (c.sum-7.ensures lane lt) (c.sum-8.ensures lane lt)
    ∙ ap (add_state (lane_hash c.args.state lane)) held.variables
