use Rattle.std.specs.Prelude.{MatchOption}
use Rattle.std.proofs.lemmas.Result.{IfOk-weaker}
use Rattle.algebra.specs.Nested.{lists}
use Rattle.p3_mmcs_binding.specs.Collisions.{IsCollision, Collides}
use Rattle.p3_mmcs_binding.proofs.Ways.{collide, some_answered}
use Rattle.p3_mmcs_binding.proofs.collision.find_collision.Goals as goal

pub returns-clause-found : goal.returns-clause-found
returns-clause-found g c =
    let bytes = g.T.ElementBytes.bytes in
    let set = lists c.args.rows.now in
    let other = lists c.args.other.now in
    let collides = Collides bytes c.args.index set c.args.path.now other c.args.other_path.now in
    IfOk-weaker c.first_collision.result
    (λ found. MatchOption found (¬ collides) (λ m. IsCollision m.first.items m.second.items)) _
    (λ found exact commitment dims first second differ.
    some_answered collides (λ m. IsCollision m.first.items m.second.items) found exact
    (collide bytes g.T.ElementBytes.LEN g.met.T.ElementBytes.bytes_length
    g.met.T.ElementBytes.bytes_injective commitment dims c.args.index set c.args.path.now other
    c.args.other_path.now first second differ))
    c.first_collision.ensures
