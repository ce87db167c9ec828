use Rattle.std.proofs.Common.{◌≡◌}
use Rattle.p3_stark_columns.proofs.Batches.{random_batch}
use Rattle.p3_stark_columns.proofs.commit.commit_random.Goals as goal

pub returns-in-Ok-Some-clause-batch : goal.returns-in-Ok-Some-clause-batch
returns-in-Ok-Some-clause-batch g c =
    let r = g.P.Pcs.rules c.get_opt_randomization_poly_commitment.new.self in
    let honest : r.IsHonest c.in-Ok-Some.prover_data =
    rw c.in-Ok-Some.field-0-is at c.in-Ok-Some.ensures.honest in
    let commitment : r.commitment_of c.in-Ok-Some.prover_data ≡ c.in-Ok-Some.commitment =
    rw c.in-Ok-Some.field-0-is at c.in-Ok-Some.ensures.commitment in
    random_batch r _ _ c.in-Ok-Some.prover_data _ _ c.in_ok-known_domains.ensures.items
    c.in_ok-random_domains.ensures.items honest commitment
    (rw c.in-Ok-Some.field-0-is at c.in-Ok-Some.ensures.random)
