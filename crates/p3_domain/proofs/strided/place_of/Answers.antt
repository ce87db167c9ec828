use Rattle.std.proofs.Common.{◌+◌, ◌*◌, ◌<◌, ◌≤◌, arith}
use Rattle.p3_domain.proofs.strided.place_of.Goals as goal

pub overflow_mul-first : goal.overflow_mul-first
overflow_mul-first c =
    let within = c.requires.within in
    let fits = c.ranges.height.fits in
    record { fits = omega (arith, within, fits) }
