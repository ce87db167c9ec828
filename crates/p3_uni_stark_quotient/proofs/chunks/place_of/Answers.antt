use Rattle.std.proofs.Common.{◌+◌, ◌*◌, ◌^◌, ◌<◌, sym, ap, subst, arith}
use Rattle.p3_uni_stark_quotient.proofs.Entries.{shifted_one}
use Rattle.p3_uni_stark_quotient.proofs.Chunking.{place_within, place_fits}
use Rattle.p3_uni_stark_quotient.proofs.chunks.place_of.Goals as goal

pub overflow_mul-start : goal.overflow_mul-start
overflow_mul-start c =
    let sizes = c.requires.sizes in
    let step = shifted_one c.args.log_num_chunks 63 (omega (arith, sizes)) (omega arith) in
    let place = place_fits c.args.log_size c.args.log_num_chunks c.args.chunk c.args.row
    c.requires.chunk c.requires.row sizes in
    let fits : c.args.row * 2 ^ c.args.log_num_chunks < 2 ^ 64 = omega (arith, place) in
    let h = subst (λ s. c.args.row * s < 2 ^ 64) (sym step) fits in
    omega (arith, h)

pub overflow_add-result : goal.overflow_add-result
overflow_add-result c =
    let sizes = c.requires.sizes in
    let step = shifted_one c.args.log_num_chunks 63 (omega (arith, sizes)) (omega arith) in
    let place = place_fits c.args.log_size c.args.log_num_chunks c.args.chunk c.args.row
    c.requires.chunk c.requires.row sizes in
    let h = subst (λ s. c.args.chunk + c.args.row * s < 2 ^ 64) (sym step) place in
    omega (arith, h)

pub returns : goal.returns
returns c =
    let sizes = c.requires.sizes in
    let step = shifted_one c.args.log_num_chunks 63 (omega (arith, sizes)) (omega arith) in
    record {
      place = ap (λ s. c.args.chunk + c.args.row * s) step;
      within = subst (λ s. c.args.chunk + c.args.row * s
          < 2 ^ (c.args.log_size + c.args.log_num_chunks)) (sym step)
          (place_within c.args.log_size c.args.log_num_chunks c.args.chunk c.args.row
          c.requires.chunk c.requires.row);
    }
