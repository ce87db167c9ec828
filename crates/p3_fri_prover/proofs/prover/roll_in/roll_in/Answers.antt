use Rattle.std.proofs.Common.{length, sym, ap, ◌∙◌, refl}
use Rattle.algebra.specs.Nested.{lists}
use Rattle.algebra.proofs.Lists.{tabulate-get_or}
use Rattle.p3_fri_prover.specs.Inputs.{rolled_word}
use Rattle.p3_fri_prover.proofs.Lists.{has_length}
use Rattle.p3_fri_prover.proofs.prover.roll_in.roll_in.Goals as goal

pub add_multiple-requires : goal.add_multiple-requires
add_multiple-requires g c = record {
  same_length = has_length (lists c.args.inputs.now) (length c.args.word.now) c.in-Some.input.now
      c.in-Some.ensures.found;
}

pub returns-in_default : goal.returns-in_default
returns-in_default g c =
    let F = g.EF.Field.ops in
    let word = c.args.word.now in
    sym (tabulate-get_or (length word) word F.zero refl)
    ∙ ap (λ u. rolled_word F (record { log_arity = c.args.log_arity; beta = c.args.beta }) u word)
    (sym c.in_default.ensures.missing)
