use Rattle.std.proofs.Common.{◌≡◌, ◌+◌, ◌^◌, ◌∙◌, ◌==◌, true, ℕ, List, [], ◌∷◌, length, ap, sym, subst, arith}
use Rattle.rand_core.specs.Stream.{Stream}
use Rattle.std.specs.Prelude.{IfOk}
use Rattle.std.proofs.lemmas.Bool.{eqb-true}
use Rattle.p3_matrix.specs.Words.{past}
use Rattle.p3_matrix.proofs.Words.{past_none}
use Rattle.p3_fri_masks.specs.Draws.{AreRandom, random_words}
use Rattle.p3_fri_hiding.proofs.Committed.{some_coefficient}
use Rattle.p3_fri_hiding.proofs.ldes.random_columns.Goals as goal

pub random_matrices-requires : goal.random_matrices-requires
random_matrices-requires g c =
    let some = some_coefficient g.EF.ExtensionField.DIMENSION g.EF.ExtensionField.coefficients
    g.EF.Field.ops.zero g.EF.Field.ops.one g.met.EF.Field.laws.one_not_zero
    g.met.EF.ExtensionField.dimension_law g.met.EF.ExtensionField.coefficients_injective in
    record { has_columns = omega (arith, some, c.in-Some.ensures.1, c.DIMENSION.ensures) }

pub returns-clause-random : goal.returns-clause-random
returns-clause-random g c =
    subst (λ w. IfOk c.random_matrices.result (λ matrices.
    AreRandom g.F.SampleField.from_word (λ d. 2 ^ d.log_size) w c.args.domains.items
    (g.R.Rng.stream c.args.rng.now) matrices.items))
    (c.in-Some.ensures.1 ∙ ap (λ n. c.args.num_random_codewords + n) c.DIMENSION.ensures)
    c.random_matrices.ensures.random

pub returns-clause-past : goal.returns-clause-past
returns-clause-past g c =
    subst (λ w. IfOk c.random_matrices.result (λ _. g.R.Rng.stream c.random_matrices.new.rng
    ≡ past (random_words g.F.SampleField.from_word (λ d. 2 ^ d.log_size) w c.args.domains.items)
    (g.R.Rng.stream c.args.rng.now)))
    (c.in-Some.ensures.1 ∙ ap (λ n. c.args.num_random_codewords + n) c.DIMENSION.ensures)
    c.random_matrices.ensures.past

pub returns-clause-too_wide : goal.returns-clause-too_wide
returns-clause-too_wide g c wide =
    absurd (omega (arith, wide, c.in-Some.ensures.0, c.DIMENSION.ensures))

-- no words are drawn for no domains
no_words : {F D : Type 0} (from_word : ℕ → F) (size : D → ℕ) (width : ℕ) (ds : List D) (s : Stream)
    → length ds ≡ 0 → s ≡ past (random_words from_word size width ds) s
no_words from_word size width [] s e = sym (past_none s)
no_words from_word size width (d ∷ ds) s e = absurd (omega (arith, e))

pub returns-then-is_empty-clause-past : goal.returns-then-is_empty-clause-past
returns-then-is_empty-clause-past g c =
    no_words g.F.SampleField.from_word (λ d. 2 ^ d.log_size)
    (c.args.num_random_codewords + g.EF.ExtensionField.DIMENSION) c.args.domains.items
    (g.R.Rng.stream c.args.rng.now)
    (eqb-true (length c.args.domains.items) 0
    (subst (λ n. (n == 0) ≡ true) c.args.domains.ok.0 (sym c.is_empty.ensures ∙ c.if-is_empty.true)))
