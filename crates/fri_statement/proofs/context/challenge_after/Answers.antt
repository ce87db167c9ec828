use Rattle.std.proofs.Common.{◌≡◌, List, ℕ, ap, ◌∙◌}
use Rattle.p3_challenger_core.specs.Run.{drawn_element}
use Rattle.p3_challenger_fs.specs.Description.{Description, stream_of}
use Rattle.p3_challenger_fs.specs.Turns.{bytes_observed}
use Rattle.p3_challenger_sha256.specs.declared.sha256_challenger.Sha256Challenger.{Sha256Challenger}
use Rattle.p3_challenger_sha256.specs.Sha256.{start, element_observed, element_sampled}
use Rattle.fri_statement.specs.Context.{challenge_of, context_stream, context_description}
use Rattle.fri_statement.specs.Numbers.{PrimeFields}
use Rattle.fri_statement.proofs.context.challenge_after.Goals as goal

module _ {F E : Type 0} (f : PrimeFields F E) where
  -- the state after a description is absorbed
  abbrev state_after : Sha256Challenger F → Description → Sha256Challenger F
  state_after c d = bytes_observed f.base (element_observed f.order f.canonical) c (stream_of d)

  abbrev drawn_from : Sha256Challenger F → E
  drawn_from c =
      (drawn_element (element_sampled f.order f.base) f.of_coefficients f.degree c).value

  -- what is drawn from the state that a description leaves of a fresh challenger
  drawn : (context : List ℕ) (d : Description) (fresh seeded : Sha256Challenger F) (challenge : E)
      → d ≡ context_description f.degree context → fresh ≡ start → seeded ≡ state_after fresh d
      → challenge ≡ drawn_from seeded → challenge ≡ challenge_of f context
  unfolding challenge_of context_stream
  drawn context d fresh seeded challenge described begins absorbed is =
      is ∙ ap drawn_from (absorbed ∙ ap (λ c. state_after c d) begins
      ∙ ap (λ e. state_after start e) described)

pub returns : goal.returns
returns g c = drawn (record {
  base = g.F.Field.ops;
  order = g.F.PrimeField64.ORDER_U64;
  canonical = g.F.PrimeField64.canonical;
  degree = g.EF.ExtensionField.DIMENSION;
  coefficients = g.EF.ExtensionField.coefficients;
  of_coefficients = g.EF.ExtensionField.of_coefficients;
}) c.args.context.now _ c.over_field-challenger.result _ c.challenge_extension-challenge.result
    c.in_ok-separator.ensures c.over_field-challenger.ensures c.in_ok-transcript.ensures.state
    c.challenge_extension-challenge.ensures.value
