use Rattle.std.proofs.Common.{refl, subst, ap, ◌∙◌}
use Rattle.std.specs.List.{AllZip}
use Rattle.std.proofs.lemmas.Result.{IfOk-weaker, IfErr-weaker}
use Rattle.p3_fri_relation.specs.Setting as setting
use Rattle.fri_statement.specs.Setting.{SchemeFields}
use Rattle.fri_requests.specs.Commitments.{IsCommitmentTo}
use Rattle.fri_numbers.proofs.Failed.{request_weaker}
use Rattle.fri_requests.proofs.PlainRules.{plain_commitments, none_refused}
use Rattle.fri_verification.proofs.Fields.{fields_of}
use Rattle.fri_numbers.proofs.Listed.{HaveNumbers}
use Rattle.fri_requests.proofs.plain.commit.Given.{Over}
use Rattle.fri_requests.proofs.plain.commit.Goals as goal

abbrev fields : (g : Over) → SchemeFields g.row.F.Denot g.row.F-Extension.Denot
fields g = fields_of g.F.Field g.F.PrimeField64 g.F.TwoAdicField g.F.ElementBytes
    g.F.Extension.Field g.F.Extension.ExtensionField g.F.Extension.ElementBytes

numbered : (g : Over) → HaveNumbers (fields g)
numbered g = record {
  below = g.met.F.PrimeField64.canonical_below;
  again = g.met.F.PrimeField64.multiple_canonical;
  numbers = g.met.F.PrimeField64.canonical_multiple;
  count = g.met.F.Extension.ExtensionField.dimension_law;
  same = g.met.F.Extension.ExtensionField.coefficients_injective;
  made = g.met.F.Extension.ExtensionField.of_coefficients_law;
}

pub returns-clause-committed : goal.returns-clause-committed
returns-clause-committed g c =
    IfOk-weaker c.commit.result _ _ (λ cs h.
    subst (λ b. AllZip (IsCommitmentTo (fields g) b) cs.items c.args.request.now.commitments.items)
    (ap (λ s. s.fri.log_blowup) h.is_of.kept ∙ ap (λ (p : setting.Parameters). p.log_blowup) h.is_of.is_made)
    (plain_commitments (fields g) (numbered g) g.F.ElementBytes.LEN _ _ (λ d. d.shift) (λ d. d.log_size) h.scheme.fri.log_blowup
    (record {
      extends = λ m e x. x;
      honest = λ d x. x;
      openable = λ d x. x;
      preprocessed = λ d x. x;
      polynomials = λ d. refl;
      commitments = λ d. refl;
    })
    cs.items c.args.request.now.commitments.items h.commit))
    c.commit.ensures.committed

pub returns-clause-refused : goal.returns-clause-refused
returns-clause-refused g c =
    IfErr-weaker c.commit.result _ _
    (request_weaker _ _ _ _ (λ fails. fails)
    (λ e h. none_refused h.refused (λ s es q. q) (λ s es q. q)))
    c.commit.ensures.refused
