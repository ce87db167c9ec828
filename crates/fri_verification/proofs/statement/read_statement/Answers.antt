use Rattle.std.proofs.lemmas.Result.{IfOk-from_err}
use Rattle.std.proofs.Common.{map}
use Rattle.p3_pcs.specs.Claims.{claim}
use Rattle.fri_statement.specs.Setting.{SchemeFields}
use Rattle.fri_verification.proofs.Fields.{fields_of}
use Rattle.fri_numbers.proofs.Listed.{HaveNumbers, is_coset, are_claims}
use Rattle.fri_verification.proofs.statement.read_statement.Given.{Over}
use Rattle.fri_numbers.proofs.Failed.{read_wants}
use Rattle.fri_verification.proofs.statement.read_statement.Goals as goal

-- both fields
abbrev fields : (g : Over) → SchemeFields g.row.F.Denot g.row.F-Extension.Denot
fields g = fields_of g.F.Field g.F.PrimeField64 g.F.TwoAdicField g.F.ElementBytes
    g.F.Extension.Field g.F.Extension.ExtensionField g.F.Extension.ElementBytes

numbered : (g : Over) → HaveNumbers (fields g)
numbered g = record {
  below = g.met.F.PrimeField64.canonical_below;
  again = g.met.F.PrimeField64.multiple_canonical;
  numbers = g.met.F.PrimeField64.canonical_multiple;
  count = g.met.F.Extension.ExtensionField.dimension_law;
  same = g.met.F.Extension.ExtensionField.coefficients_injective;
  made = g.met.F.Extension.ExtensionField.of_coefficients_law;
}

pub returns-clause-claims : goal.returns-clause-claims
returns-clause-claims g c =
    are_claims (fields g) (numbered g) (λ d. d.shift) (λ d. d.log_size)
    (λ d. is_coset (fields g) (numbered g) g.F.TwoAdicField.TWO_ADICITY d.shift d.log_size d.nonzero d.within_two_adicity)
    (map claim c.in_ok-claims.claims.items) c.args.records.now c.in_ok-claims.ensures.numbers

-- where nothing is answered nothing is said of the answer
pub returns-in_err-claims-clause-numbers : goal.returns-in_err-claims-clause-numbers
returns-in_err-claims-clause-numbers g c = IfOk-from_err c.from_residual.result _ c.from_residual.ensures.0

pub returns-in_err-claims-clause-state : goal.returns-in_err-claims-clause-state
returns-in_err-claims-clause-state g c = IfOk-from_err c.from_residual.result _ c.from_residual.ensures.0

pub returns-in_err-claims-clause-context : goal.returns-in_err-claims-clause-context
returns-in_err-claims-clause-context g c = IfOk-from_err c.from_residual.result _ c.from_residual.ensures.0

pub returns-in_err-claims-clause-claims : goal.returns-in_err-claims-clause-claims
returns-in_err-claims-clause-claims g c = IfOk-from_err c.from_residual.result _ c.from_residual.ensures.0

pub returns-in_err-stated-clause-numbers : goal.returns-in_err-stated-clause-numbers
returns-in_err-stated-clause-numbers g c = IfOk-from_err c.from_residual-in_err-stated.result _ c.from_residual-in_err-stated.ensures.0

pub returns-in_err-stated-clause-state : goal.returns-in_err-stated-clause-state
returns-in_err-stated-clause-state g c = IfOk-from_err c.from_residual-in_err-stated.result _ c.from_residual-in_err-stated.ensures.0

pub returns-in_err-stated-clause-context : goal.returns-in_err-stated-clause-context
returns-in_err-stated-clause-context g c = IfOk-from_err c.from_residual-in_err-stated.result _ c.from_residual-in_err-stated.ensures.0

pub returns-in_err-stated-clause-claims : goal.returns-in_err-stated-clause-claims
returns-in_err-stated-clause-claims g c = IfOk-from_err c.from_residual-in_err-stated.result _ c.from_residual-in_err-stated.ensures.0

pub returns-in_err-stated-clause-refused : goal.returns-in_err-stated-clause-refused
returns-in_err-stated-clause-refused g c = read_wants c.from_residual-in_err-stated.result _ c.from_residual-in_err-stated.ensures.1

pub returns-in_err-bytes-clause-numbers : goal.returns-in_err-bytes-clause-numbers
returns-in_err-bytes-clause-numbers g c = IfOk-from_err c.from_residual-in_err-bytes.result _ c.from_residual-in_err-bytes.ensures.0

pub returns-in_err-bytes-clause-state : goal.returns-in_err-bytes-clause-state
returns-in_err-bytes-clause-state g c = IfOk-from_err c.from_residual-in_err-bytes.result _ c.from_residual-in_err-bytes.ensures.0

pub returns-in_err-bytes-clause-context : goal.returns-in_err-bytes-clause-context
returns-in_err-bytes-clause-context g c = IfOk-from_err c.from_residual-in_err-bytes.result _ c.from_residual-in_err-bytes.ensures.0

pub returns-in_err-bytes-clause-claims : goal.returns-in_err-bytes-clause-claims
returns-in_err-bytes-clause-claims g c = IfOk-from_err c.from_residual-in_err-bytes.result _ c.from_residual-in_err-bytes.ensures.0

pub returns-in_err-challenger-clause-numbers : goal.returns-in_err-challenger-clause-numbers
returns-in_err-challenger-clause-numbers g c = IfOk-from_err c.from_residual-in_err-challenger.result _ c.from_residual-in_err-challenger.ensures.0

pub returns-in_err-challenger-clause-state : goal.returns-in_err-challenger-clause-state
returns-in_err-challenger-clause-state g c = IfOk-from_err c.from_residual-in_err-challenger.result _ c.from_residual-in_err-challenger.ensures.0

pub returns-in_err-challenger-clause-context : goal.returns-in_err-challenger-clause-context
returns-in_err-challenger-clause-context g c = IfOk-from_err c.from_residual-in_err-challenger.result _ c.from_residual-in_err-challenger.ensures.0

pub returns-in_err-challenger-clause-claims : goal.returns-in_err-challenger-clause-claims
returns-in_err-challenger-clause-claims g c = IfOk-from_err c.from_residual-in_err-challenger.result _ c.from_residual-in_err-challenger.ensures.0

pub returns-in_err-challenger-clause-refused : goal.returns-in_err-challenger-clause-refused
returns-in_err-challenger-clause-refused g c = read_wants c.from_residual-in_err-challenger.result _ c.from_residual-in_err-challenger.ensures.1
