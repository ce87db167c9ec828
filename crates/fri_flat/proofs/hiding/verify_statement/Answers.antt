use Rattle.fri_statement.specs.Setting.{SchemeFields}
use Rattle.fri_verification.proofs.Fields.{fields_of}
use Rattle.fri_flat.proofs.HidingAccepted.{accepted}
use Rattle.fri_flat.proofs.hiding.verify_statement.Given.{Over}
use Rattle.fri_flat.proofs.hiding.verify_statement.Goals as goal

abbrev fields : (g : Over) → SchemeFields g.row.F.Denot g.row.F-Extension.Denot
fields g = fields_of g.F.Field g.F.PrimeField64 g.F.TwoAdicField g.F.ElementBytes
    g.F.Extension.Field g.F.Extension.ExtensionField g.F.Extension.ElementBytes

pub returns : goal.returns
returns g c = accepted (fields g) _ _ _ _ _ c.args.statement c.deref.result.now
    c.deref-2.result.now c.in_ok-proof.proof c.verify.result c.deref.ensures
    c.deref-2.ensures.value c.in_ok-proof.ensures.ok c.verify.ensures.accepted
