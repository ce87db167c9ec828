use Rattle.std.proofs.Common.{map, refl, ◌∙◌, inl, inr}
use Rattle.std.proofs.lemmas.List.{map-id}
use Rattle.p3_mmcs.specs.ProverData.{matrices_of}
use Rattle.p3_pcs.specs.Requests.{request}
use Rattle.p3_fri_openings.specs.Held.{held_in}
use Rattle.p3_fri_openings.specs.Rounds.{HasCoset}
use Rattle.p3_fri_openings.proofs.OpenableRequests.{openable_same}
use Rattle.p3_fri_relation.specs.Views.{parameters_of}
use Rattle.fri_statement.specs.Setting.{SchemeFields}
use Rattle.fri_requests.specs.PlainRequests.{sha256_opening}
use Rattle.fri_numbers.proofs.Failed.{no_truth}
use Rattle.fri_verification.proofs.Fields.{fields_of}
use Rattle.fri_prover.proofs.MayOpen.{may_be_opened}
use Rattle.fri_prover.proofs.PlainRefusals.{passed_or_left}
use Rattle.fri_prover.proofs.prover.open_lent.Given.{Over}
use Rattle.fri_prover.proofs.prover.open_lent.Goals as goal

abbrev fields : (g : Over) → SchemeFields g.row.F.Denot g.row.F-Extension.Denot
fields g = fields_of g.F.Field g.F.PrimeField64 g.F.TwoAdicField g.F.ElementBytes
    g.F.Extension.Field g.F.Extension.ExtensionField g.F.Extension.ElementBytes

pub open_requests-requires-clause-shape : goal.open_requests-requires-clause-shape
open_requests-requires-clause-shape g c =
    openable_same refl (c.if-not-are_openable.ensures.openable refl (held_in (fields g).relation c.args.scheme.now.fri.log_blowup))

pub returns-then-not-are_openable-clause-refused : goal.returns-then-not-are_openable-clause-refused
returns-then-not-are_openable-clause-refused g c = λ can.
    let held = held_in (fields g).relation c.args.scheme.now.fri.log_blowup in
    let n = g.F.TwoAdicField.TWO_ADICITY in
    no_truth (c.if-not-are_openable.ensures.exactly.1 (may_be_opened (HasCoset n) matrices_of held c.args.requests.now can))

pub returns-clause-kept : goal.returns-clause-kept
returns-clause-kept g c =
    elim (c.open_requests.ensures.lent (passed_or_left
    (sha256_opening (fields g) g.F.ElementBytes.LEN g.F.Extension.ElementBytes.LEN (parameters_of c.args.scheme.now.fri))
    c.args.challenger.now (map request c.args.requests.now))) [
      | inl same ↦ same ∙ map-id _
      | inr same ↦ same
    ]
