use Rattle.std.proofs.Common.{◌≡◌, ◌↔◌, sym, ◌∙◌, subst, length, inl, inr, IsOk, refl}
use Rattle.std.specs.Prelude.{MatchResult, Result, Ok, Err}
use Rattle.std.specs.Int.{IsPowerOfTwo}
use Rattle.algebra.specs.Nested.{lists, nested}
use Rattle.p3_mmcs.specs.Tree.{OpensAt, Opens, SomeQuery}
use Rattle.p3_mmcs.specs.Faults.{HasFault}
use Rattle.p3_mmcs.proofs.Heights.{max_height-power}
use Rattle.algebra.proofs.Nested.{length-lists, length-nested}
use Rattle.p3_mmcs.proofs.Queries.{each_counts, some_impossible}
use Rattle.p3_mmcs.proofs.Refusals.{some_fault_refutes}
use Rattle.p3_mmcs.proofs.sha256_mmcs.scheme.Sha256MmcsMmcs.verify_multi_batch.Goals as goal
use Rattle.p3_mmcs.proofs.sha256_mmcs.scheme.Sha256MmcsMmcs.verify_multi_batch.Goals.{}
use Rattle.p3_mmcs.proofs.sha256_mmcs.scheme.Sha256MmcsMmcs.verify_multi_batch.Goals.{then-opened_values-indices-via-then-opened_values-indices}
use Rattle.p3_mmcs.proofs.sha256_mmcs.scheme.Sha256MmcsMmcs.verify_multi_batch.Goals.{then-opened_values-indices-via-else-opened_values-indices+then-len-indices}

pub log2_strict_usize-log_height-requires : goal.log2_strict_usize-log_height-requires
log2_strict_usize-log_height-requires g c =
    record {
      power_of_two = subst IsPowerOfTwo (sym c.max_height.ensures)
          (max_height-power c.args.dimensions.now c.requires.heights);
    }

pub returns-then-opened_values-indices-clause-opens : goal.returns-then-opened_values-indices-clause-opens
returns-then-opened_values-indices-clause-opens g c = (
  λ e. cc,
  λ opens.
      let counts = each_counts (OpensAt g.T.ElementBytes.bytes c.args.commitment.now
      c.args.dimensions.now) c.args.indices.now (nested c.args.opened_values.now)
      (lists c.args.proof.now.items) opens in
      let sets : length c.args.opened_values.now ≡ length c.args.indices.now =
      sym (length-nested c.args.opened_values.now) ∙ counts.0 in
      let paths : length c.args.proof.now.items ≡ length c.args.indices.now =
      sym (length-lists c.args.proof.now.items) ∙ counts.1 in
      absurd (elim c.then-opened_values-indices.branch [
        | then-opened_values-indices-via-then-opened_values-indices w ↦
            w.if-opened_values-indices.true sets
        | then-opened_values-indices-via-else-opened_values-indices+then-len-indices w ↦
            w.if-len-indices.true (w.len.ensures ∙ c.args.proof.now.ok.0 ∙ paths)
      ]),
)

-- a result that is an opening or a fault
ok_iff : {E : Type 0} (O : Type 0) (F : E → Type 0) → ((e : E) → F e → O → ⊥) → (r : Result Unit E)
    → MatchResult r (λ _. O) F → IsOk r ↔ O
ok_iff O F n (Ok u) m = (λ _. m, λ _. refl)
ok_iff O F n (Err e) m = (λ q. cc, λ o. absurd (n e m o))

pub returns-clause-opens : goal.returns-clause-opens
returns-clause-opens g c =
    let bytes = g.T.ElementBytes.bytes in
    let commitment = c.args.commitment.now in
    let dims = c.args.dimensions.now in
    let indices = c.args.indices.now in
    let sets = nested c.args.opened_values.now in
    let paths = lists c.args.proof.now.items in
    ok_iff (Opens bytes commitment dims indices sets paths) (λ fault.
    SomeQuery (HasFault bytes commitment dims fault) indices sets paths)
    (λ fault. some_fault_refutes bytes commitment dims fault indices sets paths)
    c.verify_each.result
    (subst (λ ps. MatchResult c.verify_each.result (λ _.
    Opens bytes commitment dims indices sets (lists ps)) (λ fault.
    SomeQuery (HasFault bytes commitment dims fault) indices sets (lists ps)))
    c.as_slice-paths.ensures.value c.verify_each.ensures)

pub returns-clause-query_count : goal.returns-clause-query_count
returns-clause-query_count g c =
    let bytes = g.T.ElementBytes.bytes in
    let commitment = c.args.commitment.now in
    let dims = c.args.dimensions.now in
    let indices = c.args.indices.now in
    let sets = nested c.args.opened_values.now in
    let paths = lists c.as_slice-paths.result.now in (
      λ is. absurd (some_impossible indices sets paths
          (subst (λ r. MatchResult r (λ _. Opens bytes commitment dims indices sets paths) (λ fault.
          SomeQuery (HasFault bytes commitment dims fault) indices sets paths)) is
          c.verify_each.ensures)),
      λ differ. absurd (elim differ [
        | inl sets_differ ↦ sets_differ c.if-opened_values-indices.false
        | inr paths_differ ↦ paths_differ
            (sym c.args.proof.now.ok.0 ∙ sym c.len.ensures ∙ c.if-len-indices.false)
      ]),
    )
