use Rattle.std.proofs.Common.{◌<◌, length, refl, sym, subst, ap, arith, true}
use Rattle.std.specs.Vec.{with_item}
use Rattle.fri_records.specs.declared.records.Batch.{Batch}
use Rattle.fri_records.specs.declared.records.Request.{Request}
use Rattle.fri_flat.specs.HidingAnswers.{IsMarked}
use Rattle.fri_flat.proofs.Marked.{named_there, same_there}
use Rattle.fri_flat.proofs.hiding.marked.Goals as goal
use Rattle.fri_flat.proofs.hiding.marked.Goals.{in-Some+else-len-index, in_default}

pub returns : goal.returns
returns c =
    let request = c.args.request in
    let batches = request.commitments.items in
    elim c.match-index.branch as (λ _. IsMarked request c.args.index c.match-index.request) [
      | in-Some+else-len-index w ↦
          let i = w.in-Some.index in
          let batch : Batch =
          record { matrices = w.index_mut.result.now.matrices; preprocessed = true } in
          let marked : Request = record {
            context = request.context;
            parameters = request.parameters;
            commitments = with_item request.commitments i batch;
          } in
          let within : i < length batches = omega (arith, w.if-len-index.false, w.len.ensures) in
          subst (λ r. IsMarked request c.args.index r) (sym w.request-is)
          (subst (λ index. IsMarked request index marked) (sym w.in-Some.is)
          (record {
            context = refl;
            parameters = refl;
            matrices = same_there (λ b. b.matrices) batches i batch _
                (ap (λ (b : Batch). b.matrices) w.index_mut.ensures.value);
            named = named_there batches i batch within c.requires.plain refl;
          }))
      | in_default w ↦
          subst (λ r. IsMarked request c.args.index r) (sym w.request-is)
          (subst (λ index. IsMarked request index request) (sym w.in_default.is)
          (record {
            context = refl;
            parameters = refl;
            matrices = refl;
            named = c.requires.plain;
          }))
    ]
