use Rattle.std.proofs.Common.{◌≡◌, ◌++◌, ◌∷◌, ◌+◌, ◌-◌, ◌∙◌, [], sym, ap, arith, cond}
use Rattle.p3_field_core.specs.declared.coset.TwoAdicMultiplicativeCoset.{TwoAdicMultiplicativeCoset as Coset}
use Rattle.p3_fri_relation.specs.Heights.{matrices_of, heights_below}
use Rattle.p3_fri_relation.specs.Views.{claims_of}
use Rattle.p3_fri_inputs.proofs.LogHeights.{heights_whole, higher_next}
use Rattle.std.proofs.lemmas.List.{append-nil}
use Rattle.p3_fri_inputs.proofs.heights.falling_heights.Goals as goal

pub loop-h-preserved : goal.loop-h-preserved
loop-h-preserved g c =
    let size = λ (domain : Coset g.row.F.Denot g.row.F-Prepared.Denot g.F.TwoAdicField g.F.Field g.F.PartialEq g.F.Add g.F.Sub g.F.Mul g.F.Neg). domain.log_size in
    let ms = matrices_of (claims_of size c.args.claims.now) in
    let b = c.args.log_blowup in
    let k = c.loop-h.h in
    let items = c.loop-h.heights.items in
    let whole = heights_below b ms (c.args.log_global_max_height + 1) in
    higher_next b ms k (k - 1) items whole (omega arith) c.loop-h.invariant
    ∙ ap (λ t. (items ++ cond t ((k - 1) ∷ []) []) ++ heights_below b ms (k - 1))
    (sym c.has_height.ensures)
    ∙ ap (λ xs. xs ++ heights_below b ms (k - 1)) (sym c.in_ok-push_height.ensures)

pub returns : goal.returns
returns g c =
    let size = λ (domain : Coset g.row.F.Denot g.row.F-Prepared.Denot g.F.TwoAdicField g.F.Field g.F.PartialEq g.F.Add g.F.Sub g.F.Mul g.F.Neg). domain.log_size in
    let ms = matrices_of (claims_of size c.args.claims.now) in
    let b = c.args.log_blowup in
    let k = c.loop-h.h in
    let items = c.loop-h.heights.items in
    let whole = heights_below b ms (c.args.log_global_max_height + 1) in
    let last : k ≡ 0 = omega arith in
    sym (c.loop-h.invariant ∙ ap (λ n. items ++ heights_below b ms n) last ∙ append-nil items)
    ∙ heights_whole b ms c.args.log_global_max_height c.requires.heights
