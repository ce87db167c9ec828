use Rattle.std.proofs.Common.{sym, ap, ◌∙◌}
use Rattle.std.proofs.lemmas.List.{get_or-map}
use Rattle.p3_fri_masks.proofs.Apart.{off_by_parts, on_another}
use Rattle.p3_fri_masks.proofs.disjoint.is_off_others.Goals as goal

pub returns-then-is_off_each : goal.returns-then-is_off_each
returns-then-is_off_each g c =
    let F = g.F.Field.ops in
    let domains = c.args.domains.now in
    let i = c.args.index in
    let item = c.index-domains-index.result in
    off_by_parts F (λ d. d.shift) (λ d. d.log_size) domains i c.first_point-point.result item c.requires
    (c.first_point-point.ensures ∙ sym (get_or-map (λ d. d.shift) domains i item F.zero c.requires
    ∙ ap (λ d. d.shift) (sym c.index-domains-index.is)))
    _ _ c.split_at.ensures.front c.is_off_each.ensures _ _ c.split_at-2.ensures.back
    c.is_off_each-then-is_off_each.ensures c.if-is_off_each.true

pub returns-else-is_off_each : goal.returns-else-is_off_each
returns-else-is_off_each g c =
    let F = g.F.Field.ops in
    let domains = c.args.domains.now in
    let i = c.args.index in
    let item = c.index-domains-index.result in
    on_another F (λ d. d.shift) (λ d. d.log_size) domains i c.first_point-point.result item c.requires
    (c.first_point-point.ensures ∙ sym (get_or-map (λ d. d.shift) domains i item F.zero c.requires
    ∙ ap (λ d. d.shift) (sym c.index-domains-index.is)))
    _ _ c.split_at.ensures.front c.is_off_each.ensures c.if-is_off_each.false
