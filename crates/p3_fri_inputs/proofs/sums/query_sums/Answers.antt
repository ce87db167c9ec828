use Rattle.std.proofs.Common.{◌≡◌, ◌++◌, ◌+◌, ◌∙◌, ℕ, take, drop, length, get_or, subst, sym, ap}
use Rattle.std.proofs.Common.{arith, All}
use Rattle.std.proofs.Math.Seq.{take-append_seam}
use Rattle.algebra.specs.Polynomial.{tabulate}
use Rattle.p3_field_core.specs.declared.coset.TwoAdicMultiplicativeCoset.{TwoAdicMultiplicativeCoset as Coset}
use Rattle.p3_fri_relation.specs.Heights.{matrices_of}
use Rattle.p3_fri_relation.specs.Views.{claims_of}
use Rattle.p3_fri_inputs.specs.Claims.{IsReadable}
use Rattle.algebra.proofs.Lists.{length-tabulate, get_or-tabulate}
use Rattle.p3_fri_inputs.proofs.sums.query_sums.Goals as goal

pub add_openings-requires-clause-readable : goal.add_openings-requires-clause-readable
add_openings-requires-clause-readable g c =
    let s = c.args.setting.now in
    let size = λ (domain : Coset g.row.F.Denot g.row.F-Prepared.Denot g.F.TwoAdicField g.F.Field g.F.PartialEq g.F.Add g.F.Sub g.F.Mul g.F.Neg). domain.log_size in
    let count = s.log_global_max_height + 1 in
    let zero = λ (h : ℕ). g.EF.Field.ops.zero in
    let listed : c.deref_mut.result.now ≡ tabulate count zero =
    c.deref_mut.ensures.value ∙ c.in_ok-sums.ensures.items in
    let long : length c.deref_mut.result.now ≡ count = ap length listed ∙ length-tabulate count zero in
    let cs = claims_of size s.claims.now in
    subst (λ n. All (IsReadable s.log_blowup n c.args.ladder.now.powers.len) (matrices_of cs))
    (sym long) c.requires.readable

pub returns-clause-sums : goal.returns-clause-sums
returns-clause-sums g c read inverses h d l =
    let s = c.args.setting.now in
    let size = λ (domain : Coset g.row.F.Denot g.row.F-Prepared.Denot g.F.TwoAdicField g.F.Field g.F.PartialEq g.F.Add g.F.Sub g.F.Mul g.F.Neg). domain.log_size in
    let count = s.log_global_max_height + 1 in
    let zero = λ (h : ℕ). g.EF.Field.ops.zero in
    let listed : c.deref_mut.result.now ≡ tabulate count zero =
    c.deref_mut.ensures.value ∙ c.in_ok-sums.ensures.items in
    let long : length c.deref_mut.result.now ≡ count = ap length listed ∙ length-tabulate count zero in
    let cs = claims_of size s.claims.now in
    let old = c.deref_mut.result.now in
    let items = c.in_ok-sums.sums.items in
    let new = c.add_openings.new.sums in
    let same : length new ≡ length old = c.add_openings.auto.sums in
    let whole : c.in_ok-sums.sums.len ≡ length new = omega (arith, c.in_ok-sums.ensures.count, same, long) in
    ap (λ n. get_or (take n (new ++ drop (length new) items)) h d) whole
    ∙ ap (λ xs. get_or xs h d) (take-append_seam new (drop (length new) items))
    ∙ c.add_openings.ensures read inverses
    (λ j e q. ap (λ xs. get_or xs j e) listed ∙ get_or-tabulate count zero j e (omega (arith, q, long)))
    h d (omega (arith, l, long))
