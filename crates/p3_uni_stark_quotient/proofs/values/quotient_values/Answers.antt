use Rattle.std.proofs.Common.{◌≡◌, ℕ, ◌*◌, ◌%◌, ◌^◌, ◌≤◌, length, reverse, get_or, sym, ap, subst, ◌∙◌, arith}
use Rattle.algebra.specs.Field.{pow}
use Rattle.algebra.specs.Polynomial.{tabulate}
use Rattle.algebra.proofs.Lists.{length-tabulate}
use Rattle.algebra.proofs.Points.{root-nonzero}
use Rattle.p3_field_core.specs.Coset.{coset_point}
use Rattle.p3_air_laws.proofs.Rows.{one-root, last-root}
use Rattle.p3_uni_stark_identity.specs.Selectors.{AreSelectorsAt}
use Rattle.p3_uni_stark_quotient.specs.declared.rows.Prepared.{Prepared}
use Rattle.p3_uni_stark_quotient.specs.Given.{on_coset, entries_on}
use Rattle.p3_uni_stark_quotient.specs.Prepared.{IsPreparedFor, quotient_at}
use Rattle.p3_uni_stark_quotient.specs.Quotient.{quotient_on_row}
use Rattle.p3_uni_stark_quotient.proofs.Entries.{shifted_one}
use Rattle.p3_uni_stark_quotient.proofs.Ready.{is_ready}
use Rattle.std.proofs.lemmas.Result.{IfOk-from_err}
use Rattle.p3_uni_stark_quotient.proofs.values.quotient_values.Goals as goal

pub push_blocks-requires-clause-ready : goal.push_blocks-requires-clause-ready
push_blocks-requires-clause-ready g c =
    let d = c.args.log_num_chunks in
    let top = g.F.TwoAdicField.TWO_ADICITY in
    let law = g.met.F.TwoAdicField.two_adicity_law in
    let size = c.requires.size in
    let within = c.args.coset.within_two_adicity in
    let held = c.in_ok-all_selectors.all_selectors.ok.0 in
    let kept = c.in_ok-constraints.constraints.ok.0 in
    is_ready _ c.args.coset.log_size d (omega (arith, within, law)) (omega (arith, size))
    c.requires.well_formed c.requires.columns
    (ap length c.as_slice-4.ensures.value ∙ sym held ∙ c.in_ok-all_selectors.ensures.len)
    (shifted_one d top (omega (arith, size, within)) law)
    (c.as_slice-2.ensures.value ∙ c.in_ok-constraints.ensures
    ∙ ap (λ cs. reverse cs) c.as_slice.ensures.value)
    (ap length (c.as_slice-3.ensures.value ∙ c.in_ok-all_powers.ensures)
    ∙ length-tabulate c.len.result (λ i. pow g.EF.Field.ops c.args.alpha i)
    ∙ c.len.ensures ∙ kept ∙ sym (ap length c.as_slice-2.ensures.value))

pub push_rows-requires-clause-ready : goal.push_rows-requires-clause-ready
push_rows-requires-clause-ready g c =
    let d = c.args.log_num_chunks in
    let top = g.F.TwoAdicField.TWO_ADICITY in
    let law = g.met.F.TwoAdicField.two_adicity_law in
    let size = c.requires.size in
    let within = c.args.coset.within_two_adicity in
    let held = c.in_ok-all_selectors.all_selectors.ok.0 in
    let kept = c.in_ok-constraints.constraints.ok.0 in
    is_ready _ c.args.coset.log_size d (omega (arith, within, law)) (omega (arith, size))
    c.requires.well_formed c.requires.columns
    (ap length c.as_slice-4.ensures.value ∙ sym held ∙ c.in_ok-all_selectors.ensures.len)
    (shifted_one d top (omega (arith, size, within)) law)
    (c.as_slice-2.ensures.value ∙ c.in_ok-constraints.ensures
    ∙ ap (λ cs. reverse cs) c.as_slice.ensures.value)
    (ap length (c.as_slice-3.ensures.value ∙ c.in_ok-all_powers.ensures)
    ∙ length-tabulate c.len.result (λ i. pow g.EF.Field.ops c.args.alpha i)
    ∙ c.len.ensures ∙ kept ∙ sym (ap length c.as_slice-2.ensures.value))

pub returns : goal.returns
returns g c =
    let F = g.F.Field.ops in
    let K = g.EF.Field.ops in
    let L = g.met.F.Field.laws in
    let top = g.F.TwoAdicField.TWO_ADICITY in
    let w = g.F.TwoAdicField.root in
    let W = g.met.F.TwoAdicField.roots_law in
    let lift = g.EF.ExtensionField.lift in
    let k = c.args.log_size in
    let d = c.args.log_num_chunks in
    let coset = c.args.coset in
    let alpha = c.args.alpha in
    let given = on_coset c.args.columns.now in
    let x : ℕ → g.row.F.Denot = coset_point F (w coset.log_size) coset.shift in
    let size = c.requires.size in
    let within = coset.within_two_adicity in
    let fits : k ≤ top = omega (arith, size, within) in
    let held = c.in_ok-all_selectors.all_selectors.ok.0 in
    let kept = c.in_ok-constraints.constraints.ok.0 in
    let long : length c.as_slice-4.result.now ≡ 2 ^ coset.log_size =
    ap length c.as_slice-4.ensures.value ∙ sym held ∙ c.in_ok-all_selectors.ensures.len in
    let many : c.len.result ≡ length c.as_slice-2.result.now =
    c.len.ensures ∙ kept ∙ sym (ap length c.as_slice-2.ensures.value) in
    let prepared : Prepared g.row.F.Denot g.row.EF.Denot = record {
      air = c.args.air;
      columns = c.args.columns.now;
      reversed = c.as_slice-2.result;
      powers = c.as_slice-3.result;
      selectors = c.as_slice-4.result;
      step = 1 * 2 ^ d % 18446744073709551616;
    } in
    let value : ℕ → g.row.EF.Denot = quotient_at F K prepared (w k) (2 ^ k) alpha x lift in
    let for_alpha : IsPreparedFor F K prepared (w k) (2 ^ k) alpha x = record {
      powers = c.as_slice-3.ensures.value ∙ c.in_ok-all_powers.ensures
          ∙ ap (λ n. tabulate n (λ i. pow K alpha i)) many;
      selectors = λ i s l. subst (λ ss. AreSelectorsAt F (w k) (2 ^ k) (x i) (get_or ss i s))
          (sym c.as_slice-4.ensures.value)
          (c.in_ok-all_selectors.ensures.selectors i s (omega (arith, l, long)));
      off = λ i l. c.requires.off i;
      generator = root-nonzero F L top w W k fits;
      first = one-root F L top w W k fits;
      last = last-root F L top w W k fits;
    } in
    c.in_ok-push_rows.ensures (w k) (2 ^ k) alpha x for_alpha
    (c.in_ok-push_blocks.ensures (w k) (2 ^ k) alpha x for_alpha
    ∙ ap (λ n. tabulate (c.num_blocks-blocks.result * n) value) (sym c.WIDTH-width.ensures))
    ∙ ap (λ n. tabulate n value) long
    ∙ ap (λ s. tabulate (2 ^ coset.log_size) (λ i. quotient_on_row F K lift c.args.air.now (w k)
    (2 ^ k) alpha (entries_on given s i) (x i)))
    (shifted_one d top (omega (arith, size, within)) g.met.F.TwoAdicField.two_adicity_law)

-- where nothing is answered nothing is said of the answer
pub returns-in_err-push_blocks : goal.returns-in_err-push_blocks
returns-in_err-push_blocks g c =
    IfOk-from_err c.from_residual-in_err-push_blocks.result _ c.from_residual-in_err-push_blocks.ensures.0

pub returns-in_err-values : goal.returns-in_err-values
returns-in_err-values g c =
    IfOk-from_err c.from_residual-in_err-values.result _ c.from_residual-in_err-values.ensures.0
