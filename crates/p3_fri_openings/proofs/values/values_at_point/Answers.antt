use Rattle.std.proofs.Common.{◌≡◌, ◌≤◌, ◌+◌, ◌-◌, ◌/◌, ◌^◌, length, get_or, ap, ap₂, sym, ◌∙◌, arith, subst, drop, take, ◌++◌}
use Rattle.std.proofs.Math.Nat.{div-le_self}
use Rattle.std.proofs.lemmas.List.{length-map}
use Rattle.std.proofs.lemmas.Result.{IfOk-weaker}
use Rattle.algebra.specs.Polynomial.{tabulate}
use Rattle.algebra.proofs.Lists.{length-tabulate, get_or-tabulate}
use Rattle.p3_matrix.specs.Matrix.{rows, matrix_width}
use Rattle.p3_fri_relation.specs.Setting.{Fields}
use Rattle.p3_fri_openings.specs.Log2.{log2}
use Rattle.p3_fri_openings.specs.Refusals.{IsOff}
use Rattle.p3_fri_openings.specs.Sums.{weighted_sum}
use Rattle.p3_fri_openings.specs.Committed.{coset_of, inverse_differences}
use Rattle.p3_fri_openings.proofs.Log2.{log2_is, pow-divided}
use Rattle.p3_fri_openings.proofs.Writes.{given_back}
use Rattle.p3_fri_openings.proofs.ValueSums.{values_are, values_of_none, starts_long}
use Rattle.p3_fri_openings.proofs.values.values_at_point.Goals as goal

pub returns-then-log_height-log_blowup : goal.returns-then-log_height-log_blowup
returns-then-log_height-log_blowup g c =
    let f : Fields g.row.F.Denot g.row.EF.Denot = record {
      base = g.F.Field.ops;
      ext = g.EF.Field.ops;
      lift = g.EF.ExtensionField.lift;
      coefficients = g.EF.ExtensionField.coefficients;
      degree = g.EF.ExtensionField.DIMENSION;
      root = g.F.TwoAdicField.root;
      two_adicity = g.F.TwoAdicField.TWO_ADICITY;
      shift = g.F.Field.GENERATOR;
    } in
    let none = values_of_none f g.met.EF.Field.laws.ring c.args.log_blowup
    c.log2_strict_usize-log_height.result c.args.matrix.now c.args.point
    (sym (c.log2_strict_usize-log_height.ensures.power ∙ c.height.ensures)) c.if-log_height-log_blowup.true in
    IfOk-weaker c.zeros.result
    (λ v. v.items ≡ tabulate c.width.result (λ _. g.EF.Field.ops.zero)) _
    (λ v e. e ∙ ap (λ n. tabulate n (λ _. g.EF.Field.ops.zero)) c.width.ensures.columns ∙ none)
    c.zeros.ensures

pub add_weighted_rows-requires-clause-width : goal.add_weighted_rows-requires-clause-width
add_weighted_rows-requires-clause-width g c =
    ap length c.deref_mut.ensures.value ∙ ap length c.in_ok-values.ensures
    ∙ length-tabulate c.width-2.result (λ _. g.EF.Field.ops.zero) ∙ c.width-2.ensures.columns

pub add_weighted_rows-requires-clause-coset : goal.add_weighted_rows-requires-clause-coset
add_weighted_rows-requires-clause-coset g c =
    let f : Fields g.row.F.Denot g.row.EF.Denot = record {
      base = g.F.Field.ops;
      ext = g.EF.Field.ops;
      lift = g.EF.ExtensionField.lift;
      coefficients = g.EF.ExtensionField.coefficients;
      degree = g.EF.ExtensionField.DIMENSION;
      root = g.F.TwoAdicField.root;
      two_adicity = g.F.TwoAdicField.TWO_ADICITY;
      shift = g.F.Field.GENERATOR;
    } in
    let n = length (rows c.args.matrix.now) in
    let less = div-le_self c.height-2.result (2 ^ c.args.log_blowup) in
    let long = starts_long c.args.coset.now (coset_of f n) c.requires.coset in
    let size = length-tabulate n (λ i. get_or (coset_of f n) i g.F.Field.ops.zero) in
    let same : length (coset_of f n) ≡ n = length-tabulate n _ in
    let height = c.height-2.ensures in
    omega (arith, less, long, same, height)

pub add_weighted_rows-requires-clause-inverses : goal.add_weighted_rows-requires-clause-inverses
add_weighted_rows-requires-clause-inverses g c =
    let f : Fields g.row.F.Denot g.row.EF.Denot = record {
      base = g.F.Field.ops;
      ext = g.EF.Field.ops;
      lift = g.EF.ExtensionField.lift;
      coefficients = g.EF.ExtensionField.coefficients;
      degree = g.EF.ExtensionField.DIMENSION;
      root = g.F.TwoAdicField.root;
      two_adicity = g.F.TwoAdicField.TWO_ADICITY;
      shift = g.F.Field.GENERATOR;
    } in
    let n = length (rows c.args.matrix.now) in
    let less = div-le_self c.height-2.result (2 ^ c.args.log_blowup) in
    let long = starts_long c.args.inverses.now (inverse_differences f c.args.point n) c.requires.inverses in
    let same : length (inverse_differences f c.args.point n) ≡ n = length-map (coset_of f n) _ ∙ length-tabulate n _ in
    let height = c.height-2.ensures in
    omega (arith, less, long, same, height)

pub barycentric_factor-requires : goal.barycentric_factor-requires
barycentric_factor-requires g c =
    let is = log2_is _ _ (c.log2_strict_usize-log_height.ensures.power ∙ c.height.ensures) in
    let within = c.requires.height.within in
    record { within_two_adicity = omega (arith, is, within) }

pub returns : goal.returns
returns g c =
    let f : Fields g.row.F.Denot g.row.EF.Denot = record {
      base = g.F.Field.ops;
      ext = g.EF.Field.ops;
      lift = g.EF.ExtensionField.lift;
      coefficients = g.EF.ExtensionField.coefficients;
      degree = g.EF.ExtensionField.DIMENSION;
      root = g.F.TwoAdicField.root;
      two_adicity = g.F.TwoAdicField.TWO_ADICITY;
      shift = g.F.Field.GENERATOR;
    } in
    let b = c.args.log_blowup in
    let h = c.log2_strict_usize-log_height.result in
    let k = h - b in
    let n = length (rows c.args.matrix.now) in
    let power : 2 ^ h ≡ n = c.log2_strict_usize-log_height.ensures.power ∙ c.height.ensures in
    let is : h ≡ log2 n = log2_is n h power in
    let above : b ≤ h = omega arith in
    let whole : k + b ≡ h = omega (arith, above) in
    let size : n ≡ 2 ^ (k + b) = sym power ∙ ap (λ m. 2 ^ m) (sym whole) in
    let room = c.requires.height.within in
    let within : k + b ≤ g.F.TwoAdicField.TWO_ADICITY = omega (arith, whole, is, room) in
    let off = subst (λ m. IsOff f m c.args.point) (sym is ∙ sym whole) c.requires.off in
    let items = c.in_ok-values.values.items in
    let zeros : items ≡ tabulate c.width-2.result (λ _. g.EF.Field.ops.zero) = c.in_ok-values.ensures in
    let wide : length items ≡ matrix_width c.args.matrix.now =
    ap length zeros ∙ length-tabulate c.width-2.result (λ _. g.EF.Field.ops.zero) ∙ c.width-2.ensures.columns in
    let long : c.in_ok-values.values.len ≡ length items = c.in_ok-values.values.ok.0 in
    let lent : length c.add_weighted_rows.new.sums ≡ length items =
    c.add_weighted_rows.auto.sums ∙ ap length c.deref_mut.ensures.value in
    let first = given_back c.in_ok-values.values.len c.add_weighted_rows.new.sums items lent long in
    let again : length c.scale_all.new.values ≡ length c.add_weighted_rows.new.sums =
    c.scale_all.auto.values ∙ ap length (c.deref_mut-3.ensures.value ∙ first) in
    let second = given_back c.in_ok-values.values.len c.scale_all.new.values c.add_weighted_rows.new.sums again (long ∙ sym lent) in
    let count : c.height-2.result / 2 ^ b ≡ 2 ^ k = ap (λ m. m / 2 ^ b) (c.height-2.ensures ∙ size) ∙ pow-divided k b in
    ap (λ xs. take c.in_ok-values.values.len (c.scale_all.new.values ++ drop (length c.scale_all.new.values) xs)) first
    ∙ second
    ∙ values_are f g.met.F.Field.laws g.met.F.TwoAdicField.roots_law g.met.F.Field.generator_law
    g.met.EF.Field.laws g.met.EF.ExtensionField.lift_law b k c.args.matrix.now within size
    c.args.point off c.args.coset.now c.requires.coset c.args.inverses.now c.requires.inverses
    c.scale_all.new.values (again ∙ lent ∙ wide)
    (λ j d l.
    c.scale_all.ensures j d (omega (arith, l, wide, lent, ap length (c.deref_mut-3.ensures.value ∙ first)))
    ∙ ap₂ (λ a x. g.EF.Field.ops.mul a x) c.barycentric_factor.ensures
    (ap (λ xs. get_or xs j d) (c.deref_mut-3.ensures.value ∙ first)
    ∙ c.add_weighted_rows.ensures j d (omega (arith, l, wide, ap length c.deref_mut.ensures.value))
    ∙ ap₂ (λ s m. g.EF.Field.ops.add s (weighted_sum g.F.Field.ops g.EF.Field.ops
    g.EF.ExtensionField.lift m c.args.coset.now c.args.inverses.now (rows c.args.matrix.now) j))
    (ap (λ xs. get_or xs j d) (c.deref_mut.ensures.value ∙ zeros)
    ∙ get_or-tabulate c.width-2.result (λ _. g.EF.Field.ops.zero) j d (omega (arith, l, c.width-2.ensures.columns)))
    count))
