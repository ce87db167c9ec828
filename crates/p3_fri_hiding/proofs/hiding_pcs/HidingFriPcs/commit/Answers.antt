use Rattle.std.proofs.Common.{false, length, map, refl, sym, ap, subst}
use Rattle.std.proofs.lemmas.Result.{IfOk-from_err, IfOk-weaker}
use Rattle.p3_matrix.specs.Matrix.{rows}
use Rattle.p3_fri_masks.specs.Masked.{IsTooWide}
use Rattle.p3_fri_relation.specs.Setting.{Fields}
use Rattle.p3_fri_hiding.specs.Commitments.{AreExtended}
use Rattle.p3_fri_hiding.specs.Trace.{HasTrace}
use Rattle.p3_fri_hiding.proofs.Committed.{masked_all_fit, masked_wide, masked_all_traced}
use Rattle.p3_fri_hiding.proofs.NewData.{if_unopened, if_shown}
use Rattle.p3_fri_hiding.proofs.Refused.{budget_refused, memory_refused, memory_passed_on}
use Rattle.p3_fri_hiding.proofs.Refused.{fit_of, misfit_of, no_other_than_memory}
use Rattle.p3_fri_hiding.proofs.Refused.{memory_alone, in_any_case}
use Rattle.p3_fri_hiding.proofs.hiding_pcs.HidingFriPcs.commit.Given.{Over}
use Rattle.p3_fri_hiding.proofs.hiding_pcs.HidingFriPcs.commit.Goals as goal

abbrev fields_of : (g : Over) → Fields g.row.F.Denot g.row.EF.Denot
fields_of g = record {
  base = g.F.Field.ops;
  ext = g.EF.Field.ops;
  lift = g.EF.ExtensionField.lift;
  coefficients = g.EF.ExtensionField.coefficients;
  degree = g.EF.ExtensionField.DIMENSION;
  root = g.F.TwoAdicField.root;
  two_adicity = g.F.TwoAdicField.TWO_ADICITY;
  shift = g.F.Field.GENERATOR;
}

pub returns-in_err-check_matrices-clause-refused : goal.returns-in_err-check_matrices-clause-refused
returns-in_err-check_matrices-clause-refused g c =
    budget_refused c.args.self.now.num_random_codewords c.args.self.now.fri.num_queries
    g.EF.ExtensionField.DIMENSION (map (λ e. length (rows e.1)) c.args.evaluations.items)
    c.from_residual.result c.in_err-check_matrices.field-0.0 c.from_residual.ensures
    (misfit_of c.args.self.now.num_random_codewords c.args.self.now.fri.num_queries _ _
    c.DIMENSION.ensures _ _ c.deref.ensures.value (λ e. length (rows e.1)) c.in_err-check_matrices.field-0.0
    c.in_err-check_matrices.ensures)

pub returns-in_err-masked-clause-refused : goal.returns-in_err-masked-clause-refused
returns-in_err-masked-clause-refused g c =
    memory_refused c.args.self.now.num_random_codewords c.args.self.now.fri.num_queries
    g.EF.ExtensionField.DIMENSION (map (λ e. length (rows e.1)) c.args.evaluations.items)
    c.from_residual-in_err-masked.result c.from_residual-in_err-masked.ensures
    (fit_of c.args.self.now.num_random_codewords c.args.self.now.fri.num_queries _ _
    c.DIMENSION.ensures _ _ c.deref.ensures.value (λ e. length (rows e.1)) c.in_ok-check_matrices.ensures)

pub returns-clause-refused : goal.returns-clause-refused
returns-clause-refused g c =
    memory_passed_on c.args.self.now.num_random_codewords c.args.self.now.fri.num_queries
    g.EF.ExtensionField.DIMENSION (map (λ e. length (rows e.1)) c.args.evaluations.items)
    c.commit_extended.result c.commit_extended.ensures.refused
    (fit_of c.args.self.now.num_random_codewords c.args.self.now.fri.num_queries _ _
    c.DIMENSION.ensures _ _ c.deref.ensures.value (λ e. length (rows e.1)) c.in_ok-check_matrices.ensures)

pub returns-clause-budget : goal.returns-clause-budget
returns-clause-budget g c ok =
    fit_of c.args.self.now.num_random_codewords c.args.self.now.fri.num_queries _ _
    c.DIMENSION.ensures _ _ c.deref.ensures.value (λ e. length (rows e.1)) c.in_ok-check_matrices.ensures

pub commit_extended-requires-clause-heights : goal.commit_extended-requires-clause-heights
commit_extended-requires-clause-heights g c i d below =
    (masked_all_fit g.F.TwoAdicField.TWO_ADICITY c.args.self.now.fri.log_blowup (λ d. d.log_size)
    c.in_ok-masked.masked.items c.args.evaluations.items c.requires g.F.SampleField.from_word
    c.args.self.now.num_random_codewords (g.R.Rng.stream c.args.self.now.rng)
    c.in_ok-masked.ensures.masked i d below).height

pub commit_extended-requires-clause-within : goal.commit_extended-requires-clause-within
commit_extended-requires-clause-within g c i d below =
    (masked_all_fit g.F.TwoAdicField.TWO_ADICITY c.args.self.now.fri.log_blowup (λ d. d.log_size)
    c.in_ok-masked.masked.items c.args.evaluations.items c.requires g.F.SampleField.from_word
    c.args.self.now.num_random_codewords (g.R.Rng.stream c.args.self.now.rng)
    c.in_ok-masked.ensures.masked i d below).within

pub returns-clause-masked : goal.returns-clause-masked
returns-clause-masked g c =
    IfOk-weaker c.commit_extended.result _ _
    (λ pair words. record {
      masked = c.in_ok-masked.masked.items;
      masks = c.in_ok-masked.ensures.masked;
      words = words;
    })
    c.commit_extended.ensures.words

pub returns-clause-openable : goal.returns-clause-openable
returns-clause-openable g c =
    if_unopened (fields_of g) g.InputMmcs.Mmcs.committed c.args.self.now.fri.log_blowup
    c.args.self.now.num_random_codewords c.commit_extended.result
    (AreExtended (fields_of g) (λ d. d.shift) (λ d. d.log_size)
    c.args.self.now.fri.log_blowup c.in_ok-masked.masked.items)
    (λ ms words. masked_wide (fields_of g) g.met.F.Field.laws g.met.EF.Field.laws
    g.met.EF.ExtensionField.lift_law g.met.F.TwoAdicField.roots_law g.met.F.Field.generator_law
    c.args.self.now.fri.log_blowup (λ d. d.shift) (λ d. d.log_size) (λ d. d.nonzero) ms
    c.in_ok-masked.masked.items c.args.evaluations.items c.requires words
    g.F.SampleField.from_word c.args.self.now.num_random_codewords
    (g.R.Rng.stream c.args.self.now.rng) c.in_ok-masked.ensures.masked)
    c.commit_extended.ensures.words c.commit_extended.ensures.data
    c.commit_extended.ensures.of_scheme

pub returns-clause-extends : goal.returns-clause-extends
returns-clause-extends g c =
    if_shown (fields_of g) g.InputMmcs.Mmcs.committed c.args.self.now.fri.log_blowup
    c.args.self.now.num_random_codewords c.commit_extended.result false
    (AreExtended (fields_of g) (λ d. d.shift) (λ d. d.log_size)
    c.args.self.now.fri.log_blowup c.in_ok-masked.masked.items)
    (λ m e. HasTrace (fields_of g) e.0.shift e.0.log_size e.1 m) c.args.evaluations.items
    (λ ms words. masked_all_traced (fields_of g) g.met.F.Field.laws g.met.EF.Field.laws
    g.met.EF.ExtensionField.lift_law g.met.F.TwoAdicField.roots_law g.met.F.Field.generator_law
    c.args.self.now.fri.log_blowup (λ d. d.shift) (λ d. d.log_size) (λ d. d.nonzero) ms
    c.in_ok-masked.masked.items c.args.evaluations.items c.requires words
    g.F.SampleField.from_word c.args.self.now.num_random_codewords
    (g.R.Rng.stream c.args.self.now.rng) c.in_ok-masked.ensures.masked)
    c.commit_extended.ensures.words c.commit_extended.ensures.data

pub returns-in_err-check_matrices-clause-unmoved : goal.returns-in_err-check_matrices-clause-unmoved
returns-in_err-check_matrices-clause-unmoved g c = in_any_case _ c.from_residual.result refl

pub returns-in_err-masked-clause-unmoved : goal.returns-in_err-masked-clause-unmoved
returns-in_err-masked-clause-unmoved g c =
    memory_alone _ c.from_residual-in_err-masked.result c.from_residual-in_err-masked.ensures

pub returns-clause-unmoved : goal.returns-clause-unmoved
returns-clause-unmoved g c =
    no_other_than_memory _ c.commit_extended.result c.commit_extended.ensures.refused

pub returns-in_err-check_matrices-clause-too_wide : goal.returns-in_err-check_matrices-clause-too_wide
returns-in_err-check_matrices-clause-too_wide g c wide = refl

pub returns-in_err-masked-clause-too_wide : goal.returns-in_err-masked-clause-too_wide
returns-in_err-masked-clause-too_wide g c wide =
    ap (λ rng. record c.args.self.now { rng = rng }) (c.in_err-masked.ensures.too_wide wide)

pub returns-clause-too_wide : goal.returns-clause-too_wide
returns-clause-too_wide g c wide =
    absurd (c.in_ok-masked.ensures.narrow refl wide.0 wide.1 wide.2
    (subst (λ e. IsTooWide c.args.self.now.num_random_codewords e.1) (sym wide.3) wide.4))

-- where nothing is answered nothing is said of the answer
pub returns-in_err-check_matrices-clause-masked : goal.returns-in_err-check_matrices-clause-masked
returns-in_err-check_matrices-clause-masked g c =
    IfOk-from_err c.from_residual.result _ c.from_residual.ensures.0

pub returns-in_err-check_matrices-clause-past : goal.returns-in_err-check_matrices-clause-past
returns-in_err-check_matrices-clause-past g c =
    IfOk-from_err c.from_residual.result _ c.from_residual.ensures.0

pub returns-in_err-check_matrices-clause-data : goal.returns-in_err-check_matrices-clause-data
returns-in_err-check_matrices-clause-data g c =
    IfOk-from_err c.from_residual.result _ c.from_residual.ensures.0

pub returns-in_err-check_matrices-clause-commitment : goal.returns-in_err-check_matrices-clause-commitment
returns-in_err-check_matrices-clause-commitment g c =
    IfOk-from_err c.from_residual.result _ c.from_residual.ensures.0

pub returns-in_err-check_matrices-clause-openable : goal.returns-in_err-check_matrices-clause-openable
returns-in_err-check_matrices-clause-openable g c =
    IfOk-from_err c.from_residual.result _ c.from_residual.ensures.0

pub returns-in_err-check_matrices-clause-honest : goal.returns-in_err-check_matrices-clause-honest
returns-in_err-check_matrices-clause-honest g c =
    IfOk-from_err c.from_residual.result _ c.from_residual.ensures.0

pub returns-in_err-check_matrices-clause-extends : goal.returns-in_err-check_matrices-clause-extends
returns-in_err-check_matrices-clause-extends g c =
    IfOk-from_err c.from_residual.result _ c.from_residual.ensures.0

pub returns-in_err-masked-clause-masked : goal.returns-in_err-masked-clause-masked
returns-in_err-masked-clause-masked g c =
    IfOk-from_err c.from_residual-in_err-masked.result _ c.from_residual-in_err-masked.ensures.0

pub returns-in_err-masked-clause-past : goal.returns-in_err-masked-clause-past
returns-in_err-masked-clause-past g c =
    IfOk-from_err c.from_residual-in_err-masked.result _ c.from_residual-in_err-masked.ensures.0

pub returns-in_err-masked-clause-data : goal.returns-in_err-masked-clause-data
returns-in_err-masked-clause-data g c =
    IfOk-from_err c.from_residual-in_err-masked.result _ c.from_residual-in_err-masked.ensures.0

pub returns-in_err-masked-clause-commitment : goal.returns-in_err-masked-clause-commitment
returns-in_err-masked-clause-commitment g c =
    IfOk-from_err c.from_residual-in_err-masked.result _ c.from_residual-in_err-masked.ensures.0

pub returns-in_err-masked-clause-openable : goal.returns-in_err-masked-clause-openable
returns-in_err-masked-clause-openable g c =
    IfOk-from_err c.from_residual-in_err-masked.result _ c.from_residual-in_err-masked.ensures.0

pub returns-in_err-masked-clause-honest : goal.returns-in_err-masked-clause-honest
returns-in_err-masked-clause-honest g c =
    IfOk-from_err c.from_residual-in_err-masked.result _ c.from_residual-in_err-masked.ensures.0

pub returns-in_err-masked-clause-extends : goal.returns-in_err-masked-clause-extends
returns-in_err-masked-clause-extends g c =
    IfOk-from_err c.from_residual-in_err-masked.result _ c.from_residual-in_err-masked.ensures.0
