use Rattle.std.proofs.Common.{◌+◌, ◌/◌, ◌^◌, false, map, ap, arith, refl}
use Rattle.std.proofs.lemmas.Result.{IfOk-from_err}
use Rattle.p3_stark_pcs.specs.Evaluations.{HasShape}
use Rattle.p3_fri_relation.specs.Setting.{Fields}
use Rattle.p3_fri_hiding.proofs.Committed.{random_all_fit, random_wide, random_shaped}
use Rattle.p3_fri_hiding.proofs.NewData.{zip_shown}
use Rattle.p3_fri_hiding.proofs.Refused.{budget_refused, memory_refused, fit_of, misfit_of}
use Rattle.p3_fri_hiding.proofs.Refused.{memory_alone, memory_handed_on, in_any_case}
use Rattle.p3_fri_hiding.proofs.hiding_pcs.HidingFriPcs.get_opt_randomization_poly_commitment.Given.{Over}
use Rattle.p3_fri_hiding.proofs.hiding_pcs.HidingFriPcs.get_opt_randomization_poly_commitment.Goals as goal

abbrev fields_of : (g : Over) → Fields g.row.F.Denot g.row.EF.Denot
fields_of g = record {
  base = g.F.Field.ops;
  ext = g.EF.Field.ops;
  lift = g.EF.ExtensionField.lift;
  coefficients = g.EF.ExtensionField.coefficients;
  degree = g.EF.ExtensionField.DIMENSION;
  root = g.F.TwoAdicField.root;
  two_adicity = g.F.TwoAdicField.TWO_ADICITY;
  shift = g.F.Field.GENERATOR;
}

pub returns-in_err-check_domains-clause-refused : goal.returns-in_err-check_domains-clause-refused
returns-in_err-check_domains-clause-refused g c =
    budget_refused c.args.self.now.num_random_codewords c.args.self.now.fri.num_queries
    g.EF.ExtensionField.DIMENSION (map (λ d. 2 ^ d.log_size / 2) c.args.domains.items)
    c.from_residual.result c.in_err-check_domains.field-0.0 c.from_residual.ensures
    (misfit_of c.args.self.now.num_random_codewords c.args.self.now.fri.num_queries _ _
    c.DIMENSION.ensures _ _ c.deref.ensures.value (λ d. 2 ^ d.log_size / 2) c.in_err-check_domains.field-0.0
    c.in_err-check_domains.ensures)

pub returns-in_err-random-clause-refused : goal.returns-in_err-random-clause-refused
returns-in_err-random-clause-refused g c =
    memory_refused c.args.self.now.num_random_codewords c.args.self.now.fri.num_queries
    g.EF.ExtensionField.DIMENSION (map (λ d. 2 ^ d.log_size / 2) c.args.domains.items)
    c.from_residual-in_err-random.result c.from_residual-in_err-random.ensures
    (fit_of c.args.self.now.num_random_codewords c.args.self.now.fri.num_queries _ _
    c.DIMENSION.ensures _ _ c.deref.ensures.value (λ d. 2 ^ d.log_size / 2) c.in_ok-check_domains.ensures)

pub returns-clause-budget : goal.returns-clause-budget
returns-clause-budget g c ok =
    fit_of c.args.self.now.num_random_codewords c.args.self.now.fri.num_queries _ _
    c.DIMENSION.ensures _ _ c.deref.ensures.value (λ d. 2 ^ d.log_size / 2) c.in_ok-check_domains.ensures

pub returns-in_err-pair-clause-refused : goal.returns-in_err-pair-clause-refused
returns-in_err-pair-clause-refused g c =
    memory_refused c.args.self.now.num_random_codewords c.args.self.now.fri.num_queries
    g.EF.ExtensionField.DIMENSION (map (λ d. 2 ^ d.log_size / 2) c.args.domains.items)
    c.from_residual-in_err-pair.result
    (memory_handed_on c.from_residual-in_err-pair.result c.in_err-pair.field-0.0
    c.from_residual-in_err-pair.ensures c.in_err-pair.ensures.refused)
    (fit_of c.args.self.now.num_random_codewords c.args.self.now.fri.num_queries _ _
    c.DIMENSION.ensures _ _ c.deref.ensures.value (λ d. 2 ^ d.log_size / 2) c.in_ok-check_domains.ensures)

pub commit_extended-requires-clause-heights : goal.commit_extended-requires-clause-heights
commit_extended-requires-clause-heights g c i d below =
    (random_all_fit g.F.SampleField.from_word (λ d. d.log_size)
    (c.args.self.now.num_random_codewords + g.EF.ExtensionField.DIMENSION)
    g.F.TwoAdicField.TWO_ADICITY c.args.self.now.fri.log_blowup c.args.domains.items c.requires
    c.in_ok-random.random.items (g.R.Rng.stream c.args.self.now.rng)
    c.in_ok-random.ensures.random i d below).height

pub commit_extended-requires-clause-within : goal.commit_extended-requires-clause-within
commit_extended-requires-clause-within g c i d below =
    (random_all_fit g.F.SampleField.from_word (λ d. d.log_size)
    (c.args.self.now.num_random_codewords + g.EF.ExtensionField.DIMENSION)
    g.F.TwoAdicField.TWO_ADICITY c.args.self.now.fri.log_blowup c.args.domains.items c.requires
    c.in_ok-random.random.items (g.R.Rng.stream c.args.self.now.rng)
    c.in_ok-random.ensures.random i d below).within

pub returns-clause-random : goal.returns-clause-random
returns-clause-random g c = record {
  random = c.in_ok-random.random.items;
  values = c.in_ok-random.ensures.random;
  words = c.in_ok-pair.ensures.words;
}

pub returns-clause-openable : goal.returns-clause-openable
returns-clause-openable g c = record {
  of_scheme = c.in_ok-pair.ensures.of_scheme;
  wide = random_wide g.F.SampleField.from_word (λ d. d.log_size)
      (c.args.self.now.num_random_codewords + g.EF.ExtensionField.DIMENSION)
      g.F.TwoAdicField.TWO_ADICITY c.args.self.now.fri.log_blowup c.args.domains.items c.requires
      c.in_ok-random.random.items (g.R.Rng.stream c.args.self.now.rng)
      c.in_ok-random.ensures.random
      (fields_of g) (λ d. d.shift) c.args.self.now.num_random_codewords (omega arith)
      (g.InputMmcs.Mmcs.committed c.in_ok-pair.pair.1.inner) c.in_ok-pair.ensures.words;
  private = c.in_ok-pair.ensures.data.kind;
  unopened = c.in_ok-pair.ensures.data.unopened;
}

pub returns-clause-shapes : goal.returns-clause-shapes
returns-clause-shapes g c =
    let r = c.args.self.now.num_random_codewords in
    let pair = c.in_ok-pair.pair in
    zip_shown (fields_of g) g.InputMmcs.Mmcs.committed c.args.self.now.fri.log_blowup r pair.1 pair.1.inner refl
    (λ m d. HasShape (2 ^ d.log_size) g.EF.ExtensionField.DIMENSION m) c.args.domains.items false
    c.in_ok-pair.ensures.data.kind
    (random_shaped (fields_of g) g.met.F.Field.laws g.met.EF.Field.laws g.met.EF.ExtensionField.lift_law
    g.met.F.TwoAdicField.roots_law g.met.F.Field.generator_law c.args.self.now.fri.log_blowup (λ d. d.shift)
    (λ d. d.log_size) (λ d. d.nonzero) g.F.SampleField.from_word r g.EF.ExtensionField.DIMENSION
    c.args.domains.items c.requires c.in_ok-random.random.items (g.R.Rng.stream c.args.self.now.rng)
    c.in_ok-random.ensures.random (g.InputMmcs.Mmcs.committed pair.1.inner) c.in_ok-pair.ensures.words)

pub returns-in_err-check_domains-clause-too_wide : goal.returns-in_err-check_domains-clause-too_wide
returns-in_err-check_domains-clause-too_wide g c wide = refl

pub returns-in_err-random-clause-too_wide : goal.returns-in_err-random-clause-too_wide
returns-in_err-random-clause-too_wide g c wide =
    ap (λ rng. record c.args.self.now { rng = rng }) (c.in_err-random.ensures.too_wide wide)

pub returns-in_err-pair-clause-too_wide : goal.returns-in_err-pair-clause-too_wide
returns-in_err-pair-clause-too_wide g c wide =
    ap (λ rng. record c.args.self.now { rng = rng }) (c.in_ok-random.ensures.too_wide wide)

pub returns-clause-too_wide : goal.returns-clause-too_wide
returns-clause-too_wide g c wide =
    ap (λ rng. record c.args.self.now { rng = rng }) (c.in_ok-random.ensures.too_wide wide)

pub returns-in_err-check_domains-clause-unmoved : goal.returns-in_err-check_domains-clause-unmoved
returns-in_err-check_domains-clause-unmoved g c = in_any_case _ c.from_residual.result refl

pub returns-in_err-random-clause-unmoved : goal.returns-in_err-random-clause-unmoved
returns-in_err-random-clause-unmoved g c =
    memory_alone _ c.from_residual-in_err-random.result c.from_residual-in_err-random.ensures

pub returns-in_err-pair-clause-unmoved : goal.returns-in_err-pair-clause-unmoved
returns-in_err-pair-clause-unmoved g c =
    memory_alone _ c.from_residual-in_err-pair.result
    (memory_handed_on c.from_residual-in_err-pair.result c.in_err-pair.field-0.0
    c.from_residual-in_err-pair.ensures c.in_err-pair.ensures.refused)

-- where nothing is answered nothing is said of the answer
pub returns-in_err-check_domains-clause-some : goal.returns-in_err-check_domains-clause-some
returns-in_err-check_domains-clause-some g c =
    IfOk-from_err c.from_residual.result _ c.from_residual.ensures.0

pub returns-in_err-check_domains-clause-random : goal.returns-in_err-check_domains-clause-random
returns-in_err-check_domains-clause-random g c =
    IfOk-from_err c.from_residual.result _ c.from_residual.ensures.0

pub returns-in_err-check_domains-clause-past : goal.returns-in_err-check_domains-clause-past
returns-in_err-check_domains-clause-past g c =
    IfOk-from_err c.from_residual.result _ c.from_residual.ensures.0

pub returns-in_err-check_domains-clause-data : goal.returns-in_err-check_domains-clause-data
returns-in_err-check_domains-clause-data g c =
    IfOk-from_err c.from_residual.result _ c.from_residual.ensures.0

pub returns-in_err-check_domains-clause-commitment : goal.returns-in_err-check_domains-clause-commitment
returns-in_err-check_domains-clause-commitment g c =
    IfOk-from_err c.from_residual.result _ c.from_residual.ensures.0

pub returns-in_err-check_domains-clause-openable : goal.returns-in_err-check_domains-clause-openable
returns-in_err-check_domains-clause-openable g c =
    IfOk-from_err c.from_residual.result _ c.from_residual.ensures.0

pub returns-in_err-check_domains-clause-honest : goal.returns-in_err-check_domains-clause-honest
returns-in_err-check_domains-clause-honest g c =
    IfOk-from_err c.from_residual.result _ c.from_residual.ensures.0

pub returns-in_err-check_domains-clause-shapes : goal.returns-in_err-check_domains-clause-shapes
returns-in_err-check_domains-clause-shapes g c =
    IfOk-from_err c.from_residual.result _ c.from_residual.ensures.0

pub returns-in_err-random-clause-shapes : goal.returns-in_err-random-clause-shapes
returns-in_err-random-clause-shapes g c =
    IfOk-from_err c.from_residual-in_err-random.result _ c.from_residual-in_err-random.ensures.0

pub returns-in_err-pair-clause-shapes : goal.returns-in_err-pair-clause-shapes
returns-in_err-pair-clause-shapes g c =
    IfOk-from_err c.from_residual-in_err-pair.result _ c.from_residual-in_err-pair.ensures.0

pub returns-in_err-random-clause-some : goal.returns-in_err-random-clause-some
returns-in_err-random-clause-some g c =
    IfOk-from_err c.from_residual-in_err-random.result _ c.from_residual-in_err-random.ensures.0

pub returns-in_err-random-clause-random : goal.returns-in_err-random-clause-random
returns-in_err-random-clause-random g c =
    IfOk-from_err c.from_residual-in_err-random.result _ c.from_residual-in_err-random.ensures.0

pub returns-in_err-random-clause-past : goal.returns-in_err-random-clause-past
returns-in_err-random-clause-past g c =
    IfOk-from_err c.from_residual-in_err-random.result _ c.from_residual-in_err-random.ensures.0

pub returns-in_err-random-clause-data : goal.returns-in_err-random-clause-data
returns-in_err-random-clause-data g c =
    IfOk-from_err c.from_residual-in_err-random.result _ c.from_residual-in_err-random.ensures.0

pub returns-in_err-random-clause-commitment : goal.returns-in_err-random-clause-commitment
returns-in_err-random-clause-commitment g c =
    IfOk-from_err c.from_residual-in_err-random.result _ c.from_residual-in_err-random.ensures.0

pub returns-in_err-random-clause-openable : goal.returns-in_err-random-clause-openable
returns-in_err-random-clause-openable g c =
    IfOk-from_err c.from_residual-in_err-random.result _ c.from_residual-in_err-random.ensures.0

pub returns-in_err-random-clause-honest : goal.returns-in_err-random-clause-honest
returns-in_err-random-clause-honest g c =
    IfOk-from_err c.from_residual-in_err-random.result _ c.from_residual-in_err-random.ensures.0

pub returns-in_err-pair-clause-some : goal.returns-in_err-pair-clause-some
returns-in_err-pair-clause-some g c =
    IfOk-from_err c.from_residual-in_err-pair.result _ c.from_residual-in_err-pair.ensures.0

pub returns-in_err-pair-clause-random : goal.returns-in_err-pair-clause-random
returns-in_err-pair-clause-random g c =
    IfOk-from_err c.from_residual-in_err-pair.result _ c.from_residual-in_err-pair.ensures.0

pub returns-in_err-pair-clause-past : goal.returns-in_err-pair-clause-past
returns-in_err-pair-clause-past g c =
    IfOk-from_err c.from_residual-in_err-pair.result _ c.from_residual-in_err-pair.ensures.0

pub returns-in_err-pair-clause-data : goal.returns-in_err-pair-clause-data
returns-in_err-pair-clause-data g c =
    IfOk-from_err c.from_residual-in_err-pair.result _ c.from_residual-in_err-pair.ensures.0

pub returns-in_err-pair-clause-commitment : goal.returns-in_err-pair-clause-commitment
returns-in_err-pair-clause-commitment g c =
    IfOk-from_err c.from_residual-in_err-pair.result _ c.from_residual-in_err-pair.ensures.0

pub returns-in_err-pair-clause-openable : goal.returns-in_err-pair-clause-openable
returns-in_err-pair-clause-openable g c =
    IfOk-from_err c.from_residual-in_err-pair.result _ c.from_residual-in_err-pair.ensures.0

pub returns-in_err-pair-clause-honest : goal.returns-in_err-pair-clause-honest
returns-in_err-pair-clause-honest g c =
    IfOk-from_err c.from_residual-in_err-pair.result _ c.from_residual-in_err-pair.ensures.0

pub returns-clause-refused : goal.returns-clause-refused
returns-clause-refused g c = tt

pub returns-clause-unmoved : goal.returns-clause-unmoved
returns-clause-unmoved g c = tt
