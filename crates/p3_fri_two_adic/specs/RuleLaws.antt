-- What holds of the scheme's rules.
use Rattle.std.specs.Prelude.{ℕ}
use Rattle.std.proofs.Common.{refl}
use Rattle.p3_pcs.specs.Scheme.{IsLawful}
use Rattle.p3_stark_pcs.specs.Scheme.{IsLawfulStark, IsPlain}
use Rattle.p3_fri_opening_prover.specs.Setting.{OpeningSetting, StandsOnCosets, held}
use Rattle.p3_fri_two_adic.specs.ErrorLaws.{memory_cases}
use Rattle.p3_fri_two_adic.specs.EvaluationLaws.{extended_columns, is_matrix_of, words_at}
use Rattle.p3_fri_two_adic.specs.EvaluationLaws.{all_shown}
use Rattle.p3_fri_two_adic.specs.Rules.{two_adic_rules, two_adic_stark_rules}
use Rattle.p3_fri_two_adic.specs.UnivariateLaws.{trace_heights, openable_at}

module _ {F E C D Data Domain Com Path InCom InPath M InM A B X : Type 0} (shift : Domain → F)
    (log_size : Domain → ℕ) (r : OpeningSetting F E C D Data Com Path InCom InPath) where
  pub two_adic_lawful : IsLawful
      (two_adic_rules {M = M} {InM = InM} {A = A} {B = B} {X = X} shift log_size r)
  two_adic_lawful = record {
    extends_size = λ m e h. h.polynomials.size;
    extends_columns = λ m e h. extended_columns r.setting.fields (shift e.0) (log_size e.0) e.1 m h;
    opened_commitment = λ d. refl;
    opened_polynomials = λ d. refl;
    opened_honest = λ d h. h;
    memory = memory_cases;
  }

  pub two_adic_lawful_stark : IsLawfulStark
      (two_adic_rules {M = M} {InM = InM} {A = A} {B = B} {X = X} shift log_size r)
      (two_adic_stark_rules shift log_size r)
  two_adic_lawful_stark = record {
    heights = λ n. trace_heights r.setting.fields.two_adicity n;
    openable = λ index asked h.
        openable_at (λ d. StandsOnCosets r d) (λ d. held r d) index asked h;
    openable_readable = λ d h. h;
    preprocessed_readable = λ d h. h;
    opened_readable = λ d h. h;
    preprocessed_again = λ d h. h;
    evaluable = λ d index domain readable columns. is_matrix_of r.setting.fields
        r.parameters.log_blowup (r.committed d) index readable columns;
    evaluable_whole = λ d index domain readable columns. is_matrix_of r.setting.fields
        r.parameters.log_blowup (r.committed d) index readable columns;
    honest_at = λ d index honest below. words_at r.setting.fields r.parameters.log_blowup
        (r.committed d) index honest below;
    whole = λ d. all_shown (held r d);
  }

  pub two_adic_plain : IsPlain
      (two_adic_rules {M = M} {InM = InM} {A = A} {B = B} {X = X} shift log_size r)
      (two_adic_stark_rules shift log_size r)
  two_adic_plain = record {
    of_data = λ d. ((λ h. h), (λ h. h));
    commit = λ evaluations e. ((λ h. h), (λ h. h));
    openable = λ index asked h. h;
    checks = λ index asked. ((λ h. h), (λ h. h));
    refuses = λ index c asked e. ((λ h. h), (λ h. h));
    accepts = λ index c claims proof. ((λ h. h), (λ h. h));
    state = λ index c claims proof. refl;
    faults = λ index claims proof c e. ((λ h. h), (λ h. h));
    evaluable = λ d index domain. ((λ h. h), (λ h. h));
    whole = λ d. refl;
  }
