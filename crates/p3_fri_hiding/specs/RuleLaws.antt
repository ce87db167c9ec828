-- What holds of the scheme's rules.
use Rattle.std.specs.Prelude.{ℕ, List}
use Rattle.std.proofs.Common.{refl}
use Rattle.p3_pcs.specs.Scheme.{IsLawful}
use Rattle.p3_stark_pcs.specs.Scheme.{IsLawfulStark}
use Rattle.p3_fri_relation.specs.Setting.{Proof}
use Rattle.p3_fri_hiding_openings.specs.declared.data.HidingFriPcsProverData.{HidingFriPcsProverData}
use Rattle.p3_fri_hiding_openings.specs.Data.{IsOfScheme}
use Rattle.p3_fri_hiding_openings.specs.ErrorLaws.{memory_cases}
use Rattle.p3_fri_hiding_openings.specs.Requests.{after_opening}
use Rattle.p3_fri_hiding_openings.specs.Setting.{OpeningSetting}
use Rattle.p3_fri_hiding_openings.specs.UnivariateLaws.{trace_heights}
use Rattle.p3_fri_hiding.specs.ReadingLaws.{traced_columns, readable, whole_readable}
use Rattle.p3_fri_hiding.specs.ReadingLaws.{shown_words_at, shown_first}
use Rattle.p3_fri_hiding.specs.Rules.{hiding_rules, hiding_stark_rules}

module _ {F E C D Data Com Path InCom InPath : Type 0} (num_random : ℕ)
    (r : OpeningSetting F E C D Data Com Path InCom InPath) where
  -- an opening leaves data of the scheme
  opened_of_scheme : (d : HidingFriPcsProverData D)
      → IsOfScheme r.setting.fields r.committed r.parameters.log_blowup num_random d
      → IsOfScheme r.setting.fields r.committed r.parameters.log_blowup num_random
      (after_opening d)
  opened_of_scheme d h = record {
    codewords = h.codewords;
    blowup = h.blowup;
    cosets = h.cosets;
  }

module _ {F E C D Data Domain Com Path InCom InPath Shown A B : Type 0} (shift : Domain → F)
    (log_size : Domain → ℕ) (random_of : Shown → List (List (List (List E))))
    (proof_of : Shown → Proof F E Com Path InPath) (num_random : ℕ)
    (r : OpeningSetting F E C D Data Com Path InCom InPath) where
  pub hiding_lawful : IsLawful
      (hiding_rules {A = A} {B = B} shift log_size random_of proof_of num_random r)
  hiding_lawful = record {
    extends_size = λ m e h. h.size;
    extends_columns = λ m e h.
        traced_columns r.setting.fields (shift e.0) (log_size e.0) e.1 m h;
    opened_commitment = λ d. refl;
    opened_polynomials = λ d. refl;
    opened_honest = λ d h. h;
    memory = memory_cases;
  }

  pub hiding_lawful_stark : (from_word : ℕ → F) → IsLawfulStark
      (hiding_rules {A = A} {B = B} shift log_size random_of proof_of num_random r)
      (hiding_stark_rules shift log_size num_random r from_word)
  hiding_lawful_stark from_word = record {
    heights = λ n. trace_heights r.setting.fields.two_adicity n;
    openable = λ index asked h. h;
    openable_readable = λ d h. h.of_scheme;
    preprocessed_readable = λ d h. h.of_scheme;
    opened_readable = λ d h. opened_of_scheme num_random r d h;
    preprocessed_again = λ d h. record {
      of_scheme = opened_of_scheme num_random r d h.of_scheme;
      public = h.public;
    };
    evaluable = λ d index domain of_scheme columns. readable r.setting.fields r.committed
        r.parameters.log_blowup num_random d index of_scheme columns;
    evaluable_whole = λ d index domain of_scheme columns. whole_readable r.setting.fields
        r.committed r.parameters.log_blowup num_random d index of_scheme columns;
    honest_at = λ d index honest below. shown_words_at r.setting.fields r.committed
        r.parameters.log_blowup num_random d index honest below;
    whole = λ d. shown_first r.setting.fields r.committed r.parameters.log_blowup num_random d;
  }
