-- Where the plain scheme has room for a trace and its quotient.
use Rattle.std.specs.Prelude.{◌≡◌, ◌≤◌, ℕ, ◌+◌, ◌^◌, [], ◌∷◌, false}
use Rattle.std.proofs.Common.{sym, ap, ◌∙◌, arith}
use Rattle.algebra.proofs.Lists.{All_from_each}
use Rattle.p3_matrix.specs.declared.dense.RowMajorMatrix.{RowMajorMatrix}
use Rattle.p3_fri_extensions.specs.Extension.{FitsDomain}
use Rattle.p3_fri_opening_prover.specs.Setting.{OpeningSetting}
use Rattle.p3_fri_two_adic.specs.Rules.{two_adic_rules, two_adic_stark_rules}
use Rattle.p3_uni_stark_pcs.specs.Rooms.{HasRoom}
use Rattle.p3_uni_stark_pcs.specs.Fields.{stark_fields}

module _ {F E C D Data Domain Com Path InCom InPath M InM A B X : Type 0}
    (basis : ℕ → E) (canonical : F → ℕ) (shift : Domain → F) (log_size : Domain → ℕ)
    (r : OpeningSetting F E C D Data Com Path InCom InPath) (k log : ℕ) where
  pub plain_room : k + 0 + r.parameters.log_blowup ≤ r.setting.fields.two_adicity
      → HasRoom (stark_fields r.setting.fields basis canonical) shift log_size false
      (two_adic_rules {M = M} {InM = InM} {A = A} {B = B} {X = X} shift log_size r)
      (two_adic_stark_rules shift log_size r) k log
  plain_room extended = record {
    trace = λ domain matrix is tall.
        let size : log_size domain ≡ k = omega (arith, is) in
        All_from_each (λ (e : Domain × RowMajorMatrix F). FitsDomain r.setting.fields.two_adicity
        r.parameters.log_blowup (log_size e.0) e.1) ((domain, matrix) ∷ []) (
          record {
            height = tall ∙ ap (λ n. 2 ^ n) (sym size);
            within = omega (arith, size, extended);
          },
          tt,
        );
    chunks = λ chunks pairs i e l.
        let size = pairs.sizes i e l in record {
          height = pairs.heights i e l ∙ ap (λ n. 2 ^ n) (sym size);
          within = omega (arith, size, extended);
        };
    random = λ domain is. tt;
  }
