-- Statements of a system, by what it is held against.
use Rattle.std.proofs.Common.{◌≡◌, ◌==◌, ℕ, List, length, not, ap, sym, subst, ◌∙◌}
use Rattle.std.proofs.Common.{Option}
use Rattle.std.specs.Option.{is_some}
use Rattle.std.specs.declared.alloc.Global.{Global}
use Rattle.std.specs.declared.vec.Vec.{Vec}
use Rattle.p3_air.specs.declared.air.Air.{Air}
use Rattle.p3_air.specs.WellFormed.{IsWellFormed}
use Rattle.p3_pcs.specs.Scheme.{Scheme}
use Rattle.p3_stark_pcs.specs.Scheme.{StarkScheme}
use Rattle.p3_uni_stark_verifier.specs.declared.proof.PreprocessedVerifierKey.{
  PreprocessedVerifierKey,
}
use Rattle.p3_uni_stark_verifier.specs.declared.proof.Statement.{Statement}
use Rattle.p3_uni_stark_prover.specs.Held.{HoldPreprocessed}
use Rattle.p3_uni_stark_prover.specs.Provable.{IsProvable}

module _ {V Com : Type 0} (s : Statement V Com) (air : Air V)
    (key : Option (PreprocessedVerifierKey Com)) (is : s.air.now ≡ air)
    (known : s.preprocessed ≡ key) where
  -- with as much of each as the system speaks of
  pub provable : (values : List V) (columns : List (Vec V Global))
      → s.public_values.now ≡ values → s.periodic.now ≡ columns → IsWellFormed air
      → length values ≡ air.layout.num_public_values
      → length columns ≡ air.layout.num_periodic_columns
      → is_some key ≡ not (air.layout.preprocessed_width == 0) → IsProvable s
  provable values columns v p formed publics periods some = record {
    well_formed = subst (λ a. IsWellFormed a) (sym is) formed;
    public_count = ap length v ∙ publics ∙ ap (λ a. a.layout.num_public_values) (sym is);
    periodic_count = ap length p ∙ periods ∙ ap (λ a. a.layout.num_periodic_columns) (sym is);
    preprocessed = ap is_some known ∙ some
        ∙ ap (λ a. not (a.layout.preprocessed_width == 0)) (sym is);
  }

  module _ {E C Dom D Opening Error ProverError : Type 0}
      (r : Scheme E C V Dom Com D Opening Error ProverError)
      (t : StarkScheme E V Dom D ProverError) (IsDomain : Dom → Type 0) (k : ℕ)
      (d : Option D) where
    pub held : HoldPreprocessed r t IsDomain k air.layout.preprocessed_width key d
        → HoldPreprocessed r t IsDomain k s.air.now.layout.preprocessed_width s.preprocessed d
    held h = subst
        (λ a. HoldPreprocessed r t IsDomain k a.layout.preprocessed_width s.preprocessed d)
        (sym is)
        (subst (λ x. HoldPreprocessed r t IsDomain k air.layout.preprocessed_width x d) (sym known)
        h)
