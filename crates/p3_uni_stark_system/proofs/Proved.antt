-- What is said of elements, said of their numbers.
use Rattle.std.proofs.Common.{◌≡◌, ℕ, Bool, List, map, ap, sym, subst, ◌∙◌, refl, inr}
use Rattle.algebra.specs.Field.{FieldOps}
use Rattle.p3_air.specs.declared.air.Air.{Air}
use Rattle.p3_air.specs.Satisfied.{Assigned}
use Rattle.p3_air_plain.specs.Elements.{assigned_numbers}
use Rattle.p3_air_plain.specs.Forms.{IsFormOf}
use Rattle.p3_air_plain.specs.declared.forms.PlainAir.{PlainAir}
use Rattle.p3_air_plain.specs.declared.forms.PlainLayout.{PlainLayout}
use Rattle.p3_stark_pcs.specs.Scheme.{StarkScheme}
use Rattle.p3_uni_stark_phases.specs.declared.error.ProvingError.{ProvingError}
use Rattle.p3_uni_stark_verifier.specs.declared.proof.Proof.{Proof}
use Rattle.p3_uni_stark_verifier.specs.Setting.{StarkSetting}
use Rattle.p3_uni_stark_system.specs.Keys.{IsKeyOf}
use Rattle.p3_uni_stark_system.specs.Proved.{IsProvedOf, ElementsFault, AssignedFault}
use Rattle.p3_uni_stark_system.specs.Proved.{AreUnproved, ProvingFault}
use Rattle.p3_uni_stark_system.specs.Systems.{SystemNumbers, with_trace, IsAcceptedSystem}
use Rattle.p3_uni_stark_system.specs.declared.error.SystemProvingError.{SystemProvingError}
use Rattle.p3_uni_stark_system.specs.declared.error.SystemProvingError.TheVariants as fault

module _ {V E C Com Dom D Opening Error ProverError : Type 0} (canonical : V → ℕ)
    (S : StarkSetting V E C Com Dom D Opening Error ProverError) (n : SystemNumbers)
    (trace : List (List ℕ)) (air : Air V) (given : Assigned V) where
  pub accepted_numbers : (proof : Proof E Com Opening) (c last : C) → IsFormOf canonical air n.air
      → assigned_numbers canonical given ≡ with_trace n trace → IsProvedOf S air given proof c last
      → IsAcceptedSystem canonical S n proof c last
  accepted_numbers proof c last form numbers h = record {
    key = h.statement.preprocessed;
    is_key = record {
      rows = given.preprocessed;
      are_numbers = ap (λ (a : Assigned ℕ). a.preprocessed) numbers;
      is_key = subst (λ w. IsKeyOf S.scheme S.zk S.IsSubgroup w given.preprocessed
          h.statement.preprocessed) (ap (λ (l : PlainLayout). l.preprocessed_width) form.layout)
          h.is_key;
    };
    accepted = record {
      statement = h.statement;
      are_numbers = record {
        air = subst (λ (a : Air V). IsFormOf canonical a n.air) (sym h.is_of.air_is) form;
        preprocessed = refl;
        periodic = ap (λ (columns : List (List V)). map (map canonical) columns)
            h.is_of.periodic_are ∙ ap (λ (a : Assigned ℕ). a.periodic) numbers;
        public_values = ap (λ (values : List V). map canonical values) h.is_of.values_are
            ∙ ap (λ (a : Assigned ℕ). a.public_values) numbers;
      };
      accepts = h.accepts;
      state = h.state;
    };
  }

module _ {V E Dom D ProverError : Type 0} (t : StarkScheme E V Dom D ProverError) (zk : Bool)
    (IsSubgroup : ℕ → Dom → Type 0) (K : FieldOps V) (two_adicity log_blowup : ℕ) where
  pub fault_of_elements : (Unproved : ProvingError ProverError → Type 0) (air : Air V)
      (given : Assigned V) (e : SystemProvingError ProverError)
      → ElementsFault t zk IsSubgroup Unproved given e
      → AssignedFault t zk IsSubgroup K two_adicity log_blowup Unproved air given e
  fault_of_elements Unproved air given (fault.Preprocessing e) h = h
  fault_of_elements Unproved air given (fault.Proving e) h = inr h
  fault_of_elements Unproved air given fault.OutOfMemory h = tt
  fault_of_elements Unproved air given (fault.Air f) h = absurd h
  fault_of_elements Unproved air given (fault.Element f) h = absurd h
  fault_of_elements Unproved air given (fault.Trace f) h = absurd h
  fault_of_elements Unproved air given fault.NoColumns h = absurd h
  fault_of_elements Unproved air given (fault.TraceHeight height) h = absurd h

  module _ (order : ℕ) (canonical : V → ℕ)
      (Unproved : Air V → Assigned V → ProvingError ProverError → Type 0) (form : PlainAir)
      (numbers : Assigned ℕ) (air : Air V) (given : Assigned V) (is : IsFormOf canonical air form)
      (are : assigned_numbers canonical given ≡ numbers) where
    abbrev Fault : SystemProvingError ProverError → Type 0
    Fault e = AssignedFault t zk IsSubgroup K two_adicity log_blowup (Unproved air given) air given e

    unproved : (e : SystemProvingError ProverError) → Fault e
        → AreUnproved t zk IsSubgroup K two_adicity log_blowup order canonical Unproved form numbers
        e
    unproved e h = record {
      air = air;
      is_form = is;
      given = given;
      are_numbers = are;
      refused = h;
    }

    pub fault_of_numbers : (e : SystemProvingError ProverError) → Fault e
        → ProvingFault t zk IsSubgroup K two_adicity log_blowup order canonical Unproved form
        numbers e
    fault_of_numbers (fault.Air f) h = absurd h
    fault_of_numbers (fault.Element f) h = absurd h
    fault_of_numbers (fault.Trace f) h = unproved (fault.Trace f) h
    fault_of_numbers fault.NoColumns h = unproved fault.NoColumns h
    fault_of_numbers (fault.TraceHeight height) h = unproved (fault.TraceHeight height) h
    fault_of_numbers (fault.Preprocessing e) h = unproved (fault.Preprocessing e) h
    fault_of_numbers (fault.Proving e) h = unproved (fault.Proving e) h
    fault_of_numbers fault.OutOfMemory h = unproved fault.OutOfMemory tt
