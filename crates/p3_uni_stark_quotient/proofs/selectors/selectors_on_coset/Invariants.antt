use Rattle.std.proofs.Common.{◌≡◌, ℕ, ◌<◌, ◌^◌, length, slice_index_or}
use Rattle.p3_field_core.specs.Coset.{coset_point}
use Rattle.p3_uni_stark_identity.specs.declared.selectors.LagrangeSelectors.{LagrangeSelectors}
use Rattle.p3_uni_stark_identity.specs.Selectors.{AreSelectorsAt}
use Rattle.p3_uni_stark_quotient.proofs.selectors.selectors_on_coset.Given as goal

-- the selectors of the points so far
abbrev pub invariant-loop-i : goal.invariant-loop-i
invariant-loop-i g l =
    record {
      len : length l.selectors.items ≡ l.i;
      each : (j : ℕ) (d : LagrangeSelectors g.row.F.Denot) → j < l.i
          → AreSelectorsAt g.F.Field.ops (g.F.TwoAdicField.root l.fn.log_size) (2 ^ l.fn.log_size)
          (coset_point g.F.Field.ops (g.F.TwoAdicField.root l.fn.coset.log_size)
          l.fn.coset.shift j) (slice_index_or l.selectors.items j d);
    }
