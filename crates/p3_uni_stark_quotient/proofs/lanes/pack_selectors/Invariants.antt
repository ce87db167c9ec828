use Rattle.std.proofs.Common.{◌≡◌, ◌+◌, ℕ, ◌<◌, slice_index_or}
use Rattle.p3_uni_stark_identity.specs.declared.selectors.LagrangeSelectors.{LagrangeSelectors}
use Rattle.p3_uni_stark_quotient.proofs.lanes.pack_selectors.Given as goal

-- the selectors in the lanes so far
abbrev pub invariant-loop-lane : goal.invariant-loop-lane
invariant-loop-lane g l = (k : ℕ) (s : LagrangeSelectors g.row.F.Denot) → k < l.lane
    → record {
      first : g.P.PackedField.lane l.first k ≡ (slice_index_or l.fn.selectors (l.fn.start + k) s).is_first_row;
      last : g.P.PackedField.lane l.last k ≡ (slice_index_or l.fn.selectors (l.fn.start + k) s).is_last_row;
      transition : g.P.PackedField.lane l.transition k
          ≡ (slice_index_or l.fn.selectors (l.fn.start + k) s).is_transition;
      inverse : g.P.PackedField.lane l.inverse k
          ≡ (slice_index_or l.fn.selectors (l.fn.start + k) s).inv_vanishing;
    }
