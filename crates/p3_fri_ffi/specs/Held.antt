-- What a handle owns.
use Rattle.std.specs.declared.option.Option.{Option}
use Rattle.std.specs.declared.option.Option.TheVariants.{None, Some}
use base.Fml.{Fml, ftrue}
use denote.RawPtr.{Ptr}
use Rattle.std.specs.Box.Ownership.{box_owns}
use Rattle.std.specs.Global.{Global}
use Rattle.std.specs.contracts.impls.GlobalAllocator.TheImpl.{ghosts}
use Rattle.p3_fri_ffi.specs.contracts.any_prover.AnyProver.{the_row}

-- a prover, where there is one: what a box of it owns at this pointer
abbrev pub held_owns : Global → Ptr → Option the_row.Denot → Fml
held_owns alloc p None = ftrue
held_owns alloc p (Some prover) = box_owns (ghosts.dealloc_token alloc) the_row p prover
