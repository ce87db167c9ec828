-- A handle and its parts own what a box at the same types owns.
use mir.Syntax.{impl, tnil, dnil}
use mathlib.Core.List.{[]}
use Rattle.std.proofs.Common.{◌≡◌, refl, IsSome, None, Some, Option}
use Rattle.std.proofs.lemmas.Bool.{false≢true}
use denote.Signature.{Slot, plain}
use Rattle.std.proofs.BoxSteps.Form.{Bx, X}
use Rattle.std.specs.contracts.alloc.Global as Heap
use Rattle.std.specs.contracts.impls.GlobalAllocator.TheImpl.{ghosts, dict}
use Rattle.std.proofs.alloc.Global.TheLaws as heap
use Rattle.p3_fri_ffi.specs.contracts.any_prover.AnyProver as Any
use Rattle.p3_fri_ffi.proofs.any_prover.AnyProver.TheLaws as any
use Rattle.p3_fri_ffi.specs.contracts.parts.Parts as Parts
use Rattle.p3_fri_ffi.specs.contracts.held.Held as Held

abbrev pub E : Bx
E = record { row = Any.the_row; laws = any.the_row_laws; al = record { row = Heap.the_row; laws = heap.the_row_laws; g = ghosts; d = dict; drops = impl [] tnil dnil } }

abbrev pub FromParts : Slot 0
FromParts = plain (λ _. Parts.the_row Any.the_row Heap.the_row ghosts)

abbrev pub FromHeld : Slot 0
FromHeld = plain (λ _. Held.the_row)

abbrev pub FromHeap : Slot 0
FromHeap = plain (λ _. Heap.the_row)

abbrev pub held_value : (s : Option (X E)) → IsSome s → X E
held_value None some = absurd (false≢true some)
held_value (Some x) some = x

pub is_held : (s : Option (X E)) (some : IsSome s) → s ≡ Some (held_value s some)
is_held None some = absurd (false≢true some)
is_held (Some x) some = refl
