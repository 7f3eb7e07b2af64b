-- The right to free a block of the heap.
use mir.Syntax.{Ty}
use base.Fml.{Fml}
use denote.RawPtr.{Ptr}
use Rattle.std.specs.Global.{Global}
use Rattle.std.specs.contracts.impls.GlobalAllocator.TheImpl.{ghosts}

-- the heap, of which there is one
abbrev the_heap : Global
the_heap = record { memory = record { seal = tt } }

-- the right to free the block at a pointer, which is of this type
abbrev pub token : Ty → Ptr → Fml
token = ghosts.dealloc_token the_heap
