-- What a handle keeps once it was borrowed.
use base.Fml.{Fml}
use denote.Follow.{follows}
use Rattle.std.specs.Borrow.{MutBor}
use Rattle.h3_qpack_c.specs.declared.reader.State.{State}
use Rattle.h3_qpack_c.specs.contracts.reader.State as held
use Rattle.h3_qpack_c.specs.declared.reader.Handle.{Handle}
use Rattle.h3_qpack_c.specs.contracts.reader.Handle as handle

-- the handle with another value
abbrev pub with_value : Handle → State → Handle
with_value h w = record h { value = w }

-- once the borrow r ends, what the handle h keeps is the last value written through r
abbrev pub handle_follows : MutBor Handle → MutBor State → Fml
handle_follows h r = follows handle.the_row held.the_row h.ghost_name r.ghost_name (with_value h.now)
