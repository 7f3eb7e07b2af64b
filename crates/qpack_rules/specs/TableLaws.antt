-- What a table with marks does to the window that both ends share, as statements; the crate's law functions promise
-- them.
use Rattle.std.specs.Prelude.{◌≡◌, ℕ, Ok}
use Rattle.qpack_spec.specs.Bytes.{◌>>=◌}
use Rattle.qpack_spec.specs.Instruction.{EncoderInstruction}
use Rattle.qpack_spec.specs.Window.{Window, Inserts, Resizes, window_after, apply}
use Rattle.qpack_spec.specs.Table.{Entry, Table, table_of, window, with_entry, with_capacity, apply_encoder_instruction}

-- one more entry is an insertion into the window
abbrev pub EntriesAreInsertions : Type 0
EntriesAreInsertions = (t : Table) (e : Entry) → window (with_entry t e) ≡ window_after (window t) (Inserts e.field)

-- a capacity that is taken is one of the window
abbrev pub CapacitiesAreOfTheWindow : Type 0
CapacitiesAreOfTheWindow = (t u : Table) (n : ℕ) → with_capacity t n ≡ Ok u → window u
    ≡ window_after (window t) (Resizes n)

-- a decoder's table, at which everything is evictable, changes as its window does: it takes and refuses the same
abbrev pub DecodersTableGoesAsItsWindow : Type 0
DecodersTableGoesAsItsWindow =
    (w : Window) (i : EncoderInstruction) → apply_encoder_instruction (table_of w) i
    ≡ (apply w i >>= λ x. Ok (table_of x))
