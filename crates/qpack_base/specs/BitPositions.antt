-- Places in a payload.
use Rattle.std.specs.Prelude.{ℕ, ◌+◌, ◌*◌}
use Rattle.qpack_base.specs.declared.prefix_string.bitwin.BitWindow.{BitWindow}

-- the position of a window, in bits from the front
abbrev pub position_of : BitWindow → ℕ
position_of w = 8 * w.byte + w.bit
