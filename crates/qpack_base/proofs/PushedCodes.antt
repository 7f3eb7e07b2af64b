-- Codes that are passed, and their bytes appended where there is room for what is ahead.
use Rattle.std.proofs.Common.{◌≡◌, ℕ, ◌+◌, ◌-◌, ◌/◌, ◌^◌, List, ◌++◌, length}
use Rattle.std.proofs.Common.{vec_len, vec_capacity, refl, sym, ap, ◌∙◌, arith}
use Rattle.std.specs.declared.vec.Vec.{Vec}
use Rattle.qpack_spec.specs.Huffman.{bits_of, bits_of_bytes}
use Rattle.qpack_base.specs.declared.prefix_string.ahead.Ahead.{Ahead}
use Rattle.qpack_base.specs.Payloads.{bits_ahead, IsAhead, BeginsCodes, FitsAhead, PushesCodes}
use Rattle.qpack_base.proofs.CodeRoom.{room_for_codes, room_after}
use Rattle.qpack_base.proofs.WholeCodes.{passes_on}

abbrev number_of : Ahead → ℕ
number_of a = a.loaded / 2 ^ (64 - a.count)

pub codes_pushed : {A : Type 0} (old new : Ahead) (text longer : Vec ℕ A) (bits : ℕ) (bytes : List ℕ)
    → BeginsCodes old.count (old.loaded / 2 ^ (64 - old.count)) bits bytes → FitsAhead old text
    → bits_ahead old ≡ bits_of bits (old.loaded / 2 ^ (64 - old.count) / 2 ^ (old.count - bits)) ++ bits_ahead new
    → IsAhead new → longer.items ≡ text.items ++ bytes → vec_len longer ≡ vec_len text + length bytes
    → vec_capacity longer ≡ vec_capacity text → PushesCodes old new text longer
codes_pushed old new text longer bits bytes begins fits left ahead items len capacity =
    let front = left ∙ ap (λ (l : List ℕ). l ++ bits_ahead new) (sym begins.is) in
    let free = vec_capacity text - vec_len text in
    let room = room_for_codes old.count (number_of old) bits free bytes (bits_of_bytes old.rest.now) (bits_ahead old)
    begins refl fits in record {
      ahead = ahead;
      passes = record { text = bytes; are = begins.are; bits = front; append = items };
      fits = room_after bytes (bits_ahead new) (bits_ahead old) free _ begins.are front fits
          (omega (arith, room, len, capacity));
      len = omega (arith, begins.some, len);
      capacity = capacity;
    }

pub pushed_twice : {A : Type 0} (old now new : Ahead) (text longer longest : Vec ℕ A) → PushesCodes old now text longer
    → PushesCodes now new longer longest → PushesCodes old new text longest
pushed_twice old now new text longer longest p q = record {
  ahead = q.ahead;
  passes = passes_on (bits_ahead old) (bits_ahead now) (bits_ahead new) text.items longer.items longest.items p.passes
      q.passes;
  fits = q.fits;
  len = omega (arith, p.len, q.len);
  capacity = q.capacity ∙ p.capacity;
}
