-- The prefix of an encoded field section: the required insert count and the base (RFC 9204, section 4.5.1).
use Rattle.std.specs.Prelude.{◌≡◌, ℕ, List, ◌++◌, ◌+◌, ◌-◌, ◌*◌, ◌/◌, ◌%◌, ◌^◌, ◌<◌, ◌≤◌, ℤ, negsuc, min, Bool, true}
use Rattle.std.specs.Prelude.{false, if◌then◌else◌, not, ◌&&◌, ◌||◌, nat_lt, nat_le, nat_eq, Result, Ok, Err}
use Rattle.qpack_spec.specs.Bytes.{◌>>=◌}
use Rattle.qpack_spec.specs.Integer.{SpellsInteger, integer_at, written_integer}
use Rattle.qpack_spec.specs.Form.{FormFault, HoldsIndex, or_bad_integer}

-- the encoded required insert count, the sign bit and the delta base, as they are in the bytes
pub record Prefix : Type 0 where
  pub count : ℕ
  pub sign : Bool
  pub delta : ℕ

-- why a prefix can't be read: a count or a base that is out of range, or a base below 0
pub data PrefixFault : Type 0 where
  OutOfRange : PrefixFault
  BelowZero : (base : ℤ) → PrefixFault

-- MaxEntries: how many entries a table of the maximum capacity can have (section 4.5.1.1)
abbrev pub most_entries : ℕ → ℕ
most_entries maximum = maximum / 32

-- the prefix that is written for a required insert count and a base, the maximum capacity being agreed; section 4.5.1.1
-- has the count modulo 2 MaxEntries, section 4.5.1.2 the distance of the base and its sign
unfoldable pub prefix_for : ℕ → ℕ → ℕ → Prefix
prefix_for maximum required base =
    if nat_eq required 0 || nat_eq maximum 0 then record { count = 0; sign = false; delta = 0 }
    else if nat_le required base
    then record { count = required % (2 * most_entries maximum) + 1; sign = false; delta = base - required }
    else record { count = required % (2 * most_entries maximum) + 1; sign = true; delta = required - base - 1 }

-- the required insert count that an encoded count means at a total of insertions, for a table of at most this many
-- entries: the number of its residue in the window around the total (section 4.5.1.1)
pub record IsRequired (total entries count required : ℕ) : Type 0 where
  pub positive : 0 < required
  pub residue : required % (2 * entries) ≡ count - 1
  pub above : total < required + entries
  pub most : required ≤ total + entries

-- ---- computed

-- the greatest number of the residue count - 1 modulo 2 entries that is at most top; 0 if none is above 0
unfoldable pub required_at : ℕ → ℕ → ℕ → ℕ
required_at top entries count = top - (top + 2 * entries - (count - 1)) % (2 * entries)

-- the required insert count; one that is 0 or no number of 64 bits is out of range
abbrev pub required_in_range : ℕ → Result ℕ PrefixFault
required_in_range required = if nat_eq required 0 || nat_le (2 ^ 64) required then Err OutOfRange else Ok required

-- the required insert count of a prefix after this many insertions; 0 at capacity 0 and for the count 0
unfoldable pub read_required : ℕ → ℕ → ℕ → Result ℕ PrefixFault
read_required total maximum count =
    if nat_eq maximum 0 || nat_eq count 0 then Ok 0
    else if nat_eq (most_entries maximum) 0 || nat_lt (2 * most_entries maximum) count then Err OutOfRange
    else required_in_range (required_at (total + most_entries maximum) (most_entries maximum) count)

-- the base after a required count (section 4.5.1.2); one below 0 is reported, saturated at the least number of 64 bits
unfoldable pub read_base : Bool → ℕ → ℕ → Result ℕ PrefixFault
read_base false required delta = if nat_lt (required + delta) (2 ^ 64) then Ok (required + delta) else Err OutOfRange
read_base true required delta =
    if nat_lt delta required then Ok (required - delta - 1) else Err
    (BelowZero (negsuc (min (delta - required) (2 ^ 63 - 1))))

-- the base of a prefix whose required insert count is known; if nothing is required nothing counts from it, and it is
-- 0, whatever was read
abbrev pub base_behind : Prefix → ℕ → Result ℕ PrefixFault
base_behind p required = if nat_eq required 0 then Ok 0 else read_base p.sign required p.delta

-- the base of a prefix to a strict decoder, which refuses a base below 0 also if nothing is required (section 4.5.1.2)
abbrev pub strict_base : Prefix → ℕ → Result ℕ PrefixFault
strict_base p required = if nat_eq required 0 && not p.sign then Ok 0 else read_base p.sign required p.delta

-- the required insert count with its base
abbrev pub with_base : (ℕ → Result ℕ PrefixFault) → Result ℕ PrefixFault → Result (ℕ × ℕ) PrefixFault
with_base base_of (Err e) = Err e
with_base base_of (Ok required) = and_base required (base_of required)
  where
    and_base : ℕ → Result ℕ PrefixFault → Result (ℕ × ℕ) PrefixFault
    and_base required (Err e) = Err e
    and_base required (Ok base) = Ok (required, base)

-- the required insert count and the base of a prefix after this many insertions
unfoldable pub read_prefix : ℕ → ℕ → Prefix → Result (ℕ × ℕ) PrefixFault
read_prefix total maximum p = with_base (λ required. base_behind p required) (read_required total maximum p.count)

-- the required insert count and the base of a prefix to a strict decoder (section 4.5.1.2)
unfoldable pub read_strict_prefix : ℕ → ℕ → Prefix → Result (ℕ × ℕ) PrefixFault
read_strict_prefix total maximum p =
    with_base (λ required. strict_base p required) (read_required total maximum p.count)

-- ---- bytes

-- the bytes are a prefix: the count with a prefix of 8 bits, then the delta with one of 7 after the sign bit
pub record SpellsPrefix (encoding : List ℕ) (p : Prefix) : Type 0 where
  pub head : List ℕ
  pub tail : List ℕ
  pub parts : encoding ≡ head ++ tail
  pub count : HoldsIndex 8 p.count head
  pub sign : ℕ
  pub is_sign : p.sign ≡ nat_eq sign 1
  pub delta : SpellsInteger 7 tail sign p.delta

-- the sign bit of a prefix
abbrev pub sign_bit : Prefix → ℕ
sign_bit p = if p.sign then 1 else 0

-- the written spelling of a prefix
unfoldable pub written_prefix : Prefix → List ℕ
written_prefix p = written_integer 8 0 p.count ++ written_integer 7 (sign_bit p) p.delta

-- the prefix at the front of the bytes, and the bytes after it
unfoldable pub prefix_at : List ℕ → Result (Prefix × List ℕ) FormFault
prefix_at bytes =
    or_bad_integer (integer_at 8 bytes) >>= λ c. or_bad_integer (integer_at 7 c.2)
    >>= λ d. Ok (record { count = c.1; sign = nat_eq d.0 1; delta = d.1 }, d.2)
