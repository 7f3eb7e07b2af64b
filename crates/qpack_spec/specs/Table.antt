-- A dynamic table with what its encoder tracks (RFC 9204, sections 2.1 and 3.2).
use Rattle.std.specs.Prelude.{ℕ, suc, ◌+◌, ◌-◌, ◌^◌, min, Bool, true, false, not, if◌then◌else◌, ◌&&◌, ◌||◌, nat_lt}
use Rattle.std.specs.Prelude.{nat_le, nat_eq, List, [], ◌∷◌, ◌++◌, length, take, drop, map, filter, Option, None, Some}
use Rattle.std.specs.Prelude.{slice_get, Result, Ok, Err}
use Rattle.std.specs.Option.{option_map}
use Rattle.std.specs.List.{list_any}
use Rattle.qpack_spec.specs.Bytes.{◌>>=◌}
use Rattle.qpack_spec.specs.Field.{Field, field_size}
use Rattle.qpack_spec.specs.StaticTable.{static_table}
use Rattle.qpack_spec.specs.Instruction.{EncoderInstruction, InsertStaticName, InsertDynamicName, InsertLiteralName}
use Rattle.qpack_spec.specs.Instruction.{Duplicate}
use Rattle.qpack_spec.specs.Instruction.{SetCapacity, DecoderInstruction, Acknowledgment, Cancellation, Increment}
use Rattle.qpack_spec.specs.Window.{Window, greatest_capacity, eviction_count, relative_entry, with_value, TableRefusal}
use Rattle.qpack_spec.specs.Window.{NoEntry}
use Rattle.qpack_spec.specs.Window.{NoStaticField, DoesNotFit, AboveMaximum, UnknownStream, or_refusal}

-- a live entry, and whether an encoder sent it
pub record Entry : Type 0 where
  pub field : Field
  pub sent : Bool

-- an unacknowledged block: a field section that is not acknowledged yet, and the entries that its lines reference
pub record UnacknowledgedBlock : Type 0 where
  pub stream : ℕ
  pub entries : List ℕ

-- the table: what both ends share, the live entries with their marks, the known received count, what the block in
-- progress references, the unacknowledged blocks in order, the required insert counts above the known received count of
-- committed blocks, and the limit of blocked ones
pub record Table : Type 0 where
  pub capacity : ℕ
  pub agreed_max : Option ℕ
  pub limit : ℕ
  pub dropped : ℕ
  pub live : List Entry
  pub known_received_count : ℕ
  pub referenced : List ℕ
  pub unacknowledged : List UnacknowledgedBlock
  pub blocked : List ℕ

-- a table as it begins
abbrev pub empty_table : ℕ → Option ℕ → ℕ → Table
empty_table capacity agreed_max limit =
    record {
      capacity = capacity;
      agreed_max = agreed_max;
      limit = limit;
      dropped = 0;
      live = [];
      known_received_count = 0;
      referenced = [];
      unacknowledged = [];
      blocked = [];
    }

-- an entry that an encoder's handle inserted
abbrev pub sent_entry : Field → Entry
sent_entry f = record { field = f; sent = true }

-- an entry that a decoder inserted
abbrev pub put_entry : Field → Entry
put_entry f = record { field = f; sent = false }

-- the live fields
abbrev pub fields_in : List Entry → List Field
fields_in es = map (λ e. e.field) es

-- what both ends share of the table
unfoldable pub window : Table → Window
window t = record { capacity = t.capacity; agreed_max = t.agreed_max; dropped = t.dropped; live = fields_in t.live }

-- the table of a decoder at a window: it inserted every entry, and nothing is referenced
unfoldable pub table_of : Window → Table
table_of w =
    record {
      capacity = w.capacity;
      agreed_max = w.agreed_max;
      limit = 0;
      dropped = w.dropped;
      live = map (λ f. put_entry f) w.live;
      known_received_count = 0;
      referenced = [];
      unacknowledged = [];
      blocked = [];
    }

-- how many insertions were ever made
abbrev pub insert_count : Table → ℕ
insert_count t = t.dropped + length t.live

-- whether a number is among some
abbrev pub has_number : ℕ → List ℕ → Bool
has_number a xs = list_any (λ x. nat_eq x a) xs

-- the numbers with one more, each kept once and where it first came
unfoldable pub with_number : List ℕ → ℕ → List ℕ
with_number referenced a = if has_number a referenced then referenced else referenced ++ a ∷ []

-- the numbers with some more
abbrev pub with_numbers : List ℕ → List ℕ → List ℕ
with_numbers referenced [] = referenced
with_numbers referenced (a ∷ rest) = with_numbers (with_number referenced a) rest

-- the block in progress references one more entry
unfoldable pub with_reference : Table → ℕ → Table
with_reference t a = record t { referenced = with_number t.referenced a }

-- an entry is evictable unless the block in progress or an unacknowledged block references it, or it was sent and is
-- not yet known to be received (section 2.1.1)
unfoldable pub is_evictable : Table → ℕ → Bool → Bool
is_evictable t a sent =
    not (has_number a t.referenced
    || (list_any (λ b. has_number a b.entries) t.unacknowledged || (sent && nat_lt t.known_received_count a)))

-- all of these entries, the first of which has this absolute index, are evictable
unfoldable pub all_evictable : Table → ℕ → List Entry → Bool
all_evictable t a [] = true
all_evictable t a (e ∷ es) = if is_evictable t a e.sent then all_evictable t (suc a) es else false

-- this many of the oldest entries are evictable
abbrev pub can_evict : Table → ℕ → Bool
can_evict t evicted = all_evictable t (suc t.dropped) (take evicted t.live)

-- how many entries are evicted for a field (section 3.2.2)
abbrev pub eviction_count_for : Table → Field → ℕ
eviction_count_for t f = eviction_count t.capacity (fields_in t.live ++ f ∷ [])

-- there is room for a field: it fits, and each entry that has to be evicted is evictable (section 2.1.1); insertions
-- end at 2^62
unfoldable pub has_room : Table → Field → Bool
has_room t f = nat_le (field_size f) t.capacity
    && (nat_lt (insert_count t) (2 ^ 62) && can_evict t (eviction_count_for t f))

-- fewer blocks are blocked than may be (section 2.1.2)
abbrev pub below_limit : Table → Bool
below_limit t = nat_lt (length t.blocked) t.limit

-- an entry may be referenced: one more block may be blocked, or the entry is known to be received (section 2.1.2)
unfoldable pub may_reference : Table → ℕ → Bool
may_reference t a = below_limit t || nat_le a t.known_received_count

-- the table with one more entry; the entries that no longer fit are evicted (section 3.2.2)
unfoldable pub with_entry : Table → Entry → Table
with_entry t e =
    record t {
      dropped = t.dropped + eviction_count_for t e.field;
      live = drop (eviction_count_for t e.field)
          (t.live ++ e ∷ []);
    }

-- an option's position, or that of the element before it
abbrev pub later_position : Option ℕ → Bool → Option ℕ
later_position (Some i) b = Some (suc i)
later_position None true = Some 0
later_position None false = None

-- the position of the last element that passes
unfoldable pub last_position : {X : Type 0} → (X → Bool) → List X → Option ℕ
last_position p [] = None
last_position p (x ∷ xs) = later_position (last_position p xs) (p x)

-- the absolute index of the newest live entry that passes
unfoldable pub newest_index : Table → (Field → Bool) → Option ℕ
newest_index t p = option_map (λ i. t.dropped + i + 1) (last_position p (fields_in t.live))

-- a field is inserted by a decoder: nothing happens at capacity 0, after the 2^62th insertion and if an entry that is
-- not evictable would be evicted, and a field larger than the capacity is refused (section 3.2.2)
unfoldable pub put : Table → Field → Result Table TableRefusal
put t f =
    if nat_eq t.capacity 0 then Ok t
    else if nat_le (field_size f) t.capacity
    then (if nat_lt (insert_count t) (2 ^ 62)
    && can_evict t (eviction_count_for t f) then Ok (with_entry t (put_entry f)) else Ok t)
    else Err DoesNotFit

-- another capacity (section 3.2.3): refused if it is above the greatest one, or if it would evict an entry that is not
-- evictable
unfoldable pub with_capacity : Table → ℕ → Result Table TableRefusal
with_capacity t n =
    let evicted = eviction_count n (fields_in t.live) in
    if nat_le n (greatest_capacity t.agreed_max)
    then (if can_evict t evicted then Ok
    (record t { capacity = n; dropped = t.dropped + evicted; live = drop evicted t.live })
    else Err DoesNotFit)
    else Err AboveMaximum

-- what an encoder instruction makes of a decoder's table (section 4.3)
unfoldable pub apply_encoder_instruction : Table → EncoderInstruction → Result Table TableRefusal
apply_encoder_instruction t (InsertStaticName index value) =
    or_refusal (slice_get static_table index) (NoStaticField index) >>= λ f. put t (with_value value f)
apply_encoder_instruction t (InsertDynamicName relative value) =
    or_refusal (relative_entry (window t) relative) (NoEntry relative) >>= λ f. put t (with_value value f)
apply_encoder_instruction t (InsertLiteralName name value) = put t (record { name = name; value = value })
apply_encoder_instruction t (Duplicate relative) = or_refusal (relative_entry (window t) relative)
    (NoEntry relative) >>= λ f. put t f
apply_encoder_instruction t (SetCapacity n) = with_capacity t n

-- the unacknowledged blocks with one more, if it references an entry
abbrev pub with_unacknowledged : List UnacknowledgedBlock → ℕ → List ℕ → List UnacknowledgedBlock
with_unacknowledged bs stream [] = bs
with_unacknowledged bs stream (a ∷ more) = bs ++ record { stream = stream; entries = a ∷ more } ∷ []

-- the block in progress ends: it is open if it references an entry, and counts as blocked if its required insert count
-- is above the known received count (section 2.1.2)
unfoldable pub commit : Table → ℕ → ℕ → Table
commit t stream required =
    record t {
      referenced = [];
      unacknowledged = with_unacknowledged t.unacknowledged stream t.referenced;
      blocked = if nat_lt t.known_received_count required then t.blocked ++ required ∷ [] else t.blocked;
    }

-- the block in progress is given up: what it references is referenced no more
unfoldable pub without_references : Table → Table
without_references t = record t { referenced = [] }

-- the unacknowledged blocks without the oldest one of the stream; none if there is none (section 4.4.1)
unfoldable pub without_oldest : ℕ → List UnacknowledgedBlock → Option (List UnacknowledgedBlock)
without_oldest s [] = None
without_oldest s (b ∷ bs) = if nat_eq b.stream s then Some bs else option_map (λ rest. b ∷ rest) (without_oldest s bs)

-- the unacknowledged blocks of other streams (section 4.4.2)
unfoldable pub without_stream : ℕ → List UnacknowledgedBlock → List UnacknowledgedBlock
without_stream s bs = filter (λ b. not (nat_eq b.stream s)) bs

-- the known received count grows, saturating at the greatest number of 64 bits, and blocks that required less are
-- blocked no more (section 4.4.3)
unfoldable pub with_increment : Table → ℕ → Table
with_increment t n =
    let known_received_count =
    min (t.known_received_count + n)
    (2 ^ 64 - 1) in record t {
      known_received_count = known_received_count;
      blocked = filter
          (λ r. nat_lt known_received_count r) t.blocked;
    }

-- what a decoder instruction makes of the encoder's table (section 4.4): an acknowledgment releases the oldest open
-- block of its stream, a cancellation every one (section 2.2.2.2)
unfoldable pub apply_decoder_instruction : Table → DecoderInstruction → Result Table TableRefusal
apply_decoder_instruction t (Acknowledgment s) =
    or_refusal (without_oldest s t.unacknowledged) (UnknownStream s) >>= λ bs. Ok (record t { unacknowledged = bs })
apply_decoder_instruction t (Cancellation s) = Ok (record t { unacknowledged = without_stream s t.unacknowledged })
apply_decoder_instruction t (Increment n) = Ok (with_increment t n)
