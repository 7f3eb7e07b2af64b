-- Instructions that the decoder takes, one by one.
use Rattle.std.proofs.Common.{◌≡◌, ℕ, ◌+◌, ◌<◌, List, ◌++◌, length, Bool, true, false, if◌then◌else◌, nat_eq, nat_le}
use Rattle.std.proofs.Common.{Option}
use Rattle.std.proofs.Common.{Some, None, Result, Ok, Err, arith}
use Rattle.std.proofs.Common.{refl, sym, ap, subst, ◌∙◌, inl, inr}
use Rattle.std.proofs.lemmas.Bool.{lt-leb, eq-eqb, ne_eqb}
use Rattle.std.specs.Prelude.{⊤, IsSome, slice_get}
use Rattle.qpack_spec.specs.Bytes.{Begins}
use Rattle.qpack_spec.specs.Text.{LengthOverflows, BadHuffman}
use Rattle.qpack_spec.specs.Field.{Field, field_size}
use Rattle.qpack_spec.specs.Form.{BadInteger, BadString, Truncates}
use Rattle.qpack_spec.specs.Instruction.{EncoderInstruction, encoder_instruction_form, SpellsEncoderInstruction}
use Rattle.qpack_spec.specs.Table as table
use Rattle.qpack_spec.specs.Table.{apply_encoder_instruction}
use Rattle.qpack_spec.specs.StaticTable.{static_table}
use Rattle.qpack_spec.specs.Window.{TableRefusal, DoesNotFit, relative_entry, with_value}
use Rattle.qpack_base.specs.Cursor.{CursorView}
use Rattle.qpack_base.specs.Integers.{integer_fault_of}
use Rattle.qpack_base.specs.Payloads.{huffman_fault_of}
use Rattle.qpack_base.specs.Refusals.{IsRefusedFor}
use Rattle.qpack_base.specs.declared.prefix_int.Error.TheVariants as integer
use Rattle.qpack_base.specs.declared.prefix_string.Error.TheVariants as string
use Rattle.qpack_base.specs.declared.parse_error.ParseError.{ParseError}
use Rattle.qpack_base.specs.declared.parse_error.ParseError.TheVariants.{Integer, String, InvalidPrefix, InvalidBase}
use Rattle.qpack_base.specs.declared.parse_error.ParseError.TheVariants.{Memory as ParseMemory}
use Rattle.qpack_table.specs.Tables as tables
use Rattle.qpack_table.specs.declared.dynamic.Error.{Error}
use Rattle.qpack_table.specs.declared.dynamic.Error.TheVariants.{BadRelativeIndex, BadPostbaseIndex, BadIndex}
use Rattle.qpack_table.specs.declared.dynamic.Error.TheVariants.{MaxTableSizeReached, MaximumTableSizeTooLarge}
use Rattle.qpack_table.specs.declared.dynamic.Error.TheVariants.{MaxBlockedStreamsTooLarge, UnknownStreamId}
use Rattle.qpack_table.specs.declared.dynamic.Error.TheVariants.{NoTrackingData, InvalidTrackingCount, Memory as NoRoom}
use Rattle.qpack_wire.specs.Alone.{KindFault, Unreadable, Foreign, is_cut_kind}
use Rattle.qpack_wire.specs.Answers.{IsTruncated, fault_of}
use Rattle.qpack_wire.specs.Memory.{AsksForMemory}
use Rattle.qpack_wire.specs.StreamAnswers.{FailsWhole, FindsInstruction, DecodesInstruction, ReadsStream}
use Rattle.qpack_wire.specs.StreamLines.{RefusesEncoderLine, encoder_instruction_at}
use Rattle.qpack_wire.specs.Bounded.{IsLong, IsBounded, DecodesBounded}
use Rattle.qpack_wire.specs.declared.stream.bounded.BoundedLine.{BoundedLine}
use Rattle.qpack_wire.specs.declared.stream.bounded.NameSource.{NameSource}
use Rattle.qpack_wire.specs.declared.stream.bounded.NameSource.TheVariants.{Static, Dynamic, Literal}
use Rattle.qpack_codec.specs.Errors.{decoder_error_of_parse, decoder_error_of_table}
use Rattle.qpack_codec.specs.Receiving.{Applies, field_to_insert, refusal_of, is_passed, is_passed_for, Stops, no_memory}
use Rattle.qpack_codec.specs.Receiving.{bad_bytes, bad_instruction, longest_texts, HasName, LacksName}
use Rattle.qpack_codec.specs.declared.error.DecoderError.{DecoderError}
use Rattle.qpack_codec.specs.declared.error.DecoderError.TheVariants.{Memory}

-- what the table refuses is refused, as its error says
pub change_fails : (e : Error) (read : Result table.Table TableRefusal) (old new : table.Table)
    → IsRefusedFor read (tables.refusal_of e) × (new ≡ old) → Applies (Err (decoder_error_of_table e)) read old new
change_fails (BadRelativeIndex index) read old new h = absurd h.0
change_fails (BadPostbaseIndex index) read old new h = absurd h.0
change_fails (BadIndex position) read old new h = absurd h.0
change_fails MaxTableSizeReached read old new h = h
change_fails MaximumTableSizeTooLarge read old new h = h
change_fails MaxBlockedStreamsTooLarge read old new h = absurd h.0
change_fails (UnknownStreamId stream) read old new h = h
change_fails NoTrackingData read old new h = absurd h.0
change_fails InvalidTrackingCount read old new h = absurd h.0
change_fails NoRoom read old new h = absurd h.0

-- the same of one that asks for memory
pub growth_fails : (asks : Type 0) (e : Error) (read : Result table.Table TableRefusal) (old new : table.Table)
    → tables.ChangesWithMemory asks (Err e) read old new → Applies (Err (decoder_error_of_table e)) read old new
growth_fails asks NoRoom read old new h = h.1
growth_fails asks e read old new h = change_fails e read old new h

-- and one that is refused for no memory is not told as that
pub change_asks_not : (e : Error) (read : Result table.Table TableRefusal) → IsRefusedFor read (tables.refusal_of e)
    → decoder_error_of_table e ≡ Memory → ⊥
change_asks_not NoRoom read h same = h
change_asks_not e read h same = absurd cc

-- ---- the instruction at the front of the bytes

-- bytes that are no instruction, or memory that was refused for their strings
pub stops_at_bytes : (t : table.Table) (rest : List ℕ) (e : ParseError)
    (read : Result (EncoderInstruction × List ℕ) KindFault)
    → FailsWhole e read → (e ≡ ParseMemory → AsksForMemory encoder_instruction_form rest)
    → ((fault : KindFault) → is_cut_kind fault ≡ false → fault_of e ≡ Some fault
    → Begins (λ encoding. RefusesEncoderLine encoding fault) rest)
    → Stops t rest rest (decoder_error_of_parse e)
stops_at_bytes t rest (Integer integer.UnexpectedEnd) read fails asks told = absurd fails
stops_at_bytes t rest (Integer integer.Overflow) read fails asks told =
    bad_bytes (BadInteger (integer_fault_of integer.Overflow))
    (told (Unreadable (BadInteger (integer_fault_of integer.Overflow))) refl refl) refl refl
stops_at_bytes t rest (String string.UnexpectedEnd) read fails asks told = absurd fails
stops_at_bytes t rest (String (string.Integer integer.Overflow)) read fails asks told =
    bad_bytes (BadString LengthOverflows) (told (Unreadable (BadString LengthOverflows)) refl refl) refl refl
stops_at_bytes t rest (String (string.Integer integer.UnexpectedEnd)) read fails asks told = absurd fails
stops_at_bytes t rest (String (string.HuffmanDecoding h)) read fails asks told =
    bad_bytes (BadString (BadHuffman (huffman_fault_of h)))
    (told (Unreadable (BadString (BadHuffman (huffman_fault_of h)))) refl refl) refl refl
stops_at_bytes t rest (String e) read fails asks told = absurd fails
stops_at_bytes t rest (InvalidPrefix bits) read fails asks told = absurd (told (Foreign bits) refl refl).holds
stops_at_bytes t rest (InvalidBase base) read fails asks told = absurd fails
stops_at_bytes t rest ParseMemory read fails asks told = no_memory (inl (asks refl)) refl refl

-- a line that is truncated as such is truncated as a form
pub truncated_form : (bytes : List ℕ) → IsTruncated SpellsEncoderInstruction RefusesEncoderLine bytes
    → Truncates encoder_instruction_form bytes
truncated_form bytes h encoding rest cut =
    let parts = h encoding rest cut in (parts.0, λ fault refused. parts.1 (Unreadable fault) refused)

-- an instruction that the table does not take
pub stops_at_table : (old new : table.Table) (rest encoding more left : List ℕ) (i : EncoderInstruction)
    (e : DecoderError)
    → rest ≡ encoding ++ more → SpellsEncoderInstruction encoding i
    → Applies (Err e) (apply_encoder_instruction old i) old new
    → (e ≡ Memory → IsSome (field_to_insert old i))
    → left ≡ (if is_passed (Err e) then more else rest) → Stops old rest left e × (new ≡ old)
stops_at_table old new rest encoding more left i Memory cut spells applies asks is = (
  no_memory (inr (record { encoding = encoding; rest = more; parts = cut; holds = (i, spells, asks refl) })) refl is,
  applies,
)
stops_at_table old new rest encoding more left i e cut spells applies asks is = (
  by_refusal (refusal_of e) refl,
  applies.1,
)
  where
    by_refusal : (o : Option TableRefusal) → refusal_of e ≡ o → Stops old rest left e
    by_refusal None none = absurd (subst (λ (o : Option TableRefusal). IsRefusedFor (apply_encoder_instruction old i) o)
        none applies.0)
    by_refusal (Some refusal) some =
        bad_instruction encoding more i refusal cut spells
        (subst (λ (o : Option TableRefusal). IsRefusedFor (apply_encoder_instruction old i) o) some applies.0) some
        (is ∙ ap (λ (o : Option TableRefusal). if is_passed_for o then more else rest) some)

-- ---- what `next_line` answered, from a cursor that looks ahead

-- an instruction stands at the front
pub record StandsAt (bytes rest : List ℕ) (i : EncoderInstruction) : Type 0 where
  pub encoding : List ℕ
  pub cut : bytes ≡ encoding ++ rest
  pub spells : SpellsEncoderInstruction encoding i

-- what was kept of the instruction at the front
pub record FoundLine (most : ℕ) (bytes rest : List ℕ) (line : BoundedLine) : Type 0 where
  pub instruction : EncoderInstruction
  pub kept : IsBounded most line instruction
  pub at : StandsAt bytes rest instruction

pub found_line : (most : ℕ) (old start new : CursorView) (o : Option BoundedLine) (line : BoundedLine) → start ≡ old
    → o ≡ Some line → DecodesBounded most start new (Ok o) → FoundLine most old.rest new.rest line
found_line most old start new None line same is d = absurd cc
found_line most old start new (Some l) line same is d =
    let one : l ≡ line = some_is l line is in
    let found = subst (λ (r : Result (Option EncoderInstruction) ParseError).
    FindsInstruction (λ (i : EncoderInstruction). i) SpellsEncoderInstruction start new r) d.kept.2 d.decodes.found in
    record {
      instruction = d.kept.0;
      kept = subst (λ (x : BoundedLine). IsBounded most x d.kept.0) one d.kept.1;
      at = record {
        encoding = found.0;
        cut = ap (λ (x : CursorView). x.rest) (sym same) ∙ found.2.0;
        spells = found.1;
      };
    }
  where
    some_is : (l m : BoundedLine) → Some l ≡ Some m → l ≡ m
    some_is l m e = cc

-- the answer that no line was read
abbrev refused_line : ParseError → Result (Option BoundedLine) ParseError
refused_line e = Err e

pub line_refused : (t : table.Table) (most : ℕ) (old start new : CursorView) (e : ParseError) → start ≡ old
    → DecodesBounded most start new (Err e)
    → (refused_line e ≡ refused_line ParseMemory → AsksForMemory encoder_instruction_form start.rest)
    → Stops t old.rest old.rest (decoder_error_of_parse e)
line_refused t most old start new e same d asks =
    let told = subst (λ (r : Result (Option EncoderInstruction) ParseError).
    DecodesInstruction (λ (i : EncoderInstruction). i) SpellsEncoderInstruction RefusesEncoderLine start new r) d.kept
    d.decodes in
    let exact = subst (λ (r : Result (Option EncoderInstruction) ParseError).
    ReadsStream (λ (i : EncoderInstruction). i) start new r (encoder_instruction_at start.rest)) d.kept d.exact in
    subst (λ (x : CursorView). Stops t x.rest x.rest (decoder_error_of_parse e)) same
    (stops_at_bytes t start.rest e (encoder_instruction_at start.rest) exact
    (λ m. asks (ap refused_line m)) (λ fault whole is. (told.refused fault).0 whole is))

pub no_line : (most : ℕ) (old start new : CursorView) (o : Option BoundedLine) → start ≡ old → o ≡ None
    → DecodesBounded most start new (Ok o) → Truncates encoder_instruction_form old.rest
no_line most old start new (Some l) same none d = absurd cc
no_line most old start new None same none d =
    truncated_form old.rest (subst (λ (x : CursorView). IsTruncated SpellsEncoderInstruction RefusesEncoderLine x.rest)
    same (d.decodes.truncated.0 d.kept))

-- ---- insertions that are too long

-- an instruction that puts a field whose texts are longer than those of any field that fits
record PutsLong (t : table.Table) (i : EncoderInstruction) : Type 0 where
  pub field : Field
  pub long : longest_texts t < length field.name + length field.value
  pub is : apply_encoder_instruction t i ≡ table.put t field

puts_long : (t : table.Table) (from : NameSource) (i : EncoderInstruction) → IsLong (longest_texts t) from i
    → HasName t from → PutsLong t i
unfolding apply_encoder_instruction
puts_long t (Static index) i h named = go (slice_get static_table index) refl named
  where
    go : (o : Option Field) → slice_get static_table index ≡ o → IsSome o → PutsLong t i
    go None is some = absurd cc
    go (Some f) is some =
        record {
          field = with_value h.0 f;
          long = let long = h.2 in omega (arith, long);
          is = ap (apply_encoder_instruction t) h.1 ∙ rw (is) refl;
        }
puts_long t (Dynamic relative) i h named = go (relative_entry (table.window t) relative) refl named
  where
    go : (o : Option Field) → relative_entry (table.window t) relative ≡ o → IsSome o → PutsLong t i
    go None is some = absurd cc
    go (Some f) is some =
        record {
          field = with_value h.0 f;
          long = let long = h.2 in omega (arith, long);
          is = ap (apply_encoder_instruction t) h.1 ∙ rw (is) refl;
        }
puts_long t Literal i h named =
    record { field = record { name = h.0; value = h.1 }; long = h.3; is = ap (apply_encoder_instruction t) h.2 }

-- it is refused,
pub long_refused : (t : table.Table) (from : NameSource) (i : EncoderInstruction) → IsLong (longest_texts t) from i
    → HasName t from → (t.capacity ≡ 0 → ⊥) → apply_encoder_instruction t i ≡ Err DoesNotFit
unfolding table.put
long_refused t from i h named some =
    let p = puts_long t from i h named in
    let long = p.long in
    let large : nat_le (field_size p.field) t.capacity ≡ false =
    lt-leb (field_size p.field) t.capacity (omega (arith, long)) in
    p.is ∙ rw (ne_eqb t.capacity 0 some, large) refl

-- at capacity 0 passed over,
pub long_passed : (t : table.Table) (from : NameSource) (i : EncoderInstruction) → IsLong (longest_texts t) from i
    → HasName t from → t.capacity ≡ 0 → apply_encoder_instruction t i ≡ Ok t
unfolding table.put
long_passed t from i h named none =
    let empty : nat_eq t.capacity 0 ≡ true = eq-eqb t.capacity 0 none in
    (puts_long t from i h named).is ∙ rw (empty) refl

-- and refused as any other where its name is not there
pub long_lost : (t : table.Table) (from : NameSource) (i : EncoderInstruction) (e : DecoderError)
    → IsLong (longest_texts t) from i → LacksName t from e → Applies (Err e) (apply_encoder_instruction t i) t t
unfolding apply_encoder_instruction
long_lost t (Static index) i e h lost = rw (lost.0, h.1, lost.1) (refl, refl)
long_lost t (Dynamic relative) i e h lost = rw (lost.0, h.1, lost.1) (refl, refl)
long_lost t Literal i e h lost = absurd lost

-- where the cursor is left behind an instruction that was answered so
pub left_behind : (passed : Bool) (r answer : Result ⊤ DecoderError) (more rest left : List ℕ) → passed ≡ is_passed r
    → r ≡ answer
    → (passed ≡ true → left ≡ more) → (passed ≡ false → left ≡ rest)
    → left ≡ (if is_passed answer then more else rest)
left_behind passed r answer more rest left is was moves stays =
    by_answer passed (is ∙ ap (λ (x : Result ⊤ DecoderError). is_passed x) was) moves stays
  where
    by_answer : (b : Bool) → b ≡ is_passed answer → (b ≡ true → left ≡ more) → (b ≡ false → left ≡ rest)
        → left ≡ (if is_passed answer then more else rest)
    by_answer true at moves stays = moves refl ∙ rw (← at) refl
    by_answer false at moves stays = stays refl ∙ rw (← at) refl
