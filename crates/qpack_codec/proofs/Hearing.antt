-- Decoder instructions that the encoder takes, one by one.
use Rattle.std.proofs.Common.{◌≡◌, ℕ, List, ◌++◌, false, Option, Some, None}
use Rattle.std.proofs.Common.{Result, Ok, Err}
use Rattle.std.proofs.Common.{refl, sym, ap, subst}
use Rattle.std.proofs.lemmas.Bool.{cond_both}
use Rattle.std.specs.Prelude.{nat_lt}
use Rattle.qpack_spec.specs.Bytes.{Begins}
use Rattle.qpack_spec.specs.Text.{StringFault, LengthOverflows, BadHuffman}
use Rattle.qpack_spec.specs.Form.{Form, Index, IndexAndValue, NameAndValue, BadInteger, BadString, Truncates}
use Rattle.qpack_spec.specs.Form.{RefusesForm}
use Rattle.qpack_spec.specs.Instruction.{DecoderInstruction, decoder_instruction_form, SpellsDecoderInstruction}
use Rattle.qpack_spec.specs.Instruction.{RefusesDecoderInstruction}
use Rattle.qpack_spec.specs.Table as table
use Rattle.qpack_spec.specs.Table.{apply_decoder_instruction}
use Rattle.qpack_spec.specs.Window.{TableRefusal}
use Rattle.qpack_base.specs.Cursor.{CursorView}
use Rattle.qpack_base.specs.Integers.{integer_fault_of}
use Rattle.qpack_base.specs.Payloads.{huffman_fault_of}
use Rattle.qpack_base.specs.Refusals.{IsRefusedFor}
use Rattle.qpack_base.specs.declared.prefix_int.Error.TheVariants as integer
use Rattle.qpack_base.specs.declared.prefix_string.Error.TheVariants as string
use Rattle.qpack_base.specs.declared.parse_error.ParseError.{ParseError}
use Rattle.qpack_base.specs.declared.parse_error.ParseError.TheVariants.{Integer, String, InvalidPrefix, InvalidBase}
use Rattle.qpack_base.specs.declared.parse_error.ParseError.TheVariants.{Memory as ParseMemory}
use Rattle.qpack_table.specs.Tables as tables
use Rattle.qpack_table.specs.declared.dynamic.Error.{Error}
use Rattle.qpack_table.specs.declared.dynamic.Error.TheVariants.{Memory as NoRoom}
use Rattle.qpack_wire.specs.Alone.{KindFault, Unreadable, Foreign, is_cut_kind}
use Rattle.qpack_wire.specs.Answers.{IsTruncated, fault_of}
use Rattle.qpack_wire.specs.StreamAnswers.{FailsWhole, DecodesInstruction, ReadsStream, StaysUnlessRead}
use Rattle.qpack_wire.specs.StreamLines.{RefusesDecoderLine, decoder_instruction_of, decoder_instruction_at}
use Rattle.qpack_wire.specs.declared.stream.decoder_stream.DecoderLine.{DecoderLine}
use Rattle.qpack_codec.specs.Errors.{encoder_error_of_parse, encoder_error_of_table}
use Rattle.qpack_codec.specs.Hearing.{Applies, refusal_of, StopsHearing, bad_bytes, bad_instruction}
use Rattle.qpack_codec.specs.declared.error.EncoderError.{EncoderError}
use Rattle.qpack_codec.specs.declared.error.EncoderError.TheVariants.{Memory}

-- what the table refuses is refused, as its error says
pub change_fails : (e : Error) (read : Result table.Table TableRefusal) (old new : table.Table)
    → IsRefusedFor read (tables.refusal_of e) × (new ≡ old)
    → IsRefusedFor read (refusal_of (encoder_error_of_table e)) × (new ≡ old)
change_fails NoRoom read old new h = absurd h.0
change_fails e read old new h = h

-- and is not told as want of memory
pub change_asks_not : (e : Error) (read : Result table.Table TableRefusal) → IsRefusedFor read (tables.refusal_of e)
    → encoder_error_of_table e ≡ Memory → ⊥
change_asks_not NoRoom read h same = h
change_asks_not e read h same = absurd cc

-- ---- the bytes of a decoder instruction hold no string

abbrev IsNumber : Option (Form DecoderInstruction) → Type 0
IsNumber None = Unit {0}
IsNumber (Some (Index n make)) = Unit {0}
IsNumber (Some (IndexAndValue n make)) = ⊥
IsNumber (Some (NameAndValue n make)) = ⊥

all_numbers : (first : ℕ) → IsNumber (decoder_instruction_form first)
unfolding decoder_instruction_form
all_numbers first =
    cond_both (nat_lt first 64) _ _ IsNumber (λ t. tt)
    (λ f. cond_both (nat_lt first 128) _ _ IsNumber (λ t. tt)
    (λ g. cond_both (nat_lt first 256) _ _ IsNumber (λ t. tt) (λ h. tt)))

number_refuses : (form : Form DecoderInstruction) (encoding : List ℕ) (fault : StringFault) → IsNumber (Some form)
    → RefusesForm form encoding (BadString fault) → ⊥
number_refuses (Index n make) encoding fault is refuses = refuses
number_refuses (IndexAndValue n make) encoding fault is refuses = is
number_refuses (NameAndValue n make) encoding fault is refuses = is

no_string : (rest : List ℕ) (fault : StringFault)
    → Begins (λ encoding. RefusesDecoderInstruction encoding (BadString fault)) rest → ⊥
no_string rest fault begins =
    let at = begins.holds in
    number_refuses at.form begins.encoding fault
    (subst (λ (o : Option (Form DecoderInstruction)). IsNumber o) at.names (all_numbers at.first)) at.refuses

-- ---- the instruction at the front of the bytes

-- bytes that are no instruction
pub stops_at_bytes : (t : table.Table) (rest : List ℕ) (e : ParseError)
    (read : Result (DecoderInstruction × List ℕ) KindFault)
    → FailsWhole e read → (e ≡ ParseMemory → ⊥)
    → ((fault : KindFault) → is_cut_kind fault ≡ false → fault_of e ≡ Some fault
    → Begins (λ encoding. RefusesDecoderLine encoding fault) rest)
    → StopsHearing t rest rest (encoder_error_of_parse e)
stops_at_bytes t rest (Integer integer.UnexpectedEnd) read fails asks told = absurd fails
stops_at_bytes t rest (Integer integer.Overflow) read fails asks told =
    bad_bytes (BadInteger (integer_fault_of integer.Overflow))
    (told (Unreadable (BadInteger (integer_fault_of integer.Overflow))) refl refl) refl refl
stops_at_bytes t rest (String string.UnexpectedEnd) read fails asks told = absurd fails
stops_at_bytes t rest (String (string.Integer integer.Overflow)) read fails asks told =
    absurd (no_string rest LengthOverflows (told (Unreadable (BadString LengthOverflows)) refl refl))
stops_at_bytes t rest (String (string.Integer integer.UnexpectedEnd)) read fails asks told = absurd fails
stops_at_bytes t rest (String (string.HuffmanDecoding h)) read fails asks told =
    absurd (no_string rest (BadHuffman (huffman_fault_of h))
    (told (Unreadable (BadString (BadHuffman (huffman_fault_of h)))) refl refl))
stops_at_bytes t rest (String e) read fails asks told = absurd fails
stops_at_bytes t rest (InvalidPrefix bits) read fails asks told = absurd (told (Foreign bits) refl refl).holds
stops_at_bytes t rest (InvalidBase base) read fails asks told = absurd fails
stops_at_bytes t rest ParseMemory read fails asks told = absurd (asks refl)

-- the answer that no line was read
abbrev refused_line : ParseError → Result (Option DecoderLine) ParseError
refused_line e = Err e

pub line_refused : (t : table.Table) (old new : CursorView) (e : ParseError) → new ≡ old
    → DecodesInstruction decoder_instruction_of SpellsDecoderInstruction RefusesDecoderLine old new (Err e)
    → (refused_line e ≡ refused_line ParseMemory → ⊥)
    → ReadsStream decoder_instruction_of old new (Err e) (decoder_instruction_at old.rest)
    → StopsHearing t old.rest new.rest (encoder_error_of_parse e)
line_refused t old new e stays decodes asks exact =
    subst (λ (x : CursorView). StopsHearing t old.rest x.rest (encoder_error_of_parse e)) (sym stays)
    (stops_at_bytes t old.rest e (decoder_instruction_at old.rest) exact
    (λ m. asks (ap refused_line m)) (λ fault whole told. (decodes.refused fault).0 whole told))

-- a line that is truncated as such is truncated as a form
truncated_form : (bytes : List ℕ) → IsTruncated SpellsDecoderInstruction RefusesDecoderLine bytes
    → Truncates decoder_instruction_form bytes
truncated_form bytes h encoding rest cut =
    let parts = h encoding rest cut in (parts.0, λ fault refused. parts.1 (Unreadable fault) refused)

pub no_line : (old new : CursorView) (o : Option DecoderLine) → o ≡ None
    → DecodesInstruction decoder_instruction_of SpellsDecoderInstruction RefusesDecoderLine old new (Ok o)
    → Truncates decoder_instruction_form old.rest
no_line old new o none decodes =
    truncated_form old.rest (decodes.truncated.0 (ap (λ (x : Option DecoderLine). Ok x) none))

pub unread : (old new : CursorView) (o : Option DecoderLine) → o ≡ None → StaysUnlessRead old new (Ok o)
    → new.rest ≡ old.rest
unread old new None is stays = ap (λ (x : CursorView). x.rest) stays
unread old new (Some l) is stays = absurd cc

-- an instruction stands at the front
pub record StandsAt (bytes rest : List ℕ) (r : DecoderInstruction) : Type 0 where
  pub encoding : List ℕ
  pub cut : bytes ≡ encoding ++ rest
  pub spells : SpellsDecoderInstruction encoding r

pub found_line : (old new : CursorView) (o : Option DecoderLine) (line : DecoderLine) → o ≡ Some line
    → DecodesInstruction decoder_instruction_of SpellsDecoderInstruction RefusesDecoderLine old new (Ok o)
    → StandsAt old.rest new.rest (decoder_instruction_of line)
found_line old new None line is decodes = absurd cc
found_line old new (Some l) line is decodes =
    let found = decodes.found in
    let one : l ≡ line = some_is l line is in
    record {
      encoding = found.0;
      cut = found.2.0;
      spells = subst (λ (x : DecoderLine). SpellsDecoderInstruction found.0 (decoder_instruction_of x)) one found.1;
    }
  where
    some_is : (l m : DecoderLine) → Some l ≡ Some m → l ≡ m
    some_is l m e = cc

-- an instruction that the table does not take
pub stops_at_table : (old new : table.Table) (rest left : List ℕ) (r : DecoderInstruction) (e : EncoderError)
    → StandsAt rest left r → Applies (Err e) (apply_decoder_instruction old r) old new
    → StopsHearing old rest left e × (new ≡ old)
stops_at_table old new rest left r e at applies = (by_refusal (refusal_of e) refl, applies.1)
  where
    by_refusal : (o : Option TableRefusal) → refusal_of e ≡ o → StopsHearing old rest left e
    by_refusal None none = absurd (subst (λ (o : Option TableRefusal). IsRefusedFor (apply_decoder_instruction old r) o)
        none applies.0)
    by_refusal (Some refusal) some =
        bad_instruction at.encoding r refusal at.cut at.spells
        (subst (λ (o : Option TableRefusal). IsRefusedFor (apply_decoder_instruction old r) o) some applies.0) some
