-- Decoder instructions at the front of bytes.
use Rattle.std.proofs.Common.{◌≡◌, ℕ, List, Option, None, Some, Result, Ok, Err}
use Rattle.std.proofs.Common.{refl, sym, subst, ◌∙◌}
use Rattle.std.specs.Prelude.{nat_lt}
use Rattle.std.proofs.lemmas.Bool.{cond_both}
use Rattle.qpack_spec.specs.Bytes.{Begins}
use Rattle.qpack_spec.specs.Integer.{Overflow, UnexpectedEnd}
use Rattle.qpack_spec.specs.Form.{FormFault, BadInteger, BadString, Truncates, Form, Index, IndexAndValue, NameAndValue}
use Rattle.qpack_spec.specs.Form.{RefusesForm}
use Rattle.qpack_spec.specs.Instruction.{DecoderInstruction, decoder_instruction_form, SpellsDecoderInstruction}
use Rattle.qpack_spec.specs.Instruction.{RefusesDecoderInstruction}
use Rattle.qpack_spec.specs.Table.{Table}
use Rattle.qpack_base.specs.Cursor.{CursorView}
use Rattle.qpack_base.specs.declared.parse_error.ParseError.{ParseError}
use Rattle.qpack_base.specs.declared.parse_error.ParseError.TheVariants as parse
use Rattle.qpack_base.specs.declared.prefix_string.Error.TheVariants as string
use Rattle.qpack_wire.specs.StreamAnswers.{DecodesInstruction, ReadsStream}
use Rattle.qpack_wire.specs.StreamLines.{RefusesDecoderLine, decoder_instruction_of, decoder_instruction_at}
use Rattle.qpack_wire.specs.declared.stream.decoder_stream.DecoderLine.{DecoderLine}
use Rattle.qpack_codec.specs.Errors.{encoder_error_of_parse}
use Rattle.qpack_codec.specs.Hearing as weak
use Rattle.qpack_codec.proofs.Hearing.{line_refused, no_line, found_line}
use Rattle.qpack_encoding.specs.Hearing.{strict_hear, Applies, Refuses, bad_bytes, bad_instruction}
use Rattle.qpack_encoding.specs.Hearing.{HearsOne, HearsNext}
use Rattle.qpack_encoding.specs.declared.decoder_stream.HearingError.{HearingError}
use Rattle.qpack_encoding.specs.declared.decoder_stream.HearingError.TheVariants as error

-- ---- the one fault of a decoder instruction

OnlyOverflows : Option (Form DecoderInstruction) → Type 0
OnlyOverflows None = Unit {0}
OnlyOverflows (Some (Index n make)) = Unit {0}
OnlyOverflows (Some (IndexAndValue n make)) = ⊥
OnlyOverflows (Some (NameAndValue n make)) = ⊥

all_overflow : (first : ℕ) → OnlyOverflows (decoder_instruction_form first)
unfolding decoder_instruction_form OnlyOverflows
all_overflow first =
    cond_both (nat_lt first 64) _ _ OnlyOverflows (λ t. tt)
    (λ f. cond_both (nat_lt first 128) _ _ OnlyOverflows (λ t. tt)
    (λ g. cond_both (nat_lt first 256) _ _ OnlyOverflows (λ t. tt) (λ h. tt)))

overflow_of : (form : Form DecoderInstruction) (encoding : List ℕ) (fault : FormFault) → OnlyOverflows (Some form)
    → RefusesForm form encoding fault → fault ≡ BadInteger Overflow
unfolding OnlyOverflows
overflow_of (Index n make) encoding (BadInteger Overflow) is refuses = refl
overflow_of (Index n make) encoding (BadInteger UnexpectedEnd) is refuses = absurd refuses
overflow_of (Index n make) encoding (BadString fault) is refuses = absurd refuses
overflow_of (IndexAndValue n make) encoding fault is refuses = absurd is
overflow_of (NameAndValue n make) encoding fault is refuses = absurd is

is_overflow : (rest : List ℕ) (fault : FormFault) → Begins (λ encoding. RefusesDecoderInstruction encoding fault) rest
    → Begins (λ encoding. RefusesDecoderInstruction encoding (BadInteger Overflow)) rest
is_overflow rest fault begins =
    let at = begins.holds in
    let same = overflow_of at.form begins.encoding fault
    (subst (λ (o : Option (Form DecoderInstruction)). OnlyOverflows o) at.names (all_overflow at.first)) at.refuses in
    subst (λ (f : FormFault). Begins (λ encoding. RefusesDecoderInstruction encoding f) rest) same begins

no_refusal : (e : ParseError) → weak.refusal_of (encoder_error_of_parse e) ≡ None
no_refusal (parse.Integer i) = refl
no_refusal (parse.String string.Memory) = refl
no_refusal (parse.String s) = refl
no_refusal (parse.InvalidPrefix bits) = refl
no_refusal (parse.InvalidBase base) = refl
no_refusal parse.Memory = refl

overflow_begins : (t : Table) (rest left : List ℕ) (e : ParseError)
    → weak.StopsHearing t rest left (encoder_error_of_parse e)
    → Begins (λ encoding. RefusesDecoderInstruction encoding (BadInteger Overflow)) rest
overflow_begins t rest left e (weak.bad_bytes fault begins is same) = is_overflow rest fault begins
overflow_begins t rest left e (weak.bad_instruction encoding i refusal cut spells refused is) =
    let none = no_refusal e in absurd cc

-- ---- the instruction at the front of the bytes

abbrev refused_line : ParseError → Result (Option DecoderLine) ParseError
refused_line e = Err e

pub bytes_refused : (t : Table) (old new : CursorView) (bytes : List ℕ) (e : ParseError) → old.rest ≡ bytes
    → new ≡ old → DecodesInstruction decoder_instruction_of SpellsDecoderInstruction RefusesDecoderLine old new (Err e)
    → (refused_line e ≡ refused_line parse.Memory → ⊥)
    → ReadsStream decoder_instruction_of old new (Err e) (decoder_instruction_at old.rest)
    → Refuses t bytes error.IntegerOverflow
bytes_refused t old new bytes e is stays decodes asks exact =
    subst (λ (x : List ℕ). Refuses t x error.IntegerOverflow) is
    (bad_bytes (overflow_begins t old.rest new.rest e (line_refused t old new e stays decodes asks exact)) refl)

pub bytes_truncated : (old new : CursorView) (bytes : List ℕ) (o : Option DecoderLine) → old.rest ≡ bytes → o ≡ None
    → DecodesInstruction decoder_instruction_of SpellsDecoderInstruction RefusesDecoderLine old new (Ok o)
    → Truncates decoder_instruction_form bytes
bytes_truncated old new bytes o is none decodes =
    subst (λ (x : List ℕ). Truncates decoder_instruction_form x) is (no_line old new o none decodes)

stands : (old new : CursorView) (bytes : List ℕ) (o : Option DecoderLine) (line : DecoderLine) → old.rest ≡ bytes
    → o ≡ Some line
    → DecodesInstruction decoder_instruction_of SpellsDecoderInstruction RefusesDecoderLine old new (Ok o)
    → Begins (λ encoding. SpellsDecoderInstruction encoding (decoder_instruction_of line)) bytes
stands old new bytes o line is some decodes =
    let at = found_line old new o line some decodes in
    record { encoding = at.encoding; rest = new.rest; parts = sym is ∙ at.cut; holds = at.spells }

pub instruction_applied : (t u : Table) (old new : CursorView) (bytes : List ℕ) (o : Option DecoderLine)
    (line : DecoderLine) → old.rest ≡ bytes → o ≡ Some line
    → DecodesInstruction decoder_instruction_of SpellsDecoderInstruction RefusesDecoderLine old new (Ok o)
    → strict_hear t (decoder_instruction_of line) ≡ Ok u → HearsOne t u bytes
instruction_applied t u old new bytes o line is some decodes applies =
    record {
      instruction = decoder_instruction_of line;
      stands = stands old new bytes o line is some decodes;
      applies = applies;
    }

pub instruction_refused : (t u : Table) (old new : CursorView) (bytes : List ℕ) (o : Option DecoderLine)
    (line : DecoderLine) (e : HearingError) → old.rest ≡ bytes → o ≡ Some line
    → DecodesInstruction decoder_instruction_of SpellsDecoderInstruction RefusesDecoderLine old new (Ok o)
    → Applies (Err e) (strict_hear t (decoder_instruction_of line)) t u → HearsNext t u bytes (Err e)
instruction_refused t u old new bytes o line e is some decodes applies = (
  bad_instruction (decoder_instruction_of line) (stands old new bytes o line is some decodes) applies.0,
  applies.1,
)
