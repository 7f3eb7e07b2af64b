-- A line was read behind the beginning of a block that is read alone; and what a line asks for that is refused.
use Rattle.std.proofs.Common.{◌≡◌, ℕ, List, drop, Some, Ok, Err, Result, sym, subst, ◌∙◌, inl, inr}
use Rattle.std.specs.Prelude.{slice_get}
use Rattle.qpack_spec.specs.Bytes.{Begins}
use Rattle.qpack_spec.specs.Field.{Field}
use Rattle.qpack_spec.specs.Line.{line_form}
use Rattle.qpack_base.specs.declared.prefix_string.Error.TheVariants as string
use Rattle.qpack_base.specs.declared.parse_error.ParseError.{ParseError}
use Rattle.qpack_base.specs.declared.parse_error.ParseError.TheVariants as parse
use Rattle.qpack_wire.specs.Answers.{FailsForm}
use Rattle.qpack_wire.specs.BlockLines.{line_at}
use Rattle.qpack_wire.specs.Memory.{HoldsLine, AsksLine, AsksForMemory}
use Rattle.qpack_wire.proofs.Asking.{HasBegun, asks_line}
use Rattle.qpack_codec.specs.Errors.{decoder_error_of_parse}
use Rattle.qpack_codec.specs.declared.error.DecoderError.{DecoderError}
use Rattle.qpack_codec.specs.declared.error.DecoderError.TheVariants as decoder
use Rattle.qpack_codec.specs.Stateless.{stateless_field_at}
use Rattle.qpack_codec.proofs.ReadLines.{first_is, line_taken}

-- a line was read, so that the first was
pub held_begun : (all rest : List ℕ) (b : ℕ) (f : Field) (more : List ℕ) → HasBegun all rest → Some b ≡ slice_get rest 0
    → stateless_field_at b (drop 1 rest) ≡ Ok (f, more)
    → Begins HoldsLine all
held_begun all rest b f more (inl e) at read =
    subst (Begins HoldsLine) (sym (first_is rest b at) ∙ e) (line_taken b (drop 1 rest) f more read)
held_begun all rest b f more (inr h) at read = h

-- a line whose refusal is told as want of memory asks for it
pub line_asks : {V X : Type 0} → (q : Result V ParseError) (e : ParseError) (r : Result X DecoderError)
    (d : DecoderError) (bytes : List ℕ)
    → q ≡ Err e → r ≡ Err d → d ≡ decoder_error_of_parse e → FailsForm e (line_at bytes)
    → (q ≡ Err parse.Memory → AsksForMemory line_form bytes) → r ≡ Err decoder.Memory → Begins AsksLine bytes
line_asks q parse.Memory r d bytes refused told of_parse fails asks is = asks_line bytes (asks refused)
line_asks q (parse.Integer e) r d bytes refused told of_parse fails asks is =
    absurd (let a = told in let b = of_parse in let m = is in cc)
line_asks q (parse.InvalidPrefix bits) r d bytes refused told of_parse fails asks is =
    absurd (let a = told in let b = of_parse in let m = is in cc)
line_asks q (parse.InvalidBase base) r d bytes refused told of_parse fails asks is =
    absurd (let a = told in let b = of_parse in let m = is in cc)
line_asks q (parse.String string.Memory) r d bytes refused told of_parse fails asks is = absurd fails
line_asks q (parse.String string.UnexpectedEnd) r d bytes refused told of_parse fails asks is =
    absurd (let a = told in let b = of_parse in let m = is in cc)
line_asks q (parse.String (string.Integer e)) r d bytes refused told of_parse fails asks is =
    absurd (let a = told in let b = of_parse in let m = is in cc)
line_asks q (parse.String (string.HuffmanDecoding e)) r d bytes refused told of_parse fails asks is =
    absurd (let a = told in let b = of_parse in let m = is in cc)
line_asks q (parse.String (string.HuffmanEncoding e)) r d bytes refused told of_parse fails asks is = absurd fails
line_asks q (parse.String string.BufSize) r d bytes refused told of_parse fails asks is = absurd fails
