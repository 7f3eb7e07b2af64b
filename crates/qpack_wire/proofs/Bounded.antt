-- A reader that keeps no texts above a length, in terms of one that keeps them all.
use Rattle.std.proofs.Common.{◌≡◌, ℕ, List, Option, Some, Result, Ok, Err, refl, sym, subst}
use Rattle.qpack_spec.specs.Instruction.{EncoderInstruction}
use Rattle.qpack_base.specs.Cursor.{CursorView}
use Rattle.qpack_base.specs.declared.prefix_int.Error.TheVariants as integer
use Rattle.qpack_base.specs.declared.prefix_string.Error.TheVariants as string
use Rattle.qpack_base.specs.declared.parse_error.ParseError.{ParseError}
use Rattle.qpack_base.specs.declared.parse_error.ParseError.TheVariants.{Integer, String}
use Rattle.qpack_wire.specs.Alone.{KindFault}
use Rattle.qpack_wire.specs.Answers.{FailsForm}
use Rattle.qpack_wire.specs.Bounded.{ReadsBounded, AreOfOne, DecodesBounded}
use Rattle.qpack_wire.specs.StreamAnswers.{EndsEarly, ReadsStream, without_end}
use Rattle.qpack_wire.specs.StreamLines.{encoder_instruction_at}
use Rattle.qpack_wire.specs.declared.stream.bounded.BoundedLine.{BoundedLine}
use Rattle.qpack_wire.proofs.StreamForms.{instruction_follows}
use Rattle.qpack_wire.proofs.StreamReaders.{decodes_instruction}

-- an error is kept as it is, but for an early end
same_error : (most : ℕ) (e : ParseError) → AreOfOne most (without_end (Err e)) (without_end (Err e))
same_error most (Integer integer.UnexpectedEnd) = refl
same_error most (Integer integer.Overflow) = refl
same_error most (String string.UnexpectedEnd) = refl
same_error most (String e) = refl
same_error most e = refl

-- what failed as a form fails on a stream, or ends early
stream_error : (old new : CursorView) (e : ParseError) (read : Result (EncoderInstruction × List ℕ) KindFault)
    → FailsForm e read → ReadsStream (λ (i : EncoderInstruction). i) old new (without_end (Err e)) read
stream_error old new (Integer integer.UnexpectedEnd) read h = subst EndsEarly (sym h) refl
stream_error old new (Integer integer.Overflow) read h = h
stream_error old new (String string.UnexpectedEnd) read h = subst EndsEarly (sym h) refl
stream_error old new (String e) read h = h
stream_error old new e read h = h

pub bounded_decodes : (most : ℕ) (old new : CursorView) (r : Result BoundedLine ParseError)
    (o : Result (Option BoundedLine) ParseError) → o ≡ without_end r
    → ReadsBounded most old new r (encoder_instruction_at old.rest) → DecodesBounded most old new o
bounded_decodes most old new (Ok l) o is h =
    let i = h.0.0 in
    record {
      told = Ok (Some i);
      kept = rw (is) (i, h.0.1, refl);
      decodes = decodes_instruction instruction_follows (Ok i) refl (h.0.2, h.1);
      exact = (h.0.2, h.1);
    }
bounded_decodes most old new (Err e) o is h =
    record {
      told = without_end (Err e);
      kept = rw (is) (same_error most e);
      decodes = decodes_instruction instruction_follows (Err e) refl h;
      exact = stream_error old new e (encoder_instruction_at old.rest) h;
    }
