-- Instructions of the encoder stream, inspected and printed one by one.
use Rattle.std.proofs.Common.{◌≡◌, ◌≢◌, ℕ, ◌-◌, ◌+◌, List, [], ◌∷◌, ◌++◌, length, take, drop, Option, Some, None}
use Rattle.std.proofs.Common.{Ok, Bool, true, false, refl, sym, ap, subst, ◌∙◌, append_assoc, append-nil}
use Rattle.std.proofs.Common.{length-append, arith}
use Rattle.std.proofs.lemmas.List.{take_at, drop_at}
use Rattle.qpack_base.specs.Cursor.{CursorView}
use Rattle.qpack_spec.specs.Instruction.{EncoderInstruction, SpellsEncoderInstruction, encoder_instruction_form}
use Rattle.qpack_rules.specs.Session.{apply_encoder_instructions}
use Rattle.qpack_spec.specs.Stream.{SpellsAll}
use Rattle.qpack_spec.specs.Table.{Table, apply_encoder_instruction}
use Rattle.qpack_rules.proofs.Taking.{joined_last, applied_last}
use Rattle.qpack_wire.specs.StreamAnswers.{DecodesInstruction, StaysUnlessRead}
use Rattle.qpack_wire.specs.StreamLines.{RefusesEncoderLine, encoder_instruction_of}
use Rattle.qpack_wire.specs.declared.stream.encoder_stream.EncoderLine.{EncoderLine}
use Rattle.qpack_codec.specs.Receiving.{Stops}
use Rattle.qpack_codec.specs.declared.error.DecoderError.{DecoderError}
use Rattle.qpack_codec.specs.declared.error.DecoderError.TheVariants as decoder
use Rattle.qpk.specs.Answers.{fault_of_decoder}
use Rattle.qpk.specs.Inspecting.{instruction_text, instructions_text, received_text}
use Rattle.qpk.specs.Inspections.{ReadsNext, RefusesWhole, FailsWhole, InspectsOne, FailsNext, InspectsNext}
use Rattle.qpk.specs.Inspections.{FailsInstructions, InspectsInstructions}
use Rattle.qpk.proofs.NextInstructions.{no_line}
use Rattle.qpk.specs.declared.text.Fault.{Fault}
use Rattle.qpk.specs.declared.text.Fault.TheVariants.{Refused, Memory}

-- ---- the instruction at the cursor

pub read_next : (old new : CursorView) (o : Option EncoderLine)
    → DecodesInstruction encoder_instruction_of SpellsEncoderInstruction RefusesEncoderLine old new (Ok o)
    → StaysUnlessRead old new (Ok o) → ReadsNext old.rest new.rest (Ok o)
read_next old new None decodes stays = (
  no_line old new None refl decodes,
  ap (λ (c : CursorView). c.rest) stays,
)
read_next old new (Some line) decodes stays = (decodes.found.0, decodes.found.2.0, decodes.found.1)

-- what the decoder refuses is a refusal, save that want of memory is told as that
pub refused_next : (e : DecoderError) (t : Table) (bytes text : List ℕ) → Stops t bytes bytes e
    → FailsNext t t bytes text text (fault_of_decoder e)
refused_next decoder.Memory t bytes text stops = tt
refused_next e t bytes text stops = (
  record { left = bytes; stops = stops; same = refl; room = λ m. cc },
  refl,
)

pub refused_whole : (e : DecoderError) (old new : Table) (encoding : List ℕ)
    → (e ≢ decoder.Memory → RefusesWhole old new encoding e) → FailsWhole old new encoding (fault_of_decoder e)
refused_whole decoder.Memory old new encoding h = tt
refused_whole e old new encoding h = h (λ m. cc)

-- the instruction that was found
pub found_next : (bytes left : List ℕ) (o : Option EncoderLine) (line : EncoderLine) → o ≡ Some line
    → ReadsNext bytes left (Ok o)
    → (encoding : List ℕ) × (bytes ≡ encoding ++ left) × SpellsEncoderInstruction encoding (encoder_instruction_of line)
found_next bytes left o line is read = subst (λ (o : Option EncoderLine). ReadsNext bytes left (Ok o)) is read

-- the bytes in front of what is left
pub front_is : (bytes encoding left : List ℕ) → bytes ≡ encoding ++ left → take (length bytes - length left) bytes
    ≡ encoding
front_is bytes encoding left e =
    let n : length bytes - length left ≡ length encoding =
    (let l : length bytes ≡ length encoding + length left = ap length e ∙ length-append encoding left in
    omega (arith, l)) in
    ap (λ (k : ℕ). take k bytes) n ∙ ap (take (length encoding)) e ∙ take_at encoding left (length encoding) refl

-- the same of a slice and a number that are those
pub slice_is : (slice bytes encoding left : List ℕ) (k : ℕ) → slice ≡ bytes → k ≡ length left → bytes ≡ encoding ++ left
    → take (length slice - k) slice ≡ encoding
slice_is slice bytes encoding left k same is e =
    ap (λ (n : ℕ). take (length slice - n) slice) is ∙ ap (λ (b : List ℕ). take (length b - length left) b) same
    ∙ front_is bytes encoding left e

-- the instruction is not applied
pub fails_next : (fault : Fault) (old new : Table) (bytes encoding left before : List ℕ) → bytes ≡ encoding ++ left
    → FailsWhole old new encoding fault → FailsNext old new bytes before before fault
fails_next (Refused e) old new bytes encoding left before cut fails =
    let stops = fails.stops left in (
      record {
        left = stops.0;
        stops = subst (λ (b : List ℕ). Stops old b stops.0 e) (sym cut) stops.1;
        same = fails.same;
        room = fails.room;
      },
      refl,
    )
fails_next Memory old new bytes encoding left before cut fails = tt
fails_next fault old new bytes encoding left before cut fails = absurd fails

-- ---- all that stand whole

-- these were inspected and printed so far
pub record HasInspected (old now : Table) (bytes rest before text : List ℕ) : Type 0 where
  pub lines : List EncoderInstruction
  pub front : List ℕ
  pub cut : bytes ≡ front ++ rest
  pub joined : SpellsAll SpellsEncoderInstruction front lines
  pub applies : apply_encoder_instructions old lines ≡ Ok now
  pub printed : text ≡ before ++ instructions_text lines

text_last : (lines : List EncoderInstruction) (i : EncoderInstruction) → instructions_text (lines ++ i ∷ [])
    ≡ instructions_text lines ++ instruction_text i
text_last [] i = append-nil (instruction_text i)
text_last (l ∷ lines) i =
    ap (λ (x : List ℕ). instruction_text l ++ x) (text_last lines i)
    ∙ sym (append_assoc (instruction_text l) (instructions_text lines) (instruction_text i))

pub inspected_more : (old now new : Table) (bytes rest left before text after : List ℕ)
    → HasInspected old now bytes rest before text → InspectsOne now new rest left text after
    → HasInspected old new bytes left before after
inspected_more old now new bytes rest left before text after h one =
    let t = one.takes in
    record {
      lines = h.lines ++ t.instruction ∷ [];
      front = h.front ++ t.encoding;
      cut = h.cut ∙ ap (λ (x : List ℕ). h.front ++ x) t.cut ∙ sym (append_assoc h.front t.encoding left);
      joined = joined_last encoder_instruction_form h.lines h.front t.encoding t.instruction h.joined t.spells;
      applies = applied_last apply_encoder_instruction h.lines t.instruction old now new h.applies t.applies;
      printed = one.text ∙ ap (λ (x : List ℕ). x ++ instruction_text t.instruction) h.printed
          ∙ append_assoc before (instructions_text h.lines) (instruction_text t.instruction)
          ∙ ap (λ (x : List ℕ). before ++ x) (sym (text_last h.lines t.instruction));
    }

pub one_was : (now new : Table) (rest left text after : List ℕ) (b : Bool)
    → InspectsNext now new rest left text after (Ok b) → b ≡ true → InspectsOne now new rest left text after
one_was now new rest left text after true one is = one
one_was now new rest left text after false none is = absurd cc

-- the next one is not applied
pub inspected_until : (old now new : Table) (bytes rest before text after : List ℕ) (fault : Fault)
    → HasInspected old now bytes rest before text → FailsNext now new rest text after fault
    → FailsInstructions old bytes before after fault
inspected_until old now new bytes rest before text after (Refused e) h fails =
    let stop = fails.0 in (
      instructions_text h.lines,
      record {
        new = now;
        left = stop.left;
        takes = record {
          lines = h.lines;
          front = h.front;
          rest = rest;
          cut = h.cut;
          joined = h.joined;
          applies = h.applies;
          ends = stop.stops;
        };
        text = refl;
        room = stop.room;
      },
      fails.1 ∙ h.printed,
    )
inspected_until old now new bytes rest before text after Memory h fails = tt
inspected_until old now new bytes rest before text after fault h fails = absurd fails

-- none stands whole any more: what is left is what stands behind so many bytes
pub inspected_all : (old now new : Table) (bytes rest left before text after last : List ℕ) (b : Bool) (taken : ℕ)
    → HasInspected old now bytes rest before text → InspectsNext now new rest left text after (Ok b) → b ≡ false
    → last ≡ after ++ received_text new → taken + length left ≡ length bytes
    → InspectsInstructions old new bytes before last (Ok taken)
inspected_all old now new bytes rest left before text after last true taken h none is printed passed = absurd cc
inspected_all old now new bytes rest left before text after last false taken h none is printed passed =
    let n : taken ≡ length h.front =
    (let l : length bytes ≡ length h.front + length rest = ap length h.cut ∙ length-append h.front rest in
    let m = ap length none.1 in omega (arith, l, m, passed)) in
    let behind : drop taken bytes ≡ rest =
    ap (λ (k : ℕ). drop k bytes) n ∙ ap (drop (length h.front)) h.cut ∙ drop_at h.front rest (length h.front) refl in (
      instructions_text h.lines ++ received_text new,
      record {
        takes = record {
          lines = h.lines;
          front = h.front;
          rest = rest;
          cut = h.cut;
          joined = h.joined;
          applies = h.applies ∙ ap (λ (t : Table). Ok t) (sym none.2);
          ends = (none.0, behind);
        };
        text = refl;
      },
      printed ∙ ap (λ (x : List ℕ). x ++ received_text new) (none.3 ∙ h.printed)
          ∙ append_assoc before (instructions_text h.lines) (received_text new),
      omega (arith, passed),
    )
