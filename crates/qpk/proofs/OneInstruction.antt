-- A decoder that is given the bytes of one instruction applies it, or refuses it as it would at the front of a stream.
use Rattle.std.proofs.Common.{◌≡◌, ◌≢◌, ℕ, ◌+◌, List, [], ◌∷◌, ◌++◌, length, Result, Ok, Err, refl}
use Rattle.std.proofs.Common.{sym, ap, subst, ◌∙◌, append_assoc, append-nil, length-append, arith}
use Rattle.std.specs.Prelude.{⊤}
use Rattle.qpack_spec.specs.Instruction.{EncoderInstruction, encoder_instruction_form, SpellsEncoderInstruction}
use Rattle.qpack_rules.specs.Session.{apply_encoder_instructions}
use Rattle.qpack_spec.specs.Stream.{SpellsAll, Holds}
use Rattle.qpack_spec.specs.Table.{Table, apply_encoder_instruction}
use Rattle.qpack_spec.proofs.Cuttings.{wire, nil_append, streams_read}
use Rattle.qpack_spec.proofs.Results.{bind_ok, ok_is}
use Rattle.qpack_codec.specs.Receiving.{DecoderView, Stops, no_memory, bad_bytes, bad_instruction, TakesInstructions}
use Rattle.qpack_codec.specs.Receiving.{EndsReceiving, Receives}
use Rattle.qpack_codec.specs.declared.error.DecoderError.{DecoderError}
use Rattle.qpack_codec.specs.declared.error.DecoderError.TheVariants.{Memory}
use Rattle.qpk.specs.Inspections.{RefusesWhole}

-- ---- it is applied

-- no bytes are no instruction
none_empty : (bytes more : List ℕ) (i : EncoderInstruction) → [] ≡ bytes ++ more → SpellsEncoderInstruction bytes i → ⊥
none_empty bytes more i e s = let n = nil_append bytes more (sym e) in let b = s.begins in absurd cc

-- the bytes of one instruction hold it alone
alone : (encoding : List ℕ) (i : EncoderInstruction) → SpellsEncoderInstruction encoding i
    → Holds EncoderInstruction SpellsEncoderInstruction encoding (i ∷ []) []
alone encoding i s = record {
  front = encoding;
  cut = sym (append-nil encoding);
  joined = (encoding, [], sym (append-nil encoding), s, refl);
  cut_off = λ bytes more l e t. none_empty bytes more l e t;
}

one_taken : (old new : Table) (encoding left : List ℕ) (i : EncoderInstruction) → SpellsEncoderInstruction encoding i
    → TakesInstructions old new encoding left (Ok tt) → apply_encoder_instruction old i ≡ Ok new
one_taken old new encoding left i s takes =
    let held : Holds EncoderInstruction SpellsEncoderInstruction encoding takes.lines takes.rest =
    record {
      front = takes.front;
      cut = takes.cut;
      joined = takes.joined;
      cut_off = λ bytes more l e t. (takes.ends.0 bytes more e).0 l t;
    } in
    let same = (streams_read encoder_instruction_form encoding takes.lines (i ∷ []) takes.rest [] held
    (alone encoding i s)).0 in
    let applied =
    subst (λ (ls : List EncoderInstruction). apply_encoder_instructions old ls ≡ Ok new) same takes.applies
    in
    let b = bind_ok (apply_encoder_instruction old i) (λ u. Ok u) new applied in
    b.1 ∙ b.2

pub received_one : (old new : DecoderView) (encoding left before after : List ℕ) (total : ℕ) (i : EncoderInstruction)
    → SpellsEncoderInstruction encoding i → Receives old new encoding left before after (Ok total)
    → apply_encoder_instruction old.table i ≡ Ok new.table
received_one old new encoding left before after total i s r = by_taken r.taken r.takes r.ends
  where
    by_taken : (taken : Result ⊤ DecoderError) → TakesInstructions old.table new.table encoding left taken
        → EndsReceiving old new taken before after (Ok total)
        → apply_encoder_instruction old.table i ≡ Ok new.table
    by_taken (Ok done) takes ends = one_taken old.table new.table encoding left i s takes
    by_taken (Err e) takes ends = absurd (let q = ends.0 in cc)

-- ---- or refused

-- no bytes are refused for what they are
nothing_stops : (t : Table) (left : List ℕ) (e : DecoderError) → e ≢ Memory → Stops t [] left e → ⊥
nothing_stops t left e room (no_memory asks m l) = room m
nothing_stops t left e room (bad_bytes fault begins told l) =
    let n = nil_append begins.encoding begins.rest (sym begins.parts) in
    let b = begins.holds.begins in
    absurd cc
nothing_stops t left e room (bad_instruction encoding more i refusal cut spells applies told l) =
    none_empty encoding more i cut spells

-- bytes behind those that are refused change nothing
longer : (t : Table) (bytes left more : List ℕ) (e : DecoderError) → e ≢ Memory → Stops t bytes left e
    → (rest : List ℕ) × Stops t (bytes ++ more) rest e
longer t bytes left more e room (no_memory asks m l) = absurd (room m)
longer t bytes left more e room (bad_bytes fault begins told l) = (
  bytes ++ more,
  bad_bytes fault
      (record {
        encoding = begins.encoding;
        rest = begins.rest ++ more;
        parts = ap (λ (x : List ℕ). x ++ more) begins.parts ∙ append_assoc begins.encoding begins.rest more;
        holds = begins.holds;
      }) told refl,
)
longer t bytes left more e room (bad_instruction encoding behind i refusal cut spells applies told l) = (
  _,
  bad_instruction encoding (behind ++ more) i refusal
      (ap (λ (x : List ℕ). x ++ more) cut ∙ append_assoc encoding behind more) spells applies told refl,
)

none_behind : (front rest : List ℕ) → length (front ++ rest) ≡ length front → rest ≡ []
none_behind front [] e = refl
none_behind front (b ∷ rest) e = let l = length-append front (b ∷ rest) in absurd (omega (arith, e, l))

one_refused : (old new : Table) (encoding left : List ℕ) (e : DecoderError) (i : EncoderInstruction)
    → SpellsEncoderInstruction encoding i → e ≢ Memory
    → (lines : List EncoderInstruction) (front rest : List ℕ) → encoding ≡ front ++ rest
    → SpellsAll SpellsEncoderInstruction front lines → apply_encoder_instructions old lines ≡ Ok new
    → Stops new rest left e → RefusesWhole old new encoding e
one_refused old new encoding left e i s room [] front rest cut joined applies stops =
    let same : old ≡ new = ok_is old new applies in
    let whole : encoding ≡ rest = cut ∙ ap (λ (x : List ℕ). x ++ rest) joined in
    let here : Stops old encoding left e =
    subst (λ (t : Table). Stops t encoding left e) (sym same)
    (subst (λ (b : List ℕ). Stops new b left e) (sym whole) stops) in
    record { stops = λ more. longer old encoding left more e room here; same = sym same; room = room }
one_refused old new encoding left e i s room (j ∷ js) front rest cut joined applies stops =
    let parts : encoding ++ [] ≡ joined.0 ++ (joined.1 ++ rest) =
    append-nil encoding ∙ cut ∙ ap (λ (x : List ℕ). x ++ rest) joined.2 ∙ append_assoc joined.0 joined.1 rest in
    let same = ((wire encoder_instruction_form).one_spelling encoding joined.0 [] (joined.1 ++ rest) i j s joined.3
    parts).0 in
    let n : length encoding ≡ length joined.0 = ap length same in
    let m : length encoding ≡ length front + length rest = ap length cut ∙ length-append front rest in
    let k : length front ≡ length joined.0 + length joined.1 = ap length joined.2 ∙ length-append joined.0 joined.1 in
    let none : rest ≡ [] = none_behind front rest (length-append front rest ∙ omega (arith, n, m, k)) in
    absurd (nothing_stops new left e room (subst (λ (b : List ℕ). Stops new b left e) none stops))

pub refused_one : (old new : DecoderView) (encoding left before after : List ℕ) (e : DecoderError)
    (i : EncoderInstruction)
    → SpellsEncoderInstruction encoding i → Receives old new encoding left before after (Err e) → e ≢ Memory
    → RefusesWhole old.table new.table encoding e
refused_one old new encoding left before after e i s r room = by_taken r.taken r.takes r.ends
  where
    by_taken : (taken : Result ⊤ DecoderError) → TakesInstructions old.table new.table encoding left taken
        → EndsReceiving old new taken before after (Err e) → RefusesWhole old.table new.table encoding e
    by_taken (Ok done) takes ends = absurd (room ends.0)
    by_taken (Err f) takes ends =
        let same : f ≡ e = (let q = ends.0 in cc) in
        one_refused old.table new.table encoding left e i s room takes.lines takes.front takes.rest takes.cut
        takes.joined takes.applies
        (subst (λ (x : DecoderError). Stops new.table takes.rest left x) same takes.ends)
