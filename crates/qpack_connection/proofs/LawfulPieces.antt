-- A strict end refuses nothing of a stream that is lawful to its end, however the stream is cut.
use Rattle.std.proofs.Common.{◌≡◌, ℕ, List, [], ◌∷◌, ◌++◌, Result, Ok, Err, sym, ap}
use Rattle.std.proofs.Common.{◌∙◌, subst, arith}
use Rattle.std.specs.Prelude.{IsOk}
use Rattle.std.proofs.lemmas.List.{append_assoc, append_cancel_left}
use Rattle.qpack_spec.specs.Bytes.{◌>>=◌}
use Rattle.qpack_spec.specs.Form.{BadInteger}
use Rattle.qpack_spec.specs.Instruction.{DecoderInstruction}
use Rattle.qpack_spec.specs.Instruction.{SpellsDecoderInstruction, decoder_instruction_form}
use Rattle.qpack_spec.specs.Integer.{Overflow}
use Rattle.qpack_rules.specs.LawfulStreams.{IsNotRefused, IsLawfulStream}
use Rattle.qpack_spec.specs.Stream.{SpellsAll}
use Rattle.qpack_rules.specs.StrictInstructions.{HearingRefusal, strict_apply, strict_hear, hear_in_turn}
use Rattle.qpack_spec.specs.Table.{Table}
use Rattle.qpack_spec.specs.Window.{TableRefusal}
use Rattle.qpack_spec.proofs.Cuttings.{wire, refusal_apart, nil_append, reads_front}
use Rattle.qpack_rules.proofs.LawfulStreams.{never_refused}
use Rattle.qpack_spec.proofs.Results.{bind_ok, ok_is}
use Rattle.qpack_codec.specs.declared.error.DecoderError.{DecoderError}
use Rattle.qpack_encoding.specs.declared.decoder_stream.HearingError.{HearingError}
use Rattle.qpack_encoding.specs.Hearing as hearing
use Rattle.qpack_encoding.specs.Hearing.{TellsRefusal}
use Rattle.qpack_connection.specs.LawfulPieces.{EncoderStreamsAreNeverRefused, DecoderStreamsAreNeverRefused}
use Rattle.qpack_decoding.specs.Receiving.{Refuses, bad_bytes, bad_instruction, no_capacity, too_large}

-- ---- the encoder stream

not_ok : {refusal : TableRefusal} (r : Result Table TableRefusal) → r ≡ Err refusal → IsOk r → ⊥
not_ok (Ok u) e is = absurd cc
not_ok (Err d) e is = absurd cc

refuses_none : (t : Table) (rest : List ℕ) (e : DecoderError) → IsNotRefused t rest → Refuses t rest e → ⊥
refuses_none t rest e lawful (bad_bytes fault begins tells) = lawful.bytes fault begins
refuses_none t rest e lawful (bad_instruction i refusal begins refused tells) =
    not_ok (strict_apply t i) refused (lawful.instruction i begins)
refuses_none t rest e lawful (no_capacity none begins tells) =
    absurd (let h = lawful.capacity none in cc)
refuses_none t rest e lawful (too_large cut large tells) =
    absurd (let h = lawful.size cut in omega (arith, h, large))

pub encoder_streams_taken : EncoderStreamsAreNeverRefused
encoder_streams_taken start old new last before bytes behind left sent s u place e lawful received =
    let r = received.1 in
    let k = r.refused.0 in
    let g = never_refused start new last (before ++ r.front) (r.back ++ behind) sent
    (subst (λ (b : List ℕ). IsLawfulStream start last b sent)
    (ap (λ (b : List ℕ). (before ++ b) ++ behind) r.cut
    ∙ ap (λ (b : List ℕ). b ++ behind) (sym (append_assoc before r.front r.back))
    ∙ append_assoc (before ++ r.front) r.back behind) lawful)
    (record {
      lines = k.lines;
      front = k.front;
      rest = k.rest;
      cut = k.cut;
      joined = k.joined;
      applies = k.applies;
      ends = tt;
    }) in
    refuses_none new k.rest e g.refuses_nothing k.ends

-- ---- the decoder stream

heard_front : (first now last : Table) (lines others : List DecoderInstruction) → hear_in_turn first lines ≡ Ok now
    → hear_in_turn first (lines ++ others) ≡ Ok last → hear_in_turn now others ≡ Ok last
heard_front first now last [] others h k =
    subst (λ (t : Table). hear_in_turn t others ≡ Ok last) (ok_is first now h) k
heard_front first now last (l ∷ lines) others h k =
    let one = bind_ok (strict_hear first l) (λ u. hear_in_turn u lines) now h in
    heard_front one.0 now last lines others one.2
    (ap (λ (r : Result Table HearingRefusal). r >>= λ u. hear_in_turn u (lines ++ others)) (sym one.1) ∙ k)

hears_all : (t last : Table) (rest behind : List ℕ) (e : HearingError) (others : List DecoderInstruction)
    → SpellsAll SpellsDecoderInstruction (rest ++ behind) others → hear_in_turn t others ≡ Ok last
    → hearing.Refuses t rest e → ⊥
hears_all t last rest behind e [] spelled applied (hearing.bad_bytes b is) =
    let none : rest ≡ [] = nil_append rest behind spelled in
    absurd (let x = b.holds.begins in let p = b.parts in cc)
hears_all t last rest behind e [] spelled applied (hearing.bad_instruction i b tells) =
    let none : rest ≡ [] = nil_append rest behind spelled in
    absurd (let x = b.holds.begins in let p = b.parts in cc)
hears_all t last rest behind e (o ∷ others) spelled applied (hearing.bad_bytes b is) =
    refusal_apart decoder_instruction_form (BadInteger Overflow) b.encoding spelled.0 (b.rest ++ behind) spelled.1 o
    b.holds spelled.3 (sym (append_assoc b.encoding b.rest behind) ∙ ap (λ x. x ++ behind) (sym b.parts) ∙ spelled.2)
hears_all t last rest behind e (o ∷ others) spelled applied (hearing.bad_instruction i b tells) =
    let same = (wire decoder_instruction_form).one_spelling b.encoding spelled.0 (b.rest ++ behind) spelled.1 i o
    b.holds spelled.3
    (sym (append_assoc b.encoding b.rest behind) ∙ ap (λ x. x ++ behind) (sym b.parts) ∙ spelled.2) in
    let first = bind_ok (strict_hear t o) (λ u. hear_in_turn u others) last applied in
    subst (λ (r : Result Table HearingRefusal). TellsRefusal e r) (ap (strict_hear t) same.1 ∙ first.1) tells

pub decoder_streams_heard : DecoderStreamsAreNeverRefused
decoder_streams_heard old new last heard in_flight before bytes behind u e spelled applied received =
    let more = received.0.more in
    let stands = received.0.behind_them in
    let r = reads_front SpellsDecoderInstruction (wire decoder_instruction_form) (heard ++ more) (heard ++ in_flight)
    stands.front stands.rest behind stands.joined
    (subst (λ (b : List ℕ). SpellsAll SpellsDecoderInstruction b (heard ++ in_flight))
    (ap (λ x. x ++ behind) stands.cut ∙ append_assoc stands.front stands.rest behind) spelled) in
    let others : in_flight ≡ more ++ r.still =
    append_cancel_left heard in_flight (more ++ r.still) (r.goes_on ∙ append_assoc heard more r.still) in
    hears_all new last stands.rest behind e.error r.still r.left
    (heard_front old new last more r.still received.0.applies
    (subst (λ (is : List DecoderInstruction). hear_in_turn old is ≡ Ok last) others applied)) stands.ends
