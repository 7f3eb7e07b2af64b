-- Every event has an answer at every session.
use Rattle.std.proofs.Common.{ℕ, zero, suc, ◌+◌, ◌^◌, ◌≤◌, ◌≡◌, Bool, true, false, cond, List, [], ◌∷◌, ◌++◌}
use Rattle.std.proofs.Common.{length, take, drop, Option, None, Some, Result, Ok, Err, refl, sym, ap, ◌∙◌, arith, inl}
use Rattle.std.proofs.Common.{inr, length-append, append_assoc}
use Rattle.std.specs.Prelude.{nat_lt, nat_le}
use Rattle.std.proofs.lemmas.Bool.{ltb-true}
use Rattle.qpack_spec.specs.Bytes.{Begins, ◌>>=◌}
use Rattle.qpack_spec.specs.Form.{FormFault, is_cut, Form, Spells, Refuses, Truncates, form_at}
use Rattle.qpack_spec.specs.Instruction.{EncoderInstruction, DecoderInstruction, encoder_instruction_form}
use Rattle.qpack_spec.specs.Instruction.{decoder_instruction_form}
use Rattle.qpack_spec.specs.Window.{TableRefusal}
use Rattle.qpack_spec.specs.Table.{Table, window, apply_encoder_instruction, apply_decoder_instruction, with_capacity}
use Rattle.qpack_rules.specs.Session.{stream_at, Session, Event, Encode, Decode, ToDecoder, ToEncoder}
use Rattle.qpack_rules.specs.Session.{Acknowledge, Cancel, ChangeCapacity, Outcome, decode_outcome, NoMemory}
use Rattle.qpack_rules.specs.Session.{EndsAtDecoder, takes_all, bad_bytes}
use Rattle.qpack_rules.specs.Session.{bad_instruction, DeliversToDecoder, EndsAtEncoder, takes_all_at_encoder}
use Rattle.qpack_rules.specs.Session.{bad_bytes_at_encoder, bad_decoder_instruction}
use Rattle.qpack_rules.specs.Session.{DeliversToEncoder, skip_reason, LawfulStep, Step}
use Rattle.qpack_spec.specs.Reading.{Reading, Fields, Missing, Faulty}
use Rattle.qpack_spec.specs.BlockReading.{reading_of_bytes}
use Rattle.qpack_rules.specs.SessionLaws.{EventsHaveAnswers}
use Rattle.qpack_rules.specs.Taking.{apply_in_turn, TakesAllOf}
use Rattle.qpack_spec.proofs.FormLaws.{form_takes, form_refusal, reads_form_truncation}
use Rattle.qpack_spec.proofs.Lists.{get_within}
use Rattle.qpack_rules.proofs.Taking.{ends_as}

-- how a reading of lines ends behind those that were taken: the rest is truncated, or refused, or the next step is
data Stops (L : Type 0) (form_of : ℕ → Option (Form L)) (step : Table → L
    → Result Table TableRefusal) (t : Table) (rest : List ℕ) : Type 0 where
  truncated : Truncates form_of rest → Stops L form_of step t rest
  refused_bytes : (fault : FormFault) → Begins (λ encoding. Refuses L form_of encoding fault) rest
      → Stops L form_of step t rest
  refused_step : (encoding more : List ℕ) (l : L) (e : TableRefusal) → rest ≡ encoding ++ more
      → Spells L form_of encoding l
      → step t l ≡ Err e
      → Stops L form_of step t rest

-- lines are taken as far as they stand whole and none is refused
record ReadsOn (L : Type 0) (form_of : ℕ → Option (Form L)) (step : Table → L → Result Table TableRefusal)
    (t : Table) (bytes : List ℕ) : Type 0 where
  pub table : Table
  pub takes : TakesAllOf form_of step t table bytes (λ front rest. Stops L form_of step table rest)

-- none is taken
reads_none : {L : Type 0} (form_of : ℕ → Option (Form L)) (step : Table → L → Result Table TableRefusal) (t : Table)
    (bytes : List ℕ) → Stops L form_of step t bytes → ReadsOn L form_of step t bytes
reads_none form_of step t bytes s = record {
  table = t;
  takes = record { lines = []; front = []; rest = bytes; cut = refl; joined = refl; applies = refl; ends = s };
}

reads_cut : {L : Type 0} (form_of : ℕ → Option (Form L)) (step : Table → L → Result Table TableRefusal) (t : Table)
    (bytes : List ℕ) (e : FormFault) → form_at form_of bytes ≡ Err e → (b : Bool) → is_cut e ≡ b
    → ReadsOn L form_of step t bytes
reads_cut form_of step t bytes e q true c =
    reads_none form_of step t bytes (truncated ((reads_form_truncation form_of bytes).0 (e, c, q)))
reads_cut form_of step t bytes e q false c =
    reads_none form_of step t bytes (refused_bytes e (form_refusal form_of bytes e q c))

-- any bytes are read on until they are cut, or something is refused
reads_on : {L : Type 0} (form_of : ℕ → Option (Form L)) (step : Table → L → Result Table TableRefusal) (steps : ℕ)
    (t : Table) (bytes : List ℕ) → length bytes ≤ steps → ReadsOn L form_of step t bytes
reads_on {L} form_of step zero t bytes h = go (form_at form_of bytes) refl
  where
    go : (r : Result (L × List ℕ) FormFault) → form_at form_of bytes ≡ r → ReadsOn L form_of step t bytes
    go (Err e) q = reads_cut form_of step t bytes e q (is_cut e) refl
    go (Ok x) q = let k = form_takes form_of bytes x.0 x.1 q in
        absurd (omega (arith, h, ap length k.parts, length-append k.encoding x.1, ap length k.spells.begins))
reads_on {L} form_of step (suc steps) t bytes h =
    go (λ u b le. reads_on form_of step steps u b le) (form_at form_of bytes) refl
  where
    line : ((u : Table) (b : List ℕ) → length b ≤ steps → ReadsOn L form_of step u b)
        → (encoding rest : List ℕ) (l : L) → bytes ≡ encoding ++ rest → Spells L form_of encoding l
        → (r : Result Table TableRefusal) → step t l ≡ r → ReadsOn L form_of step t bytes
    line more encoding rest l p s (Err e) q =
        reads_none form_of step t bytes (refused_step encoding rest l e p s q)
    line more encoding rest l p s (Ok u) q =
        let on = more u rest (omega (arith, h, ap length p, length-append encoding rest, ap length s.begins)) in
        let k = on.takes in
        record {
          table = on.table;
          takes = record {
            lines = l ∷ k.lines;
            front = encoding ++ k.front;
            rest = k.rest;
            cut = p ∙ ap (λ x. encoding ++ x) k.cut ∙ sym (append_assoc encoding k.front k.rest);
            joined = (encoding, k.front, refl, s, k.joined);
            applies = ap (λ (x : Result Table TableRefusal). x >>= λ y. apply_in_turn step y k.lines) q ∙ k.applies;
            ends = k.ends;
          };
        }

    go : ((u : Table) (b : List ℕ) → length b ≤ steps → ReadsOn L form_of step u b)
        → (r : Result (L × List ℕ) FormFault) → form_at form_of bytes ≡ r → ReadsOn L form_of step t bytes
    go more (Err e) q = reads_cut form_of step t bytes e q (is_cut e) refl
    go more (Ok x) q = let k = form_takes form_of bytes x.0 x.1 q in
        line more k.encoding x.1 x.0 k.parts k.spells (step t x.0) refl

-- an answer that is no refusal for memory
abbrev Answers : Session → Event → Type 0
Answers v e = (o : Outcome) × (v' : Session) × LawfulStep v e o v' × (o ≡ NoMemory → ⊥)

-- what is offered to the decoder, and to the encoder
abbrev to_take : Session → ℕ → List ℕ
to_take v n = drop v.encoder_stream_taken (take (v.encoder_stream_delivered + n) v.encoder_stream)

abbrev to_hear : Session → ℕ → List ℕ
to_hear v n = drop v.decoder_stream_taken (take (v.decoder_stream_delivered + n) v.decoder_stream)

to_decoder : (v : Session) (n : ℕ) → (o : Outcome) × (v' : Session) × DeliversToDecoder v n o v' × (o ≡ NoMemory → ⊥)
to_decoder v n =
    go (reads_on encoder_instruction_form apply_encoder_instruction (length (to_take v n)) v.decoder (to_take v n)
    (omega arith))
  where
    go : ReadsOn EncoderInstruction encoder_instruction_form apply_encoder_instruction v.decoder (to_take v n)
        → (o : Outcome) × (v' : Session) × DeliversToDecoder v n o v' × (o ≡ NoMemory → ⊥)
    go r = ends r.takes.ends
      where
        delivers : (o : Outcome) (v' : Session) → EndsAtDecoder v n r.table r.takes.front r.takes.rest o v'
            → DeliversToDecoder v n o v'
        delivers o v' e =
            record { table = r.table; takes = ends_as (λ f b. EndsAtDecoder v n r.table f b o v') r.takes e }

        ends : Stops EncoderInstruction encoder_instruction_form apply_encoder_instruction r.table r.takes.rest
            → (o : Outcome) × (v' : Session) × DeliversToDecoder v n o v' × (o ≡ NoMemory → ⊥)
        ends (truncated c) = (
          _,
          _,
          delivers _ _ (takes_all c refl refl),
          λ h. absurd cc,
        )
        ends (refused_bytes fault c) = (_, _, delivers _ _ (bad_bytes fault c refl refl), λ h. absurd cc)
        ends (refused_step encoding more l e cut spells refused) =
            (_, _, delivers _ _ (bad_instruction encoding more l e cut spells refused refl refl), λ h. absurd cc)

to_encoder : (v : Session) (n : ℕ) → (o : Outcome) × (v' : Session) × DeliversToEncoder v n o v' × (o ≡ NoMemory → ⊥)
to_encoder v n =
    go (reads_on decoder_instruction_form apply_decoder_instruction (length (to_hear v n)) v.encoder (to_hear v n)
    (omega arith))
  where
    go : ReadsOn DecoderInstruction decoder_instruction_form apply_decoder_instruction v.encoder (to_hear v n)
        → (o : Outcome) × (v' : Session) × DeliversToEncoder v n o v' × (o ≡ NoMemory → ⊥)
    go r = ends r.takes.ends
      where
        delivers : (o : Outcome) (v' : Session) → EndsAtEncoder v n r.table r.takes.front r.takes.rest o v'
            → DeliversToEncoder v n o v'
        delivers o v' e =
            record { table = r.table; takes = ends_as (λ f b. EndsAtEncoder v n r.table f b o v') r.takes e }

        ends : Stops DecoderInstruction decoder_instruction_form apply_decoder_instruction r.table r.takes.rest
            → (o : Outcome) × (v' : Session) × DeliversToEncoder v n o v' × (o ≡ NoMemory → ⊥)
        ends (truncated c) = (_, _, delivers _ _ (takes_all_at_encoder c refl refl), λ h. absurd cc)
        ends (refused_bytes fault c) = (_, _, delivers _ _ (bad_bytes_at_encoder fault c refl refl), λ h. absurd cc)
        ends (refused_step encoding more l e cut spells refused) = (
          _,
          _,
          delivers _ _ (bad_decoder_instruction encoding more l e cut spells refused refl refl),
          λ h. absurd
              cc,
        )

lawful_decode : (a b c : Bool) (reason : ℕ) → cond a (Some 1) (cond b (Some 3) (cond c None (Some reason))) ≡ None
    → c ≡ true
lawful_decode true b c reason h = absurd cc
lawful_decode false true c reason h = absurd cc
lawful_decode false false true reason h = refl
lawful_decode false false false reason h = absurd cc

-- a reading is no refusal for memory
decode_no_memory : (r : Reading) → decode_outcome r ≡ NoMemory → ⊥
decode_no_memory (Fields fs d) e = absurd cc
decode_no_memory (Missing n) e = absurd cc
decode_no_memory (Faulty f) e = absurd cc

lawful_answers : (v : Session) (e : Event) → skip_reason v e ≡ None → Answers v e
unfolding LawfulStep skip_reason
lawful_answers v (Encode s fs) h = (_, _, inl (refl, refl), λ x. absurd cc)
lawful_answers v (Decode s) h =
    let k = stream_at v.streams s in
    let more : nat_lt k.decoded (length k.blocks) ≡ true =
    lawful_decode (nat_le (2 ^ 62) s) k.cancelled (nat_lt k.decoded (length k.blocks)) 2 h in
    let b = get_within k.blocks k.decoded (ltb-true _ _ more) in (
      _,
      _,
      inl (record { block = b.0; is_next = b.1; answers = refl; moves = refl }),
      decode_no_memory (reading_of_bytes (window v.decoder) b.0.bytes),
    )
lawful_answers v (ToDecoder n) h = to_decoder v n
lawful_answers v (ToEncoder n) h = to_encoder v n
lawful_answers v (Acknowledge s) h = (_, _, inl (refl, refl), λ x. absurd cc)
lawful_answers v (Cancel s) h = (_, _, inl (refl, refl), λ x. absurd cc)
lawful_answers v (ChangeCapacity n) h = go (with_capacity v.encoder n) refl
  where
    go : (r : Result Table TableRefusal) → with_capacity v.encoder n ≡ r → Answers v (ChangeCapacity n)
    go (Ok t) q = (_, _, inl (record { table = t; is_set = q; answers = refl; leads = refl }), λ x. absurd cc)
    go (Err e) q =
        (_, _, inr (inl (record { refusal = e; is_refused = q; answers = refl; stays = refl })), λ x. absurd cc)

pub events_answer : EventsHaveAnswers
events_answer v e = go (skip_reason v e) refl
  where
    go : (o : Option ℕ) → skip_reason v e ≡ o → (o : Outcome) × (v' : Session) × Step v e o v' × (o ≡ NoMemory → ⊥)
    go (Some r) q = (_, _, inl (record { reason = r; is_reason = q; answers = refl; stays = refl }), λ x. absurd cc)
    go None q = let a = lawful_answers v e q in (a.0, a.1, inr (q, a.2), a.3)
