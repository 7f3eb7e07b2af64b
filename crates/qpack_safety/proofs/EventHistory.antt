-- Every event adds to the blocks of each stream what it wrote, and to those decoded what it read.
use Rattle.std.proofs.Common.{ℕ, ◌+◌, ◌≡◌, Bool, true, false, cond, List, [], ◌∷◌, ◌++◌, length, map, Some}
use Rattle.std.proofs.Common.{refl, sym, ap, ◌∙◌, subst, inl, inr, ◌⊎◌, arith}
use Rattle.std.specs.Prelude.{nat_eq}
use Rattle.std.proofs.lemmas.Bool.{cases_eq, eq-eqb, ne_eqb}
use Rattle.std.proofs.lemmas.List.{append-nil, append_assoc, map-append}
use Rattle.qpack_spec.specs.Field.{Field}
use Rattle.qpack_spec.specs.Instruction.{written_encoder_instructions}
use Rattle.qpack_spec.specs.Reading.{Reading, Fields, Missing, Faulty}
use Rattle.qpack_spec.specs.BlockReading.{reading_of_bytes, written_block}
use Rattle.qpack_spec.specs.Table.{Table, window}
use Rattle.qpack_spec.specs.Rule.{rule, required_insert_count, block_of}
use Rattle.qpack_rules.specs.Session.{KeptBlock, KeptStream, stream_at, Session, Event, Encode, Decode, ToDecoder}
use Rattle.qpack_rules.specs.Session.{ToEncoder, Acknowledge, Cancel, ChangeCapacity, Outcome, Encoded}
use Rattle.qpack_rules.specs.Session.{Skipped, decode_outcome, with_block, with_decoded, is_read, EndsAtDecoder}
use Rattle.qpack_rules.specs.Session.{takes_all, no_memory, bad_bytes, bad_instruction, EndsAtEncoder}
use Rattle.qpack_rules.specs.Session.{takes_all_at_encoder, bad_bytes_at_encoder, bad_decoder_instruction, LawfulStep}
use Rattle.qpack_rules.specs.Session.{Step, Run}
use Rattle.qpack_safety.specs.Headline.{AnsweredEncode, encode_of, decode_of, encodes_on, decodes_on}
use Rattle.qpack_safety.specs.SessionSafety.{encode_behind}

-- ---- one stream changed

blocks_changed : (ps : List (ℕ × KeptStream)) (t : ℕ) (k : KeptStream) (more : List KeptBlock)
    → k.blocks ≡ (stream_at ps t).blocks ++ more
    → (s : ℕ) → (stream_at ((t, k) ∷ ps) s).blocks ≡ (stream_at ps s).blocks ++ cond (nat_eq t s) more []
blocks_changed ps t k more e s = pick (cases_eq t s)
  where
    pick : (t ≡ s) ⊎ (t ≡ s → ⊥) → (stream_at ((t, k) ∷ ps) s).blocks
        ≡ (stream_at ps s).blocks ++ cond (nat_eq t s) more []
    pick (inl q) = let own : nat_eq t s ≡ true =
        eq-eqb t s q in rw own (e ∙ ap (λ x. (stream_at ps x).blocks ++ more) q)
    pick (inr d) = let apart : nat_eq t s ≡ false = ne_eqb t s d in rw apart (sym (append-nil (stream_at ps s).blocks))

decoded_changed : (ps : List (ℕ × KeptStream)) (t : ℕ) (k : KeptStream) (more : ℕ)
    → k.decoded ≡ (stream_at ps t).decoded + more
    → (s : ℕ) → (stream_at ((t, k) ∷ ps) s).decoded ≡ (stream_at ps s).decoded + cond (nat_eq t s) more 0
decoded_changed ps t k more e s = pick (cases_eq t s)
  where
    pick : (t ≡ s) ⊎ (t ≡ s → ⊥) → (stream_at ((t, k) ∷ ps) s).decoded
        ≡ (stream_at ps s).decoded + cond (nat_eq t s) more 0
    pick (inl q) = let own : nat_eq t s ≡ true =
        eq-eqb t s q in rw own (e ∙ ap (λ x. (stream_at ps x).decoded + more) q)
    pick (inr d) = let apart : nat_eq t s ≡ false = ne_eqb t s d in rw apart (omega arith)

cond_nil : {X : Type 0} (b : Bool) → cond b (let n : List X = [] in n) [] ≡ []
cond_nil true = refl
cond_nil false = refl

cond_zero : (b : Bool) → cond b (let n : ℕ = 0 in n) 0 ≡ 0
cond_zero true = refl
cond_zero false = refl

-- ---- one event

-- the blocks that an event adds to a stream, and how many more are decoded there
pub record Adds (v v' : Session) (s : ℕ) (encodes : List AnsweredEncode) (decodes : ℕ) : Type 0 where
  pub more : List KeptBlock
  pub blocks : (stream_at v'.streams s).blocks ≡ (stream_at v.streams s).blocks ++ more
  pub written : map (λ b. encode_behind b) more ≡ encodes
  pub decoded : (stream_at v'.streams s).decoded ≡ (stream_at v.streams s).decoded + decodes

adds_none : (v v' : Session) (s : ℕ) → stream_at v'.streams s ≡ stream_at v.streams s → Adds v v' s [] 0
adds_none v v' s e =
    record {
      more = [];
      blocks = ap (λ (k : KeptStream). k.blocks) e ∙ sym (append-nil (stream_at v.streams s).blocks);
      written = refl;
      decoded = ap (λ (k : KeptStream). k.decoded) e ∙ omega arith;
    }

-- a stream with as many blocks, of which so many more are decoded
adds_decoded : (v : Session) (t s : ℕ) (k : KeptStream) (n : ℕ) (decoder_stream : List ℕ)
    → k.blocks ≡ (stream_at v.streams t).blocks → k.decoded ≡ (stream_at v.streams t).decoded + n
    → Adds v (record v { streams = (t, k) ∷ v.streams; decoder_stream = decoder_stream }) s [] (cond (nat_eq t s) n 0)
adds_decoded v t s k n decoder_stream b d =
    record {
      more = [];
      blocks = blocks_changed v.streams t k [] (b ∙ sym (append-nil (stream_at v.streams t).blocks)) s
          ∙ ap (λ m. (stream_at v.streams s).blocks ++ m) (cond_nil (nat_eq t s));
      written = refl;
      decoded = decoded_changed v.streams t k n d s;
    }

-- a stream that only stands elsewhere
same_stream : (v : Session) (t s : ℕ) (k : KeptStream) (decoder_stream : List ℕ) → k.blocks
    ≡ (stream_at v.streams t).blocks
    → k.decoded ≡ (stream_at v.streams t).decoded
    → Adds v (record v { streams = (t, k) ∷ v.streams; decoder_stream = decoder_stream }) s [] 0
same_stream v t s k decoder_stream b d =
    subst (Adds v (record v { streams = (t, k) ∷ v.streams; decoder_stream = decoder_stream }) s [])
    (cond_zero (nat_eq t s))
    (adds_decoded v t s k 0 decoder_stream b (d ∙ omega arith))

adds_block : (v : Session) (t : ℕ) (fs : List Field) (s : ℕ)
    → Adds v (with_block v t fs) s (encode_of s (Encode t fs) (Encoded (required_insert_count (rule v.encoder fs)))) 0
adds_block v t fs s =
    let d = rule v.encoder fs in
    let old = stream_at v.streams t in
    let b : KeptBlock =
    record {
      bytes = written_block (block_of v.encoder d);
      required = required_insert_count d;
      end = length (v.encoder_stream ++ written_encoder_instructions d.instructions);
      fields = fs;
    } in
    let k : KeptStream = record old { blocks = old.blocks ++ b ∷ [] } in
    record {
      more = cond (nat_eq t s) (b ∷ []) [];
      blocks = blocks_changed v.streams t k (b ∷ []) refl s;
      written = one b (nat_eq t s);
      decoded =
          decoded_changed v.streams t k 0 (omega arith) s
          ∙ ap (λ n. (stream_at v.streams s).decoded + n) (cond_zero (nat_eq t s));
    }
  where
    one : (b : KeptBlock) (x : Bool) → map (λ a. encode_behind a) (cond x (b ∷ []) [])
        ≡ cond x (encode_behind b ∷ []) []
    one b true = refl
    one b false = refl

-- what a decode of a stream answers, and what it moves
adds_read : (v : Session) (t : ℕ) (r : Reading) (s : ℕ)
    → Adds v (cond (is_read (Some r)) (with_decoded v t) v) s [] (decode_of s (Decode t) (decode_outcome r))
adds_read v t (Fields fs d) s = adds_decoded v t s _ 1 v.decoder_stream refl refl
adds_read v t (Missing n) s = adds_none v v s refl
adds_read v t (Faulty f) s = adds_none v v s refl

adds_delivery : (v : Session) (n : ℕ) (t : Table) (front rest : List ℕ) (o : Outcome) (v' : Session) (s : ℕ)
    → EndsAtDecoder v n t front rest o v' → Adds v v' s [] 0
adds_delivery v n t front rest o v' s (takes_all cut is goes) =
    adds_none v v' s (ap (λ (x : Session). stream_at x.streams s) goes)
adds_delivery v n t front rest o v' s (no_memory is goes) =
    adds_none v v' s (ap (λ (x : Session). stream_at x.streams s) goes)
adds_delivery v n t front rest o v' s (bad_bytes fault b is goes) =
    adds_none v v' s (ap (λ (x : Session). stream_at x.streams s) goes)
adds_delivery v n t front rest o v' s (bad_instruction encoding more i e cut x bad is goes) =
    adds_none v v' s (ap (λ (x : Session). stream_at x.streams s) goes)

adds_hearing : (v : Session) (n : ℕ) (t : Table) (front rest : List ℕ) (o : Outcome) (v' : Session) (s : ℕ)
    → EndsAtEncoder v n t front rest o v' → Adds v v' s [] 0
adds_hearing v n t front rest o v' s (takes_all_at_encoder cut is goes) =
    adds_none v v' s (ap (λ (x : Session). stream_at x.streams s) goes)
adds_hearing v n t front rest o v' s (bad_bytes_at_encoder fault b is goes) =
    adds_none v v' s (ap (λ (x : Session). stream_at x.streams s) goes)
adds_hearing v n t front rest o v' s (bad_decoder_instruction encoding more r e cut x bad is goes) =
    adds_none v v' s (ap (λ (x : Session). stream_at x.streams s) goes)

-- where the answer and the session behind it are known
abbrev EventAdds : Session → Event → ℕ → Outcome → Session → Type 0
EventAdds v e s o v' = Adds v v' s (encode_of s e o) (decode_of s e o)

known_as : (v : Session) (e : Event) (s : ℕ) (o o1 : Outcome) (v' v1 : Session) → o ≡ o1 → v' ≡ v1
    → EventAdds v e s o1 v1 → EventAdds v e s o v'
known_as v e s o o1 v' v1 p q h =
    subst (λ (x : Outcome). EventAdds v e s x v') (sym p) (subst (λ (x : Session). EventAdds v e s o1 x) (sym q) h)

happens_adds : (v : Session) (e : Event) (o : Outcome) (v' : Session) (s : ℕ) → LawfulStep v e o v'
    → EventAdds v e s o v'
unfolding LawfulStep
happens_adds v (Encode t fs) o v' s (inl h) = known_as v (Encode t fs) s o _ v' _ h.0 h.1 (adds_block v t fs s)
happens_adds v (Encode t fs) o v' s (inr (inl h)) =
    known_as v (Encode t fs) s o _ v' _ h.answers h.leads (adds_none v _ s refl)
happens_adds v (Encode t fs) o v' s (inr (inr h)) = known_as v (Encode t fs) s o _ v' _ h.0 h.1 (adds_none v v s refl)
happens_adds v (Decode t) o v' s (inl h) =
    known_as v (Decode t) s o _ v' _ h.answers h.moves
    (adds_read v t (reading_of_bytes (window v.decoder) h.block.bytes) s)
happens_adds v (Decode t) o v' s (inr h) = known_as v (Decode t) s o _ v' _ h.0 h.1 (adds_none v v s refl)
happens_adds v (ToDecoder n) o v' s h = adds_delivery v n h.table h.takes.front h.takes.rest o v' s h.takes.ends
happens_adds v (ToEncoder n) o v' s h = adds_hearing v n h.table h.takes.front h.takes.rest o v' s h.takes.ends
happens_adds v (Acknowledge t) o v' s (inl h) =
    known_as v (Acknowledge t) s o _ v' _ h.0 h.1 (same_stream v t s _ _ refl refl)
happens_adds v (Acknowledge t) o v' s (inr h) = known_as v (Acknowledge t) s o _ v' _ h.0 h.1 (adds_none v v s refl)
happens_adds v (Cancel t) o v' s (inl h) = known_as v (Cancel t) s o _ v' _ h.0 h.1 (same_stream v t s _ _ refl refl)
happens_adds v (Cancel t) o v' s (inr h) = known_as v (Cancel t) s o _ v' _ h.0 h.1 (adds_none v v s refl)
happens_adds v (ChangeCapacity n) o v' s (inl h) =
    known_as v (ChangeCapacity n) s o _ v' _ h.answers h.leads (adds_none v _ s refl)
happens_adds v (ChangeCapacity n) o v' s (inr (inl h)) =
    known_as v (ChangeCapacity n) s o _ v' _ h.answers h.stays (adds_none v v s refl)
happens_adds v (ChangeCapacity n) o v' s (inr (inr h)) =
    known_as v (ChangeCapacity n) s o _ v' _ h.0 h.1 (adds_none v v s refl)

-- what is skipped is neither written nor decoded
skipped_adds : (v : Session) (e : Event) (reason s : ℕ) → EventAdds v e s (Skipped reason) v
skipped_adds v (Encode t fs) reason s = adds_none v v s refl
skipped_adds v (Decode t) reason s = adds_none v v s refl
skipped_adds v (ToDecoder n) reason s = adds_none v v s refl
skipped_adds v (ToEncoder n) reason s = adds_none v v s refl
skipped_adds v (Acknowledge t) reason s = adds_none v v s refl
skipped_adds v (Cancel t) reason s = adds_none v v s refl
skipped_adds v (ChangeCapacity n) reason s = adds_none v v s refl

pub goes_adds : (v : Session) (e : Event) (o : Outcome) (v' : Session) (s : ℕ) → Step v e o v'
    → Adds v v' s (encode_of s e o) (decode_of s e o)
goes_adds v e o v' s (inl h) = known_as v e s o _ v' v h.answers h.stays (skipped_adds v e h.reason s)
goes_adds v e o v' s (inr h) = happens_adds v e o v' s h.1

-- ---- a run

-- the blocks of a stream are those of its encodes that were answered, and as many are decoded as answered fields
pub runs_add : (v : Session) (events : List (Event × Outcome)) (v' : Session) (s : ℕ) → Run v events v'
    → Adds v v' s (encodes_on s events) (decodes_on s events)
runs_add v [] v' s r = subst (λ (x : Session). Adds v x s [] 0) r (adds_none v v s refl)
runs_add v (p ∷ events) v' s r =
    let one : Adds v r.0 s (encode_of s p.0 p.1) (decode_of s p.0 p.1) = goes_adds v p.0 p.1 r.0 s r.1.goes in
    let rest : Adds r.0 v' s (encodes_on s events) (decodes_on s events) = runs_add r.0 events v' s r.2 in
    record {
      more = one.more ++ rest.more;
      blocks =
          rest.blocks ∙ ap (λ l. l ++ rest.more) one.blocks
          ∙ append_assoc (stream_at v.streams s).blocks one.more rest.more;
      written =
          map-append (λ (b : KeptBlock). encode_behind b) one.more rest.more
          ∙ ap (λ l. l ++ map (λ b. encode_behind b) rest.more) one.written
          ∙ ap (λ l. encode_of s p.0 p.1 ++ l) rest.written;
      decoded = omega (arith, one.decoded, rest.decoded);
    }
