-- Every event leaves both streams in order: nothing taken or delivered goes back, and none is past what was written.
use Rattle.std.proofs.Common.{ℕ, ◌+◌, ◌≤◌, ◌≡◌, Bool, true, false, cond, List, [], ◌∷◌, ◌++◌, length, min, Some}
use Rattle.std.proofs.Common.{refl, sym, ap, ◌∙◌, subst, inl, inr, arith, length-append}
use Rattle.std.proofs.lemmas.List.{append-nil, append_assoc}
use Rattle.qpack_spec.specs.BlockReading.{reading_of_bytes}
use Rattle.qpack_spec.specs.Table.{Table, window}
use Rattle.qpack_rules.specs.Session.{Session, Event, Encode, Decode, ToDecoder, ToEncoder, Acknowledge, Cancel}
use Rattle.qpack_rules.specs.Session.{ChangeCapacity, Outcome, with_decoded, is_read, is_consumed, with_decoder_moved}
use Rattle.qpack_rules.specs.Session.{with_encoder_moved, EndsAtDecoder, takes_all, no_memory, bad_bytes}
use Rattle.qpack_rules.specs.Session.{bad_instruction}
use Rattle.qpack_rules.specs.Session.{EndsAtEncoder, takes_all_at_encoder, bad_bytes_at_encoder}
use Rattle.qpack_rules.specs.Session.{bad_decoder_instruction}
use Rattle.qpack_rules.specs.Session.{LawfulStep}
use Rattle.qpack_rules.specs.Session.{Step, Run}
use Rattle.qpack_safety.specs.SessionSafety.{IsOrdered, Extends, Advances}
use Rattle.qpack_safety.proofs.DeliveryEvents.{piece_ends}
use Rattle.qpack_safety.proofs.EventHistory.{goes_adds}

-- what an event does to both streams
pub record Moves (v v' : Session) : Type 0 where
  pub encoder_stream : Extends v.encoder_stream v'.encoder_stream
  pub decoder_stream : Extends v.decoder_stream v'.decoder_stream
  pub encoder_stream_taken : v.encoder_stream_taken ≤ v'.encoder_stream_taken
  pub encoder_stream_delivered : v.encoder_stream_delivered ≤ v'.encoder_stream_delivered
  pub decoder_stream_taken : v.decoder_stream_taken ≤ v'.decoder_stream_taken
  pub decoder_stream_delivered : v.decoder_stream_delivered ≤ v'.decoder_stream_delivered
  pub ordered : IsOrdered v'

extends_none : {X : Type 0} (xs : List X) → Extends xs xs
extends_none xs = ([], sym (append-nil xs))

-- more is written, and nothing moves
record Writes (v v' : Session) (encoder_stream decoder_stream : List ℕ) : Type 0 where
  pub encoder_stream_is : v'.encoder_stream ≡ v.encoder_stream ++ encoder_stream
  pub decoder_stream_is : v'.decoder_stream ≡ v.decoder_stream ++ decoder_stream
  pub encoder_stream_taken_is : v'.encoder_stream_taken ≡ v.encoder_stream_taken
  pub encoder_stream_delivered_is : v'.encoder_stream_delivered ≡ v.encoder_stream_delivered
  pub decoder_stream_taken_is : v'.decoder_stream_taken ≡ v.decoder_stream_taken
  pub decoder_stream_delivered_is : v'.decoder_stream_delivered ≡ v.decoder_stream_delivered

writes_moves : (v v' : Session) (encoder_stream decoder_stream : List ℕ) → IsOrdered v
    → Writes v v' encoder_stream decoder_stream → Moves v v'
writes_moves v v' encoder_stream decoder_stream o w =
    record {
      encoder_stream = (encoder_stream, w.encoder_stream_is);
      decoder_stream = (decoder_stream, w.decoder_stream_is);
      encoder_stream_taken = omega (arith, w.encoder_stream_taken_is);
      encoder_stream_delivered = omega (arith, w.encoder_stream_delivered_is);
      decoder_stream_taken = omega (arith, w.decoder_stream_taken_is);
      decoder_stream_delivered = omega (arith, w.decoder_stream_delivered_is);
      ordered = record {
        encoder_stream_taken = omega (
          arith,
          o.encoder_stream_taken,
          w.encoder_stream_taken_is,
          w.encoder_stream_delivered_is,
        );
        encoder_stream_delivered =
            omega (
              arith,
              o.encoder_stream_delivered,
              w.encoder_stream_delivered_is,
              ap length w.encoder_stream_is,
              length-append
                  v.encoder_stream encoder_stream,
            );
        decoder_stream_taken = omega (
          arith,
          o.decoder_stream_taken,
          w.decoder_stream_taken_is,
          w.decoder_stream_delivered_is,
        );
        decoder_stream_delivered =
            omega (
              arith,
              o.decoder_stream_delivered,
              w.decoder_stream_delivered_is,
              ap length w.decoder_stream_is,
              length-append
                  v.decoder_stream decoder_stream,
            );
      };
    }

-- nothing is written, and nothing moves
stays_ordered : (v v' : Session) → IsOrdered v → v' ≡ v → Moves v v'
stays_ordered v v' o e =
    subst (Moves v) (sym e) (writes_moves v v [] [] o
    (record {
      encoder_stream_is = sym (append-nil v.encoder_stream);
      decoder_stream_is = sym (append-nil v.decoder_stream);
      encoder_stream_taken_is = refl;
      encoder_stream_delivered_is = refl;
      decoder_stream_taken_is = refl;
      decoder_stream_delivered_is = refl;
    }))

-- the decoder is delivered bytes
delivers_moves : (v : Session) (n : ℕ) (t : Table) (consumed unreported : ℕ) (more : List ℕ) → IsOrdered v
    → v.encoder_stream_taken + consumed ≤ min (v.encoder_stream_delivered + n) (length v.encoder_stream)
    → Moves v (with_decoder_moved v n t consumed unreported (v.decoder_stream ++ more))
delivers_moves v n t consumed unreported more o within =
    record {
      encoder_stream = extends_none v.encoder_stream;
      decoder_stream = (more, refl);
      encoder_stream_taken = omega arith;
      encoder_stream_delivered = omega (arith, o.encoder_stream_delivered);
      decoder_stream_taken = omega arith;
      decoder_stream_delivered = omega arith;
      ordered =
          record {
            encoder_stream_taken = within;
            encoder_stream_delivered = omega arith;
            decoder_stream_taken = o.decoder_stream_taken;
            decoder_stream_delivered = omega (arith, o.decoder_stream_delivered, length-append v.decoder_stream more);
          };
    }

delivery_quiet : (v : Session) (n : ℕ) (t : Table) (consumed unreported : ℕ) → IsOrdered v
    → v.encoder_stream_taken + consumed ≤ min (v.encoder_stream_delivered + n) (length v.encoder_stream)
    → Moves v (with_decoder_moved v n t consumed unreported v.decoder_stream)
delivery_quiet v n t consumed unreported o within =
    subst (λ (l : List ℕ). Moves v (with_decoder_moved v n t consumed unreported l)) (append-nil v.decoder_stream)
    (delivers_moves v n t consumed unreported [] o within)

consumed_within : (b : Bool) (front encoding more rest : ℕ) → rest ≡ encoding + more → front + cond b encoding 0
    ≤ front + rest
consumed_within true front encoding more rest e = omega (arith, e)
consumed_within false front encoding more rest e = omega arith

delivery_moves : (v : Session) (n : ℕ) (t : Table) (front rest : List ℕ) (o : Outcome) (v' : Session) → IsOrdered v
    → v.encoder_stream_taken + length front + length rest
    ≡ min (v.encoder_stream_delivered + n) (length v.encoder_stream)
    → EndsAtDecoder v n t front rest o v' → Moves v v'
delivery_moves v n t front rest o v' d position (takes_all cut is goes) =
    subst (Moves v) (sym goes) (delivers_moves v n t (length front) 0 _ d (omega (arith, position)))
delivery_moves v n t front rest o v' d position (no_memory is goes) =
    subst (Moves v) (sym goes) (delivery_quiet v n t (length front) _ d (omega (arith, position)))
delivery_moves v n t front rest o v' d position (bad_bytes fault b is goes) =
    subst (Moves v) (sym goes) (delivery_quiet v n t (length front) _ d (omega (arith, position)))
delivery_moves v n t front rest o v' d position (bad_instruction encoding more i e cut s bad is goes) =
    let within =
    consumed_within (is_consumed e) (length front) (length encoding) (length more) (length rest) (ap length cut
    ∙ length-append encoding more) in
    subst (Moves v) (sym goes) (delivery_quiet v n t (length front + cond (is_consumed e) (length encoding) 0) _ d
    (omega (arith, position, within)))

-- the encoder is delivered bytes
hearing_one : (v : Session) (n : ℕ) (t : Table) (consumed : ℕ) → IsOrdered v
    → v.decoder_stream_taken + consumed ≤ min (v.decoder_stream_delivered + n) (length v.decoder_stream)
    → Moves v (with_encoder_moved v n t consumed)
hearing_one v n t consumed o within =
    record {
      encoder_stream = extends_none v.encoder_stream;
      decoder_stream = extends_none v.decoder_stream;
      encoder_stream_taken = omega arith;
      encoder_stream_delivered = omega arith;
      decoder_stream_taken = omega arith;
      decoder_stream_delivered = omega (arith, o.decoder_stream_delivered);
      ordered =
          record {
            encoder_stream_taken = o.encoder_stream_taken;
            encoder_stream_delivered = o.encoder_stream_delivered;
            decoder_stream_taken = within;
            decoder_stream_delivered = omega arith;
          };
    }

hearing_moves : (v : Session) (n : ℕ) (t : Table) (front rest : List ℕ) (o : Outcome) (v' : Session) → IsOrdered v
    → v.decoder_stream_taken + length front + length rest
    ≡ min (v.decoder_stream_delivered + n) (length v.decoder_stream)
    → EndsAtEncoder v n t front rest o v' → Moves v v'
hearing_moves v n t front rest o v' d position (takes_all_at_encoder cut is goes) =
    subst (Moves v) (sym goes) (hearing_one v n t (length front) d (omega (arith, position)))
hearing_moves v n t front rest o v' d position (bad_bytes_at_encoder fault b is goes) =
    subst (Moves v) (sym goes) (hearing_one v n t (length front) d (omega (arith, position)))
hearing_moves v n t front rest o v' d position (bad_decoder_instruction encoding more r e cut s bad is goes) =
    subst (Moves v) (sym goes) (hearing_one v n t (length front + length encoding) d
    (omega (arith, position, ap length cut, length-append encoding more)))

-- a session that only wrote
wrote : (v v' u : Session) (encoder_stream decoder_stream : List ℕ) → IsOrdered v → v' ≡ u
    → Writes v u encoder_stream decoder_stream → Moves v v'
wrote v v' u encoder_stream decoder_stream o e w = subst (Moves v) (sym e)
    (writes_moves v u encoder_stream decoder_stream o w)

happens_moves : (v : Session) (e : Event) (o : Outcome) (v' : Session) → IsOrdered v → LawfulStep v e o v' → Moves v v'
unfolding LawfulStep
happens_moves v (Encode t fs) o v' d (inl h) =
    wrote v v' _ _ [] d h.1 (record {
      encoder_stream_is = refl;
      decoder_stream_is = sym (append-nil v.decoder_stream);
      encoder_stream_taken_is = refl;
      encoder_stream_delivered_is = refl;
      decoder_stream_taken_is = refl;
      decoder_stream_delivered_is = refl;
    })
happens_moves v (Encode t fs) o v' d (inr (inl h)) =
    wrote v v' _ _ [] d h.leads (record {
      encoder_stream_is = refl;
      decoder_stream_is = sym (append-nil v.decoder_stream);
      encoder_stream_taken_is = refl;
      encoder_stream_delivered_is = refl;
      decoder_stream_taken_is = refl;
      decoder_stream_delivered_is = refl;
    })
happens_moves v (Encode t fs) o v' d (inr (inr h)) = stays_ordered v v' d h.1
happens_moves v (Decode t) o v' d (inl h) =
    subst (Moves v) (sym h.moves) (both (is_read (Some (reading_of_bytes (window v.decoder) h.block.bytes))))
  where
    both : (b : Bool) → Moves v (cond b (with_decoded v t) v)
    both true =
        writes_moves v (with_decoded v t) [] [] d
        (record {
          encoder_stream_is = sym (append-nil v.encoder_stream);
          decoder_stream_is = sym (append-nil v.decoder_stream);
          encoder_stream_taken_is = refl;
          encoder_stream_delivered_is = refl;
          decoder_stream_taken_is = refl;
          decoder_stream_delivered_is = refl;
        })
    both false = stays_ordered v v d refl
happens_moves v (Decode t) o v' d (inr h) = stays_ordered v v' d h.1
happens_moves v (ToDecoder n) o v' d h =
    delivery_moves v n h.table h.takes.front h.takes.rest o v' d
    (piece_ends v.encoder_stream h.takes.front h.takes.rest v.encoder_stream_taken (v.encoder_stream_delivered + n)
    h.takes.cut
    (omega (arith, d.encoder_stream_taken))
    (omega (arith, d.encoder_stream_taken, d.encoder_stream_delivered))) h.takes.ends
happens_moves v (ToEncoder n) o v' d h =
    hearing_moves v n h.table h.takes.front h.takes.rest o v' d
    (piece_ends v.decoder_stream h.takes.front h.takes.rest v.decoder_stream_taken (v.decoder_stream_delivered + n)
    h.takes.cut
    (omega (arith, d.decoder_stream_taken))
    (omega (arith, d.decoder_stream_taken, d.decoder_stream_delivered))) h.takes.ends
happens_moves v (Acknowledge t) o v' d (inl h) =
    wrote v v' _ [] _ d h.1 (record {
      encoder_stream_is = sym (append-nil v.encoder_stream);
      decoder_stream_is = refl;
      encoder_stream_taken_is = refl;
      encoder_stream_delivered_is = refl;
      decoder_stream_taken_is = refl;
      decoder_stream_delivered_is = refl;
    })
happens_moves v (Acknowledge t) o v' d (inr h) = stays_ordered v v' d h.1
happens_moves v (Cancel t) o v' d (inl h) =
    wrote v v' _ [] _ d h.1 (record {
      encoder_stream_is = sym (append-nil v.encoder_stream);
      decoder_stream_is = refl;
      encoder_stream_taken_is = refl;
      encoder_stream_delivered_is = refl;
      decoder_stream_taken_is = refl;
      decoder_stream_delivered_is = refl;
    })
happens_moves v (Cancel t) o v' d (inr h) = stays_ordered v v' d h.1
happens_moves v (ChangeCapacity n) o v' d (inl h) =
    wrote v v' _ _ [] d h.leads (record {
      encoder_stream_is = refl;
      decoder_stream_is = sym (append-nil v.decoder_stream);
      encoder_stream_taken_is = refl;
      encoder_stream_delivered_is = refl;
      decoder_stream_taken_is = refl;
      decoder_stream_delivered_is = refl;
    })
happens_moves v (ChangeCapacity n) o v' d (inr (inl h)) = stays_ordered v v' d h.stays
happens_moves v (ChangeCapacity n) o v' d (inr (inr h)) = stays_ordered v v' d h.1

pub goes_moves : (v : Session) (e : Event) (o : Outcome) (v' : Session) → IsOrdered v → Step v e o v' → Moves v v'
goes_moves v e o v' d (inl h) = stays_ordered v v' d h.stays
goes_moves v e o v' d (inr h) = happens_moves v e o v' d h.1

-- over any event both streams and the blocks only grow, and nothing taken or delivered goes back
pub goes_advances : (v : Session) (e : Event) (o : Outcome) (v' : Session) → IsOrdered v → Step v e o v' → Advances v v'
goes_advances v e o v' d g =
    let m = goes_moves v e o v' d g in
    record {
      encoder_stream = m.encoder_stream;
      decoder_stream = m.decoder_stream;
      encoder_stream_taken = m.encoder_stream_taken;
      encoder_stream_delivered = m.encoder_stream_delivered;
      decoder_stream_taken = m.decoder_stream_taken;
      decoder_stream_delivered = m.decoder_stream_delivered;
      blocks = λ s. let a = goes_adds v e o v' s g in (a.more, a.blocks);
    }

pub extends_both : {X : Type 0} (xs ys zs : List X) → Extends xs ys → Extends ys zs → Extends xs zs
extends_both xs ys zs p q = (p.0 ++ q.0, q.1 ∙ ap (λ l. l ++ q.0) p.1 ∙ append_assoc xs p.0 q.0)

-- and over any list of them
pub runs_advance : (v : Session) (events : List (Event × Outcome)) (v' : Session) → IsOrdered v → Run v events v'
    → Moves v v'
runs_advance v [] v' d r = stays_ordered v v' d (sym r)
runs_advance v (p ∷ events) v' d r =
    let one = goes_moves v p.0 p.1 r.0 d r.1.goes in
    let rest = runs_advance r.0 events v' one.ordered r.2 in
    let u : Session = r.0 in
    record {
      encoder_stream = extends_both v.encoder_stream u.encoder_stream v'.encoder_stream one.encoder_stream
          rest.encoder_stream;
      decoder_stream = extends_both v.decoder_stream u.decoder_stream v'.decoder_stream one.decoder_stream
          rest.decoder_stream;
      encoder_stream_taken = omega (arith, one.encoder_stream_taken, rest.encoder_stream_taken);
      encoder_stream_delivered = omega (arith, one.encoder_stream_delivered, rest.encoder_stream_delivered);
      decoder_stream_taken = omega (arith, one.decoder_stream_taken, rest.decoder_stream_taken);
      decoder_stream_delivered = omega (arith, one.decoder_stream_delivered, rest.decoder_stream_delivered);
      ordered = rest.ordered;
    }
