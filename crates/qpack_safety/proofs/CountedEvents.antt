-- Every event leaves the encoder's count that of the blocked blocks.
use Rattle.std.proofs.Common.{ℕ, ◌≡◌, Bool, true, false, cond, List, [], ◌∷◌, ◌++◌, take, length, Some, Ok, Err}
use Rattle.std.proofs.Common.{refl, sym, ap, ◌∙◌, subst, inl, inr, ◌⊎◌}
use Rattle.qpack_spec.specs.Field.{Field}
use Rattle.qpack_spec.specs.Window.{TableRefusal}
use Rattle.qpack_spec.specs.Instruction.{written_encoder_instructions}
use Rattle.qpack_spec.specs.BlockReading.{reading_of_bytes, written_block}
use Rattle.qpack_spec.specs.Table.{Table, window, without_references, with_capacity}
use Rattle.qpack_spec.specs.Rule.{rule, required_insert_count, block_of}
use Rattle.qpack_rules.specs.Session.{KeptBlock, stream_at, Session, Event, Encode, Decode, ToDecoder, ToEncoder}
use Rattle.qpack_rules.specs.Session.{Acknowledge, Cancel, ChangeCapacity, Outcome, with_block, after_refused_encode}
use Rattle.qpack_rules.specs.Session.{with_decoded}
use Rattle.qpack_rules.specs.Session.{is_read, EndsAtDecoder, takes_all, no_memory, bad_bytes, bad_instruction}
use Rattle.qpack_rules.specs.Session.{EndsAtEncoder, takes_all_at_encoder, bad_bytes_at_encoder}
use Rattle.qpack_rules.specs.Session.{bad_decoder_instruction}
use Rattle.qpack_rules.specs.Session.{LawfulStep}
use Rattle.qpack_spec.proofs.Results.{ok_is}
use Rattle.qpack_spec.proofs.References.{rule_references}
use Rattle.qpack_safety.proofs.Resizing.{CanResize, resized_table, resized_cases, same_resized}
use Rattle.qpack_safety.proofs.BlockedBlocks.{CountsBlocked, counts_table, counts_stream, counts_pushed}
use Rattle.qpack_safety.proofs.BlockedBlocks.{counts_all_heard}

-- the encoder's count is that of the blocked blocks
abbrev pub CountsItsBlocks : Session → Type 0
CountsItsBlocks v = CountsBlocked v.encoder v.streams

counted_block : (v : Session) (s : ℕ) (fs : List Field) → CountsItsBlocks v → CountsItsBlocks (with_block v s fs)
counted_block v s fs c =
    let d = rule v.encoder fs in
    let k = rule_references v.encoder fs in
    let old = stream_at v.streams s in
    let encoder_stream = v.encoder_stream ++ written_encoder_instructions d.instructions in
    let b : KeptBlock =
    record {
      bytes = written_block (block_of v.encoder d);
      required = required_insert_count d;
      end = length encoder_stream;
      fields = fs;
    } in
    counts_pushed v.encoder d.table s
    (record old { blocks = old.blocks ++ b ∷ [] }) b v.streams k.known_received_count k.blocked refl
    c

pub unnamed_known : (t : Table) → (without_references t).known_received_count ≡ t.known_received_count
unfolding without_references
unnamed_known t = refl

pub unnamed_waiting : (t : Table) → (without_references t).blocked ≡ t.blocked
unfolding without_references
unnamed_waiting t = refl

counted_given_up : (v : Session) (fs : List Field) → CountsItsBlocks v → CountsItsBlocks (after_refused_encode v fs)
counted_given_up v fs c =
    let d = rule v.encoder fs in
    let k = rule_references v.encoder fs in
    counts_table v.encoder (without_references d.table) v.streams (unnamed_known d.table ∙ k.known_received_count)
    (unnamed_waiting d.table
    ∙ k.blocked) c

counted_resized : (v : Session) (n : ℕ) (t : Table) → with_capacity v.encoder n ≡ Ok t → CountsItsBlocks v
    → CountsBlocked t v.streams
counted_resized v n t e c = pick (resized_cases v.encoder n)
  where
    same : (u : Table) → u ≡ resized_table v.encoder n → CountsBlocked u v.streams
    same u q =
        let z = same_resized v.encoder n in
        counts_table v.encoder u v.streams (ap (λ (x : Table). x.known_received_count) q ∙ z.z_known)
        (ap (λ (x : Table). x.blocked) q
        ∙ z.z_waiting) c

    pick : (CanResize v.encoder n × (with_capacity v.encoder n ≡ Ok (resized_table v.encoder n)))
        ⊎ ((r : TableRefusal) × (with_capacity v.encoder n ≡ Err r)) → CountsBlocked t v.streams
    pick (inl p) = same t (ok_is _ _ (sym e ∙ p.1))
    pick (inr p) = absurd (let q = p.1 in cc)

counted_delivery : (v : Session) (n : ℕ) (t : Table) (front rest : List ℕ) (o : Outcome) (v' : Session)
    → EndsAtDecoder v n t front rest o v' → CountsItsBlocks v → CountsItsBlocks v'
counted_delivery v n t front rest o v' (takes_all cut is goes) c = subst CountsItsBlocks (sym goes) c
counted_delivery v n t front rest o v' (no_memory is goes) c = subst CountsItsBlocks (sym goes) c
counted_delivery v n t front rest o v' (bad_bytes fault b is goes) c = subst CountsItsBlocks (sym goes) c
counted_delivery v n t front rest o v' (bad_instruction encoding more i e cut s bad is goes) c =
    subst CountsItsBlocks (sym goes) c

counted_hearing : (v : Session) (n : ℕ) (t : Table) (front rest : List ℕ) (o : Outcome) (v' : Session)
    → EndsAtEncoder v n t front rest o v' → CountsBlocked t v.streams → CountsItsBlocks v'
counted_hearing v n t front rest o v' (takes_all_at_encoder cut is goes) c = subst CountsItsBlocks (sym goes) c
counted_hearing v n t front rest o v' (bad_bytes_at_encoder fault b is goes) c = subst CountsItsBlocks (sym goes) c
counted_hearing v n t front rest o v'
    (bad_decoder_instruction encoding more r e cut s bad is goes) c = subst CountsItsBlocks (sym goes) c

pub counted_happens : (v : Session) (e : Event) (o : Outcome) (v' : Session) → LawfulStep v e o v' → CountsItsBlocks v
    → CountsItsBlocks v'
unfolding LawfulStep
counted_happens v (Encode s fs) o v' (inl h) c = subst CountsItsBlocks (sym h.1) (counted_block v s fs c)
counted_happens v (Encode s fs) o v' (inr (inl h)) c =
    subst CountsItsBlocks (sym h.leads) (counted_given_up v (take h.many fs) c)
counted_happens v (Encode s fs) o v' (inr (inr h)) c = subst CountsItsBlocks (sym h.1) c
counted_happens v (Decode s) o v' (inl h) c =
    subst CountsItsBlocks (sym h.moves) (both (is_read (Some (reading_of_bytes (window v.decoder) h.block.bytes))))
  where
    both : (b : Bool) → CountsItsBlocks (cond b (with_decoded v s) v)
    both true = counts_stream v.encoder s _ v.streams refl c
    both false = c
counted_happens v (Decode s) o v' (inr h) c = subst CountsItsBlocks (sym h.1) c
counted_happens v (ToDecoder n) o v' h c = counted_delivery v n h.table h.takes.front h.takes.rest o v' h.takes.ends c
counted_happens v (ToEncoder n) o v' h c =
    counted_hearing v n h.table h.takes.front h.takes.rest o v' h.takes.ends
    (counts_all_heard v.encoder h.table h.takes.lines v.streams h.takes.applies c)
counted_happens v (Acknowledge s) o v' (inl h) c =
    subst CountsItsBlocks (sym h.1) (counts_stream v.encoder s _ v.streams refl c)
counted_happens v (Acknowledge s) o v' (inr h) c = subst CountsItsBlocks (sym h.1) c
counted_happens v (Cancel s) o v' (inl h) c =
    subst CountsItsBlocks (sym h.1) (counts_stream v.encoder s _ v.streams refl c)
counted_happens v (Cancel s) o v' (inr h) c = subst CountsItsBlocks (sym h.1) c
counted_happens v (ChangeCapacity n) o v' (inl h) c =
    subst CountsItsBlocks (sym h.leads) (counted_resized v n h.table h.is_set c)
counted_happens v (ChangeCapacity n) o v' (inr (inl h)) c = subst CountsItsBlocks (sym h.stays) c
counted_happens v (ChangeCapacity n) o v' (inr (inr h)) c = subst CountsItsBlocks (sym h.1) c
