-- Worked rows of sessions in bytes, computed by the definitions.
use Rattle.std.proofs.Common.{ℕ, ◌+◌, ◌-◌, ◌^◌, ◌<◌, ◌≡◌, true, false, List, [], ◌∷◌, length, map, Option, None, Some}
use Rattle.std.proofs.Common.{Ok, Err, inl, inr, refl, ap, arith, lit≤}
use Rattle.std.specs.Prelude.{codes, nat_eq}
use Rattle.std.specs.List.{AllByRecursion}
use Rattle.std.proofs.lemmas.Bool.{cond_both}
use Rattle.qpack_spec.specs.Integer.{UnexpectedEnd}
use Rattle.qpack_spec.specs.Text.{EndsEarly}
use Rattle.qpack_spec.specs.Field.{Field}
use Rattle.qpack_spec.specs.StaticTable.{field}
use Rattle.qpack_spec.specs.Form.{BadInteger, BadString, Truncates, Form, Spells, form_at}
use Rattle.qpack_spec.specs.Instruction.{InsertLiteralName, Acknowledgment, Increment, encoder_instruction_form}
use Rattle.qpack_spec.specs.Instruction.{decoder_instruction_form}
use Rattle.qpack_spec.specs.Window.{Window, AboveMaximum}
use Rattle.qpack_spec.specs.Table.{Table, empty_table, table_of, insert_count, with_capacity, with_increment}
use Rattle.qpack_spec.specs.Stream.{SpellsAll}
use Rattle.qpack_rules.specs.Session.{KeptBlock, KeptStream, stream_at, Session, Encode, Decode, ToDecoder, ToEncoder}
use Rattle.qpack_rules.specs.Session.{Acknowledge, Cancel, Encoded, Decoded, MissingReferences, Delivered, Heard}
use Rattle.qpack_rules.specs.Session.{Acknowledged, Skipped, NoMemory, initial_session, begin_session, CapacityTooLarge}
use Rattle.qpack_rules.specs.Session.{LimitTooLarge, with_block, with_decoded, with_kept_stream, blocked_among}
use Rattle.qpack_rules.specs.Session.{skip_reason, increment_sum, IsPiece, pieces_of, with_decoder_moved}
use Rattle.qpack_rules.specs.Session.{with_encoder_moved}
use Rattle.qpack_rules.specs.Session.{EndsAtDecoder, takes_all, no_memory, bad_bytes, bad_instruction}
use Rattle.qpack_rules.specs.Session.{takes_all_at_encoder, LawfulStep, Step, FitsMemory, Run}
use Rattle.qpack_spec.specs.WrittenLaws.{IsByteField}
use Rattle.qpack_spec.proofs.FormLaws.{form_takes, reads_form_truncation}
use Rattle.qpack_spec.proofs.Computing.{computed}

-- ---- the sessions of the rows: the start; a block on stream 4; six bytes of its instruction delivered; the seventh;
-- the
-- block decoded; acknowledged; both decoder instructions taken

unfoldable pub foo_bar : Field
foo_bar = field (codes "foo") (codes "bar")

unfoldable pub begun : Session
begun = initial_session 4096 4096 1

unfoldable pub written : Session
written = with_block begun 4 (foo_bar ∷ [])

unfoldable pub delivered_part : Session
delivered_part = with_decoder_moved written 6 written.decoder 0 0 []

-- the decoder's table behind the instruction
unfoldable pub filled : Table
filled = let w : Window = record {
  capacity = 4096;
  agreed_max = Some 4096;
  dropped = 0;
  live = foo_bar ∷ [];
} in table_of w

unfoldable pub delivered : Session
delivered = with_decoder_moved delivered_part 1 filled 7 0 (1 ∷ [])

unfoldable pub decoded : Session
decoded = with_decoded delivered 4

unfoldable pub acknowledged : Session
acknowledged =
    record (with_kept_stream decoded 4
    (record (stream_at decoded.streams 4) { acknowledged = 1 })) { decoder_stream = 1 ∷ 132 ∷ [] }

-- the encoder's table behind both decoder instructions
unfoldable pub released : Table
released = record acknowledged.encoder { known_received_count = 1; unacknowledged = []; blocked = [] }

unfoldable pub heard_all : Session
heard_all = with_encoder_moved acknowledged 2 released 2

-- all that has to unfold
unfoldable pub rows : ℕ
unfolding computed table_of increment_sum foo_bar filled released begun written delivered_part delivered decoded
    acknowledged heard_all skip_reason
rows = 0

-- ---- where a session begins

-- the greatest capacity and the greatest limit
begins : begin_session 1073741823 1073741823 65534 ≡ Ok (initial_session 1073741823 1073741823 65534)
unfolding rows
begins = refl

-- capacity 0 under the greatest maximum
begins_at_none : begin_session 0 1073741823 65534 ≡ Ok (initial_session 0 1073741823 65534)
unfolding rows
begins_at_none = refl

-- a limit above the greatest
limit_too_large : begin_session 1073741823 1073741823 65535 ≡ Err LimitTooLarge
unfolding rows
limit_too_large = refl

-- a maximum above the greatest, which is told first
maximum_first : begin_session 1073741824 1073741824 65535 ≡ Err CapacityTooLarge
unfolding rows
maximum_first = refl

-- a capacity above the maximum, which is told first too
capacity_first : begin_session 4097 4096 65535 ≡ Err CapacityTooLarge
unfolding rows
capacity_first = refl

-- ---- what is skipped, and what stands in a session

-- a stream is cancelled that has a block
cancel_lawful : skip_reason written (Cancel 4) ≡ None
unfolding rows
cancel_lawful = refl

-- a block ends where the encoder stream did behind its instructions
block_ends : map (λ b. b.end) (stream_at written.streams 4).blocks ≡ 7 ∷ []
unfolding rows
block_ends = refl

-- no more is delivered than was written
delivered_within : (with_decoder_moved written 100 written.decoder 0 0 []).encoder_stream_delivered ≡ 7
unfolding rows
delivered_within = refl

-- to the encoder neither
heard_within : (with_encoder_moved acknowledged 100 acknowledged.encoder 0).decoder_stream_delivered ≡ 2
unfolding rows
heard_within = refl

-- ---- blocked blocks

-- a stream with blocks of these required insert counts
stream_of : List ℕ → KeptStream
stream_of required =
    record {
      blocks = map (λ r. (let b : KeptBlock = record { bytes = []; required = r; end = 0; fields = [] } in b))
          required;
      decoded = 0;
      acknowledged = 0;
      cancelled = false;
    }

-- of the pairs of a stream the first counts
blocked_once : blocked_among 0 [] ((4, stream_of (1 ∷ 2 ∷ [])) ∷ (8, stream_of (3 ∷ [])) ∷ (4, stream_of (1 ∷ []))
    ∷ []) ≡ 3
unfolding rows stream_of
blocked_once = refl

-- a block that requires what is known isn't blocked
blocked_above : blocked_among 1 [] ((4, stream_of (1 ∷ 2 ∷ [])) ∷ (8, stream_of (0 ∷ [])) ∷ []) ≡ 1
unfolding rows stream_of
blocked_above = refl

-- ---- increments

-- an increment is up to 64
piece_64 : IsPiece 64
piece_64 = (lit≤ tt, lit≤ tt)

-- and not 65
piece_65 : IsPiece 65 → ⊥
piece_65 h = absurd (omega (arith, h.1))

-- nor 0
piece_0 : IsPiece 0 → ⊥
piece_0 h = absurd (omega (arith, h.0))

-- insertions stay unreported where memory is refused
memory_keeps : (v : Session) (n : ℕ) (t : Table) (front rest : List ℕ) (v' : Session)
    → EndsAtDecoder v n t front rest NoMemory v' → v'.unreported
    ≡ v.unreported + (insert_count t - insert_count v.decoder)
memory_keeps v n t front rest v' (takes_all cut is goes) = absurd cc
memory_keeps v n t front rest v' (no_memory is goes) = ap (λ (x : Session). x.unreported) goes
memory_keeps v n t front rest v' (bad_bytes fault b is goes) = absurd cc
memory_keeps v n t front rest v' (bad_instruction encoding more i e cut s bad is goes) = absurd cc

-- the known received count is held at the greatest number of 64 bits
known_held : (with_increment
    (record (empty_table 0 None 0) { known_received_count = 18446744073709551615 }) 1).known_received_count
    ≡ 18446744073709551615
unfolding rows
known_held = refl

-- which it reaches
known_reaches : (with_increment
    (record (empty_table 0 None 0) { known_received_count = 18446744073709551614 }) 1).known_received_count
    ≡ 18446744073709551615
unfolding rows
known_reaches = refl

-- ---- capacities

-- under a greater maximum a capacity is at most 2^30 - 1
capacity_bound : with_capacity (empty_table 0 (Some 2147483648) 0) 1073741824 ≡ Err AboveMaximum
unfolding rows
capacity_bound = refl

-- which is taken
capacity_greatest : with_capacity (empty_table 0 (Some 2147483648) 0) 1073741823
    ≡ Ok (empty_table 1073741823 (Some 2147483648) 0)
unfolding rows
capacity_greatest = refl

-- ---- a session from its start to a decode, and on to its acknowledgment

-- the bytes of the block, and those of its instruction
session_block : map (λ b. b.bytes) (stream_at written.streams 4).blocks ≡ (2 ∷ 128 ∷ 16 ∷ []) ∷ []
unfolding rows
session_block = refl

session_sent : written.encoder_stream ≡ 98 ∷ 148 ∷ 231 ∷ 131 ∷ 140 ∷ 118 ∷ 127 ∷ []
unfolding rows
session_sent = refl

cut_part : Truncates encoder_instruction_form (98 ∷ 148 ∷ 231 ∷ 131 ∷ 140 ∷ 118 ∷ [])
unfolding rows
cut_part =
    (reads_form_truncation encoder_instruction_form (98 ∷ 148 ∷ 231 ∷ 131 ∷ 140 ∷ 118 ∷ [])).0
    (BadString EndsEarly, refl, refl)

pub cut_none : Truncates encoder_instruction_form []
unfolding rows
cut_none = (reads_form_truncation encoder_instruction_form []).0 (BadInteger UnexpectedEnd, refl, refl)

cut_none_heard : Truncates decoder_instruction_form []
unfolding rows
cut_none_heard = (reads_form_truncation decoder_instruction_form []).0 (BadInteger UnexpectedEnd, refl, refl)

-- the insertion, of the seven bytes
insertion_read : form_at encoder_instruction_form (98 ∷ 148 ∷ 231 ∷ 131 ∷ 140 ∷ 118 ∷ 127 ∷ [])
    ≡ Ok (InsertLiteralName (codes "foo") (codes "bar"), [])
unfolding rows
insertion_read = refl

increment_read : form_at decoder_instruction_form (1 ∷ 132 ∷ []) ≡ Ok (Increment 1, 132 ∷ [])
unfolding rows
increment_read = refl

acknowledgment_read : form_at decoder_instruction_form (132 ∷ []) ≡ Ok (Acknowledgment 4, [])
unfolding rows
acknowledgment_read = refl

-- one line at the front, and those behind it
pub line_then : {L : Type 0} (form_of : ℕ → Option (Form L)) (bytes rest : List ℕ) (l : L) (ls : List L)
    → form_at form_of bytes ≡ Ok (l, rest)
    → SpellsAll (λ t x. Spells L form_of t x) rest ls → SpellsAll (λ t x. Spells L form_of t x) bytes (l ∷ ls)
line_then form_of bytes rest l ls e j = let k =
    form_takes form_of bytes l rest e in (k.encoding, rest, k.parts, k.spells, j)

-- a stream's blocks fit
one_fits : (s : ℕ) (k : KeptStream) (ps : List (ℕ × KeptStream))
    → AllByRecursion (λ (b : KeptBlock). length b.bytes < 2 ^ 63) k.blocks
    → AllByRecursion (λ (b : KeptBlock). length b.bytes < 2 ^ 63) (stream_at ps s).blocks
    → AllByRecursion (λ (b : KeptBlock). length b.bytes < 2 ^ 63) (stream_at ((4, k) ∷ ps) s).blocks
one_fits s k ps h rest =
    cond_both (nat_eq 4 s) k (stream_at ps s)
    (λ (x : KeptStream). AllByRecursion (λ (b : KeptBlock). length b.bytes < 2 ^ 63) x.blocks) (λ _. h) (λ _. rest)

begun_fits : FitsMemory begun
unfolding rows
begun_fits = record { encoder_stream_fits = lit≤ tt; blocks_fit = λ s. tt }

written_fits : FitsMemory written
unfolding rows
written_fits =
    record {
      encoder_stream_fits = lit≤ tt;
      blocks_fit = λ s. one_fits s (stream_at written.streams 4) [] (lit≤ tt, tt)
          tt;
    }

delivered_part_fits : FitsMemory delivered_part
unfolding rows
delivered_part_fits =
    record {
      encoder_stream_fits = lit≤ tt;
      blocks_fit = λ s. one_fits s (stream_at written.streams 4) [] (lit≤ tt, tt)
          tt;
    }

delivered_fits : FitsMemory delivered
unfolding rows
delivered_fits =
    record {
      encoder_stream_fits = lit≤ tt;
      blocks_fit = λ s. one_fits s (stream_at written.streams 4) [] (lit≤ tt, tt)
          tt;
    }

decoded_fits : FitsMemory decoded
unfolding rows
decoded_fits =
    record {
      encoder_stream_fits = lit≤ tt;
      blocks_fit =
          λ s. one_fits s (stream_at decoded.streams 4) written.streams (lit≤ tt, tt)
          (one_fits s (stream_at written.streams 4) [] (lit≤ tt, tt) tt);
    }

acknowledged_fits : FitsMemory acknowledged
unfolding rows
acknowledged_fits =
    record {
      encoder_stream_fits = lit≤ tt;
      blocks_fit = λ s. one_fits s (stream_at acknowledged.streams 4) decoded.streams (lit≤ tt, tt)
          (one_fits s (stream_at decoded.streams 4) written.streams (lit≤ tt, tt)
          (one_fits s (stream_at written.streams 4) [] (lit≤ tt, tt) tt));
    }

pub heard_fits : FitsMemory heard_all
unfolding rows
heard_fits = record {
  encoder_stream_fits = acknowledged_fits.encoder_stream_fits;
  blocks_fit =
      acknowledged_fits.blocks_fit;
}

pub foo_bar_bytes : AllByRecursion IsByteField (foo_bar ∷ [])
unfolding rows
foo_bar_bytes = (((lit≤ tt, (lit≤ tt, (lit≤ tt, tt))), (lit≤ tt, (lit≤ tt, (lit≤ tt, tt)))), tt)

-- the steps
writes_it : Step begun (Encode 4 (foo_bar ∷ [])) (Encoded 1) written
unfolding rows LawfulStep
writes_it = inr (refl, inl (refl, refl))

waits_first : Step written (Decode 4) (MissingReferences 1) written
unfolding rows LawfulStep
waits_first = inr (refl, inl (record { block = _; is_next = refl; answers = refl; moves = refl }))

delivers_part : Step written (ToDecoder 6) (Delivered 0) delivered_part
unfolding rows LawfulStep pieces_of
delivers_part =
    inr (
      refl,
      record {
        table = written.decoder;
        takes = record {
          lines = [];
          front = [];
          rest = 98 ∷ 148 ∷ 231 ∷ 131 ∷ 140 ∷ 118 ∷ [];
          cut = refl;
          joined = refl;
          applies = refl;
          ends = takes_all cut_part refl refl;
        };
      },
    )

still_waits : Step delivered_part (Decode 4) (MissingReferences 1) delivered_part
unfolding rows LawfulStep
still_waits = inr (refl, inl (record { block = _; is_next = refl; answers = refl; moves = refl }))

delivers_rest : Step delivered_part (ToDecoder 1) (Delivered 1) delivered
unfolding rows LawfulStep pieces_of
delivers_rest =
    inr (
      refl,
      record {
        table = filled;
        takes = record {
          lines = InsertLiteralName (codes "foo") (codes "bar") ∷ [];
          front = 98 ∷ 148 ∷ 231 ∷ 131 ∷ 140 ∷ 118 ∷ 127 ∷ [];
          rest = [];
          cut = refl;
          joined = line_then encoder_instruction_form _ []
              (InsertLiteralName (codes "foo") (codes "bar")) [] insertion_read refl;
          applies = refl;
          ends = takes_all cut_none refl refl;
        };
      },
    )

reads_it : Step delivered (Decode 4) (Decoded (foo_bar ∷ []) 38 true) decoded
unfolding rows LawfulStep
reads_it = inr (refl, inl (record { block = _; is_next = refl; answers = refl; moves = refl }))

acknowledges_it : Step decoded (Acknowledge 4) Acknowledged acknowledged
unfolding rows LawfulStep
acknowledges_it = inr (refl, inl (refl, refl))

no_more_to_decode : Step acknowledged (Decode 4) (Skipped 2) acknowledged
unfolding rows
no_more_to_decode = inl (record { reason = 2; is_reason = refl; answers = refl; stays = refl })

no_more_to_acknowledge : Step acknowledged (Acknowledge 4) (Skipped 4) acknowledged
unfolding rows
no_more_to_acknowledge = inl (record { reason = 4; is_reason = refl; answers = refl; stays = refl })

hears_both : Step acknowledged (ToEncoder 2) Heard heard_all
unfolding rows LawfulStep
hears_both =
    inr (
      refl,
      record {
        table = released;
        takes = record {
          lines = Increment 1 ∷ Acknowledgment 4 ∷ [];
          front = 1 ∷ 132 ∷ [];
          rest = [];
          cut = refl;
          joined =
              line_then decoder_instruction_form _ (132 ∷ []) (Increment 1) (Acknowledgment 4 ∷ []) increment_read
              (line_then decoder_instruction_form _ [] (Acknowledgment 4) [] acknowledgment_read refl);
          applies = refl;
          ends = takes_all_at_encoder cut_none_heard refl refl;
        };
      },
    )

-- all of it: the block waits until the last byte of its instruction is delivered, then it is read, once
whole_session : Run begun
    ((Encode 4 (foo_bar ∷ []), Encoded 1) ∷ (Decode 4, MissingReferences 1) ∷ (ToDecoder 6, Delivered 0)
    ∷ (Decode 4, MissingReferences 1) ∷ (ToDecoder 1, Delivered 1)
    ∷ (Decode 4, Decoded (foo_bar ∷ []) 38 true) ∷ (Acknowledge 4, Acknowledged) ∷ (Decode 4, Skipped 2)
    ∷ (Acknowledge 4, Skipped 4) ∷ (ToEncoder 2, Heard) ∷ []) heard_all
whole_session = (
  written,
  record { has_bytes = foo_bar_bytes; goes = writes_it; fits = written_fits },
  (
    written,
    record { has_bytes = tt; goes = waits_first; fits = written_fits },
    (
      delivered_part,
      record { has_bytes = tt; goes = delivers_part; fits = delivered_part_fits },
      (
        delivered_part,
        record { has_bytes = tt; goes = still_waits; fits = delivered_part_fits },
        (
          delivered,
          record { has_bytes = tt; goes = delivers_rest; fits = delivered_fits },
          (
            decoded,
            record { has_bytes = tt; goes = reads_it; fits = decoded_fits },
            (
              acknowledged,
              record { has_bytes = tt; goes = acknowledges_it; fits = acknowledged_fits },
              (
                acknowledged,
                record { has_bytes = tt; goes = no_more_to_decode; fits = acknowledged_fits },
                (
                  acknowledged,
                  record { has_bytes = tt; goes = no_more_to_acknowledge; fits = acknowledged_fits },
                  (heard_all, record { has_bytes = tt; goes = hears_both; fits = heard_fits }, refl),
                ),
              ),
            ),
          ),
        ),
      ),
    ),
  ),
)
