-- Worked rows of single events of a session, and of one that goes on at another capacity.
use Rattle.std.proofs.Common.{ℕ, ◌<◌, ◌-◌, ◌^◌, ◌≡◌, false, List, [], ◌∷◌, ◌++◌, length, map, None, Some, Ok, inl, inr}
use Rattle.std.proofs.Common.{refl}
use Rattle.std.proofs.Common.{lit≤}
use Rattle.std.specs.Prelude.{codes, nat_eq}
use Rattle.std.specs.List.{AllByRecursion}
use Rattle.std.proofs.lemmas.Bool.{cond_both}
use Rattle.qpack_spec.specs.Integer.{groups_sum}
use Rattle.qpack_spec.specs.Field.{Field}
use Rattle.qpack_spec.specs.StaticTable.{field}
use Rattle.qpack_spec.specs.Form.{form_at}
use Rattle.qpack_spec.specs.Instruction.{SetCapacity, encoder_instruction_form}
use Rattle.qpack_spec.specs.Line.{IndexedStatic, IndexedDynamic, IndexedPostBase, NamedStatic, NamedDynamic}
use Rattle.qpack_spec.specs.Line.{NamedPostBase, Literal}
use Rattle.qpack_spec.specs.Reading.{references_of_line, references_of}
use Rattle.qpack_spec.specs.Table.{Table}
use Rattle.qpack_rules.specs.Session.{KeptBlock, KeptStream, stream_at, Session, Encode, Decode, ToDecoder, Acknowledge}
use Rattle.qpack_rules.specs.Session.{Cancel, ChangeCapacity, Encoded, Decoded, Delivered, Cancelled, CapacitySet}
use Rattle.qpack_rules.specs.Session.{NoMemory, with_block, with_decoded, with_cancelled, after_refused_encode}
use Rattle.qpack_rules.specs.Session.{with_decoder_moved, unreadable_blocks, blocked_blocks, skip_reason, takes_all}
use Rattle.qpack_rules.specs.Session.{pieces_of, LawfulStep, Step, FitsMemory, Run}
use Rattle.qpack_rules.proofs.SessionRows.{foo_bar, begun, written, delivered, released, heard_all, rows}
use Rattle.qpack_rules.proofs.SessionRows.{foo_bar_bytes, heard_fits, cut_none, line_then}

-- ---- what is skipped

-- the greatest stream number: a block may be written for it, and it may be cancelled; there is nothing to decode or to
-- acknowledge on it
greatest_encodes : skip_reason written (Encode (2 ^ 62 - 1) []) ≡ None
unfolding rows
greatest_encodes = refl

greatest_cancels : skip_reason written (Cancel (2 ^ 62 - 1)) ≡ None
unfolding rows
greatest_cancels = refl

greatest_decodes : skip_reason written (Decode (2 ^ 62 - 1)) ≡ Some 2
unfolding rows
greatest_decodes = refl

greatest_acknowledges : skip_reason written (Acknowledge (2 ^ 62 - 1)) ≡ Some 4
unfolding rows
greatest_acknowledges = refl

-- a block on it may be decoded
greatest_may_decode : skip_reason (with_block begun (2 ^ 62 - 1) []) (Decode (2 ^ 62 - 1)) ≡ None
unfolding rows
greatest_may_decode = refl

-- and one more has none of these
next_decodes : skip_reason written (Decode (2 ^ 62)) ≡ Some 1
unfolding rows
next_decodes = refl

next_acknowledges : skip_reason written (Acknowledge (2 ^ 62)) ≡ Some 1
unfolding rows
next_acknowledges = refl

-- ---- cancellations

-- a stream is cancelled that has a block: it is told so, and keeps its block
cancelled_four : Session
cancelled_four = with_cancelled written 4

cancels_four : Step written (Cancel 4) Cancelled cancelled_four
unfolding rows LawfulStep cancelled_four
cancels_four = inr (refl, inl (refl, refl))

cancelled_bytes : cancelled_four.decoder_stream ≡ 68 ∷ []
unfolding rows cancelled_four
cancelled_bytes = refl

cancelled_keeps : length (stream_at cancelled_four.streams 4).blocks ≡ 1
unfolding rows cancelled_four
cancelled_keeps = refl

-- and one that was never used
cancels_unused : Step written (Cancel 64) Cancelled (with_cancelled written 64)
unfolding rows LawfulStep
cancels_unused = inr (refl, inl (refl, refl))

unused_bytes : (with_cancelled written 64).decoder_stream ≡ 127 ∷ 1 ∷ []
unfolding rows
unused_bytes = refl

-- ---- an encode that is given up

foo_baz : Field
foo_baz = field (codes "foo") (codes "baz")

-- behind the first of two fields: its insertion stands, and was written; no block is kept
given_up : Session
given_up = after_refused_encode begun (foo_bar ∷ [])

gives_up : Step begun (Encode 4 (foo_bar ∷ foo_baz ∷ [])) NoMemory given_up
unfolding rows LawfulStep given_up
gives_up = inr (refl, inr (inl (record { many = 1; answers = refl; leads = refl })))

given_up_bytes : given_up.encoder_stream ≡ 98 ∷ 148 ∷ 231 ∷ 131 ∷ 140 ∷ 118 ∷ 127 ∷ []
unfolding rows given_up
given_up_bytes = refl

given_up_references : given_up.encoder.referenced ≡ []
unfolding rows given_up
given_up_references = refl

given_up_blocks : (stream_at given_up.streams 4).blocks ≡ []
unfolding rows given_up
given_up_blocks = refl

-- ---- a delivery of no bytes

delivers_nothing : Step begun (ToDecoder 0) (Delivered 0) begun
unfolding rows LawfulStep pieces_of
delivers_nothing =
    inr (
      refl,
      record {
        table = begun.decoder;
        takes = record {
          lines = [];
          front = [];
          rest = [];
          cut = refl;
          joined = refl;
          applies = refl;
          ends = takes_all cut_none refl refl;
        };
      },
    )

-- ---- blocks that can't be read

-- before the insertion is delivered, and behind it; the encoder does not know of it
unreadable_before : unreadable_blocks written ≡ 1
unfolding rows
unreadable_before = refl

unreadable_behind : unreadable_blocks delivered ≡ 0
unfolding rows
unreadable_behind = refl

blocked_behind : blocked_blocks delivered ≡ 1
unfolding rows
blocked_behind = refl

-- ---- a capacity is set, delivered and used

-- both tables at capacity 0: the entry is evicted
emptied : Table
emptied = record released { capacity = 0; dropped = 1; live = [] }

resized : Session
resized = record heard_all { encoder = emptied; encoder_stream = heard_all.encoder_stream ++ 32 ∷ [] }

emptied_decoder : Table
emptied_decoder = record heard_all.decoder { capacity = 0; dropped = 1; live = [] }

resized_both : Session
resized_both = with_decoder_moved resized 1 emptied_decoder 1 0 (1 ∷ 132 ∷ [])

encoded_at_0 : Session
encoded_at_0 = with_block resized_both 8 (foo_bar ∷ [])

decoded_at_0 : Session
decoded_at_0 = with_decoded encoded_at_0 8

more_rows : ℕ
unfolding rows emptied resized emptied_decoder resized_both encoded_at_0 decoded_at_0
more_rows = 0

sets_0 : Step heard_all (ChangeCapacity 0) CapacitySet resized
unfolding more_rows LawfulStep
sets_0 = inr (refl, inl (record { table = emptied; is_set = refl; answers = refl; leads = refl }))

capacity_read : form_at encoder_instruction_form (32 ∷ []) ≡ Ok (SetCapacity 0, [])
unfolding more_rows
capacity_read = refl

delivers_0 : Step resized (ToDecoder 1) (Delivered 1) resized_both
unfolding more_rows LawfulStep pieces_of
delivers_0 =
    inr (
      refl,
      record {
        table = emptied_decoder;
        takes = record {
          lines = SetCapacity 0 ∷ [];
          front = 32 ∷ [];
          rest = [];
          cut = refl;
          joined = line_then encoder_instruction_form _ [] (SetCapacity 0) [] capacity_read refl;
          applies = refl;
          ends = takes_all cut_none refl refl;
        };
      },
    )

encodes_at_0 : Step resized_both (Encode 8 (foo_bar ∷ [])) (Encoded 0) encoded_at_0
unfolding more_rows LawfulStep
encodes_at_0 = inr (refl, inl (refl, refl))

-- it is a literal
block_at_0 : map (λ b. b.bytes) (stream_at encoded_at_0.streams 8).blocks
    ≡ (0 ∷ 0 ∷ 42 ∷ 148 ∷ 231 ∷ 131 ∷ 140 ∷ 118 ∷ 127 ∷ []) ∷ []
unfolding more_rows
block_at_0 = refl

reads_at_0 : Step encoded_at_0 (Decode 8) (Decoded (foo_bar ∷ []) 38 false) decoded_at_0
unfolding more_rows LawfulStep
reads_at_0 = inr (refl, inl (record { block = _; is_next = refl; answers = refl; moves = refl }))

-- the blocks of a stream fit where those of the other streams do
stream_fits : (n s : ℕ) (k : KeptStream) (ps : List (ℕ × KeptStream))
    → AllByRecursion (λ (b : KeptBlock). length b.bytes < 2 ^ 63) k.blocks
    → AllByRecursion (λ (b : KeptBlock). length b.bytes < 2 ^ 63) (stream_at ps s).blocks
    → AllByRecursion (λ (b : KeptBlock). length b.bytes < 2 ^ 63) (stream_at ((n, k) ∷ ps) s).blocks
stream_fits n s k ps h rest =
    cond_both (nat_eq n s) k (stream_at ps s)
    (λ (x : KeptStream). AllByRecursion (λ (b : KeptBlock). length b.bytes < 2 ^ 63) x.blocks) (λ _. h) (λ _. rest)

resized_fits : FitsMemory resized
unfolding more_rows
resized_fits = record { encoder_stream_fits = lit≤ tt; blocks_fit = heard_fits.blocks_fit }

resized_both_fits : FitsMemory resized_both
unfolding more_rows
resized_both_fits = record { encoder_stream_fits = lit≤ tt; blocks_fit = heard_fits.blocks_fit }

encoded_at_0_fits : FitsMemory encoded_at_0
unfolding more_rows
encoded_at_0_fits =
    record {
      encoder_stream_fits = lit≤ tt;
      blocks_fit = λ s. stream_fits 8 s (stream_at encoded_at_0.streams 8) heard_all.streams (lit≤ tt, tt)
          (heard_fits.blocks_fit s);
    }

decoded_at_0_fits : FitsMemory decoded_at_0
unfolding more_rows
decoded_at_0_fits =
    record {
      encoder_stream_fits = lit≤ tt;
      blocks_fit = λ s. stream_fits 8 s (stream_at decoded_at_0.streams 8) encoded_at_0.streams (lit≤ tt, tt)
          (encoded_at_0_fits.blocks_fit s);
    }

session_at_0 : Run heard_all
    ((ChangeCapacity 0, CapacitySet) ∷ (ToDecoder 1, Delivered 1) ∷ (Encode 8 (foo_bar ∷ []), Encoded 0)
    ∷ (Decode 8, Decoded (foo_bar ∷ []) 38 false) ∷ []) decoded_at_0
session_at_0 = (
  resized,
  record { has_bytes = tt; goes = sets_0; fits = resized_fits },
  (
    resized_both,
    record { has_bytes = tt; goes = delivers_0; fits = resized_both_fits },
    (
      encoded_at_0,
      record { has_bytes = foo_bar_bytes; goes = encodes_at_0; fits = encoded_at_0_fits },
      (decoded_at_0, record { has_bytes = tt; goes = reads_at_0; fits = decoded_at_0_fits }, refl),
    ),
  ),
)

-- ---- integers and references

-- groups of seven bits, the least first, the high bit aside (RFC 7541, section 5.1)
one_group : groups_sum (127 ∷ []) ≡ 127
one_group = refl

three_groups : groups_sum (154 ∷ 138 ∷ 3 ∷ []) ≡ 50458
three_groups = refl

-- the entries that lines reference, the base being 7
each_line : references_of 7
    (IndexedStatic 1 ∷ IndexedDynamic 2 ∷ IndexedPostBase 3 ∷ NamedStatic 4 [] ∷ NamedDynamic 5 [] ∷ NamedPostBase 6 []
    ∷ Literal [] [] ∷ []) ≡ 5 ∷ 11 ∷ 2 ∷ 14 ∷ []
unfolding rows references_of references_of_line
each_line = refl
