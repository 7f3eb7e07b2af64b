-- The ends of RFC 9204, appendix B, as values: they meet what the laws ask of a peer. Its encoder and its decoder are
-- lawful at each moment, and so is each section. The maximum capacity is 220, and one stream may be blocked. The
-- absolute index of an insertion is one more than in the appendix.
use Rattle.std.specs.Prelude.{ℕ, true, List, [], ◌∷◌, ◌++◌, take, map, codes, None, Some, Ok}
use Rattle.qpack_spec.specs.Field.{Field, FieldLine, unmarked}
use Rattle.qpack_spec.specs.History.{History, window_of, initial_history}
use Rattle.qpack_spec.specs.Instruction.{EncoderInstruction, InsertStaticName, InsertDynamicName, InsertLiteralName}
use Rattle.qpack_spec.specs.Instruction.{Duplicate, SetCapacity, DecoderInstruction, Acknowledgment, Cancellation}
use Rattle.qpack_spec.specs.Instruction.{Increment}
use Rattle.qpack_rules.specs.LawfulEncoders.{IsLawfulSection}
use Rattle.qpack_spec.specs.StaticTable.{field}
use Rattle.qpack_spec.specs.Table.{Table, UnacknowledgedBlock, sent_entry, table_of}
use Rattle.qpack_shared.specs.declared.streams.BlockedStream.{BlockedStream}
use Rattle.qpack_decoding.specs.Decoders.{DecodingEnd}
use Rattle.qpack_encoding.specs.Encoders.{EncodingEnd}
use Rattle.qpack_shared.specs.Places.{behind}
use Rattle.qpack_decoding.specs.declared.section.Reading.TheVariants as reading
use Rattle.qpack_connection.specs.Connections.{SentSection}
use Rattle.qpack_connection.specs.LawfulDecoders as decoders
use Rattle.qpack_connection.specs.LawfulEncoders.{Encoder, IsLawful, KeepsToLimit, Call, Receive, Decode, Cancel}
use Rattle.qpack_connection.specs.LawfulEnds.{Writer, IsPeer, AreInOrder}

-- ---- what is inserted

abbrev pub authority : Field
authority = field (codes ":authority") (codes "www.example.com")

abbrev pub sample_path : Field
sample_path = field (codes ":path") (codes "/sample/path")

abbrev pub custom : Field
custom = field (codes "custom-key") (codes "custom-value")

abbrev pub custom2 : Field
custom2 = field (codes "custom-key") (codes "custom-value2")

-- these insertions, of which the first ones are evicted
abbrev pub made_of : ℕ → List Field → History
made_of dropped inserted =
    record { capacity = 220; agreed_max = Some 220; dropped = dropped; inserted = inserted }

-- ---- the encoder stream

-- a capacity of 220, and two insertions by names of the static table (B.2)
abbrev pub sent_first : List EncoderInstruction
sent_first =
    SetCapacity 220 ∷ InsertStaticName 0 (codes "www.example.com") ∷ InsertStaticName 1 (codes "/sample/path") ∷ []

abbrev pub bytes_first : List ℕ
bytes_first =
    0x3f ∷ 0xbd ∷ 0x01 ∷ 0xc0 ∷ 0x0f ∷ codes "www.example.com" ++ 0xc1 ∷ 0x0c ∷ codes "/sample/path"

-- an insertion with a literal name (B.3)
abbrev pub sent_literal : List EncoderInstruction
sent_literal = sent_first ++ InsertLiteralName (codes "custom-key") (codes "custom-value") ∷ []

abbrev pub bytes_literal : List ℕ
bytes_literal = bytes_first ++ 0x4a ∷ codes "custom-key" ++ 0x0c ∷ codes "custom-value"

-- the first entry once more (B.4)
abbrev pub sent_duplicate : List EncoderInstruction
sent_duplicate = sent_literal ++ Duplicate 2 ∷ []

abbrev pub bytes_duplicate : List ℕ
bytes_duplicate = bytes_literal ++ 0x02 ∷ []

-- an insertion by an entry's name, for which the first entry is evicted (B.5)
abbrev pub sent_evicting : List EncoderInstruction
sent_evicting = sent_duplicate ++ InsertDynamicName 1 (codes "custom-value2") ∷ []

abbrev pub bytes_evicting : List ℕ
bytes_evicting = bytes_duplicate ++ 0x81 ∷ 0x0d ∷ codes "custom-value2"

-- ---- the encoder

-- a section is under way on stream 0 that requires nothing (B.1)
abbrev pub encoder_begun : Encoder
encoder_begun =
    record {
      sent = [];
      bytes = [];
      made = initial_history 0 220;
      known = 0;
      sections = record { stream = 0; required = 0 } ∷ [];
    }

-- one on stream 4 requires both insertions, of which none is known to be received (B.2)
abbrev pub encoder_first : Encoder
encoder_first =
    record {
      sent = sent_first;
      bytes = bytes_first;
      made = made_of 0 (authority ∷ sample_path ∷ []);
      known = 0;
      sections = record { stream = 4; required = 2 } ∷ [];
    }

-- it is acknowledged (B.3)
abbrev pub encoder_literal : Encoder
encoder_literal =
    record {
      sent = sent_literal;
      bytes = bytes_literal;
      made = made_of 0 (authority ∷ sample_path ∷ custom ∷ []);
      known = 2;
      sections = [];
    }

-- the third insertion is known to be received, and a section on stream 8 requires the fourth (B.4)
abbrev pub encoder_duplicate : Encoder
encoder_duplicate =
    record {
      sent = sent_duplicate;
      bytes = bytes_duplicate;
      made = made_of 0 (authority ∷ sample_path ∷ custom ∷ authority ∷ []);
      known = 3;
      sections = record { stream = 8; required = 4 } ∷ [];
    }

-- stream 8 is cancelled (B.5)
abbrev pub encoder_evicting : Encoder
encoder_evicting =
    record {
      sent = sent_evicting;
      bytes = bytes_evicting;
      made = made_of 1 (authority ∷ sample_path ∷ custom ∷ authority ∷ custom2 ∷ []);
      known = 3;
      sections = [];
    }

-- ---- what it writes is lawful

-- a decoding end that received all that an encoder wrote, has reported this number of insertions, and at which these
-- streams wait
abbrev pub decoder_after : Encoder → ℕ → List BlockedStream → DecodingEnd
decoder_after p reported waiting =
    record {
      settings = record { max_capacity = 220; max_blocked = 1; max_section_size = 65536 };
      table = table_of (window_of p.made);
      stream = record { pending = []; wanted = 0; place = behind p.sent p.bytes };
      reported = reported;
      blocked = waiting;
      unsent = [];
      failure = None;
    }

-- at each moment, for a decoding end as it was one moment before, whichever front of the bytes comes
abbrev pub AppendixEncoderIsLawful : Type 0
AppendixEncoderIsLawful =
    (many : ℕ)
    → IsLawful encoder_begun (decoder_after encoder_begun 0 []) (take many encoder_begun.bytes)
    × IsLawful encoder_first (decoder_after encoder_begun 0 []) (take many encoder_first.bytes)
    × IsLawful encoder_literal (decoder_after encoder_first 2 []) (take many encoder_literal.bytes)
    × IsLawful encoder_duplicate (decoder_after encoder_literal 3 []) (take many encoder_duplicate.bytes)
    × IsLawful encoder_evicting (decoder_after encoder_duplicate 4 []) (take many encoder_evicting.bytes)

-- ---- its sections

abbrev pub index_html : Field
index_html = field (codes ":path") (codes "/index.html")

-- the section on stream 0 (B.1), and the same with its field marked
abbrev pub section_static : List ℕ
section_static = 0x00 ∷ 0x00 ∷ 0x51 ∷ 0x0b ∷ codes "/index.html"

abbrev pub section_marked : List ℕ
section_marked = 0x00 ∷ 0x00 ∷ 0x71 ∷ 0x0b ∷ codes "/index.html"

-- the section on stream 4, whose base is 0 and below its count (B.2)
abbrev pub section_post_base : List ℕ
section_post_base = 0x03 ∷ 0x81 ∷ 0x10 ∷ 0x11 ∷ []

abbrev pub fields_post_base : List FieldLine
fields_post_base = unmarked authority ∷ unmarked sample_path ∷ []

-- the section on stream 8, whose base is its count (B.4), and the same with a base above its count
abbrev pub section_dynamic : List ℕ
section_dynamic = 0x05 ∷ 0x00 ∷ 0x80 ∷ 0xc1 ∷ 0x81 ∷ []

abbrev pub section_above : List ℕ
section_above = 0x05 ∷ 0x01 ∷ 0x81 ∷ 0xc1 ∷ 0x82 ∷ []

abbrev pub fields_dynamic : List FieldLine
fields_dynamic = unmarked authority ∷ unmarked (field (codes ":path") (codes "/")) ∷ unmarked custom ∷ []

-- one whose base is 2, with names of entries below and above it, and with literal names, marked and not
abbrev pub section_names : List ℕ
section_names =
    0x05 ∷ 0x81 ∷ 0x40 ∷ 0x01 ∷ 0x78 ∷ 0x09 ∷ 0x01 ∷ 0x78 ∷ 0x23 ∷ codes "foo" ++ 0x01 ∷ 0x78 ∷ 0x33 ∷ codes "foo"
    ++ 0x01 ∷ 0x78 ∷ []

abbrev pub fields_names : List FieldLine
fields_names =
    unmarked (field (codes ":path") (codes "x"))
    ∷ record { field = field (codes ":authority") (codes "x"); never_indexed = true }
    ∷ unmarked (field (codes "foo") (codes "x"))
    ∷ record { field = field (codes "foo") (codes "x"); never_indexed = true } ∷ []

-- a section that this encoder may have written on a stream, for a decoding end at which these streams wait
abbrev pub MayDecode : Encoder → DecodingEnd → ℕ → ℕ → List FieldLine → List ℕ → Type 0
MayDecode p d stream required fields bytes =
    IsLawfulSection d.settings.max_capacity p.made required fields bytes × KeepsToLimit p d stream required

-- the decoding end after B.1, at which the section on stream 4 waits
abbrev pub waits_on_4 : DecodingEnd
waits_on_4 = decoder_after encoder_begun 0 (record { stream = 4; required = 2 } ∷ [])

-- each section, and the ones beside it; that on stream 4 before it waits and while it does
abbrev pub AppendixSectionsAreLawful : Type 0
AppendixSectionsAreLawful =
    MayDecode encoder_begun (decoder_after encoder_begun 0 []) 0 0 (unmarked index_html ∷ []) section_static
    × MayDecode encoder_begun (decoder_after encoder_begun 0 []) 0 0
    (record { field = index_html; never_indexed = true } ∷ []) section_marked
    × MayDecode encoder_first (decoder_after encoder_begun 0 []) 4 2 fields_post_base section_post_base
    × MayDecode encoder_first waits_on_4 4 2 fields_post_base section_post_base
    × MayDecode encoder_duplicate (decoder_after encoder_duplicate 4 []) 8 4 fields_dynamic section_dynamic
    × MayDecode encoder_duplicate (decoder_after encoder_duplicate 4 []) 8 4 fields_dynamic section_above
    × MayDecode encoder_duplicate (decoder_after encoder_duplicate 4 []) 8 4 fields_names section_names

-- ---- the decoder stream

-- the table of an encoder, with these sections that are not acknowledged and the counts of those that may be blocked
abbrev pub table_after : Encoder → List UnacknowledgedBlock → List ℕ → Table
table_after p sections blocked =
    record {
      capacity = 220;
      agreed_max = Some 220;
      limit = 4096;
      dropped = p.made.dropped;
      live = map (λ f. sent_entry f) (window_of p.made).live;
      known_received_count = p.known;
      referenced = [];
      unacknowledged = sections;
      blocked = blocked;
    }

-- an encoding end with this table that has heard these instructions in these bytes
abbrev pub encoder_after : Table → List DecoderInstruction → List ℕ → EncodingEnd
encoder_after t heard before =
    record {
      settings = record { max_capacity = 220; max_blocked = 1; capacity = 220; most_unacknowledged = 16; seed = 0 };
      table = t;
      wanted = None;
      stream = record { pending = []; place = behind heard before };
      unsent = [];
      failure = None;
    }

-- the sections on streams 4 and 8, with the entries that they reference
abbrev pub open_on_4 : List UnacknowledgedBlock
open_on_4 = record { stream = 4; entries = 1 ∷ 2 ∷ [] } ∷ []

abbrev pub open_on_8 : List UnacknowledgedBlock
open_on_8 = record { stream = 8; entries = 4 ∷ 3 ∷ [] } ∷ []

-- the same encoder, having heard nothing of the decoder
abbrev pub encoder_unheard : Encoder
encoder_unheard = record encoder_literal { known = 0 }

-- it acknowledges the section on stream 4 (B.2), reports one insertion (B.3), cancels stream 8 (B.4), and writes
-- nothing more (B.5). Another decoder cancels stream 4 and reports all three insertions at once, also if one byte comes
-- first
abbrev pub AppendixDecoderIsLawful : Type 0
AppendixDecoderIsLawful =
    decoders.IsLawful (encoder_after (table_after encoder_first open_on_4 (2 ∷ [])) [] []) (0x84 ∷ [])
    × decoders.IsLawful (encoder_after (table_after encoder_literal [] []) (Acknowledgment 4 ∷ []) (0x84 ∷ []))
    (0x01 ∷ [])
    × decoders.IsLawful (encoder_after (table_after encoder_duplicate open_on_8 (4 ∷ []))
    (Acknowledgment 4 ∷ Increment 1 ∷ []) (0x84 ∷ 0x01 ∷ [])) (0x48 ∷ [])
    × decoders.IsLawful (encoder_after (table_after encoder_evicting [] [])
    (Acknowledgment 4 ∷ Increment 1 ∷ Cancellation 8 ∷ []) (0x84 ∷ 0x01 ∷ 0x48 ∷ [])) []
    × decoders.IsLawful (encoder_after (table_after encoder_unheard open_on_4 (2 ∷ [])) [] []) (0x44 ∷ 0x03 ∷ [])
    × decoders.IsLawful (encoder_after (table_after encoder_unheard open_on_4 (2 ∷ [])) [] []) (0x44 ∷ [])

-- ---- what the laws of what is written ask

-- the calls of the decoder: the section on stream 0; the one on stream 4, which waits, and is decoded once its
-- insertions have come; and the cancellation of stream 8
abbrev pub sent_static : SentSection
sent_static = record { fields = unmarked index_html ∷ []; bytes = section_static; required = 0 }

abbrev pub sent_post_base : SentSection
sent_post_base = record { fields = fields_post_base; bytes = section_post_base; required = 2 }

abbrev pub decoder_calls : List Call
decoder_calls =
    Decode 0 sent_static sent_static.fields (Ok (reading.Fields 0))
    ∷ Decode 4 sent_post_base [] (Ok (reading.Blocked 2))
    ∷ Receive bytes_first [] (Ok 2)
    ∷ Decode 4 sent_post_base fields_post_base (Ok (reading.Fields 2))
    ∷ Cancel 8 (Ok tt) ∷ []

-- its sections are decoded in order
abbrev pub AppendixSectionsAreInOrder : Type 0
AppendixSectionsAreInOrder = AreInOrder 220 decoder_calls (open_on_4 ++ open_on_8)

-- its decoding end is one of a peer, before the insertions have come and once they are reported
abbrev pub AppendixDecoderIsPeer : Type 0
AppendixDecoderIsPeer =
    (let e = encoder_after (table_after encoder_first open_on_4 (2 ∷ [])) [] [] in
    let w : Writer = record { end = e; sent = bytes_first; sections = [] } in
    IsPeer e.settings w (decoder_after encoder_begun 0 []) × IsPeer e.settings w (decoder_after encoder_first 2 []))
