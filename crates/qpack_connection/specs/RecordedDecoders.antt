-- What other decoders wrote, as it was recorded: the decoder streams of Chromium 156, Firefox 153 and nghttp3 0.8.0 as
-- they begin, to the example server of this repository. They are what the law of an encoder asks of a peer.
use Rattle.std.specs.Prelude.{ℕ, List, [], ◌∷◌, take, map, filter, codes, nat_lt, None, Some}
use Rattle.qpack_spec.specs.Field.{Field}
use Rattle.qpack_spec.specs.Instruction.{DecoderInstruction, Acknowledgment}
use Rattle.qpack_spec.specs.StaticTable.{field}
use Rattle.qpack_spec.specs.Table.{UnacknowledgedBlock, sent_entry}
use Rattle.qpack_rules.specs.StrictInstructions.{required_by}
use Rattle.qpack_encoding.specs.Encoders.{EncodingEnd}
use Rattle.qpack_shared.specs.Places.{behind}
use Rattle.qpack_connection.specs.LawfulDecoders.{IsLawful}

-- ---- the server

-- the first insertions of the server, which answers a browser on this date
abbrev pub server_fields : List ℕ → List Field
server_fields date =
    field (codes "server") (codes "h3_qpack example") ∷ field (codes "date") date ∷
    field (codes "content-security-policy") (codes "default-src 'self'; style-src 'self' 'unsafe-inline'") ∷
    field (codes "content-type") (codes "text/javascript") ∷
    field (codes "x-a-same") (codes "the same in every message, 0123456789abcdefghijklmnopqrstuvwxyz") ∷
    field (codes "x-a-id") (codes "1f09583e") ∷ field (codes "x-a-15") (codes "value 2") ∷
    field (codes "x-a-22") (codes "value 2") ∷ field (codes "x-a-16") (codes "value 5") ∷
    field (codes "x-a-27") (codes "value 3") ∷ field (codes "x-a-7") (codes "value 3") ∷
    field (codes "x-a-id") (codes "38829f5c") ∷
    field (codes "x-a-text") (80 ∷ 99 ∷ 85 ∷ 48 ∷ 50 ∷ 35 ∷ 84 ∷ 84 ∷ 39 ∷ 72 ∷ 80 ∷ 121 ∷ 82 ∷ 106 ∷ 68 ∷ 60 ∷
    84 ∷ 107 ∷ 101 ∷ 116 ∷ 65 ∷ 112 ∷ 71 ∷ 35 ∷ 61 ∷ 123 ∷ 126 ∷ 79 ∷ 114 ∷ 95 ∷ 107 ∷ 55 ∷ 33 ∷ 92 ∷ 91 ∷ 95 ∷
    118 ∷ 34 ∷ []) ∷ field (codes "x-a-id") (codes "1ddff010") ∷ field (codes "x-a-id") (codes "37ccd115") ∷ []

-- its sections, each with the entries that it references, in the order of its lines
abbrev pub on_0 : UnacknowledgedBlock
on_0 = record { stream = 0; entries = 1 ∷ 2 ∷ 3 ∷ [] }

abbrev pub on_4 : UnacknowledgedBlock
on_4 = record { stream = 4; entries = 1 ∷ 2 ∷ 4 ∷ 3 ∷ [] }

abbrev pub on_8 : UnacknowledgedBlock
on_8 = record { stream = 8; entries = 1 ∷ 2 ∷ 5 ∷ 6 ∷ 7 ∷ 8 ∷ 9 ∷ 10 ∷ 11 ∷ [] }

abbrev pub on_12 : UnacknowledgedBlock
on_12 = record { stream = 12; entries = 1 ∷ 2 ∷ 5 ∷ 12 ∷ 13 ∷ [] }

abbrev pub on_16 : UnacknowledgedBlock
on_16 = record { stream = 16; entries = 1 ∷ 2 ∷ 5 ∷ 14 ∷ [] }

abbrev pub on_20 : UnacknowledgedBlock
on_20 = record { stream = 20; entries = 1 ∷ 2 ∷ 5 ∷ 15 ∷ [] }

-- its encoder, for a peer that lets this many streams be blocked: these insertions were made, of which this many are
-- known to be received; these sections are not acknowledged; and it has heard these instructions in these bytes
abbrev pub server : ℕ → List Field → ℕ → List UnacknowledgedBlock → List DecoderInstruction → List ℕ → EncodingEnd
server max_blocked inserted known sections heard before =
    record {
      settings = record {
        max_capacity = 65536;
        max_blocked = max_blocked;
        capacity = 4096;
        most_unacknowledged = 100;
        seed = 0;
      };
      table = record {
        capacity = 4096;
        agreed_max = Some 65536;
        limit = 4096;
        dropped = 0;
        live = map (λ f. sent_entry f) inserted;
        known_received_count = known;
        referenced = [];
        unacknowledged = sections;
        blocked = filter (λ n. nat_lt known n) (map required_by sections);
      };
      wanted = None;
      stream = record { pending = []; place = behind heard before };
      unsent = [];
      failure = None;
    }

-- the moments at which bytes of the decoder came: after the first section, after the second, and after more
abbrev pub server_first : ℕ → List ℕ → EncodingEnd
server_first max_blocked date = server max_blocked (take 3 (server_fields date)) 0 (on_0 ∷ []) [] []

abbrev pub server_second : ℕ → List ℕ → EncodingEnd
server_second max_blocked date =
    server max_blocked (take 4 (server_fields date)) 3 (on_4 ∷ []) (Acknowledgment 0 ∷ []) (0x80 ∷ [])

abbrev pub server_later : ℕ → List ℕ → ℕ → List UnacknowledgedBlock → EncodingEnd
server_later max_blocked date many sections =
    server max_blocked (take many (server_fields date)) 4 sections (Acknowledgment 0 ∷ Acknowledgment 4 ∷ [])
    (0x80 ∷ 0x84 ∷ [])

-- ---- what is promised

-- whatever front comes of the bytes that a decoder has under way
abbrev pub MayCome : EncodingEnd → List ℕ → Type 0
MayCome e bytes = (many : ℕ) → IsLawful e (take many bytes)

abbrev pub chromium_date : List ℕ
chromium_date = codes "Fri, 27 Nov 2026 14:01:04 GMT"

abbrev pub firefox_date : List ℕ
firefox_date = codes "Fri, 27 Nov 2026 16:16:47 GMT"

-- Chromium acknowledges each section
abbrev pub ChromiumIsLawful : Type 0
ChromiumIsLawful =
    MayCome (server_first 100 chromium_date) (0x80 ∷ []) × MayCome (server_second 100 chromium_date) (0x84 ∷ [])
    × MayCome (server_later 100 chromium_date 13 (on_8 ∷ on_12 ∷ [])) (0x88 ∷ 0x8c ∷ [])

-- so does Firefox, which has insertions reported as well: those of the sections on streams 16 and 20
abbrev pub FirefoxIsLawful : Type 0
FirefoxIsLawful =
    MayCome (server_first 20 firefox_date) (0x80 ∷ []) × MayCome (server_second 20 firefox_date) (0x84 ∷ [])
    × MayCome (server_later 20 firefox_date 15 (on_8 ∷ on_12 ∷ on_16 ∷ on_20 ∷ []))
    (0x88 ∷ 0x8c ∷ 0x02 ∷ 0x90 ∷ 0x94 ∷ [])

-- nghttp3 was passed what the server had sent to Firefox, and wrote the same at first. Then it received insertions
-- before their sections, and reported them; stream 12 was cancelled
abbrev pub Nghttp3IsLawful : Type 0
Nghttp3IsLawful =
    MayCome (server_later 20 firefox_date 15 (on_8 ∷ on_12 ∷ on_16 ∷ on_20 ∷ []))
    (0x07 ∷ 0x88 ∷ 0x4c ∷ 0x03 ∷ 0x90 ∷ 0x94 ∷ [])

abbrev pub OtherDecodersAreLawful : Type 0
OtherDecodersAreLawful = ChromiumIsLawful × FirefoxIsLawful × Nghttp3IsLawful
