-- A section of RFC 9204, appendix B, that comes in pieces, as values: each piece is what the law of a decoder asks of its
-- peer.
use Rattle.std.specs.Prelude.{ℕ, true, false, List, [], ◌∷◌, take, Some}
use Rattle.qpack_spec.specs.Field.{unmarked}
use Rattle.qpack_decoding.specs.Decoders.{DecodingEnd}
use Rattle.qpack_decoding.specs.Pieces.{ReaderView, fresh, opened, behind_line}
use Rattle.qpack_connection.specs.LawfulEncoders.{Coming, begins, Decoder, IsLawfulPiece}
use Rattle.qpack_connection.specs.LawfulRows.{authority, sample_path, encoder_begun, encoder_first, bytes_first}
use Rattle.qpack_connection.specs.LawfulRows.{decoder_after, waits_on_4, sent_post_base}

-- ---- the section on stream 4 (B.2)

-- it begins; the first byte of its prefix has come; the prefix was read; and its first line
abbrev pub post_base_begins : Coming
post_base_begins = begins 4 sent_post_base

abbrev pub post_base_cut : Coming
post_base_cut =
    record post_base_begins {
      reader = record (fresh 4) { pending = 0x03 ∷ [] };
      rest = 0x81 ∷ 0x10 ∷ 0x11 ∷ [];
    }

abbrev pub post_base_reader : ReaderView
post_base_reader = opened (record { required = 2; base = 0; length = 2 }) (fresh 4)

abbrev pub post_base_opened : Coming
post_base_opened = record post_base_begins { reader = post_base_reader; rest = 0x10 ∷ 0x11 ∷ [] }

abbrev pub post_base_behind : Coming
post_base_behind =
    record post_base_begins {
      reader = behind_line 1 authority post_base_reader;
      rest = 0x11 ∷ [];
      fields = unmarked sample_path ∷ [];
    }

-- a decoding end that has received these bytes of the encoder stream, and on which this comes
abbrev pub with_coming : DecodingEnd → List ℕ → Coming → Decoder
with_coming d come c = record { end = d; come = come; coming = λ s. Some c }

-- byte for byte, before the insertions have come, while the section waits, and after that, whichever front of the encoder
-- stream has come
abbrev pub AppendixPiecesAreLawful : Type 0
AppendixPiecesAreLawful =
    (many : ℕ)
    → IsLawfulPiece (with_coming (decoder_after encoder_begun 0 []) (take many bytes_first) post_base_begins) 4
    (0x03 ∷ []) false
    × IsLawfulPiece (with_coming (decoder_after encoder_begun 0 []) (take many bytes_first) post_base_cut) 4 (0x81 ∷ [])
    false
    × IsLawfulPiece (with_coming waits_on_4 (take many bytes_first) post_base_opened) 4 (0x10 ∷ []) false
    × IsLawfulPiece (with_coming (decoder_after encoder_first 2 []) (take many bytes_first) post_base_opened) 4
    (0x10 ∷ []) false
    × IsLawfulPiece (with_coming (decoder_after encoder_first 2 []) (take many bytes_first) post_base_behind) 4
    (0x11 ∷ []) true
