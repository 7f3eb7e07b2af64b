-- The pieces of a section of RFC 9204, appendix B, are what a lawful encoder writes.
use Rattle.std.proofs.Common.{◌≡◌, ◌<◌, ◌≤◌, ◌++◌, ◌^◌, ℕ, Bool, true, false, List, [], ◌∷◌, length, refl, lit≤}
use Rattle.std.specs.Prelude.{take}
use Rattle.qpack_decoding.specs.Decoders.{DecodingEnd}
use Rattle.qpack_connection.specs.LawfulEncoders.{Coming, Encoder, IsLawful, KeepsToLimit, IsLawfulPiece}
use Rattle.qpack_connection.specs.LawfulRows.{encoder_begun, encoder_first, bytes_first, decoder_after, waits_on_4}
use Rattle.qpack_connection.specs.LawfulRows.{sent_post_base}
use Rattle.qpack_connection.specs.PieceRows.{post_base_begins, post_base_cut, post_base_opened, post_base_behind}
use Rattle.qpack_connection.specs.PieceRows.{with_coming, AppendixPiecesAreLawful}
use Rattle.qpack_connection.proofs.LawfulRows.{cut_anywhere, first_lawful, first_spelled, limit_of_one, post_base_section}

-- a piece of the section, for a decoding end of appendix B
piece : (d : DecodingEnd) (come : List ℕ) (c : Coming) (bytes more : List ℕ) (last : Bool) → c.sent ≡ sent_post_base
    → d.settings ≡ (decoder_after encoder_begun 0 []).settings → IsLawful encoder_first d come
    → KeepsToLimit encoder_first d 4 2 → c.rest ≡ bytes ++ more → (last ≡ true → more ≡ [])
    → IsLawfulPiece (with_coming d come c) 4 bytes last
piece d come c bytes more last sent settings lawful limit next whole =
    record {
      coming = c;
      is = refl;
      encoder = encoder_first;
      lawful = lawful;
      section = rw (sent, settings) post_base_section;
      limit = rw sent limit;
      within = rw (sent, settings) (lit≤ tt);
      short = rw sent (lit≤ tt);
      more = more;
      next = next;
      whole = whole;
    }

before : (many : ℕ) → IsLawful encoder_first (decoder_after encoder_begun 0 []) (take many bytes_first)
before many = cut_anywhere encoder_first (decoder_after encoder_begun 0 []) many first_lawful first_spelled (lit≤ tt)

while_waiting : (many : ℕ) → IsLawful encoder_first waits_on_4 (take many bytes_first)
while_waiting many = cut_anywhere encoder_first waits_on_4 many first_lawful first_spelled (lit≤ tt)

after : (many : ℕ) → IsLawful encoder_first (decoder_after encoder_first 2 []) (take many bytes_first)
after many = cut_anywhere encoder_first (decoder_after encoder_first 2 []) many first_lawful first_spelled (lit≤ tt)

limit_before : KeepsToLimit encoder_first (decoder_after encoder_begun 0 []) 4 2
limit_before =
    limit_of_one encoder_first (decoder_after encoder_begun 0 []) (record { stream = 4; required = 2 }) refl (lit≤ tt) tt

limit_after : KeepsToLimit encoder_first (decoder_after encoder_first 2 []) 4 2
limit_after =
    limit_of_one encoder_first (decoder_after encoder_first 2 []) (record { stream = 4; required = 2 }) refl (lit≤ tt) tt

pub appendix_pieces : AppendixPiecesAreLawful
appendix_pieces many = (
  piece (decoder_after encoder_begun 0 []) (take many bytes_first) post_base_begins (0x03 ∷ [])
      (0x81 ∷ 0x10 ∷ 0x11 ∷ []) false refl refl (before many) limit_before refl (λ e. cc),
  piece (decoder_after encoder_begun 0 []) (take many bytes_first) post_base_cut (0x81 ∷ []) (0x10 ∷ 0x11 ∷ []) false refl
      refl (before many) limit_before refl (λ e. cc),
  piece waits_on_4 (take many bytes_first) post_base_opened (0x10 ∷ []) (0x11 ∷ []) false refl refl (while_waiting many)
      (limit_of_one encoder_first waits_on_4 (record { stream = 4; required = 2 }) refl (lit≤ tt) ((0, refl), tt)) refl
      (λ e. cc),
  piece (decoder_after encoder_first 2 []) (take many bytes_first) post_base_opened (0x10 ∷ []) (0x11 ∷ []) false refl refl
      (after many) limit_after refl (λ e. cc),
  piece (decoder_after encoder_first 2 []) (take many bytes_first) post_base_behind (0x11 ∷ []) [] true refl refl
      (after many) limit_after refl (λ e. refl),
)
