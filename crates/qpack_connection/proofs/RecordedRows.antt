-- What other encoders wrote is lawful.
use Rattle.std.proofs.Common.{ℕ, refl, lit≤}
use Rattle.qpack_spec.specs.Instruction.{encoder_instruction_form, SpellsEncoderInstruction}
use Rattle.qpack_rules.specs.LawfulEncoders.{IsLawfulEncoder, IsLawfulSection}
use Rattle.qpack_spec.specs.Stream.{SpellsAll}
use Rattle.qpack_spec.specs.StrictReading.{within_size, strict_field, strict_line_at, strict_lines_at, strict_reading}
use Rattle.qpack_spec.specs.Window.{Inserts, Resizes}
use Rattle.qpack_connection.specs.RecordedRows.{OtherEncodersAreLawful}
use Rattle.qpack_connection.specs.RecordedRows.{firefox_sent, firefox_bytes, firefox_made, firefox_1, firefox_2}
use Rattle.qpack_connection.specs.RecordedRows.{firefox_section, firefox_fields}
use Rattle.qpack_connection.specs.RecordedRows.{firefox_3, firefox_4, chromium_sent, chromium_bytes, chromium_made}
use Rattle.qpack_connection.specs.RecordedRows.{chromium_section, chromium_fields, chromium_1, chromium_2, chromium_3}
use Rattle.qpack_connection.specs.RecordedRows.{chromium_4, chromium_5, chromium_6, chromium_7, chromium_8}
use Rattle.qpack_connection.specs.RecordedRows.{chromium_9, chromium_10, chromium_11, chromium_12, chromium_13}
use Rattle.qpack_connection.specs.RecordedRows.{chromium_14, nghttp3_sent, nghttp3_bytes, nghttp3_made, nghttp3_1}
use Rattle.qpack_connection.specs.RecordedRows.{nghttp3_2, nghttp3_3, nghttp3_4, nghttp3_5, nghttp3_6}
use Rattle.qpack_connection.specs.RecordedRows.{nghttp3_7, nghttp3_8, nghttp3_9, nghttp3_10}
use Rattle.qpack_connection.proofs.LawfulRows.{rows, read_spelled}
use Rattle.qpack_connection.proofs.LawfulVerdicts.{read_lawful}

-- all that has to unfold where a section is read
unfoldable reads : ℕ
unfolding strict_reading strict_lines_at strict_line_at strict_field within_size
reads = 0

-- ---- the encoder streams

firefox_lawful : IsLawfulEncoder 4096 0 firefox_sent firefox_made
unfolding rows
firefox_lawful =
    record {
      taken = refl;
      makes = (Resizes 4096, refl, (Inserts firefox_1, refl, (Inserts firefox_2, refl, (Inserts firefox_3, refl, (Inserts firefox_4, refl, refl)))));
      evicted = lit≤ tt;
    }

firefox_spelled : SpellsAll SpellsEncoderInstruction firefox_bytes firefox_sent
unfolding rows
firefox_spelled =
    read_spelled encoder_instruction_form firefox_bytes firefox_sent (_, refl, (_, refl, (_, refl, (_, refl, (_, refl, refl)))))

chromium_lawful : IsLawfulEncoder 4096 0 chromium_sent chromium_made
unfolding rows
chromium_lawful =
    record {
      taken = refl;
      makes = (Resizes 4096, refl, (Inserts chromium_1, refl, (Inserts chromium_2, refl, (Inserts chromium_3, refl, (Inserts chromium_4, refl, (Inserts chromium_5, refl, (Inserts chromium_6, refl, (Inserts chromium_7, refl, (Inserts chromium_8, refl, (Inserts chromium_9, refl, (Inserts chromium_10, refl, (Inserts chromium_11, refl, (Inserts chromium_12, refl, (Inserts chromium_13, refl, (Inserts chromium_14, refl, refl)))))))))))))));
      evicted = lit≤ tt;
    }

chromium_spelled : SpellsAll SpellsEncoderInstruction chromium_bytes chromium_sent
unfolding rows
chromium_spelled =
    read_spelled encoder_instruction_form chromium_bytes chromium_sent (_, refl, (_, refl, (_, refl, (_, refl, (_, refl, (_, refl, (_, refl, (_, refl, (_, refl, (_, refl, (_, refl, (_, refl, (_, refl, (_, refl, (_, refl, refl)))))))))))))))

nghttp3_lawful : IsLawfulEncoder 256 7 nghttp3_sent nghttp3_made
unfolding rows
nghttp3_lawful =
    record {
      taken = refl;
      makes = (Resizes 256, refl, (Inserts nghttp3_1, refl, (Inserts nghttp3_2, refl, (Inserts nghttp3_3, refl, (Inserts nghttp3_4, refl, (Inserts nghttp3_5, refl, (Inserts nghttp3_6, refl, (Inserts nghttp3_7, refl, (Inserts nghttp3_8, refl, (Inserts nghttp3_9, refl, (Inserts nghttp3_10, refl, refl)))))))))));
      evicted = lit≤ tt;
    }

nghttp3_spelled : SpellsAll SpellsEncoderInstruction nghttp3_bytes nghttp3_sent
unfolding rows
nghttp3_spelled =
    read_spelled encoder_instruction_form nghttp3_bytes nghttp3_sent (_, refl, (_, refl, (_, refl, (_, refl, (_, refl, (_, refl, (_, refl, (_, refl, (_, refl, (_, refl, (_, refl, refl)))))))))))

-- ---- the sections, as a strict decoder reads them

firefox_section_lawful : IsLawfulSection 4096 firefox_made 4 firefox_fields firefox_section
unfolding rows reads
firefox_section_lawful =
    read_lawful 4096 0 65536 4 firefox_sent firefox_made firefox_fields firefox_section firefox_lawful refl
    (λ _. lit≤ tt)

chromium_section_lawful : IsLawfulSection 4096 chromium_made 14 chromium_fields chromium_section
unfolding rows reads
chromium_section_lawful =
    read_lawful 4096 0 65536 14 chromium_sent chromium_made chromium_fields chromium_section chromium_lawful refl
    (λ _. lit≤ tt)

pub others_lawful : OtherEncodersAreLawful
others_lawful = (
  firefox_lawful,
  firefox_spelled,
  firefox_section_lawful,
  chromium_lawful,
  chromium_spelled,
  chromium_section_lawful,
  nghttp3_lawful,
  nghttp3_spelled,
)
