-- What an event of a script prints.
use Rattle.std.specs.Prelude.{ℕ, List, ◌++◌, length, codes, Ok, Err}
use Rattle.std.specs.Fmt.{decimal}
use Rattle.qpack_spec.specs.Field.{Field}
use Rattle.qpack_codec.specs.Stateless.{fields_in}
use Rattle.qpack_codec.specs.declared.error.DecoderError.{DecoderError}
use Rattle.qpack_codec.specs.declared.error.DecoderError.TheVariants.{MissingRefs}
use Rattle.h3_qpack.specs.declared.session.Outcome.{Outcome}
use Rattle.h3_qpack.specs.declared.session.Outcome.TheVariants.{Encoded, Decoded, Delivered, Heard, Acknowledged}
use Rattle.h3_qpack.specs.declared.session.Outcome.TheVariants.{Cancelled, CapacitySet, Skipped}
use Rattle.qpk.specs.ErrorWords.{decoder_words, encoder_words, memory_words, refused_text}
use Rattle.qpk.specs.FieldText.{text_of_fields}
use Rattle.qpk.specs.Inspecting.{hexadecimal, index_text}

-- a word and the bytes that were added to a stream
abbrev pub added_text : List ℕ → List ℕ → List ℕ
added_text word added = word ++ codes " " ++ hexadecimal added ++ codes "\n"

-- a required insert count, the bytes of the block, and those that were added to the encoder stream
abbrev pub encoded_text : ℕ → List ℕ → List ℕ → List ℕ
encoded_text required block added =
    codes "encoded " ++ decimal required ++ codes " " ++ hexadecimal block ++ codes " " ++ hexadecimal added
    ++ codes "\n"

-- the sum of the fields' sizes (section 3.2.1), their number, and the fields, a line each
abbrev pub decoded_text : ℕ → List Field → List ℕ
decoded_text size fs =
    codes "decoded " ++ decimal size ++ codes " " ++ decimal (length fs) ++ codes "\n" ++ text_of_fields fs

-- how many insertions were ever received, and the bytes that were added to the decoder stream
abbrev pub received_text : ℕ → List ℕ → List ℕ
received_text total added = codes "received " ++ decimal total ++ codes " " ++ hexadecimal added ++ codes "\n"

-- what is printed of a block that was not decoded: how many insertions it waits for, or that it is refused
abbrev pub undecoded_text : DecoderError → List ℕ
undecoded_text (MissingRefs required) = index_text (codes "missing") required
undecoded_text e = refused_text (decoder_words e)

-- what is printed of an event, by its outcome, the bytes of the block that it made, if it made one, and the bytes that
-- it added to a stream; if it is refused, the words of its error
abbrev pub printed_outcome : Outcome → List ℕ → List ℕ → List ℕ
printed_outcome (Encoded (Ok required)) block added = encoded_text required block added
printed_outcome (Encoded (Err e)) block added = refused_text (encoder_words e)
printed_outcome (Decoded (Ok d)) block added = decoded_text d.mem_size (fields_in d.fields.items)
printed_outcome (Decoded (Err e)) block added = undecoded_text e
printed_outcome (Delivered (Ok total)) block added = received_text total added
printed_outcome (Delivered (Err e)) block added = refused_text (decoder_words e)
printed_outcome (Heard (Ok done)) block added = codes "heard\n"
printed_outcome (Heard (Err e)) block added = refused_text (encoder_words e)
printed_outcome (Acknowledged (Ok done)) block added = added_text (codes "acked") added
printed_outcome (Acknowledged (Err e)) block added = refused_text memory_words
printed_outcome (Cancelled (Ok done)) block added = added_text (codes "cancelled") added
printed_outcome (Cancelled (Err e)) block added = refused_text memory_words
printed_outcome (CapacitySet (Ok done)) block added = added_text (codes "capacity") added
printed_outcome (CapacitySet (Err e)) block added = refused_text (encoder_words e)
printed_outcome (Skipped reason) block added = index_text (codes "skipped") reason
