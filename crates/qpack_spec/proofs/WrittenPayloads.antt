-- The written payload means its text, and is the only one that does; the laws of payloads.
use Rattle.std.proofs.Common.{◌≡◌, ℕ, ◌+◌, ◌-◌, ◌*◌, ◌/◌, List, [], ◌∷◌, length, Result, Ok}
use Rattle.std.proofs.Common.{Err, refl, sym, ap, ◌∙◌, arith, inl, inr, ◌⊎◌}
use Rattle.std.proofs.lemmas.List.Concat.{flat_map-cons}
use Rattle.qpack_spec.specs.Huffman.{HuffmanFault, bytes_by_length, bits_of_bytes, AreBytes, code_length, code_of}
use Rattle.qpack_spec.specs.Huffman.{code_at, bits_of_text, PayloadMeans, PayloadMeansNothing, payload_of, text_of_bits}
use Rattle.qpack_spec.specs.HuffmanLaws.{NoCodeBeginsAnother, NoCodeBeginsEos, PayloadsHaveOneText, TextsHaveOnePayload}
use Rattle.qpack_spec.specs.HuffmanLaws.{WrittenPayloadsMeanTheirText, PayloadsMeanOrDont, PayloadsDontMeanBoth}
use Rattle.qpack_spec.specs.HuffmanLaws.{PayloadsHaveOneFault, ReadingFindsTexts, ReadingFindsPayloadFaults}
use Rattle.qpack_spec.proofs.Results.{ok_is, ok_pair}
use Rattle.qpack_spec.proofs.Bits.{AreBits, bits_are, bits_join, bytes_bits, packed_bits, packed_bytes, packed_is}
use Rattle.qpack_spec.proofs.Bits.{packed_length}
use Rattle.qpack_spec.proofs.CodeTable.{ones_unhandled}
use Rattle.qpack_spec.proofs.Codes.{code_again}
use Rattle.qpack_spec.proofs.Payloads.{text_means, text_again}
use Rattle.qpack_spec.proofs.PayloadFaults.{fault_means, fault_again}

code_bits : (b : ℕ) → AreBits (code_of b)
unfolding code_of
code_bits b = bits_are (code_length b) _

text_bits : (text : List ℕ) → AreBits (bits_of_text text)
text_bits [] = tt
text_bits (b ∷ text) = rw flat_map-cons (bits_join (code_of b) (bits_of_text text) (code_bits b) (text_bits text))

-- a payload of bytes that means the text is the written one
pub payload_is : (payload text : List ℕ) → AreBytes payload → PayloadMeans payload text → payload ≡ payload_of text
unfolding payload_of
payload_is payload text ok m = packed_is payload (bits_of_text text) m.padding ok (text_bits text) m.few m.parts

pub payload_length : (text : List ℕ) → length (payload_of text) ≡ (length (bits_of_text text) + 7) / 8
unfolding payload_of
payload_length text = packed_length ((length (bits_of_text text) + 7) / 8) (bits_of_text text)

pub written_means : WrittenPayloadsMeanTheirText
unfolding payload_of
written_means text ok = (
  packed_bytes ((length (bits_of_text text) + 7) / 8) (bits_of_text text) (text_bits text),
  record {
    bytes = ok;
    padding = 8 * ((length (bits_of_text text) + 7) / 8) - length (bits_of_text text);
    few = omega arith;
    parts = packed_bits ((length (bits_of_text text) + 7) / 8) (bits_of_text text) (text_bits text) (omega arith);
  },
)

pub one_payload : TextsHaveOnePayload
one_payload text p q ok ok' m m' = payload_is p text ok m ∙ sym (payload_is q text ok' m')

pub one_text : PayloadsHaveOneText
one_text p t u m m' = ok_is t u (sym (text_again (bits_of_bytes p) t m) ∙ text_again (bits_of_bytes p) u m')

pub means_or_not : PayloadsMeanOrDont
means_or_not p = go (text_of_bits (bits_of_bytes p)) refl
  where
    go : (r : Result (List ℕ) HuffmanFault) → text_of_bits (bits_of_bytes p) ≡ r
        → ((text : List ℕ) × PayloadMeans p text) ⊎ ((fault : HuffmanFault) × PayloadMeansNothing p fault)
    go (Ok t) e = inl (t, text_means (bits_of_bytes p) t (bytes_bits p) e)
    go (Err f) e = inr (f, fault_means (bits_of_bytes p) f (bytes_bits p) e)

pub not_both : PayloadsDontMeanBoth
not_both p t f m n =
    absurd (let a = text_again (bits_of_bytes p) t m in let b = fault_again (bits_of_bytes p) f (bytes_bits p) n in cc)

same_err : (f g : HuffmanFault) (r : Result (List ℕ) HuffmanFault) → r ≡ Err f → r ≡ Err g → f ≡ g
same_err f g r p q = cc

pub one_fault : PayloadsHaveOneFault
one_fault p f g m n =
    same_err f g (text_of_bits (bits_of_bytes p)) (fault_again (bits_of_bytes p) f (bytes_bits p) m)
    (fault_again (bits_of_bytes p) g (bytes_bits p) n)

pub reads_texts : ReadingFindsTexts
reads_texts p t = (text_means (bits_of_bytes p) t (bytes_bits p), text_again (bits_of_bytes p) t)

pub reads_faults : ReadingFindsPayloadFaults
reads_faults p f = (fault_means (bits_of_bytes p) f (bytes_bits p), fault_again (bits_of_bytes p) f (bytes_bits p))

pub no_code_begins : NoCodeBeginsAnother
no_code_begins a b x y h h' e =
    (ok_pair a b x y (sym (code_again a x h) ∙ ap (code_at bytes_by_length 0 0) e ∙ code_again b y h')).0

pub no_code_eos : NoCodeBeginsEos
no_code_eos b x y h e =
    absurd (let a = ones_unhandled x in let c = ap (code_at bytes_by_length 0 0) e ∙ code_again b y h in cc)
