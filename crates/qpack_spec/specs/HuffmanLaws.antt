-- What every reader and writer of coded strings relies on, as statements; the crate's law functions promise them.
use Rattle.std.specs.Prelude.{◌≡◌, ℕ, ◌<◌, ◌⊎◌, ◌↔◌, List, ◌++◌, Ok, Err}
use Rattle.qpack_spec.specs.Huffman.{HuffmanFault, AreBytes, bits_of_bytes, ones, code_of, PayloadMeans}
use Rattle.qpack_spec.specs.Huffman.{PayloadMeansNothing, payload_of, text_of_bits}

-- no code of a byte begins another's
abbrev pub NoCodeBeginsAnother : Type 0
NoCodeBeginsAnother = (a b : ℕ) (x y : List ℕ) → a < 256 → b < 256 → code_of a ++ x ≡ code_of b ++ y → a ≡ b

-- the thirty ones that end no text, EOS, begin with no code
abbrev pub NoCodeBeginsEos : Type 0
NoCodeBeginsEos = (b : ℕ) (x y : List ℕ) → b < 256 → ones 30 ++ x ≡ code_of b ++ y → ⊥

-- a payload means one text at most
abbrev pub PayloadsHaveOneText : Type 0
PayloadsHaveOneText = (payload text other : List ℕ) → PayloadMeans payload text → PayloadMeans payload other
    → text ≡ other

-- a text has one payload at most
abbrev pub TextsHaveOnePayload : Type 0
TextsHaveOnePayload =
    (text payload other : List ℕ) → AreBytes payload → AreBytes other → PayloadMeans payload text
    → PayloadMeans other text → payload ≡ other

-- the written payload of a text means it
abbrev pub WrittenPayloadsMeanTheirText : Type 0
WrittenPayloadsMeanTheirText =
    (text : List ℕ) → AreBytes text → AreBytes (payload_of text) × PayloadMeans (payload_of text) text

-- each payload means a text or nothing
abbrev pub PayloadsMeanOrDont : Type 0
PayloadsMeanOrDont =
    (payload : List ℕ) → ((text : List ℕ) × PayloadMeans payload text)
    ⊎ ((fault : HuffmanFault) × PayloadMeansNothing payload fault)

-- no payload means both a text and nothing
abbrev pub PayloadsDontMeanBoth : Type 0
PayloadsDontMeanBoth = (payload text : List ℕ) (fault : HuffmanFault) → PayloadMeans payload text
    → PayloadMeansNothing payload fault → ⊥

-- a malformed payload has one fault
abbrev pub PayloadsHaveOneFault : Type 0
PayloadsHaveOneFault = (payload : List ℕ) (fault other : HuffmanFault) → PayloadMeansNothing payload fault
    → PayloadMeansNothing payload other → fault ≡ other

-- reading from left to right finds exactly the text that a payload means
abbrev pub ReadingFindsTexts : Type 0
ReadingFindsTexts =
    (payload text : List ℕ) → (text_of_bits (bits_of_bytes payload) ≡ Ok text) ↔ PayloadMeans payload text

-- each fault is found exactly if the payload is malformed by it
abbrev pub ReadingFindsPayloadFaults : Type 0
ReadingFindsPayloadFaults =
    (payload : List ℕ) (fault : HuffmanFault)
    → (text_of_bits (bits_of_bytes payload) ≡ Err fault) ↔ PayloadMeansNothing payload fault
