-- Why the program prints no output, and how that is reported.
use Rattle.std.specs.Prelude.{◌≡◌, ℕ, ◌<◌, List, [], ◌++◌, codes, length, take, Option, ◌⊎◌, string_bytes}
use Rattle.std.specs.Prelude.{Result, OnOk, OnErr}
use Rattle.std.specs.Fmt.{decimal}
use Rattle.std.specs.Io.KnownBytes.{Appends}
use Rattle.qpk.specs.ErrorWords.{decoder_words, recording_words}
use Rattle.qpk.specs.Usage.{usage_line, usage_of}
use Rattle.qpk.specs.declared.usage.Topic.{Topic}
use Rattle.qpk.specs.declared.text.Fault.{Fault}
use Rattle.qpk.specs.declared.text.Fault.TheVariants.{NoTab, BadEvent, NotHexadecimal, Refused, Capacity, Limit}
use Rattle.qpk.specs.declared.text.Fault.TheVariants.{Memory, Recording, Told}
use Rattle.qpk.specs.declared.refusal.Refusal.{Refusal}
use Rattle.qpk.specs.declared.refusal.Refusal.TheVariants as refusal
use Rattle.qpk.specs.declared.refusal.Wanted.{Wanted}
use Rattle.qpk.specs.declared.refusal.Wanted.TheVariants as wanted

-- the text of a fault
abbrev pub fault_text : Fault → List ℕ
fault_text (NoTab n) = codes "line " ++ decimal n ++ codes ": no tab"
fault_text (BadEvent n) = codes "line " ++ decimal n ++ codes ": bad event"
fault_text NotHexadecimal = codes "not hexadecimal"
fault_text (Refused e) = codes "refused: " ++ decoder_words e
fault_text Capacity = codes "refused: capacity"
fault_text Limit = codes "refused: limit"
fault_text (Recording e) = recording_words e
fault_text (Told reason) = string_bytes reason
fault_text Memory = codes "refused: memory"

-- the line that reports it
abbrev pub fault_line : Fault → List ℕ
fault_line fault = codes "qpk: " ++ fault_text fault ++ codes "\n"

-- what a word is not
abbrev pub wanted_words : Wanted → List ℕ
wanted_words wanted.Option = codes "not an option here"
wanted_words wanted.Acknowledged = codes "neither 0 nor 1"
wanted_words wanted.Command = codes "not a command"
wanted_words wanted.Nothing = codes "one word too many"
wanted_words w = codes "not a whole number below 2^64"

-- the name of a word in the lines of how a command is called
abbrev pub name_of : Wanted → List ℕ
name_of wanted.Option = codes "an option"
name_of wanted.Number = codes "a number"
name_of wanted.Acknowledged = codes "ACK, which is 0 or 1,"
name_of wanted.Command = codes "COMMAND"
name_of wanted.Nothing = codes "nothing"
name_of wanted.Capacity = codes "CAPACITY"
name_of wanted.Blocked = codes "BLOCKED"
name_of wanted.Limit = codes "LIMIT"
name_of wanted.MaxCapacity = codes "the number after --max-capacity"
name_of wanted.MaxBlocked = codes "the number after --max-blocked"

-- how a command is called, and that a word is missing
abbrev pub missing_line : Topic → Wanted → List ℕ
missing_line t w = usage_of t ++ codes "qpk: " ++ name_of w ++ codes " is missing\n"

-- how a command is called, and a word at fault
abbrev pub bad_word_line : Topic → Wanted → List ℕ → List ℕ
bad_word_line t w word = usage_of t ++ codes "qpk: \"" ++ word ++ codes "\" is " ++ wanted_words w ++ codes "\n"

-- the line that reports a refusal; for words of a command beyond the usage's four it says how the command is called; none
-- if nobody reads the output any more
abbrev pub refusal_line : Refusal → List ℕ
refusal_line refusal.Usage = usage_line
refusal_line (refusal.Missing t w) = missing_line t w
refusal_line (refusal.BadWord t w word) = bad_word_line t w (string_bytes word)
refusal_line refusal.Input = codes "qpk: refused: input\n"
refusal_line refusal.Output = codes "qpk: refused: output\n"
refusal_line refusal.Unread = []
refusal_line (refusal.Fault fault) = fault_line fault

-- its line may ask for memory: it has a word, or a fault
abbrev pub MayWantMemory : Refusal → Type 0
MayWantMemory refusal.Usage = ⊥
MayWantMemory (refusal.Missing t w) = Unit {0}
MayWantMemory (refusal.BadWord t w word) = Unit {0}
MayWantMemory refusal.Input = ⊥
MayWantMemory refusal.Output = ⊥
MayWantMemory refusal.Unread = ⊥
MayWantMemory (refusal.Fault fault) = Unit {0}

-- a writer gained a front of the bytes, not all of them, and nothing else
abbrev pub AppendsPart : Option (List ℕ) → Option (List ℕ) → List ℕ → Type 0
AppendsPart old new bytes = (n : ℕ) × (n < length bytes) × Appends old new (take n bytes)

-- a writer gained a line, or a part of it if a write failed
abbrev pub AppendsFront : Option (List ℕ) → Option (List ℕ) → List ℕ → Type 0
AppendsFront old new line = Appends old new line ⊎ AppendsPart old new line

-- a writer gained a line, or a part of it, not all, and then a write failed
abbrev pub Says : {A E : Type 0} → Result A E → Option (List ℕ) → Option (List ℕ) → List ℕ → Type 0
Says said old new line = OnOk said (Appends old new line) × OnErr said (AppendsPart old new line)

-- a refusal is reported as itself, or as out of memory if its line may ask for memory
abbrev pub TellsAs : Refusal → Refusal → Type 0
TellsAs r told = (told ≡ r) ⊎ (MayWantMemory r × (told ≡ refusal.Fault Memory))

-- this holds of the line that reports a refusal
abbrev pub TellsBy : Refusal → (List ℕ → Type 0) → Type 0
TellsBy r P = (told : Refusal) × TellsAs r told × P (refusal_line told)

-- a writer gained bytes, and nothing else
abbrev pub AppendsSome : Option (List ℕ) → Option (List ℕ) → Type 0
AppendsSome old new = (out : List ℕ) × Appends old new out

-- a writer gained a front of some bytes, not all of them, and nothing else
abbrev pub AppendsPartOfSome : Option (List ℕ) → Option (List ℕ) → Type 0
AppendsPartOfSome old new = (out : List ℕ) × AppendsPart old new out
