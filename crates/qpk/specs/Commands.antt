-- What the program's words ask for.
use Rattle.std.specs.Prelude.{◌≡◌, ℕ, ⊤, Bool, true, false, not, ◌&&◌, ◌||◌, List, [], ◌∷◌, take, codes, map, Option, None, Some}
use Rattle.std.specs.Prelude.{Result, Ok, Err, if◌then◌else◌, string_bytes, String}
use Rattle.qpack_spec.specs.Bytes.{◌>>=◌}
use Rattle.std.specs.Borrow.{Bor}
use Rattle.std.specs.Str.{bytes_eq}
use Rattle.qpk.specs.Scripts.{number_of}
use Rattle.qpk.specs.declared.command.Command.{Command}
use Rattle.qpk.specs.declared.command.Command.TheVariants as command
use Rattle.qpk.specs.declared.command.connection.ConnectionWords.{ConnectionWords}
use Rattle.qpk.specs.declared.command.explain.ExplainWords.{ExplainWords}
use Rattle.qpk.specs.declared.command.connection.Expected.{Expected}
use Rattle.qpk.specs.declared.command.connection.Expected.TheVariants as expected
use Rattle.qpk_view.specs.declared.explain.Kind.TheVariants as kind
use Rattle.qpk.specs.declared.usage.Topic.{Topic}
use Rattle.qpk.specs.declared.usage.Topic.TheVariants as topic
use Rattle.qpk.specs.declared.refusal.Refusal.{Refusal}
use Rattle.qpk.specs.declared.refusal.Refusal.TheVariants as refusal
use Rattle.qpk.specs.declared.refusal.Wanted.{Wanted}
use Rattle.qpk.specs.declared.refusal.Wanted.TheVariants as wanted
use Rattle.qpk.specs.declared.text.Fault.TheVariants.{Memory}

-- why words give no command: they give none of the usage's four; or they begin a command beyond these, and a word of it
-- is missing or is not what it should be
pub data WordsFault : Type 0 where
  OtherWords : WordsFault
  MissingWord : (topic : Topic) (wanted : Wanted) → WordsFault
  BadWord : (topic : Topic) (wanted : Wanted) (word : List ℕ) → WordsFault

-- ---- words of the usage

-- a number that was read of a word, if it says one
abbrev pub or_other_words : Option ℕ → Result ℕ WordsFault
or_other_words None = Err OtherWords
or_other_words (Some n) = Ok n

-- one number
abbrev pub only_number : List (List ℕ) → Result ℕ WordsFault
only_number [] = Err OtherWords
only_number (word ∷ []) = or_other_words (number_of word)
only_number (word ∷ more ∷ words) = Err OtherWords

-- two numbers
abbrev pub only_numbers : List (List ℕ) → Result (ℕ × ℕ) WordsFault
only_numbers [] = Err OtherWords
only_numbers (first ∷ []) = Err OtherWords
only_numbers (first ∷ second ∷ []) =
    or_other_words (number_of first) >>= λ m. or_other_words (number_of second) >>= λ n. Ok (m, n)
only_numbers (first ∷ second ∷ more ∷ words) = Err OtherWords

-- ---- words of commands beyond the usage's four

-- a word begins as an option does
abbrev pub is_option : List ℕ → Bool
is_option word = bytes_eq (take 2 word) (codes "--")

-- a word asks for help
abbrev pub is_help : List ℕ → Bool
is_help word = bytes_eq word (codes "--help") || bytes_eq word (codes "-h")

-- the first word begins as no option does
abbrev pub no_option : Topic → List (List ℕ) → Result ⊤ WordsFault
no_option t [] = Ok tt
no_option t (word ∷ words) = if is_option word then Err (BadWord t wanted.Option word) else Ok tt

-- no word is left
abbrev pub no_more : Topic → List (List ℕ) → Result ⊤ WordsFault
no_more t [] = Ok tt
no_more t (word ∷ words) = Err (BadWord t wanted.Nothing word)

-- a number that was read of a word, if it says one
abbrev pub or_no_number : Topic → List ℕ → Option ℕ → Result ℕ WordsFault
or_no_number t word None = Err (BadWord t wanted.Number word)
or_no_number t word (Some n) = Ok n

-- the number that a word says
abbrev pub read_number : Topic → List ℕ → Result ℕ WordsFault
read_number t word = or_no_number t word (number_of word)

-- the number that the first word says, and the other words
abbrev pub at_number : Topic → Wanted → List (List ℕ) → Result (ℕ × List (List ℕ)) WordsFault
at_number t w [] = Err (MissingWord t w)
at_number t w (word ∷ words) = read_number t word >>= λ n. Ok (n, words)

-- a limit alone
abbrev pub one_number : List (List ℕ) → Result ℕ WordsFault
one_number words = no_option topic.Decode words >>= λ _. at_number topic.Decode wanted.Limit words >>= λ r.
    no_more topic.Decode r.1 >>= λ _. Ok r.0

-- the help on a command, alone
abbrev pub help_alone : Topic → List (List ℕ) → Result Command WordsFault
help_alone t words = no_more t words >>= λ _. Ok (command.Help t)

-- the version, alone
abbrev pub version_alone : List (List ℕ) → Result Command WordsFault
version_alone words = no_more topic.All words >>= λ _. Ok command.Version

-- the command of a name
abbrev pub topic_of : List ℕ → Result Topic WordsFault
topic_of name =
    if bytes_eq name (codes "encode") then Ok topic.Encode
    else if bytes_eq name (codes "decode") then Ok topic.Decode
    else if bytes_eq name (codes "inspect") then Ok topic.Inspect
    else if bytes_eq name (codes "run") then Ok topic.Run
    else if bytes_eq name (codes "show") then Ok topic.Show
    else if bytes_eq name (codes "explain") then Ok topic.Explain
    else if bytes_eq name (codes "check") then Ok topic.Check
    else Err (BadWord topic.All wanted.Command name)

-- what the words after `help` ask for
abbrev pub help_of : List (List ℕ) → Result Command WordsFault
help_of [] = Ok (command.Help topic.All)
help_of (name ∷ words) = no_more topic.All words >>= λ _. topic_of name >>= λ t. Ok (command.Help t)

-- whether blocks are acknowledged, which a word says
abbrev pub read_acknowledged : List ℕ → Result Bool WordsFault
read_acknowledged word =
    if bytes_eq word (codes "0") then Ok false
    else if bytes_eq word (codes "1") then Ok true
    else Err (BadWord topic.Encode wanted.Acknowledged word)

-- the last word says whether blocks are acknowledged
abbrev pub at_acknowledged : List (List ℕ) → Result Bool WordsFault
at_acknowledged [] = Err (MissingWord topic.Encode wanted.Acknowledged)
at_acknowledged (word ∷ words) = read_acknowledged word >>= λ a. no_more topic.Encode words >>= λ _. Ok a

-- what the words after `encode --qif` ask for: two numbers, and 0 or 1
abbrev pub lists_of : List (List ℕ) → Result Command WordsFault
lists_of words = no_option topic.Encode words
    >>= λ _. at_number topic.Encode wanted.Capacity words
    >>= λ m. at_number topic.Encode wanted.Blocked m.1
    >>= λ n. at_acknowledged n.1
    >>= λ a. Ok (command.EncodeLists (record { capacity = m.0; blocked = n.0; acknowledged = a }))

-- what the words after `encode` ask for
abbrev pub encode_of : List (List ℕ) → Result Command WordsFault
encode_of [] = Ok command.Encode
encode_of (word ∷ words) =
    if bytes_eq word (codes "--qif") then lists_of words
    else if is_help word then help_alone topic.Encode words
    else Err OtherWords

-- what the words after `decode --qif` ask for: two numbers
abbrev pub records_of : List (List ℕ) → Result Command WordsFault
records_of words = no_option topic.Decode words
    >>= λ _. at_number topic.Decode wanted.Capacity words
    >>= λ m. at_number topic.Decode wanted.Blocked m.1
    >>= λ n. no_more topic.Decode n.1
    >>= λ _. Ok (command.DecodeRecords (record { capacity = m.0; blocked = n.0 }))

-- what the words after `decode` ask for
abbrev pub decode_of : List (List ℕ) → Result Command WordsFault
decode_of [] = Err OtherWords
decode_of (word ∷ words) =
    if bytes_eq word (codes "--hex") then (one_number words >>= λ limit. Ok (command.DecodeHex limit))
    else if bytes_eq word (codes "--json") then (one_number words >>= λ limit. Ok (command.DecodeJson limit))
    else if bytes_eq word (codes "--qif") then records_of words
    else if is_help word then help_alone topic.Decode words
    else (only_number (word ∷ words) >>= λ limit. Ok (command.Decode limit))

-- what the words after `inspect` ask for
abbrev pub inspect_of : List (List ℕ) → Result Command WordsFault
inspect_of [] = Err OtherWords
inspect_of (word ∷ words) =
    if is_help word then help_alone topic.Inspect words
    else (only_number (word ∷ words) >>= λ n. Ok (command.Inspect n))

-- what the words after `run` ask for
abbrev pub run_of : List (List ℕ) → Result Command WordsFault
run_of [] = Err OtherWords
run_of (word ∷ words) =
    if is_help word then help_alone topic.Run words
    else (only_numbers (word ∷ words) >>= λ p. Ok (command.Run p.0 p.1))

-- ---- words of `show` and `check`

-- what they say if there are none
abbrev pub connection_words : Bool → ConnectionWords
connection_words is_check =
    record {
      is_check = is_check;
      table = false;
      json = false;
      qif = false;
      max_capacity = 4096;
      max_blocked = 100;
      expected = expected.None;
    }

abbrev pub topic_for : Bool → Topic
topic_for is_check = if is_check then topic.Check else topic.Show

-- one more option
abbrev pub with_connection_option : ConnectionWords → List ℕ → Result ConnectionWords WordsFault
with_connection_option w word =
    if bytes_eq word (codes "-") then Ok w
    else if bytes_eq word (codes "--json") then Ok (record w { json = true })
    else if bytes_eq word (codes "--qif") then Ok (record w { qif = true })
    else if bytes_eq word (codes "--max-capacity") then Ok (record w { expected = expected.MaxCapacity })
    else if bytes_eq word (codes "--max-blocked") then Ok (record w { expected = expected.MaxBlocked })
    else if bytes_eq word (codes "--table") && not w.is_check then Ok (record w { table = true })
    else Err (BadWord (topic_for w.is_check) wanted.Option word)

-- one more word, which is a number if one is expected
abbrev pub with_expected : Expected → ConnectionWords → List ℕ → Result ConnectionWords WordsFault
with_expected expected.MaxCapacity w word =
    read_number (topic_for w.is_check) word >>= λ n. Ok (record w { max_capacity = n; expected = expected.None })
with_expected expected.MaxBlocked w word =
    read_number (topic_for w.is_check) word >>= λ n. Ok (record w { max_blocked = n; expected = expected.None })
with_expected expected.None w word = with_connection_option w word

abbrev pub with_connection_word : ConnectionWords → List ℕ → Result ConnectionWords WordsFault
with_connection_word w word = with_expected w.expected w word

-- words in turn
abbrev pub with_connection_words : ConnectionWords → List (List ℕ) → Result ConnectionWords WordsFault
with_connection_words w [] = Ok w
with_connection_words w (word ∷ words) = with_connection_word w word >>= λ v. with_connection_words v words

-- the command, if no number is missing
abbrev pub finished_with : Expected → ConnectionWords → Result Command WordsFault
finished_with expected.MaxCapacity w = Err (MissingWord (topic_for w.is_check) wanted.MaxCapacity)
finished_with expected.MaxBlocked w = Err (MissingWord (topic_for w.is_check) wanted.MaxBlocked)
finished_with expected.None w =
    if w.is_check then Ok (command.Check (record {
      json = w.json;
      qif = w.qif;
      settings = record { max_capacity = w.max_capacity; max_blocked = w.max_blocked };
    }))
    else Ok (command.Show (record {
      table = w.table;
      json = w.json;
      qif = w.qif;
      settings = record { max_capacity = w.max_capacity; max_blocked = w.max_blocked };
    }))

abbrev pub finished_connection : ConnectionWords → Result Command WordsFault
finished_connection w = finished_with w.expected w

-- what the words ask for
abbrev pub connection_asked : Bool → List (List ℕ) → Result Command WordsFault
connection_asked is_check words =
    with_connection_words (connection_words is_check) words >>= λ w. finished_connection w

-- the command of `show` or `check`, or help
abbrev pub connection_of : Bool → List (List ℕ) → Result Command WordsFault
connection_of is_check [] = connection_asked is_check []
connection_of is_check (word ∷ words) =
    if is_help word then help_alone (topic_for is_check) words
    else connection_asked is_check (word ∷ words)

-- ---- words of `explain`

-- what they say if there are none
abbrev pub explain_words : ExplainWords
explain_words =
    record { kind = kind.Section; max_capacity = 4096; expects_capacity = false; has_bytes = false }

-- one more word
abbrev pub with_explain_word : ExplainWords → List ℕ → Result ExplainWords WordsFault
with_explain_word w word =
    if w.expects_capacity
    then (read_number topic.Explain word >>= λ n. Ok (record w { max_capacity = n; expects_capacity = false }))
    else if bytes_eq word (codes "-") then Ok w
    else if bytes_eq word (codes "--max-capacity") then Ok (record w { expects_capacity = true })
    else if bytes_eq word (codes "--encoder-stream") then Ok (record w { kind = kind.EncoderStream })
    else if bytes_eq word (codes "--decoder-stream") then Ok (record w { kind = kind.DecoderStream })
    else if is_option word then Err (BadWord topic.Explain wanted.Option word)
    else Ok (record w { has_bytes = true })

-- words in turn
abbrev pub with_explain_words : ExplainWords → List (List ℕ) → Result ExplainWords WordsFault
with_explain_words w [] = Ok w
with_explain_words w (word ∷ words) = with_explain_word w word >>= λ v. with_explain_words v words

-- the command, if no number is missing
abbrev pub finished_explain : ExplainWords → Result Command WordsFault
finished_explain w =
    if w.expects_capacity then Err (MissingWord topic.Explain wanted.MaxCapacity)
    else if w.has_bytes then Ok (command.ExplainWords (record { kind = w.kind; max_capacity = w.max_capacity }))
    else Ok (command.ExplainInput (record { kind = w.kind; max_capacity = w.max_capacity }))

-- what the words ask for
abbrev pub explain_asked : List (List ℕ) → Result Command WordsFault
explain_asked words = with_explain_words explain_words words >>= λ w. finished_explain w

-- the command of `explain`, or help
abbrev pub explain_of : List (List ℕ) → Result Command WordsFault
explain_of [] = explain_asked []
explain_of (word ∷ words) =
    if is_help word then help_alone topic.Explain words else explain_asked (word ∷ words)

-- ---- all words

-- what the words after a command's name ask for
abbrev pub command_named : List ℕ → List (List ℕ) → Result Command WordsFault
command_named name words =
    if is_help name || bytes_eq name (codes "help") then help_of words
    else if bytes_eq name (codes "--version") then version_alone words
    else if bytes_eq name (codes "encode") then encode_of words
    else if bytes_eq name (codes "decode") then decode_of words
    else if bytes_eq name (codes "inspect") then inspect_of words
    else if bytes_eq name (codes "run") then run_of words
    else if bytes_eq name (codes "show") then connection_of false words
    else if bytes_eq name (codes "check") then connection_of true words
    else if bytes_eq name (codes "explain") then explain_of words
    else Err OtherWords

-- what words ask for
abbrev pub command_of : List (List ℕ) → Result Command WordsFault
command_of [] = Err OtherWords
command_of (name ∷ words) = command_named name words

-- a fault whose line takes memory
abbrev pub KeepsWord : WordsFault → Type 0
KeepsWord OtherWords = ⊥
KeepsWord (MissingWord t w) = Unit {0}
KeepsWord (BadWord t w word) = Unit {0}

-- a refusal reports why words give no command, or that there is no memory to keep the word at fault
abbrev pub TellsWords : Refusal → WordsFault → Type 0
TellsWords refusal.Usage fault = fault ≡ OtherWords
TellsWords (refusal.Missing t w) fault = fault ≡ MissingWord t w
TellsWords (refusal.BadWord t w word) fault = fault ≡ BadWord t w (string_bytes word)
TellsWords refusal.Input fault = ⊥
TellsWords refusal.Output fault = ⊥
TellsWords refusal.Unread fault = ⊥
TellsWords (refusal.Fault f) fault = (f ≡ Memory) × KeepsWord fault

-- what was read of words, or a refusal that reports why they give no command
abbrev pub ReadsWords : {A : Type 0} → Result A Refusal → Result A WordsFault → Type 0
ReadsWords (Ok x) read = read ≡ Ok x
ReadsWords (Err r) read = (fault : WordsFault) × (read ≡ Err fault) × TellsWords r fault

-- a number was read, and the words after it are left; or a refusal reports why not
abbrev pub SplitsNumber : {Z : Type 0} → Result (ℕ × Bor (List (String Z))) Refusal
    → Result (ℕ × List (List ℕ)) WordsFault → Type 0
SplitsNumber (Ok r) read = read ≡ Ok (r.0, map string_bytes r.1.now)
SplitsNumber (Err r) read = (fault : WordsFault) × (read ≡ Err fault) × TellsWords r fault
