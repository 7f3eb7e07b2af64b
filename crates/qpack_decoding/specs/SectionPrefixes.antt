-- What the prefix of a field section says to a strict decoder (RFC 9204, section 4.5.1).
use Rattle.std.specs.Prelude.{◌≡◌, ℕ, ◌-◌, ◌<◌, ◌≤◌, if◌then◌else◌, ◌&&◌, nat_eq, nat_lt, List, length}
use Rattle.std.specs.Prelude.{Result, Ok, Err}
use Rattle.qpack_spec.specs.Form.{FormFault}
use Rattle.qpack_spec.specs.LengthLaws.{longest_section}
use Rattle.qpack_spec.specs.Prefix.{Prefix, PrefixFault, read_strict_prefix, prefix_at}
use Rattle.qpack_spec.specs.Reading.{BadForm, BadPrefix}
use Rattle.qpack_spec.specs.StrictReading.{SectionFault, InPrefix, CountAtZero, StrictReading, Blocked, Refused}
use Rattle.qpack_spec.specs.StrictReading.{strict_reading}
use Rattle.qpack_spec.specs.Window.{Window, maximum_capacity, window_insert_count}
use Rattle.qpack_decoding.specs.Sections.{TellsFault}
use Rattle.qpack_decoding.specs.declared.section.SectionError.{SectionError}
use Rattle.qpack_decoding.specs.declared.section.SectionPrefix.{SectionPrefix}

-- a fault of the prefix is the section's
abbrev pub or_in_prefix : Result (ℕ × ℕ) PrefixFault → Result (ℕ × ℕ) SectionFault
or_in_prefix (Ok numbers) = Ok numbers
or_in_prefix (Err e) = Err (InPrefix (BadPrefix e))

-- the required insert count and the base of a prefix
abbrev pub strict_numbers : Window → Prefix → Result (ℕ × ℕ) SectionFault
strict_numbers w p =
    let maximum = maximum_capacity w.agreed_max w.capacity in
    if nat_eq maximum 0 && nat_lt 0 p.count then Err CountAtZero
    else or_in_prefix (read_strict_prefix (window_insert_count w) maximum p)

-- the two numbers with how many bytes the prefix takes
abbrev pub with_length : ℕ → Result (ℕ × ℕ) SectionFault → Result (ℕ × ℕ × ℕ) SectionFault
with_length taken (Ok numbers) = Ok (numbers.0, numbers.1, taken)
with_length taken (Err fault) = Err fault

-- what a prefix at the front says, or why there is none
abbrev pub prefix_behind : Window → ℕ → Result (Prefix × List ℕ) FormFault → Result (ℕ × ℕ × ℕ) SectionFault
prefix_behind w section (Err e) = Err (InPrefix (BadForm e))
prefix_behind w section (Ok p) = with_length (section - length p.1) (strict_numbers w p.0)

-- the required insert count, the base and the length of the prefix that the bytes begin with
unfoldable pub strict_prefix : Window → List ℕ → Result (ℕ × ℕ × ℕ) SectionFault
strict_prefix w bytes = prefix_behind w (length bytes) (prefix_at bytes)

-- the two numbers of a prefix were returned, or why it is refused
abbrev pub GivesNumbers : Result (ℕ × ℕ) SectionError → Result (ℕ × ℕ) SectionFault → Type 0
GivesNumbers (Ok numbers) read = read ≡ Ok numbers
GivesNumbers (Err e) read = TellsFault e read

-- what a prefix says was returned, or why it is refused
abbrev pub GivesPrefix : Result SectionPrefix SectionError → Result (ℕ × ℕ × ℕ) SectionFault → Type 0
GivesPrefix (Ok p) read = read ≡ Ok (p.required, p.base, p.length)
GivesPrefix (Err e) read = TellsFault e read

-- ---- what is promised

-- the reading of a section whose prefix says this: it is refused for the prefix; or it waits if it requires more than was
-- received, and else does not
abbrev pub WaitsAs : ℕ → Result (ℕ × ℕ × ℕ) SectionFault → StrictReading → Type 0
WaitsAs received (Err fault) reading = reading ≡ Refused fault
WaitsAs received (Ok p) reading =
    (received < p.0 → reading ≡ Blocked p.0) × (p.0 ≤ received → (required : ℕ) → reading ≡ Blocked required → ⊥)

abbrev pub PrefixSaysWhatWaits : Type 0
PrefixSaysWhatWaits =
    (w : Window) (limit : ℕ) (bytes : List ℕ) → length bytes ≤ longest_section limit
    → WaitsAs (window_insert_count w) (strict_prefix w bytes) (strict_reading w limit bytes)
