-- What every reader would ask of a table's window, as statements; the crate's law functions promise them.
use Rattle.std.specs.Prelude.{◌≡◌, ℕ, ◌*◌, ◌≤◌, ◌↔◌, List, [], ◌∷◌, ◌++◌, length, drop, Option, Result, Ok}
use Rattle.std.specs.List.{AllByRecursion}
use Rattle.qpack_spec.specs.Bytes.{◌>>=◌}
use Rattle.qpack_spec.specs.Field.{Field, total_size}
use Rattle.qpack_spec.specs.Instruction.{EncoderInstruction}
use Rattle.qpack_spec.specs.Instruction.{SetCapacity}
use Rattle.qpack_spec.specs.Window.{Window, eviction_count, TableRefusal, apply}
use Rattle.qpack_spec.specs.History.{History, window_of, empty_history, Leads}

-- live entries number at most a 32nd of the capacity (RFC 9204, section 3.2.1)
abbrev pub LiveEntriesAreFew : Type 0
LiveEntriesAreFew =
    (capacity : ℕ) (agreed_max : Option ℕ) (is : List EncoderInstruction) (h : History)
    → Leads (empty_history capacity agreed_max) is h
    → 32 * length (window_of h).live ≤ h.capacity

-- the entries that are evicted are the least number of oldest entries whose removal lets the rest fit (section 3.2.2)
abbrev pub EvictionCountIsLeast : Type 0
EvictionCountIsLeast =
    (capacity : ℕ) (fs : List Field)
    → (total_size (drop (eviction_count capacity fs) fs) ≤ capacity) × ((k : ℕ) → total_size (drop k fs) ≤ capacity
    → eviction_count capacity fs ≤ k)

-- a front of a list of instructions, and where it leads
pub record FrontLeads (from : History) (is : List EncoderInstruction) (m : History) : Type 0 where
  pub front : List EncoderInstruction
  pub rest : List EncoderInstruction
  pub cut : front ++ rest ≡ is
  pub leads : Leads from front m

-- how many were dropped after a list of instructions is the greatest, over its fronts, of how many are evicted at the
-- capacity of that front's end: at least that of each, and that of one
abbrev pub DroppedIsGreatest : Type 0
DroppedIsGreatest =
    (capacity : ℕ) (agreed_max : Option ℕ) (is : List EncoderInstruction) (h : History)
    → Leads (empty_history capacity agreed_max) is h
    → ((m : History) → FrontLeads (empty_history capacity agreed_max) is m → eviction_count m.capacity m.inserted
    ≤ h.dropped)
    × ((m : History) × FrontLeads (empty_history capacity agreed_max) is m
    × (h.dropped ≡ eviction_count m.capacity m.inserted))

-- the longest tail that fits
pub record IsLongestTail (capacity : ℕ) (all live : List Field) : Type 0 where
  pub evicted : ℕ
  pub is : live ≡ drop evicted all
  pub fits : total_size live ≤ capacity
  pub longest : (k : ℕ) → total_size (drop k all) ≤ capacity → evicted ≤ k

-- the instruction sets no capacity
abbrev pub SetsNoCapacity : EncoderInstruction → Type 0
SetsNoCapacity (SetCapacity capacity) = ⊥
SetsNoCapacity i = Unit {0}

-- with one capacity the live entries are the longest tail of all insertions that fits (section 3.2.2)
abbrev pub LiveIsLongestTail : Type 0
LiveIsLongestTail =
    (capacity : ℕ) (agreed_max : Option ℕ) (is : List EncoderInstruction) (h : History)
    → AllByRecursion SetsNoCapacity is
    → Leads (empty_history capacity agreed_max) is h → IsLongestTail capacity h.inserted (window_of h).live

-- the window after some instructions
abbrev pub all_taken : Window → List EncoderInstruction → Result Window TableRefusal
all_taken w [] = Ok w
all_taken w (i ∷ is) = apply w i >>= λ x. all_taken x is

-- taking instructions one by one makes the window of the history that they lead to
abbrev pub WindowsFollowHistories : Type 0
WindowsFollowHistories =
    (capacity : ℕ) (agreed_max : Option ℕ) (is : List EncoderInstruction) (w : Window)
    → (all_taken (window_of (empty_history capacity agreed_max)) is ≡ Ok w) ↔
    ((h : History) × Leads (empty_history capacity agreed_max) is h
    × (w ≡ window_of h))
