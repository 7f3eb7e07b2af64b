-- A window with all the insertions ever made, of which the dropped ones are evicted (RFC 9204, section 3.2).
use Rattle.std.specs.Prelude.{◌≡◌, ℕ, ◌+◌, List, [], ◌∷◌, ◌++◌, drop, Option, Some, Ok}
use Rattle.qpack_spec.specs.Field.{Field}
use Rattle.qpack_spec.specs.Instruction.{EncoderInstruction}
use Rattle.qpack_spec.specs.Window.{Window, eviction_count, Effect, Inserts, Ignored, Resizes, effect}

-- capacity, maximum capacity, how many entries were dropped, and every field ever inserted, the first at absolute index
-- 1
pub record History : Type 0 where
  pub capacity : ℕ
  pub agreed_max : Option ℕ
  pub dropped : ℕ
  pub inserted : List Field

-- what of it is live
unfoldable pub window_of : History → Window
window_of h = record {
  capacity = h.capacity;
  agreed_max = h.agreed_max;
  dropped = h.dropped;
  live = drop h.dropped h.inserted;
}

-- nothing dropped: what an absolute index means among all insertions
unfoldable pub whole_window : History → Window
whole_window h = record { capacity = h.capacity; agreed_max = h.agreed_max; dropped = 0; live = h.inserted }

-- the history after an effect
unfoldable pub history_after : History → Effect → History
history_after h (Inserts f) =
    record h {
      dropped = h.dropped + eviction_count h.capacity (drop h.dropped h.inserted ++ f ∷ []);
      inserted = h.inserted ++ f ∷ [];
    }
history_after h Ignored = h
history_after h (Resizes n) = record h {
  capacity = n;
  dropped = h.dropped + eviction_count n
      (drop h.dropped h.inserted);
}

-- an empty table
abbrev pub empty_history : ℕ → Option ℕ → History
empty_history capacity agreed_max = record { capacity = capacity; agreed_max = agreed_max; dropped = 0; inserted = [] }

-- an empty table of this capacity, with this agreed maximum capacity (section 3.2.3)
abbrev pub initial_history : ℕ → ℕ → History
initial_history capacity maximum = empty_history capacity (Some maximum)

-- each instruction in turn is taken, and they lead from h to h'
abbrev pub Leads : History → List EncoderInstruction → History → Type 0
Leads h [] h' = h ≡ h'
Leads h (i ∷ is) h' = (e : Effect) × (effect (window_of h) i ≡ Ok e) × Leads (history_after h e) is h'
