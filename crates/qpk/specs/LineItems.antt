-- The items of the lines of a text.
use Rattle.std.specs.Prelude.{◌≡◌, ℕ, ◌+◌, List, [], ◌∷◌, map, Option, Some, None, Result, Ok, Err}
use Rattle.std.specs.Global.{Vec}
use Rattle.qpk.specs.declared.text.Fault.{Fault}
use Rattle.qpk.specs.declared.text.Fault.TheVariants.{Memory}

-- the item of a line, if it has one, in front of more
abbrev pub with_item : {A : Type 0} → ℕ → Option A → Result (List A) ℕ → Result (List A) ℕ
with_item n None more = Err n
with_item n (Some item) (Err m) = Err m
with_item n (Some item) (Ok items) = Ok (item ∷ items)

-- the item of each line, or the number of the first line that has none, the lines being numbered from n
abbrev pub items_from : {A : Type 0} → (List ℕ → Option A) → ℕ → List (List ℕ) → Result (List A) ℕ
items_from of_line n [] = Ok []
items_from of_line n (line ∷ lines) = with_item n (of_line line) (items_from of_line (n + 1) lines)

-- ---- what reading them returns, if an item of the code represents this value

-- the item of a line, if it has one
abbrev pub IsItem : {A B : Type 0} → (A → B) → Option A → Option B → Type 0
IsItem value None read = read ≡ None
IsItem value (Some item) read = read ≡ Some (value item)

-- the item of a line, if it has one; or memory was refused
abbrev pub ReadsItem : {A B : Type 0} → (A → B) → Result (Option A) Fault → Option B → Type 0
ReadsItem value (Ok item) read = IsItem value item read
ReadsItem value (Err fault) read = fault ≡ Memory

-- the items of all lines, or the number of the first line that has none
abbrev pub AreItems : {A B : Type 0} → (A → B) → Result (Vec A) ℕ → Result (List B) ℕ → Type 0
AreItems value (Ok items) read = read ≡ Ok (map value items.items)
AreItems value (Err n) read = read ≡ Err n

-- the items of all lines, or the number of the first line that has none; or memory was refused
abbrev pub ReadsItems : {A B : Type 0} → (A → B) → Result (Result (Vec A) ℕ) Fault → Result (List B) ℕ → Type 0
ReadsItems value (Ok items) read = AreItems value items read
ReadsItems value (Err fault) read = fault ≡ Memory
