-- Remarks on an input that was processed.
use Rattle.std.specs.Prelude.{◌≡◌, ℕ, ◌+◌, Bool, false, List, [], ◌∷◌, ◌++◌, codes, Option, None, Some, nat_eq}
use Rattle.std.specs.Prelude.{if◌then◌else◌, ◌&&◌}
use Rattle.std.specs.Option.{option_map}
use Rattle.std.specs.Fmt.{decimal}
use Rattle.qpk.specs.declared.command.Command.{Command}
use Rattle.qpk.specs.declared.command.Command.TheVariants.{EncodeLists}

-- a line feed is in front
abbrev pub begins_with_feed : List ℕ → Bool
begins_with_feed [] = false
begins_with_feed (b ∷ bytes) = nat_eq b 10

-- the number of the first line that ends in a carriage return and a line feed, the lines being numbered from n
abbrev pub return_line : ℕ → List ℕ → Option ℕ
return_line n [] = None
return_line n (b ∷ bytes) =
    if nat_eq b 13 && begins_with_feed bytes then Some n
    else return_line (if nat_eq b 10 then n + 1 else n) bytes

-- the line that says so
abbrev pub return_note : List ℕ → Option (List ℕ)
return_note input = option_map (λ n.
    codes "qpk: line " ++ decimal n ++ codes ": the carriage return at its end belongs to the value\n")
    (return_line 1 input)

-- the remark on the input of a command: on header lists in QIF, and on no other
abbrev pub IsNoteOf : Command → List ℕ → Option (List ℕ) → Type 0
IsNoteOf (EncodeLists settings) input note = note ≡ return_note input
IsNoteOf command input note = note ≡ None
