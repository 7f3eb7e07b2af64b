-- What the calls that read lists return.
use Rattle.std.specs.Prelude.{◌≡◌, ℕ, List, [], ◌∷◌, ◌++◌, map, Result, Ok, Err}
use Rattle.std.specs.Global.{Vec}
use Rattle.qpack_spec.specs.Field.{Field}
use Rattle.qpack_base.specs.declared.field.HeaderField.{HeaderField}
use Rattle.qpack_base.specs.HeaderFields.{field_of}
use Rattle.qpack_codec.specs.Stateless.{fields_in}
use Rattle.qpk_qif.specs.Lists.{LineMeaning, Ends, Comment, Holds, NoTab as Tabless}
use Rattle.qpk_qif.specs.declared.lists.Line.{Line}
use Rattle.qpk_qif.specs.declared.lists.Line.TheVariants.{End, Remark, Field as OfField}
use Rattle.qpk_qif.specs.declared.lists.ListFault.{ListFault}
use Rattle.qpk_qif.specs.declared.lists.ListFault.TheVariants.{NoTab, Memory}

-- the fields of each list
abbrev pub lists_in : List (Vec HeaderField) → List (List Field)
lists_in lists = map (λ list. fields_in list.items) lists

-- what a line that was read is
abbrev pub meaning_of : Line → LineMeaning
meaning_of End = Ends
meaning_of Remark = Comment
meaning_of (OfField f) = Holds (field_of f)

-- the line of this number is what it means; or it has no TAB, or memory was refused
abbrev pub ReadsLine : Result Line ListFault → ℕ → LineMeaning → Type 0
ReadsLine (Ok line) n meaning = meaning ≡ meaning_of line
ReadsLine (Err (NoTab number)) n meaning = (meaning ≡ Tabless) × (number ≡ n)
ReadsLine (Err Memory) n meaning = Unit {0}

-- the lists that ended, and the fields of the list that did not
pub record Gathered : Type 0 where
  pub ended : List (List Field)
  pub open_list : List Field

-- a line more
abbrev pub gathered : Gathered → LineMeaning → Gathered
gathered g Ends = record { ended = g.ended ++ g.open_list ∷ []; open_list = [] }
gathered g Comment = g
gathered g (Holds f) = record { ended = g.ended; open_list = g.open_list ++ f ∷ [] }
gathered g Tabless = g

-- the list that did not end is the last, if it has a field
abbrev pub all_gathered : Gathered → List (List Field)
all_gathered g = with_last g.ended g.open_list
  where
    with_last : List (List Field) → List Field → List (List Field)
    with_last ended [] = ended
    with_last ended (f ∷ fs) = ended ++ (f ∷ fs) ∷ []

-- the lists were read; or the line of this number has no TAB; or memory was refused
abbrev pub ReadsLists : Result (Vec (Vec HeaderField)) ListFault → Result (List (List Field)) ℕ → Type 0
ReadsLists (Ok lists) read = read ≡ Ok (lists_in lists.items)
ReadsLists (Err (NoTab number)) read = read ≡ Err number
ReadsLists (Err Memory) read = Unit {0}
