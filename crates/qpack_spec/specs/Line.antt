-- The lines of a field section, and their bytes (RFC 9204, sections 4.5.2 to 4.5.6).
use Rattle.std.specs.Prelude.{ℕ, ◌/◌, ◌%◌, Bool, true, if◌then◌else◌, nat_lt, nat_eq, List, [], ◌∷◌, ◌++◌, Option}
use Rattle.std.specs.Prelude.{None, Some}
use Rattle.qpack_spec.specs.Integer.{written_integer}
use Rattle.qpack_spec.specs.Text.{Coding, Always, coded_string}
use Rattle.qpack_spec.specs.Form.{FormFault, Form, Index, IndexAndValue, NameAndValue, Spells, Refuses}

-- a field line; a relative index counts down from the base, a post-base index up from it (sections 3.2.5 and 3.2.6)
pub data Line : Type 0 where
  IndexedStatic : (index : ℕ) → Line
  IndexedDynamic : (relative : ℕ) → Line
  IndexedPostBase : (post_base : ℕ) → Line
  NamedStatic : (index : ℕ) (value : List ℕ) → Line
  NamedDynamic : (relative : ℕ) (value : List ℕ) → Line
  NamedPostBase : (post_base : ℕ) (value : List ℕ) → Line
  Literal : (name value : List ℕ) → Line

-- what the first byte says of a line: its first bits are 0000N, 0001, 001NH, 01NT, 10 and 11, T being 1 for the static
-- table; N, which asks that a field be never indexed, is free
unfoldable pub line_form : ℕ → Option (Form Line)
line_form first =
    if nat_lt first 16 then Some (IndexAndValue 3 NamedPostBase)
    else if nat_lt first 32 then Some (Index 4 IndexedPostBase)
    else if nat_lt first 64 then Some (NameAndValue 4 Literal)
    else if nat_lt first 128
    then (if nat_eq (first / 16 % 2) 1 then Some (IndexAndValue 4 NamedStatic) else Some (IndexAndValue 4 NamedDynamic))
    else if nat_lt first 192 then Some (Index 6 IndexedDynamic)
    else if nat_lt first 256 then Some (Index 6 IndexedStatic)
    else None

-- the bytes are a spelling of the line
abbrev pub SpellsLine : List ℕ → Line → Type 0
SpellsLine encoding l = Spells Line line_form encoding l

-- the bytes are refused as a line
abbrev pub RefusesLine : List ℕ → FormFault → Type 0
RefusesLine encoding fault = Refuses Line line_form encoding fault

-- the written spelling under a coding: N is 0, and every integer the shortest
unfoldable pub coded_line : Coding → Line → List ℕ
coded_line coding (IndexedStatic index) = written_integer 6 3 index
coded_line coding (IndexedDynamic relative) = written_integer 6 2 relative
coded_line coding (IndexedPostBase post_base) = written_integer 4 1 post_base
coded_line coding (NamedStatic index value) = written_integer 4 5 index ++ coded_string coding 8 0 value
coded_line coding (NamedDynamic relative value) = written_integer 4 4 relative ++ coded_string coding 8 0 value
coded_line coding (NamedPostBase post_base value) = written_integer 3 0 post_base ++ coded_string coding 8 0 value
coded_line coding (Literal name value) = coded_string coding 4 2 name ++ coded_string coding 8 0 value

-- the written lines, one after the other
unfoldable pub coded_lines : Coding → List Line → List ℕ
coded_lines coding [] = []
coded_lines coding (l ∷ ls) = coded_line coding l ++ coded_lines coding ls

-- the written spelling of a line whose field is to stay a literal, or may be indexed: N is 1 or 0 (section 7.1.3); an
-- indexed line has no N
unfoldable pub coded_marked_line : Coding → Bool → Line → List ℕ
coded_marked_line coding true (NamedStatic index value) = written_integer 4 7 index ++ coded_string coding 8 0 value
coded_marked_line coding true (NamedDynamic relative value) = written_integer 4 6 relative ++ coded_string coding 8 0 value
coded_marked_line coding true (NamedPostBase post_base value) = written_integer 3 1 post_base ++ coded_string coding 8 0 value
coded_marked_line coding true (Literal name value) = coded_string coding 4 3 name ++ coded_string coding 8 0 value
coded_marked_line coding never l = coded_line coding l

-- ---- where every string is coded

abbrev pub written_line : Line → List ℕ
written_line l = coded_line Always l

abbrev pub written_lines : List Line → List ℕ
written_lines ls = coded_lines Always ls

abbrev pub written_marked_line : Bool → Line → List ℕ
written_marked_line never l = coded_marked_line Always never l
