-- The fields of a block as an object of JSON: `fields`, each with its `name` and its `value`, and `size`.
use Rattle.std.specs.Prelude.{ℕ, List, [], ◌∷◌, ◌++◌, codes, if◌then◌else◌, map}
use Rattle.std.specs.Str.{is_utf8}
use Rattle.hex.specs.Hex.{encode_lower}
use Rattle.serde_json.specs.Data.{Data, string, number, unsigned, array, object, member, no_members}
use Rattle.serde_json.specs.View.{items_of}
use Rattle.serde_json.specs.Written.{compact_text}
use Rattle.qpack_spec.specs.Field.{Field, total_size}
use Rattle.qpack_spec.specs.Stateless.{saturated_size}

-- bytes: text if they are UTF-8, otherwise an object that has them in lower-case hexadecimal
abbrev pub bytes_data : List ℕ → Data
bytes_data bytes =
    if is_utf8 bytes then string bytes
    else object (member (codes "hex") (string (encode_lower bytes)) no_members)

-- a field
abbrev pub field_data : Field → Data
field_data f =
    object (member (codes "name") (bytes_data f.name) (member (codes "value") (bytes_data f.value) no_members))

-- fields in their order
abbrev pub fields_data : List Field → Data
fields_data fs = array (items_of (map field_data fs))

-- fields, and the sum of their sizes (section 3.2.1)
abbrev pub section_data : List Field → Data
section_data fs =
    object (member (codes "fields") (fields_data fs)
    (member (codes "size") (number (unsigned (saturated_size (total_size fs)))) no_members))

-- its text, with no blank, in a line
abbrev pub section_json : List Field → List ℕ
section_json fs = compact_text (section_data fs) ++ 10 ∷ []
