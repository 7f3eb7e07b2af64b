-- A field where it lies in memory, as C sees it.
use denote.RawPtr.{Ptr}
use Rattle.std.specs.Prelude.{◌≡◌, ℕ, ℤ, pos, negsuc, length, slice_get, Option, None, Some}
use Rattle.qpack_spec.specs.Field.{FieldLine}
use Rattle.qpack_spec.specs.StaticTable.{static_index, static_name_index}
use Rattle.qpack_decoding.specs.FieldSections.{SectionView, begins_at}
use Rattle.h3_qpack_c.specs.declared.views.View.{View}
use Rattle.h3_qpack_c.specs.Crossing.{flags_of}
use Rattle.h3_qpack_c.specs.Statuses.{done, invalid}

-- an index of the static table in C, -1 if there is none
abbrev pub number_of : Option ℕ → ℤ
number_of None = negsuc 0
number_of (Some index) = pos index

-- the view of a field, which begins here in a text that lies at this address: with it are the first index of the static
-- table that has its name, and the first that has its name and value (RFC 9204, Appendix A)
abbrev pub view_of : Ptr → ℕ → FieldLine → View
view_of text start f =
    record {
      text = text;
      start = start;
      name = length f.field.name;
      value = length f.field.value;
      flags = flags_of f;
      static_name = number_of (static_name_index f.field.name);
      static_field = number_of (static_index f.field);
    }

-- the view of a field is stored; or there is no such field, and nothing is
abbrev pub ViewsField : Option FieldLine → Ptr → ℕ → View → View → ℤ → Type 0
ViewsField None text start old new status = (status ≡ invalid) × (new ≡ old)
ViewsField (Some f) text start old new status = (status ≡ done) × (new ≡ view_of text start f)

-- the field at an index of a section is viewed where it lies in the section's text
abbrev pub Views : SectionView → ℕ → View → View → ℤ → Type 0
Views s index old new status = ViewsField (slice_get s.fields index) s.text_at (begins_at s.fields index) old new status
