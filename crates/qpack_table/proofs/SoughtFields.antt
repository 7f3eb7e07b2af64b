-- A field that was sought once is known as long as nothing is inserted.
use Rattle.std.proofs.Common.{◌≡◌, ℕ, ◌+◌, Bool, List, [], ◌∷◌, length, Option, None, Some, refl, sym, ap, ◌∙◌, arith}
use Rattle.std.proofs.Common.{Ok}
use Rattle.std.specs.Option.{option_map}
use Rattle.std.proofs.lemmas.Bool.{cond_both}
use Rattle.qpack_spec.specs.Field.{Field, is_field}
use Rattle.qpack_spec.specs.Handle.{Found, found_entry}
use Rattle.qpack_spec.specs.Table as table
use Rattle.qpack_spec.specs.Table.{newest_index, last_position, fields_in, with_reference, may_reference}
use Rattle.qpack_table.specs.Handles.{Finds, IsSoughtIn}
use Rattle.qpack_table.specs.declared.dynamic.encoder.DynamicLookupResult.{DynamicLookupResult}
use Rattle.qpack_table.specs.declared.dynamic.sought.SoughtField.{SoughtField}

-- where there is no entry, none is found
pub newest_of_nothing : (t : table.Table) (p : Field → Bool) → length t.live ≡ 0 → None ≡ newest_index t p
unfolding newest_index last_position
newest_of_nothing t p empty = by t.live empty
  where
    by : (es : List table.Entry) → length es ≡ 0
        → None ≡ option_map (λ i. t.dropped + i + 1) (last_position p (fields_in es))
    by [] e = refl
    by (x ∷ es) e = absurd (omega (arith, e))

-- to reference an entry changes no entry
same_newest : (t : table.Table) (base : ℕ) (o : Option ℕ) (p : Field → Bool)
    → newest_index (found_entry t base o).table p ≡ newest_index t p
unfolding newest_index with_reference
same_newest t base None p = refl
same_newest t base (Some a) p =
    cond_both (may_reference t a) _ _ (λ (x : Found). newest_index x.table p ≡ newest_index t p) (λ b. refl) (λ b. refl)

pub still_sought : (t new : table.Table) (base : ℕ) (f : Field) (sought : SoughtField) (lookup : DynamicLookupResult)
    → IsSoughtIn t f sought → Finds (Ok lookup) (found_entry t base sought.newest) t new → IsSoughtIn new f sought
still_sought t new base f sought lookup is found =
    record {
      hashes = is.hashes;
      newest = is.newest ∙ sym (same_newest t base sought.newest (is_field f))
          ∙ ap (λ (x : Found). newest_index x.table (is_field f)) found;
      static_name = is.static_name;
    }
