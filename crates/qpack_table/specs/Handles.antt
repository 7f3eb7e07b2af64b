-- What the encoder's handle returns.
use Rattle.std.specs.Prelude.{◌≡◌, ℕ, ◌+◌, ◌-◌, ◌<◌, ⊤, [], Bool, true, false, Result, Ok, Err, Option, Some, None}
use Rattle.std.specs.Prelude.{IfSome, if◌then◌else◌, nat_lt}
use Rattle.qpack_spec.specs.Field.{Field, is_field}
use Rattle.qpack_spec.specs.StaticTable.{static_name_index}
use Rattle.qpack_spec.specs.Table as table
use Rattle.qpack_spec.specs.Table.{newest_index, insert_count, with_reference, with_entry, sent_entry}
use Rattle.qpack_spec.specs.Chosen as chosen
use Rattle.qpack_spec.specs.Chosen.{instruction_naming}
use Rattle.qpack_spec.specs.Handle.{Lookup, AtStatic, AtRelative, AtPostBase, Found, Insertion, Insertable, answer_of}
use Rattle.qpack_spec.specs.Handle as handle
use Rattle.qpack_table.specs.declared.dynamic.Error.{Error}
use Rattle.qpack_table.specs.declared.dynamic.Error.TheVariants.{Memory}
use Rattle.qpack_table.specs.declared.dynamic.encoder.DynamicLookupResult.{DynamicLookupResult}
use Rattle.qpack_table.specs.declared.dynamic.encoder.DynamicLookupResult.TheVariants.{Static, Relative, PostBase}
use Rattle.qpack_table.specs.declared.dynamic.encoder.DynamicLookupResult.TheVariants.{NotFound}
use Rattle.qpack_table.specs.declared.dynamic.encoder.DynamicInsertionResult.{DynamicInsertionResult}
use Rattle.qpack_table.specs.declared.dynamic.encoder.DynamicInsertionResult.TheVariants.{Inserted, Duplicated}
use Rattle.qpack_table.specs.declared.dynamic.encoder.DynamicInsertionResult.TheVariants.{InsertedWithNameRef}
use Rattle.qpack_table.specs.declared.dynamic.encoder.DynamicInsertionResult.TheVariants.{InsertedWithStaticNameRef}
use Rattle.qpack_table.specs.declared.dynamic.encoder.DynamicInsertionResult.TheVariants.{NotInserted}
use Rattle.qpack_table.specs.declared.dynamic.encoder.Naming.{Naming}
use Rattle.qpack_table.specs.declared.dynamic.encoder.Naming.TheVariants.{Staying, Live}
use Rattle.qpack_table.specs.declared.dynamic.sought.SoughtField.{SoughtField}
use Rattle.qpack_table.specs.Indexes.{AreSeededHashesOf}

-- where a field or its name was found
abbrev pub lookup_of : DynamicLookupResult → Lookup
lookup_of (Static index) = AtStatic index
lookup_of (Relative index absolute) = AtRelative index absolute
lookup_of (PostBase index absolute) = AtPostBase index absolute
lookup_of NotFound = handle.NotFound

-- how a field was inserted, or where its name was found instead
abbrev pub insertion_of : DynamicInsertionResult → Insertion
insertion_of (Inserted postbase absolute) = handle.Inserted postbase absolute
insertion_of (Duplicated relative postbase absolute) = handle.Duplicated relative postbase absolute
insertion_of (InsertedWithNameRef postbase relative absolute) = handle.InsertedWithName relative postbase absolute
insertion_of (InsertedWithStaticNameRef postbase index absolute) =
    handle.InsertedWithStaticName postbase index absolute
insertion_of (NotInserted lookup) = handle.NotInserted (lookup_of lookup)

-- what is known of a field that was sought in a table: its hashes, unless there was no entry, the newest entry that is
-- it, and the least static field of its name
pub record IsSoughtIn (t : table.Table) (f : Field) (sought : SoughtField) : Type 0 where
  pub hashes : IfSome sought.hashes (λ known. AreSeededHashesOf known f)
  pub newest : sought.newest ≡ newest_index t (is_field f)
  pub static_name : sought.static_name ≡ static_name_index f.name

-- the hashes that are known of a field that was sought are its own
abbrev pub AreHashesIn : Field → SoughtField → Type 0
AreHashesIn f sought = IfSome sought.hashes (λ known. AreSeededHashesOf known f)

-- an absolute index, unless the entry was dropped
abbrev pub kept_index : Option ℕ → ℕ → Option ℕ
kept_index None dropped = None
kept_index (Some absolute) dropped = if nat_lt dropped absolute then Some absolute else None

-- an entry is returned, which the block in progress then references
abbrev pub HandsOut : Lookup → Type 0
HandsOut (AtStatic index) = ⊥
HandsOut (AtRelative index absolute) = ⊤
HandsOut (AtPostBase index absolute) = ⊤
HandsOut handle.NotFound = ⊥

-- a field is inserted, or an entry of its name is returned
abbrev pub InsertsOrHandsOut : Insertion → Type 0
InsertsOrHandsOut (handle.NotInserted lookup) = HandsOut lookup
InsertsOrHandsOut insertion = ⊤

-- what was looked for is found as the definition finds it, and referenced; memory is refused only if an entry is
-- returned, and then nothing changes
abbrev pub Finds : Result DynamicLookupResult Error → Found → table.Table → table.Table → Type 0
Finds (Ok lookup) found old new = let answer : Found = record { lookup = lookup_of lookup; table = new } in
    found ≡ answer
Finds (Err e) found old new = (e ≡ Memory) × HandsOut found.lookup × (new ≡ old)

-- a field is inserted as the definition inserts it, or its name is found; memory is refused only if something is
-- inserted or an entry is returned, and then nothing changes
abbrev pub Inserts : Result DynamicInsertionResult Error → Insertable → table.Table → table.Table → Type 0
Inserts (Ok insertion) inserted old new =
    let answer : Insertable = record { insertion = insertion_of insertion; table = new } in inserted ≡ answer
Inserts (Err e) inserted old new = (e ≡ Memory) × InsertsOrHandsOut inserted.insertion × (new ≡ old)

-- which entries the instruction of an insertion may name
abbrev pub naming_of : Naming → chosen.Naming
naming_of Staying = chosen.Staying
naming_of Live = chosen.Live

-- the result of an insertion, whether or not its entry is referenced
abbrev pub insertion_at : chosen.Naming → table.Table → ℕ → Field → Insertion
insertion_at names t base f =
    answer_of (instruction_naming names t f) (insert_count t - base) (insert_count t + 1)

-- an insertion whose entry the block in progress references
abbrev pub referenced_insertion : chosen.Naming → table.Table → ℕ → Field → Insertable
referenced_insertion names t base f =
    record {
      insertion = insertion_at names t base f;
      table = with_reference (with_entry t (sent_entry f)) (insert_count t + 1);
    }

-- an insertion whose entry is not referenced (RFC 9204, section 2.1.2)
abbrev pub unreferenced_insertion : chosen.Naming → table.Table → ℕ → Field → Insertable
unreferenced_insertion names t base f =
    record { insertion = insertion_at names t base f; table = with_entry t (sent_entry f) }

-- a field is inserted as the definition inserts it if it can be, and nothing happens otherwise; memory is refused only
-- if it can be, and then nothing changes
abbrev pub InsertsIf : Bool → Result (Option DynamicInsertionResult) Error → Insertable → table.Table → table.Table
    → Type 0
InsertsIf can (Ok (Some insertion)) inserted old new =
    let answer : Insertable = record { insertion = insertion_of insertion; table = new } in
    (can ≡ true) × (inserted ≡ answer)
InsertsIf can (Ok None) inserted old new = (can ≡ false) × (new ≡ old)
InsertsIf can (Err e) inserted old new = (can ≡ true) × (e ≡ Memory) × (new ≡ old)

-- a block that references an entry is opened, and counted as blocked if it is
abbrev pub OpensOrBlocks : table.Table → ℕ → Type 0
OpensOrBlocks t required = t.referenced ≡ [] → t.known_received_count < required

-- the block in progress ends as the definition ends it; memory is refused only if it is opened or blocked, and then its
-- references are given back
abbrev pub Commits : Result ⊤ Error → ℕ → ℕ → table.Table → table.Table → Type 0
Commits (Ok done) stream required old new = new ≡ table.commit old stream required
Commits (Err e) stream required old new =
    (e ≡ Memory) × OpensOrBlocks old required × (new ≡ table.without_references old)
