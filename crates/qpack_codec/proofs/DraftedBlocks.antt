-- A block that is put together of its prefix and its lines, or given up.
use Rattle.std.proofs.Common.{◌≡◌, ℕ, List, [], ◌++◌, take, drop, length, Option, refl, sym, ap}
use Rattle.std.proofs.Common.{append-nil, append_assoc, inl}
use Rattle.std.proofs.lemmas.List.{take_at, drop_at}
use Rattle.qpack_spec.specs.Field.{FieldLine}
use Rattle.qpack_spec.specs.Instruction.{coded_encoder_instructions}
use Rattle.qpack_spec.specs.Marked.{marked_rule}
use Rattle.qpack_spec.specs.Table.{Table, insert_count, without_references}
use Rattle.qpack_codec.specs.Encoding.{GivesUpLines, StopsEncodingLinesOf}

-- ---- the rule, where a block begins

pub begins_so : (t : Table) → t.referenced ≡ [] → without_references t ≡ t
unfolding without_references
begins_so t begins = ap (λ (r : List ℕ). let x : Table = record t { referenced = r } in x) (sym begins)

-- ---- the block's bytes

pub put_together : (before lines prefix text : List ℕ) (len : ℕ) → len ≡ length before → lines ≡ before ++ text
    → take len lines ++ prefix ++ drop len lines ≡ before ++ (prefix ++ text)
put_together before lines prefix text len is e =
    rw (e, take_at before text len (sym is), drop_at before text len (sym is))
    (append_assoc before prefix text)

-- ---- a block that is given up

gives_up_none : (t : Table) (written : List ℕ) → GivesUpLines [] t (without_references t) written written
unfolding marked_rule without_references coded_encoder_instructions
gives_up_none t written = record { many = 0; table = refl; written = sym (append-nil written) }

-- ---- a block as it begins

pub count_begins : (old begun : Table) → begun ≡ without_references old → insert_count old ≡ insert_count begun
unfolding without_references
count_begins old begun is = sym (ap (λ (t : Table). insert_count t) is)

pub none_begins : (old begun : Table) → begun ≡ without_references old → begun.referenced ≡ []
unfolding without_references
none_begins old begun is = ap (λ (t : Table). t.referenced) is

-- ---- over the items that were gathered

-- before anything was gathered
pub stops_ungathered : {S H : Type 0} (line : H → FieldLine) (steps : S → Option H → S → Type 0) (it : S)
    (old new : Table) (written : List ℕ) → new ≡ without_references old
    → StopsEncodingLinesOf line steps it old new written written
stops_ungathered line steps it old new written is = rw is (inl (gives_up_none old written))
