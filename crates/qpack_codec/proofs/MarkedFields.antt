-- Field lines that are marked as never to be indexed, and those that are not.
use Rattle.std.proofs.Common.{◌≡◌, ℕ, zero, suc, List, [], ◌∷◌, ◌++◌, map, take, Bool, false, cond, Option}
use Rattle.std.proofs.Common.{None, refl}
use Rattle.std.proofs.Common.{sym, ap, subst, ◌∙◌, inl, inr, append-nil, append_assoc, Result, Ok, Err, ◌+◌, ◌<◌}
use Rattle.std.proofs.Common.{get_or, length, length-append, ◌≤◌, arith, vec_len, vec_capacity}
use Rattle.std.specs.declared.vec.Vec.{Vec}
use Rattle.std.specs.Borrow.{Bor}
use Rattle.std.specs.Prelude.{OnErr, IfOk}
use Rattle.qpack_spec.specs.BlockReading.{coded_block}
use Rattle.qpack_spec.specs.Field.{Field, FieldLine, unmarked}
use Rattle.qpack_spec.specs.Instruction.{written_encoder_instructions}
use Rattle.qpack_spec.specs.Line.{Line, coded_line, coded_lines, coded_marked_line}
use Rattle.qpack_spec.specs.Marked.{marked_rule, coded_marked_lines, coded_marked_block, written_marked_block, stateless_line_marked}
use Rattle.qpack_spec.specs.Marked.{stateless_block_marked}
use Rattle.qpack_spec.specs.Prefix.{Prefix, written_prefix, prefix_for}
use Rattle.qpack_spec.specs.Rule.{Draft, rule, block_of, required_insert_count, committed_table}
use Rattle.qpack_spec.specs.Stateless.{stateless_line, stateless_literal}
use Rattle.qpack_spec.specs.StaticTable.{static_name_index}
use Rattle.qpack_spec.specs.Table.{Table, empty_table, without_references}
use Rattle.qpack_spec.specs.Text.{Coding, Always}
use Rattle.qpack_rules.proofs.Marked.{is_rule_unmarked}
use Rattle.qpack_base.specs.HeaderFields.{field_of, fields_behind, DrainsFields}
use Rattle.qpack_base.specs.declared.field.HeaderField.{HeaderField}
use Rattle.qpack_codec.specs.Encoding.{DrainsLinesOf}
use Rattle.qpack_codec.specs.Encoding.{EncodesLines, EncodesBlock, GivesUpLines, GivesUpBlock, StopsEncodingLinesOf}
use Rattle.qpack_codec.specs.Encoding.{StopsEncoding}
use Rattle.qpack_codec.specs.declared.error.EncoderError.{EncoderError}
use Rattle.qpack_codec.proofs.AddedFields.{front_of}

-- ---- a field that is never to be indexed

-- ---- a field that may be indexed

pub written_unmarked : (coding : Coding) (f : Field) (l : Line) → coded_marked_line coding false l ≡ coded_line coding l
unfolding coded_marked_lines coded_lines
written_unmarked coding f l =
    sym (append-nil (coded_marked_line coding false l)) ∙ (is_rule_unmarked (empty_table 0 None 0) (f ∷ [])).lines coding (l ∷ [])
    ∙ append-nil (coded_line coding l)

pub lines_unmarked : (coding : Coding) (t : Table) (l : FieldLine) (ls : List Line) → l.never_indexed ≡ false
    → coded_marked_lines coding (l ∷ []) ls ≡ coded_lines coding ls
lines_unmarked coding t l ls is =
    ap (λ (b : Bool). coded_marked_lines coding ((let k : FieldLine = record { field = l.field; never_indexed = b } in k)
    ∷ []) ls) is
    ∙ (is_rule_unmarked t (l.field ∷ [])).lines coding ls

-- ---- a block of fields none of which is marked

encodes_unmarked : (stream : ℕ) (fs : List Field) (old new : Table) (before block written_old written_new : List ℕ)
    (required : ℕ) → EncodesLines stream (map unmarked fs) old new before block written_old written_new required
    → EncodesBlock stream fs old new before block written_old written_new required
unfolding coded_marked_block coded_block
encodes_unmarked stream fs old new before block written_old written_new required k =
    let same = (is_rule_unmarked old fs).draft in
    record {
      required_is = k.required_is ∙ ap (λ (d : Draft). required_insert_count d) same;
      table = k.table ∙ ap (λ (d : Draft). committed_table d stream) same;
      block = k.block
          ∙ ap (λ (d : Draft). before ++ written_marked_block (map unmarked fs) (block_of old d)) same
          ∙ ap (λ (x : List ℕ). before ++ (written_prefix (block_of old (rule old fs)).prefix ++ x))
          ((is_rule_unmarked old fs).lines Always (rule old fs).lines);
      written = k.written ∙ ap (λ (d : Draft). written_old ++ written_encoder_instructions d.instructions) same;
    }

take_unmarked : (fs : List Field) (many : ℕ) → take many (map unmarked fs) ≡ map unmarked (take many fs)
take_unmarked fs zero = refl
take_unmarked [] (suc many) = refl
take_unmarked (f ∷ fs) (suc many) = ap (λ (ls : List FieldLine). unmarked f ∷ ls) (take_unmarked fs many)

gives_up_unmarked : (fs : List Field) (old new : Table) (written_old written_new : List ℕ)
    → GivesUpLines (map unmarked fs) old new written_old written_new
    → GivesUpBlock fs old new written_old written_new
gives_up_unmarked fs old new written_old written_new k =
    let same : marked_rule old (take k.many (map unmarked fs)) ≡ rule old (take k.many fs) =
    ap (λ (ls : List FieldLine). marked_rule old ls) (take_unmarked fs k.many)
    ∙ (is_rule_unmarked old (take k.many fs)).draft in
    record {
      many = k.many;
      table = k.table ∙ ap (λ (d : Draft). without_references d.table) same;
      written = k.written ∙ ap (λ (d : Draft). written_old ++ written_encoder_instructions d.instructions) same;
    }

-- references to fields lend lines that are not marked
lent_unmarked : (items : List (Bor HeaderField))
    → map (λ item. unmarked (field_of item.now)) items ≡ map unmarked (fields_behind items)
lent_unmarked [] = refl
lent_unmarked (item ∷ items) =
    ap (λ (ls : List FieldLine). unmarked (field_of item.now) ∷ ls) (lent_unmarked items)

pub if_ok_encodes : {S : Type 0} (r : Result ℕ EncoderError) (steps : S → Option (Bor HeaderField) → S → Type 0)
    (it : S) (stream : ℕ) (old new : Table) (before block written_old written_new : List ℕ)
    → IfOk r (λ required. DrainsLinesOf (λ item. unmarked (field_of item.now)) steps it
    (λ ls. EncodesLines stream ls old new before block written_old written_new required))
    → IfOk r (λ required. DrainsFields steps it
    (λ fs. EncodesBlock stream fs old new before block written_old written_new required))
if_ok_encodes (Err e) steps it stream old new before block written_old written_new d = tt
if_ok_encodes (Ok required) steps it stream old new before block written_old written_new d = (
  d.0,
  d.1,
  encodes_unmarked stream (fields_behind d.0) old new before block written_old written_new required
      (subst (λ (ls : List FieldLine). EncodesLines stream ls old new before block written_old written_new required)
      (lent_unmarked d.0) d.2),
)

stops_unmarked : {S : Type 0} (steps : S → Option (Bor HeaderField) → S → Type 0) (it : S) (old new : Table)
    (written_old written_new : List ℕ)
    → StopsEncodingLinesOf (λ item. unmarked (field_of item.now)) steps it old new written_old written_new
    → StopsEncoding steps it old new written_old written_new
stops_unmarked steps it old new written_old written_new (inl g) =
    inl (gives_up_unmarked [] old new written_old written_new g)
stops_unmarked steps it old new written_old written_new (inr d) =
    inr (
      d.0,
      d.1,
      gives_up_unmarked (fields_behind d.0) old new written_old written_new
          (subst (λ (ls : List FieldLine). GivesUpLines ls old new written_old written_new) (lent_unmarked d.0) d.2),
    )

pub on_err_stops_unmarked : {S : Type 0} (r : Result ℕ EncoderError)
    (steps : S → Option (Bor HeaderField) → S → Type 0) (it : S) (old new : Table) (written_old written_new : List ℕ)
    → OnErr r (StopsEncodingLinesOf (λ item. unmarked (field_of item.now)) steps it old new written_old written_new)
    → OnErr r (StopsEncoding steps it old new written_old written_new)
on_err_stops_unmarked (Ok required) steps it old new written_old written_new stops = tt
on_err_stops_unmarked (Err e) steps it old new written_old written_new stops =
    stops_unmarked steps it old new written_old written_new stops

-- ---- a block where no entry is at hand

lines_of_more : (coding : Coding) (ls : List FieldLine) (l : FieldLine)
    → coded_marked_lines coding (ls ++ l ∷ []) (map (λ k. stateless_line_marked k) (ls ++ l ∷ []))
    ≡ coded_marked_lines coding ls (map (λ k. stateless_line_marked k) ls)
    ++ coded_marked_line coding l.never_indexed (stateless_line_marked l)
unfolding coded_marked_lines coded_lines
lines_of_more coding [] l = append-nil (coded_marked_line coding l.never_indexed (stateless_line_marked l))
lines_of_more coding (k ∷ ls) l =
    ap (λ (x : List ℕ). coded_marked_line coding k.never_indexed (stateless_line_marked k) ++ x) (lines_of_more coding ls l)
    ∙ sym (append_assoc (coded_marked_line coding k.never_indexed (stateless_line_marked k))
    (coded_marked_lines coding ls (map (λ k. stateless_line_marked k) ls))
    (coded_marked_line coding l.never_indexed (stateless_line_marked l)))

-- the bytes of the block where no entry is at hand
abbrev pub written_stateless : Coding → List FieldLine → List ℕ
written_stateless coding ls = coded_marked_block coding ls (stateless_block_marked ls)

stateless_more : (coding : Coding) (ls : List FieldLine) (l : FieldLine)
    → written_stateless coding (ls ++ l ∷ [])
    ≡ written_stateless coding ls ++ coded_marked_line coding l.never_indexed (stateless_line_marked l)
unfolding coded_marked_block
stateless_more coding ls l =
    let p = written_prefix (record { count = 0; sign = false; delta = 0 }) in
    ap (λ (x : List ℕ). p ++ x) (lines_of_more coding ls l)
    ∙ sym (append_assoc p (coded_marked_lines coding ls (map (λ k. stateless_line_marked k) ls))
    (coded_marked_line coding l.never_indexed (stateless_line_marked l)))

-- the first bytes are the prefix
pub stateless_begun : (coding : Coding) (before now : List ℕ) → now ≡ before ++ written_prefix (prefix_for 0 0 0)
    → now ≡ before ++ written_stateless coding []
unfolding coded_marked_block coded_marked_lines coded_lines prefix_for
stateless_begun coding before now e =
    e ∙ ap (λ (x : List ℕ). before ++ x) (sym (append-nil (written_prefix (record {
      count = 0;
      sign = false;
      delta = 0;
    }))))

-- a line more
pub stateless_grown : (coding : Coding) {H : Type 0} (line : H → FieldLine) (xs : List H) (i : ℕ) (x : H) (l : FieldLine)
    (before mid now : List ℕ) → i < length xs → x ≡ get_or xs i x → l ≡ line x
    → mid ≡ before ++ written_stateless coding (map line (take i xs))
    → now ≡ mid ++ coded_marked_line coding l.never_indexed (stateless_line_marked l)
    → now ≡ before ++ written_stateless coding (map line (take (i + 1) xs))
stateless_grown coding line xs i x l before mid now within is lent so_far more =
    rw (front_of line xs i x within, ← is, ← lent)
    (more
    ∙ ap (λ (b : List ℕ). b ++ coded_marked_line coding l.never_indexed (stateless_line_marked l)) so_far
    ∙ append_assoc before (written_stateless coding (map line (take i xs)))
    (coded_marked_line coding l.never_indexed (stateless_line_marked l))
    ∙ ap (λ (b : List ℕ). before ++ b) (sym (stateless_more coding (map line (take i xs)) l)))

-- the lines of the first fields are no longer than those of all
stateless_lines_front : (coding : Coding) {H : Type 0} (line : H → FieldLine) (xs : List H) (n : ℕ)
    → length (coded_marked_lines coding (map line (take n xs)) (map (λ k. stateless_line_marked k) (map line (take n xs))))
    ≤ length (coded_marked_lines coding (map line xs) (map (λ k. stateless_line_marked k) (map line xs)))
unfolding coded_marked_lines coded_lines
stateless_lines_front coding {H} line xs zero = omega arith
stateless_lines_front coding {H} line [] (suc n) = omega arith
stateless_lines_front coding {H} line (x ∷ xs) (suc n) =
    let first = coded_marked_line coding (line x).never_indexed (stateless_line_marked (line x)) in
    let lines : List H → List ℕ =
    λ ys. coded_marked_lines coding (map line ys) (map (λ k. stateless_line_marked k) (map line ys)) in
    omega (
      arith,
      length-append first (lines (take n xs)),
      length-append first (lines xs),
      stateless_lines_front coding line xs n,
    )

-- so is the block of the first fields no longer than that of all
pub stateless_front : (coding : Coding) {H : Type 0} (line : H → FieldLine) (xs : List H) (n : ℕ)
    → length (written_stateless coding (map line (take n xs))) ≤ length (written_stateless coding (map line xs))
unfolding coded_marked_block
stateless_front coding {H} line xs n =
    let p = written_prefix (record { count = 0; sign = false; delta = 0 }) in
    let lines : List H → List ℕ =
    λ ys. coded_marked_lines coding (map line ys) (map (λ k. stateless_line_marked k) (map line ys)) in
    omega (
      arith,
      length-append p (lines (take n xs)),
      length-append p (lines xs),
      stateless_lines_front coding line xs n,
    )

-- where the block fits, its prefix does
pub prefix_fits : (coding : Coding) {H A : Type 0} (line : H → FieldLine) (xs : List H) (v : Vec ℕ A) {p : Prefix}
    → p ≡ prefix_for 0 0 0
    → vec_len v + length (written_stateless coding (map line xs)) ≤ vec_capacity v
    → vec_len v + length (written_prefix p) ≤ vec_capacity v
prefix_fits coding line xs v is fits =
    omega (
      arith,
      fits,
      stateless_front coding line xs 0,
      ap (λ (l : List ℕ). length l) (stateless_begun coding [] (written_prefix (prefix_for 0 0 0)) refl),
      ap (λ (p : Prefix). length (written_prefix p)) is,
    )

-- so does each line behind those that are written
pub line_fits : (coding : Coding) {H A : Type 0} (line : H → FieldLine) (xs : List H) (i : ℕ) (x : H) (l : FieldLine)
    (first mid : Vec ℕ A) → i < length xs → x ≡ get_or xs i x → l ≡ line x
    → mid.items ≡ first.items ++ written_stateless coding (map line (take i xs))
    → (vec_len mid ≤ vec_capacity first → vec_capacity mid ≡ vec_capacity first)
    → vec_len first + length (written_stateless coding (map line xs)) ≤ vec_capacity first
    → vec_len mid + length (coded_marked_line coding l.never_indexed (stateless_line_marked l)) ≤ vec_capacity mid
line_fits coding line xs i x l first mid within is lent so_far still fits =
    let next = coded_marked_line coding l.never_indexed (stateless_line_marked l) in
    let more : mid.items ++ next ≡ first.items ++ written_stateless coding (map line (take (i + 1) xs)) =
    stateless_grown coding line xs i x l first.items mid.items (mid.items ++ next) within is lent so_far refl in
    let lengths = ap (λ (l : List ℕ). length l) more in
    let long : vec_len mid + length next ≤ vec_capacity first = omega (
      arith,
      fits,
      lengths,
      stateless_front coding line xs (i + 1),
      length-append mid.items next,
      length-append first.items (written_stateless coding (map line (take (i + 1) xs))),
      first.ok.0,
      mid.ok.0,
    ) in
    omega (arith, long, still (omega (arith, long)))

-- the line of a field that may be indexed
pub alone_unmarked : (coding : Coding) (l : FieldLine) → l.never_indexed ≡ false
    → coded_line coding (stateless_line l.field) ≡ coded_marked_line coding l.never_indexed (stateless_line_marked l)
alone_unmarked coding l is =
    sym (ap (λ (b : Bool). coded_marked_line coding b (cond b (stateless_literal l.field (static_name_index l.field.name))
    (stateless_line l.field))) is
    ∙ written_unmarked coding l.field (stateless_line l.field))
