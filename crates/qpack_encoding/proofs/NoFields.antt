-- A section of no field, as one that is written under no choices.
use Rattle.std.proofs.Common.{◌≡◌, ◌≤◌, ℕ, Bool, false, List, [], ◌++◌, Result, Ok, Err, IfOk, refl, sym, ap, subst, ◌∙◌}
use Rattle.std.proofs.Common.{append-nil, inl, inr, arith, length, ◌+◌, ◌<◌, ◌∷◌, vec_len, vec_capacity}
use Rattle.std.specs.declared.vec.Vec.{Vec}
use Rattle.std.specs.Prelude.{IfErr, IsOk}
use Rattle.qpack_spec.specs.Chosen.{Chosen, chosen_rule}
use Rattle.qpack_spec.specs.Field.{FieldLine}
use Rattle.qpack_spec.specs.Instruction.{coded_encoder_instructions}
use Rattle.qpack_spec.specs.Integer.{written_integer}
use Rattle.qpack_spec.specs.Line.{coded_lines}
use Rattle.qpack_spec.specs.Marked.{coded_marked_block, coded_marked_lines}
use Rattle.qpack_spec.specs.Prefix.{Prefix, prefix_for, written_prefix}
use Rattle.qpack_spec.specs.Reading.{Block}
use Rattle.qpack_spec.specs.Rule.{Draft, empty_draft, block_of, required_insert_count, committed_table}
use Rattle.qpack_spec.specs.Table.{Table, insert_count, without_references}
use Rattle.qpack_spec.specs.Text.{WhereShorter}
use Rattle.qpack_base.specs.Writes.{Writes}
use Rattle.qpack_codec.specs.ChosenSections.{EncodesChosen}
use Rattle.qpack_codec.specs.declared.error.EncoderError.TheVariants as codec
use Rattle.qpack_codec.proofs.BareTables.{drafted, nothing_required, block_is, table_is}
use Rattle.qpack_codec.proofs.ChosenBlocks.{gives_up_chosen_alone}
use Rattle.qpack_encoding.specs.declared.encoder.EncodingError.{EncodingError}
use Rattle.qpack_encoding.specs.declared.encoder.EncodingError.TheVariants.{Memory}
use Rattle.qpack_codec.proofs.Rooms.{no_err}
use Rattle.qpack_encoding.specs.Encoders.{EncodingEnd, begun, is_alone, may_block, written_alone, with_section, Checks, Encodes}
use Rattle.qpack_encoding.specs.Encoders.{AsksForSection, HasNoRoomAlone}
use Rattle.qpack_encoding.specs.Risk.{with_limit, limit_for}
use Rattle.qpack_encoding.specs.Wishes.{KeepsWishes, SuitAlong, limited, EncodesAsWished}

empty_rule : (t : Table) → chosen_rule t [] [] ≡ drafted (without_references t) []
unfolding chosen_rule
empty_rule t = refl

-- where there are none
pub no_field : {H : Type 0} (fields : List H) → length fields ≡ 0 → fields ≡ []
no_field [] is = refl
no_field (f ∷ fs) is = absurd (omega (arith, is))

-- its bytes are those of a prefix in which nothing is required, and are two
pub nothing_written : written_alone [] ≡ written_prefix (prefix_for 0 0 0)
unfolding coded_marked_block coded_marked_lines coded_lines prefix_for
nothing_written = append-nil _

two_bytes : length (written_prefix (prefix_for 0 0 0)) ≡ 2
unfolding written_prefix prefix_for written_integer
two_bytes = refl

not_ok : {E : Type 0} (e : E) → IsOk {T = Unit {0}} {E = E} (Err e) → ⊥
not_ok e is = absurd cc

-- they are refused only where they do not fit the vector
pub no_room : {A E : Type 0} (old new : Vec ℕ A) (e : E) (p : Prefix) → p ≡ prefix_for 0 0 0
    → Writes {E = E} (written_prefix p) old new (Err e) → vec_capacity old < vec_len old + 2
no_room old new e p is w =
    let full : vec_len old + length (written_prefix p) ≤ vec_capacity old → ⊥ = λ fits. not_ok e (w.succeeds fits) in
    omega (arith, two_bytes, ap (λ (q : Prefix). length (written_prefix q)) is, full)

-- the section is written under no choices, and nothing is referenced behind it
nothing_chosen : (stream : ℕ) (t : Table) (before after written : List ℕ) → after ≡ before ++ written_alone []
    → (k : EncodesChosen WhereShorter stream [] t (without_references t) before after written written 0) × (k.choices ≡ [])
unfolding coded_encoder_instructions
nothing_chosen stream t before after written is =
    let rule = empty_rule t in (
      record {
        choices = [];
        required_is = sym (ap (λ (d : Draft). required_insert_count d) rule ∙ nothing_required t []);
        table = table_is t [] stream ∙ sym (ap (λ (d : Draft). committed_table d stream) rule);
        block = is
            ∙ ap (λ (b : Block). before ++ coded_marked_block WhereShorter [] b)
            (sym (ap (λ (d : Draft). block_of t d) rule ∙ block_is t []));
        written = sym (append-nil written)
            ∙ ap (λ (d : Draft). written ++ coded_encoder_instructions WhereShorter d.instructions) (sym rule);
      },
      refl,
    )

-- the end behind it
abbrev pub without_named : EncodingEnd → EncodingEnd
without_named d = with_section (without_references d.table) d.unsent d

-- so it is encoded, or memory is refused for its two bytes
pub nothing_encoded : (old new : EncodingEnd) (stream : ℕ) (before after : List ℕ) (r : Result ℕ EncodingError)
    → Checks old stream (Ok tt) → is_alone (begun old) ≡ false → new ≡ without_named (begun old)
    → IfOk r (λ required. (required ≡ 0) × (after ≡ before ++ written_alone []))
    → IfErr r (λ e. (e ≡ Memory) × (after ≡ before)) → Encodes old new stream [] before after r
nothing_encoded old new stream before after r checks room is ok err =
    subst (λ (n : EncodingEnd). Encodes old n stream [] before after r) (sym is) (go r ok err)
  where
    d : EncodingEnd
    d = begun old

    go : (x : Result ℕ EncodingError) → IfOk x (λ required. (required ≡ 0) × (after ≡ before ++ written_alone []))
        → IfErr x (λ e. (e ≡ Memory) × (after ≡ before))
        → Encodes old (without_named (begun old)) stream [] before after x
    go (Ok required) k none =
        rw k.0 (
          checks,
          inl (record {
            room = room;
            section = (nothing_chosen stream d.table before after d.unsent k.1).0;
            known = λ no. omega arith;
            new_is = refl;
          }),
        )
    go (Err e) k none = (
      none.1,
      inr (
        checks,
        none.0,
        inr (inr (record {
          room = room;
          lines = gives_up_chosen_alone WhereShorter [] (Err codec.Memory) d.table (without_references d.table) d.unsent refl;
          new_is = refl;
        })),
      ),
    )

same_limit : (n : ℕ) (t : Table) → without_references (with_limit n t) ≡ with_limit n (without_references t)
unfolding without_references
same_limit n t = refl

-- and there is nothing to choose
pub nothing_wished : (old new : EncodingEnd) (stream : ℕ) (before after : List ℕ) (r : Result ℕ EncodingError)
    → new ≡ without_named (begun old) → IfOk r (λ required. (required ≡ 0) × (after ≡ before ++ written_alone []))
    → EncodesAsWished old new stream [] [] before after r
nothing_wished old new stream before after (Err e) is k = tt
nothing_wished old new stream before after (Ok required) is k = λ room.
    subst (λ (n : EncodingEnd). KeepsWishes (limited may (begun old)) (limited may n) stream [] [] before after required)
    (sym is) (rw k.0 (record {
      section = section.0;
      suit = λ some. subst (λ (cs : List Chosen). SuitAlong (insert_count (limited may (begun old)).table)
          (empty_draft (limited may (begun old)).table) [] [] cs) (sym section.1) tt;
    }))
  where
    may : Bool
    may = may_block (begun old) stream

    t : Table
    t = with_limit (limit_for may) (begun old).table

    section : (c : EncodesChosen WhereShorter stream [] t (with_limit (limit_for may) (without_references (begun old).table)) before
        after (begun old).unsent (begun old).unsent 0) × (c.choices ≡ [])
    section =
        subst (λ (u : Table). (c : EncodesChosen WhereShorter stream [] t u before after (begun old).unsent (begun old).unsent 0)
        × (c.choices ≡ [])) (same_limit (limit_for may) (begun old).table)
        (nothing_chosen stream t before after (begun old).unsent k.1)

-- where the section that references no entry does not fit, memory may be asked for
pub alone_asks : {A : Type 0} (fields : List FieldLine) (section : Vec ℕ A) → HasNoRoomAlone fields section
    → AsksForSection fields section
alone_asks [] section full =
    inr (omega (arith, full, two_bytes, ap (λ (l : List ℕ). length l) nothing_written))
alone_asks (f ∷ fs) section full = inl (λ is. absurd cc)

-- what is refused has no room
pub refused_alone : {A E F : Type 0} (fields : List FieldLine) (section : Vec ℕ A) (r : Result E F) (e : F)
    → (vec_len section + length (written_alone fields) ≤ vec_capacity section → IsOk r) → r ≡ Err e
    → HasNoRoomAlone fields section
refused_alone fields section r e succeeds is =
    let full : vec_len section + length (written_alone fields) ≤ vec_capacity section → ⊥ =
    λ fits. no_err r e (succeeds fits) is in
    omega (arith, full)
