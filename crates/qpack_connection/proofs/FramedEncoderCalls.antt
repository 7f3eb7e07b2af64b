-- An encoding end that keeps all that it wrote: a call adds to that what it writes, as of an end of which all was sent.
use Rattle.std.proofs.Common.{◌≡◌, ℕ, List, [], ◌++◌, Option, None, Some, Result, Ok, Err, ◌⊎◌, inl, inr, take}
use Rattle.std.proofs.Common.{refl, sym, ap, subst, ◌∙◌, append_assoc}
use Rattle.std.proofs.lemmas.List.{append-nil}
use Rattle.std.specs.Prelude.{⊤}
use Rattle.qpack_spec.specs.Field.{FieldLine}
use Rattle.qpack_spec.specs.Instruction.{SetCapacity, written_encoder_instruction, coded_encoder_instructions}
use Rattle.qpack_spec.specs.Chosen.{chosen_rule}
use Rattle.qpack_spec.specs.Text.{WhereShorter}
use Rattle.qpack_encoding.specs.declared.encoder.EncodingError.{EncodingError}
use Rattle.qpack_encoding.specs.declared.encoder.EncodingError.TheVariants.{Memory}
use Rattle.qpack_spec.specs.Table.{Table, with_capacity}
use Rattle.qpack_spec.specs.Window.{TableRefusal, DoesNotFit}
use Rattle.qpack_encoding.specs.Encoders.{EncodingEnd, begun, begun_with, told_if, waiting, WritesSection, WritesAlone}
use Rattle.qpack_encoding.specs.Encoders.{GivesUpSection, Shrinks}
use Rattle.qpack_encoding.specs.Encoders.{AsksFirst, StopsForMemory, Encodes, SetsIt, SetsCapacity, TellsCapacity}
use Rattle.qpack_encoding.specs.Encoders.{IsNoCapacity}
use Rattle.qpack_encoding.specs.Encoders.{Checks}

-- the end with other bytes that are to be sent
abbrev pub with_unsent : List ℕ → EncodingEnd → EncodingEnd
with_unsent unsent e = record e { unsent = unsent }

-- a call adds so much to what was written, and is this call of an end of which all was sent
pub record Adds (e e' : EncodingEnd) (Call : EncodingEnd → EncodingEnd → Type 0) : Type 0 where
  pub more : List ℕ
  pub written : e'.unsent ≡ e.unsent ++ more
  pub call : Call (with_unsent [] e) (with_unsent more e')

-- nothing is added where the end is as before
pub unchanged_adds : (e e' : EncodingEnd) (Call : EncodingEnd → EncodingEnd → Type 0) → e' ≡ e
    → (with_unsent [] e' ≡ with_unsent [] e → Call (with_unsent [] e) (with_unsent [] e')) → Adds e e' Call
unchanged_adds e e' Call same call =
    record {
      more = [];
      written = ap (λ (y : EncodingEnd). y.unsent) same ∙ sym (append-nil e.unsent);
      call = call (ap (with_unsent []) same);
    }

-- ---- the capacity that waits

record Begun (d : EncodingEnd) : Type 0 where
  more : List ℕ
  written : (begun d).unsent ≡ d.unsent ++ more
  same : begun (with_unsent [] d) ≡ with_unsent more (begun d)

told_by : (n : ℕ) (d : EncodingEnd) (r : Result Table TableRefusal)
    → (more : List ℕ) × ((told_if n d r).unsent ≡ d.unsent ++ more)
    × (told_if n (with_unsent [] d) r ≡ with_unsent more (told_if n d r))
told_by n d (Ok t) = (written_encoder_instruction (SetCapacity n), refl, refl)
told_by n d (Err e) = ([], sym (append-nil d.unsent), refl)

begun_by : (o : Option ℕ) (d : EncodingEnd)
    → (more : List ℕ) × ((begun_with o d).unsent ≡ d.unsent ++ more)
    × (begun_with o (with_unsent [] d) ≡ with_unsent more (begun_with o d))
begun_by None d = ([], sym (append-nil d.unsent), refl)
begun_by (Some n) d = told_by n d (with_capacity d.table n)

begun_framed : (d : EncodingEnd) → Begun d
begun_framed d = let b = begun_by d.wanted d in record { more = b.0; written = b.1; same = b.2 }

-- ---- a section

module _ (e e' : EncodingEnd) (s : ℕ) (fields : List FieldLine) (section : List ℕ) where
  abbrev IsEncode : Result ℕ EncodingError → EncodingEnd → EncodingEnd → Type 0
  IsEncode answer x y = Encodes x y s fields [] section answer

  writes_framed : (required : ℕ) (b : Begun e) → WritesSection (begun e) e' s fields [] section required
      → (more : List ℕ) × (e'.unsent ≡ e.unsent ++ more)
      × WritesSection (begun (with_unsent [] e)) (with_unsent more e') s fields [] section required
  writes_framed required b w =
      let added = coded_encoder_instructions WhereShorter (chosen_rule (begun e).table fields w.section.choices).instructions in
      let more = b.more ++ added in (
        more,
        w.section.written ∙ ap (λ (x : List ℕ). x ++ added) b.written ∙ append_assoc e.unsent b.more added,
        subst (λ (x : EncodingEnd). WritesSection x (with_unsent more e') s fields [] section required) (sym b.same)
            (record {
              room = w.room;
              section = record {
                choices = w.section.choices;
                required_is = w.section.required_is;
                table = w.section.table;
                block = w.section.block;
                written = refl;
              };
              known = w.known;
              new_is = ap (with_unsent more) w.new_is;
            }),
      )

  alone_framed : (required : ℕ) (b : Begun e) → WritesAlone (begun e) e' fields [] section required
      → (more : List ℕ) × (e'.unsent ≡ e.unsent ++ more)
      × WritesAlone (begun (with_unsent [] e)) (with_unsent more e') fields [] section required
  alone_framed required b w = (
    b.more,
    ap (λ (y : EncodingEnd). y.unsent) w.new_is ∙ b.written,
    subst (λ (x : EncodingEnd). WritesAlone x (with_unsent b.more e') fields [] section required) (sym b.same)
        (record {
          alone = w.alone;
          required_is = w.required_is;
          section = w.section;
          new_is = ap (with_unsent b.more) w.new_is;
        }),
  )

  gives_up_framed : (b : Begun e) → GivesUpSection (begun e) e' fields
      → (more : List ℕ) × (e'.unsent ≡ e.unsent ++ more)
      × GivesUpSection (begun (with_unsent [] e)) (with_unsent more e') fields
  gives_up_framed b w =
      let added = coded_encoder_instructions WhereShorter
      (chosen_rule (begun e).table (take w.lines.many fields) w.lines.choices).instructions in
      let more = b.more ++ added in (
        more,
        w.lines.written ∙ ap (λ (x : List ℕ). x ++ added) b.written ∙ append_assoc e.unsent b.more added,
        subst (λ (x : EncodingEnd). GivesUpSection x (with_unsent more e') fields) (sym b.same)
            (record {
              room = w.room;
              lines = record {
                many = w.lines.many;
                choices = w.lines.choices;
                table = w.lines.table;
                written = refl;
              };
              new_is = ap (with_unsent more) w.new_is;
            }),
      )

  begun_told : (b : Begun e) → e' ≡ begun e
      → (more : List ℕ) × (e'.unsent ≡ e.unsent ++ more)
      × (with_unsent more e' ≡ begun (with_unsent [] e))
  begun_told b same = (
    b.more,
    ap (λ (y : EncodingEnd). y.unsent) same ∙ b.written,
    ap (with_unsent b.more) same ∙ sym b.same,
  )

  by_memory : (x : EncodingError) → x ≡ Memory → [] ≡ section → Checks e s (Ok tt) → StopsForMemory e e' s fields
      → Adds e e' (IsEncode (Err x))
  by_memory x memory none checks (inl stops) =
      unchanged_adds e e' (IsEncode (Err x)) stops.1
      (λ same. (sym none, inr (checks, memory, inl (stops.0, same))))
  by_memory x memory none checks (inr (inl stops)) =
      let b = begun_framed e in
      let f = begun_told b stops.1 in
      record {
        more = f.0;
        written = f.1;
        call = (
          sym none,
          inr (checks, memory, inr (inl (subst (λ (y : EncodingEnd). AsksFirst y s) (sym b.same) stops.0, f.2))),
        );
      }
  by_memory x memory none checks (inr (inr stops)) =
      let f = gives_up_framed (begun_framed e) stops in
      record { more = f.0; written = f.1; call = (sym none, inr (checks, memory, inr (inr f.2))) }

  by_error : (x : EncodingError) → section ≡ []
      → (Checks e s (Err x) × (e' ≡ e)) ⊎ (Checks e s (Ok tt) × (x ≡ Memory) × StopsForMemory e e' s fields)
      → Adds e e' (IsEncode (Err x))
  by_error x none (inl stops) =
      unchanged_adds e e' (IsEncode (Err x)) stops.1 (λ same. (none, inl (stops.0, same)))
  by_error x none (inr stops) = by_memory x stops.1 (sym none) stops.0 stops.2

  by_kind : (required : ℕ) → Checks e s (Ok tt)
      → WritesSection (begun e) e' s fields [] section required ⊎ WritesAlone (begun e) e' fields [] section required
      → Adds e e' (IsEncode (Ok required))
  by_kind required checks (inl w) =
      let f = writes_framed required (begun_framed e) w in
      record { more = f.0; written = f.1; call = (checks, inl f.2) }
  by_kind required checks (inr w) =
      let f = alone_framed required (begun_framed e) w in
      record { more = f.0; written = f.1; call = (checks, inr f.2) }

  pub encode_framed : (answer : Result ℕ EncodingError) → Encodes e e' s fields [] section answer
      → Adds e e' (IsEncode answer)
  encode_framed (Ok required) call = by_kind required call.0 call.1
  encode_framed (Err x) call = by_error x call.0 call.1

-- ---- a capacity

module _ (e e' : EncodingEnd) (n : ℕ) where
  abbrev IsSetting : Result ⊤ EncodingError → EncodingEnd → EncodingEnd → Type 0
  IsSetting answer x y = SetsCapacity x y n answer

  set_framed : e.failure ≡ None → SetsIt e e' n → Adds e e' (IsSetting (Ok tt))
  set_framed alive (inl none) =
      unchanged_adds e e' (IsSetting (Ok tt)) none.1 (λ same. (alive, inl (none.0, same)))
  set_framed alive (inr tells) =
      record {
        more = written_encoder_instruction (SetCapacity n);
        written = ap (λ (y : EncodingEnd). y.unsent) tells.1.1;
        call = (
          alive,
          inr (tells.0, (tells.1.0, ap (with_unsent (written_encoder_instruction (SetCapacity n))) tells.1.1)),
        );
      }

  refused_set : (x : EncodingError)
      → ((e.failure ≡ Some x) × (e' ≡ e))
      ⊎ ((e.failure ≡ None) × (IsNoCapacity e n → ⊥) × TellsCapacity e e' n (Err x))
      → Adds e e' (IsSetting (Err x))
  refused_set x (inl ended) =
      unchanged_adds e e' (IsSetting (Err x)) ended.1 (λ same. (inl (ended.0, same)))
  refused_set x (inr stops) =
      unchanged_adds e e' (IsSetting (Err x)) stops.2.1 (λ same. (inr (stops.0, stops.1, (stops.2.0, same))))

  pub capacity_framed : (answer : Result ⊤ EncodingError) → SetsCapacity e e' n answer → Adds e e' (IsSetting answer)
  capacity_framed (Ok it) call = set_framed call.0 call.1
  capacity_framed (Err x) call = refused_set x call

  abbrev IsShrink : Result ⊤ EncodingError → EncodingEnd → EncodingEnd → Type 0
  IsShrink answer x y = Shrinks x y n answer

  shrunk_framed : e.failure ≡ None
      → SetsIt e e' n ⊎ ((with_capacity e.table n ≡ Err DoesNotFit) × (e' ≡ waiting n e))
      → Adds e e' (IsShrink (Ok tt))
  shrunk_framed alive (inl sets) =
      let f = set_framed alive sets in
      record { more = f.more; written = f.written; call = (f.call.0, inl f.call.1) }
  shrunk_framed alive (inr waits) =
      record {
        more = [];
        written = ap (λ (y : EncodingEnd). y.unsent) waits.1 ∙ sym (append-nil e.unsent);
        call = (alive, inr (waits.0, ap (with_unsent []) waits.1));
      }

  pub shrink_framed : (answer : Result ⊤ EncodingError) → Shrinks e e' n answer → Adds e e' (IsShrink answer)
  shrink_framed (Ok it) call = shrunk_framed call.0 call.1
  shrink_framed (Err x) call =
      let f = refused_set x call.1 in
      record { more = f.more; written = f.written; call = (call.0, f.call) }
