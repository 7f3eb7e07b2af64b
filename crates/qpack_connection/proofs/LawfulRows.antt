-- RFC 9204, appendix B, is what lawful ends write.
use Rattle.std.proofs.Common.{ℕ, ◌≡◌, ◌<◌, ◌≤◌, ◌+◌, ◌-◌, ◌%◌, ◌/◌, ◌^◌, zero, suc, true, false, List, []}
use Rattle.std.proofs.Common.{◌∷◌, ◌++◌, length}
use Rattle.std.proofs.Common.{Option, Some, Ok, inl, refl, sym, ap, ◌∙◌, subst, arith, lit≤}
use Rattle.std.specs.Prelude.{codes, nat_eq, take, drop, slice_get}
use Rattle.std.specs.List.{AllByRecursion}
use Rattle.std.proofs.lemmas.Bool.{eq-eqb}
use Rattle.std.proofs.lemmas.List.{take-append-drop, append-nil}
use Rattle.qpack_spec.specs.Field.{Field, FieldLine, unmarked}
use Rattle.qpack_spec.specs.Form.{Form, Index, Spells, Truncates, HoldsIndex, HoldsText, InTurn, BadInteger}
use Rattle.qpack_spec.specs.Form.{form_at}
use Rattle.qpack_spec.specs.History.{History}
use Rattle.qpack_spec.specs.Instruction.{DecoderInstruction, Acknowledgment, Cancellation, Increment}
use Rattle.qpack_spec.specs.Instruction.{encoder_instruction_form, decoder_instruction_form, SpellsEncoderInstruction}
use Rattle.qpack_spec.specs.Instruction.{SpellsDecoderInstruction}
use Rattle.qpack_spec.specs.Integer.{full, SpellsInteger, UnexpectedEnd}
use Rattle.qpack_rules.specs.LawfulEncoders.{IsInsertion, MayBeReferenced, SpellsField, TellsPrefix}
use Rattle.qpack_rules.specs.LawfulEncoders.{IsLawfulSection, IsLawfulEncoder}
use Rattle.qpack_spec.specs.Line.{IndexedStatic, IndexedDynamic, IndexedPostBase, NamedStatic, NamedDynamic}
use Rattle.qpack_spec.specs.Line.{NamedPostBase, Literal, line_form}
use Rattle.qpack_spec.specs.Reading.{references_of_line}
use Rattle.qpack_spec.specs.Prefix.{Prefix, SpellsPrefix}
use Rattle.qpack_spec.specs.StaticTable.{field}
use Rattle.qpack_spec.specs.Stream.{SpellsAll}
use Rattle.qpack_rules.specs.StrictInstructions.{strict_apply}
use Rattle.qpack_spec.specs.StrictReading.{is_never_indexed}
use Rattle.qpack_spec.specs.Table.{has_number}
use Rattle.qpack_spec.specs.Window.{Inserts, Resizes}
use Rattle.qpack_spec.proofs.Computing.{computed}
use Rattle.qpack_spec.proofs.FormLaws.{form_takes, reads_form_truncation}
use Rattle.qpack_shared.specs.declared.streams.BlockedStream.{BlockedStream}
use Rattle.qpack_decoding.specs.Decoders.{DecodingEnd}
use Rattle.qpack_encoding.specs.Hearing.{Receives}
use Rattle.qpack_shared.specs.Places.{behind}
use Rattle.qpack_connection.specs.LawfulDecoders as decoders
use Rattle.qpack_connection.specs.LawfulEncoders.{UnderWay, Encoder, IsLawful, IsUnderWay, IsAtRisk, Differ}
use Rattle.qpack_connection.specs.LawfulEncoders.{KeepsToLimit}
use Rattle.qpack_connection.specs.LawfulRows.{authority, sample_path, custom, custom2, index_html}
use Rattle.qpack_connection.specs.LawfulRows.{sent_first, sent_literal, sent_duplicate, sent_evicting}
use Rattle.qpack_connection.specs.LawfulRows.{bytes_first, bytes_literal, bytes_duplicate, bytes_evicting}
use Rattle.qpack_connection.specs.LawfulRows.{encoder_begun, encoder_first, encoder_literal, encoder_duplicate}
use Rattle.qpack_connection.specs.LawfulRows.{encoder_evicting, decoder_after, AppendixEncoderIsLawful}
use Rattle.qpack_connection.specs.LawfulRows.{section_static, section_marked, section_post_base, section_dynamic}
use Rattle.qpack_connection.specs.LawfulRows.{section_above, section_names, fields_post_base, fields_dynamic}
use Rattle.qpack_connection.specs.LawfulRows.{fields_names, waits_on_4, AppendixSectionsAreLawful}
use Rattle.qpack_connection.specs.LawfulRows.{table_after, encoder_after, open_on_4, open_on_8, encoder_unheard}
use Rattle.qpack_connection.specs.LawfulRows.{AppendixDecoderIsLawful, AppendixSectionsAreInOrder}
use Rattle.qpack_connection.specs.LawfulRows.{AppendixDecoderIsPeer}

-- all that has to unfold
unfoldable pub rows : ℕ
unfolding computed strict_apply is_never_indexed
rows = 0

-- ---- the encoder stream

-- these are read in turn, from left to right
abbrev ReadInTurn : {L : Type 0} → (ℕ → Option (Form L)) → List ℕ → List L → Type 0
ReadInTurn form_of bytes [] = bytes ≡ []
ReadInTurn form_of bytes (l ∷ ls) =
    (rest : List ℕ) × (form_at form_of bytes ≡ Ok (l, rest)) × ReadInTurn form_of rest ls

pub read_spelled : {L : Type 0} (form_of : ℕ → Option (Form L)) (bytes : List ℕ) (ls : List L)
    → ReadInTurn form_of bytes ls → SpellsAll (λ t x. Spells L form_of t x) bytes ls
read_spelled form_of bytes [] e = e
read_spelled form_of bytes (l ∷ ls) e =
    let k = form_takes form_of bytes l e.0 e.1 in
    (k.encoding, e.0, k.parts, k.spells, read_spelled form_of e.0 ls e.2)

pub first_spelled : SpellsAll SpellsEncoderInstruction bytes_first sent_first
unfolding rows
first_spelled =
    read_spelled encoder_instruction_form bytes_first sent_first (_, refl, (_, refl, (_, refl, refl)))

literal_spelled : SpellsAll SpellsEncoderInstruction bytes_literal sent_literal
unfolding rows
literal_spelled =
    read_spelled encoder_instruction_form bytes_literal sent_literal
    (_, refl, (_, refl, (_, refl, (_, refl, refl))))

duplicate_spelled : SpellsAll SpellsEncoderInstruction bytes_duplicate sent_duplicate
unfolding rows
duplicate_spelled =
    read_spelled encoder_instruction_form bytes_duplicate sent_duplicate
    (_, refl, (_, refl, (_, refl, (_, refl, (_, refl, refl)))))

evicting_spelled : SpellsAll SpellsEncoderInstruction bytes_evicting sent_evicting
unfolding rows
evicting_spelled =
    read_spelled encoder_instruction_form bytes_evicting sent_evicting
    (_, refl, (_, refl, (_, refl, (_, refl, (_, refl, (_, refl, refl))))))

begun_lawful : IsLawfulEncoder 220 0 encoder_begun.sent encoder_begun.made
unfolding rows
begun_lawful = record { taken = refl; makes = refl; evicted = lit≤ tt }

pub first_lawful : IsLawfulEncoder 220 0 encoder_first.sent encoder_first.made
unfolding rows
first_lawful =
    record {
      taken = refl;
      makes = (Resizes 220, refl, (Inserts authority, refl, (Inserts sample_path, refl, refl)));
      evicted = lit≤ tt;
    }

literal_lawful : IsLawfulEncoder 220 2 encoder_literal.sent encoder_literal.made
unfolding rows
literal_lawful =
    record {
      taken = refl;
      makes = (
        Resizes 220,
        refl,
        (Inserts authority, refl, (Inserts sample_path, refl, (Inserts custom, refl, refl))),
      );
      evicted = lit≤ tt;
    }

duplicate_lawful : IsLawfulEncoder 220 3 encoder_duplicate.sent encoder_duplicate.made
unfolding rows
duplicate_lawful =
    record {
      taken = refl;
      makes = (
        Resizes 220,
        refl,
        (
          Inserts authority,
          refl,
          (Inserts sample_path, refl, (Inserts custom, refl, (Inserts authority, refl, refl))),
        ),
      );
      evicted = lit≤ tt;
    }

evicting_lawful : IsLawfulEncoder 220 3 encoder_evicting.sent encoder_evicting.made
unfolding rows
evicting_lawful =
    record {
      taken = refl;
      makes = (
        Resizes 220,
        refl,
        (
          Inserts authority,
          refl,
          (
            Inserts sample_path,
            refl,
            (Inserts custom, refl, (Inserts authority, refl, (Inserts custom2, refl, refl))),
          ),
        ),
      );
      evicted = lit≤ tt;
    }

-- whichever front of the bytes comes
pub cut_anywhere : (p : Encoder) (d : DecodingEnd) (many : ℕ)
    → IsLawfulEncoder d.settings.max_capacity p.known p.sent p.made
    → SpellsAll SpellsEncoderInstruction p.bytes p.sent → p.known ≤ d.reported → IsLawful p d (take many p.bytes)
cut_anywhere p d many encoder spelled told =
    record {
      encoder = encoder;
      spelled = spelled;
      behind = drop many p.bytes;
      come_is = sym (take-append-drop many p.bytes);
      told = told;
    }

pub appendix_encoder : AppendixEncoderIsLawful
appendix_encoder many = (
  cut_anywhere encoder_begun (decoder_after encoder_begun 0 []) many begun_lawful refl (lit≤ tt),
  cut_anywhere encoder_first (decoder_after encoder_begun 0 []) many first_lawful first_spelled (lit≤ tt),
  cut_anywhere encoder_literal (decoder_after encoder_first 2 []) many literal_lawful literal_spelled (lit≤ tt),
  cut_anywhere encoder_duplicate (decoder_after encoder_literal 3 []) many duplicate_lawful duplicate_spelled
      (lit≤ tt),
  cut_anywhere encoder_evicting (decoder_after encoder_duplicate 4 []) many evicting_lawful evicting_spelled
      (lit≤ tt),
)

-- ---- lines

-- one byte that is an integer
number : (n b : ℕ) → b % 2 ^ n < full n → SpellsInteger n (b ∷ []) (b / 2 ^ n) (b % 2 ^ n)
number n b low =
    record { stands = (refl, inl (record { alone = refl; below = low; is = refl })); few = lit≤ tt }

-- the prefix of two bytes
unfoldable prefix : (c d : ℕ) → Prefix
prefix c d = record { count = c % 2 ^ 8; sign = nat_eq (d / 2 ^ 7) 1; delta = d % 2 ^ 7 }

prefix_spelled : (c d : ℕ) → c % 2 ^ 8 < full 8 → d % 2 ^ 7 < full 7 → SpellsPrefix (c ∷ d ∷ []) (prefix c d)
unfolding prefix
prefix_spelled c d low below =
    record {
      head = c ∷ [];
      tail = d ∷ [];
      parts = refl;
      count = (c / 2 ^ 8, number 8 c low);
      sign = d / 2 ^ 7;
      is_sign = refl;
      delta = number 7 d below;
    }

-- an index of one byte, and then a value, which is not coded
by_index : (n b len : ℕ) (value : List ℕ) → b % 2 ^ n < full n → length value ≡ len → len < full 7
    → InTurn (HoldsIndex n (b % 2 ^ n)) (HoldsText 8 value) (b ∷ len ∷ value)
by_index n b len value low is short =
    record {
      head = b ∷ [];
      tail = len ∷ value;
      parts = refl;
      first = (b / 2 ^ n, number n b low);
      second = (
        0,
        inl (record {
          head = len ∷ [];
          parts = refl;
          spells = record {
            stands = (
              omega (arith, short),
              inl (record { alone = refl; below = omega (arith, short); is = omega (arith, is, short) }),
            );
            few = lit≤ tt;
          };
        }),
      );
    }

-- the line of :path and the value /index.html, by the name's static index, and the same marked
static_line : SpellsField encoder_begun.made 0 0 (0x51 ∷ 0x0b ∷ codes "/index.html") (unmarked index_html)
unfolding rows
static_line =
    record {
      line = NamedStatic 1 (codes "/index.html");
      spelled = record {
        first = 0x51;
        more = 0x0b ∷ codes "/index.html";
        form = _;
        begins = refl;
        names = refl;
        spells = (1, codes "/index.html", by_index 4 0x51 0x0b (codes "/index.html") (lit≤ tt) refl (lit≤ tt), refl);
      };
      means = (field (codes ":path") (codes "/"), refl, refl);
      marked = refl;
      references = tt;
    }

marked_line : SpellsField encoder_begun.made 0 0 (0x71 ∷ 0x0b ∷ codes "/index.html")
    (record { field = index_html; never_indexed = true })
unfolding rows
marked_line =
    record {
      line = NamedStatic 1 (codes "/index.html");
      spelled = record {
        first = 0x71;
        more = 0x0b ∷ codes "/index.html";
        form = _;
        begins = refl;
        names = refl;
        spells = (1, codes "/index.html", by_index 4 0x71 0x0b (codes "/index.html") (lit≤ tt) refl (lit≤ tt), refl);
      };
      means = (field (codes ":path") (codes "/"), refl, refl);
      marked = refl;
      references = tt;
    }

-- lines of one byte: an entry above the base, an entry below it, and a static field
above_line : (made : History) (required base b : ℕ) (f : Field) → line_form b ≡ Some (Index 4 IndexedPostBase)
    → b % 2 ^ 4 < full 4 → IsInsertion made.inserted (base + b % 2 ^ 4 + 1) f
    → MayBeReferenced made required (base + b % 2 ^ 4 + 1) → is_never_indexed b ≡ false
    → SpellsField made required base (b ∷ []) (unmarked f)
unfolding references_of_line
above_line made required base b f names low is may free =
    record {
      line = IndexedPostBase (b % 2 ^ 4);
      spelled = record {
        first = b;
        more = [];
        form = Index 4 IndexedPostBase;
        begins = refl;
        names = names;
        spells = (b % 2 ^ 4, (b / 2 ^ 4, number 4 b low), refl);
      };
      means = is;
      marked = free;
      references = (may, tt);
    }

below_line : (made : History) (required base b : ℕ) (f : Field) → line_form b ≡ Some (Index 6 IndexedDynamic)
    → b % 2 ^ 6 < full 6 → IsInsertion made.inserted (base - b % 2 ^ 6) f
    → MayBeReferenced made required (base - b % 2 ^ 6) → is_never_indexed b ≡ false
    → SpellsField made required base (b ∷ []) (unmarked f)
unfolding references_of_line
below_line made required base b f names low is may free =
    record {
      line = IndexedDynamic (b % 2 ^ 6);
      spelled = record {
        first = b;
        more = [];
        form = Index 6 IndexedDynamic;
        begins = refl;
        names = names;
        spells = (b % 2 ^ 6, (b / 2 ^ 6, number 6 b low), refl);
      };
      means = is;
      marked = free;
      references = (may, tt);
    }

path_line : (made : History) (required base : ℕ)
    → SpellsField made required base (0xc1 ∷ []) (unmarked (field (codes ":path") (codes "/")))
unfolding rows
path_line made required base =
    record {
      line = IndexedStatic 1;
      spelled = record {
        first = 0xc1;
        more = [];
        form = _;
        begins = refl;
        names = refl;
        spells = (1, (3, number 6 0xc1 (lit≤ tt)), refl);
      };
      means = refl;
      marked = refl;
      references = tt;
    }

-- the names of an entry below the base and of one above it, and literal names, each with the value x
name_below : SpellsField encoder_duplicate.made 4 2 (0x40 ∷ 0x01 ∷ 0x78 ∷ [])
    (unmarked (field (codes ":path") (codes "x")))
unfolding rows
name_below =
    record {
      line = NamedDynamic 0 (codes "x");
      spelled = record {
        first = 0x40;
        more = 0x01 ∷ 0x78 ∷ [];
        form = _;
        begins = refl;
        names = refl;
        spells = (0, codes "x", by_index 4 0x40 0x01 (codes "x") (lit≤ tt) refl (lit≤ tt), refl);
      };
      means = (sample_path, (lit≤ tt, refl), refl);
      marked = refl;
      references = ((lit≤ tt, lit≤ tt), tt);
    }

name_above : SpellsField encoder_duplicate.made 4 2 (0x09 ∷ 0x01 ∷ 0x78 ∷ [])
    (record { field = field (codes ":authority") (codes "x"); never_indexed = true })
unfolding rows
name_above =
    record {
      line = NamedPostBase 1 (codes "x");
      spelled = record {
        first = 0x09;
        more = 0x01 ∷ 0x78 ∷ [];
        form = _;
        begins = refl;
        names = refl;
        spells = (1, codes "x", by_index 3 0x09 0x01 (codes "x") (lit≤ tt) refl (lit≤ tt), refl);
      };
      means = (authority, (lit≤ tt, refl), refl);
      marked = refl;
      references = ((lit≤ tt, lit≤ tt), tt);
    }

name_literal : SpellsField encoder_duplicate.made 4 2 (0x23 ∷ codes "foo" ++ 0x01 ∷ 0x78 ∷ [])
    (unmarked (field (codes "foo") (codes "x")))
unfolding rows
name_literal =
    record {
      line = Literal (codes "foo") (codes "x");
      spelled = record {
        first = 0x23;
        more = codes "foo" ++ 0x01 ∷ 0x78 ∷ [];
        form = _;
        begins = refl;
        names = refl;
        spells = (
          codes "foo",
          codes "x",
          record {
            head = 0x23 ∷ codes "foo";
            tail = 0x01 ∷ 0x78 ∷ [];
            parts = refl;
            first = (2, inl (record { head = 0x23 ∷ []; parts = refl; spells = number 3 0x23 (lit≤ tt) }));
            second = (0, inl (record { head = 0x01 ∷ []; parts = refl; spells = number 7 0x01 (lit≤ tt) }));
          },
          refl,
        );
      };
      means = refl;
      marked = refl;
      references = tt;
    }

name_marked : SpellsField encoder_duplicate.made 4 2 (0x33 ∷ codes "foo" ++ 0x01 ∷ 0x78 ∷ [])
    (record { field = field (codes "foo") (codes "x"); never_indexed = true })
unfolding rows
name_marked =
    record {
      line = Literal (codes "foo") (codes "x");
      spelled = record {
        first = 0x33;
        more = codes "foo" ++ 0x01 ∷ 0x78 ∷ [];
        form = _;
        begins = refl;
        names = refl;
        spells = (
          codes "foo",
          codes "x",
          record {
            head = 0x33 ∷ codes "foo";
            tail = 0x01 ∷ 0x78 ∷ [];
            parts = refl;
            first = (3, inl (record { head = 0x33 ∷ []; parts = refl; spells = number 3 0x33 (lit≤ tt) }));
            second = (0, inl (record { head = 0x01 ∷ []; parts = refl; spells = number 7 0x01 (lit≤ tt) }));
          },
          refl,
        );
      };
      means = refl;
      marked = refl;
      references = tt;
    }

-- ---- sections

-- a section whose prefix is two bytes
section : (maximum : ℕ) (made : History) (required base c d : ℕ) (fields : List FieldLine) (tail : List ℕ) → base < 2 ^ 64
    → c % 2 ^ 8 < full 8 → d % 2 ^ 7 < full 7 → TellsPrefix maximum required base (prefix c d)
    → SpellsAll (SpellsField made required base) tail fields → required ≤ length made.inserted
    → (0 < required → made.dropped < required) → IsLawfulSection maximum made required fields (c ∷ d ∷ tail)
section maximum made required base c d fields tail small low below tells lines inserted held =
    record {
      base = base;
      small = small;
      prefix = prefix c d;
      head = c ∷ d ∷ [];
      tail = tail;
      cut = refl;
      prefix_spelled = prefix_spelled c d low below;
      tells = tells;
      lines_spelled = lines;
      inserted = inserted;
      held = held;
    }

-- what the prefixes tell: nothing required; two of base 0; and four of bases 4, 5 and 2
tells_none : TellsPrefix 220 0 0 (prefix 0 0)
unfolding prefix
tells_none =
    record {
      none = λ _. refl;
      some = λ e. absurd (omega (arith, e));
      above = λ _. refl;
      below = λ e. absurd (let x = e in cc);
    }

tells_post_base : TellsPrefix 220 2 0 (prefix 0x03 0x81)
unfolding prefix
tells_post_base =
    record {
      none = λ e. absurd (omega (arith, e));
      some = λ _. refl;
      above = λ e. absurd (let x = e in cc);
      below = λ _. refl;
    }

tells_dynamic : TellsPrefix 220 4 4 (prefix 0x05 0x00)
unfolding prefix
tells_dynamic =
    record {
      none = λ e. absurd (omega (arith, e));
      some = λ _. refl;
      above = λ _. refl;
      below = λ e. absurd (let x = e in cc);
    }

tells_above : TellsPrefix 220 4 5 (prefix 0x05 0x01)
unfolding prefix
tells_above =
    record {
      none = λ e. absurd (omega (arith, e));
      some = λ _. refl;
      above = λ _. refl;
      below = λ e. absurd (let x = e in cc);
    }

tells_names : TellsPrefix 220 4 2 (prefix 0x05 0x81)
unfolding prefix
tells_names =
    record {
      none = λ e. absurd (omega (arith, e));
      some = λ _. refl;
      above = λ e. absurd (let x = e in cc);
      below = λ _. refl;
    }

static_section : IsLawfulSection 220 encoder_begun.made 0 (unmarked index_html ∷ []) section_static
static_section =
    section 220 encoder_begun.made 0 0 0 0 (unmarked index_html ∷ []) (0x51 ∷ 0x0b ∷ codes "/index.html") (lit≤ tt)
    (lit≤ tt) (lit≤ tt) tells_none (0x51 ∷ 0x0b ∷ codes "/index.html", [], refl, static_line, refl) (lit≤ tt)
    (λ e. absurd (omega (arith, e)))

marked_section : IsLawfulSection 220 encoder_begun.made 0 (record { field = index_html; never_indexed = true } ∷ [])
    section_marked
marked_section =
    section 220 encoder_begun.made 0 0 0 0 (record { field = index_html; never_indexed = true } ∷ [])
    (0x71 ∷ 0x0b ∷ codes "/index.html") (lit≤ tt) (lit≤ tt) (lit≤ tt) tells_none
    (0x71 ∷ 0x0b ∷ codes "/index.html", [], refl, marked_line, refl) (lit≤ tt) (λ e. absurd (omega (arith, e)))

pub post_base_section : IsLawfulSection 220 encoder_first.made 2 fields_post_base section_post_base
unfolding rows
post_base_section =
    section 220 encoder_first.made 2 0 0x03 0x81 fields_post_base (0x10 ∷ 0x11 ∷ []) (lit≤ tt) (lit≤ tt) (lit≤ tt)
    tells_post_base (
      0x10 ∷ [],
      0x11 ∷ [],
      refl,
      above_line encoder_first.made 2 0 0x10 authority refl (lit≤ tt) (lit≤ tt, refl) (lit≤ tt, lit≤ tt) refl,
      (
        0x11 ∷ [],
        [],
        refl,
        above_line encoder_first.made 2 0 0x11 sample_path refl (lit≤ tt) (lit≤ tt, refl) (lit≤ tt, lit≤ tt) refl,
        refl,
      ),
    )
    (lit≤ tt) (λ _. lit≤ tt)

dynamic_section : IsLawfulSection 220 encoder_duplicate.made 4 fields_dynamic section_dynamic
unfolding rows
dynamic_section =
    let made = encoder_duplicate.made in
    section 220 made 4 4 0x05 0x00 fields_dynamic (0x80 ∷ 0xc1 ∷ 0x81 ∷ []) (lit≤ tt) (lit≤ tt) (lit≤ tt) tells_dynamic (
      0x80 ∷ [],
      0xc1 ∷ 0x81 ∷ [],
      refl,
      below_line made 4 4 0x80 authority refl (lit≤ tt) (lit≤ tt, refl) (lit≤ tt, lit≤ tt) refl,
      (
        0xc1 ∷ [],
        0x81 ∷ [],
        refl,
        path_line made 4 4,
        (
          0x81 ∷ [],
          [],
          refl,
          below_line made 4 4 0x81 custom refl (lit≤ tt) (lit≤ tt, refl) (lit≤ tt, lit≤ tt) refl,
          refl,
        ),
      ),
    )
    (lit≤ tt) (λ _. lit≤ tt)

above_section : IsLawfulSection 220 encoder_duplicate.made 4 fields_dynamic section_above
unfolding rows
above_section =
    let made = encoder_duplicate.made in
    section 220 made 4 5 0x05 0x01 fields_dynamic (0x81 ∷ 0xc1 ∷ 0x82 ∷ []) (lit≤ tt) (lit≤ tt) (lit≤ tt) tells_above (
      0x81 ∷ [],
      0xc1 ∷ 0x82 ∷ [],
      refl,
      below_line made 4 5 0x81 authority refl (lit≤ tt) (lit≤ tt, refl) (lit≤ tt, lit≤ tt) refl,
      (
        0xc1 ∷ [],
        0x82 ∷ [],
        refl,
        path_line made 4 5,
        (
          0x82 ∷ [],
          [],
          refl,
          below_line made 4 5 0x82 custom refl (lit≤ tt) (lit≤ tt, refl) (lit≤ tt, lit≤ tt) refl,
          refl,
        ),
      ),
    )
    (lit≤ tt) (λ _. lit≤ tt)

names_section : IsLawfulSection 220 encoder_duplicate.made 4 fields_names section_names
names_section =
    section 220 encoder_duplicate.made 4 2 0x05 0x81 fields_names _ (lit≤ tt) (lit≤ tt) (lit≤ tt) tells_names (
      0x40 ∷ 0x01 ∷ 0x78 ∷ [],
      _,
      refl,
      name_below,
      (
        0x09 ∷ 0x01 ∷ 0x78 ∷ [],
        _,
        refl,
        name_above,
        (
          0x23 ∷ codes "foo" ++ 0x01 ∷ 0x78 ∷ [],
          _,
          refl,
          name_literal,
          (0x33 ∷ codes "foo" ++ 0x01 ∷ 0x78 ∷ [], _, refl, name_marked, refl),
        ),
      ),
    )
    (lit≤ tt) (λ _. lit≤ tt)

-- ---- the limit

-- of an encoder with one section under way no two streams that differ are at risk
pub limit_of_one : (p : Encoder) (d : DecodingEnd) (u : UnderWay) → p.sections ≡ u ∷ [] → 0 < d.settings.max_blocked
    → AllByRecursion (λ (b : BlockedStream). IsUnderWay p b.stream b.required) d.blocked
    → KeepsToLimit p d u.stream u.required
unfolding rows
limit_of_one p d u one some waiting =
    record {
      few = few;
      this = (0, ap (λ (us : List UnderWay). slice_get us 0) one);
      waiting = waiting;
    }
  where
    in_one : (i : ℕ) (v : UnderWay) → slice_get (u ∷ []) i ≡ Some v → v.stream ≡ u.stream
    in_one zero v e = let same : u ≡ v = cc in ap (λ (x : UnderWay). x.stream) (sym same)
    in_one (suc i) v e = absurd cc

    only : (s : ℕ) → IsAtRisk p s → s ≡ u.stream
    only s k =
        in_one k.1.0 (record { stream = s; required = k.0 })
        (subst (λ (us : List UnderWay). slice_get us k.1.0 ≡ Some (record { stream = s; required = k.0 })) one k.1.1)

    few : (streams : List ℕ) → Differ [] streams → AllByRecursion (IsAtRisk p) streams
        → length streams ≤ d.settings.max_blocked
    few [] differ risk = omega arith
    few (s ∷ []) differ risk = omega (arith, some)
    few (s ∷ r ∷ more) differ risk =
        let same : nat_eq s r ≡ true = eq-eqb s r (only s risk.0 ∙ sym (only r risk.1.0)) in
        let none : has_number r (s ∷ []) ≡ false = differ.1.0 in
        absurd (let twice : has_number r (s ∷ []) ≡ true = rw same refl in let e = sym none ∙ twice in cc)

pub appendix_sections : AppendixSectionsAreLawful
appendix_sections = (
  (
    static_section,
    limit_of_one encoder_begun (decoder_after encoder_begun 0 []) (record { stream = 0; required = 0 }) refl (lit≤ tt)
        tt,
  ),
  (
    marked_section,
    limit_of_one encoder_begun (decoder_after encoder_begun 0 []) (record { stream = 0; required = 0 }) refl (lit≤ tt)
        tt,
  ),
  (
    post_base_section,
    limit_of_one encoder_first (decoder_after encoder_begun 0 []) (record { stream = 4; required = 2 }) refl (lit≤ tt)
        tt,
  ),
  (
    post_base_section,
    limit_of_one encoder_first waits_on_4 (record { stream = 4; required = 2 }) refl (lit≤ tt) ((0, refl), tt),
  ),
  (dynamic_section, on_8),
  (above_section, on_8),
  (names_section, on_8),
)
  where
    on_8 : KeepsToLimit encoder_duplicate (decoder_after encoder_duplicate 4 []) 8 4
    on_8 =
        limit_of_one encoder_duplicate (decoder_after encoder_duplicate 4 []) (record { stream = 8; required = 4 })
        refl (lit≤ tt) tt

-- ---- the decoder stream

none_cut : Truncates decoder_instruction_form []
unfolding rows
none_cut = (reads_form_truncation decoder_instruction_form []).0 (BadInteger UnexpectedEnd, refl, refl)

-- these bytes are these instructions, and nothing waits
pub all_heard : (heard : List DecoderInstruction) (bytes : List ℕ) → SpellsAll SpellsDecoderInstruction bytes heard
    → Receives heard bytes (record { pending = []; place = behind heard bytes })
all_heard heard bytes spelled =
    record {
      front = bytes;
      rest = [];
      cut = sym (append-nil bytes);
      joined = spelled;
      at = refl;
      ends = (refl, none_cut);
    }

acknowledges : decoders.IsLawful (encoder_after (table_after encoder_first open_on_4 (2 ∷ [])) [] []) (0x84 ∷ [])
unfolding rows
acknowledges =
    record {
      heard = [];
      before = [];
      receives = all_heard [] [] refl;
      under_way = Acknowledgment 4 ∷ [];
      behind = [];
      spelled = read_spelled decoder_instruction_form (0x84 ∷ []) (Acknowledgment 4 ∷ []) (_, refl, refl);
      received = 2;
      made = lit≤ tt;
      known = lit≤ tt;
      may = (record { required = 2; others = []; oldest = refl; others_are = refl; decoded = lit≤ tt }, tt);
    }

reports : decoders.IsLawful (encoder_after (table_after encoder_literal [] []) (Acknowledgment 4 ∷ []) (0x84 ∷ []))
    (0x01 ∷ [])
unfolding rows
reports =
    record {
      heard = Acknowledgment 4 ∷ [];
      before = 0x84 ∷ [];
      receives = all_heard (Acknowledgment 4 ∷ []) (0x84 ∷ [])
          (read_spelled decoder_instruction_form (0x84 ∷ []) (Acknowledgment 4 ∷ []) (_, refl, refl));
      under_way = Increment 1 ∷ [];
      behind = [];
      spelled = read_spelled decoder_instruction_form (0x84 ∷ 0x01 ∷ []) (Acknowledgment 4 ∷ Increment 1 ∷ [])
          (_, refl, (_, refl, refl));
      received = 3;
      made = lit≤ tt;
      known = lit≤ tt;
      may = (lit≤ tt, lit≤ tt, tt);
    }

cancels : decoders.IsLawful (encoder_after (table_after encoder_duplicate open_on_8 (4 ∷ []))
    (Acknowledgment 4 ∷ Increment 1 ∷ []) (0x84 ∷ 0x01 ∷ [])) (0x48 ∷ [])
unfolding rows
cancels =
    record {
      heard = Acknowledgment 4 ∷ Increment 1 ∷ [];
      before = 0x84 ∷ 0x01 ∷ [];
      receives = all_heard (Acknowledgment 4 ∷ Increment 1 ∷ []) (0x84 ∷ 0x01 ∷ [])
          (read_spelled decoder_instruction_form (0x84 ∷ 0x01 ∷ []) (Acknowledgment 4 ∷ Increment 1 ∷ [])
          (_, refl, (_, refl, refl)));
      under_way = Cancellation 8 ∷ [];
      behind = [];
      spelled = read_spelled decoder_instruction_form (0x84 ∷ 0x01 ∷ 0x48 ∷ [])
          (Acknowledgment 4 ∷ Increment 1 ∷ Cancellation 8 ∷ []) (_, refl, (_, refl, (_, refl, refl)));
      received = 3;
      made = lit≤ tt;
      known = lit≤ tt;
      may = tt;
    }

ends : decoders.IsLawful (encoder_after (table_after encoder_evicting [] [])
    (Acknowledgment 4 ∷ Increment 1 ∷ Cancellation 8 ∷ []) (0x84 ∷ 0x01 ∷ 0x48 ∷ [])) []
unfolding rows
ends =
    record {
      heard = Acknowledgment 4 ∷ Increment 1 ∷ Cancellation 8 ∷ [];
      before = 0x84 ∷ 0x01 ∷ 0x48 ∷ [];
      receives = all_heard (Acknowledgment 4 ∷ Increment 1 ∷ Cancellation 8 ∷ []) (0x84 ∷ 0x01 ∷ 0x48 ∷ [])
          (read_spelled decoder_instruction_form (0x84 ∷ 0x01 ∷ 0x48 ∷ [])
          (Acknowledgment 4 ∷ Increment 1 ∷ Cancellation 8 ∷ []) (_, refl, (_, refl, (_, refl, refl))));
      under_way = [];
      behind = [];
      spelled = read_spelled decoder_instruction_form (0x84 ∷ 0x01 ∷ 0x48 ∷ [])
          (Acknowledgment 4 ∷ Increment 1 ∷ Cancellation 8 ∷ []) (_, refl, (_, refl, (_, refl, refl)));
      received = 3;
      made = lit≤ tt;
      known = lit≤ tt;
      may = tt;
    }

reports_at_once : decoders.IsLawful (encoder_after (table_after encoder_unheard open_on_4 (2 ∷ [])) [] [])
    (0x44 ∷ 0x03 ∷ [])
unfolding rows
reports_at_once =
    record {
      heard = [];
      before = [];
      receives = all_heard [] [] refl;
      under_way = Cancellation 4 ∷ Increment 3 ∷ [];
      behind = [];
      spelled = read_spelled decoder_instruction_form (0x44 ∷ 0x03 ∷ []) (Cancellation 4 ∷ Increment 3 ∷ [])
          (_, refl, (_, refl, refl));
      received = 3;
      made = lit≤ tt;
      known = lit≤ tt;
      may = (lit≤ tt, lit≤ tt, tt);
    }

comes_in_part : decoders.IsLawful (encoder_after (table_after encoder_unheard open_on_4 (2 ∷ [])) [] []) (0x44 ∷ [])
unfolding rows
comes_in_part =
    record {
      heard = [];
      before = [];
      receives = all_heard [] [] refl;
      under_way = Cancellation 4 ∷ Increment 3 ∷ [];
      behind = 0x03 ∷ [];
      spelled = read_spelled decoder_instruction_form (0x44 ∷ 0x03 ∷ []) (Cancellation 4 ∷ Increment 3 ∷ [])
          (_, refl, (_, refl, refl));
      received = 3;
      made = lit≤ tt;
      known = lit≤ tt;
      may = (lit≤ tt, lit≤ tt, tt);
    }

pub appendix_decoder : AppendixDecoderIsLawful
appendix_decoder = (acknowledges, reports, cancels, ends, reports_at_once, comes_in_part)

-- ---- what the laws of what is written ask

pub appendix_order : AppendixSectionsAreInOrder
unfolding rows
appendix_order = (
  open_on_4 ++ open_on_8,
  refl,
  (
    open_on_4 ++ open_on_8,
    refl,
    (open_on_4 ++ open_on_8, refl, (open_on_8, (refl, refl), ([], refl, tt))),
  ),
)

pub appendix_peer : AppendixDecoderIsPeer
appendix_peer = (
  record { capacity = refl; blocked = lit≤ tt; told = lit≤ tt },
  record { capacity = refl; blocked = lit≤ tt; told = lit≤ tt },
)
