-- Worked rows of an encoder that keeps to the standard, and of sections that it may write: a capacity of 64 bytes,
-- which holds one entry of these, an insertion, and sections that reference it.
use Rattle.std.proofs.Common.{ℕ, false, List, [], ◌∷◌, inl, refl, arith, lit≤}
use Rattle.std.specs.Prelude.{codes}
use Rattle.qpack_spec.specs.Field.{Field, FieldLine}
use Rattle.qpack_spec.specs.StaticTable.{field}
use Rattle.qpack_spec.specs.History.{History, initial_history, history_after}
use Rattle.qpack_spec.specs.Instruction.{EncoderInstruction, InsertDynamicName, InsertLiteralName}
use Rattle.qpack_spec.specs.Instruction.{Duplicate, SetCapacity}
use Rattle.qpack_rules.specs.LawfulEncoders.{IsLawfulEncoder, IsLawfulSection}
use Rattle.qpack_spec.specs.Line.{IndexedDynamic}
use Rattle.qpack_rules.specs.StrictInstructions.{strict_apply}
use Rattle.qpack_spec.specs.StrictReading.{is_never_indexed}
use Rattle.qpack_spec.specs.Window.{Inserts, Resizes}
use Rattle.qpack_spec.proofs.Computing.{computed}

first : Field
first = field (codes "foo") (codes "bar")

second : Field
second = field (codes "foo") (codes "baz")

-- one insertion, and another one, for which the first has to go
one_sent : List EncoderInstruction
one_sent = SetCapacity 64 ∷ InsertLiteralName (codes "foo") (codes "bar") ∷ []

two_sent : List EncoderInstruction
two_sent =
    SetCapacity 64 ∷ InsertLiteralName (codes "foo") (codes "bar")
    ∷ InsertLiteralName (codes "foo") (codes "baz") ∷ []

-- the second insertion by the name of the first, and the first one twice: each names the entry that it evicts
named_sent : List EncoderInstruction
named_sent = SetCapacity 64 ∷ InsertLiteralName (codes "foo") (codes "bar") ∷ InsertDynamicName 0 (codes "baz") ∷ []

duplicated_sent : List EncoderInstruction
duplicated_sent = SetCapacity 64 ∷ InsertLiteralName (codes "foo") (codes "bar") ∷ Duplicate 0 ∷ []

one_made : History
one_made = history_after (history_after (initial_history 0 64) (Resizes 64)) (Inserts first)

two_made : History
two_made = history_after one_made (Inserts second)

duplicated_made : History
duplicated_made = history_after one_made (Inserts first)

unmarked : FieldLine
unmarked = record { field = first; never_indexed = false }

-- all that has to unfold
rows : ℕ
unfolding computed first second one_sent two_sent named_sent duplicated_sent one_made two_made duplicated_made
    strict_apply is_never_indexed unmarked
rows = 0

-- the first insertion is lawful
one_is_lawful : IsLawfulEncoder 64 0 one_sent one_made
unfolding rows
one_is_lawful =
    record {
      taken = refl;
      makes = (Resizes 64, refl, (Inserts first, refl, refl));
      evicted = lit≤ tt;
    }

-- the second is once the first is known to be received
two_are_lawful : IsLawfulEncoder 64 1 two_sent two_made
unfolding rows
two_are_lawful =
    record {
      taken = refl;
      makes = (Resizes 64, refl, (Inserts first, refl, (Inserts second, refl, refl)));
      evicted = lit≤ tt;
    }

-- so is one that names the entry that it evicts (section 3.2.2)
names_evicted_lawfully : IsLawfulEncoder 64 1 named_sent two_made
unfolding rows
names_evicted_lawfully =
    record {
      taken = refl;
      makes = (Resizes 64, refl, (Inserts first, refl, (Inserts second, refl, refl)));
      evicted = lit≤ tt;
    }

duplicates_evicted_lawfully : IsLawfulEncoder 64 1 duplicated_sent duplicated_made
unfolding rows
duplicates_evicted_lawfully =
    record {
      taken = refl;
      makes = (Resizes 64, refl, (Inserts first, refl, (Inserts first, refl, refl)));
      evicted = lit≤ tt;
    }

-- and not before: it evicts an entry that is not known to be received
evicts_unlawfully : IsLawfulEncoder 64 0 two_sent two_made → ⊥
unfolding rows
evicts_unlawfully k = absurd (omega (arith, k.evicted))

-- the capacity may not be above the maximum
above_maximum : (made : History) → IsLawfulEncoder 63 1 one_sent made → ⊥
unfolding rows
above_maximum made k = absurd (let e = k.taken in cc)

-- the section 02 00 80, which has the first insertion, is lawful while that is not evicted
section_is_lawful : IsLawfulSection 64 one_made 1 (unmarked ∷ []) (2 ∷ 0 ∷ 128 ∷ [])
unfolding rows
section_is_lawful =
    record {
      base = 1;
      small = lit≤ tt;
      prefix = record { count = 2; sign = false; delta = 0 };
      head = 2 ∷ 0 ∷ [];
      tail = 128 ∷ [];
      cut = refl;
      prefix_spelled =
          record {
            head = 2 ∷ [];
            tail = 0 ∷ [];
            parts = refl;
            count = (
              0,
              record { stands = (refl, inl (record { alone = refl; below = lit≤ tt; is = refl })); few = lit≤ tt },
            );
            sign = 0;
            is_sign = refl;
            delta =
                record { stands = (refl, inl (record { alone = refl; below = lit≤ tt; is = refl })); few = lit≤ tt };
          };
      tells =
          record {
            none = λ e. absurd (omega (arith, e));
            some = λ _. refl;
            above = λ _. refl;
            below = λ e. absurd (let x = e in cc);
          };
      lines_spelled = (
        128 ∷ [],
        [],
        refl,
        record {
          line = IndexedDynamic 0;
          spelled = record {
            first = 128;
            more = [];
            form = _;
            begins = refl;
            names = refl;
            spells = (
              0,
              (2, record { stands = (refl, inl (record { alone = refl; below = lit≤ tt; is = refl })); few = lit≤ tt }),
              refl,
            );
          };
          means = (lit≤ tt, refl);
          marked = refl;
          references = ((lit≤ tt, lit≤ tt), tt);
        },
        refl,
      );
      inserted = lit≤ tt;
      held = λ _. lit≤ tt;
    }

-- once the insertion is evicted the section may not be under way: an encoder that evicts it has broken section 2.1.1
no_evicted : (fields : List FieldLine) (bytes : List ℕ) → IsLawfulSection 64 two_made 1 fields bytes → ⊥
unfolding rows
no_evicted fields bytes k = absurd (let h = k.held (lit≤ tt) in omega (arith, h))

-- nor may it require an insertion that was not made
none_ahead : (fields : List FieldLine) (bytes : List ℕ) → IsLawfulSection 64 one_made 2 fields bytes → ⊥
unfolding rows
none_ahead fields bytes k = absurd (omega (arith, k.inserted))
