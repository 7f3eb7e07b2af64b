-- A section of marked fields that references no entry means them under every window.
use Rattle.std.proofs.Common.{ℕ, ◌≡◌, Bool, true, false, cond, List, [], ◌∷◌, map, Option, None, Some, Ok, refl}
use Rattle.qpack_spec.specs.Field.{Field, FieldLine, fields_of_lines}
use Rattle.qpack_spec.specs.Line.{Line}
use Rattle.qpack_spec.specs.Marked.{stateless_line_marked}
use Rattle.qpack_spec.specs.MarkedLaws.{is_literal, AreLiteralsWhereMarked}
use Rattle.qpack_spec.specs.Prefix.{Prefix, prefix_for}
use Rattle.qpack_spec.specs.Reading.{line_field, fields_of, references_of_line, references_of}
use Rattle.qpack_spec.specs.Stateless.{stateless_literal, stateless_line_of, stateless_line}
use Rattle.qpack_spec.specs.StaticTable.{static_index, static_name_index}
use Rattle.qpack_spec.specs.Window.{Window}
use Rattle.qpack_spec.specs.WrittenLaws.{IsByteField, IsByteLine}
use Rattle.std.specs.List.{AllByRecursion}
use Rattle.qpack_spec.proofs.Drafts.{static_line, static_name_line, literal_line}
use Rattle.qpack_spec.proofs.Positions.{static_found, static_name_found}
use Rattle.qpack_spec.proofs.References.{static_names, static_name_names, literal_names}
use Rattle.qpack_spec.proofs.WrittenDrafts.{static_small}

-- a line that means this field, references nothing, and is a literal
record MeansAlone (w : Window) (base : ℕ) (f : Field) (l : Line) : Type 0 where
  pub means : line_field w base l ≡ Ok f
  pub references : references_of_line base l ≡ []
  pub bytes : IsByteField f → IsByteLine l

literal_alone : (w : Window) (base : ℕ) (f : Field) (o : Option ℕ) → static_name_index f.name ≡ o
    → MeansAlone w base f (stateless_literal f o) × (is_literal (stateless_literal f o) ≡ true)
literal_alone w base f (Some i) e =
    let at = static_name_found f.name i e in (
      record {
        means = static_name_line w base i f at.0 at.1 at.2;
        references = static_name_names base i f.value;
        bytes = λ b. (static_small i at.0 at.1, b.1);
      },
      refl,
    )
literal_alone w base f None e = (
  record {
    means = literal_line w base f;
    references = literal_names base f.name f.value;
    bytes = λ b. b;
  },
  refl,
)

plain_alone : (w : Window) (base : ℕ) (f : Field) (o : Option ℕ) → static_index f ≡ o
    → MeansAlone w base f (stateless_line_of f o)
plain_alone w base f (Some i) e =
    record {
      means = static_line w base i f (static_found f i e);
      references = static_names base i;
      bytes = λ b. static_small i f (static_found f i e);
    }
plain_alone w base f None e = (literal_alone w base f (static_name_index f.name) refl).0

line_alone : (w : Window) (base : ℕ) (l : FieldLine)
    → MeansAlone w base l.field (stateless_line_marked l)
    × (l.never_indexed ≡ true → is_literal (stateless_line_marked l) ≡ true)
line_alone w base l = both l.never_indexed
  where
    both : (never : Bool)
        → MeansAlone w base l.field
        (cond never (stateless_literal l.field (static_name_index l.field.name)) (stateless_line l.field))
        × (never ≡ true
        → is_literal (cond never (stateless_literal l.field (static_name_index l.field.name)) (stateless_line l.field))
        ≡ true)
    both true = let a = literal_alone w base l.field (static_name_index l.field.name) refl in (a.0, λ _. a.1)
    both false = (plain_alone w base l.field (static_index l.field) refl, λ e. absurd cc)

-- the lines mean the fields
pub lines_alone : (w : Window) (base : ℕ) (ls : List FieldLine)
    → fields_of w base (map (λ l. stateless_line_marked l) ls) ≡ Ok (fields_of_lines ls)
unfolding fields_of
lines_alone w base [] = refl
lines_alone w base (l ∷ ls) = rw ((line_alone w base l).0.means, lines_alone w base ls) refl

-- they reference nothing
pub none_referenced : (base : ℕ) (w : Window) (ls : List FieldLine)
    → references_of base (map (λ l. stateless_line_marked l) ls) ≡ []
unfolding references_of
none_referenced base w [] = refl
none_referenced base w (l ∷ ls) = rw ((line_alone w base l).0.references, none_referenced base w ls) refl

-- a marked field has a literal
pub literals_alone : (w : Window) (ls : List FieldLine)
    → AreLiteralsWhereMarked ls (map (λ l. stateless_line_marked l) ls)
literals_alone w [] = tt
literals_alone w (l ∷ ls) = ((line_alone w 0 l).1, literals_alone w ls)

-- their numbers are small, their strings bytes
pub written_alone : (w : Window) (ls : List FieldLine) → AllByRecursion IsByteField (fields_of_lines ls)
    → AllByRecursion IsByteLine (map (λ l. stateless_line_marked l) ls)
written_alone w [] h = tt
written_alone w (l ∷ ls) h = ((line_alone w 0 l).0.bytes h.0, written_alone w ls h.1)

-- and the prefix is that of a section that requires nothing
pub prefix_alone : (maximum base : ℕ) → (let p : Prefix = record { count = 0; sign = false; delta = 0 } in p)
    ≡ prefix_for maximum 0 base
unfolding prefix_for
prefix_alone maximum base = refl
