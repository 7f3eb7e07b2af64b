-- The five forms of a line are read alone as their relation.
use Rattle.std.proofs.Common.{◌≡◌, ℕ, ◌/◌, ◌%◌, Bool, true, false, Option, None, Some, refl, subst}
use Rattle.std.specs.Prelude.{nat_eq, nat_lt, if◌then◌else◌}
use Rattle.std.proofs.lemmas.Option.{same_Some}
use Rattle.qpack_spec.specs.Form.{Form, Index, IndexAndValue}
use Rattle.qpack_spec.specs.Line.{Line, IndexedStatic, IndexedDynamic, IndexedPostBase, NamedStatic, NamedDynamic}
use Rattle.qpack_spec.specs.Line.{NamedPostBase}
use Rattle.qpack_wire.specs.Alone.{SpellsKind, RefusesKind, kind_at}
use Rattle.qpack_wire.specs.Lines.{indexed_line, indexed_line_with_post_base, literal_with_name_ref}
use Rattle.qpack_wire.specs.Lines.{literal_with_post_base_name_ref, literal}
use Rattle.qpack_wire.proofs.Readers.{Follows}
use Rattle.qpack_wire.proofs.Alones.{HasPrefix, Coherent, alone_follows}

-- a form that is chosen by a test has the prefix that both choices have
pub chosen_prefix : {L : Type 0} (n : ℕ) (test : Bool) (x y : Option (Form L)) (form : Form L)
    → ((f : Form L) → x ≡ Some f → HasPrefix n f) → ((f : Form L) → y ≡ Some f → HasPrefix n f)
    → (if test then x else y) ≡ Some form → HasPrefix n form
chosen_prefix n true x y form p q e = p form e
chosen_prefix n false x y form p q e = q form e

pub this_prefix : {L : Type 0} (n : ℕ) (f form : Form L) → HasPrefix n f → Some f ≡ Some form → HasPrefix n form
this_prefix n f form h e = subst (λ g. HasPrefix n g) (same_Some f form e) h

pub none_prefix : {L : Type 0} (n : ℕ) (form : Form L) → None ≡ Some form → HasPrefix n form
none_prefix n form e = absurd cc

pub coherent_indexed : Coherent indexed_line
coherent_indexed flags form e =
    chosen_prefix 6 (nat_eq flags 3) (Some (Index 6 IndexedStatic))
    (if nat_eq flags 2 then Some (Index 6 IndexedDynamic) else None) form
    (λ f. this_prefix 6 (Index 6 IndexedStatic) f refl)
    (λ f. chosen_prefix 6 (nat_eq flags 2) (Some (Index 6 IndexedDynamic)) None f
    (λ g. this_prefix 6 (Index 6 IndexedDynamic) g refl) (λ g. none_prefix 6 g))
    e

pub coherent_post_base : Coherent indexed_line_with_post_base
coherent_post_base flags form e =
    chosen_prefix 4 (nat_eq flags 1) (Some (Index 4 IndexedPostBase)) None form
    (λ f. this_prefix 4 (Index 4 IndexedPostBase) f refl) (λ f. none_prefix 4 f) e

pub coherent_name_ref : Coherent literal_with_name_ref
coherent_name_ref flags form e =
    chosen_prefix 4 (nat_eq (flags / 4) 1) (if nat_eq (flags % 2) 1 then Some (IndexAndValue 4 NamedStatic) else Some
    (IndexAndValue 4 NamedDynamic)) None form
    (λ f. chosen_prefix 4 (nat_eq (flags % 2) 1) (Some (IndexAndValue 4 NamedStatic))
    (Some (IndexAndValue 4 NamedDynamic)) f
    (λ g. this_prefix 4 (IndexAndValue 4 NamedStatic) g refl)
    (λ g. this_prefix 4 (IndexAndValue 4 NamedDynamic) g refl))
    (λ f. none_prefix 4 f)
    e

pub coherent_post_base_name_ref : Coherent literal_with_post_base_name_ref
coherent_post_base_name_ref flags form e =
    chosen_prefix 3 (nat_lt flags 2) (Some (IndexAndValue 3 NamedPostBase)) None form
    (λ f. this_prefix 3 (IndexAndValue 3 NamedPostBase) f refl) (λ f. none_prefix 3 f) e

-- ---- each form

pub indexed_follows : Follows Line (SpellsKind indexed_line) (RefusesKind indexed_line) (kind_at indexed_line)
indexed_follows = alone_follows indexed_line coherent_indexed

pub post_base_follows : Follows Line (SpellsKind indexed_line_with_post_base) (RefusesKind indexed_line_with_post_base)
    (kind_at indexed_line_with_post_base)
post_base_follows = alone_follows indexed_line_with_post_base coherent_post_base

pub name_ref_follows : Follows Line (SpellsKind literal_with_name_ref) (RefusesKind literal_with_name_ref)
    (kind_at literal_with_name_ref)
name_ref_follows = alone_follows literal_with_name_ref coherent_name_ref

pub post_base_name_ref_follows : Follows Line (SpellsKind literal_with_post_base_name_ref)
    (RefusesKind literal_with_post_base_name_ref) (kind_at literal_with_post_base_name_ref)
post_base_name_ref_follows = alone_follows literal_with_post_base_name_ref coherent_post_base_name_ref

pub literal_follows : Follows Line (SpellsKind literal) (RefusesKind literal) (kind_at literal)
literal_follows = alone_follows literal tt
