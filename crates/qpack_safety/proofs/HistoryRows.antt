-- Worked rows of what the events of a session say of its blocks, computed by the definitions.
use Rattle.std.proofs.Common.{ℕ, ◌≡◌, true, List, [], ◌∷◌, None, Some, refl}
use Rattle.std.specs.Prelude.{codes}
use Rattle.qpack_spec.specs.Field.{Field}
use Rattle.qpack_spec.specs.StaticTable.{field}
use Rattle.qpack_rules.specs.Session.{Event, Encode, Decode, Outcome, Encoded, Decoded, MissingReferences, NoMemory}
use Rattle.qpack_safety.specs.Headline.{encodes_on, decodes_on, next_encode}

fields_of : List ℕ → List Field
fields_of name = field name (codes "bar") ∷ []

-- three encodes on stream 4, of which one was refused memory, and one on stream 8; a decode that waits, and one with
-- fields
events : List (Event × Outcome)
events =
    (Encode 4 (fields_of (codes "foo")), Encoded 1) ∷ (Encode 8 (fields_of (codes "foo")), Encoded 1)
    ∷ (Encode 4 (fields_of (codes "baz")), NoMemory) ∷ (Encode 4 (fields_of (codes "qux")), Encoded 2)
    ∷ (Decode 4, MissingReferences 1) ∷ (Decode 4, Decoded (fields_of (codes "foo")) 38 true) ∷ []

-- two were answered
two_encodes : encodes_on 4 events
    ≡ record { fields = fields_of (codes "foo"); required = 1 } ∷ record {
      fields = fields_of (codes "qux");
      required = 2;
    } ∷ []
unfolding events fields_of
two_encodes = refl

-- one was decoded
one_decode : decodes_on 4 events ≡ 1
unfolding events fields_of
one_decode = refl

-- the next to be decoded is the second
second_next : next_encode 4 events ≡ Some (record { fields = fields_of (codes "qux"); required = 2 })
unfolding events fields_of
second_next = refl

-- on the other stream it is the first
first_next : next_encode 8 events ≡ Some (record { fields = fields_of (codes "foo"); required = 1 })
unfolding events fields_of
first_next = refl

-- on a third there is none
none_next : next_encode 12 events ≡ None
unfolding events fields_of
none_next = refl
