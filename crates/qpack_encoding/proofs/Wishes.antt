-- A choice that keeps to the caller's word suits it, also as one of a section.
use Rattle.std.proofs.Common.{ℕ, Bool, Option, None, Some, true, false, List, [], ◌∷◌}
use Rattle.qpack_spec.specs.Chosen.{Chosen, chosen_field}
use Rattle.qpack_spec.specs.Field.{FieldLine}
use Rattle.qpack_spec.specs.Rule.{Draft, empty_draft}
use Rattle.qpack_spec.specs.StaticTable.{static_index}
use Rattle.qpack_spec.specs.Table.{Table, insert_count}
use Rattle.qpack_spec.specs.Text.{WhereShorter}
use Rattle.qpack_codec.specs.ChoosesAlong.{ChoosesUnless, ChoosesField, ChoosesAlong}
use Rattle.qpack_codec.specs.ChosenSections.{EncodesAlong}
use Rattle.qpack_codec.specs.declared.encoder.choices.Wish.{Wish}
use Rattle.qpack_encoding.specs.Encoders.{EncodingEnd}
use Rattle.qpack_encoding.specs.Wishes.{by_wish, SuitsUnless, SuitsField, SuitAlong, KeepsWishes}

-- ---- along the fields of a section

suits_field : {K : Type 0} (before after : K) (base : ℕ) (t : Table) (l : FieldLine) (w : Wish) (c : Chosen)
    → ChoosesField (by_wish K) before base t l w c after → SuitsField t l w c
suits_field {K = K} before after base t l w c k = by (static_index l.field) l.never_indexed k
  where
    by : (o : Option ℕ) (marked : Bool) → ChoosesUnless o marked (by_wish K) before base t l w c after
        → SuitsUnless o marked t l w c
    by (Some i) false k = k.0
    by (Some i) true k = k
    by None marked k = k

suit_along : {K : Type 0} (base : ℕ) (d : Draft) (before after : K) (ls : List FieldLine) (ws : List Wish)
    (cs : List Chosen) → ChoosesAlong (by_wish K) base d before ls ws cs after → SuitAlong base d ls ws cs
suit_along base d before after [] [] [] k = tt
suit_along base d before after (l ∷ ls) (w ∷ ws) (c ∷ cs) (mid, one, k) =
    (suits_field before mid base d.table l w c one, suit_along base (chosen_field base d l c) mid after ls ws cs k)
suit_along base d before after [] [] (c ∷ cs) k = absurd k
suit_along base d before after [] (w ∷ ws) cs k = absurd k
suit_along base d before after (l ∷ ls) [] cs k = absurd k
suit_along base d before after (l ∷ ls) (w ∷ ws) [] k = absurd k

pub keeps_wishes : {K : Type 0} (d new : EncodingEnd) (stream : ℕ) (fields : List FieldLine) (wishes : List Wish)
    (before after : List ℕ) (required : ℕ)
    → EncodesAlong WhereShorter (by_wish K) stream fields wishes d.table new.table before after d.unsent new.unsent required
    → KeepsWishes d new stream fields wishes before after required
keeps_wishes d new stream fields wishes before after required k =
    record {
      section = k.section;
      suit = λ some. let a = k.along some in
          suit_along (insert_count d.table) (empty_draft d.table) a.begun a.after fields wishes k.section.choices
          a.along;
    }
