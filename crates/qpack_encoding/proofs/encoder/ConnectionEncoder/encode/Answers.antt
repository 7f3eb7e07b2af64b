use Rattle.std.proofs.Common.{◌≡◌, ◌∙◌, ap, sym, subst, arith, map, Bool, false, List, [], None, Err, eqb-true}
use Rattle.std.proofs.Common.{ℕ, Result, inr}
use Rattle.std.specs.Prelude.{OnErr}
use Rattle.qpack_spec.specs.Field.{FieldLine}
use Rattle.qpack_spec.specs.Table.{Table}
use Rattle.qpack_spec.specs.Text.{WhereShorter}
use Rattle.qpack_codec.specs.declared.encoder.choices.Wish.{Wish}
use Rattle.qpack_codec.specs.declared.error.EncoderError.TheVariants as codec
use Rattle.qpack_codec.proofs.ChosenBlocks.{gives_up_chosen_alone}
use Rattle.qpack_shared.specs.declared.streams.BlockedStream.{BlockedStream}
use Rattle.qpack_encoding.specs.declared.encoder.EncodingError.{EncodingError}
use Rattle.qpack_encoding.specs.contracts.encoder.ConnectionEncoder.{the_view}
use Rattle.qpack_encoding.specs.Encoders.{EncodingEnd, begun, is_alone, may_block, with_section, Encodes, HasNoRoomAlone}
use Rattle.qpack_encoding.specs.Risk.{TracksRisk}
use Rattle.qpack_encoding.specs.Wishes.{KeepsWishes, limited, EncodesAsWished}
use Rattle.qpack_encoding.proofs.BareEnds.{encoded_bare, given_up_bare}
use Rattle.qpack_encoding.proofs.NoFields.{no_field, without_named, nothing_encoded, nothing_wished, alone_asks}
use Rattle.qpack_encoding.proofs.LimitedSections.{none_waits, sound_with, tracks_put, tracks_known, tracks_given_up}
use Rattle.qpack_encoding.proofs.LimitedSections.{written_known, where_done, may_be}
use Rattle.qpack_encoding.proofs.Wishes.{keeps_wishes}
use Rattle.qpack_encoding.proofs.encoder.ConnectionEncoder.encode.Goals as goal

pub invariant_of-self-in_err-required : goal.invariant_of-self-in_err-required
invariant_of-self-in_err-required g c =
    let d : EncodingEnd = the_view c.self.inside in
    let lines = map g.H.AsField.line c.args.fields.now in
    let u = c.write_section.new.table.table in
    let kept = c.make_room.new.self.streams.items in
    let none : d.wanted ≡ None =
    none_waits d (ap is_alone c.self.view_is ∙ sym c.is_alone.ensures ∙ c.if-is_alone.false) in
    let tracks : TracksRisk kept d.table =
    subst (λ (l : List BlockedStream). TracksRisk l d.table) (sym c.make_room.ensures.same) c.self.invariant.1 in (
      sound_with d u c.write_section.new.unsent.bytes none c.self.invariant.0,
      tracks_given_up kept lines d.table u d.unsent c.write_section.new.unsent.bytes c.in_err-required.ensures.err tracks,
      λ zero. (given_up_bare lines d.table u d.unsent c.write_section.new.unsent.bytes c.in_err-required.ensures.err
          (c.self.invariant.2 zero)).0,
    )

pub invariant_of-self-then-required-known_received_count : goal.invariant_of-self-then-required-known_received_count
invariant_of-self-then-required-known_received_count g c =
    let d : EncodingEnd = the_view c.self.inside in
    let lines = map g.H.AsField.line c.args.fields.now in
    let u = c.write_section.new.table.table in
    let kept = c.make_room.new.self.streams.items in
    let none : d.wanted ≡ None =
    none_waits d (ap is_alone c.self.view_is ∙ sym c.is_alone.ensures ∙ c.if-is_alone.false) in
    let tracks : TracksRisk kept d.table =
    subst (λ (l : List BlockedStream). TracksRisk l d.table) (sym c.make_room.ensures.same) c.self.invariant.1 in
    let written = c.in_ok-required.ensures.section in
    let same = written_known c.args.stream lines d.table u c.args.section.now.items c.write_section.new.section.items
    d.unsent c.write_section.new.unsent.bytes c.in_ok-required.required written in (
      sound_with d u c.write_section.new.unsent.bytes none c.self.invariant.0,
      subst (λ (l : List BlockedStream). TracksRisk l u) (sym c.put.ensures)
          (tracks_put kept c.args.stream lines d.table u c.args.section.now.items c.write_section.new.section.items
          d.unsent c.write_section.new.unsent.bytes c.in_ok-required.required written
          (omega (arith, c.if-required-known_received_count.true, c.known_received_count.ensures, same))
          c.in_ok-required.ensures.small tracks),
      λ zero. (encoded_bare c.args.stream lines d.table u c.args.section.now.items c.write_section.new.section.items
          d.unsent c.write_section.new.unsent.bytes c.in_ok-required.required written (c.self.invariant.2 zero)).0,
    )

pub invariant_of-self-else-required-known_received_count : goal.invariant_of-self-else-required-known_received_count
invariant_of-self-else-required-known_received_count g c =
    let d : EncodingEnd = the_view c.self.inside in
    let lines = map g.H.AsField.line c.args.fields.now in
    let u = c.write_section.new.table.table in
    let kept = c.make_room.new.self.streams.items in
    let none : d.wanted ≡ None =
    none_waits d (ap is_alone c.self.view_is ∙ sym c.is_alone.ensures ∙ c.if-is_alone.false) in
    let tracks : TracksRisk kept d.table =
    subst (λ (l : List BlockedStream). TracksRisk l d.table) (sym c.make_room.ensures.same) c.self.invariant.1 in
    let written = c.in_ok-required.ensures.section in
    let same = written_known c.args.stream lines d.table u c.args.section.now.items c.write_section.new.section.items
    d.unsent c.write_section.new.unsent.bytes c.in_ok-required.required written in (
      sound_with d u c.write_section.new.unsent.bytes none c.self.invariant.0,
      tracks_known kept c.args.stream lines d.table u c.args.section.now.items c.write_section.new.section.items d.unsent
          c.write_section.new.unsent.bytes c.in_ok-required.required written
          (omega (arith, c.if-required-known_received_count.false, c.known_received_count.ensures, same)) tracks,
      λ zero. (encoded_bare c.args.stream lines d.table u c.args.section.now.items c.write_section.new.section.items
          d.unsent c.write_section.new.unsent.bytes c.in_ok-required.required written (c.self.invariant.2 zero)).0,
    )

pub returns-then-required-known_received_count-clause-wishes :
    goal.returns-then-required-known_received_count-clause-wishes
returns-then-required-known_received_count-clause-wishes g c full =
    let d : EncodingEnd = the_view c.self.inside in
    let new : EncodingEnd = with_section c.write_section.new.table.table c.write_section.new.unsent.bytes d in
    let lines = map g.H.AsField.line c.args.fields.now in
    let wishes = map g.H.AsField.wish c.args.fields.now in
    let before = c.args.section.now.items in
    let after = c.write_section.new.section.items in
    let begins : d ≡ begun c.args.self.now = c.self.view_is ∙ c.in_ok-begin.ensures in
    let may : c.may_block-may_block.result ≡ may_block (begun c.args.self.now) c.args.stream =
    c.may_block-may_block.ensures ∙ ap (λ (x : EncodingEnd). may_block x c.args.stream) c.in_ok-begin.ensures in
    subst (λ (m : Bool). KeepsWishes (limited m (begun c.args.self.now)) (limited m new) c.args.stream lines wishes before
    after c.in_ok-required.required) may
    (subst (λ (x : EncodingEnd). KeepsWishes (limited c.may_block-may_block.result x)
    (limited c.may_block-may_block.result new) c.args.stream lines wishes before after c.in_ok-required.required) begins
    (keeps_wishes (limited c.may_block-may_block.result d) (limited c.may_block-may_block.result new) c.args.stream lines
    wishes before after c.in_ok-required.required c.in_ok-required.ensures.wishes))

pub returns-else-required-known_received_count-clause-wishes :
    goal.returns-else-required-known_received_count-clause-wishes
returns-else-required-known_received_count-clause-wishes g c full =
    let d : EncodingEnd = the_view c.self.inside in
    let new : EncodingEnd = with_section c.write_section.new.table.table c.write_section.new.unsent.bytes d in
    let lines = map g.H.AsField.line c.args.fields.now in
    let wishes = map g.H.AsField.wish c.args.fields.now in
    let before = c.args.section.now.items in
    let after = c.write_section.new.section.items in
    let begins : d ≡ begun c.args.self.now = c.self.view_is ∙ c.in_ok-begin.ensures in
    let may : c.may_block-may_block.result ≡ may_block (begun c.args.self.now) c.args.stream =
    c.may_block-may_block.ensures ∙ ap (λ (x : EncodingEnd). may_block x c.args.stream) c.in_ok-begin.ensures in
    subst (λ (m : Bool). KeepsWishes (limited m (begun c.args.self.now)) (limited m new) c.args.stream lines wishes before
    after c.in_ok-required.required) may
    (subst (λ (x : EncodingEnd). KeepsWishes (limited c.may_block-may_block.result x)
    (limited c.may_block-may_block.result new) c.args.stream lines wishes before after c.in_ok-required.required) begins
    (keeps_wishes (limited c.may_block-may_block.result d) (limited c.may_block-may_block.result new) c.args.stream lines
    wishes before after c.in_ok-required.required c.in_ok-required.ensures.wishes))

pub invariant_of-self : goal.invariant_of-self
invariant_of-self g c =
    let d : EncodingEnd = the_view c.self.inside in
    let u = c.give_up.new.self.table in
    let none : d.wanted ≡ None =
    none_waits d (ap is_alone c.self.view_is ∙ sym c.is_alone.ensures ∙ c.if-is_alone.false) in (
      sound_with d u d.unsent none c.self.invariant.0,
      tracks_given_up c.self.inside.at_risk.streams.items [] d.table u d.unsent d.unsent
          (gives_up_chosen_alone WhereShorter [] (Err codec.Memory) d.table u d.unsent c.give_up.ensures) c.self.invariant.1,
      λ zero. (given_up_bare [] d.table u d.unsent d.unsent
          (gives_up_chosen_alone WhereShorter [] (Err codec.Memory) d.table u d.unsent c.give_up.ensures)
          (c.self.invariant.2 zero)).0,
    )

pub returns-then-is_alone-clause-memory : goal.returns-then-is_alone-clause-memory
returns-then-is_alone-clause-memory g c refused =
    let lines = map g.H.AsField.line c.args.fields.now in
    inr (alone_asks lines c.args.section.now
    (subst (λ (r : Result ℕ EncodingError). OnErr r (HasNoRoomAlone lines c.args.section.now)) refused
    c.encode_alone.ensures.memory))

pub returns-then-is_empty-clause-encodes : goal.returns-then-is_empty-clause-encodes
returns-then-is_empty-clause-encodes g c =
    let d : EncodingEnd = the_view c.self.inside in
    let new : EncodingEnd = with_section c.give_up.new.self.table d.unsent d in
    let before = c.args.section.now.items in
    let after = c.encode_nothing.new.section.items in
    let lines : map g.H.AsField.line c.args.fields.now ≡ [] =
    ap (map g.H.AsField.line) (no_field c.args.fields.now
    (eqb-true _ _ (sym c.is_empty.ensures ∙ c.if-is_empty.true))) in
    let room : is_alone (begun c.args.self.now) ≡ false =
    ap is_alone (sym c.in_ok-begin.ensures) ∙ sym c.is_alone.ensures ∙ c.if-is_alone.false in
    let is : new ≡ without_named (begun c.args.self.now) =
    ap (λ (t : Table). with_section t d.unsent d) c.give_up.ensures
    ∙ ap without_named (c.self.view_is ∙ c.in_ok-begin.ensures) in
    subst (λ (l : List FieldLine). Encodes c.args.self.now new c.args.stream l before after c.encode_nothing.result)
    (sym lines)
    (nothing_encoded c.args.self.now new c.args.stream before after c.encode_nothing.result
    c.in_ok-check.ensures.checks room is c.encode_nothing.ensures.ok c.encode_nothing.ensures.err)

pub returns-then-is_empty-clause-wishes : goal.returns-then-is_empty-clause-wishes
returns-then-is_empty-clause-wishes g c =
    let d : EncodingEnd = the_view c.self.inside in
    let new : EncodingEnd = with_section c.give_up.new.self.table d.unsent d in
    let before = c.args.section.now.items in
    let after = c.encode_nothing.new.section.items in
    let none = no_field c.args.fields.now (eqb-true _ _ (sym c.is_empty.ensures ∙ c.if-is_empty.true)) in
    let is : new ≡ without_named (begun c.args.self.now) =
    ap (λ (t : Table). with_section t d.unsent d) c.give_up.ensures
    ∙ ap without_named (c.self.view_is ∙ c.in_ok-begin.ensures) in
    subst (λ (l : List FieldLine). EncodesAsWished c.args.self.now new c.args.stream l
    (map g.H.AsField.wish c.args.fields.now) before after c.encode_nothing.result)
    (sym (ap (map g.H.AsField.line) none))
    (subst (λ (w : List Wish). EncodesAsWished c.args.self.now new c.args.stream [] w before after
    c.encode_nothing.result) (sym (ap (map g.H.AsField.wish) none))
    (nothing_wished c.args.self.now new c.args.stream before after c.encode_nothing.result is
    c.encode_nothing.ensures.ok))

pub put-requires : goal.put-requires
put-requires g c =
    let lines = map g.H.AsField.line c.args.fields.now in
    let same = written_known c.args.stream lines c.self.inside.table.table c.write_section.new.table.table
    c.args.section.now.items c.write_section.new.section.items c.self.inside.unsent.bytes
    c.write_section.new.unsent.bytes c.in_ok-required.required c.in_ok-required.ensures.section in
    where_done c.make_room.result (sym c.is_err.ensures.value ∙ c.if-is_err.false) c.make_room.ensures.room
    (may_be c.may_block-may_block.result c.in_ok-required.required c.self.inside.table.table.known_received_count
    c.in_ok-required.ensures.known
    (omega (arith, c.if-required-known_received_count.true, c.known_received_count.ensures, same)))
