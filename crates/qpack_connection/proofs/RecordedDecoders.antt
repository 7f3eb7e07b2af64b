-- What other decoders wrote is lawful.
use Rattle.std.proofs.Common.{ℕ, ◌≡◌, ◌≤◌, List, [], ◌∷◌, ◌++◌, Some, refl, sym, ap, ◌∙◌, subst, append_assoc, lit≤}
use Rattle.std.specs.Prelude.{take, drop}
use Rattle.std.proofs.lemmas.List.{take-append-drop}
use Rattle.qpack_spec.specs.Instruction.{DecoderInstruction, Acknowledgment, Cancellation, Increment}
use Rattle.qpack_spec.specs.Instruction.{decoder_instruction_form, SpellsDecoderInstruction}
use Rattle.qpack_rules.specs.LawfulDecoders.{MayWrite, HasDecoded}
use Rattle.qpack_spec.specs.Stream.{SpellsAll}
use Rattle.qpack_rules.specs.StrictInstructions.{oldest_required}
use Rattle.qpack_spec.specs.Table.{UnacknowledgedBlock, insert_count, without_oldest}
use Rattle.qpack_encoding.specs.Encoders.{EncodingEnd}
use Rattle.qpack_encoding.specs.Hearing.{Receives}
use Rattle.qpack_connection.specs.RecordedDecoders.{MayCome, server_first, server_second, server_later, on_0, on_4}
use Rattle.qpack_connection.specs.RecordedDecoders.{on_8, on_12, on_16, on_20, chromium_date, firefox_date}
use Rattle.qpack_connection.specs.RecordedDecoders.{OtherDecodersAreLawful}
use Rattle.qpack_connection.proofs.LawfulRows.{rows, read_spelled, all_heard}

-- what a decoder has written so far and has under way
record Writes (e : EncodingEnd) (heard under_way : List DecoderInstruction) (before bytes : List ℕ) : Type 0 where
  pub receives : Receives heard before e.stream
  pub spelled : SpellsAll SpellsDecoderInstruction (before ++ bytes) (heard ++ under_way)
  pub received : ℕ
  pub made : received ≤ insert_count e.table
  pub known : e.table.known_received_count ≤ received
  pub may : MayWrite received e.table.known_received_count e.table.unacknowledged under_way

comes : (e : EncodingEnd) (heard under_way : List DecoderInstruction) (before bytes : List ℕ)
    → Writes e heard under_way before bytes → MayCome e bytes
comes e heard under_way before bytes w many =
    let whole : (before ++ take many bytes) ++ drop many bytes ≡ before ++ bytes =
    append_assoc before (take many bytes) (drop many bytes) ∙ ap (λ x. before ++ x) (take-append-drop many bytes) in
    record {
      heard = heard;
      before = before;
      receives = w.receives;
      under_way = under_way;
      behind = drop many bytes;
      spelled = subst (λ (x : List ℕ). SpellsAll SpellsDecoderInstruction x (heard ++ under_way)) (sym whole) w.spelled;
      received = w.received;
      made = w.made;
      known = w.known;
      may = w.may;
    }

-- a section of a stream was decoded that requires this many insertions, and those are the others
decoded : (received stream required : ℕ) (sections others : List UnacknowledgedBlock) → required ≤ received
    → oldest_required stream sections ≡ Some required → without_oldest stream sections ≡ Some others
    → HasDecoded received stream sections
decoded received stream required sections others low oldest are =
    record { required = required; others = others; oldest = oldest; others_are = are; decoded = low }

-- ---- the rows

first : (max_blocked : ℕ) (date : List ℕ) → MayCome (server_first max_blocked date) (0x80 ∷ [])
unfolding rows
first max_blocked date =
    comes (server_first max_blocked date) [] (Acknowledgment 0 ∷ []) [] (0x80 ∷ []) (record {
      receives = all_heard [] [] refl;
      spelled = read_spelled decoder_instruction_form (0x80 ∷ []) (Acknowledgment 0 ∷ []) (_, refl, refl);
      received = 3;
      made = lit≤ tt;
      known = lit≤ tt;
      may = (decoded 3 0 3 (on_0 ∷ []) [] (lit≤ tt) refl refl, tt);
    })

second : (max_blocked : ℕ) (date : List ℕ) → MayCome (server_second max_blocked date) (0x84 ∷ [])
unfolding rows
second max_blocked date =
    comes (server_second max_blocked date) (Acknowledgment 0 ∷ []) (Acknowledgment 4 ∷ []) (0x80 ∷ []) (0x84 ∷ [])
    (record {
      receives = all_heard (Acknowledgment 0 ∷ []) (0x80 ∷ [])
          (read_spelled decoder_instruction_form (0x80 ∷ []) (Acknowledgment 0 ∷ []) (_, refl, refl));
      spelled = read_spelled decoder_instruction_form (0x80 ∷ 0x84 ∷ []) (Acknowledgment 0 ∷ Acknowledgment 4 ∷ [])
          (_, refl, (_, refl, refl));
      received = 4;
      made = lit≤ tt;
      known = lit≤ tt;
      may = (decoded 4 4 4 (on_4 ∷ []) [] (lit≤ tt) refl refl, tt);
    })

-- both are heard
both : SpellsAll SpellsDecoderInstruction (0x80 ∷ 0x84 ∷ []) (Acknowledgment 0 ∷ Acknowledgment 4 ∷ [])
unfolding rows
both =
    read_spelled decoder_instruction_form (0x80 ∷ 0x84 ∷ []) (Acknowledgment 0 ∷ Acknowledgment 4 ∷ [])
    (_, refl, (_, refl, refl))

chromium_later : MayCome (server_later 100 chromium_date 13 (on_8 ∷ on_12 ∷ [])) (0x88 ∷ 0x8c ∷ [])
unfolding rows decoded
chromium_later =
    comes (server_later 100 chromium_date 13 (on_8 ∷ on_12 ∷ [])) (Acknowledgment 0 ∷ Acknowledgment 4 ∷ [])
    (Acknowledgment 8 ∷ Acknowledgment 12 ∷ []) (0x80 ∷ 0x84 ∷ []) (0x88 ∷ 0x8c ∷ []) (record {
      receives = all_heard (Acknowledgment 0 ∷ Acknowledgment 4 ∷ []) (0x80 ∷ 0x84 ∷ []) both;
      spelled = read_spelled decoder_instruction_form (0x80 ∷ 0x84 ∷ 0x88 ∷ 0x8c ∷ [])
          (Acknowledgment 0 ∷ Acknowledgment 4 ∷ Acknowledgment 8 ∷ Acknowledgment 12 ∷ [])
          (_, refl, (_, refl, (_, refl, (_, refl, refl))));
      received = 13;
      made = lit≤ tt;
      known = lit≤ tt;
      may = (
        decoded 13 8 11 (on_8 ∷ on_12 ∷ []) (on_12 ∷ []) (lit≤ tt) refl refl,
        (decoded 13 12 13 (on_12 ∷ []) [] (lit≤ tt) refl refl, tt),
      );
    })

firefox_later : MayCome (server_later 20 firefox_date 15 (on_8 ∷ on_12 ∷ on_16 ∷ on_20 ∷ []))
    (0x88 ∷ 0x8c ∷ 0x02 ∷ 0x90 ∷ 0x94 ∷ [])
unfolding rows decoded
firefox_later =
    comes (server_later 20 firefox_date 15 (on_8 ∷ on_12 ∷ on_16 ∷ on_20 ∷ []))
    (Acknowledgment 0 ∷ Acknowledgment 4 ∷ [])
    (Acknowledgment 8 ∷ Acknowledgment 12 ∷ Increment 2 ∷ Acknowledgment 16 ∷ Acknowledgment 20 ∷ [])
    (0x80 ∷ 0x84 ∷ []) (0x88 ∷ 0x8c ∷ 0x02 ∷ 0x90 ∷ 0x94 ∷ []) (record {
      receives = all_heard (Acknowledgment 0 ∷ Acknowledgment 4 ∷ []) (0x80 ∷ 0x84 ∷ []) both;
      spelled = read_spelled decoder_instruction_form (0x80 ∷ 0x84 ∷ 0x88 ∷ 0x8c ∷ 0x02 ∷ 0x90 ∷ 0x94 ∷ [])
          (Acknowledgment 0 ∷ Acknowledgment 4 ∷ Acknowledgment 8 ∷ Acknowledgment 12 ∷ Increment 2
          ∷ Acknowledgment 16 ∷ Acknowledgment 20 ∷ [])
          (_, refl, (_, refl, (_, refl, (_, refl, (_, refl, (_, refl, (_, refl, refl)))))));
      received = 15;
      made = lit≤ tt;
      known = lit≤ tt;
      may = (
        decoded 15 8 11 (on_8 ∷ on_12 ∷ on_16 ∷ on_20 ∷ []) (on_12 ∷ on_16 ∷ on_20 ∷ []) (lit≤ tt) refl refl,
        (
          decoded 15 12 13 (on_12 ∷ on_16 ∷ on_20 ∷ []) (on_16 ∷ on_20 ∷ []) (lit≤ tt) refl refl,
          (
            lit≤ tt,
            lit≤ tt,
            (
              decoded 15 16 14 (on_16 ∷ on_20 ∷ []) (on_20 ∷ []) (lit≤ tt) refl refl,
              (decoded 15 20 15 (on_20 ∷ []) [] (lit≤ tt) refl refl, tt),
            ),
          ),
        ),
      );
    })

nghttp3_later : MayCome (server_later 20 firefox_date 15 (on_8 ∷ on_12 ∷ on_16 ∷ on_20 ∷ []))
    (0x07 ∷ 0x88 ∷ 0x4c ∷ 0x03 ∷ 0x90 ∷ 0x94 ∷ [])
unfolding rows decoded
nghttp3_later =
    comes (server_later 20 firefox_date 15 (on_8 ∷ on_12 ∷ on_16 ∷ on_20 ∷ []))
    (Acknowledgment 0 ∷ Acknowledgment 4 ∷ [])
    (Increment 7 ∷ Acknowledgment 8 ∷ Cancellation 12 ∷ Increment 3 ∷ Acknowledgment 16 ∷ Acknowledgment 20 ∷ [])
    (0x80 ∷ 0x84 ∷ []) (0x07 ∷ 0x88 ∷ 0x4c ∷ 0x03 ∷ 0x90 ∷ 0x94 ∷ []) (record {
      receives = all_heard (Acknowledgment 0 ∷ Acknowledgment 4 ∷ []) (0x80 ∷ 0x84 ∷ []) both;
      spelled = read_spelled decoder_instruction_form (0x80 ∷ 0x84 ∷ 0x07 ∷ 0x88 ∷ 0x4c ∷ 0x03 ∷ 0x90 ∷ 0x94 ∷ [])
          (Acknowledgment 0 ∷ Acknowledgment 4 ∷ Increment 7 ∷ Acknowledgment 8 ∷ Cancellation 12 ∷ Increment 3
          ∷ Acknowledgment 16 ∷ Acknowledgment 20 ∷ [])
          (_, refl, (_, refl, (_, refl, (_, refl, (_, refl, (_, refl, (_, refl, (_, refl, refl))))))));
      received = 15;
      made = lit≤ tt;
      known = lit≤ tt;
      may = (
        lit≤ tt,
        lit≤ tt,
        (
          decoded 15 8 11 (on_8 ∷ on_12 ∷ on_16 ∷ on_20 ∷ []) (on_12 ∷ on_16 ∷ on_20 ∷ []) (lit≤ tt) refl refl,
          (
            lit≤ tt,
            lit≤ tt,
            (
              decoded 15 16 14 (on_16 ∷ on_20 ∷ []) (on_20 ∷ []) (lit≤ tt) refl refl,
              (decoded 15 20 15 (on_20 ∷ []) [] (lit≤ tt) refl refl, tt),
            ),
          ),
        ),
      );
    })

pub decoders_lawful : OtherDecodersAreLawful
decoders_lawful = (
  (first 100 chromium_date, second 100 chromium_date, chromium_later),
  (first 20 firefox_date, second 20 firefox_date, firefox_later),
  nghttp3_later,
)
