-- Streams and blocks in bytes go on showing what they show when more is written.
use Rattle.std.proofs.Common.{ℕ, zero, suc, ◌*◌, ◌/◌, ◌%◌, ◌^◌, ◌≤◌, ◌≡◌, Bool, true, false, cond, List, [], ◌∷◌, ◌++◌}
use Rattle.std.proofs.Common.{length, take, Some, refl, sym, ap, ◌∙◌, subst, arith, lit≤}
use Rattle.std.specs.List.{AllByRecursion, slice_get, filter}
use Rattle.std.specs.Prelude.{nat_eq, nat_le, not, ◌||◌}
use Rattle.std.proofs.Math.Nat.{mod-le}
use Rattle.std.proofs.lemmas.Bool.{cond_both}
use Rattle.std.proofs.lemmas.List.{append_assoc}
use Rattle.qpack_spec.specs.Instruction.{EncoderInstruction, DecoderInstruction, SpellsEncoderInstruction}
use Rattle.qpack_spec.specs.Instruction.{SpellsDecoderInstruction, coded_encoder_instruction}
use Rattle.qpack_spec.specs.Instruction.{coded_encoder_instructions, written_decoder_instruction}
use Rattle.qpack_spec.specs.Instruction.{written_decoder_instructions}
use Rattle.qpack_spec.specs.Stream.{SpellsAll}
use Rattle.qpack_spec.specs.Prefix.{prefix_for}
use Rattle.qpack_spec.specs.WrittenLaws.{IsWritableInstructionUnder, IsWritableDecoderInstruction, IsWritablePrefix}
use Rattle.qpack_spec.specs.Text.{Coding}
use Rattle.qpack_safety.specs.AbstractSession.{AbstractBlock, is_dynamic, AbstractStream}
use Rattle.qpack_rules.specs.Session.{KeptBlock, KeptStream, requires_entry, increments}
use Rattle.qpack_spec.proofs.WrittenForms.{instructions_spelled, decoder_instructions_spelled}
use Rattle.qpack_safety.specs.Refines.{Agrees, EndsAt, RefinesBlock, RefinesStream}

-- ---- lists that agree

agrees_weaker : {X Y : Type 0} (P Q : X → Y → Type 0) → ((x : X) (y : Y) → P x y → Q x y) → (xs : List X) (ys : List Y)
    → Agrees P xs ys → Agrees Q xs ys
agrees_weaker P Q f [] [] h = tt
agrees_weaker P Q f [] (y ∷ ys) h = absurd h
agrees_weaker P Q f (x ∷ xs) [] h = absurd h
agrees_weaker P Q f (x ∷ xs) (y ∷ ys) h = (f x y h.0, agrees_weaker P Q f xs ys h.1)

pub agrees_push : {X Y : Type 0} (P : X → Y → Type 0) (xs : List X) (ys : List Y) (x : X) (y : Y) → Agrees P xs ys
    → P x y → Agrees P (xs ++ x ∷ []) (ys ++ y ∷ [])
agrees_push P [] [] x y h k = (k, tt)
agrees_push P [] (z ∷ ys) x y h k = absurd h
agrees_push P (z ∷ xs) [] x y h k = absurd h
agrees_push P (z ∷ xs) (u ∷ ys) x y h k = (h.0, agrees_push P xs ys x y h.1 k)

-- what stands at a position
pub agrees_get : {X Y : Type 0} (P : X → Y → Type 0) (xs : List X) (ys : List Y) (i : ℕ) (x : X) → Agrees P xs ys
    → slice_get xs i ≡ Some x → (y : Y) × (slice_get ys i ≡ Some y) × P x y
agrees_get P [] ys i x h e = absurd (cc)
agrees_get P (z ∷ xs) [] i x h e = absurd h
agrees_get {X} {Y} P (z ∷ xs) (u ∷ ys) zero x h e = let q : z ≡ x = cc in (u, refl, subst (λ (a : X). P a u) q h.0)
agrees_get P (z ∷ xs) (u ∷ ys) (suc i) x h e = agrees_get P xs ys i x h.1 e

-- ---- more is written

ends_grow : (encoder_stream more : List ℕ) (lines behind : List EncoderInstruction) (position many : ℕ)
    → EndsAt encoder_stream lines position many
    → EndsAt (encoder_stream ++ more) (lines ++ behind) position many
ends_grow encoder_stream more lines behind position many e =
    record {
      front = e.front;
      rest = e.rest ++ more;
      cut = ap (λ b. b ++ more) e.cut ∙ append_assoc e.front e.rest more;
      position_is = e.position_is;
      first = e.first;
      others = e.others ++ behind;
      split = ap (λ l. l ++ behind) e.split ∙ append_assoc e.first e.others behind;
      many_is = e.many_is;
      joined = e.joined;
    }

pub shows_grow : (encoder_stream more : List ℕ) (lines behind : List EncoderInstruction) (k : KeptStream)
    (st : AbstractStream)
    → RefinesStream encoder_stream lines k st → RefinesStream (encoder_stream ++ more) (lines ++ behind) k st
shows_grow encoder_stream more lines behind k st s =
    record {
      blocks_are = agrees_weaker (RefinesBlock encoder_stream lines)
          (RefinesBlock (encoder_stream ++ more) (lines ++ behind))
          (λ x y h. record {
            bytes_are = h.bytes_are;
            writable = h.writable;
            required_is = h.required_is;
            handed_are = h.handed_are;
            ends = ends_grow encoder_stream more lines behind x.end y.end h.ends;
          })
          k.blocks st.blocks s.blocks_are;
      decoded_is = s.decoded_is;
      acknowledged_is = s.acknowledged_is;
      cancelled_is = s.cancelled_is;
    }

-- one stream changed
pub shows_update : (P : KeptStream → AbstractStream → Type 0) (b : Bool) (k k' : KeptStream) (st st' : AbstractStream)
    → P k' st' → P k st → P (cond b k' k) (cond b st' st)
shows_update P true k k' st st' h g = h
shows_update P false k k' st st' h g = g

-- the blocks that require an entry are as many on both sides
dynamic_same : (encoder_stream : List ℕ) (lines : List EncoderInstruction) (x : KeptBlock) (y : AbstractBlock)
    → RefinesBlock encoder_stream lines x y → requires_entry x ≡ is_dynamic y
dynamic_same encoder_stream lines x y h = ap (λ n. not (nat_eq n 0)) h.required_is

pub dynamic_many : (encoder_stream : List ℕ) (lines : List EncoderInstruction) (n : ℕ) (xs : List KeptBlock)
    (ys : List AbstractBlock)
    → Agrees (RefinesBlock encoder_stream lines) xs ys
    → length (filter requires_entry (take n xs)) ≡ length (filter is_dynamic (take n ys))
dynamic_many encoder_stream lines zero xs ys h = refl
dynamic_many encoder_stream lines (suc n) [] [] h = refl
dynamic_many encoder_stream lines (suc n) [] (y ∷ ys) h = absurd h
dynamic_many encoder_stream lines (suc n) (x ∷ xs) [] h = absurd h
dynamic_many encoder_stream lines (suc n) (x ∷ xs) (y ∷ ys) h =
    rw (dynamic_same encoder_stream lines x y h.0) (both (is_dynamic y) (dynamic_many encoder_stream lines n xs ys h.1))
  where
    both : (b : Bool) → length (filter requires_entry (take n xs)) ≡ length (filter is_dynamic (take n ys))
        → length (cond b (x ∷ filter requires_entry (take n xs)) (filter requires_entry (take n xs)))
        ≡ length (cond b (y ∷ filter is_dynamic (take n ys)) (filter is_dynamic (take n ys)))
    both true e = ap (λ m. suc m) e
    both false e = e

-- ---- what is written is joined

pub instructions_joined : (coding : Coding) (is : List EncoderInstruction)
    → AllByRecursion (IsWritableInstructionUnder coding) is
    → SpellsAll SpellsEncoderInstruction (coded_encoder_instructions coding is) is
unfolding coded_encoder_instructions
instructions_joined coding [] w = refl
instructions_joined coding (i ∷ is) w = (
  coded_encoder_instruction coding i,
  coded_encoder_instructions coding is,
  refl,
  instructions_spelled coding i w.0,
  instructions_joined coding is w.1,
)

pub decoder_instructions_joined : (rs : List DecoderInstruction) → AllByRecursion IsWritableDecoderInstruction rs
    → SpellsAll SpellsDecoderInstruction (written_decoder_instructions rs) rs
unfolding written_decoder_instructions
decoder_instructions_joined [] w = refl
decoder_instructions_joined (r ∷ rs) w = (
  written_decoder_instruction r,
  written_decoder_instructions rs,
  refl,
  decoder_instructions_spelled r w.0,
  decoder_instructions_joined rs w.1,
)

pub one_joined : {L : Type 0} (S : List ℕ → L → Type 0) (encoding : List ℕ) (l : L) → S encoding l
    → SpellsAll S encoding (l ∷ [])
one_joined S encoding l s = (encoding, [], sym (Rattle.std.proofs.lemmas.List.append-nil encoding), s, refl)

pub increments_writable : (ns : List ℕ) → AllByRecursion (λ n. (1 ≤ n) × (n ≤ 64)) ns
    → AllByRecursion IsWritableDecoderInstruction (increments ns)
increments_writable [] h = tt
increments_writable (n ∷ ns) h = (omega (arith, h.0.1), increments_writable ns h.1)

-- a prefix of small numbers
pub prefix_small : (maximum required base : ℕ) → required ≤ 2 ^ 62 → base ≤ 2 ^ 62
    → IsWritablePrefix (prefix_for maximum required base)
unfolding prefix_for
prefix_small maximum required base r b =
    let low : required % (2 * (maximum / 32)) ≤ required = mod-le required (2 * (maximum / 32)) in
    cond_both (nat_eq required 0 || nat_eq maximum 0) _ _ IsWritablePrefix
    (λ _. record { count = lit≤ tt; delta = lit≤ tt })
    (λ _. cond_both (nat_le required base) _ _ IsWritablePrefix
    (λ _. record { count = omega arith; delta = omega arith })
    (λ _. record { count = omega arith; delta = omega arith }))
