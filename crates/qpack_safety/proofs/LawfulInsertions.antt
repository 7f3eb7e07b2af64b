-- What is under way on the encoder stream inserts nothing at capacity 0.
use Rattle.std.proofs.Common.{ℕ, ◌≡◌, false, List, [], ◌∷◌, ◌++◌, Result, Ok, Err}
use Rattle.std.proofs.Common.{refl, sym, subst, inl, inr, arith}
use Rattle.std.specs.List.{AllByRecursion, slice_get}
use Rattle.std.specs.Prelude.{nat_eq, nat_le, nat_lt, ◌^◌}
use Rattle.qpack_spec.specs.Field.{Field, field_size}
use Rattle.qpack_spec.specs.Instruction.{EncoderInstruction, InsertStaticName, InsertDynamicName, InsertLiteralName}
use Rattle.qpack_spec.specs.Instruction.{Duplicate, SetCapacity}
use Rattle.qpack_spec.specs.StaticTable.{static_table}
use Rattle.qpack_rules.specs.StrictInstructions.{inserts}
use Rattle.qpack_spec.specs.Window.{Window, TableRefusal, DoesNotFit, AboveMaximum, NoEntry, NoStaticField, Effect, Inserts}
use Rattle.qpack_spec.specs.Window.{Ignored, Resizes, or_refusal, with_value, insertion, effect, window_after, apply}
use Rattle.qpack_spec.specs.Window.{relative_entry, greatest_capacity, window_insert_count}
use Rattle.qpack_rules.proofs.Insertions.{InsertsAt}
use Rattle.qpack_spec.proofs.Results.{bind_ok, chosen, ok_is}

-- the capacity behind an instruction
abbrev pub capacity_behind : ℕ → EncoderInstruction → ℕ
capacity_behind c (InsertStaticName index value) = c
capacity_behind c (InsertDynamicName relative value) = c
capacity_behind c (InsertLiteralName name value) = c
capacity_behind c (Duplicate relative) = c
capacity_behind c (SetCapacity n) = n

-- and behind some
abbrev pub capacity_after : ℕ → List EncoderInstruction → ℕ
capacity_after c [] = c
capacity_after c (i ∷ is) = capacity_after (capacity_behind c i) is

-- none inserts at capacity 0
abbrev pub NoneAtZero : ℕ → List EncoderInstruction → Type 0
NoneAtZero c [] = Unit {0}
NoneAtZero c (i ∷ is) = (c ≡ 0 → inserts i ≡ false) × NoneAtZero (capacity_behind c i) is

pub none_append : (c : ℕ) (xs ys : List EncoderInstruction) → NoneAtZero c xs → NoneAtZero (capacity_after c xs) ys
    → NoneAtZero c (xs ++ ys)
none_append c [] ys h k = k
none_append c (x ∷ xs) ys h k = (h.0, none_append (capacity_behind c x) xs ys h.1 k)

pub capacity_append : (c : ℕ) (xs ys : List EncoderInstruction)
    → capacity_after c (xs ++ ys) ≡ capacity_after (capacity_after c xs) ys
capacity_append c [] ys = refl
capacity_append c (x ∷ xs) ys = capacity_append (capacity_behind c x) xs ys

one_lawful : (c : ℕ) (i : EncoderInstruction) → InsertsAt c i → (c ≡ 0 → inserts i ≡ false)
    × (capacity_behind c i ≡ c)
one_lawful c (InsertStaticName index value) h = (λ e. absurd (omega (arith, h, e)), refl)
one_lawful c (InsertDynamicName relative value) h = (λ e. absurd (omega (arith, h, e)), refl)
one_lawful c (InsertLiteralName name value) h = (λ e. absurd (omega (arith, h, e)), refl)
one_lawful c (Duplicate relative) h = (λ e. refl, refl)
one_lawful c (SetCapacity n) h = absurd h

-- insertions at a capacity above 0 are lawful, and leave it
pub insertions_lawful : (c : ℕ) (is : List EncoderInstruction) → AllByRecursion (InsertsAt c) is
    → NoneAtZero c is × (capacity_after c is ≡ c)
insertions_lawful c [] h = (tt, refl)
insertions_lawful c (i ∷ is) h =
    let one = one_lawful c i h.0 in
    let more = insertions_lawful c is h.1 in (
      (one.0, subst (λ (n : ℕ). NoneAtZero n is) (sym one.1) more.0),
      subst (λ (n : ℕ). capacity_after n is ≡ c) (sym one.1) more.1,
    )

-- ---- what a table makes of them

abbrev effect_ok : Effect → Result Effect TableRefusal
effect_ok e = Ok e

inserted_capacity : (w : Window) (f : Field) (e : Effect) → insertion w f ≡ Ok e
    → (window_after w e).capacity ≡ w.capacity
unfolding insertion window_after
inserted_capacity w f e h =
    elim (chosen (nat_eq w.capacity 0) (effect_ok Ignored) _ (Ok e) h) [
      | inl none ↦ subst (λ (x : Effect). (window_after w x).capacity ≡ w.capacity) (ok_is Ignored e none.1) refl
      | inr some ↦
          elim (chosen (nat_le (field_size f) w.capacity) _ (Err DoesNotFit) (Ok e) some.1) [
            | inl fits ↦
                elim (chosen (nat_lt (window_insert_count w) (2 ^ 62)) (effect_ok (Inserts f)) (effect_ok Ignored) (Ok e)
                fits.1) [
                  | inl room ↦ subst (λ (x : Effect). (window_after w x).capacity ≡ w.capacity)
                      (ok_is (Inserts f) e room.1) refl
                  | inr full ↦ subst (λ (x : Effect). (window_after w x).capacity ≡ w.capacity)
                      (ok_is Ignored e full.1) refl
                ]
            | inr large ↦ absurd (let l = large.1 in cc)
          ]
    ]

resized_capacity : (w : Window) (n : ℕ) → (window_after w (Resizes n)).capacity ≡ n
unfolding window_after
resized_capacity w n = refl

effect_capacity : (w : Window) (i : EncoderInstruction) (e : Effect) → effect w i ≡ Ok e
    → (window_after w e).capacity ≡ capacity_behind w.capacity i
unfolding effect
effect_capacity w (InsertStaticName index value) e h =
    let f = bind_ok (or_refusal (slice_get static_table index) (NoStaticField index))
    (λ f. insertion w (with_value value f)) e h in
    inserted_capacity w (with_value value f.0) e f.2
effect_capacity w (InsertDynamicName relative value) e h =
    let f = bind_ok (or_refusal (relative_entry w relative) (NoEntry relative))
    (λ f. insertion w (with_value value f)) e h in
    inserted_capacity w (with_value value f.0) e f.2
effect_capacity w (InsertLiteralName name value) e h = inserted_capacity w _ e h
effect_capacity w (Duplicate relative) e h =
    let f = bind_ok (or_refusal (relative_entry w relative) (NoEntry relative)) (λ f. insertion w f) e h in
    inserted_capacity w f.0 e f.2
effect_capacity w (SetCapacity n) e h =
    elim (chosen (nat_le n (greatest_capacity w.agreed_max)) (effect_ok (Resizes n)) (Err AboveMaximum) (Ok e) h) [
      | inl within ↦ resized (ok_is (Resizes n) e within.1)
      | inr above ↦ absurd (let l = above.1 in cc)
    ]
  where
    resized : Resizes n ≡ e → (window_after w e).capacity ≡ n
    resized is = subst (λ (x : Effect). (window_after w x).capacity ≡ n) is (resized_capacity w n)

-- the capacity of the table behind an instruction
pub applied_capacity : (w new : Window) (i : EncoderInstruction) → apply w i ≡ Ok new
    → new.capacity ≡ capacity_behind w.capacity i
applied_capacity w new i h =
    let e = bind_ok (effect w i) (λ e. Ok (window_after w e)) new h in
    subst (λ (x : Window). x.capacity ≡ capacity_behind w.capacity i) (ok_is (window_after w e.0) new e.2)
    (effect_capacity w i e.0 e.1)
