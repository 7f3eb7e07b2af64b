-- Insertions are only added.
use Rattle.std.proofs.Common.{◌≡◌, ℕ, ◌+◌, ◌^◌, ◌≤◌, cond, ◌&&◌, nat_eq, nat_le, nat_lt, List, [], ◌∷◌, ◌++◌, length}
use Rattle.std.proofs.Common.{drop}
use Rattle.std.proofs.Common.{Result, Ok, Err, subst, inl, inr, arith, length-append}
use Rattle.std.proofs.lemmas.List.{length-drop}
use Rattle.qpack_spec.specs.Field.{Field, field_size}
use Rattle.qpack_spec.specs.Instruction.{EncoderInstruction, InsertStaticName, InsertDynamicName, InsertLiteralName}
use Rattle.qpack_spec.specs.Instruction.{Duplicate, SetCapacity}
use Rattle.qpack_rules.specs.Session.{apply_encoder_instructions}
use Rattle.qpack_spec.specs.Table.{Table, Entry, insert_count, fields_in, can_evict, eviction_count_for, with_entry}
use Rattle.qpack_spec.specs.Table.{put_entry, put, with_capacity, apply_encoder_instruction}
use Rattle.qpack_spec.specs.Window.{TableRefusal, DoesNotFit, AboveMaximum, greatest_capacity, eviction_count}
use Rattle.qpack_spec.specs.Window.{with_value}
use Rattle.qpack_spec.proofs.Results.{bind_ok, chosen, ok_is}

-- what is left of the live entries, with those that went
left_counts : (dropped k : ℕ) (es : List Entry) → dropped + length es ≤ dropped + k + length (drop k es)
left_counts dropped k es = let e = length-drop k es in omega (arith, e)

entry_counts : (t : Table) (e : Entry) → insert_count t ≤ insert_count (with_entry t e)
unfolding with_entry
entry_counts t e =
    let left = left_counts t.dropped (eviction_count_for t e.field) (t.live ++ e ∷ []) in
    let more = length-append t.live (e ∷ []) in
    omega (arith, left, more)

abbrev table_ok : Table → Result Table TableRefusal
table_ok t = Ok t

put_counts : (t u : Table) (f : Field) → put t f ≡ Ok u → insert_count t ≤ insert_count u
unfolding put
put_counts t u f e =
    elim (chosen (nat_eq t.capacity 0) (Ok t) (cond (nat_le (field_size f) t.capacity) (inserted t f) (Err DoesNotFit))
    (Ok u) e) [
      | inl h ↦ same h.1
      | inr h ↦
          elim (chosen (nat_le (field_size f) t.capacity) (inserted t f) (Err DoesNotFit) (Ok u) h.1) [
            | inl fits ↦
                elim (chosen (nat_lt (insert_count t) (2 ^ 62) && can_evict t (eviction_count_for t f))
                (Ok (with_entry t (put_entry f))) (Ok t) (Ok u) fits.1) [
                  | inl room ↦ subst (λ (v : Table). insert_count t ≤ insert_count v) (ok_is _ _ room.1)
                      (entry_counts t (put_entry f))
                  | inr none ↦ same none.1
                ]
            | inr large ↦ absurd (let l = large.1 in cc)
          ]
    ]
  where
    inserted : Table → Field → Result Table TableRefusal
    inserted t f = cond (nat_lt (insert_count t) (2 ^ 62) && can_evict t (eviction_count_for t f))
        (Ok (with_entry t (put_entry f))) (Ok t)

    same : table_ok t ≡ Ok u → insert_count t ≤ insert_count u
    same e = subst (λ (v : Table). insert_count t ≤ insert_count v) (ok_is _ _ e) (omega arith)

capacity_counts : (t u : Table) (n : ℕ) → with_capacity t n ≡ Ok u → insert_count t ≤ insert_count u
unfolding with_capacity
capacity_counts t u n e =
    let evicted = eviction_count n (fields_in t.live) in
    let changed : Table = record t { capacity = n; dropped = t.dropped + evicted; live = drop evicted t.live } in
    elim (chosen (nat_le n (greatest_capacity t.agreed_max)) (cond (can_evict t evicted) (Ok changed) (Err DoesNotFit))
    (Err AboveMaximum) (Ok u) e) [
      | inl within ↦
          elim (chosen (can_evict t evicted) (Ok changed) (Err DoesNotFit) (Ok u) within.1) [
            | inl may ↦ subst (λ (v : Table). insert_count t ≤ insert_count v) (ok_is _ _ may.1)
                (left_counts t.dropped evicted t.live)
            | inr held ↦ absurd (let l = held.1 in cc)
          ]
      | inr above ↦ absurd (let l = above.1 in cc)
    ]

instruction_counts : (t u : Table) (i : EncoderInstruction) → apply_encoder_instruction t i ≡ Ok u
    → insert_count t ≤ insert_count u
unfolding apply_encoder_instruction
instruction_counts t u (InsertStaticName index value) e =
    let f = bind_ok _ (λ f. put t (with_value value f)) u e in put_counts t u (with_value value f.0) f.2
instruction_counts t u (InsertDynamicName relative value) e =
    let f = bind_ok _ (λ f. put t (with_value value f)) u e in put_counts t u (with_value value f.0) f.2
instruction_counts t u (InsertLiteralName name value) e = put_counts t u _ e
instruction_counts t u (Duplicate relative) e = let f = bind_ok _ (λ f. put t f) u e in put_counts t u f.0 f.2
instruction_counts t u (SetCapacity n) e = capacity_counts t u n e

pub instructions_count : (lines : List EncoderInstruction) (t u : Table) → apply_encoder_instructions t lines ≡ Ok u
    → insert_count t ≤ insert_count u
instructions_count [] t u e = subst (λ (v : Table). insert_count t ≤ insert_count v) (ok_is _ _ e) (omega arith)
instructions_count (i ∷ lines) t u e =
    let first = bind_ok (apply_encoder_instruction t i) (λ v. apply_encoder_instructions v lines) u e in
    let one = instruction_counts t first.0 i first.1 in
    let more = instructions_count lines first.0 u first.2 in
    omega (arith, one, more)
