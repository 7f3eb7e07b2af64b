-- A stream whose section was decoded, waits for more insertions, or is refused, is not ready.
use Rattle.std.proofs.Common.{◌≡◌, ℕ, zero, suc, ◌<◌, ◌≤◌, Bool, true, false, cond, List, [], ◌∷◌, length}
use Rattle.std.proofs.Common.{Option, None, Some, Result, Ok, Err, refl, sym, subst, ◌∙◌, inl, inr, arith}
use Rattle.std.specs.Prelude.{find, nat_lt, nat_le, nat_eq, ◌&&◌}
use Rattle.std.specs.Option.{option_map}
use Rattle.std.proofs.lemmas.Bool.{ltb-true, leb-true, eqb-false}
use Rattle.qpack_spec.specs.Field.{FieldLine}
use Rattle.qpack_spec.specs.Form.{FormFault}
use Rattle.qpack_spec.specs.LengthLaws.{longest_section}
use Rattle.qpack_spec.specs.Prefix.{Prefix, PrefixFault, prefix_at, read_strict_prefix}
use Rattle.qpack_spec.specs.StrictReading.{StrictReading, SectionFault, Read, Blocked, Refused, TooLong, CountAtZero}
use Rattle.qpack_spec.specs.StrictReading.{LinesUnder, lines_behind, strict_behind, strict_section_behind}
use Rattle.qpack_spec.specs.StrictReading.{strict_lines_at, strict_reading}
use Rattle.qpack_spec.specs.Table.{insert_count, window}
use Rattle.qpack_spec.specs.Window.{Window, maximum_capacity, window_insert_count}
use Rattle.qpack_shared.specs.Streams.{without}
use Rattle.qpack_decoding.specs.Blocked.{required_of, ready, in_order, comes_before, with_blocked}
use Rattle.qpack_decoding.specs.Decoders.{DecodingEnd}
use Rattle.qpack_shared.specs.declared.streams.BlockedStream.{BlockedStream}
use Rattle.qpack_decoding.specs.declared.decoder.DecodingError.TheVariants as decoding
use Rattle.qpack_decoding.specs.declared.section.Reading.TheVariants as reading
use Rattle.qpack_decoding.proofs.BlockedStreams.{gone}
use Rattle.qpack_decoding.proofs.SectionParts.{count_is}
use Rattle.qpack_connection.specs.SettledSections.{SectionsSettle}

-- the entry is a stream's
abbrev is_of : ℕ → BlockedStream → Bool
is_of stream b = nat_eq b.stream stream

some_is : (a b : ℕ) → (let o : Option ℕ = Some a in o) ≡ Some b → a ≡ b
some_is a b e = cc

-- a stream that is not there is not ready
unlisted_unready : (n s : ℕ) (bs : List BlockedStream) → required_of s bs ≡ None → ready n bs ≡ Some s → ⊥
unlisted_unready n s [] none is = let l = is in cc
unlisted_unready n s (x ∷ xs) none is =
    both (is_of s x) (nat_le x.required n) refl none is (unlisted_unready n s xs)
  where
    both : (t u : Bool) → is_of s x ≡ t
        → option_map (λ b. b.required) (cond t (Some x) (find (λ b. is_of s b) xs)) ≡ None
        → option_map (λ b. b.stream) (cond u (Some x) (find (λ b. nat_le b.required n) xs)) ≡ Some s
        → (required_of s xs ≡ None → ready n xs ≡ Some s → ⊥) → ⊥
    both true u e none is more = let l = none in cc
    both false true e none is more = eqb-false x.stream s e (some_is x.stream s is)
    both false false e none is more = more none is

-- nor is one that waits for more, before others
unready_first : (n : ℕ) (b : BlockedStream) (bs : List BlockedStream) (u : Bool) → n < b.required
    → nat_le b.required n ≡ u → required_of b.stream bs ≡ None
    → option_map (λ b. b.stream) (cond u (Some b) (find (λ b. nat_le b.required n) bs)) ≡ Some b.stream → ⊥
unready_first n b bs true more e none is = let l = leb-true b.required n e in omega (arith, l, more)
unready_first n b bs false more e none is = unlisted_unready n b.stream bs none is

-- or among them
unready_in_order : (n : ℕ) (b : BlockedStream) (bs : List BlockedStream) → n < b.required
    → required_of b.stream bs ≡ None → ready n (in_order b bs) ≡ Some b.stream → ⊥
unready_in_order n b [] more none is = unready_first n b [] (nat_le b.required n) more refl none is
unready_in_order n b (x ∷ xs) more none is =
    by_order (comes_before b x) (unready_in_order n b xs more) none is
  where
    by_place : (t u : Bool) → is_of b.stream x ≡ t
        → (required_of b.stream xs ≡ None → ready n (in_order b xs) ≡ Some b.stream → ⊥)
        → option_map (λ b. b.required) (cond t (Some x) (find (λ y. is_of b.stream y) xs)) ≡ None
        → option_map (λ b. b.stream) (cond u (Some x) (find (λ b. nat_le b.required n) (in_order b xs)))
        ≡ Some b.stream → ⊥
    by_place true u e rest none is = let l = none in cc
    by_place false true e rest none is = eqb-false x.stream b.stream e (some_is x.stream b.stream is)
    by_place false false e rest none is = rest none is

    by_order : (t : Bool) → (required_of b.stream xs ≡ None → ready n (in_order b xs) ≡ Some b.stream → ⊥)
        → required_of b.stream (x ∷ xs) ≡ None → ready n (cond t (b ∷ x ∷ xs) (x ∷ in_order b xs)) ≡ Some b.stream → ⊥
    by_order true rest none is = unready_first n b (x ∷ xs) (nat_le b.required n) more refl none is
    by_order false rest none is = by_place (is_of b.stream x) (nat_le x.required n) refl rest none is

unready_blocked : (n : ℕ) (b : BlockedStream) (bs : List BlockedStream) → n < b.required
    → ready n (with_blocked b bs) ≡ Some b.stream → ⊥
unready_blocked n b bs more = unready_in_order n b (without b.stream bs) more (gone b.stream bs)

unready_without : (n s : ℕ) (bs : List BlockedStream) → ready n (without s bs) ≡ Some s → ⊥
unready_without n s bs = unlisted_unready n s (without s bs) (gone s bs)

-- ---- a section that is blocked requires more than was received

not_blocked : (required r : ℕ) (q : Result (List FieldLine) SectionFault) → lines_behind required q ≡ Blocked r → ⊥
not_blocked required r (Ok fields) is = let l = is in cc
not_blocked required r (Err e) is = let l = is in cc

blocked_requires_more : (w : Window) (limit : ℕ) (bytes : List ℕ) (r : ℕ)
    → strict_reading w limit bytes ≡ Blocked r → window_insert_count w < r
unfolding strict_reading
blocked_requires_more w limit bytes r is =
    by_length (nat_lt (longest_section limit) (length bytes)) (prefix_at bytes) is
  where
    total : ℕ
    total = window_insert_count w

    blocked_is : (a : ℕ) → Blocked a ≡ Blocked r → a ≡ r
    blocked_is a e = cc

    by_prefix : (rest : List ℕ) (p : Result (ℕ × ℕ) PrefixFault)
        → strict_behind w limit (length bytes) rest p ≡ Blocked r → total < r
    by_prefix rest (Err e) is = absurd (let l = is in cc)
    by_prefix rest (Ok p) is = by_count (nat_lt total p.0) refl is
      where
        by_count : (t : Bool) → nat_lt total p.0 ≡ t
            → cond t (Blocked p.0)
            (lines_behind p.0
            (strict_lines_at (length rest)
            (record { window = w; required = p.0; base = p.1; limit = limit; section = length bytes }) 0 0 rest))
            ≡ Blocked r → total < r
        by_count true e is = subst (λ m. total < m) (blocked_is p.0 is) (ltb-true total p.0 e)
        by_count false e is = absurd (not_blocked p.0 r _ is)

    by_length : (t : Bool) (q : Result (Prefix × List ℕ) FormFault)
        → cond t (Refused TooLong) (strict_section_behind w limit (length bytes) q) ≡ Blocked r → total < r
    by_length true q is = absurd (let l = is in cc)
    by_length false (Err e) is = absurd (let l = is in cc)
    by_length false (Ok p) is =
        by_counts (nat_eq (maximum_capacity w.agreed_max w.capacity) 0 && nat_lt 0 p.0.count) is
      where
        by_counts : (t : Bool)
            → cond t (Refused CountAtZero)
            (strict_behind w limit (length bytes) p.1
            (read_strict_prefix total (maximum_capacity w.agreed_max w.capacity) p.0))
            ≡ Blocked r → total < r
        by_counts true is = absurd (let l = is in cc)
        by_counts false is = by_prefix p.1 _ is

-- ---- a call

pub sections_settle : SectionsSettle
sections_settle old new stream bytes fields (Ok (reading.Fields zero)) alive d settled =
    subst (λ (x : DecodingEnd). ready (insert_count x.table) x.blocked ≡ Some stream → ⊥) (sym d.1.1)
    (unready_without (insert_count old.table) stream old.blocked)
sections_settle old new stream bytes fields (Ok (reading.Fields (suc required))) alive d settled =
    subst (λ (x : DecodingEnd). ready (insert_count x.table) x.blocked ≡ Some stream → ⊥) (sym d.1.1)
    (unready_without (insert_count old.table) stream old.blocked)
sections_settle old new stream bytes fields (Ok (reading.Blocked required)) alive d settled =
    subst (λ (x : DecodingEnd). ready (insert_count x.table) x.blocked ≡ Some stream → ⊥) (sym d.1.3)
    (unready_blocked (insert_count old.table) (record { stream = stream; required = required }) old.blocked
    (subst (λ (n : ℕ). n < required) (sym (count_is old.table))
    (blocked_requires_more (window old.table) old.settings.max_section_size bytes required d.1.0)))
sections_settle old new stream bytes fields (Err (decoding.Section q e)) alive (none, inl (inl ended, same)) settled =
    absurd (let l = sym alive ∙ ended in cc)
sections_settle old new stream bytes fields (Err (decoding.Section q e)) alive (none, inl (inr number, same)) settled =
    absurd (let l = number.2 in cc)
sections_settle old new stream bytes fields (Err (decoding.Section q e)) alive (none, inr stopped) settled =
    subst (λ (x : DecodingEnd). ready (insert_count x.table) x.blocked ≡ Some stream → ⊥) (sym stopped.1.2)
    (unready_without (insert_count old.table) stream old.blocked)
sections_settle old new stream bytes fields (Err (decoding.EncoderStream place e)) alive d settled = absurd settled
sections_settle old new stream bytes fields (Err (decoding.TooManyBlocked q)) alive d settled = absurd settled
sections_settle old new stream bytes fields (Err (decoding.NoStream q)) alive d settled = absurd settled
sections_settle old new stream bytes fields (Err decoding.Memory) alive d settled = absurd settled
