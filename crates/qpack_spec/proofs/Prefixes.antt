-- What a prefix is read as: a required insert count has one reading, and a written prefix is read back.
use Rattle.std.proofs.Common.{ℕ, zero, suc, ◌+◌, ◌-◌, ◌*◌, ◌/◌, ◌%◌, ◌^◌, ◌<◌, ◌≤◌, ◌≡◌, Bool, true, false, List}
use Rattle.std.proofs.Common.{Result, Ok}
use Rattle.std.proofs.Common.{Err, refl, sym, ap, ◌∙◌, subst, inl, inr, ◌⊎◌, arith}
use Rattle.std.specs.Prelude.{nat_lt, nat_le, nat_eq, ◌||◌}
use Rattle.std.proofs.Math.Nat.{mod-lt, div-add-mod, add-mul-mod_self_left, mod-eq_of_lt}
use Rattle.std.proofs.lemmas.Bool.{lt-ltb, le-ltb, le-leb, lt-leb, ne_eqb, or_right, or_from, cases_lt}
use Rattle.qpack_spec.specs.Field.{Field}
use Rattle.qpack_spec.specs.Prefix.{Prefix, PrefixFault, prefix_for, IsRequired, required_at, read_required, read_base}
use Rattle.qpack_spec.specs.Prefix.{base_behind, strict_base, with_base, read_prefix, read_strict_prefix}
use Rattle.qpack_spec.specs.Window.{Window, maximum_capacity, window_insert_count}
use Rattle.qpack_spec.specs.Reading.{fields_of, Block, Fields, Missing, reading}
use Rattle.qpack_spec.specs.StrictReading.{IsBelowZero, StrictPrefixesAgree}
use Rattle.qpack_spec.proofs.Results.{ok_is}

-- ---- the required insert count

-- a number below n from a multiple of n away
wrapped : (gap n q : ℕ) → gap < n → (gap + n * q) % n ≡ gap
wrapped gap n q h = add-mul-mod_self_left gap n q ∙ mod-eq_of_lt h

-- the number of a residue within the window is what is computed
required_reads : (received m required : ℕ) → required ≤ received + m → received < required + m
    → required_at (received + m) m (required % (2 * m) + 1) ≡ required
unfolding required_at
required_reads received m required low high =
    let split : (2 * m) * (required / (2 * m)) + required % (2 * m) ≡ required = div-add-mod required (2 * m) in
    let shape : received + m + 2 * m - (required % (2 * m) + 1 - 1)
    ≡ (received + m - required) + (2 * m) * (required / (2 * m) + 1) = omega arith in
    let rest : (received + m + 2 * m - (required % (2 * m) + 1 - 1)) % (2 * m) ≡ received + m - required =
    ap (λ n. n % (2 * m)) shape ∙ wrapped (received + m - required) (2 * m) (required / (2 * m) + 1) (omega arith) in
    omega arith

-- whatever number the window has is the one that is computed
pub required_found : (received m count required : ℕ) → 0 < count → IsRequired received m count required
    → required_at (received + m) m count ≡ required
required_found received m count required positive is =
    let e : required % (2 * m) + 1 ≡ count = omega (arith, is.residue) in
    subst (λ (c : ℕ). required_at (received + m) m c ≡ required) e (required_reads received m required is.most is.above)

-- ---- the window in which a count is read back

pub record InReach (received maximum required : ℕ) : Type 0 where
  pub room : 32 ≤ maximum
  pub low : required ≤ received + maximum / 32
  pub high : received < required + maximum / 32
  pub small : required < 2 ^ 64

written_none : (maximum base : ℕ) → prefix_for maximum 0 base ≡ record { count = 0; sign = false; delta = 0 }
unfolding prefix_for
written_none maximum base = refl

written_below : (maximum required base : ℕ) → 0 < required → 0 < maximum → required ≤ base
    → prefix_for maximum required base ≡ record {
      count = required % (2 * (maximum / 32)) + 1;
      sign = false;
      delta = base - required;
    }
unfolding prefix_for
written_below maximum required base r a le =
    rw (
      or_from (nat_eq required 0) (nat_eq maximum 0) (ne_eqb required 0 (λ e. absurd (omega arith)))
          (ne_eqb maximum 0 (λ e. absurd (omega arith))),
      le-leb required base le,
    ) refl

written_above : (maximum required base : ℕ) → 0 < required → 0 < maximum → base < required
    → prefix_for maximum required base ≡ record {
      count = required % (2 * (maximum / 32)) + 1;
      sign = true;
      delta = required - base - 1;
    }
unfolding prefix_for
written_above maximum required base r a lt =
    rw (
      or_from (nat_eq required 0) (nat_eq maximum 0) (ne_eqb required 0 (λ e. absurd (omega arith)))
          (ne_eqb maximum 0 (λ e. absurd (omega arith))),
      lt-leb required base lt,
    ) refl

-- the count that is written is read back
pub reads_required : (received maximum required : ℕ) → 0 < required → InReach received maximum required
    → read_required received maximum (required % (2 * (maximum / 32)) + 1) ≡ Ok required
unfolding read_required
reads_required received maximum required r reach =
    let m = maximum / 32 in
    let positive : 0 < m = omega (arith, reach.room) in
    let small : required % (2 * m) < 2 * m = mod-lt required (omega arith) in
    let back : required_at (received + m) m (required % (2 * m) + 1) ≡ required =
    required_reads received m required reach.low reach.high in
    let t1 : (nat_eq maximum 0 || nat_eq (required % (2 * m) + 1) 0) ≡ false =
    or_from (nat_eq maximum 0) (nat_eq (required % (2 * m) + 1) 0)
    (ne_eqb maximum 0 (λ e. absurd (omega (arith, reach.room)))) (ne_eqb _ 0 (λ e. absurd (omega arith))) in
    let t2 : (nat_eq m 0 || nat_lt (2 * m) (required % (2 * m) + 1)) ≡ false =
    or_from (nat_eq m 0) (nat_lt (2 * m) (required % (2 * m) + 1)) (ne_eqb m 0 (λ e. absurd (omega arith)))
    (le-ltb _ _ (omega arith)) in
    let t3 : (nat_eq required 0 || nat_le (2 ^ 64) required) ≡ false =
    or_from (nat_eq required 0) (nat_le (2 ^ 64) required) (ne_eqb required 0 (λ e. absurd (omega arith)))
    (lt-leb _ _ reach.small) in
    rw (t1, t2, back, t3) refl

-- the base that is written is read back
reads_below : (required base : ℕ) → required ≤ base → base < 2 ^ 64
    → read_base false required (base - required) ≡ Ok base
unfolding read_base
reads_below required base le small =
    let e : required + (base - required) ≡ base = omega arith in
    rw (e, lt-ltb base (2 ^ 64) small) refl

reads_above : (required base : ℕ) → base < required → read_base true required (required - base - 1) ≡ Ok base
unfolding read_base
reads_above required base lt =
    rw (lt-ltb (required - base - 1) required (omega arith)) (ap (λ (n : ℕ). let x : Result ℕ PrefixFault = Ok n in
    x) (omega arith))

-- a prefix is read as its count, and as its base where the count isn't 0; else it has no sign bit
pub record ReadsAs (received maximum required base : ℕ) (p : Prefix) : Type 0 where
  pub reads_count : read_required received maximum p.count ≡ Ok required
  pub reads_base : 0 < required → read_base p.sign required p.delta ≡ Ok base
  pub not_below : required ≡ 0 → p.sign ≡ false

pub reads_none : (received maximum : ℕ) → read_required received maximum 0 ≡ Ok 0
unfolding read_required
reads_none received maximum = rw (or_right (nat_eq maximum 0) (nat_eq 0 0) refl) refl

pub reads_written : (received maximum required base : ℕ) → base < 2 ^ 64
    → (0 < required → InReach received maximum required)
    → ReadsAs received maximum required base (prefix_for maximum required base)
reads_written received maximum zero base small reach =
    rw (written_none maximum base) (record {
      reads_count = reads_none received maximum;
      reads_base = λ z. absurd (omega arith);
      not_below = λ _. refl;
    })
reads_written received maximum (suc r) base small reach =
    let in_reach : InReach received maximum (suc r) = reach (omega arith) in
    let positive : 0 < maximum = omega (arith, in_reach.room) in
    pick in_reach positive (cases_lt base (suc r))
  where
    pick : InReach received maximum (suc r) → 0 < maximum → (base < suc r) ⊎ (suc r ≤ base)
        → ReadsAs received maximum (suc r) base (prefix_for maximum (suc r) base)
    pick in_reach positive (inl lt) =
        rw (written_above maximum (suc r) base (omega arith) positive lt)
        (record {
          reads_count = reads_required received maximum (suc r) (omega arith) in_reach;
          reads_base = λ _. reads_above (suc r) base lt;
          not_below = λ z. absurd (omega arith);
        })
    pick in_reach positive (inr le) =
        rw (written_below maximum (suc r) base (omega arith) positive le)
        (record {
          reads_count = reads_required received maximum (suc r) (omega arith) in_reach;
          reads_base = λ _. reads_below (suc r) base le small;
          not_below = λ z. absurd (omega arith);
        })

-- the base of a written prefix, behind its required insert count
pub base_written : (maximum required base : ℕ) → 0 < required → 0 < maximum → base < 2 ^ 64
    → (let p = prefix_for maximum required base in read_base p.sign required p.delta ≡ Ok base)
base_written maximum required base r m small = pick (cases_lt base required)
  where
    pick : (base < required) ⊎ (required ≤ base)
        → (let p = prefix_for maximum required base in read_base p.sign required p.delta ≡ Ok base)
    pick (inl lt) = rw (written_above maximum required base r m lt) (reads_above required base lt)
    pick (inr le) = rw (written_below maximum required base r m le) (reads_below required base le small)

-- of a block that requires nothing no sign is written
pub written_not_below : (maximum base : ℕ) → (prefix_for maximum 0 base).sign ≡ false
written_not_below maximum base = ap (λ (p : Prefix). p.sign) (written_none maximum base)

-- the whole prefix
pub prefix_dynamic : (received maximum required base : ℕ) (p : Prefix) → ReadsAs received maximum required base p
    → 0 < required → read_prefix received maximum p ≡ Ok (required, base)
unfolding read_prefix
prefix_dynamic received maximum required base p a positive =
    rw (a.reads_count, ne_eqb required 0 (λ e. absurd (omega arith)), a.reads_base positive) refl

pub prefix_plain : (received maximum base : ℕ) (p : Prefix) → ReadsAs received maximum 0 base p
    → read_prefix received maximum p ≡ Ok (0, 0)
unfolding read_prefix
prefix_plain received maximum base p a = rw a.reads_count refl

-- ---- to a strict decoder

strict_else : (p : Prefix) (r : Result ℕ PrefixFault) → ((r ≡ Ok 0) × (p.sign ≡ true) → ⊥)
    → with_base (λ required. strict_base p required) r ≡ with_base (λ required. base_behind p required) r
strict_else p (Err e) h = refl
strict_else p (Ok zero) h = pick p.sign refl
  where
    pick : (sign : Bool) → p.sign ≡ sign
        → with_base (λ required. strict_base p required) (Ok 0) ≡ with_base (λ required. base_behind p required) (Ok 0)
    pick false q = rw q refl
    pick true q = absurd (h (refl, q))
strict_else p (Ok (suc n)) h = rw (ne_eqb (suc n) 0 (λ e. absurd (omega (arith, e)))) refl

-- it reads a prefix as any reader does, unless the prefix requires nothing and has the sign bit
pub strict_agrees : StrictPrefixesAgree
unfolding read_prefix read_strict_prefix read_base
strict_agrees total maximum p =
    let same : p.delta - 0 ≡ p.delta = omega arith in (
      strict_else p (read_required total maximum p.count),
      λ b. (rw (b.0, b.1, le-ltb p.delta 0 (omega arith), same) refl, rw b.0 refl),
    )

-- whether it is such a prefix
pub below_or_not : (total maximum : ℕ) (p : Prefix) → IsBelowZero total maximum p ⊎ (IsBelowZero total maximum p → ⊥)
below_or_not total maximum p = pick (read_required total maximum p.count) refl p.sign refl
  where
    pick : (r : Result ℕ PrefixFault) → read_required total maximum p.count ≡ r → (sign : Bool) → p.sign ≡ sign
        → IsBelowZero total maximum p ⊎ (IsBelowZero total maximum p → ⊥)
    pick (Err e) q sign s = inr (λ b. absurd (let x = sym q ∙ b.0 in cc))
    pick (Ok zero) q true s = inl (q, s)
    pick (Ok zero) q false s = inr (λ b. absurd (let x = sym s ∙ b.1 in cc))
    pick (Ok (suc n)) q sign s = inr (λ b. absurd (let x = ok_is (suc n) 0 (sym q ∙ b.0) in omega (arith, x)))

-- so what is read of a prefix is read strictly, where one that requires nothing has no sign bit
pub strict_same : (total maximum required base : ℕ) (p : Prefix) → read_prefix total maximum p ≡ Ok (required, base)
    → (required ≡ 0 → p.sign ≡ false) → read_strict_prefix total maximum p ≡ Ok (required, base)
strict_same total maximum required base p read plain = (strict_agrees total maximum p).0 other ∙ read
  where
    other : IsBelowZero total maximum p → ⊥
    other b =
        let none = ok_is (0, 0) (required, base) (sym ((strict_agrees total maximum p).1 b).1 ∙ read) in
        absurd (let x = sym b.1 ∙ plain (sym (ap (λ (r : ℕ × ℕ). r.0) none)) in cc)

-- ---- blocks

abbrev pub maximum_of : Window → ℕ
maximum_of w = maximum_capacity w.agreed_max w.capacity

-- a block that requires more than was received
pub reading_missing : (w : Window) (b : Block) (required base : ℕ)
    → ReadsAs (window_insert_count w) (maximum_of w) required base b.prefix → window_insert_count w < required
    → reading w b ≡ Missing required
unfolding reading
reading_missing w b required base p lt =
    rw (
      prefix_dynamic (window_insert_count w) (maximum_of w) required base b.prefix p (omega arith),
      lt-ltb
          (window_insert_count w) required lt,
    )
    refl

-- a block whose lines mean fs
pub reading_fields : (w : Window) (b : Block) (required base : ℕ) (fs : List Field)
    → ReadsAs (window_insert_count w) (maximum_of w) required base b.prefix → required ≤ window_insert_count w → 0
    < required
    → fields_of w base b.lines ≡ Ok fs → reading w b ≡ Fields fs true
unfolding reading
reading_fields w b required base fs p le r h =
    rw (
      prefix_dynamic (window_insert_count w) (maximum_of w) required base b.prefix p r,
      le-ltb (window_insert_count w) required le,
      h,
      lt-ltb 0 required r,
    ) refl

pub reading_plain : (w : Window) (b : Block) (base : ℕ) (fs : List Field)
    → ReadsAs (window_insert_count w) (maximum_of w) 0 base b.prefix → fields_of w 0 b.lines ≡ Ok fs → reading w b
    ≡ Fields fs false
unfolding reading
reading_plain w b base fs p h =
    rw (
      prefix_plain (window_insert_count w) (maximum_of w) base b.prefix p,
      le-ltb (window_insert_count w) 0
          (omega arith),
      h,
    ) refl
