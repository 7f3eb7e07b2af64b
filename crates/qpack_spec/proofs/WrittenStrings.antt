-- The written string is a literal of its value, and is read back whole.
use Rattle.std.proofs.Common.{◌≡◌, ℕ, suc, ◌+◌, ◌-◌, ◌*◌, ◌^◌, ◌<◌, ◌≤◌, List, ◌++◌, length, Ok, refl, sym, ap, ◌∙◌}
use Rattle.std.proofs.Common.{arith, inl, inr, lit≤, Bool, true, false, cond}
use Rattle.std.proofs.Math.Nat.{pow-succ'}
use Rattle.std.proofs.Math.Pow.{pow_mono}
use Rattle.qpack_spec.specs.Integer.{full}
use Rattle.qpack_spec.specs.IntegerLaws.{IsWritable}
use Rattle.qpack_spec.specs.Huffman.{payload_of}
use Rattle.qpack_spec.specs.Text.{IsLiteral, SpellsString, string_at, Coding, is_coded, written_literal_of, coded_string}
use Rattle.qpack_spec.specs.TextLaws.{IsWritableString, WrittenStringsAreLiterals, WrittenStringsAreReadBack}
use Rattle.qpack_spec.proofs.Results.{ok_triple}
use Rattle.qpack_spec.proofs.WrittenIntegers.{written_back}
use Rattle.qpack_spec.proofs.WrittenPayloads.{written_means}
use Rattle.qpack_spec.proofs.Texts.{string_again}

flags_fit : (n flags huffman : ℕ) → 2 ≤ n → n ≤ 8 → flags < 2 ^ (8 - n) → huffman < 2
    → 2 * flags + huffman < 2 ^ (8 - (n - 1))
flags_fit n flags huffman least most fit few =
    let e : 8 - (n - 1) ≡ suc (8 - n) = omega arith in rw (e, pow-succ' 2 (8 - n)) (omega arith)

-- a payload behind its length is a literal
payload_literal : (n flags huffman : ℕ) (payload : List ℕ) → 2 ≤ n → n ≤ 8 → flags < 2 ^ (8 - n) → huffman < 2
    → length payload < 2 ^ 63 + full (n - 1)
    → IsLiteral n (written_literal_of n flags huffman payload) flags huffman payload
payload_literal n flags huffman payload least most fit few size =
    let small : n - 1 ≤ 7 = omega (arith, most) in
    let i : IsWritable (n - 1) (2 * flags + huffman) (length payload) =
    record {
      least = omega (arith, least);
      most = omega (arith, most);
      high = flags_fit n flags huffman least most fit few;
      low = omega (arith, size, pow_mono small);
    } in
    let b = written_back (n - 1) (2 * flags + huffman) (length payload) i size in
    record { head = _; parts = refl; spells = b.0 }

pub written_literal : WrittenStringsAreLiterals
unfolding coded_string
written_literal coding n flags value w = both (is_coded coding value) w.size
  where
    both : (b : Bool) → length (cond b (payload_of value) value) < 2 ^ 63 + full (n - 1)
        → SpellsString n (cond b (written_literal_of n flags 1 (payload_of value))
        (written_literal_of n flags 0 value)) flags value
    both true size =
        inr (
          payload_of value,
          payload_literal n flags 1 (payload_of value) w.least w.most w.flags_fit (lit≤ tt) size,
          (written_means value w.bytes).1,
        )
    both false size = inl (payload_literal n flags 0 value w.least w.most w.flags_fit (lit≤ tt) size)

-- what is written is read, whatever follows
written_again : (coding : Coding) (n flags : ℕ) (value rest : List ℕ) → IsWritableString coding n flags value
    → string_at n (coded_string coding n flags value ++ rest) ≡ Ok (flags, value, rest)
written_again coding n flags value rest w =
    string_again n (coded_string coding n flags value) rest flags value (written_literal coding n flags value w)

pub written_read : WrittenStringsAreReadBack
written_read coding n flags value rest encoding more f v w s e =
    let a = string_again n encoding more f v s in
    let b = written_again coding n flags value rest w in
    let t = ok_triple f flags v value more rest (sym a ∙ ap (string_at n) (sym e) ∙ b) in
    (t.0, t.1, t.2)
