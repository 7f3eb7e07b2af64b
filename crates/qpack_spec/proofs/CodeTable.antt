-- The code, computed once: each byte's code is read as that byte, and each position of the code has the code that its
-- length and rank say.
use Rattle.std.proofs.Common.{◌≡◌, ℕ, zero, suc, ◌+◌, ◌*◌, ◌<◌, Bool, true, false, List, [], ◌∷◌, ◌++◌, Result, Ok, Err}
use Rattle.std.proofs.Common.{refl, arith}
use Rattle.std.specs.Prelude.{◌==◌, ◌&&◌, nat_lt, length}
use Rattle.std.specs.Str.{bytes_eq}
use Rattle.qpack_spec.specs.Huffman.{HuffmanFault, MissingBits, Unhandled, bytes_by_length, bytes_of_length, first_code}
use Rattle.qpack_spec.specs.Huffman.{code_length, code_of, code_at, bits_of, ones}

-- whether the answer is the byte, with nothing left
abbrev pub gives : ℕ → Result (ℕ × List ℕ) HuffmanFault → Bool
gives b (Ok x) = (x.0 == b) && (length x.1 == 0)
gives b (Err fault) = false

-- whether the codes of k bytes from b on are read as these
abbrev pub all_give : ℕ → ℕ → Bool
all_give zero b = true
all_give (suc k) b = gives b (code_at bytes_by_length 0 0 (code_of b)) && all_give k (suc b)

-- whether the codes of the bytes are of length n and consecutive from `first` on
abbrev pub row_good : ℕ → ℕ → List ℕ → Bool
row_good n first [] = true
row_good n first (b ∷ row) = nat_lt b 256 && (bytes_eq (code_of b) (bits_of n first) && row_good n (suc first) row)

-- the same of each row, where `next` is the number behind the last code of length n
abbrev pub rows_good : ℕ → ℕ → List (List ℕ) → Bool
rows_good n next [] = true
rows_good n next (row ∷ rows) = row_good (suc n) (2 * next) row && rows_good (suc n) (2 * next + length row) rows

-- the number behind the last code of all
abbrev pub end_of : List (List ℕ) → ℕ → ℕ
end_of [] next = next
end_of (row ∷ rows) next = end_of rows (2 * next + length row)

pub all_codes : all_give 256 0 ≡ true
unfolding bytes_by_length bytes_of_length first_code code_length code_of code_at bits_of
all_codes = refl

pub all_rows : rows_good 0 0 bytes_by_length ≡ true
unfolding bytes_by_length bytes_of_length first_code code_length code_of bits_of
all_rows = refl

-- behind the last code stand the ones alone
pub all_end : suc (end_of bytes_by_length 0) ≡ 1073741824
unfolding bytes_by_length
all_end = refl

pub thirty_rows : length bytes_by_length ≡ 30
unfolding bytes_by_length
thirty_rows = refl

-- fewer than eight ones begin with no code, nor do thirty
pub ones_missing : (k : ℕ) → k < 8 → code_at bytes_by_length 0 0 (ones k) ≡ Err MissingBits
unfolding code_at bytes_by_length ones
ones_missing zero h = refl
ones_missing (suc zero) h = refl
ones_missing (suc (suc zero)) h = refl
ones_missing (suc (suc (suc zero))) h = refl
ones_missing (suc (suc (suc (suc zero)))) h = refl
ones_missing (suc (suc (suc (suc (suc zero))))) h = refl
ones_missing (suc (suc (suc (suc (suc (suc zero)))))) h = refl
ones_missing (suc (suc (suc (suc (suc (suc (suc zero))))))) h = refl
ones_missing (suc (suc (suc (suc (suc (suc (suc (suc n)))))))) h = absurd (omega arith)

pub ones_unhandled : (more : List ℕ) → code_at bytes_by_length 0 0 (ones 30 ++ more) ≡ Err Unhandled
unfolding code_at bytes_by_length ones
ones_unhandled more = refl
