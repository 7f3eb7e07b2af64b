-- Worked rows of field sections read under a window, computed by the definitions.
use Rattle.std.proofs.Common.{ℕ, zero, suc, ◌+◌, ◌/◌, ◌%◌, ◌≡◌, true, false, List, [], ◌∷◌, ◌++◌, refl}
use Rattle.std.specs.Prelude.{codes, negsuc, if◌then◌else◌, nat_lt}
use Rattle.qpack_spec.specs.Integer.{UnexpectedEnd}
use Rattle.qpack_spec.specs.Text.{EndsEarly}
use Rattle.qpack_spec.specs.Field.{Field}
use Rattle.qpack_spec.specs.StaticTable.{field}
use Rattle.qpack_spec.specs.Form.{BadInteger, BadString}
use Rattle.qpack_spec.specs.Prefix.{OutOfRange, BelowZero}
use Rattle.qpack_spec.specs.Window.{Window, Inserts, Resizes, window_after}
use Rattle.qpack_spec.specs.History.{window_of, initial_history}
use Rattle.qpack_spec.specs.Reading.{BadForm, BadPrefix, BelowWindow, AboveWindow, BehindBase, NotStatic, Fields}
use Rattle.qpack_spec.specs.Reading.{Missing, Faulty}
use Rattle.qpack_spec.specs.BlockReading.{reading_of_bytes}
use Rattle.qpack_spec.proofs.Computing.{computed}

-- a window in which these fields were put
putting : Window → List Field → Window
putting w [] = w
putting w (f ∷ fs) = putting (window_after w (Inserts f)) fs

window_with : ℕ → List Field → Window
window_with capacity fs = putting (window_of (initial_history capacity capacity)) fs

numbered : ℕ → Field
numbered n = field (codes "foo" ++ n ∷ []) (codes "bar")

-- a number in decimal
decimal : ℕ → List ℕ
decimal n =
    if nat_lt n 10 then (48 + n) ∷ []
    else if nat_lt n 100 then (48 + n / 10) ∷ (48 + n % 10) ∷ []
    else (48 + n / 100) ∷ (48 + n / 10 % 10) ∷ (48 + n % 10) ∷ []

-- so many fields, foo1 first
counted : ℕ → List Field
counted zero = []
counted (suc n) = counted n ++ field (codes "foo" ++ decimal (suc n)) (codes "bar") ∷ []

-- all that has to unfold
rows : ℕ
unfolding computed putting window_with numbered decimal counted
rows = 0

-- a relative and two post-base lines
read_mixed : (reading_of_bytes (window_with 4096 (numbered 49 ∷ numbered 50 ∷ numbered 51 ∷ numbered 52 ∷ []))
    (5 ∷ 129 ∷ 128 ∷ 16 ∷ 17 ∷ [])) ≡ Fields (numbered 50 ∷ numbered 51 ∷ numbered 52 ∷ []) true
unfolding rows
read_mixed = refl

-- a post-base name
read_post_base_name : (reading_of_bytes (window_with 4096 (numbered 49 ∷ numbered 50 ∷ numbered 51 ∷ numbered 52 ∷ []))
    (3 ∷ 0 ∷ 0 ∷ 134 ∷ 168 ∷ 190 ∷ 20 ∷ 140 ∷ 118 ∷ 51 ∷ []))
    ≡ Fields (field (codes "foo3") (codes "new bar3") ∷ []) true
unfolding rows
read_post_base_name = refl

-- a window of which the oldest entries are evicted
read_far : (reading_of_bytes (window_with 4096 (counted 138)) (134 ∷ 0 ∷ 138 ∷ []))
    ≡ Fields ((field (codes "foo123") (codes "bar")) ∷ []) true
unfolding rows
read_far = refl

-- entries that are missing
missing_entries : (reading_of_bytes (window_with 4096 []) (9 ∷ 0 ∷ [])) ≡ Missing 8
unfolding rows
missing_entries = refl

-- a base below 0 is told before missing entries
base_before_missing : (reading_of_bytes (window_with 100 []) (4 ∷ 131 ∷ [])) ≡ Faulty (BadPrefix (BelowZero (negsuc 0)))
unfolding rows
base_before_missing = refl

-- at base 0 they are missing
missing_at_base_0 : (reading_of_bytes (window_with 100 []) (4 ∷ 130 ∷ [])) ≡ Missing 3
unfolding rows
missing_at_base_0 = refl

-- a base below 0 where nothing is missing
no_base : (reading_of_bytes (window_with 4096 ((field (codes "foo") (codes "bar")) ∷ [])) (2 ∷ 129 ∷ []))
    ≡ Faulty (BadPrefix (BelowZero (negsuc 0)))
unfolding rows
no_base = refl

-- no lines
no_lines : (reading_of_bytes (window_with 4096 ((field (codes "foo") (codes "bar")) ∷ [])) (2 ∷ 128 ∷ []))
    ≡ Fields [] true
unfolding rows
no_lines = refl

-- a base below the least number is held there
least_base : (reading_of_bytes (window_with 4096 ((field (codes "foo") (codes "bar")) ∷ []))
    (2 ∷ 255 ∷ 255 ∷ 255 ∷ 255 ∷ 255 ∷ 255 ∷ 255 ∷ 255 ∷ 255 ∷ 127 ∷ []))
    ≡ Faulty (BadPrefix (BelowZero (negsuc 9223372036854775807)))
unfolding rows
least_base = refl

-- a position above the window
above_window : (reading_of_bytes (window_with 4096 ((field (codes "a") (codes "1")) ∷ (field (codes "b") (codes "2"))
    ∷ [])) (2 ∷ 9 ∷ 128 ∷ [])) ≡ Faulty (AboveWindow 9)
unfolding rows
above_window = refl

-- and far above it
far_above_window : (reading_of_bytes (window_with 4096 ((field (codes "foo") (codes "bar")) ∷ []))
    (2 ∷ 127 ∷ 255 ∷ 255 ∷ 255 ∷ 255 ∷ 255 ∷ 255 ∷ 255 ∷ 255 ∷ 127 ∷ 128 ∷ []))
    ≡ Faulty (AboveWindow 9223372036854775934)
unfolding rows
far_above_window = refl

-- a post-base index far above it
far_post_base : (reading_of_bytes (window_with 4096 ((field (codes "foo") (codes "bar")) ∷ []))
    (2 ∷ 0 ∷ 31 ∷ 255 ∷ 255 ∷ 255 ∷ 255 ∷ 255 ∷ 255 ∷ 255 ∷ 255 ∷ 127 ∷ [])) ≡ Faulty (BehindBase 9223372036854775822)
unfolding rows
far_post_base = refl

-- and behind a base far above it
far_both : (reading_of_bytes (window_with 4096 ((field (codes "foo") (codes "bar")) ∷ []))
    (2 ∷ 127 ∷ 255 ∷ 255 ∷ 255 ∷ 255 ∷ 255 ∷ 255 ∷ 255 ∷ 255 ∷ 127 ∷ 31 ∷ 255 ∷ 255 ∷ 255 ∷ 255 ∷ 255 ∷ 255 ∷ 255 ∷ 255
    ∷ 127 ∷ [])) ≡ Faulty (BehindBase 9223372036854775822)
unfolding rows
far_both = refl

-- an index below the window
below_window : (reading_of_bytes (window_with 4096 ((field (codes "foo") (codes "bar")) ∷ [])) (2 ∷ 0 ∷ 129 ∷ []))
    ≡ Faulty (BelowWindow 1)
unfolding rows
below_window = refl

-- any prefix at capacity 0
capacity_0 : (reading_of_bytes (window_with 0 []) (3 ∷ 0 ∷ [])) ≡ Fields [] false
unfolding rows
capacity_0 = refl

-- capacity 32: the count 1 stands for nothing above 0
capacity_32_count_0 : (reading_of_bytes (window_with 32 []) (1 ∷ 0 ∷ [])) ≡ Faulty (BadPrefix OutOfRange)
unfolding rows
capacity_32_count_0 = refl

-- the count 2 for 1
capacity_32_count_1 : (reading_of_bytes (window_with 32 []) (2 ∷ 0 ∷ [])) ≡ Missing 1
unfolding rows
capacity_32_count_1 = refl

-- the count 3 for nothing
capacity_32_count_2 : (reading_of_bytes (window_with 32 []) (3 ∷ 0 ∷ [])) ≡ Faulty (BadPrefix OutOfRange)
unfolding rows
capacity_32_count_2 = refl

-- no static field 99
not_static : (reading_of_bytes (window_with 4096 []) (0 ∷ 0 ∷ 255 ∷ 36 ∷ [])) ≡ Faulty (NotStatic 99)
unfolding rows
not_static = refl

-- :method GET
static_get : (reading_of_bytes (window_with 4096 []) (0 ∷ 0 ∷ 209 ∷ []))
    ≡ Fields ((field (codes ":method") (codes "GET")) ∷ []) false
unfolding rows
static_get = refl

-- a cut line
cut_static : (reading_of_bytes (window_with 4096 []) (0 ∷ 0 ∷ 255 ∷ [])) ≡ Faulty (BadForm (BadInteger UnexpectedEnd))
unfolding rows
cut_static = refl

-- a cut prefix
cut_prefix : (reading_of_bytes (window_with 4096 []) (0 ∷ [])) ≡ Faulty (BadForm (BadInteger UnexpectedEnd))
unfolding rows
cut_prefix = refl

-- no bytes at all
no_prefix : (reading_of_bytes (window_with 4096 []) ([])) ≡ Faulty (BadForm (BadInteger UnexpectedEnd))
unfolding rows
no_prefix = refl

-- the first fault in reading order: an index before a later line that is cut
bytes_before_index : (reading_of_bytes (window_with 4096 []) (0 ∷ 0 ∷ 255 ∷ 36 ∷ 255 ∷ [])) ≡ Faulty (NotStatic 99)
unfolding rows
bytes_before_index = refl

-- a line whose bytes are cut tells that before its index
line_bytes_first : (reading_of_bytes (window_with 4096 []) (0 ∷ 0 ∷ 95 ∷ 84 ∷ 129 ∷ []))
    ≡ Faulty (BadForm (BadString EndsEarly))
unfolding rows
line_bytes_first = refl

-- with a maximum capacity a present capacity of 0 still reads the count
agreed_maximum_counts : (reading_of_bytes (window_after (window_of (initial_history 4096 4096)) (Resizes 0))
    (2 ∷ 0 ∷ []))
    ≡ Missing 1
unfolding rows
agreed_maximum_counts = refl

-- so does a capacity of 0 that the table begins with
first_maximum_counts : (reading_of_bytes (window_of (initial_history 0 4096)) (2 ∷ 0 ∷ [])) ≡ Missing 1
unfolding rows
first_maximum_counts = refl
