use Rattle.std.proofs.Common.{◌≡◌, ℕ, ◌+◌, ◌≤◌, length, drop}
use Rattle.std.specs.Str.{bytes_eq}
use Rattle.qpack_spec.specs.Huffman.{AreBytes}
use Rattle.qpack_base.proofs.bytes.same_fronts.Given as goal

abbrev pub invariant-loop-x : goal.invariant-loop-x
invariant-loop-x l = record {
  len : length l.left ≡ length l.right;
  left_are : AreBytes l.left;
  right_are : AreBytes l.right;
  tail : (n : ℕ) → length l.left ≤ n + 8 → drop n l.left ≡ drop n l.right;
  same : bytes_eq l.left l.right ≡ bytes_eq l.a l.b;
}

abbrev pub decreases-loop-x : goal.decreases-loop-x
decreases-loop-x l = length l.left
