use Rattle.std.proofs.Common.{ℕ, List, Result, Ok, Err, ◌≡◌, ◌∙◌, ◌++◌, ap, refl, sym, arith, length, length-append}
use Rattle.std.proofs.lemmas.Result.{err_from_is_err_and}
use Rattle.qpack_spec.specs.Huffman.{HuffmanFault, bits_of_bytes, text_of_bits}
use Rattle.qpack_base.specs.Strings.{FitsWithin}
use Rattle.qpack_base.proofs.CodeRoom.{text_most}
use Rattle.qpack_base.proofs.WholePayloads.{takes_memory, all_kept}
use Rattle.qpack_base.proofs.prefix_string.read_text_within.Goals as goal

pub returns-in_err-make_room_within-clause-exact : goal.returns-in_err-make_room_within-clause-exact
returns-in_err-make_room_within-clause-exact g c =
    let p = err_from_is_err_and c.from_residual.result c.from_residual.ensures.1 in
    rw (p.1, p.2) (takes_memory c.args.payload.now c.requires, c.in_err-make_room_within.ensures.items)

pub returns-in_err-make_room_within-clause-fits : goal.returns-in_err-make_room_within-clause-fits
returns-in_err-make_room_within-clause-fits g c e = go (text_of_bits (bits_of_bytes c.args.payload.now)) refl
  where
    go : (r : Result (List ℕ) HuffmanFault) → text_of_bits (bits_of_bytes c.args.payload.now) ≡ r
        → FitsWithin c.args.most r
    go (Ok value) is =
        omega (
          arith,
          text_most c.args.payload.now value is,
          c.longest_text-longest.ensures,
          c.if-longest-most.true,
        )
    go (Err fault) is = tt

pub returns-then-longest-most-clause-exact : goal.returns-then-longest-most-clause-exact
returns-then-longest-most-clause-exact g c =
    let t = c.in_ok-push_text.ensures.ok in
    let most = text_most c.args.payload.now t.0 t.1 in
    let items = c.in_ok-make_room_within.ensures.items in (
      t.0,
      t.1,
      omega (
        arith,
        c.len.ensures,
        c.len-start.ensures,
        ap length t.2,
        ap length items,
        length-append c.make_room_within.new.buf.items t.0,
        c.push_text.new.text.ok.0,
        c.args.text.now.ok.0,
      ),
      t.2 ∙ ap (λ (l : List ℕ). l ++ t.0) items
          ∙ ap (λ (l : List ℕ). c.args.text.now.items ++ l)
          (sym (all_kept c.args.most t.0
          (omega (arith, most, c.longest_text-longest.ensures, c.if-longest-most.true)))),
    )
