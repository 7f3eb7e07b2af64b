use Rattle.std.proofs.Common.{ℕ, ◌-◌, List, [], refl, sym, ap, ◌∙◌}
use Rattle.std.specs.Borrow.{Bor}
use borrow.Rule.Slice.PartMut.{mid_of}
use Rattle.qpack_spec.specs.Huffman.{bits_of_bytes}
use Rattle.qpack_base.specs.Payloads.{bits_left}
use Rattle.qpack_base.proofs.Items.{kept, enough}
use Rattle.qpack_base.proofs.LongCodes.{Row, row_code, long_reads, rows_left, rows_passed, row_here, code_short, code_found, code_passed, turn_none}
use Rattle.qpack_base.proofs.prefix_string.decoding.Bits.long_code.Goals as goal

abbrev nothing : ℕ × ℕ × Bor (List ℕ)
nothing = (0, 0, record { ref_ptr = (0, 0); now = [] })

pub loop-row-init : goal.loop-row-init
loop-row-init c =
    let b = c.args.self.now in let n = c.passed_rows.result in
    let left = rows_left c.long_codes.result.now n c.long_codes.ensures c.passed_rows.ensures.few in record {
      loaded = c.requires.loaded;
      code = ap (λ (rows : List Row). row_code rows b.count b.loaded (bits_of_bytes b.rest.now)) left
          ∙ rows_passed n b.count b.loaded (bits_of_bytes b.rest.now) c.passed_rows.ensures.smaller
          ∙ sym (long_reads b.count b.loaded (bits_of_bytes b.rest.now) c.requires.eight c.requires.loaded.fits
          c.requires.long (enough b c.requires.full));
      rest = refl;
    }

pub returns-then-bits-self-clause-gives : goal.returns-then-bits-self-clause-gives
returns-then-bits-self-clause-gives c =
    let b = c.loop-row.self in
    let rows = mid_of c.passed_rows.result (17 - c.passed_rows.result) c.long_codes.result.now in
    let next = row_here rows c.loop-row.row-index nothing c.loop-row-test.true in (
      sym c.loop-row.invariant.code ∙ code_short _ _ _ b.count b.loaded c.from-bits.result
          (bits_of_bytes b.rest.now) next c.from-bits.ensures c.if-bits-self.true,
      c.stop.ensures.left,
    )

pub returns-in-Some-clause-gives : goal.returns-in-Some-clause-gives
returns-in-Some-clause-gives c =
    let b = c.loop-row.self in
    let rows = mid_of c.passed_rows.result (17 - c.passed_rows.result) c.long_codes.result.now in
    let next = row_here rows c.loop-row.row-index nothing c.loop-row-test.true in
    let left = kept c.from-bits.result b c.pass.new.self c.pass.ensures.rest in
    sym c.loop-row.invariant.code
    ∙ code_found _ _ _ b.count b.loaded c.from-bits.result c.from.result c.in-Some.byte (bits_left c.pass.new.self)
    (bits_of_bytes b.rest.now) next c.from-bits.ensures c.from.ensures c.if-bits-self.false c.in-Some.ensures left

pub loop-row-preserved : goal.loop-row-preserved
loop-row-preserved c =
    let b = c.loop-row.self in
    let rows = mid_of c.passed_rows.result (17 - c.passed_rows.result) c.long_codes.result.now in
    let next = row_here rows c.loop-row.row-index nothing c.loop-row-test.true in
    let passed = code_passed _ _ _ b.count b.loaded c.from-bits.result c.from.result
    (bits_of_bytes b.rest.now) next c.from-bits.ensures c.from.ensures c.if-bits-self.false c.in_default.ensures in
    record {
      loaded = c.loop-row.invariant.loaded;
      code = sym passed ∙ c.loop-row.invariant.code;
      rest = c.loop-row.invariant.rest;
    }

pub returns-clause-gives : goal.returns-clause-gives
returns-clause-gives c =
    let b = c.loop-row.self in
    let rows = mid_of c.passed_rows.result (17 - c.passed_rows.result) c.long_codes.result.now in (
      sym c.loop-row.invariant.code ∙ turn_none rows c.loop-row.row-index b.count b.loaded
          (bits_of_bytes b.rest.now) c.loop-row-test.false,
      c.stop-2.ensures.left,
    )
