use Rattle.std.proofs.Common.{◌-◌, List, ◌++◌, ℕ, Ok, ap, ◌∙◌, arith}
use Rattle.qpack_spec.specs.Huffman.{bits_of, bits_of_bytes}
use Rattle.qpack_base.proofs.WholeCodes.{reads_alone, begins_alone, one_number}
use Rattle.qpack_base.proofs.prefix_string.decoding.long_code.Goals as goal

pub overflow_sub-result : goal.overflow_sub-result
overflow_sub-result c =
    let new = c.long_code.new.self in
    let r = reads_alone c.args.count c.args.loaded new.count new.loaded c.in-Ok.byte
    (c.in-Ok.ensures.gives ∙ ap (λ (l : List ℕ). Ok (c.in-Ok.byte, bits_of new.count new.loaded ++ bits_of_bytes l))
    c.in-Ok.ensures.rest) in
    omega (arith, r.sum)

pub returns-in-Ok : goal.returns-in-Ok
returns-in-Ok c =
    let new = c.long_code.new.self in
    let r = reads_alone c.args.count c.args.loaded new.count new.loaded c.in-Ok.byte
    (c.in-Ok.ensures.gives ∙ ap (λ (l : List ℕ). Ok (c.in-Ok.byte, bits_of new.count new.loaded ++ bits_of_bytes l))
    c.in-Ok.ensures.rest) in
    let from = c.from.ensures in
    one_number c.args.count c.args.loaded c.in-Ok.byte (c.args.count - new.count) _ r.byte (omega arith)
    (begins_alone c.args.count c.args.loaded new.count new.loaded c.in-Ok.byte r)
