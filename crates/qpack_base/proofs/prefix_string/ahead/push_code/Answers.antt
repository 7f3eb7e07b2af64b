use Rattle.std.proofs.Common.{◌-◌, ◌/◌, ◌^◌, [], ◌∷◌, vec_len, vec_capacity, refl, arith}
use Rattle.qpack_spec.specs.Huffman.{bits_of_bytes}
use Rattle.qpack_base.specs.Payloads.{bits_ahead}
use Rattle.qpack_base.proofs.CodeRoom.{room_for_codes}
use Rattle.qpack_base.proofs.PushedCodes.{codes_pushed}
use Rattle.qpack_base.proofs.WholeCodes.{one_begins}
use Rattle.qpack_base.proofs.prefix_string.ahead.push_code.Goals as goal

pub push_reserved-requires : goal.push_reserved-requires
push_reserved-requires g c =
    let a = c.args.ahead in
    let code = c.in_ok-code.code in
    let begins = one_begins a.count (a.loaded / 2 ^ (64 - a.count)) code.byte code.bits c.in_ok-code.ensures.0
    c.in_ok-code.ensures.1 in
    let free = room_for_codes a.count (a.loaded / 2 ^ (64 - a.count)) code.bits
    (vec_capacity c.args.text.now - vec_len c.args.text.now) (code.byte ∷ []) (bits_of_bytes a.rest.now) (bits_ahead a)
    begins refl c.requires.fits in
    omega (arith, free)

pub returns : goal.returns
returns g c =
    let a = c.args.ahead in
    let code = c.in_ok-code.code in
    let begins = one_begins a.count (a.loaded / 2 ^ (64 - a.count)) code.byte code.bits c.in_ok-code.ensures.0
    c.in_ok-code.ensures.1 in
    codes_pushed a c.pass.result c.args.text.now c.push_reserved.new.self code.bits (code.byte ∷ []) begins
    c.requires.fits c.pass.ensures.left c.pass.ensures.ahead c.push_reserved.ensures.items c.push_reserved.ensures.len
    c.push_reserved.ensures.capacity
