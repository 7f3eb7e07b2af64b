use Rattle.std.proofs.Common.{◌-◌, ◌/◌, ◌^◌, vec_len, vec_capacity, refl, arith}
use Rattle.qpack_spec.specs.Huffman.{bits_of_bytes}
use Rattle.qpack_base.specs.Payloads.{bits_ahead, bytes_of_codes}
use Rattle.qpack_base.proofs.CodeRoom.{room_for_two}
use Rattle.qpack_base.proofs.PushedCodes.{codes_pushed}
use Rattle.qpack_base.proofs.prefix_string.ahead.push_pair.Goals as goal

pub push_both-requires : goal.push_both-requires
push_both-requires g c =
    let a = c.args.ahead in
    let free = room_for_two a.count (a.loaded / 2 ^ (64 - a.count))
    (vec_capacity c.args.text.now - vec_len c.args.text.now) (bits_of_bytes a.rest.now) (bits_ahead a)
    c.in_ok-codes.ensures.enough refl c.requires.fits in
    omega (arith, free)

pub returns : goal.returns
returns g c =
    let codes = c.in_ok-codes.codes in
    codes_pushed c.args.ahead c.pass.result c.args.text.now c.push_both.new.text codes.bits (bytes_of_codes codes)
    c.in_ok-codes.ensures.begins c.requires.fits c.pass.ensures.left c.pass.ensures.ahead c.push_both.ensures.items
    c.push_both.ensures.len c.push_both.ensures.capacity
