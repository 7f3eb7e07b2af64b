use Rattle.std.proofs.Common.{◌≤◌, ◌+◌, ap, arith, length, length-append}
use Rattle.std.proofs.lemmas.List.{length-take}
use Rattle.qpack_decoding.proofs.section.reader.append_missing.Goals as goal

pub keep-requires : goal.keep-requires
keep-requires c =
    omega (
      arith,
      c.requires,
      ap length c.loop-rest.invariant.cut,
      length-append c.args.pending.now.items c.args.bytes.now,
      length-append c.loop-rest.pending.items c.loop-rest.rest.now,
      length-take c.min-count.result c.loop-rest.rest.now,
    )
