use Rattle.std.proofs.Common.{◌+◌, ◌-◌, rules, arith, length, take, drop, length-drop}
use lib.Lanes.{put_chunk}
use Rattle.std.proofs.lemmas.Simd.{length-put_chunk}
use Rattle.json5_write.proofs.CopiesJoined.{Copied-ends, chunk_copied}
use Rattle.json5_write.proofs.byte_copies.copy_ends.Goals as goal

pub returns : goal.returns
returns g c =
    let text = c.args.text.now in
    let n = g.row.N in
    let last = length text - n in
    let row = put_chunk c.args.at c.args.row.now (take n text) in
    let first = chunk_copied n c.args.at c.args.row.now text c.requires.covers.0 (omega (arith, c.requires.fits, c.requires.covers.0)) in
    let same = length-put_chunk c.args.at c.args.row.now (take n text) in
    let second = chunk_copied n (c.args.at + last) row (drop last text) (omega (arith, length-drop last text, c.requires.covers.0)) (omega (arith, same, c.requires.fits, c.requires.covers.0)) in
    Copied-ends text n (search rules) c.requires.covers.0 c.requires.covers.1 first second
