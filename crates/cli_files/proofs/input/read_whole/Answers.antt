use Rattle.std.proofs.Common.{◌++◌, take, drop, sym, ap, subst, ◌∙◌}
use lib.Seq.{take-add}
use Rattle.std.specs.Io.KnownBytes.{Consumes}
use Rattle.std.proofs.KnownBytes.{Consumes-trans}
use Rattle.cli_files.proofs.input.read_whole.Goals as goal

pub loop-preserved : goal.loop-preserved
loop-preserved g c =
    let read = c.in-Ok.ensures in
    let filled = c.loop.filled in
    let count = c.in-Ok.count in
    let bytes = c.read_after.new.bytes.items in
    let grown = take-add filled count bytes ∙ ap (λ front. front ++ take count (drop filled bytes)) read.front in
    (read.within, subst (Consumes _ _) (sym grown) (Consumes-trans _ _ _ _ _ c.loop.invariant.1 read.read))
