use Rattle.std.proofs.Common.{refl, ap, sym, ◌∙◌, arith}
use lib.Count.{count_trailing_zeros}
use Rattle.json5_write.specs.EscapeFree.{ends_escape_free, is_escape_free_byte}
use Rattle.json5_tokens.proofs.ByteSearch.{run_through, run_stops}
use Rattle.json5_write.proofs.escape_free.escape_free_len.Goals as goal

pub returns-then-found-ne0 : goal.returns-then-found-ne0
returns-then-found-ne0 c =
    let found = c.stops-found in
    let run = run_stops ends_escape_free is_escape_free_byte (λ x. refl) c.args.bytes.now c.loop-i.i 16 (omega arith) (omega arith) (omega (arith, found.ensures)) ∙ ap (count_trailing_zeros 64) (sym found.ensures) in
    omega (arith, run, c.loop-i.invariant.0)

pub loop-i-preserved : goal.loop-i-preserved
loop-i-preserved c =
    let run = run_through ends_escape_free is_escape_free_byte (λ x. refl) c.args.bytes.now c.loop-i.i 16 (omega arith) (omega (arith, c.stops-found.ensures)) in
    (omega (arith, run, c.loop-i.invariant.0), omega arith)
