use Rattle.std.proofs.Common.{refl, arith}
use Rattle.json5_write.proofs.EscapesSplit.{is_delimiter, seam, shorter, splits, stands_next, stands_all, stands_first, stands_run, run_shorter}
use Rattle.json5_write.proofs.quoting.split_at_escape.Goals as goal

pub split_at-requires : goal.split_at-requires
split_at-requires c = seam _ _ _ c.loop-c.invariant

pub returns-in-Some-escape : goal.returns-in-Some-escape
returns-in-Some-escape c =
    splits _ _ _ _ _ _ _ (is_delimiter c.args.quote) c.loop-c.invariant c.in-Some.ensures c.split_at.ensures.front (rw c.delimiter.ensures at c.in-Some-escape.ensures.some)

pub loop-c-smaller : goal.loop-c-smaller
loop-c-smaller c =
    let less = shorter _ _ _ c.in-Some.ensures in
    let same = run_shorter _ _ c.in-Some.ensures.utf8 c.skip_escape_free-rest-in-Some.ensures.utf8 c.skip_escape_free-rest-in-Some.ensures.skips in
    omega arith

pub loop-c-preserved : goal.loop-c-preserved
loop-c-preserved c =
    let next = stands_next _ _ _ _ _ (is_delimiter c.args.quote) c.loop-c.invariant c.in-Some.ensures (rw c.delimiter.ensures at (c.in_default-escape.ensures.none.0 refl)) in
    stands_run c.args.quote _ _ _ next c.skip_escape_free-rest-in-Some.ensures.utf8 c.skip_escape_free-rest-in-Some.ensures.skips

pub loop-c-init : goal.loop-c-init
loop-c-init c = stands_run c.args.quote _ _ _ (stands_first _ _ c.utf8.text) c.skip_escape_free-rest.ensures.utf8 c.skip_escape_free-rest.ensures.skips

pub returns : goal.returns
returns c = stands_all _ _ _ c.loop-c.invariant c.in_default.ensures
