use Rattle.std.proofs.Common.{[], ◌++◌, true, ◌&&◌, ap, subst, length, arith}
use Rattle.std.specs.Str.{chars}
use Rattle.std.proofs.lemmas.Result.{err_from_is_err_and}
use Rattle.json5_grammar.proofs.StringsRead.{put_none}
use Rattle.json5_tokens.specs.ScanTexts.{text_at, ReadsUpTo, left_in}
use Rattle.json5_tokens.proofs.ScanTexts.{goes_past, refused_past}
use Rattle.json5_tokens.proofs.strings_and_names.skip_rest.Goals as goal

pub loop-stop-init : goal.loop-stop-init
loop-stop-init c = ([], true, (put_none (text_at c.args.kind (chars c.args.escape.now)), c.requires))

pub returns-in-End : goal.returns-in-End
returns-in-End c =
    let at = c.loop-stop.invariant in
    let end = subst (ReadsUpTo (text_at c.args.kind (chars c.args.escape.now)) at.0 at.1) c.in-End.is at.2 in
    record { value = (at.0, at.1); read = end.read; text = end.text }

pub skip_steps-requires : goal.skip_steps-requires
skip_steps-requires c =
    let at = c.loop-stop.invariant in
    (subst (ReadsUpTo (text_at c.args.kind (chars c.args.escape.now)) at.0 at.1) c.in-Escape.is at.2).1

pub returns-in_err-stop-in-Escape : goal.returns-in_err-stop-in-Escape
returns-in_err-stop-in-Escape c =
    let p = err_from_is_err_and c.from_residual.result c.from_residual.ensures.1 in
    let at = c.loop-stop.invariant in
    let here = subst (ReadsUpTo (text_at c.args.kind (chars c.args.escape.now)) at.0 at.1) c.in-Escape.is at.2 in
    let refusal = c.in_err-stop-in-Escape.ensures in
    rw (p.1, p.2) (record { refused = refused_past c.in_err-stop-in-Escape.field-0.0 _ _ at.0 at.1 here.0 refusal.refused; known = refusal.known })

pub loop-stop-smaller : goal.loop-stop-smaller
loop-stop-smaller c =
    let at = c.loop-stop.invariant in
    let here = subst (ReadsUpTo (text_at c.args.kind (chars c.args.escape.now)) at.0 at.1) c.in-Escape.is at.2 in
    let whole = ap left_in c.in-Escape.is in
    let first = ap length here.1 in
    let left = c.in_ok-stop-in-Escape.ensures.1.left in
    omega arith

pub loop-stop-preserved : goal.loop-stop-preserved
loop-stop-preserved c =
    let at = c.loop-stop.invariant in
    let here = subst (ReadsUpTo (text_at c.args.kind (chars c.args.escape.now)) at.0 at.1) c.in-Escape.is at.2 in
    let more = c.in_ok-stop-in-Escape.ensures in
    (at.0 ++ more.0, at.1 && more.1.escape_free, goes_past _ _ at.0 more.0 at.1 more.1.escape_free _ here.0 more.1.goes_on)
