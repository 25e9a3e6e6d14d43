use Rattle.std.proofs.Common.{◌≡◌, ◌∙◌, ◌+◌, ◌++◌, take, drop, sym, ap, subst}
use Rattle.std.specs.Io.KnownBytes.{Appends}
use Rattle.cli_files.specs.JoinedTexts.{joined_texts}
use Rattle.cli_files.proofs.PiecesJoined.{joined_more, joined_split, pushed_all, pushed_part}
use Rattle.cli_files.proofs.writing.write_texts.Goals as goal

pub returns-then-is_err : goal.returns-then-is_err
returns-then-is_err g c =
    let texts = c.args.texts.now in
    let i = c.loop-text.text-index in
    let before = joined_texts (take i texts) in
    let whole : joined_texts texts ≡ (before ++ c.as_bytes.result.now) ++ joined_texts (drop (i + 1) texts) =
    joined_split texts (i + 1) ∙ ap (λ l. l ++ joined_texts (drop (i + 1) texts)) (joined_more texts i _ c.loop-text-test.true ∙ ap (λ l. before ++ l) (sym c.as_bytes.ensures.value)) in
    pushed_part _ _ _ before c.as_bytes.result.now _ _ c.write_whole-written.result (sym c.is_err.ensures.value ∙ c.if-is_err.true) whole c.loop-text.invariant c.write_whole-written.ensures

pub loop-text-preserved : goal.loop-text-preserved
loop-text-preserved g c =
    let texts = c.args.texts.now in
    let i = c.loop-text.text-index in
    let before = joined_texts (take i texts) in
    let more : joined_texts (take (i + 1) texts) ≡ before ++ c.as_bytes.result.now = joined_more texts i _ c.loop-text-test.true ∙ ap (λ l. before ++ l) (sym c.as_bytes.ensures.value) in
    subst (Appends (g.W.Write.contents c.args.writer.now) (g.W.Write.contents c.write_whole-written.new.writer)) (sym more)
    (pushed_all _ _ _ before c.as_bytes.result.now c.write_whole-written.result (sym c.is_err.ensures.value ∙ c.if-is_err.false) c.loop-text.invariant c.write_whole-written.ensures)
