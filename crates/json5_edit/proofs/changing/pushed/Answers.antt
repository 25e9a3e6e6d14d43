use Rattle.std.proofs.Common.{string_bytes}
use Rattle.json5_edit.proofs.PiecesJoined.{ok_both}
use Rattle.json5_edit.proofs.PlainlyEdited.{value_added}
use Rattle.json5_edit.proofs.PlainEntries.{value_plain, stays_within}
use Rattle.json5_edit.proofs.changing.pushed.Goals as goal

pub returns-in-Err-Failed : goal.returns-in-Err-Failed
returns-in-Err-Failed c =
    let (end, value, plain) = c.requires in
    ok_both c.with_last.result (λ made a p. (
      value_added c.args.value.now c.args.room c.args.old.now (string_bytes made) end value a,
      λ quoted. stays_within c.args.collection.now.document.now c.args.old.now c.args.value.now (string_bytes made) plain (value_plain c.args.old.now (string_bytes made) c.args.value.now _ value p),
    )) c.with_last.ensures.added c.with_last.ensures.plain
