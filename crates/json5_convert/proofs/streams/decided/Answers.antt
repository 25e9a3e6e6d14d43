use Rattle.std.proofs.Common.{◌≡◌, ◌⊎◌, inl, inr, true, sym, ◌∙◌}
use Rattle.std.specs.Str.{chars}
use Rattle.json5_tokens.specs.Cursor.{IsOutOfMemory}
use Rattle.json5_convert.specs.Streams.{IsLasting, IsSettled}
use Rattle.json5_convert.proofs.StreamsRefused.{decided_refused}
use Rattle.json5_convert.proofs.StreamsTaken.{decided}
use Rattle.json5_convert.proofs.streams.decided.Goals.{then-is_whole, else-is_whole, then-is_whole-2, else-is_whole-2}
use Rattle.json5_convert.proofs.streams.decided.Goals as goal

pub returns-in-Ok-clause-taken : goal.returns-in-Ok-clause-taken
returns-in-Ok-clause-taken c =
    let how : (c.args.is_whole ≡ true) ⊎ IsSettled c.next_value.new.scanner.unread c.in-Ok.value = elim c.if-is_whole.branch [ then-is_whole w ↦ inl w.if-is_whole.true | else-is_whole w ↦ inr (w.is_settled.ensures (sym w.value-is ∙ c.if-is_settled.true) c.next_value.new.scanner.unread w.peek.ensures) ] in
    decided c.args.text.now c.args.is_whole c.new-scanner.result c.next_value.new.scanner c.in-Ok.value c.offset.result c.utf8.text c.new-scanner.ensures c.in-Ok.ensures.taken how c.offset.ensures.suffix c.offset.ensures.scalars c.offset.ensures.counted

pub returns-in-Err-clause-faulty : goal.returns-in-Err-clause-faulty
returns-in-Err-clause-faulty c =
    let how : (c.args.is_whole ≡ true) ⊎ (IsOutOfMemory c.in-Err.fault ⊎ IsLasting (chars c.args.text.now) c.in-Err.fault) = elim c.if-is_whole-2.branch [ then-is_whole-2 w ↦ inl w.if-is_whole-2.true | else-is_whole-2 w ↦ inr (w.is_lasting.ensures (sym w.value-is ∙ c.if-is_lasting.true)) ] in
    decided_refused c.args.text.now c.args.is_whole c.new-scanner.result c.in-Err.fault c.new-scanner.ensures c.in-Err.ensures.faulty how
