use Rattle.std.proofs.Common.{refl, sym, ap, ◌∙◌, subst}
use Rattle.json5_tokens.specs.Cursor.{Cursor}
use Rattle.json5_edit_style.specs.Comments.{EndsLine}
use Rattle.json5_edit_style.proofs.CommentsPassed.{ends_before, ends_at, closes_at}
use Rattle.json5_edit_style.proofs.comments.ends_line.Goals as goal

pub loop-c-init : goal.loop-c-init
loop-c-init c = λ e. subst EndsLine (ap (λ (s : Cursor). s.unread) c.new-scanner.ensures) e

pub loop-c-preserved : goal.loop-c-preserved
loop-c-preserved c = λ e. c.loop-c.invariant (ends_before c.in-Some.c (sym c.is_json5_whitespace.ensures ∙ c.if-not-is_json5_whitespace.false) (sym c.is_json5_line_terminator.ensures ∙ c.if-is_json5_line_terminator.false) (c.if-not-eat.ensures.taken refl) e)

pub returns-then-is_json5_line_terminator : goal.returns-then-is_json5_line_terminator
returns-then-is_json5_line_terminator c = λ h. c.loop-c.invariant (ends_at c.loop-c.scanner.unread c.in-Some.c (sym c.peek.ensures ∙ c.in-Some.is) (sym c.is_json5_line_terminator.ensures ∙ c.if-is_json5_line_terminator.true))

pub returns-then-not-is_json5_whitespace : goal.returns-then-not-is_json5_whitespace
returns-then-not-is_json5_whitespace c = λ h. c.loop-c.invariant (closes_at c.loop-c.scanner.unread c.in-Some.c (sym c.peek.ensures ∙ c.in-Some.is) (sym c.is_closing.ensures ∙ h))
