use Rattle.std.proofs.Common.{refl, sym, ap, ◌∙◌, subst}
use Rattle.json5_grammar.specs.Language.Characters.{Each, is_blank, no_char}
use Rattle.json5_tokens.specs.Cursor.{Cursor}
use Rattle.json5_edit_style.proofs.CommentsPassed.{blanks_before, nothing_left}
use Rattle.json5_edit_style.proofs.comments.are_blanks.Goals as goal

pub loop-c-init : goal.loop-c-init
loop-c-init c = λ e. subst (Each is_blank) (ap (λ (s : Cursor). s.unread) c.new-scanner.ensures) e

pub loop-c-preserved : goal.loop-c-preserved
loop-c-preserved c = λ e. c.loop-c.invariant (blanks_before c.in-Some.c (sym c.is_json5_whitespace.ensures ∙ c.if-not-is_json5_whitespace.false) (c.if-not-eat.ensures.taken refl) e)

pub returns : goal.returns
returns c = λ h. c.loop-c.invariant (subst (Each is_blank) (sym (nothing_left c.loop-c.scanner.unread (sym c.peek.ensures ∙ c.in_default.is))) no_char)
