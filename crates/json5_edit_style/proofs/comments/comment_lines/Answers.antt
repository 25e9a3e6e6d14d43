use Rattle.std.proofs.Common.{sym, ◌∙◌, subst}
use Rattle.json5_edit_style.specs.Comments.{CommentLines}
use Rattle.json5_edit_style.proofs.CommentsPassed.{none_there}
use Rattle.json5_edit_style.proofs.comments.comment_lines.Goals as goal

pub returns-then-is_empty : goal.returns-then-is_empty
returns-then-is_empty c =
    let l = c.loop-piece in
    let none = sym c.in_default.ensures.steps.1 ∙ sym c.as_str.ensures ∙ none_there c.as_str.result.now c.is_empty.result c.is_empty.ensures c.if-is_empty.true in
    l.invariant l.one (λ h. h) (subst (CommentLines l.one l.has) (sym none) CommentLines.entry)
