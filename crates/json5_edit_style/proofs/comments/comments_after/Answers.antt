use Rattle.std.proofs.Common.{true, refl, sym, ◌∙◌, subst}
use Rattle.std.specs.Str.{chars}
use Rattle.json5_grammar.specs.Language.Characters.{Each, is_blank, no_char}
use Rattle.json5_lexemes.specs.Pieces.{IsPiece}
use Rattle.json5_edit_style.specs.Comments.{CommentsAfter}
use Rattle.json5_edit_style.specs.Passing.{MayFollow}
use Rattle.json5_edit_style.proofs.CommentsPassed.{after_piece, last_blanks, none_there}
use Rattle.json5_edit_style.proofs.comments.comments_after.Goals as goal

pub loop-piece-init : goal.loop-piece-init
loop-piece-init c = λ e. subst (CommentsAfter (chars c.args.back.now)) c.new-pieces.ensures e

pub loop-piece-preserved : goal.loop-piece-preserved
loop-piece-preserved c = λ e.
    let follows = subst (λ r. MayFollow c.in-Some.piece r (chars c.args.back.now) true) c.as_str-rest.ensures (λ yes. c.if-not-may_follow.ensures refl) in
    c.loop-piece.invariant (after_piece c.in-Some.piece c.loop-piece.pieces c.next.new.self (chars c.args.back.now) (follows refl) c.in-Some.ensures.steps e)

pub returns-in-LineEnd : goal.returns-in-LineEnd
returns-in-LineEnd c = λ h.
    c.loop-piece.invariant (last_blanks c.loop-piece.pieces c.next.new.self (chars c.args.back.now) (subst (λ p. IsPiece p c.loop-piece.pieces c.next.new.self) c.in-LineEnd.is c.in-Some.ensures.steps) (subst (Each is_blank) c.as_str-rest.ensures (c.are_blanks.ensures h)))

pub returns-then-is_empty : goal.returns-then-is_empty
returns-then-is_empty c = λ h.
    let none = sym c.in_default.ensures.steps.1 ∙ sym c.as_str.ensures ∙ none_there c.as_str.result.now c.is_empty.result c.is_empty.ensures c.if-is_empty.true in
    c.loop-piece.invariant (subst (CommentsAfter (chars c.args.back.now)) (sym none) (CommentsAfter.last no_char (c.ends_line.ensures h)))
