use Rattle.std.proofs.Common.{rules, ◌≡◌, [], true}
use Rattle.json5_edit.proofs.PiecesJoined.{takes_there}
use Rattle.json5_edit.proofs.pieces.with_comma.Goals as goal

pub returns-then-eq : goal.returns-then-eq
returns-then-eq c =
    let none : c.in_ok-_blank.left.now ≡ [] = search rules in
    let yes : c.in_ok-is_closed.is_closed ≡ true = search rules in
    takes_there c.args.text.now c.in_ok-front.front.now c.in_ok-front.middle.now c.in_ok-_tokens._tokens.now c.in_ok-_tokens.blank.now c.in_ok-_blank._blank.now c.in_ok-_blank.left.now c.args.last c.in-true-Some.end c.in-true-Some.is-1 c.in_ok-_tokens.ensures.front_len c.in_ok-front.ensures.split c.in_ok-_tokens.ensures.split (c.in_ok-is_closed.ensures yes) c.in_ok-_blank.ensures.split c.in_ok-_blank.ensures.blank none
