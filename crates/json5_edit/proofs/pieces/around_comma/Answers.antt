use Rattle.std.proofs.Common.{rules, ◌≡◌, [], ◌∷◌}
use Rattle.json5_edit.proofs.Removed.{comma_there}
use Rattle.json5_edit.proofs.pieces.around_comma.Goals as goal

pub returns-then-eq-2 : goal.returns-then-eq-2
returns-then-eq-2 c =
    let is_comma : c.in_ok-comma.comma.now ≡ 44 ∷ [] = search rules in
    let none : c.in_ok-_blank.left.now ≡ [] = search rules in
    comma_there c.args.text.now c.in_ok-front.front.now c.in_ok-front.rest.now c.in_ok-blank.blank.now c.in_ok-blank.rest.now c.in_ok-comma.comma.now c.in_ok-comma.middle.now c.in_ok-_blank._blank.now c.in_ok-_blank.left.now c.args.before c.in-true-Some.end c.in-true-Some.is-1 c.in_ok-front.ensures.front_len c.in_ok-front.ensures.split c.in_ok-blank.ensures.split c.in_ok-blank.ensures.blank c.in_ok-comma.ensures.split is_comma c.in_ok-_blank.ensures.split c.in_ok-_blank.ensures.blank none
