use Rattle.std.proofs.Common.{rules, ◌≡◌, [], ◌∷◌, ◌∙◌}
use Rattle.json5_edit.proofs.Removed.{closed_there}
use Rattle.json5_edit.proofs.pieces.are_closed_blanks.Goals as goal

pub returns : goal.returns
returns c = λ yes.
    let is : c.in_ok-_blank.left.now ≡ 44 ∷ [] = search rules in
    closed_there c.args.text.now c.as_str.result.now c.in_ok-_blank._blank.now c.in_ok-_blank.left.now (c.as_str.ensures.value ∙ c.in_ok-before_comma.ensures) c.in_ok-_blank.ensures.split c.in_ok-_blank.ensures.blank is
