use Rattle.std.proofs.Common.{subst}
use Rattle.std.specs.Str.{chars}
use Rattle.json5_lexemes.specs.SameLexemes.{Same, Within}
use Rattle.json5_lexemes.proofs.SameLists.{alike_lists}
use Rattle.json5_lexemes.proofs.same.alike_lexemes.Goals as goal

pub returns : goal.returns
returns c = λ t.
    let m = c.args.moves in
    let x = chars c.args.left.now in
    let y = chars c.args.right.now in
    alike_lists m x y
    (subst (λ z. Same m Within.between z y) c.new-left_rest.ensures
    (subst (λ z. Same m Within.between c.new-left_rest.result.unread z) c.new-right_rest.ensures (c.are_same.ensures t)))
