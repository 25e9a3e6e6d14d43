use Rattle.std.proofs.Common.{◌++◌, ap, ◌∙◌}
use Rattle.std.specs.Str.{encode_utf8_all}
use Rattle.json5_edit.proofs.Placed.{starts_there, ends_there, before_there, after_there}
use Rattle.json5_edit.proofs.setting.splice.Goals as goal

pub split_at-requires : goal.split_at-requires
split_at-requires c = starts_there c.utf8.text c.requires

pub split_at-requires-2 : goal.split_at-requires-2
split_at-requires-2 c = ends_there c.utf8.text c.requires

pub returns-clause-spliced : goal.returns-clause-spliced
returns-clause-spliced c = λ before old after cut.
    c.in_ok-join.ensures ∙ ap (λ z. z ++ (c.args.new.now ++ c.split_at-2.result.1.now)) (c.split_at.ensures.front ∙ before_there c.utf8.text cut)
    ∙ ap (λ z. encode_utf8_all before ++ (c.args.new.now ++ z)) (c.split_at-2.ensures.back ∙ after_there c.utf8.text cut)
