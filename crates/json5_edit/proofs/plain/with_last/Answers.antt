use Rattle.std.proofs.Common.{◌∙◌, ◌++◌, ap, sym, append_assoc}
use Rattle.json5_edit.proofs.Placed.{ok_then}
use Rattle.json5_edit.proofs.PlainlyEdited.{last_added, boundary_there, front_there, rest_there, utf8_both}
use Rattle.json5_edit.proofs.PlainEntries.{last_plain}
use Rattle.json5_edit.proofs.plain.with_last.Goals as goal

pub split_at-requires : goal.split_at-requires
split_at-requires c = boundary_there c.utf8.old c.requires.end.end

pub returns-clause-added : goal.returns-clause-added
returns-clause-added c = ok_then c.join_five.result (λ made k. last_added c.args.kind c.args.room c.args.end c.args.old.now _ c.split_at.result.0.now c.split_at.result.1.now c.args.name.now c.args.value.now c.comma_for.result.now c.requires.end.small c.utf8.old c.utf8.name c.utf8.value c.requires.name c.requires.end
    (c.split_at.ensures.front ∙ front_there c.utf8.old c.requires.end.end)
    (c.split_at.ensures.back ∙ rest_there c.utf8.old c.requires.end.end)
    c.comma_for.ensures k) c.join_five.ensures

pub returns-clause-plain : goal.returns-clause-plain
returns-clause-plain c = ok_then c.join_five.result (λ made k. last_plain c.args.kind c.args.room c.args.end c.args.old.now _ c.split_at.result.0.now c.split_at.result.1.now (c.args.name.now ++ c.args.value.now) c.comma_for.result.now c.utf8.old (utf8_both c.args.name.now c.args.value.now c.utf8.name c.utf8.value) c.requires.end
    (c.split_at.ensures.front ∙ front_there c.utf8.old c.requires.end.end)
    (c.split_at.ensures.back ∙ rest_there c.utf8.old c.requires.end.end)
    c.comma_for.ensures (k ∙ ap (λ z. c.split_at.result.0.now ++ (c.comma_for.result.now ++ z)) (sym (append_assoc c.args.name.now c.args.value.now c.split_at.result.1.now)))) c.join_five.ensures
