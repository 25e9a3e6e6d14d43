use Rattle.std.proofs.Common.{◌∙◌, string_bytes}
use Rattle.json5_edit.proofs.Placed.{ok_then}
use Rattle.json5_edit.proofs.PlainlyEdited.{element_added, boundary_there, front_there, rest_there}
use Rattle.json5_edit.proofs.PlainEntries.{element_plain, stays_within}
use Rattle.json5_edit.proofs.changing.put_in.Goals as goal

pub split_at-requires : goal.split_at-requires
split_at-requires c = boundary_there c.utf8.old c.requires.entry.entry.spot

pub returns-in-Err-Failed-clause-put_in : goal.returns-in-Err-Failed-clause-put_in
returns-in-Err-Failed-clause-put_in c = ok_then c.join_four.result (λ made k. element_added c.args.index c.args.room c.args.start c.args.old.now _ c.split_at.result.0.now c.split_at.result.1.now c.args.value.now c.requires.entry.small c.utf8.old c.utf8.value c.requires.entry
    (c.split_at.ensures.front ∙ front_there c.utf8.old c.requires.entry.entry.spot)
    (c.split_at.ensures.back ∙ rest_there c.utf8.old c.requires.entry.entry.spot)
    c.requires.value k) c.join_four.ensures

pub returns-in-Err-Failed-clause-plain : goal.returns-in-Err-Failed-clause-plain
returns-in-Err-Failed-clause-plain c = ok_then c.join_four.result (λ made k. stays_within c.args.collection.now.document.now c.args.old.now c.args.value.now (string_bytes made) c.requires.plain (element_plain c.args.index c.args.room c.args.start c.args.old.now _ c.split_at.result.0.now c.split_at.result.1.now c.args.value.now c.utf8.old c.utf8.value c.requires.entry
    (c.split_at.ensures.front ∙ front_there c.utf8.old c.requires.entry.entry.spot)
    c.split_at.ensures.back
    c.requires.value k)) c.join_four.ensures
