use Rattle.std.proofs.Common.{◌∙◌, [], ◌∷◌, ◌++◌, ap, sym, subst, append_assoc, string_bytes}
use Rattle.std.specs.Str.{chars}
use Rattle.json5_styles.specs.Json.{JsonString}
use Rattle.json5_edit.specs.Pieces.{SpellsKey}
use Rattle.json5_edit.proofs.PiecesJoined.{ok_both}
use Rattle.json5_edit.proofs.PlainlyEdited.{member_added, name_alone}
use Rattle.json5_edit.proofs.PlainEntries.{member_stays, stays_within}
use Rattle.json5_edit.proofs.changing.inserted.Goals as goal

pub with_last-requires-clause-name : goal.with_last-requires-clause-name
with_last-requires-clause-name c = name_alone c.args.key.now c.as_str.result.now c.as_str-in-Err-Failed.result.now (subst (SpellsKey c.args.key.now) (sym c.as_str.ensures.value) c.in_ok-key-in-Err-Failed.ensures.spelled) (c.as_str-in-Err-Failed.ensures.value ∙ c.in_ok-name-in-Err-Failed.ensures)

pub returns-in_ok-name-in-Err-Failed : goal.returns-in_ok-name-in-Err-Failed
returns-in_ok-name-in-Err-Failed c =
    let (end, value, plain) = c.requires in
    let spelled = subst (SpellsKey c.args.key.now) (sym c.as_str.ensures.value) c.in_ok-key-in-Err-Failed.ensures.spelled in
    let name = ap (λ z. z ++ c.args.value.now) (c.as_str-in-Err-Failed.ensures.value ∙ c.in_ok-name-in-Err-Failed.ensures) ∙ append_assoc c.as_str.result.now (58 ∷ []) c.args.value.now in
    ok_both c.with_last.result (λ made a p. (
      member_added c.args.key.now c.args.value.now c.args.room c.args.old.now _ c.as_str.result.now (c.as_str-in-Err-Failed.result.now ++ c.args.value.now) c.as_str.utf8 c.utf8.value spelled name end value a,
      λ quoted. stays_within c.args.collection.now.document.now c.args.old.now c.args.value.now (string_bytes made) plain (member_stays c.args.old.now _ _ c.args.key.now c.args.value.now c.as_str.result.now (c.as_str-in-Err-Failed.result.now ++ c.args.value.now) c.as_str.utf8 c.utf8.value spelled (subst (λ x. JsonString (chars x)) (sym c.as_str.ensures.value) c.in_ok-key-in-Err-Failed.ensures.plain) name value p),
    )) c.with_last.ensures.added c.with_last.ensures.plain
