use Rattle.std.proofs.Common.{sym, subst}
use Rattle.json5_edit.specs.Keys.{Rekeys}
use Rattle.std.specs.Str.{chars}
use Rattle.json5_styles.specs.Json.{JsonString}
use Rattle.json5_edit.specs.Pieces.{SpellsKey}
use Rattle.json5_edit.proofs.Placed.{ok_then}
use Rattle.json5_edit.proofs.Rekeyed.{key_seam, begins, rekeyed}
use Rattle.json5_edit.proofs.renaming.renamed.Goals as goal

pub split_at-requires : goal.split_at-requires
split_at-requires c = key_seam c.args.room c.args.name.now c.args.old.now c.args.start c.utf8.old c.requires

pub key_ahead-requires : goal.key_ahead-requires
key_ahead-requires c = begins c.args.room c.args.name.now c.args.old.now c.args.start c.utf8.old c.requires c.split_at.result.1.now c.split_at.ensures.back

pub returns-in_ok-came-in-Err-Failed : goal.returns-in_ok-came-in-Err-Failed
returns-in_ok-came-in-Err-Failed c = ok_then c.join_five.result (λ made e. subst (Rekeys c.args.room c.args.name.now c.args.key.now c.args.old.now) (sym e)
    (rekeyed c.args.room c.args.name.now c.args.old.now c.args.start c.utf8.old c.requires c.split_at.result.0.now c.split_at.result.1.now c.in_ok-blank-in-Err-Failed.blank.now c.in_ok-blank-in-Err-Failed.back.now c.split_at.ensures.front c.split_at.ensures.back c.in_ok-blank-in-Err-Failed.ensures
    c.args.key.now c.as_str.result.now c.as_str.utf8 (subst (SpellsKey c.args.key.now) (sym c.as_str.ensures.value) c.in_ok-came-in-Err-Failed.ensures.spelled)
    (subst (λ x. JsonString (chars x)) (sym c.as_str.ensures.value) c.in_ok-came-in-Err-Failed.ensures.plain) c.requires.2.small)) c.join_five.ensures
