use Rattle.std.proofs.Common.{◌≡◌, ◌∙◌, sym, string_bytes}
use lib.Chars.{codes}
use lib.Pointwise.{bytes_decides}
use Rattle.json5_edit.proofs.Placed.{ok_then}
use Rattle.json5_edit_values.proofs.PatchesMade.{by_joined, by_last, by_set}
use Rattle.json5_edit_values.proofs.patch.adding.add_keyed.Goals as goal

pub returns-then-branch : goal.returns-then-branch
returns-then-branch c =
    let dash : c.args.key.now ≡ codes "-" = (bytes_decides c.args.key.now (codes "-")).0 (sym c.eq.ensures ∙ c.if-eq.true) in
    ok_then c.push_at.result (λ made k. by_last c.args.new c.args.steps.now c.args.outer.now c.args.key.now c.args.text.now (string_bytes made) dash k) c.push_at.ensures

pub returns-in-Ok-Some : goal.returns-in-Ok-Some
returns-in-Ok-Some c = ok_then c.set_at.result (λ made k. by_set c.args.new c.args.steps.now c.args.outer.now c.args.key.now c.args.text.now (string_bytes made) k) c.set_at.ensures

pub returns-in-Ok-None : goal.returns-in-Ok-None
returns-in-Ok-None c = ok_then c.insert_at.result (λ made k. by_joined c.args.new c.args.steps.now c.args.outer.now c.args.key.now c.args.text.now (string_bytes made) k) c.insert_at.ensures
