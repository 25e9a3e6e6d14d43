use Rattle.std.proofs.Common.{◌∙◌, ◌++◌, ap}
use Rattle.json5_settings.specs.Warnings.{told_if}
use Rattle.json5_walk.proofs.Entries.{on_then}
use Rattle.json5_settings.proofs.KeysSeen.{key_seen, key_told}
use Rattle.json5_settings.proofs.warned.note_key.Goals as goal

pub returns-in_ok-is_new-in-Object : goal.returns-in_ok-is_new-in-Object
returns-in_ok-is_new-in-Object c =
    let key = c.args.key in
    let seen = c.args.keys.now in
    let found = c.args.found.now.items in
    rw c.in-Object.is (on_then c.warn_if.result c.warn_if.ensures (λ told known were. (
      key_seen seen c.insert.new.self key.text (λ q. c.in_ok-is_new-in-Object.ensures.updates.0 q) known were,
      told ∙ ap (λ b. found ++ told_if b key.start) (key_told seen key.text c.in_ok-is_new-in-Object.is_new known c.in_ok-is_new-in-Object.ensures.added were),
    )))
