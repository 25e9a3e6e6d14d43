use Rattle.std.proofs.Common.{◌≡◌, ◌-◌, ◌++◌, ap, sym, ◌∙◌}
use Rattle.std.specs.Str.{chars}
use Rattle.json5_tokens.specs.Cursor.{Cursor}
use Rattle.json5_tokens.specs.Outcome.{bytes_in}
use Rattle.json5_edit.proofs.PiecesJoined.{ok_both, key_there}
use Rattle.json5_edit.proofs.pieces.split_key.Goals as goal

pub returns : goal.returns
returns c =
    let (s, u, e, took, k, is) = c.in_ok-key.ensures.taken in
    let y = c.key.new.self.unread in
    let whole : chars c.args.text.now ≡ s ++ y = sym (ap (λ (z : Cursor). z.unread) c.new-scanner.ensures) ∙ took.split in
    let input : c.key.new.self.input ≡ s ++ y = took.same ∙ ap (λ (z : Cursor). z.input) c.new-scanner.ensures ∙ whole in
    let size : c.offset.result ≡ bytes_in (s ++ y) - bytes_in y = c.offset.ensures.counted ∙ ap (λ z. bytes_in z - bytes_in y) input in
    ok_both c.split.result (λ parts a b. (a, key_there c.args.text.now s y u parts.0.now e c.offset.result c.utf8.text whole size b k)) c.split.ensures.split c.split.ensures.front
