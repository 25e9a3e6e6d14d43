use Rattle.std.proofs.Common.{◌≡◌, ◌-◌, ◌++◌, ap, sym, ◌∙◌}
use Rattle.std.specs.Str.{chars}
use Rattle.json5_tokens.specs.Cursor.{Cursor}
use Rattle.json5_tokens.specs.Outcome.{bytes_in}
use Rattle.json5_edit.proofs.TakenApart.{gap_there, solid_there}
use Rattle.json5_edit.proofs.PiecesJoined.{ok_both}
use Rattle.json5_edit.proofs.belongings.split_blanks.Goals as goal

pub returns : goal.returns
returns c =
    let (w, took, gap, solid) = c.in_ok-skip_blank.ensures.passed in
    let y = c.skip_blank.new.self.unread in
    let whole : chars c.args.text.now ≡ w ++ y = sym (ap (λ (z : Cursor). z.unread) c.new-scanner.ensures) ∙ took.split in
    let input : c.skip_blank.new.self.input ≡ w ++ y = took.same ∙ ap (λ (z : Cursor). z.input) c.new-scanner.ensures ∙ whole in
    let size : c.offset.result ≡ bytes_in (w ++ y) - bytes_in y = c.offset.ensures.counted ∙ ap (λ z. bytes_in z - bytes_in y) input in
    ok_both c.split.result (λ parts a b. record {
      split = a;
      blank = gap_there c.args.text.now w y parts.0.now parts.1.now c.offset.result c.utf8.text whole size gap a b;
      solid = solid_there c.args.text.now w y parts.0.now parts.1.now c.offset.result c.utf8.text whole size solid a b;
    }) c.split.ensures.split c.split.ensures.front
