use Rattle.std.proofs.Common.{◌∷◌}
use Rattle.std.specs.Str.{chars}
use Rattle.json5_grammar.specs.Written.Quoting.{key_text}
use Rattle.json5_styles.specs.JsonTexts.{json_string}
use Rattle.json5_styles.specs.Layouts.{gap_in}
use Rattle.json5_styles.proofs.PiecesPut.{stop_first, then_second, put_as}
use Rattle.json5_styles.proofs.strings.put_key.Goals as goal

pub returns-in_err-put_key-in-Json5 : goal.returns-in_err-put_key-in-Json5
returns-in_err-put_key-in-Json5 g c =
    rw c.in-Json5.is (stop_first (key_text (chars c.args.text.now)) (58 ∷ gap_in c.args.form.now.layout) _ _ _ _ c.from_residual.ensures.1 c.in_err-put_key-in-Json5.ensures)

pub returns-in_ok-put_key-in-Json5 : goal.returns-in_ok-put_key-in-Json5
returns-in_ok-put_key-in-Json5 g c =
    rw c.in-Json5.is (then_second (key_text (chars c.args.text.now)) (58 ∷ gap_in c.args.form.now.layout) _ _ _ _ c.in_ok-put_key-in-Json5.ensures (put_as _ _ _ _ _ c.colon.ensures c.put_piece.ensures))

pub returns-in_err-put_string-in-Json : goal.returns-in_err-put_string-in-Json
returns-in_err-put_string-in-Json g c =
    rw c.in-Json.is (stop_first (json_string (chars c.args.text.now)) (58 ∷ gap_in c.args.form.now.layout) _ _ _ _ c.from_residual-in_err-put_string-in-Json.ensures.1 c.in_err-put_string-in-Json.ensures)

pub returns-in_ok-put_string-in-Json : goal.returns-in_ok-put_string-in-Json
returns-in_ok-put_string-in-Json g c =
    rw c.in-Json.is (then_second (json_string (chars c.args.text.now)) (58 ∷ gap_in c.args.form.now.layout) _ _ _ _ c.in_ok-put_string-in-Json.ensures (put_as _ _ _ _ _ c.colon-in-Json.ensures c.put_piece-in-Json.ensures))
