use Rattle.std.proofs.Common.{◌≡◌, true, Some, None, ap, sym, ◌∙◌}
use Rattle.std.specs.Str.{encode_utf8_all}
use Rattle.std.proofs.lemmas.Result.{err_from_is_err_and}
use Rattle.json5_types.specs.Cows.{cow_bytes, is_borrowed}
use Rattle.json5_de.specs.Convert.{if_escape_free}
use Rattle.json5_de.specs.KeyKinds.{escape_free_key}
use Rattle.json5_de.proofs.FoundKeys.{not_found, key_is_text, key_not_text}
use Rattle.json5_de.proofs.de.Deserializer.key_str_slowly.Goals as goal

pub returns-in_err-key : goal.returns-in_err-key
returns-in_err-key g c =
    let (y, is, from) = err_from_is_err_and c.from_residual.result c.from_residual.ensures.1 in
    rw (is, from) (not_found escape_free_key (λ t. t.now) c.args.self.now c.find_key.new.self c.in_err-key.field-0.0 c.in_err-key.ensures.refused c.in_err-key.ensures.complete c.in_err-key.ensures.failed c.in_err-key.ensures.before)

pub returns-in-Borrowed : goal.returns-in-Borrowed
returns-in-Borrowed g c =
    let k = c.in_ok-key.ensures.taken in
    let (borrowed, bytes) = c.borrowed_key_text.ensures k.text k.escape_free k.is_text in
    let is_escape_free : k.escape_free ≡ true = sym borrowed ∙ ap is_borrowed c.in-Borrowed.is in
    let same : encode_utf8_all k.text ≡ c.in-Borrowed.text.now = sym bytes ∙ ap cow_bytes c.in-Borrowed.is in
    key_is_text if_escape_free (λ t. t.now) c.args.self.now c.find_key.new.self c.in_ok-key.key c.in-Borrowed.text k (ap (if_escape_free k.text) is_escape_free ∙ ap Some same)

pub returns-in-Owned : goal.returns-in-Owned
returns-in-Owned g c =
    let k = c.in_ok-key.ensures.taken in
    let (borrowed, bytes) = c.borrowed_key_text.ensures k.text k.escape_free k.is_text in
    let none : if_escape_free k.text k.escape_free ≡ None = ap (if_escape_free k.text) (sym borrowed ∙ ap is_borrowed c.in-Owned.is) in
    let (e, is, mismatch) = err_from_is_err_and c.refuse_mismatch.result c.refuse_mismatch.ensures.refused in
    rw is (key_not_text if_escape_free (λ t. t.now) c.args.self.now c.find_key.new.self c.refuse_mismatch.new.self c.in_ok-key.key e k none mismatch c.refuse_mismatch.ensures.failed)
