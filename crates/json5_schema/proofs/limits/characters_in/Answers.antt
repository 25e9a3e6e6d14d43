use Rattle.std.proofs.Common.{◌≡◌, Some, ap, length, rules}
use Rattle.std.specs.Str.{chars}
use Rattle.std.proofs.lemmas.Str.{chars_from_encodes}
use Rattle.json5_types.proofs.ValuesCompared.{view-String}
use Rattle.json5_schema.proofs.limits.characters_in.Goals as goal

pub returns-in-String : goal.returns-in-String
returns-in-String c =
    let counted : c.count.result ≡ length (chars c.as_str.result.now) = search (rules, chars_from_encodes) in
    rw (c.in-String.is, view-String c.in-String.text, ← c.as_str.ensures.value) (ap Some counted)
