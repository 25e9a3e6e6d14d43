use Rattle.std.proofs.Common.{◌≡◌, ◌++◌, string_bytes, ℕ, Bool, List}
use Rattle.std.specs.Str.{chars, encode_utf8_all}
use Rattle.json5_tokens.specs.ScanTexts.{text_at, ReadsUpTo, left_in}
use Rattle.json5_tokens.proofs.strings_and_names.push_rest.Given as goal

abbrev pub invariant-loop-stop : goal.invariant-loop-stop
invariant-loop-stop l = (u : List ℕ) × (escape_free : Bool) × ReadsUpTo (text_at l.fn.kind (chars l.fn.escape)) u escape_free l.stop × (string_bytes l.text ≡ string_bytes l.fn.text ++ encode_utf8_all u)

abbrev pub decreases-loop-stop : goal.decreases-loop-stop
decreases-loop-stop l = left_in l.stop
