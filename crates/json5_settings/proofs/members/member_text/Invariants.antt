use Rattle.std.proofs.Common.{◌≡◌, ◌++◌, ℕ, List, length}
use Rattle.std.specs.Prelude.{string_bytes}
use Rattle.std.specs.Str.{chars}
use Rattle.json5_settings.specs.Keys.{key_texts}
use Rattle.json5_settings.specs.MemberTexts.{IsNested}
use Rattle.json5_settings.proofs.members.member_text.Given as goal

-- the text is the member at the last keys, before which the others are left
abbrev pub invariant-loop-key : goal.invariant-loop-key
invariant-loop-key l = (keys : List (List ℕ)) × (key_texts l.fn.keys ≡ key_texts l.left ++ keys) × IsNested keys (chars l.fn.value) (chars (string_bytes l.text))

abbrev pub decreases-loop-key : goal.decreases-loop-key
decreases-loop-key l = length l.left
