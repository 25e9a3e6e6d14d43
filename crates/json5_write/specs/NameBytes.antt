-- The ASCII characters that may continue a name. Private clauses and proofs alone cite it.
-- Private.
use Rattle.std.specs.Prelude.{◌≡◌, ℕ, List, Bool, nat_lt, ◌&&◌}
use Rattle.std.specs.List.{list_all}
use Rattle.std.specs.Str.{IsUtf8, chars}
use Rattle.json5_grammar.specs.Language.Characters.{is_identifier_part}

abbrev pub is_name_byte : ℕ → Bool
is_name_byte c = nat_lt c 128 && is_identifier_part c

-- only such characters are passed over, and a text follows
pub record SkipsNameBytes (whole rest : List ℕ) : Type 0 where
  pub same : list_all is_identifier_part (chars whole) ≡ list_all is_identifier_part (chars rest)
  pub utf8 : IsUtf8 rest
