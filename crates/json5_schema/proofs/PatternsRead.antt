-- What a compiled pattern finds is what its text means.
use Rattle.std.proofs.Common.{◌≡◌, ◌<◌, ◌≤◌, ℕ, true, List, Option, None, Some, false, is_some, IsSomeAnd, get_or, length, sym}
use Rattle.std.specs.Str.{chars}
use Rattle.regex_hir.specs.Re.{Re}
use Rattle.regex_syntax.specs.Brackets.{Nested}
use Rattle.regex_syntax.specs.Grammar.{Names, read, group_count}
use Rattle.regex.specs.Names.{names_of}
use Rattle.regex.specs.Patterns.{SameCaptures, Reads, find_str, default_config}
use Rattle.regex.specs.Strings.{regex_pattern, regex_source, regex_config, IsReadFromSource}
use Rattle.regex.specs.declared.string.regex.Regex.{Regex}
use Rattle.regex.proofs.ForCallers.{is_match_alike}
use Rattle.json5_schema.specs.Patterns.{in_rust, has_match, matches, Means}

has_same : (o : Option (Nested Re × Names)) (a : Re) (most : ℕ) (names : Names) →
    IsSomeAnd o (λ (re, found). (re.depth ≤ most) × SameCaptures a re.value × (names ≡ found) × (group_count a ≤ length names)) →
    (bytes : List ℕ) → ((k : ℕ) → get_or bytes k 0 < 256) → has_match o bytes ≡ is_some (find_str a bytes 0)
has_same None a most names h bytes small = absurd h
has_same (Some found) a most names h bytes small = sym (is_match_alike h.1 bytes small true 0)

pub means_as_read : (r : Regex) (pattern : List ℕ) → regex_source r ≡ in_rust false pattern → regex_config r ≡ default_config → IsReadFromSource r → Means (regex_pattern r) pattern
unfolding Reads matches
means_as_read r pattern is_source is_config is_read =
    let reads : Reads default_config (in_rust false pattern) r.pattern.program.hir (names_of r.pattern.names.items) = rw (is_source, is_config) at is_read in
    λ bytes small. has_same (read default_config (chars (in_rust false pattern))) (regex_pattern r) default_config.nest_limit (names_of r.pattern.names.items) reads bytes small
