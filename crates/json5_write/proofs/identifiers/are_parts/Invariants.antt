use Rattle.std.proofs.Common.{◌≡◌, length}
use Rattle.std.specs.List.{list_all}
use Rattle.std.specs.Str.{chars, IsUtf8}
use Rattle.json5_grammar.specs.Language.Characters.{is_identifier_part}
use Rattle.json5_write.proofs.identifiers.are_parts.Given as goal

abbrev pub invariant-loop-c : goal.invariant-loop-c
invariant-loop-c l = record {
  same : list_all is_identifier_part (chars l.initial.text) ≡ list_all is_identifier_part (chars l.rest);
  utf8 : IsUtf8 l.rest;
}

abbrev pub decreases-loop-c : goal.decreases-loop-c
decreases-loop-c l = length l.rest
