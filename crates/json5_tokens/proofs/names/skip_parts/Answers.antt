use Rattle.std.proofs.Common.{◌≡◌, [], ◌∷◌, true, arith}
use Rattle.json5_grammar.specs.Language.Characters.{no_char, char}
use Rattle.json5_tokens.specs.ScanTexts.{is_raw_part}
use Rattle.json5_tokens.proofs.ScanRuns.{more_of}
use Rattle.json5_tokens.proofs.names.skip_parts.Goals as goal

pub loop-c-preserved : goal.loop-c-preserved
loop-c-preserved c =
    let h : is_raw_part c.in-Some.c ≡ true = grind arith in
    let one = more_of is_raw_part _ _ _ (c.in-Some.c ∷ []) c.loop-c.invariant.1 c.in-Some.ensures.chars (char h no_char) in
    let more = c.skip_ascii_parts-rest-in-Some.ensures in
    (c.skip_ascii_parts-rest-in-Some.utf8, more_of is_raw_part _ _ _ more.passed one more.split more.each)
