use Rattle.std.proofs.Common.{◌∙◌, ap}
use Rattle.std.specs.List.{prefix_len}
use Rattle.json5_grammar.specs.Language.Strings.{is_raw}
use Rattle.json5_tokens.specs.ScanTexts.{quote_of}
use Rattle.json5_tokens.proofs.RunBoundaries.{stop_boundary, stop_skips, raw_chars, quote_ascii}
use Rattle.json5_tokens.proofs.ScanRuns.{quote_is}
use Rattle.json5_tokens.proofs.strings.skip_raw.Goals as goal

pub split_at-requires : goal.split_at-requires
split_at-requires c =
    let q = quote_of c.args.quote in
    stop_boundary (is_raw q) (is_raw q) c.args.text.now _ (raw_chars q (quote_ascii q (quote_is c.args.quote))) c.utf8.text
    (c.raw_end-end.ensures.value ∙ ap (λ b. prefix_len (is_raw b) c.as_bytes.result.now) c.byte.ensures ∙ ap (prefix_len (is_raw q)) c.as_bytes.ensures.value)

pub returns : goal.returns
returns c =
    let q = quote_of c.args.quote in
    stop_skips (is_raw q) (is_raw q) c.args.text.now _ _ (raw_chars q (quote_ascii q (quote_is c.args.quote))) c.utf8.text
    (c.raw_end-end.ensures.value ∙ ap (λ b. prefix_len (is_raw b) c.as_bytes.result.now) c.byte.ensures ∙ ap (prefix_len (is_raw q)) c.as_bytes.ensures.value) c.split_at.ensures.back
