use Rattle.std.proofs.Common.{sym}
use Rattle.json5_grammar.specs.declared.error_code.ErrorCode.TheVariants.{ExpectedIdentifier}
use Rattle.json5_tokens.proofs.ScanEscapes.{refused_here}
use Rattle.json5_tokens.proofs.ScanTexts.{item_misfits}
use Rattle.json5_tokens.proofs.names.read_name_item.Goals as goal

pub returns-then-not-fits : goal.returns-then-not-fits
returns-then-not-fits c = record {
  refused = refused_here _ ExpectedIdentifier c.args.escape.now c.utf8.escape (item_misfits c.args.is_first _ _ _ c.in_ok-c.c c.in_ok-c.ensures.read (sym c.if-not-fits.ensures));
  known = tt;
}
