use Rattle.json5_tokens.specs.declared.strings_and_names.Kind.TheVariants as kind
use Rattle.json5_tokens.proofs.ScanRuns.{all_raw}
use Rattle.json5_tokens.proofs.strings_and_names.skip_run.Goals as goal

pub returns-in-NameRest : goal.returns-in-NameRest
returns-in-NameRest c = rw c.in-NameRest.is (all_raw kind.NameRest _ _ c.skip_parts.ensures)

pub returns-in-String : goal.returns-in-String
returns-in-String c = rw c.in-String.is (all_raw (kind.String c.in-String.quote) _ _ c.skip_raw.ensures)
