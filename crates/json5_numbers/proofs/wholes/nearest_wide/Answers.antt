use Rattle.std.proofs.Common.{ap, ◌∙◌}
use Rattle.std.specs.Float.{binary64}
use Rattle.fast_float.specs.Text.{nearest}
use Rattle.json5_numbers.proofs.SpelledNumbers.{read_whole}
use Rattle.json5_numbers.proofs.wholes.nearest_wide.Goals as goal

pub returns : goal.returns
returns c = c.to_float.ensures ∙ ap (nearest binary64 c.args.negative) c.scan.ensures.parts ∙ read_whole binary64 c.args.negative c.args.size c.as_bytes.result.now c.ranges.size.fits (c.as_bytes.ensures.value ∙ c.format-digits.ensures.text)
