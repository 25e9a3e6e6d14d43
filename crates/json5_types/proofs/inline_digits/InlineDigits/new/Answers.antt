use Rattle.std.proofs.Common.{◌∙◌, arith}
use Rattle.json5_grammar.proofs.CharacterTests.{Each-append}
use Rattle.json5_types.proofs.InlineDigits.{copied}
use Rattle.json5_types.proofs.inline_digits.InlineDigits.new.Goals as goal

pub invariant_of-result : goal.invariant_of-result
invariant_of-result c = (
  omega (arith, c.if-len-gt-CAPACITY.false),
  rw (copied c.args.first.now c.args.last.now _ _ _ (c.copy_from_slice.ensures.after ∙ c.as_bytes.ensures.value) (c.copy_from_slice-2.ensures.after ∙ c.as_bytes-2.ensures.value)) (Each-append c.requires.first c.requires.last),
)

pub returns : goal.returns
returns c = copied c.args.first.now c.args.last.now _ _ _ (c.copy_from_slice.ensures.after ∙ c.as_bytes.ensures.value) (c.copy_from_slice-2.ensures.after ∙ c.as_bytes-2.ensures.value)
