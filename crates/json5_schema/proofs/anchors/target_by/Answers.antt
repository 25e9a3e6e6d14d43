use Rattle.std.proofs.Common.{◌≡◌, ◌∙◌, None, sym, arith}
use Rattle.std.proofs.lemmas.Str.Pattern.{strip_prefix_char}
use Rattle.json5_types.specs.ValueMeanings.{value_of}
use Rattle.json5_schema.proofs.Parts.{no_sign, past_sign}
use Rattle.json5_schema.proofs.anchors.target_by.Goals as goal

pub returns-in_err-strip_prefix : goal.returns-in_err-strip_prefix
returns-in_err-strip_prefix c =
    let gone : c.from_residual.result ≡ None = grind arith in
    let other = rw c.in_err-strip_prefix.was at (strip_prefix_char 35 c.args.text.now c.strip_prefix.result c.strip_prefix.ensures.cases (omega arith)) in
    rw gone (sym (no_sign c.args.text.now (value_of c.args.root.now) other))

pub returns : goal.returns
returns c =
    let cut = rw c.in_ok-strip_prefix.was at (strip_prefix_char 35 c.args.text.now c.strip_prefix.result c.strip_prefix.ensures.cases (omega arith)) in
    c.at_fragment.ensures ∙ sym (past_sign c.args.text.now c.in_ok-strip_prefix.field-0.now (value_of c.args.root.now) cut)
