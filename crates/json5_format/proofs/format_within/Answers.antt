use Rattle.std.proofs.Common.{string_bytes}
use Rattle.std.specs.Str.{chars}
use Rattle.std.proofs.lemmas.Result.{err_from_is_err_and, IfOk-weaker, IfErr-weaker}
use Rattle.json5_types.specs.ValueMeanings.{value_of}
use Rattle.json5_read.proofs.DocumentReads.{memory_refused}
use Rattle.json5_format.proofs.Formats.{formatted_within, completed, only_memory}
use Rattle.json5_format.proofs.format_within.Goals as goal

pub returns-in_err-value-clause-complete : goal.returns-in_err-value-clause-complete
returns-in_err-value-clause-complete c = λ t document.
    let (y, is, from) = err_from_is_err_and c.from_residual.result c.from_residual.ensures.1 in
    rw (is, from) (c.in_err-value.ensures.complete t document)

pub returns-in_err-value-clause-refused : goal.returns-in_err-value-clause-refused
returns-in_err-value-clause-refused c =
    let (y, is, from) = err_from_is_err_and c.from_residual.result c.from_residual.ensures.1 in
    rw (is, from) c.in_err-value.ensures.refused

pub returns-clause-refused : goal.returns-clause-refused
returns-clause-refused c =
    let (t, document, is) = c.in_ok-value.ensures.sound in
    IfErr-weaker c.to_string.result _ _ (λ e k. memory_refused c.args.limit (chars c.args.text.now) e (only_memory c.args.limit (chars c.args.text.now) t (value_of c.in_ok-value.value) e document is k)) c.to_string.ensures.refused

pub returns-clause-formatted : goal.returns-clause-formatted
returns-clause-formatted c =
    let (t, document, is) = c.in_ok-value.ensures.sound in
    IfOk-weaker c.to_string.result _ _ (λ s w. formatted_within c.args.limit (chars c.args.text.now) (string_bytes s) t (value_of c.in_ok-value.value) document is w) c.to_string.ensures.whole

pub returns-clause-complete : goal.returns-clause-complete
returns-clause-complete c = λ u other.
    let (t, document, is) = c.in_ok-value.ensures.sound in
    completed c.args.limit string_bytes (chars c.args.text.now) t u (value_of c.in_ok-value.value) c.to_string.result document other is c.to_string.ensures.whole c.to_string.ensures.refused
