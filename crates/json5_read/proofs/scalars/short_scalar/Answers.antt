use Rattle.std.proofs.Common.{◌∙◌, sym}
use Rattle.json5_read.proofs.ShortEntries.{literal_short, number_short, string_short}
use Rattle.json5_read.proofs.scalars.short_scalar.Goals as goal

pub returns-in-Literal : goal.returns-in-Literal
returns-in-Literal g c =
    literal_short c.args.scanner.now c.short_literal.new.scanner c.in-Literal.literal c.short_literal.result (record { char = c.args.c; ready = c.requires.ready; first = c.requires.first; is = sym c.kind_at.ensures ∙ c.in-Literal.is }) c.short_literal.ensures

pub returns-in-String : goal.returns-in-String
returns-in-String g c =
    string_short c.args.scanner.now c.short_string.new.self c.short_string.result c.is_some.result (record { char = c.args.c; ready = c.requires.ready; first = c.requires.first; is = sym c.kind_at.ensures ∙ c.in-String.is })
    c.short_string.ensures c.is_some.ensures

pub returns-in-Number : goal.returns-in-Number
returns-in-Number g c =
    number_short c.args.scanner.now c.short_number.new.self c.short_number.result (record { char = c.args.c; ready = c.requires.ready; first = c.requires.first; is = sym c.kind_at.ensures ∙ c.in-Number.is }) c.short_number.ensures
