use Rattle.std.proofs.Common.{◌∙◌, refl, sym, subst, Err}
use Rattle.json5_grammar.specs.Language.Trees as trees
use Rattle.json5_grammar.specs.Language.Values.{is_number}
use Rattle.json5_types.specs.NumberMeanings.{number_of}
use Rattle.json5_tokens.specs.TokenCalls.{TakesWord, TakesOwned, TakesNumber}
use Rattle.json5_read.specs.Kinds.{word_of, ends_of, differs_of}
use Rattle.json5_read.proofs.BuildScalars.{literal_taken, scalar_kept, scalar_refused, scalar_taken, text_taken, text_refused, number_refused}
use Rattle.json5_read.proofs.SkipScalars.{literal_value, other_value}
use Rattle.json5_read.proofs.scalars.read_scalar.Goals as goal

pub returns-in_err-leave_error-in-Literal : goal.returns-in_err-leave_error-in-Literal
returns-in_err-leave_error-in-Literal g c =
    let old = c.args.scanner.now in
    let new = c.skip_literal.new.scanner in
    let l = c.in-Literal.literal in
    let e = c.leave_error.new.fault in
    let k = subst (TakesWord (word_of l) (ends_of l) (differs_of l) old new) (sym c.in_err-leave_error-in-Literal.ensures) c.skip_literal.ensures in
    rw c.from_residual.ensures (scalar_refused old new e (λ room. literal_value room old new c.args.c c.requires.first c.kind_at.result c.kind_at.ensures l (Err e) c.requires.ready c.in-Literal.is k))

pub returns-in_ok-leave_error-in-Literal : goal.returns-in_ok-leave_error-in-Literal
returns-in_ok-leave_error-in-Literal g c =
    let old = c.args.scanner.now in
    let new = c.skip_literal.new.scanner in
    let l = c.in-Literal.literal in
    let k = subst (TakesWord (word_of l) (ends_of l) (differs_of l) old new) (sym c.in_ok-leave_error-in-Literal.ensures) c.skip_literal.ensures in
    scalar_kept old new c.value_of_literal.result (λ room. literal_taken room old new l c.value_of_literal.result k.taken c.value_of_literal.ensures)

pub returns-in_err-text-in-String : goal.returns-in_err-text-in-String
returns-in_err-text-in-String g c =
    let old = c.args.scanner.now in
    let new = c.string_owned.new.self in
    let e = c.leave_error-in-String.new.fault in
    let k = subst (TakesOwned old new) (sym c.in_err-text-in-String.ensures) c.string_owned.ensures in
    rw c.from_residual-in_err-text-in-String.ensures (text_refused old new c.args.c c.requires.first c.kind_at.result c.kind_at.ensures e c.requires.ready k.kept c.in-String.is k.refused)

pub returns-in_ok-text-in-String : goal.returns-in_ok-text-in-String
returns-in_ok-text-in-String g c =
    let old = c.args.scanner.now in
    let new = c.string_owned.new.self in
    let k = subst (TakesOwned old new) (sym c.in_ok-text-in-String.ensures) c.string_owned.ensures in
    scalar_kept old new _ (λ room. text_taken room old new c.in_ok-text-in-String.text c.offset-offset.ensures.scalars k.taken)

pub returns-in_err-number-in-Number : goal.returns-in_err-number-in-Number
returns-in_err-number-in-Number g c =
    let old = c.args.scanner.now in
    let new = c.number.new.self in
    let e = c.leave_error-in-Number.new.fault in
    let k = subst (TakesNumber old new) (sym c.in_err-number-in-Number.ensures) c.number.ensures in
    rw c.from_residual-in_err-number-in-Number.ensures (number_refused old new c.args.c c.requires.first c.kind_at.result c.kind_at.ensures e c.requires.ready k.kept c.in-Number.is k.refused)

pub returns-in_ok-number-in-Number : goal.returns-in_ok-number-in-Number
returns-in_ok-number-in-Number g c =
    let old = c.args.scanner.now in
    let new = c.number.new.self in
    let n = c.in_ok-number-in-Number.number in
    let k = subst (TakesNumber old new) (sym c.in_ok-number-in-Number.ensures) c.number.ensures in
    let (s, took, num, stops) = k.taken in
    scalar_kept old new c.value_of_number.result (λ room. scalar_taken room old new s (trees.number (number_of n)) c.value_of_number.result refl took (is_number num) stops c.value_of_number.ensures)

pub returns-in-Other : goal.returns-in-Other
returns-in-Other g c =
    let old = c.args.scanner.now in
    let e = c.leave_here.new.fault in
    scalar_refused old old e (λ room. other_value room old old c.args.c c.requires.first c.kind_at.result c.kind_at.ensures e c.requires.ready c.in-Other.is (c.requires.other (sym c.kind_at.ensures ∙ c.in-Other.is)) c.leave_here.ensures.kind c.leave_here.ensures.placed refl)
