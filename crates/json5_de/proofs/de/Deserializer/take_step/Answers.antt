use Rattle.std.proofs.Common.{true, false, ap, subst}
use Rattle.json5_tokens.specs.ShortWays.{TakesShortStep}
use Rattle.json5_tokens.specs.declared.scanner.ShortStep.TheVariants as short
use Rattle.json5_read.specs.Brackets.{brackets_of}
use Rattle.json5_read.specs.declared.brackets.BracketPair.{BracketPair}
use Rattle.json5_de.specs.AccessCalls.{Advances}
use Rattle.json5_de.specs.DeserializeLaw.{answered}
use Rattle.json5_de.specs.State.{State}
use Rattle.json5_de.proofs.ShortReads.{short_step, advances_at_once}
use Rattle.json5_de.proofs.de.Deserializer.take_step.Goals as goal

pub returns-in-Entry : goal.returns-in-Entry
returns-in-Entry g c =
    let b = brackets_of c.args.kind in
    let step = subst (λ n. TakesShortStep n c.args.comma_due c.self.inside.scanner c.short_step.new.self short.Entry) (ap (λ (p : BracketPair). p.closing) c.brackets.ensures) c.in-Entry.ensures in
    advances_at_once b c.args.comma_due c.args.self.now _ true (short_step b c.args.comma_due c.self.inside.scanner c.short_step.new.self c.self.inside.level c.self.inside.failed c.args.self.now short.Entry c.self.view_is c.if-self.false step)

pub returns-in-Closing : goal.returns-in-Closing
returns-in-Closing g c =
    let b = brackets_of c.args.kind in
    let step = subst (λ n. TakesShortStep n c.args.comma_due c.self.inside.scanner c.short_step.new.self short.Closing) (ap (λ (p : BracketPair). p.closing) c.brackets.ensures) c.in-Closing.ensures in
    advances_at_once b c.args.comma_due c.args.self.now _ false (short_step b c.args.comma_due c.self.inside.scanner c.short_step.new.self c.self.inside.level c.self.inside.failed c.args.self.now short.Closing c.self.view_is c.if-self.false step)

pub returns-in-Other : goal.returns-in-Other
returns-in-Other g c =
    let b = brackets_of c.args.kind in
    let step = subst (λ n. TakesShortStep n c.args.comma_due c.self.inside.scanner c.short_step.new.self short.Other) (ap (λ (p : BracketPair). p.closing) c.brackets.ensures) c.in-Other.ensures in
    let same = short_step b c.args.comma_due c.self.inside.scanner c.short_step.new.self c.self.inside.level c.self.inside.failed c.args.self.now short.Other c.self.view_is c.if-self.false step in
    subst (λ (s : State). Advances b c.args.comma_due s c.take_step_slowly-in-Other.new.self (answered c.take_step_slowly-in-Other.result c.take_step_slowly-in-Other.new.fault)) same c.take_step_slowly-in-Other.ensures
