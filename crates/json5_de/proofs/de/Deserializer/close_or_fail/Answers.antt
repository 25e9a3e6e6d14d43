use Rattle.std.proofs.Common.{true, ap, subst}
use Rattle.json5_tokens.specs.ShortWays.{TakesShortSign}
use Rattle.json5_read.specs.Brackets.{brackets_of}
use Rattle.json5_read.specs.declared.brackets.BracketPair.{BracketPair}
use Rattle.json5_de.specs.Enums.{ClosesLast}
use Rattle.json5_de.specs.State.{State}
use Rattle.json5_de.proofs.ShortReads.{same_reader}
use Rattle.json5_de.proofs.ShortBrackets.{short_close}
use Rattle.json5_de.proofs.OpenClose.{closes_at_once}
use Rattle.json5_de.proofs.ObjectMembers.{signs_of}
use Rattle.json5_de.proofs.de.Deserializer.close_or_fail.Goals as goal

pub returns : goal.returns
returns g c =
    let b = brackets_of c.args.kind in
    let sign = subst (λ n. TakesShortSign n c.self.inside.scanner c.short_sign.new.self true) (ap (λ (p : BracketPair). p.closing) c.brackets.ensures) c.if-not-short_sign.ensures in
    rw c.saturating_sub-self-inside.ensures (closes_at_once b (signs_of c.args.kind) c.args.comma_due c.args.self.now _
    (short_close c.args.kind c.self.inside.scanner c.short_sign.new.self c.self.inside.level c.self.inside.failed c.args.self.now c.self.view_is c.if-self.false sign))

pub returns-then-not-short_sign : goal.returns-then-not-short_sign
returns-then-not-short_sign g c =
    let same = same_reader c.self.inside.scanner c.short_sign.new.self c.self.inside.level c.self.inside.failed c.args.self.now c.self.view_is c.if-not-short_sign.ensures in
    subst (λ (s : State). ClosesLast (brackets_of c.args.kind) c.args.comma_due s c.close_slowly-then-not-short_sign.new.self c.close_slowly-then-not-short_sign.result) same c.close_slowly-then-not-short_sign.ensures
