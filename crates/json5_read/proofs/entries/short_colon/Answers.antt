use Rattle.std.proofs.Common.{subst}
use Rattle.json5_tokens.specs.Cursor.{Cursor}
use Rattle.json5_tokens.specs.ShortWays.{TakesShortSign}
use Rattle.json5_read.proofs.ShortEntries.{colon_at_once}
use Rattle.json5_read.proofs.entries.short_colon.Goals as goal

pub returns-then-eat : goal.returns-then-eat
returns-then-eat g c = colon_at_once c.args.scanner.now c.eat.new.self (c.eat.ensures.taken c.if-eat.true)

pub returns : goal.returns
returns g c = subst (λ (s : Cursor). TakesShortSign 58 s c.short_sign.new.self c.short_sign.result) (c.eat.ensures.kept c.if-eat.false).0 c.short_sign.ensures
