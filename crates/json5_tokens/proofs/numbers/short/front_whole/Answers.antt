use Rattle.std.proofs.Common.{◌∷◌, ap, sym, ◌∙◌, subst}
use Rattle.std.specs.Str.{chars}
use Rattle.json5_tokens.specs.ShortWays.{IsInFront}
use Rattle.json5_tokens.proofs.ShortWays.{bare_whole, minus_whole}
use Rattle.json5_tokens.proofs.numbers.short.front_whole.Goals as goal

pub returns-then-is_in_front : goal.returns-then-is_in_front
returns-then-is_in_front c =
    let front = subst (IsInFront 45 c.args.text.now) c.if-is_in_front.true c.is_in_front.ensures in
    minus_whole c.args.text.now _ _ _ _ (front.1 ∙ ap (λ z. 45 ∷ chars z) (sym c.split_at.ensures.back)) c.in_ok-magnitude.ensures c.from.ensures

pub returns : goal.returns
returns c = bare_whole c.args.text.now _ _ _ c.in_ok-magnitude-2.ensures c.from-2.ensures
