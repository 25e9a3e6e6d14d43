use Rattle.std.proofs.Common.{◌≡◌, ◌<◌, true, false, refl, sym, subst}
use Rattle.json5_tokens.specs.Scan.{StartsWith}
use Rattle.json5_lexemes.specs.PlainSteps.{BeginsWith}
use Rattle.json5_lexemes.proofs.PlainFronts.{not_in_front}
use Rattle.json5_lexemes.proofs.rest.past_byte.Goals as goal

pub returns-then-not-begins_with : goal.returns-then-not-begins_with
returns-then-not-begins_with c =
    not_in_front c.args.text.now c.args.byte c.utf8.text c.requires (λ b. let is : false ≡ true = c.if-not-begins_with.ensures.1 (subst (BeginsWith c.args.byte) (sym c.as_bytes.ensures.value) b) in cc)

pub past_first-requires-clause-some : goal.past_first-requires-clause-some
past_first-requires-clause-some c = let b = subst (BeginsWith c.args.byte) c.as_bytes.ensures.value (c.if-not-begins_with.ensures.0 refl) in b.0

pub past_first-requires-clause-ascii : goal.past_first-requires-clause-ascii
past_first-requires-clause-ascii c =
    let b = subst (BeginsWith c.args.byte) c.as_bytes.ensures.value (c.if-not-begins_with.ensures.0 refl) in
    subst (λ z. z < 128) (sym b.1) c.requires

pub returns : goal.returns
returns c =
    let b = subst (BeginsWith c.args.byte) c.as_bytes.ensures.value (c.if-not-begins_with.ensures.0 refl) in
    subst (λ z. StartsWith c.args.text.now z c.past_first.result.now) b.1 c.past_first.ensures
