use Rattle.std.proofs.Common.{rules, refl, sym, subst}
use Rattle.json5_lexemes.specs.Plain.{Plain}
use Rattle.json5_lexemes.specs.Plain as plain
use Rattle.json5_tokens.proofs.TextCuts.{no_chars}
use Rattle.json5_lexemes.proofs.PlainFronts.{same_by}
use Rattle.json5_lexemes.proofs.plain.is_plain_with.Goals as goal

pub loop-rest-init : goal.loop-rest-init
loop-rest-init c = (c.utf8.text, (λ p. p, λ p. p))

pub loop-rest-preserved : goal.loop-rest-preserved
loop-rest-preserved c =
    let a = c.loop-rest.invariant.1 in
    let b = c.in-Some.ensures.0 in
    (search rules, (λ p. b.0 (a.0 p), λ p. a.1 (b.1 p)))

pub loop-rest-smaller : goal.loop-rest-smaller
loop-rest-smaller c = c.in-Some.ensures.1

pub returns : goal.returns
returns c = (λ t. c.loop-rest.invariant.1.1 (subst (Plain _ _) (sym (no_chars _ (same_by _ 0 (sym c.loop-rest-test.ensures)))) plain.ends), λ p. refl)
