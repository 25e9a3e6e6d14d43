use Rattle.std.proofs.Common.{◌≡◌, [], true, false, refl, sym, subst}
use Rattle.json5_grammar.specs.Language.Characters.{NotBegun}
use Rattle.json5_lexemes.specs.Plain.{JsonWord}
use Rattle.json5_lexemes.specs.PlainSteps.{GoesOnIf, IsEmpty}
use Rattle.json5_lexemes.specs.SameLexemes.{is_word_part}
use Rattle.json5_lexemes.proofs.PlainWords.{number_ends}
use Rattle.json5_lexemes.proofs.plain.pass_literal.Goals as goal

pub returns-in_default : goal.returns-in_default
returns-in_default c = λ text o. subst (GoesOnIf JsonWord IsEmpty text) c.in_default.is o

pub returns-then-begins_word : goal.returns-then-begins_word
returns-then-begins_word c = λ text o r t.
    let k = (subst (GoesOnIf JsonWord IsEmpty text) c.in-Some.is o r).0 t in
    let is : true ≡ false = c.if-begins_word.ensures.1 (number_ends _ r k).0 in cc

pub returns : goal.returns
returns c = λ text o. (
  refl,
  λ r.
      let b = subst (GoesOnIf JsonWord IsEmpty text) c.in-Some.is o r in
      (λ t. (number_ends _ r (b.0 t)).1, λ e. b.1 ([], refl, subst (λ z. NotBegun is_word_part z) (sym e) (c.if-begins_word.ensures.0 refl), sym e)),
)
