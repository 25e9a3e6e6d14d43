use Rattle.std.proofs.Common.{length, Some, ap, sym, ◌∙◌}
use Rattle.std.specs.Str.{chars}
use Rattle.std.proofs.lemmas.Str.{encodes-chars}
use Rattle.json5_tokens.specs.Outcome.{failed, outcome}
use Rattle.json5_tokens.proofs.BlankSteps.{word_ends, word_differs}
use Rattle.json5_tokens.proofs.words.skip_word.Goals as goal

pub returns-in_default-front : goal.returns-in_default-front
returns-in_default-front c = record {
  refused = ap outcome (sym c.loop-letter.invariant.2
      ∙ word_ends c.args.ends c.args.differs c.in-Some.letter (chars c.loop-letter.wanted.now) (chars c.in-Some.letters.now) (chars c.loop-letter.rest.now) c.in-Some.ensures.chars c.in_default-front.ensures);
  known = tt;
}

pub returns-then-c-letter : goal.returns-then-c-letter
returns-then-c-letter c = record {
  refused = ap outcome (sym c.loop-letter.invariant.2
      ∙ word_differs c.args.ends c.args.differs c.in-Some.letter c.in-Some-front.c (chars c.loop-letter.wanted.now) (chars c.in-Some.letters.now) (chars c.loop-letter.rest.now) (chars c.in-Some-front.next.now)
      c.in-Some.ensures.chars c.in-Some-front.ensures.chars c.if-c-letter.true)
      ∙ ap (λ n. failed (Some c.args.differs) (Some n)) (ap length (encodes-chars c.loop-letter.rest.now c.loop-letter.invariant.1));
  known = tt;
}
