use Rattle.std.proofs.Common.{refl, arith, ap, ◌∙◌}
use Rattle.std.specs.Str.{chars}
use Rattle.std.proofs.lemmas.Str.{encodes-chars}
use Rattle.json5_tokens.specs.Outcome.{outcome}
use Rattle.json5_tokens.proofs.BlankSteps.{slash_none, slash_slash, slash_star, slash_other}
use Rattle.json5_tokens.proofs.blanks.skip_comment.Goals as goal

pub returns-in_default : goal.returns-in_default
returns-in_default c = record { refused = ap outcome (slash_none (chars c.args.text.now) c.in_default.ensures); known = tt }

pub returns-then-c-eq47 : goal.returns-then-c-eq47
returns-then-c-eq47 c = record { passed = grind (arith, slash_slash); shorter = omega (arith, c.in-Some.ensures.shorter) }

pub returns-else-c-eq42 : goal.returns-else-c-eq42
returns-else-c-eq42 c =
    record {
      refused = rw (slash_other c.in-Some.c (chars c.args.text.now) (chars c.in-Some.next.now) c.in-Some.ensures.chars c.if-c-eq47.false c.if-c-eq42.false)
          (rw (encodes-chars c.args.text.now c.utf8.text) refl);
      known = tt;
    }

pub returns-in_default-skip_block : goal.returns-in_default-skip_block
returns-in_default-skip_block c =
    record {
      refused = ap outcome (slash_star c.in-Some.c (chars c.args.text.now) (chars c.in-Some.next.now) c.in-Some.ensures.chars c.if-c-eq42.true ∙ c.in_default-skip_block.ensures);
      known = tt;
    }

pub returns-in-Some-skip_block : goal.returns-in-Some-skip_block
returns-in-Some-skip_block c = record { passed = grind (arith, slash_star); shorter = omega (arith, c.in-Some.ensures.shorter, c.in-Some-skip_block.ensures.shorter) }
