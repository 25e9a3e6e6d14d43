use Rattle.std.proofs.Common.{None, Some, refl, inr}
use Rattle.json5_de.proofs.TokenKinds.{gives_up}
use Rattle.json5_de.proofs.FoundStrings.{judged_character}
use Rattle.json5_de.proofs.de.Deserializer.character_of.Goals as goal

pub returns-in_default : goal.returns-in_default
returns-in_default g c = rw c.refuse.ensures.result (record {
  converts = tt;
  kept = tt;
  other = inr (judged_character c.args.self.now c.args.found.now c.token_text-text.result.now None c.token_text-text.ensures c.in_default.ensures);
  refused = c.mismatch_at-error.ensures;
  failed = gives_up c.args.self.now c.refuse.new.self c.refuse.ensures.state;
})

pub returns : goal.returns
returns g c = record {
  converts = judged_character c.args.self.now c.args.found.now c.token_text-text.result.now (Some c.in-Some.c) c.token_text-text.ensures c.in-Some.ensures;
  kept = refl;
  other = tt;
  refused = tt;
  failed = tt;
}
