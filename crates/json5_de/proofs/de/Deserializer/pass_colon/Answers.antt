use Rattle.std.proofs.Common.{ap, ◌∙◌, subst}
use Rattle.json5_grammar.proofs.CommonLemmas.{true_false}
use Rattle.json5_tokens.specs.Cursor.{Refused}
use Rattle.json5_read.specs.EntryFaults.{AfterBlanks, NoColon}
use Rattle.json5_read.proofs.FoundEntries.{colon_lacks}
use Rattle.json5_de.specs.State.{State, cursor_of}
use Rattle.json5_de.proofs.ReadSteps.{input_of}
use Rattle.json5_de.proofs.MemberRefusals.{none_without_colon}
use Rattle.json5_de.proofs.TokenKinds.{refused_other}
use Rattle.json5_de.proofs.de.Deserializer.pass_colon.Goals as goal

pub returns-in-Err : goal.returns-in-Err
returns-in-Err g c =
    let refused = subst (λ (s : State). Refused (AfterBlanks NoColon) (cursor_of s) c.in-Err.e) c.self.view_is c.in-Err.ensures.refused in
    let same = input_of c.refuse.ensures.state ∙ c.in-Err.ensures.same_text ∙ input_of c.self.view_is in
    rw c.refuse.ensures.result (record {
      passed = tt;
      refused = λ live. refused;
      complete = λ t r live value. absurd (none_without_colon c.args.self.now.unread t r refused.fault value);
      failed = record { failed = ap (λ (s : State). s.failed) c.refuse.ensures.state; same_text = same };
      steady = record { same_text = same; unprompted = refused_other colon_lacks c.args.self.now c.in-Err.e (λ live. refused); before = λ h. absurd (true_false h c.in_ok-check_not_failed.ensures.live.0) };
    })
