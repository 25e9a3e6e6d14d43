use Rattle.std.proofs.Common.{◌∙◌, subst}
use Rattle.json5_grammar.proofs.CommonLemmas.{true_false}
use Rattle.json5_tokens.specs.Cursor.{Refused}
use Rattle.json5_read.specs.Brackets.{brackets_of}
use Rattle.json5_read.specs.EntryFaults.{AfterBlanks, NoNext}
use Rattle.json5_read.proofs.FoundEntries.{next_lacks, ends_other}
use Rattle.json5_de.specs.State.{State, cursor_of}
use Rattle.json5_de.proofs.ReadSteps.{input_of}
use Rattle.json5_de.proofs.TokenKinds.{refused_other}
use Rattle.json5_de.proofs.BracketSteps.{nowhere}
use Rattle.json5_de.proofs.ObjectMembers.{signs_of}
use Rattle.json5_de.proofs.de.Deserializer.advance_to_entry.Goals as goal

pub returns-in-Err : goal.returns-in-Err
returns-in-Err g c =
    let b = brackets_of c.args.kind in
    let refused = subst (λ (s : State). Refused (AfterBlanks (NoNext b c.args.comma_due)) (cursor_of s) c.in-Err.e) c.self.view_is c.in-Err.ensures.refused in
    rw c.refuse.ensures.result (record {
      sound = tt;
      refused = λ live. refused;
      nowhere = λ live. nowhere b (signs_of c.args.kind) c.args.comma_due c.args.self.now.unread refused.fault;
      steady = record {
        same_text = input_of c.refuse.ensures.state ∙ c.in-Err.ensures.same_text ∙ input_of c.self.view_is;
        unprompted = refused_other (next_lacks b (ends_other c.args.kind) c.args.comma_due) c.args.self.now c.in-Err.e (λ live. refused);
        before = λ h. absurd (true_false h c.in_ok-check_not_failed.ensures.live.0);
      };
    })
