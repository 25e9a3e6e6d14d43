-- Positions of what is refused.
use Rattle.std.proofs.Common.{◌≡◌, ℕ, List, ◌++◌, subst, Option}
use Rattle.json5_grammar.specs.declared.error_code.ErrorCode.{ErrorCode}
use Rattle.json5_grammar.specs.Faults.Codes.{after_text}
use Rattle.json5_types.specs.declared.error.Error.{Error}
use Rattle.json5_tokens.specs.Cursor.{Refused}
use Rattle.json5_de.specs.State.{State, cursor_of}
use Rattle.json5_de.specs.ReaderSteps.{TookText}
use Rattle.json5_read.proofs.FoundEntries.{refused_after as after_taken}
use Rattle.json5_de.proofs.ReadSteps.{took_of}

-- another name for the same fault
pub refused_as : {F G : List ℕ → Option ErrorCode → Option (List ℕ) → Type 0} (s t : State) (e : Error) → s ≡ t
    → ((reason : Option ErrorCode) (place : Option (List ℕ)) → F t.unread reason place → G t.unread reason place) → Refused F (cursor_of s) e → Refused G (cursor_of t) e
refused_as {F = F} {G = G} s t e same h f = moved (subst (λ (u : State). Refused F (cursor_of u) e) same f)
  where
    moved : Refused F (cursor_of t) e → Refused G (cursor_of t) e
    moved f = record { reason = f.reason; place = f.place; fault = h f.reason f.place f.fault; says = f.says; placed = f.placed }

-- a fault after what was taken
pub refused_after : {F G : List ℕ → Option ErrorCode → Option (List ℕ) → Type 0} (s next : State) (e : Error) (w : List ℕ) → TookText s w next
    → ((reason : Option ErrorCode) (place : Option (List ℕ)) → F next.unread reason place → G (w ++ next.unread) reason (after_text w place)) → Refused F (cursor_of next) e → Refused G (cursor_of s) e
refused_after s next e w took h f = after_taken (cursor_of s) (cursor_of next) e w (took_of s next w took) h f
