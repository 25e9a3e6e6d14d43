-- Statuses are at most 3.
use Rattle.std.proofs.Common.{◌≡◌, ◌≤◌, ℕ, List, refl, arith}
use Rattle.std.specs.declared.alloc.Global.{Global}
use Rattle.std.specs.Prelude.{Option, String}
use Rattle.cli_files.specs.NameLists.{names_of}
use Rattle.cli_files.specs.Stores.{Known}
use Rattle.cli_files.specs.declared.failure.Failure.{Failure}
use Rattle.cli_files.specs.declared.failure.Failure.TheVariants as failure
use Rattle.cli_files.proofs.Statuses.{text_low}
use Rattle.json5_edit.specs.declared.faults.EditError.{EditError}
use Rattle.json5_edit.specs.declared.faults.EditError.TheVariants as error
use Rattle.json5_edit_values.specs.declared.patch.faults.Trouble.{Trouble}
use Rattle.json5_edit_values.specs.declared.patch.faults.Trouble.TheVariants as patch
use Rattle.cli_edit.specs.declared.trouble.TextTrouble.{TextTrouble}
use Rattle.cli_edit.specs.declared.trouble.TextTrouble.TheVariants as trouble
use Rattle.cli_edit.specs.declared.requests.Task.{Task}
use Rattle.cli_edit.specs.declared.requests.EditRequest.TheVariants as requests
use Rattle.cli_edit.specs.Answers.{EditAnswers, helps, tells_version, does, says_usage}
use Rattle.cli_edit.specs.Requests.{AsksNothing}
use Rattle.cli_edit.specs.Troubles.{edit_status, operation_status, read_status, text_trouble_status}
use Rattle.json5_edit.specs.declared.path_texts.parsed.Path.{Path}
use Rattle.cli_edit.specs.Works.{Does, DoesAt, DoesWith, does_with, not_begun, reads, reads_none, worked, stopped, no_steps}

edit_small : (e : EditError) → edit_status e ≤ 3
edit_small (error.Text e) = omega arith
edit_small error.Nowhere = omega arith
edit_small (error.Value e) = omega arith
edit_small error.Taken = omega arith
edit_small error.NotObject = omega arith
edit_small error.NotArray = omega arith
edit_small error.NoKey = omega arith
edit_small error.NoMemory = omega arith
edit_small error.Failed = omega arith

operation_small : (x : Trouble) → operation_status x ≤ 3
operation_small (patch.Edit e) = edit_small e
operation_small patch.Differs = omega arith
operation_small patch.IntoItself = omega arith

trouble_small : (x : TextTrouble) → text_trouble_status x ≤ 3
trouble_small (trouble.Edit e) = edit_small e
trouble_small (trouble.NoPatch f) = omega arith
trouble_small (trouble.Operation x) = operation_small x.trouble
trouble_small (trouble.NoPath e) = omega arith
trouble_small trouble.IntoItself = omega arith
trouble_small (trouble.NoJson e) = omega arith
trouble_small (trouble.Failed f) = omega arith
trouble_small (trouble.Unwritten u) = omega arith

read_small : (f : Failure) → read_status f ≤ 3
read_small failure.NotUtf8 = omega arith
read_small (failure.Text e) = omega arith
read_small failure.NoMemory = omega arith
read_small failure.Read = omega arith
read_small failure.Write = omega arith

wider : {n : ℕ} → n ≤ 2 → n ≤ 3
wider p = omega (arith, p)

at_small : {known : Known} {path : Path} {t : Task} {given text : List ℕ} {output errors written said : Option (List ℕ)} {status : ℕ} → DoesAt known path t given text output errors written said status → status ≤ 3
at_small (worked steps value l m w) = omega arith
at_small (stopped steps value x l m n) = trouble_small x
at_small (no_steps e r k) = edit_small e

with_small : {known : Known} {path : Path} {t : Task} {given : List ℕ} {input output errors written said : Option (List ℕ)} {status : ℕ} → DoesWith known path t given input output errors written said status → status ≤ 3
with_small (reads text h d) = at_small d
with_small (reads_none f h k) = read_small f

does_small : {known : Known} {t : Task} {input output errors written said : Option (List ℕ)} {status : ℕ} → Does known t input output errors written said status → status ≤ 3
does_small (does_with path given l g d) = with_small d
does_small (not_begun k) = omega arith

pub small : {known : Known} {words : List (String Global)} {input output errors written said : Option (List ℕ)} {status : ℕ} → EditAnswers known words input output errors written said status → status ≤ 3
small (helps a s) = wider (text_low s)
small (tells_version a s) = wider (text_low s)
small (does t a d) = does_small d
small (says_usage n) = omega arith

-- words that ask for nothing
pub usage_status : {known : Known} {words : List (String Global)} {input output errors written said : Option (List ℕ)} {status : ℕ} → EditAnswers known words input output errors written said status → AsksNothing (names_of words) → status ≡ 2
usage_status (helps a s) n = absurd (n requests.Help a)
usage_status (tells_version a s) n = absurd (n requests.Version a)
usage_status (does t a d) n = absurd (n (requests.Task t) a)
usage_status (says_usage m) n = refl
