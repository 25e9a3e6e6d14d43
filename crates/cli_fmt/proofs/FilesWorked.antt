-- The work on one file more.
use Rattle.std.proofs.Common.{◌≡◌, ◌≢◌, ℕ, ◌+◌, ◌<◌, ◌≤◌, max, List, [], ◌∷◌, ◌++◌, length, take, drop, get_or, Option, sym, ap, ◌∙◌, subst, append_assoc, take-append-drop, arith}
use Rattle.std.specs.declared.alloc.Global.{Global}
use Rattle.std.specs.Prelude.{String, string_bytes, Some, IfSome, Result, Ok, Err, OnOk, IfErr}
use Rattle.std.proofs.lemmas.Int.{clamps}
use Rattle.std.proofs.lemmas.List.{take_more, take_all}
use Rattle.json5_write.specs.Pieces.{AppendsFront}
use Rattle.cli_files.specs.declared.failure.Failure.{Failure}
use Rattle.cli_files.specs.declared.failure.Failure.TheVariants as failure
use Rattle.cli_fmt.specs.declared.work.Work.{Work}
use Rattle.std.specs.Io.KnownBytes.{Keeps}
use Rattle.cli_files.specs.Inputs.{ReadFailure}
use Rattle.cli_fmt.specs.Runs.{HoldsDocument, RunFailure, WritesFormatted}
use Rattle.cli_fmt.specs.declared.work.Work.TheVariants as work
use Rattle.cli_files.specs.Stores.{Opening}
use Rattle.cli_fmt.specs.Files.{WorksOn, opened, GoesThrough, good, bad, WorksThrough, through, stopped}
use Rattle.cli_files.specs.Reports.{report_line, status_of}
use Rattle.cli_fmt.proofs.Statuses.{goes_low}

-- ---- the work on a file that was opened

pub checked_file : {A : Type 0} (opens : Opening) (held output : Option (List ℕ)) (result : Result A Failure) → opens (Some held) → Keeps output output
    → OnOk result (IfSome held HoldsDocument) → IfErr result (ReadFailure held) → WorksOn opens work.Check output output result
checked_file opens held output (Ok x) is same read refused = opened held is (read, same)
checked_file opens held output (Err s) is same read refused = opened held is (refused, same)

pub printed_file : {A : Type 0} (opens : Opening) (held old new : Option (List ℕ)) (result : Result A Failure) → opens (Some held)
    → OnOk result (IfSome held (WritesFormatted old new)) → IfErr result (RunFailure held old new) → WorksOn opens work.Print old new result
printed_file opens held old new (Ok x) is read refused = opened held is read
printed_file opens held old new (Err s) is read refused = opened held is refused

-- ---- one file after another

-- the files so far, and this one
one_more : (names : List (String Global)) (i : ℕ) (name : String Global) → i < length names → name ≡ get_or names i name → take (i + 1) names ≡ take i names ++ name ∷ []
one_more names i name h is = take_more names i name h ∙ ap (λ x. take i names ++ x ∷ []) (sym is)

pub more_good : (opens : List ℕ → Opening) (w : Work) (output errors before after said : Option (List ℕ)) (names : List (String Global)) (i status : ℕ) (name : String Global)
    → i < length names → name ≡ get_or names i name → GoesThrough opens w output errors (take i names) before said status
    → WorksOn {A = Unit {0}} (opens (string_bytes name)) w before after (Ok tt) → GoesThrough opens w output errors (take (i + 1) names) after said status
more_good opens w output errors before after said names i status name h is g k =
    subst (λ l. GoesThrough opens w output errors l after said status) (sym (one_more names i name h is)) (good name g k)

pub more_bad : (opens : List ℕ → Opening) (w : Work) (output errors before after said more : Option (List ℕ)) (names : List (String Global)) (i status : ℕ) (name : String Global) (s : Failure)
    → i < length names → name ≡ get_or names i name → GoesThrough opens w output errors (take i names) before said status
    → WorksOn {A = Unit {0}} (opens (string_bytes name)) w before after (Err s) → s ≢ failure.Write → AppendsFront said more (report_line (string_bytes name) s)
    → GoesThrough opens w output errors (take (i + 1) names) after more (max status (status_of s))
more_bad opens w output errors before after said more names i status name s h is g k other a =
    subst (λ l. GoesThrough opens w output errors l after more (max status (status_of s))) (sym (one_more names i name h is)) (bad name s g k other a)

-- ---- the end

greatest : (status : ℕ) → status ≤ 2 → 2 ≡ max status 2
greatest status low = omega (arith, clamps, low)

split_at : (names : List (String Global)) (i : ℕ) (name : String Global) → i < length names → name ≡ get_or names i name → names ≡ take i names ++ name ∷ drop (i + 1) names
split_at names i name h is =
    sym (take-append-drop (i + 1) names) ∙ ap (λ l. l ++ drop (i + 1) names) (one_more names i name h is) ∙ append_assoc (take i names) (name ∷ []) (drop (i + 1) names)

pub stops : (opens : List ℕ → Opening) (w : Work) (output errors before after said more : Option (List ℕ)) (names : List (String Global)) (i status : ℕ) (name : String Global) (s : Failure)
    → i < length names → name ≡ get_or names i name → GoesThrough opens w output errors (take i names) before said status
    → WorksOn {A = Unit {0}} (opens (string_bytes name)) w before after (Err s) → s ≡ failure.Write → AppendsFront said more (report_line (string_bytes name) s)
    → WorksThrough opens w output errors names after more (max status (status_of s))
stops opens w output errors before after said more names i status name s h is g k write a =
    subst (λ n. WorksThrough opens w output errors names after more n) (greatest status (goes_low g) ∙ ap (λ x. max status (status_of x)) (sym write))
    (stopped name (drop (i + 1) names) (split_at names i name h is) g (subst (λ x. WorksOn {A = Unit {0}} (opens (string_bytes name)) w before after (Err x)) write k) (subst (λ x. AppendsFront said more (report_line (string_bytes name) x)) write a))

pub ends : (opens : List ℕ → Opening) (w : Work) (output errors after said : Option (List ℕ)) (names : List (String Global)) (i status : ℕ) → length names ≤ i
    → GoesThrough opens w output errors (take i names) after said status → WorksThrough opens w output errors names after said status
ends opens w output errors after said names i status h g = through (subst (λ l. GoesThrough opens w output errors l after said status) (take_all i names h) g)
