-- The statuses that the program ends with are at most 2; files that are named.
use Rattle.std.proofs.Common.{◌≡◌, ◌≢◌, ◌==◌, false, true≢false, sym, ap, ◌∙◌, length, ℕ, ◌≤◌, max, Bool, List, [], Option, Result, Ok, Err, arith}
use Rattle.std.proofs.lemmas.Int.{clamps}
use Rattle.std.specs.declared.alloc.Global.{Global}
use Rattle.std.specs.Prelude.{String}
use Rattle.json5_types.specs.ValueMeanings.{Datum}
use Rattle.cli_files.proofs.Statuses.{text_low}
use Rattle.cli_files.specs.Stores.{Known}
use Rattle.cli_check.specs.declared.options.Options.{Options}
use Rattle.cli_check.specs.declared.options.Asked.{Asked}
use Rattle.cli_check.specs.declared.options.Asked.TheVariants as asked
use Rattle.cli_check.specs.declared.verdict.Verdict.{Verdict}
use Rattle.cli_check.specs.declared.verdict.Verdict.TheVariants as verdict
use Rattle.cli_check.specs.declared.trouble.Trouble.{Trouble}
use Rattle.cli_check.specs.Checks.{ChecksFiles, ChecksThrough, status_of}
use Rattle.cli_check.specs.Checks as filewise
use Rattle.cli_check.specs.Names.{ChecksBelow, ChecksEach, ChecksNames}
use Rattle.cli_check.specs.Names as namewise
use Rattle.cli_check.specs.Answers.{ChecksAll, checks, no_schema, AnswersFiles, unnamed, checked, AnswersAsked, Answers, answers, says_usage, no_memory}

met_low : (r : Result Verdict Trouble) → status_of r ≤ 2
met_low (Ok verdict.Conforms) = omega arith
met_low (Ok verdict.Differs) = omega arith
met_low (Err t) = omega arith

greater_low : (a b : ℕ) → a ≤ 2 → b ≤ 2 → max a b ≤ 2
greater_low a b low small = omega (arith, clamps, low, small)

files_low : {known : Known} {given : Option Datum} {o : Options} {input left : Option (List ℕ)} {files : List (String Global)} {status : ℕ}
    → ChecksFiles known given o input files left status → status ≤ 2
files_low filewise.none = omega arith
files_low (filewise.next name r g k other) = greater_low _ _ (files_low g) (met_low r)

through_low : {known : Known} {given : Option Datum} {o : Options} {input left : Option (List ℕ)} {files : List (String Global)} {status : ℕ} {goes_on : Bool}
    → ChecksThrough known given o input files left status goes_on → status ≤ 2
through_low (filewise.through k) = files_low k
through_low (filewise.stopped name rest split g k) = greater_low _ 2 (files_low g) (omega arith)

below_low : {known : Known} {given : Option Datum} {o : Options} {input left : Option (List ℕ)} {name : List ℕ} {status : ℕ} {goes_on : Bool}
    → ChecksBelow known given o input name left status goes_on → status ≤ 2
below_low (namewise.checked files some stands k) = through_low k
below_low (namewise.no_file stands) = omega arith
below_low namewise.no_memory = omega arith

each_low : {known : Known} {given : Option Datum} {o : Options} {input left : Option (List ℕ)} {all : List (String Global)} {status : ℕ} {goes_on : Bool}
    → ChecksEach known given o input all left status goes_on → status ≤ 2
each_low namewise.none = omega arith
each_low (namewise.next name g k) = greater_low _ _ (each_low g) (below_low k)

names_low : {known : Known} {given : Option Datum} {o : Options} {input : Option (List ℕ)} {status : ℕ} → ChecksNames known given o input status → status ≤ 2
names_low (namewise.through g) = each_low g
names_low (namewise.stopped all rest split g) = each_low g

all_low : {known : Known} {o : Options} {input : Option (List ℕ)} {status : ℕ} → ChecksAll known o input status → status ≤ 2
all_low (checks given is k) = names_low k
all_low (no_schema file t is flaw) = omega arith

named_low : {known : Known} {o : Options} {input output errors written said : Option (List ℕ)} {status : ℕ} → AnswersFiles known o input output errors written said status → status ≤ 2
named_low (unnamed empty a) = omega arith
named_low (checked named k) = all_low k

options_low : (known : Known) (o : Options) (a : Asked) (input output errors written said : Option (List ℕ)) (status : ℕ) → AnswersAsked known o a input output errors written said status → status ≤ 2
options_low known o asked.Help input output errors written said status k = text_low k
options_low known o asked.Version input output errors written said status k = text_low k
options_low known o asked.Files input output errors written said status k = named_low k

pub answers_low : (known : Known) (list : List (String Global)) (input output errors written said : Option (List ℕ)) (n : ℕ) → Answers known list input output errors written said n → n ≤ 2
answers_low known list input output errors written said n (answers o asks k) = options_low known o o.asked input output errors written said n k
answers_low known list input output errors _ said _ (says_usage asks k) = omega arith
answers_low known list input output errors _ said _ (no_memory k) = omega arith

-- there is one, by the count
pub some_name : (names : List (String Global)) (n : ℕ) → n ≡ length names → (n == 0) ≡ false → names ≢ []
some_name names n e f is = true≢false (sym (ap (λ m. m == 0) (e ∙ ap length is)) ∙ f)
