-- The exit status is at most 2, and 2 where the words ask for nothing.
use Rattle.std.proofs.Common.{◌≡◌, ℕ, ◌≤◌, max, Bool, List, Option, refl, arith}
use Rattle.std.specs.declared.alloc.Global.{Global}
use Rattle.std.specs.Prelude.{String}
use Rattle.cli_tidy.specs.declared.options.Options.{Options}
use Rattle.cli_tidy.specs.declared.requests.FileRequest.{FileRequest}
use Rattle.cli_tidy.specs.declared.requests.TidyRequest.{TidyRequest}
use Rattle.cli_tidy.specs.declared.requests.TidyRequest.TheVariants as requests
use Rattle.cli_tidy.specs.declared.trouble.FileTrouble.{FileTrouble}
use Rattle.cli_tidy.specs.declared.trouble.FileTrouble.TheVariants as trouble
use Rattle.cli_tidy.specs.Answers.{AnswersStream, tidies, fails, AnswersRequest, TidyAnswers, answers, says_usage, no_memory}
use Rattle.cli_tidy.specs.CommandWords.{AsksNothing}
use Rattle.cli_tidy.specs.Files as files
use Rattle.cli_tidy.specs.Names as named
use Rattle.cli_files.specs.Stores.{Known}
use Rattle.cli_files.proofs.Statuses.{failure_low, text_low}
use Rattle.cli_tidy.specs.Troubles.{file_trouble_status}

-- ---- it is at most 2

trouble_low : (e : FileTrouble) → file_trouble_status e ≤ 2
trouble_low (trouble.Failed s) = failure_low s
trouble_low (trouble.Refused shown) = omega arith
trouble_low (trouble.Unreported s memory) = failure_low s
trouble_low (trouble.Unopened why) = omega arith
trouble_low (trouble.Unwritten u) = omega arith
trouble_low trouble.NoFile = omega arith

max_low : (a b : ℕ) → a ≤ 2 → b ≤ 2 → max a b ≤ 2
max_low a b p q = omega (arith, p, q)

goes_low : {known : Known} {request : FileRequest} {output errors written said : Option (List ℕ)} {names : List (String Global)} {n : ℕ} → files.GoesThrough known request output errors names written said n → n ≤ 2
goes_low files.none = omega arith
goes_low (files.tidy name g k) = goes_low g
goes_low (files.untidy {status = status} name g k) = max_low status 1 (goes_low g) (omega arith)
goes_low (files.bad {status = status} name e g k other a) = max_low status (file_trouble_status e) (goes_low g) (trouble_low e)

works_low : {known : Known} {request : FileRequest} {output errors written said : Option (List ℕ)} {names : List (String Global)} {n : ℕ} {goes_on : Bool} → files.WorksThrough known request output errors names written said n goes_on → n ≤ 2
works_low (files.through g) = goes_low g
works_low (files.stopped {status = status} name rest split g k a) = max_low status 2 (goes_low g) (omega arith)

below_low : {known : Known} {request : FileRequest} {name : List ℕ} {output errors written said : Option (List ℕ)} {n : ℕ} {goes_on : Bool} → named.WorksBelow known request name output errors written said n goes_on → n ≤ 2
below_low (named.worked files some stands k) = works_low k
below_low (named.no_file stands a) = omega arith
below_low (named.no_memory a) = omega arith

each_low : {known : Known} {request : FileRequest} {output errors written said : Option (List ℕ)} {names : List (String Global)} {n : ℕ} {goes_on : Bool} → named.GoesThroughNames known request output errors names written said n goes_on → n ≤ 2
each_low named.none = omega arith
each_low (named.next {status = status} {met = met} name g k) = max_low status met (each_low g) (below_low k)

names_low : {known : Known} {request : FileRequest} {output errors written said : Option (List ℕ)} {n : ℕ} → named.WorksThroughNames known request output errors written said n → n ≤ 2
names_low (named.through g) = each_low g
names_low (named.stopped names rest split g) = each_low g

stream_low : {options : Options} {input output errors written said : Option (List ℕ)} {n : ℕ} → AnswersStream options input output written errors said n → n ≤ 2
stream_low (tidies k) = omega arith
stream_low (fails e k a) = trouble_low e

request_low : (known : Known) (request : TidyRequest) (input output errors written said : Option (List ℕ)) (n : ℕ) → AnswersRequest known request input output errors written said n → n ≤ 2
request_low known requests.Help input output errors written said n k = text_low k
request_low known requests.Version input output errors written said n k = text_low k
request_low known (requests.Stream options) input output errors written said n k = stream_low k
request_low known (requests.Files f) input output errors written said n k = names_low k

pub answers_low : (known : Known) (list : List (String Global)) (input output errors written said : Option (List ℕ)) (n : ℕ) → TidyAnswers known list input output errors written said n → n ≤ 2
answers_low known list input output errors written said n (answers request asked k) = request_low known request input output errors written said n k
answers_low known list input output errors _ said _ (says_usage nothing a) = omega arith
answers_low known list input output errors _ said _ (no_memory a) = omega arith

-- ---- it is 2

pub answers_two : (known : Known) (list : List (String Global)) (input output errors written said : Option (List ℕ)) (n : ℕ) → AsksNothing list → TidyAnswers known list input output errors written said n → n ≡ 2
answers_two known list input output errors written said n nothing (answers request asked k) = absurd (nothing request asked)
answers_two known list input output errors _ said _ nothing (says_usage other a) = refl
answers_two known list input output errors _ said _ nothing (no_memory a) = refl
