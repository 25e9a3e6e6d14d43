use Rattle.cli_fmt.specs.ProgramRuns.{says_usage}
use Rattle.cli_fmt.specs.CommandWords.{IsRequest}
use Rattle.cli_fmt.proofs.WordsAnswered.{without_words, with_files, no_work, no_files}
use Rattle.cli_fmt.proofs.program_runs.answer.Goals as goal
use Rattle.cli_fmt.proofs.program_runs.answer.Goals.{in_default-named-via-in-Some-named+else-not-is_empty, in_default-named-via-in_default-named}

pub returns-in_default : goal.returns-in_default
returns-in_default g c = without_words _ _ _ _ _ _ c.args.list.now c.answer_stream.result c.in_default.ensures.cases c.answer_stream.ensures

pub returns-in-Some-named : goal.returns-in-Some-named
returns-in-Some-named g c =
    with_files _ _ _ _ _ _ c.args.list.now c.in-Some.names.now c.in-Some.word.now c.in-Some-named.work c.as_str.result.now c.work_through.result
    c.in-Some.ensures.cases.0 c.as_str.ensures.value c.in-Some-named.ensures c.if-not-is_empty.ensures c.work_through.ensures

pub returns-in_default-named : goal.returns-in_default-named
returns-in_default-named g c =
    let list = c.args.list.now in
    let names = c.in-Some.names.now in
    let word = c.in-Some.word.now in
    let split = c.in-Some.ensures.cases.0 in
    let unasked : ¬ (IsRequest list) = elim c.in_default-named.branch [
      | in_default-named-via-in-Some-named+else-not-is_empty w ↦ no_files list names word split w.if-not-is_empty.ensures
      | in_default-named-via-in_default-named w ↦ no_work list names word c.as_str.result.now split c.as_str.ensures.value w.in_default-named.ensures
    ] in
    says_usage unasked c.usage.ensures
