use Rattle.std.proofs.Common.{◌∷◌, refl, ap, sym, true≢false}
use Rattle.cli_tidy.specs.CommandWords.{name, flag, plain, alone, joined}
use Rattle.cli_files.specs.NameLists.{names_of}
use Rattle.cli_tidy.specs.WordSteps.{choices_of}
use Rattle.cli_tidy.proofs.WordsRead.{pair_starts, pair_refused, pair_shorter}
use Rattle.cli_tidy.proofs.taking.Words.take.Goals as goal

pub returns-then-not-is_dashed-clause-taken : goal.returns-then-not-is_dashed-clause-taken
returns-then-not-is_dashed-clause-taken c = (
  name c.args.word.now,
  plain c.args.word.now refl (λ d. true≢false (sym (c.if-not-is_dashed.ensures.1 d))) refl,
  ap (λ o. record (choices_of c.args.self.now) { others = o }) c.in_ok-push_name.ensures,
)

pub returns-in-Some-clause-taken : goal.returns-in-Some-clause-taken
returns-in-Some-clause-taken c = (flag c.in-Some.given, alone c.args.word.now c.in-Some.given refl c.in-Some.ensures refl, c.take_flag.ensures)

pub returns-in_ok-set-in-Some-joined-clause-taken : goal.returns-in_ok-set-in-Some-joined-clause-taken
returns-in_ok-set-in-Some-joined-clause-taken c =
    let (p, sets, e) = c.in_ok-set-in-Some-joined.ensures.set in
    (p, joined c.in-Some-joined.setting c.in-Some-joined.value.now (ap (λ w. w ∷ names_of c.args.rest.now) c.in-Some-joined.ensures) sets, e)

pub returns-in-None-clause-taken : goal.returns-in-None-clause-taken
returns-in-None-clause-taken c = pair_starts c.args.word.now c.args.rest.now c.args.self.now c.take_pair.new.self c.take_pair.result c.take_pair.ensures.taken

pub returns-in-None-clause-shorter : goal.returns-in-None-clause-shorter
returns-in-None-clause-shorter c = pair_shorter c.args.word.now c.args.rest.now c.args.self.now c.take_pair.new.self c.take_pair.result c.take_pair.ensures.taken

pub returns-in-None-clause-refused : goal.returns-in-None-clause-refused
returns-in-None-clause-refused c =
    pair_refused c.args.word.now (names_of c.args.rest.now) c.take_pair.result (c.if-not-is_dashed.ensures.0 refl) c.in_default.ensures c.in-None.ensures c.take_pair.ensures.refused
