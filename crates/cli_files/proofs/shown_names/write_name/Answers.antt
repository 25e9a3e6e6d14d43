use Rattle.std.proofs.Common.{◌≡◌, ◌++◌, [], ℕ, List, IsUtf8, ap, sym, ◌∙◌, subst, rules}
use Rattle.std.specs.Io.KnownBytes.{Appends}
use Rattle.std.specs.Str.Iter.{chars_rest}
use Rattle.std.proofs.lemmas.Str.{IsUtf8-past_char}
use Rattle.json5_write.specs.Pieces.{Pushes}
use Rattle.cli_files.specs.ShownNames.{shown_char, shown_name}
use Rattle.cli_files.proofs.NamesShown.{all_shown, one_more_shown}
use Rattle.cli_files.proofs.PiecesJoined.{pushed_all, pushed_part}
use Rattle.cli_files.proofs.shown_names.write_name.Goals as goal

pub returns-then-is_err : goal.returns-then-is_err
returns-then-is_err g c =
    let l = c.loop-c in
    let rest = shown_name (chars_rest c.next.new.self) in
    let whole = one_more_shown c.args.name.now (chars_rest l.c-iterator) (chars_rest c.next.new.self) l.invariant.1 c.in-Some.c l.invariant.0 c.in-Some.ensures.steps.0 l.invariant.2 in
    pushed_part _ _ _ l.invariant.1 (shown_char c.in-Some.c) _ rest c.write_whole-written.result (sym c.is_err.ensures.value ∙ c.if-is_err.true) whole l.invariant.3
    (subst (λ (x : List ℕ). Pushes (g.W.Write.contents l.w) (g.W.Write.contents c.write_whole-written.new.writer) x c.write_whole-written.result) (c.as_bytes-in-loop-c.ensures.value ∙ c.text_of.ensures) c.write_whole-written.ensures)

pub loop-c-preserved : goal.loop-c-preserved
loop-c-preserved g c =
    let l = c.loop-c in
    let split = c.in-Some.ensures.steps.0 in (
      IsUtf8-past_char (chars_rest l.c-iterator) (chars_rest c.next.new.self) c.in-Some.c l.invariant.0 split,
      l.invariant.1 ++ shown_char c.in-Some.c,
      one_more_shown c.args.name.now (chars_rest l.c-iterator) (chars_rest c.next.new.self) l.invariant.1 c.in-Some.c l.invariant.0 split l.invariant.2,
      pushed_all _ _ _ l.invariant.1 (shown_char c.in-Some.c) c.write_whole-written.result (sym c.is_err.ensures.value ∙ c.if-is_err.false) l.invariant.3
          (subst (λ (x : List ℕ). Pushes (g.W.Write.contents l.w) (g.W.Write.contents c.write_whole-written.new.writer) x c.write_whole-written.result) (c.as_bytes-in-loop-c.ensures.value ∙ c.text_of.ensures) c.write_whole-written.ensures),
    )

pub returns : goal.returns
returns g c =
    let l = c.loop-c in
    subst (λ x. Appends (g.W.Write.contents c.args.w.now) (g.W.Write.contents l.w) x) (sym (all_shown c.args.name.now (chars_rest l.c-iterator) l.invariant.1 c.in-None.ensures.steps.0.0 l.invariant.2)) l.invariant.3
