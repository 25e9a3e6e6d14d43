use Rattle.std.proofs.Common.{◌++◌, true, false, refl, ap, sym, ◌∙◌, subst}
use Rattle.std.specs.Str.{chars}
use Rattle.std.proofs.lemmas.Result.{err_from_is_err_and}
use Rattle.std.proofs.lemmas.Str.{encodes-chars}
use Rattle.json5_grammar.specs.Model.ReadTexts.{put}
use Rattle.json5_tokens.specs.ScanTexts.{text_at, ReadsUpTo}
use Rattle.json5_tokens.proofs.ScanTexts.{refused_past, both_parts, escape_not_escape_free, not_escape_free_past}
use Rattle.json5_tokens.proofs.strings_and_names.read_text.Goals as goal

pub returns-in_err-text-in-Escape : goal.returns-in_err-text-in-Escape
returns-in_err-text-in-Escape c =
    let p = err_from_is_err_and c.from_residual-in_err-text-in-Escape.result c.from_residual-in_err-text-in-Escape.ensures.1 in
    let run = chars c.in_ok-run.run'.now in
    let here = subst (ReadsUpTo (text_at c.args.kind (chars c.args.text.now)) run true) c.in-Escape.is c.in_ok-run.ensures.goes_on in
    rw (p.1, p.2)
    (record {
      refused = refused_past c.in_err-text-in-Escape.field-0.0 _ _ run true here.0 c.in_err-text-in-Escape.ensures;
      memory = λ e u r. not_escape_free_past _ _ run u r true here.0 (λ w y. escape_not_escape_free c.in-Escape.kind _ _ w y here.1);
    })

pub returns-in-End : goal.returns-in-End
returns-in-End c =
    let run = chars c.in_ok-run.run'.now in
    let end = subst (ReadsUpTo (text_at c.args.kind (chars c.args.text.now)) run true) c.in-End.is c.in_ok-run.ensures.goes_on in
    record { spelled = run; escape_free = true; read = end.read; is_text = record { borrowed = refl; bytes = sym (encodes-chars c.in_ok-run.run'.now c.in_ok-run.ensures.text) }; text = end.text }

pub returns-in_ok-text-in-Escape : goal.returns-in_ok-text-in-Escape
returns-in_ok-text-in-Escape c =
    let run = chars c.in_ok-run.run'.now in
    let here = subst (ReadsUpTo (text_at c.args.kind (chars c.args.text.now)) run true) c.in-Escape.is c.in_ok-run.ensures.goes_on in
    let more = c.in_ok-text-in-Escape.ensures in
    record {
      spelled = run ++ more.spelled;
      escape_free = false;
      read = here.0 ∙ ap (put run true) more.read;
      is_text = record { borrowed = refl; bytes = more.whole ∙ both_parts c.in_ok-run.run'.now more.spelled c.in_ok-run.ensures.text };
      text = more.text;
    }
