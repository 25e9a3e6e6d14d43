use Rattle.std.proofs.Common.{inr, sym, subst}
use Rattle.std.proofs.lemmas.Result.{err_from_is_err_and}
use Rattle.json5_grammar.proofs.CommonLemmas.{true_false}
use Rattle.json5_tokens.specs.Cursor.{IsOffset}
use Rattle.json5_tokens.specs.TextTokens.{Spells}
use Rattle.json5_de.proofs.ReadSteps.{input_of, refused_blanks, refused_or_memory}
use Rattle.json5_tokens.proofs.UnicodeScalars.{key_scalars}
use Rattle.json5_de.proofs.FoundKeys.{key_after, no_fault_before}
use Rattle.json5_de.proofs.TokenKinds.{given_up}
use Rattle.json5_de.proofs.de.Deserializer.find_key.Goals as goal

pub returns-in_err-skip_blank : goal.returns-in_err-skip_blank
returns-in_err-skip_blank g c =
    let (y, is, from) = err_from_is_err_and c.from_residual.result c.from_residual.ensures.1 in
    let e = c.in_err-skip_blank.field-0.0 in
    rw (is, from) (record {
      taken = tt;
      refused = inr (refused_blanks c.args.self.now e c.in_err-skip_blank.ensures.refused);
      complete = λ u escape_free r live reads. absurd (no_fault_before c.args.self.now e u escape_free r reads (c.in_err-skip_blank.ensures.refused live));
      failed = c.in_err-skip_blank.ensures.failed;
      before = c.in_err-skip_blank.ensures.before;
    })

pub returns-in_err-token : goal.returns-in_err-token
returns-in_err-token g c =
    let (y, is, from) = err_from_is_err_and c.from_residual-in_err-token.result c.from_residual-in_err-token.ensures.1 in
    let passed = c.in_ok-skip_blank.ensures.passed in
    rw (is, from) (record {
      taken = tt;
      refused = refused_or_memory c.args.self.now c.skip_blank.new.self c.in_err-token.field-0.0 (λ x reason place f. f) passed c.in_err-token.ensures.refused;
      complete = λ u escape_free r live reads. let (lacks, escaped) = c.in_err-token.ensures.complete reads.spelling u r escape_free (key_after c.args.self.now c.skip_blank.new.self u escape_free r passed reads) reads.key in (lacks.kind, escaped);
      failed = given_up c.args.self.now c.skip_blank.new.self c.key.new.self passed c.in_err-token.ensures.failed;
      before = λ h. absurd (true_false h passed.live);
    })

pub returns : goal.returns
returns g c =
    let (s, u, escape_free, took, is_key, is_text) = c.in_ok-token.ensures.taken in
    record {
      taken = record {
        between = c.skip_blank.new.self;
        spelling = s;
        text = u;
        escape_free = escape_free;
        passed = c.in_ok-skip_blank.ensures.passed;
        took = took;
        is_spelling = is_key;
        is_text = subst (λ x. Spells x u escape_free c.in_ok-token.token) (sym (input_of took.rest)) is_text;
        counted = c.offset-start.ensures.counted;
        offset = subst (λ x. IsOffset x c.offset-start.result) (sym (input_of took.rest)) c.offset-start.ensures.offset;
        scalars = key_scalars c.skip_blank.new.self.unread c.key.new.self.unread took.split c.offset-start.ensures.scalars is_key;
      };
      refused = tt;
      complete = λ u escape_free r live reads. tt;
      failed = tt;
      before = λ h. absurd (true_false h c.in_ok-skip_blank.ensures.passed.live);
    }
