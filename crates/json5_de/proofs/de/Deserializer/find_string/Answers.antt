use Rattle.std.proofs.Common.{None, inr, refl, sym, subst}
use Rattle.std.proofs.lemmas.Result.{err_from_is_err_and}
use Rattle.json5_grammar.proofs.CommonLemmas.{true_false}
use Rattle.json5_tokens.specs.Cursor.{IsOffset}
use Rattle.json5_tokens.specs.TextTokens.{Spells}
use Rattle.json5_tokens.proofs.UnicodeScalars.{string_scalars}
use Rattle.json5_de.specs.Convert.{every_text}
use Rattle.json5_de.proofs.ExpectedKinds.{wrongly_refused}
use Rattle.json5_de.proofs.ExpectsStrings.{expects_text}
use Rattle.json5_de.proofs.FoundStrings.{escape_free_found}
use Rattle.json5_de.proofs.TokenKinds.{given_up}
use Rattle.json5_de.proofs.ReadSteps.{input_of, refused_blanks, refused_or_memory}
use Rattle.json5_de.proofs.de.Deserializer.find_string.Goals as goal

pub returns-in_err-skip_blank : goal.returns-in_err-skip_blank
returns-in_err-skip_blank g c =
    let (y, is, from) = err_from_is_err_and c.from_residual.result c.from_residual.ensures.1 in
    let e = c.in_err-skip_blank.field-0.0 in
    rw (is, from) (record {
      taken = tt;
      refused = inr (refused_blanks c.args.self.now e c.in_err-skip_blank.ensures.refused);
      complete = λ t r v live reads shallow is allocation_free. absurd (wrongly_refused (expects_text None every_text) c.args.self.now e t r v live reads is (refused_blanks c.args.self.now e c.in_err-skip_blank.ensures.refused));
      failed = c.in_err-skip_blank.ensures.failed;
      before = c.in_err-skip_blank.ensures.before;
    })

pub returns-in_err-token : goal.returns-in_err-token
returns-in_err-token g c =
    let (y, is, from) = err_from_is_err_and c.from_residual-in_err-token.result c.from_residual-in_err-token.ensures.1 in
    let passed = c.in_ok-skip_blank.ensures.passed in
    let e = c.in_err-token.field-0.0 in
    rw (is, from) (record {
      taken = tt;
      refused = refused_or_memory c.args.self.now c.skip_blank.new.self e (λ x reason place f. f) passed c.in_err-token.ensures.refused;
      complete = escape_free_found c.args.self.now c.skip_blank.new.self e passed c.in_err-token.ensures.complete;
      failed = given_up c.args.self.now c.skip_blank.new.self c.string_token.new.self passed c.in_err-token.ensures.failed;
      before = λ h. absurd (true_false h passed.live);
    })

pub returns : goal.returns
returns g c =
    let (s, u, escape_free, took, str, is_text) = c.in_ok-token.ensures.taken in
    record {
      taken = record {
        between = c.skip_blank.new.self;
        spelling = s;
        text = u;
        escape_free = escape_free;
        passed = c.in_ok-skip_blank.ensures.passed;
        took = took;
        is_spelling = str;
        is_text = subst (λ x. Spells x u escape_free c.in_ok-token.token) (sym (input_of took.rest)) is_text;
        counted = c.offset-start.ensures.counted;
        offset = subst (λ x. IsOffset x c.offset-start.result) (sym (input_of took.rest)) c.offset-start.ensures.offset;
        scalars = string_scalars c.skip_blank.new.self.unread c.string_token.new.self.unread took.split c.offset-start.ensures.scalars str;
      };
      refused = tt;
      complete = λ t r v live reads shallow is allocation_free. refl;
      failed = tt;
      before = λ h. absurd (true_false h c.in_ok-skip_blank.ensures.passed.live);
    }
