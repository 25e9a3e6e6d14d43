-- A plain text keeps plain around a place: what was passed is whole tokens, and a plain value comes there.
use Rattle.std.proofs.Common.{◌≡◌, ◌≢◌, ℕ, Bool, true, false, inl, inr, List, [], ◌∷◌, ◌++◌, refl, ap, sym, ◌∙◌, subst, Some, arith}
use Rattle.std.specs.Prelude.{◌==◌}
use Rattle.std.specs.Str.{chars, IsUtf8, all_scalars, encode_utf8_all}
use Rattle.std.proofs.lemmas.Bool.Decides.{nat_tests}
use Rattle.std.proofs.lemmas.List.{append-nil}
use Rattle.std.proofs.lemmas.Str.{chars-encodes, scalars-chars}
use Rattle.json5_grammar.specs.Language.Characters.{comma_sign, NotBegun}
use Rattle.json5_grammar.specs.Language.Trees.{Tree}
use Rattle.json5_grammar.specs.Language.Values.{Val}
use Rattle.json5_lexemes.specs.Plain.{is_closing, Plain, PlainText, KeepsPlain, StaysPlain}
use Rattle.json5_lexemes.specs.SameLexemes.{is_sign, is_word_part}
use Rattle.json5_lexemes.specs.Spans.{Spans, Apart, AfterEntry, at_comma, at_bracket, at_end}
use Rattle.json5_lexemes.specs.Spans as spans
use Rattle.json5_lexemes.specs.LastTokens.{LastToken}
use Rattle.json5_lexemes.specs.LastTokens as last
use Rattle.json5_lexemes.proofs.DocumentLexemes.{blanks_stop, sign_no_part, not_part}
use Rattle.json5_lexemes.proofs.PlainSeams.{seam, front_plain, free_turn, value_begins, after_stops, value_changed}
use Rattle.json5_lexemes.proofs.TokensSpanned.{joined, sign_span, comma_span, blanks_span, value_alone, key_alone, SpansAlone}
use Rattle.json5_walk.specs.declared.place.Place.{Place}
use Rattle.json5_walk.specs.Seams.{WholeTokens, no_token, then_blanks, then_punctuator, then_key, then_value, as_unended, is_punctuator}
use Rattle.json5_edit.specs.Places.{IsValue, IsPart, Leads, EndsEntry, EndsValue, ends_entry}
use Rattle.json5_edit.specs.declared.paths.Step.{Step}
use Rattle.json5_edit.proofs.Placed.{made_chars, scalars_left, scalars_right}

-- ---- whole tokens

-- the text by the kind of its last token, which is no word where a key or a value may follow
pub record Spanned (unended : Bool) (x : List ℕ) : Type 0 where
  pub kind : LastToken
  pub spans : Spans last.sign x kind
  pub no_word : unended ≡ false → kind ≢ last.word

-- where the last token is no word, whatever follows it doesn't go on with it
pub apart : {x : List ℕ} (s : Spanned false x) (r : List ℕ) → Apart s.kind r
apart s r e = absurd (s.no_word refl e)

punctuated : {x : List ℕ} {u : Bool} (c : ℕ) → Spanned u x → is_punctuator c ≡ true → Spanned false (x ++ c ∷ [])
punctuated {x = x} c s h = by_comma (c == comma_sign) refl
  where
    sign : (c : ℕ) → is_punctuator c ≡ true → (c == comma_sign) ≡ false → is_sign c ≡ true
    sign c h n = grind (arith, nat_tests)

    comma : (c : ℕ) → (c == comma_sign) ≡ true → comma_sign ≡ c
    comma c h = grind (arith, nat_tests)

    by_comma : (b : Bool) → (c == comma_sign) ≡ b → Spanned false (x ++ c ∷ [])
    by_comma true e = subst (λ z. Spanned false (x ++ z ∷ [])) (comma c e) (record {
      kind = last.comma;
      spans = joined (comma_sign ∷ []) s.spans (λ w. not_part comma_sign refl) (comma_span s.kind);
      no_word = λ f g. absurd (cc);
    })
    by_comma false e = record {
      kind = last.sign;
      spans = joined (c ∷ []) s.spans (λ w. sign_no_part c (sign c h e)) (sign_span s.kind c (sign c h e));
      no_word = λ f g. absurd (cc);
    }

alone_after : {x s : List ℕ} → Spanned false x → SpansAlone s → Spanned true (x ++ s)
alone_after {s = y} s a = record { kind = a.kind; spans = joined y s.spans (apart s y) (a.spans s.kind); no_word = λ f g. absurd (cc) }

pub spanned : {u : Bool} {x : List ℕ} → WholeTokens u x → Spanned u x
spanned no_token = record { kind = last.sign; spans = spans.nothing; no_word = λ f g. absurd (cc) }
spanned (then_blanks {w = w} h b) =
    let s = spanned h in
    record { kind = s.kind; spans = joined w s.spans (λ e. subst (NotBegun is_word_part) (append-nil w) (blanks_stop [] b tt)) (blanks_span s.kind b); no_word = s.no_word }
spanned (then_punctuator c h p) = punctuated c (spanned h) p
spanned (then_key h k) = alone_after (spanned h) (key_alone k)
spanned (then_value h v) = alone_after (spanned h) (value_alone v)
spanned (as_unended h) = let s = spanned h in record { kind = s.kind; spans = s.spans; no_word = λ f g. absurd (cc) }

-- ---- after a value

pub entry_ends : {x : List ℕ} → EndsEntry x → AfterEntry x
entry_ends {x = x} (c, r, h, i) = subst AfterEntry (sym i.split) (by_comma (c == comma_sign) refl)
  where
    comma : (c : ℕ) → (c == comma_sign) ≡ true → comma_sign ≡ c
    comma c h = grind (arith, nat_tests)

    closing : (c : ℕ) → ends_entry c ≡ true → (c == comma_sign) ≡ false → is_closing c ≡ true
    closing c h n = grind (arith, nat_tests)

    by_comma : (b : Bool) → (c == comma_sign) ≡ b → AfterEntry (i.front ++ c ∷ r)
    by_comma true e = subst (λ z. AfterEntry (i.front ++ z ∷ r)) (comma c e) (at_comma r i.blank)
    by_comma false e = at_bracket c r i.blank (closing c h e)

pub value_ends : {x : List ℕ} → EndsValue x → AfterEntry x
value_ends (inl e) = entry_ends e
value_ends (inr l) = at_end l

-- ---- in a place

-- the value in the place is plain by itself
pub part_plain : {k : Bool} {before old after : List ℕ} {t : Tree} → WholeTokens false before → EndsValue after → Val old t → Plain k last.sign (before ++ (old ++ after)) → Plain k last.sign old
part_plain {old = old} {after = after} h e v p =
    let s = spanned h in
    let a = value_alone v in
    let f = seam (old ++ after) s.spans (apart s (old ++ after)) p in
    front_plain after (a.spans last.sign) (λ w. after_stops (value_ends e)) (free_turn last.sign after (value_begins v) refl f.rest)

-- the text with another plain value there is plain
pub place_plain : {k : Bool} {before old new after : List ℕ} {t u : Tree} → WholeTokens false before → EndsValue after → Val old t → Val new u → Plain k last.sign (before ++ (old ++ after)) → Plain k last.sign new → Plain k last.sign (before ++ (new ++ after))
place_plain {old = old} {new = new} {after = after} h e v w p q =
    let s = spanned h in
    value_changed after s.spans (apart s (old ++ after)) (apart s (new ++ after)) v w (value_ends e) p q

-- a text with another value in the place is plain, if this value and the text were so
pub plain_there : (bytes new made : List ℕ) (path : List Step) (p : Place) → IsUtf8 bytes → IsUtf8 new → Leads bytes path (Some p) → IsValue p.room (chars new) → ((before old after : List ℕ) → IsPart bytes p before old after → made ≡ encode_utf8_all before ++ (new ++ encode_utf8_all after)) → StaysPlain bytes new made
plain_there bytes new made path p u v leads (t, val, d) k comments was came =
    let q = leads.placed in
    let whole = made_chars bytes new made q.before q.old q.after u v q.cut.whole (k q.before q.old q.after q.cut) in
    subst (Plain comments last.sign) (sym whole) (place_plain q.passed q.ends q.value val (subst (Plain comments last.sign) q.cut.whole was) came)

-- the value in the place is as plain as the text
pub part_stays : (bytes old : List ℕ) (path : List Step) (p : Place) → IsUtf8 bytes → Leads bytes path (Some p) → ((before o after : List ℕ) → IsPart bytes p before o after → old ≡ encode_utf8_all o) → KeepsPlain bytes old
part_stays bytes old path p u leads there comments was =
    let q = leads.placed in
    let scalars : all_scalars (q.before ++ (q.old ++ q.after)) ≡ true = ap all_scalars (sym q.cut.whole) ∙ scalars-chars bytes u in
    let old_is : chars old ≡ q.old = ap chars (there q.before q.old q.after q.cut) ∙ chars-encodes q.old (scalars_left q.old q.after (scalars_right q.before (q.old ++ q.after) scalars)) in
    subst (Plain comments last.sign) (sym old_is) (part_plain q.passed q.ends q.value (subst (Plain comments last.sign) q.cut.whole was))

-- where the value that is put there is as plain as the text and another one, so is the text that is made
pub plain_within : (bytes value new text made : List ℕ) (path : List Step) (p : Place) → IsUtf8 bytes → IsUtf8 new → new ≡ text → Leads bytes path (Some p) → IsValue p.room (chars text) → StaysPlain bytes value text → ((before o after : List ℕ) → IsPart bytes p before o after → made ≡ encode_utf8_all before ++ (new ++ encode_utf8_all after)) → StaysPlain bytes value made
plain_within bytes value new text made path p u v is leads fits stays k comments was came =
    plain_there bytes new made path p u v leads (subst (λ x. IsValue p.room (chars x)) (sym is) fits) k comments was (subst (PlainText comments) (sym is) (stays comments was came))
