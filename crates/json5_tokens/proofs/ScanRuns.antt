-- Runs of characters that spell themselves in a string or a name.
use Rattle.std.proofs.Common.{◌≡◌, ℕ, Bool, true, false, List, [], ◌∷◌, ◌++◌, length, refl, ap, sym, ◌∙◌, append_assoc, subst, arith, Some}
use Rattle.std.specs.Prelude.{◌==◌, ◌||◌, ◌&&◌, not}
use Rattle.std.specs.Str.{IsUtf8, chars, encode_utf8_all}
use Rattle.std.proofs.lemmas.Bool.Decides.{nat_tests}
use Rattle.std.proofs.lemmas.Str.{encodes-chars}
use Rattle.json5_grammar.specs.Language.Characters.{NotBegun, Each, char, is_identifier_start, is_identifier_part}
use Rattle.json5_grammar.specs.declared.error_code.ErrorCode.TheVariants.{EofParsingString, ExpectedIdentifier, ExpectedString, LineTerminatorInString}
use Rattle.json5_grammar.specs.Language.Strings.{is_raw, is_quote}
use Rattle.json5_grammar.specs.Model.Reading.{Read, got, bad, here, inner}
use Rattle.json5_grammar.specs.Model.ReadTexts.{put, identifier}
use Rattle.json5_grammar.proofs.StringsRead.{put_none, raw_fails}
use Rattle.json5_grammar.proofs.TextTurns.{string_is, rest_end, rest_quote, rest_line, rest_raw, name_rest, name_end, name_stops, name_raw, start_raw}
use Rattle.json5_tokens.specs.declared.strings_and_names.Kind.{Kind}
use Rattle.json5_tokens.specs.declared.strings_and_names.Kind.TheVariants as kind
use Rattle.json5_tokens.specs.declared.strings_and_names.Quote.{Quote}
use Rattle.json5_tokens.specs.declared.strings_and_names.Quote.TheVariants as quotes
use Rattle.json5_tokens.specs.Scan.{SkipsAll}
use Rattle.json5_tokens.specs.ScanTexts.{quote_of, after_first_char, past, ends_early, text_at, string_at, is_raw_in, Run, SkipsRaw}
use Rattle.json5_tokens.proofs.TextCuts.{no_chars}

-- ---- characters that spell themselves

pub quote_is : (q : Quote) → is_quote (quote_of q) ≡ true
quote_is quotes.Double = refl
quote_is quotes.Single = refl

rest_twice : (k : Kind) → after_first_char (after_first_char k) ≡ after_first_char k
rest_twice kind.Name = refl
rest_twice kind.NameRest = refl
rest_twice (kind.String q) = refl

pub past_rest : (k : Kind) (raw : List ℕ) → past (after_first_char k) raw ≡ after_first_char k
past_rest k [] = refl
past_rest k (c ∷ raw) = rest_twice k

pub rest_is : (x : List ℕ) → text_at kind.NameRest x ≡ name_rest x
unfolding name_rest
rest_is x = refl

both : (a b : Bool) → (not a && b) ≡ true → (a ≡ false) × (b ≡ true)
both true b h = absurd (cc)
both false b h = (refl, h)

one_raw : (k : Kind) (c : ℕ) (x : List ℕ) → is_raw_in k c ≡ true → text_at k (c ∷ x) ≡ put (c ∷ []) true (text_at (after_first_char k) x)
one_raw kind.Name c x h = let f = both (c == 92) (is_identifier_start c) h in start_raw c x f.0 f.1 ∙ ap (put (c ∷ []) true) (sym (rest_is x))
one_raw kind.NameRest c x h = let f = both (c == 92) (is_identifier_part c) h in rest_is (c ∷ x) ∙ name_raw c x f.0 f.1 ∙ ap (put (c ∷ []) true) (sym (rest_is x))
one_raw (kind.String q) c x h =
    let f = raw_fails (quote_of q) c h in
    string_is (quote_of q) (c ∷ x) ∙ rest_raw (quote_of q) c x f.0 f.1 f.2 ∙ ap (put (c ∷ []) true) (sym (string_is (quote_of q) x))

pub put_put : (u v : List ℕ) (p q : Bool) (m : Read (List ℕ × Bool)) → put u p (put v q m) ≡ put (u ++ v) (p && q) m
put_put u v true q (got a r) = ap (λ t. got (t, q && a.1) r) (sym (append_assoc u v a.0))
put_put u v false q (got a r) = ap (λ t. got (t, false) r) (sym (append_assoc u v a.0))
put_put u v p q (bad e z) = refl

each_read : (k : Kind) (raw x : List ℕ) → Each (is_raw_in (after_first_char k)) raw → text_at (after_first_char k) (raw ++ x) ≡ put raw true (text_at (after_first_char k) x)
each_read k [] x e = put_none (text_at (after_first_char k) x)
each_read k (c ∷ raw) x (char h e) =
    one_raw (after_first_char k) c (raw ++ x) h ∙ ap (λ j. put (c ∷ []) true (text_at j (raw ++ x))) (rest_twice k) ∙ ap (put (c ∷ []) true) (each_read k raw x e) ∙ put_put (c ∷ []) raw true true (text_at (after_first_char k) x)

pub run_read : (k : Kind) (raw x : List ℕ) → Run k raw → text_at k (raw ++ x) ≡ put raw true (text_at (past k raw) x)
run_read k [] x e = put_none (text_at k x)
run_read k (c ∷ raw) x e = one_raw k c (raw ++ x) e.0 ∙ ap (put (c ∷ []) true) (each_read k raw x e.1) ∙ put_put (c ∷ []) raw true true (text_at (after_first_char k) x)

pub run_each : (k : Kind) (raw : List ℕ) → Each (is_raw_in (after_first_char k)) raw → Run (after_first_char k) raw
run_each k [] e = tt
run_each k (c ∷ raw) (char h e) = (h, subst (λ j. Each (is_raw_in j) raw) (sym (rest_twice k)) e)

pub all_raw : (k : Kind) (whole rest : List ℕ) → SkipsAll (is_raw_in (after_first_char k)) whole rest → SkipsRaw (after_first_char k) whole rest
all_raw k whole rest s = record {
  passed = s.passed;
  split = s.split;
  each = run_each k s.passed s.each;
  stops = subst (λ j. NotBegun (is_raw_in j) (chars rest)) (sym (past_rest k s.passed)) s.stops;
}

pub past_none : (k : Kind) (run : List ℕ) → length run ≡ 0 → past k (chars run) ≡ k
past_none k run e = rw (no_chars run e) refl

pub past_some : (k : Kind) (run : List ℕ) → IsUtf8 run → (length run ≡ 0 → ⊥) → past k (chars run) ≡ after_first_char k
past_some k run u n = by_chars (chars run) (encodes-chars run u)
  where
    by_chars : (xs : List ℕ) → encode_utf8_all xs ≡ run → past k xs ≡ after_first_char k
    by_chars [] e = absurd (n (ap length (sym e)))
    by_chars (c ∷ xs) e = refl

-- what is passed over is the run, and the rest is read after it
pub run_stops : (k j : Kind) (whole run rest : List ℕ) (s : SkipsRaw k whole rest) → chars run ≡ s.passed → j ≡ past k (chars run) → NotBegun (is_raw_in j) (chars rest)
run_stops k j whole run rest s e f = subst (λ i. NotBegun (is_raw_in i) (chars rest)) (ap (past k) (sym e) ∙ sym f) s.stops

pub run_past : (k j : Kind) (whole run rest : List ℕ) (s : SkipsRaw k whole rest) → chars run ≡ s.passed → j ≡ past k (chars run) → text_at k (chars whole) ≡ put (chars run) true (text_at j (chars rest))
run_past k j whole run rest s e f =
    ap (text_at k) s.split ∙ run_read k s.passed (chars rest) s.each ∙ ap (λ z. put z true (text_at (past k z) (chars rest))) (sym e) ∙ ap (λ i. put (chars run) true (text_at i (chars rest))) (sym f)

-- ---- what ends a run

pub stop_none : (k : Kind) (x : List ℕ) → x ≡ [] → text_at k x ≡ bad (Some (ends_early k)) inner
unfolding identifier
stop_none kind.Name x e = rw e refl
stop_none kind.NameRest x e = rw e (rest_is [] ∙ name_end)
stop_none (kind.String q) x e = rw e (string_is (quote_of q) [] ∙ rest_end (quote_of q))

other : (a b : Bool) → a ≡ false → (not a && b) ≡ false → b ≡ false
other true b i h = absurd (cc)
other false b i h = h

pub no_start : (c : ℕ) (x r : List ℕ) → x ≡ c ∷ r → NotBegun (is_raw_in kind.Name) x → (c ≡ 92 → ⊥) → text_at kind.Name x ≡ bad (Some ExpectedIdentifier) (here x)
unfolding identifier
no_start c x r e s n =
    let t : (c == 92) ≡ false = grind arith in
    let h : is_identifier_start c ≡ false = other (c == 92) (is_identifier_start c) t (subst (NotBegun (is_raw_in kind.Name)) e s) in
    rw e (rw (t, h) refl)

pub no_part : (c : ℕ) (x r : List ℕ) → x ≡ c ∷ r → NotBegun (is_raw_in kind.NameRest) x → (c ≡ 92 → ⊥) → text_at kind.NameRest x ≡ got ([], true) x
no_part c x r e s n =
    let t : (c == 92) ≡ false = grind arith in
    let h : is_identifier_part c ≡ false = other (c == 92) (is_identifier_part c) t (subst (NotBegun (is_raw_in kind.NameRest)) e s) in
    rw e (rest_is (c ∷ r) ∙ name_stops c r t h)

pub at_quote : (q : Quote) (c : ℕ) (x r : List ℕ) → x ≡ c ∷ r → c ≡ quote_of q → text_at (kind.String q) x ≡ got ([], true) r
at_quote q c x r e f = rw e (string_is (quote_of q) (c ∷ r) ∙ rest_quote (quote_of q) c r (grind arith))

not_raw : (q c : ℕ) → is_raw q c ≡ false → (c == q) ≡ false → (c == 92) ≡ false → ((c == 10) || (c == 13)) ≡ true
not_raw q c h i j = grind (arith, nat_tests)

pub at_line_end : (q : Quote) (c : ℕ) (x r : List ℕ) → x ≡ c ∷ r → NotBegun (is_raw_in (kind.String q)) x → (c ≡ quote_of q → ⊥) → (c ≡ 92 → ⊥) → text_at (kind.String q) x ≡ bad (Some LineTerminatorInString) (here x)
at_line_end q c x r e s m n =
    let a : (c == quote_of q) ≡ false = grind arith in
    let b : (c == 92) ≡ false = grind arith in
    let h : is_raw (quote_of q) c ≡ false = subst (NotBegun (is_raw_in (kind.String q))) e s in
    rw e (string_is (quote_of q) (c ∷ r) ∙ rest_line (quote_of q) c r a b (not_raw (quote_of q) c h a b))

-- ---- where a string is expected

pub string_none : (x : List ℕ) → x ≡ [] → string_at x ≡ bad (Some EofParsingString) inner
unfolding string_at
string_none x e = rw e refl

pub string_other : (c : ℕ) (x r : List ℕ) → x ≡ c ∷ r → is_quote c ≡ false → string_at x ≡ bad (Some ExpectedString) (here x)
unfolding string_at
string_other c x r e h = rw e (rw h refl)

pub string_quote : (q : Quote) (c : ℕ) (x r : List ℕ) → x ≡ c ∷ r → c ≡ quote_of q → string_at x ≡ text_at (kind.String q) r
unfolding string_at
string_quote q c x r e h = rw (e, h) (rw (quote_is q) refl)

-- ---- more characters that pass a test

pub more_of : (p : ℕ → Bool) (x y z w : List ℕ) → (raw : List ℕ) × (x ≡ raw ++ y) × Each p raw → y ≡ w ++ z → Each p w → (raw : List ℕ) × (x ≡ raw ++ z) × Each p raw
more_of p x y z w (raw, e, k) f h = (raw ++ w, e ∙ ap (λ t. raw ++ t) f ∙ sym (append_assoc raw w z), both_each raw k)
  where
    both_each : (raw : List ℕ) → Each p raw → Each p (raw ++ w)
    both_each [] k = h
    both_each (d ∷ raw) (char i k) = char i (both_each raw k)
