-- Short ways of escapes.
use Rattle.std.proofs.Common.{◌≡◌, ℕ, ◌+◌, ◌-◌, ◌*◌, ◌<◌, ◌≤◌, Bool, true, false, List, [], ◌∷◌, ◌++◌, length, drop, refl, ap, sym, ◌∙◌, subst, arith, Option, Some, None}
use denote.Ref.{Bor}
use Rattle.std.specs.Prelude.{◌&&◌, slice_index, IfSome, Result, Ok, Err}
use Rattle.std.specs.Char.{IsScalar, digit_value, encode_utf8}
use Rattle.std.specs.Str.{IsUtf8, IsCharBoundary, chars, encode_utf8_all}
use Rattle.std.proofs.lemmas.List.{length-append, append-nil}
use Rattle.std.proofs.lemmas.Str.{encode_ascii, chars_past_char, IsUtf8-past_char, IsCharBoundary-at_seam}
use Rattle.json5_grammar.specs.Language.Strings.{short_escape, is_raw}
use Rattle.json5_grammar.specs.Model.Reading.{got, and_then}
use Rattle.json5_grammar.specs.Model.ReadTexts.{hex, one_char, put}
use Rattle.json5_grammar.proofs.StringsRead.{put_none}
use Rattle.json5_tokens.specs.declared.refusal.Refusal.{Refusal}
use Rattle.json5_tokens.specs.declared.strings_and_names.Kind.{Kind}
use Rattle.json5_tokens.specs.declared.strings_and_names.Kind.TheVariants as kind
use Rattle.json5_tokens.specs.declared.strings_and_names.Quote.{Quote}
use Rattle.json5_tokens.specs.declared.strings_and_names.EscapeStep.{EscapeStep}
use Rattle.json5_tokens.specs.declared.strings_and_names.Stop.{Stop}
use Rattle.json5_tokens.specs.declared.strings_and_names.Stop.TheVariants as stop
use Rattle.json5_tokens.specs.Scan.{SkipsAll, AtEscape, in_list}
use Rattle.json5_tokens.specs.ScanTexts.{quote_of, text_at, left_in, ReadsUpTo, AnswersStop, IsEscapeStep, IsReadTo, IsStepped, PassesSteps}
use Rattle.json5_tokens.specs.ShortEscapes.{SpellsAlone, SpellsUnicode, SpellsEscape}
use Rattle.json5_tokens.proofs.ScanEscapes.{hex_done, hex_more, digit_ascii, unicode_single, escape_step}
use Rattle.json5_tokens.proofs.ScanRuns.{run_each, past_rest, put_put, run_read}
use Rattle.json5_tokens.proofs.ScanFaults.{code_known}
use Rattle.json5_tokens.proofs.ScanTexts.{bytes_past, goes_past, refused_past, item_read}

-- ---- one character after the backslash

-- ---- four hexadecimal digits

-- what four digits in front spell
abbrev pub four_value : List ℕ → ℕ
four_value s = ((digit_value (slice_index s 0) * 16 + digit_value (slice_index s 1)) * 16 + digit_value (slice_index s 2)) * 16 + digit_value (slice_index s 3)

pub record HasDigits (s : List ℕ) : Type 0 where
  pub some : 4 ≤ length s
  pub first : digit_value (slice_index s 0) < 16
  pub second : digit_value (slice_index s 1) < 16
  pub third : digit_value (slice_index s 2) < 16
  pub fourth : digit_value (slice_index s 3) < 16

one_digit : (w n c : ℕ) (b s : List ℕ) → 0 < w → IsUtf8 (c ∷ s) → digit_value c < 16 → (hex w n b (chars (c ∷ s)) ≡ hex (w - 1) (n * 16 + digit_value c) b (chars s)) × IsUtf8 s
one_digit w n c b s l u h =
    let e : c ∷ s ≡ encode_utf8 c ++ s = ap (λ z. z ++ s) (sym (encode_ascii c (digit_ascii c h))) in
    (hex_more w n c b (chars (c ∷ s)) (chars s) l (chars_past_char (c ∷ s) s c u e) h, IsUtf8-past_char (c ∷ s) s c u e)

from_zero : (k l m n : ℕ) → (((0 * 16 + k) * 16 + l) * 16 + m) * 16 + n ≡ ((k * 16 + l) * 16 + m) * 16 + n
from_zero k l m n = omega arith

pub record FourDigits (b s : List ℕ) : Type 0 where
  pub read : hex 4 0 b (chars s) ≡ got (four_value s) (chars (drop 4 s))
  pub text : IsUtf8 (drop 4 s)
  pub cut : IsCharBoundary s 4

pub four_digits : (b s : List ℕ) → IsUtf8 s → HasDigits s → FourDigits b s
four_digits b [] u h = absurd (let l = h.some in omega arith)
four_digits b (c0 ∷ []) u h = absurd (let l = h.some in omega arith)
four_digits b (c0 ∷ c1 ∷ []) u h = absurd (let l = h.some in omega arith)
four_digits b (c0 ∷ c1 ∷ c2 ∷ []) u h = absurd (let l = h.some in omega arith)
four_digits b (c0 ∷ c1 ∷ c2 ∷ c3 ∷ s) u h =
    let k0 = one_digit 4 0 c0 b (c1 ∷ c2 ∷ c3 ∷ s) (omega arith) u h.first in
    let k1 = one_digit 3 (0 * 16 + digit_value c0) c1 b (c2 ∷ c3 ∷ s) (omega arith) k0.1 h.second in
    let k2 = one_digit 2 ((0 * 16 + digit_value c0) * 16 + digit_value c1) c2 b (c3 ∷ s) (omega arith) k1.1 h.third in
    let k3 = one_digit 1 (((0 * 16 + digit_value c0) * 16 + digit_value c1) * 16 + digit_value c2) c3 b s (omega arith) k2.1 h.fourth in
    record {
      read = k0.0 ∙ k1.0 ∙ k2.0 ∙ k3.0 ∙ hex_done 0 _ b (chars s) refl ∙ ap (λ n. got n (chars s)) (from_zero (digit_value c0) (digit_value c1) (digit_value c2) (digit_value c3));
      text = k3.1;
      cut = IsCharBoundary-at_seam (c0 ∷ c1 ∷ c2 ∷ c3 ∷ s) (c0 ∷ c1 ∷ c2 ∷ c3 ∷ []) s refl k3.1;
    }

pub unicode_found : (s rest : List ℕ) (c : ℕ) → IsUtf8 s → HasDigits s → c ≡ four_value s → IsScalar c → rest ≡ drop 4 s → SpellsUnicode s c rest
unicode_found s rest c u h e k d b =
    let f = four_digits b s u h in
    record {
      read = unicode_single c b (chars s) (chars rest) (f.read ∙ ap (λ n. got n (chars (drop 4 s))) (sym e) ∙ ap (λ z. got c (chars z)) (sym d)) k;
      text = subst IsUtf8 (sym d) f.text;
    }

-- ---- the escapes of a string and the runs after them

pub none_read : (k : Kind) (x : List ℕ) → IsUtf8 x → IsReadTo k x [] x
none_read k x u = record { escape_free = true; read = put_none (text_at k (chars x)); stops = λ h. h; fewer = omega arith; text = u }

pub run_read_past : (q : Quote) (body next : List ℕ) (s : SkipsAll (is_raw (quote_of q)) body next) → text_at (kind.String q) (chars body) ≡ put s.passed true (text_at (kind.String q) (chars next))
run_read_past q body next s =
    let k = kind.String q in
    ap (text_at k) s.split ∙ run_read k s.passed (chars next) (run_each k s.passed s.each) ∙ ap (λ j. put s.passed true (text_at j (chars next))) (past_rest k s.passed)

pub record OneMore (k : Kind) (whole u rest next : List ℕ) : Type 0 where
  pub read : IsReadTo k whole u next
  pub shorter : length (chars next) < length (chars rest)

-- one escape more with the run after it
one_more : (q : Quote) (whole u rest body next : List ℕ) (c : ℕ) → SpellsEscape rest c body → (s : SkipsAll (is_raw (quote_of q)) body next) → IsUtf8 next → IsReadTo (kind.String q) whole u rest → OneMore (kind.String q) whole (u ++ (c ∷ s.passed)) rest next
one_more q whole u rest body next c e s v g =
    let k = kind.String q in
    let item = item_read k (chars rest) e.after (c ∷ []) (chars body) e.begins e.read in
    let m = text_at k (chars next) in
    let fewer = item.1 in
    let first = ap length e.begins in
    let passed : length (chars body) ≡ length s.passed + length (chars next) = ap length s.split ∙ length-append s.passed (chars next) in
    let before = g.fewer in
    record {
      read = record {
        escape_free = g.escape_free && false;
        read = g.read ∙ ap (put u g.escape_free) (item.0 ∙ ap (put (c ∷ []) false) (run_read_past q body next s) ∙ put_put (c ∷ []) s.passed false true m) ∙ put_put u (c ∷ s.passed) g.escape_free false m;
        stops = λ h. s.stops;
        fewer = omega arith;
        text = v;
      };
      shorter = omega arith;
    }

pub one_more_in : (k : Kind) (q : Quote) (whole u rest body next : List ℕ) (c : ℕ) → k ≡ kind.String q → SpellsEscape rest c body → (s : SkipsAll (is_raw (quote_of q)) body next) → IsUtf8 next → IsReadTo k whole u rest → OneMore k whole (u ++ (c ∷ s.passed)) rest next
one_more_in k q whole u rest body next c i e s v = subst (λ j. IsReadTo j whole u rest → OneMore j whole (u ++ (c ∷ s.passed)) rest next) (sym i) (one_more q whole u rest body next c e s v)

-- the bytes that it adds
pub one_added : (old now pushed new run u : List ℕ) (c : ℕ) (passed : List ℕ) → now ≡ old ++ encode_utf8_all u → pushed ≡ now ++ encode_utf8 c → new ≡ pushed ++ run → IsUtf8 run → chars run ≡ passed → new ≡ old ++ encode_utf8_all (u ++ (c ∷ passed))
one_added old now pushed new run u c passed e f g v h =
    bytes_past old now pushed new run u (c ∷ []) e (f ∙ ap (λ z. now ++ z) (sym (append-nil (encode_utf8 c)))) g v ∙ ap (λ z. old ++ encode_utf8_all (u ++ (c ∷ z))) h

-- ---- several steps

-- what ends the run after the escapes that were read
pub record AtStop (k : Kind) (escape u : List ℕ) (end : Stop) : Type 0 where
  pub escape_free : Bool
  pub goes_on : ReadsUpTo (text_at k (chars escape)) u escape_free end
  pub left : left_in end ≤ length (chars escape)

pub at_stop : (k : Kind) (escape u rest : List ℕ) (end : Stop) → IsReadTo k escape u rest → AnswersStop k rest (Ok end) → AtStop k escape u end
at_stop k escape u rest end g a = record {
  escape_free = g.escape_free && true;
  goes_on = subst (λ t. ReadsUpTo (text_at k (chars escape)) t (g.escape_free && true) end) (append-nil u) (goes_past _ _ u [] g.escape_free true end g.read a.0);
  left = let m = g.fewer in let n = a.1 in omega arith;
}

-- the escape there is read from it on
pub read_there : (k j : Kind) (escape u : List ℕ) (end : Stop) (x y : Bor (List ℕ)) (a : AtStop k escape u end) → end ≡ stop.Escape j x y → (text_at k (chars escape) ≡ put u a.escape_free (text_at j (chars x.now))) × AtEscape x.now y.now
read_there k j escape u end x y a e = subst (ReadsUpTo (text_at k (chars escape)) u a.escape_free) e a.goes_on

pub stepped_past : (k j : Kind) (escape after u : List ℕ) (end : Stop) (x y : Bor (List ℕ)) (step : EscapeStep) → AtStop k escape u end → end ≡ stop.Escape j x y → AtEscape escape after → IsEscapeStep j x.now y.now step
    → IsStepped k escape after (u ++ (in_list step.spelled ++ chars step.run.now)) step.stop
stepped_past k j escape after u end x y step a e b s =
    let here = read_there k j escape u end x y a e in
    let fewer = a.left in
    let whole = ap left_in e in
    let first = ap length here.1 in
    let begun = ap length b in
    let left = s.left in
    record {
      escape_free = a.escape_free && false;
      goes_on = goes_past _ _ u (in_list step.spelled ++ chars step.run.now) a.escape_free false step.stop here.0 s.goes_on;
      left = omega arith;
    }

-- the escape in front and its run are read, then the escapes up to there, and what ends a run there
pub steps_on : (k j : Kind) (escape after u rest : List ℕ) (x y : Bor (List ℕ)) (step : EscapeStep) (r : Result Stop Refusal) → IsEscapeStep k escape after step → step.stop ≡ stop.Escape j x y → IsReadTo j x.now u rest → AnswersStop j rest r → PassesSteps k escape after r
steps_on k j escape after u rest x y step (Ok end) s e g ends =
    let spelled = in_list step.spelled ++ chars step.run.now in
    let here = subst (ReadsUpTo (text_at k (chars escape)) spelled false) e s.goes_on in
    let a = at_stop j x.now u rest end g ends in
    let fewer = a.left in
    let whole = ap left_in e in
    let left = s.left in (
      spelled ++ u,
      record {
        escape_free = false && a.escape_free;
        goes_on = goes_past _ _ spelled u false a.escape_free end here.0 a.goes_on;
        left = omega arith;
      },
    )
steps_on k j escape after u rest x y step (Err f) s e g ends =
    let spelled = in_list step.spelled ++ chars step.run.now in
    let here = subst (ReadsUpTo (text_at k (chars escape)) spelled false) e s.goes_on in
    record {
      refused = refused_past f (text_at k (chars escape)) (text_at j (chars x.now)) spelled false here.0 (refused_past f (text_at j (chars x.now)) (text_at j (chars rest)) u g.escape_free g.read ends.refused);
      known = code_known f ends.known;
    }

-- ---- what is found in front

sum_of_digits : (p q r s : ℕ) (k l m n : ℕ) → p ≡ k → q ≡ l → r ≡ m → s ≡ n → p * 0x1000 + q * 0x100 + r * 0x10 + s ≡ ((k * 16 + l) * 16 + m) * 16 + n
sum_of_digits p q r s k l m n e f g h = omega arith

pub record KnownDigits (s : List ℕ) (value : ℕ) : Type 0 where
  pub digits : HasDigits s
  pub same : value ≡ four_value s

pub digits_there : (s bytes : List ℕ) (p q r t : ℕ) → bytes ≡ s → 4 ≤ length bytes
    → p ≤ 15 → (p < 16 → p ≡ digit_value (slice_index bytes 0)) → q ≤ 15 → (q < 16 → q ≡ digit_value (slice_index bytes 1))
    → r ≤ 15 → (r < 16 → r ≡ digit_value (slice_index bytes 2)) → t ≤ 15 → (t < 16 → t ≡ digit_value (slice_index bytes 3))
    → KnownDigits s (p * 0x1000 + q * 0x100 + r * 0x10 + t)
digits_there s bytes p q r t e l i0 f0 i1 f1 i2 f2 i3 f3 =
    let g0 : p ≡ digit_value (slice_index s 0) = f0 (omega arith) ∙ ap (λ z. digit_value (slice_index z 0)) e in
    let g1 : q ≡ digit_value (slice_index s 1) = f1 (omega arith) ∙ ap (λ z. digit_value (slice_index z 1)) e in
    let g2 : r ≡ digit_value (slice_index s 2) = f2 (omega arith) ∙ ap (λ z. digit_value (slice_index z 2)) e in
    let g3 : t ≡ digit_value (slice_index s 3) = f3 (omega arith) ∙ ap (λ z. digit_value (slice_index z 3)) e in
    record {
      digits = record {
        some = subst (λ z. 4 ≤ length z) e l;
        first = subst (λ z. z < 16) g0 (omega arith);
        second = subst (λ z. z < 16) g1 (omega arith);
        third = subst (λ z. z < 16) g2 (omega arith);
        fourth = subst (λ z. z < 16) g3 (omega arith);
      };
      same = sum_of_digits p q r t _ _ _ _ g0 g1 g2 g3;
    }

pub alone_there : (whole after rest : List ℕ) (c d : ℕ) → chars whole ≡ 92 ∷ chars after → chars after ≡ c ∷ chars rest → IsUtf8 rest → SpellsAlone c d → SpellsEscape whole d rest
alone_there whole after rest c d e f u k = record { after = chars after; begins = e; read = escape_step (short_escape c) c (chars whole) (chars after) (chars rest) f refl ∙ k (chars whole) (chars rest); text = u }

pub unicode_there : (whole after digits : List ℕ) (o : Option (ℕ × Bor (List ℕ))) → chars whole ≡ 92 ∷ chars after → chars after ≡ 117 ∷ chars digits
    → IfSome o (λ p. SpellsUnicode digits p.0 p.1.now) → IfSome o (λ p. SpellsEscape whole p.0 p.1.now)
unicode_there whole after digits None e f k = tt
unicode_there whole after digits (Some p) e f k =
    let read = k (chars whole) in
    record { after = chars after; begins = e; read = escape_step None 117 (chars whole) (chars after) (chars digits) f refl ∙ ap (λ z. and_then z one_char) read.read; text = read.text }
