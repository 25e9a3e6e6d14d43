-- An owned copy of a string is made of its first run and of what is spelled behind it.
use Rattle.std.proofs.Common.{◌≡◌, ℕ, Bool, true, false, List, ◌∷◌, ◌++◌, refl, ap, sym, ◌∙◌, subst, drop, ◌&&◌, []}
use Rattle.std.specs.Prelude.{String, string_bytes, Option, None, Some, IfSome}
use denote.Ref.{Bor}
use Rattle.std.specs.Str.{IsUtf8, chars, encode_utf8_all}
use Rattle.std.proofs.lemmas.List.{append-nil}
use Rattle.std.proofs.lemmas.Str.{IsUtf8-drop}
use Rattle.json5_grammar.specs.Language.Strings.{is_raw}
use Rattle.json5_grammar.specs.Model.Reading.{got}
use Rattle.json5_grammar.specs.Model.ReadTexts.{put}
use Rattle.json5_tokens.specs.declared.strings_and_names.Kind.TheVariants as kind
use Rattle.json5_tokens.specs.declared.strings_and_names.Quote.{Quote}
use Rattle.json5_tokens.specs.Scan.{SkipsAll}
use Rattle.json5_tokens.specs.ScanTexts.{quote_of, string_at, text_at, AddsUpTo}
use Rattle.json5_tokens.specs.ShortWays.{IsInFront}
use Rattle.json5_tokens.specs.TokenResults.{GivesMore, GivesText, IsOwned, IsOwnedBehind}
use Rattle.json5_tokens.proofs.ScanRuns.{string_quote, at_quote}
use Rattle.json5_tokens.proofs.ScanTexts.{both_parts, bytes_more}
use Rattle.json5_tokens.proofs.ShortEscapes.{run_read_past}

-- what follows a quote
pub after_quote : (q : Quote) (text body : List ℕ) → IsUtf8 text → IsInFront (quote_of q) text true → body ≡ drop 1 text → IsUtf8 body
after_quote q text body u f e = subst IsUtf8 (sym e) (IsUtf8-drop text 1 u f.0)

quote_front : (q : Quote) (text body : List ℕ) → IsInFront (quote_of q) text true → body ≡ drop 1 text → chars text ≡ quote_of q ∷ chars body
quote_front q text body f e = f.1 ∙ ap (λ z. quote_of q ∷ chars z) (sym e)

-- what is spelled from the escape in front on up to where the rest begins is added to the run
module _ (q : Quote) (escape run rest now : List ℕ) (adds : AddsUpTo (kind.String q) escape run now rest) where
  reads_on : (more : List ℕ) (escape_free : Bool) (left : List ℕ) → text_at (kind.String q) (chars rest) ≡ got (more, escape_free) left
      → text_at (kind.String q) (chars escape) ≡ got (adds.0 ++ more, adds.1.escape_free && escape_free) left
  reads_on more escape_free left reads = adds.1.read ∙ ap (put adds.0 adds.1.escape_free) reads

  -- the quote at the end is there
  pub spelled_to_quote : {A : Type 0} (last : List ℕ) (t : String A) → string_bytes t ≡ now → IsInFront (quote_of q) rest true → last ≡ drop 1 rest → GivesText (IsOwnedBehind run) (text_at (kind.String q) (chars escape)) t last
  spelled_to_quote last t same f d = record {
    spelled = adds.0 ++ [];
    escape_free = adds.1.escape_free && true;
    read = reads_on [] true (chars last) (at_quote q (quote_of q) (chars rest) (chars last) (quote_front q rest last f d) refl);
    is_text = bytes_more run now (string_bytes t) adds.0 [] adds.2 (same ∙ sym (append-nil now));
    text = after_quote q rest last adds.1.text f d;
  }

  -- the string goes on with another escape
  pub spelled_past : {A : Type 0} (last : List ℕ) (t : String A) → GivesMore now (text_at (kind.String q) (chars rest)) (string_bytes t) last → GivesText (IsOwnedBehind run) (text_at (kind.String q) (chars escape)) t last
  spelled_past last t more = record {
    spelled = adds.0 ++ more.spelled;
    escape_free = adds.1.escape_free && false;
    read = reads_on more.spelled false (chars last) more.read;
    is_text = bytes_more run now (string_bytes t) adds.0 more.spelled adds.2 more.whole;
    text = more.text;
  }

-- the run behind the first quote, and what is spelled behind the run
module _ (q : Quote) (text body rest run : List ℕ) (f : IsInFront (quote_of q) text true) (e : body ≡ drop 1 text) (s : SkipsAll (is_raw (quote_of q)) body rest) (r : chars run ≡ s.passed) (u : IsUtf8 run) where
  owned_behind : {A : Type 0} (last : List ℕ) (t : String A) → GivesText (IsOwnedBehind run) (text_at (kind.String q) (chars rest)) t last → GivesText IsOwned (string_at (chars text)) t last
  owned_behind last t more = record {
    spelled = s.passed ++ more.spelled;
    escape_free = true && more.escape_free;
    read = string_quote q (quote_of q) (chars text) (chars body) (quote_front q text body f e) refl ∙ run_read_past q body rest s ∙ ap (put s.passed true) more.read;
    is_text = more.is_text ∙ both_parts run more.spelled u ∙ ap encode_utf8_all (ap (λ z. z ++ more.spelled) r);
    text = more.text;
  }

  pub found_behind : {A : Type 0} (o : Option (String A × Bor (List ℕ))) → IfSome o (λ p. GivesText (IsOwnedBehind run) (text_at (kind.String q) (chars rest)) p.0 p.1.now) → IfSome o (λ p. GivesText IsOwned (string_at (chars text)) p.0 p.1.now)
  found_behind None k = tt
  found_behind (Some p) k = owned_behind p.1.now p.0 k

  -- the quote at the end is there
  pub owned_run : {A : Type 0} (last : List ℕ) (t : String A) → string_bytes t ≡ run → IsUtf8 rest → IsInFront (quote_of q) rest true → last ≡ drop 1 rest → GivesText IsOwned (string_at (chars text)) t last
  owned_run last t same v g d = owned_behind last t (record {
    spelled = [];
    escape_free = true;
    read = at_quote q (quote_of q) (chars rest) (chars last) (quote_front q rest last g d) refl;
    is_text = same ∙ sym (append-nil run);
    text = after_quote q rest last v g d;
  })
