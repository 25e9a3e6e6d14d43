-- Strings and keys without an escape, in the words of the short ways.
use Rattle.std.proofs.Common.{◌≡◌, ℕ, zero, suc, ◌+◌, ◌-◌, ◌<◌, ◌≤◌, Bool, true, false, List, [], ◌∷◌, ◌++◌, length, take, drop, refl, ap, sym, ◌∙◌, subst, arith, append_assoc, Option, Some, None}
use Rattle.std.specs.Prelude.{◌==◌, IfSome, slice_index}
use Rattle.std.specs.Str.{IsUtf8, chars}
use Rattle.std.proofs.lemmas.Bool.Decides.{nat_tests}
use Rattle.std.proofs.lemmas.List.{length-drop}
use Rattle.std.proofs.lemmas.Str.{IsUtf8-drop, chars_past_char, encode_ascii}
use Rattle.json5_grammar.specs.Language.Blanks.{Blanks, Gap, Solid, is_solid}
use Rattle.json5_grammar.specs.Language.Characters.{NotBegun, Each, no_char, char, is_in, is_identifier_part}
use Rattle.json5_grammar.specs.Language.Names.{Ident, name, NameParts, no_part, part, raw_name, Key, string_key, name_key, goes_on_name}
use Rattle.json5_grammar.specs.Model.ReadBlanks.{skip, between}
use Rattle.json5_grammar.specs.Model.Reading.{got}
use Rattle.json5_grammar.specs.Model.ReadNumbers.{front_of, rest_of}
use Rattle.json5_grammar.specs.Language.Strings.{Str, quoted, Items, no_item, raw, is_raw, is_quote}
use Rattle.json5_grammar.specs.Language.Trees as trees
use Rattle.json5_grammar.specs.Language.Values.{Reads, is_text}
use Rattle.json5_grammar.proofs.BlanksRead.{skip_rest, begins_solid, printable_solid}
use Rattle.json5_grammar.proofs.BlanksSound.{gap_blanks}
use Rattle.json5_grammar.proofs.CharacterTests.{front_each, rest_stops}
use Rattle.json5_grammar.proofs.ValuesSound.{text_stops}
use Rattle.json5_tokens.specs.ByteRuns.{is_ascii_start, is_ascii_part, is_plain_ascii, IsAsciiName}
use Rattle.json5_tokens.specs.Cursor.{Cursor}
use Rattle.json5_tokens.specs.TextTokens.{IsSliceAt}
use Rattle.json5_tokens.specs.Outcome.{bytes_in}
use Rattle.json5_tokens.specs.Scan.{InText, Leaves, LeavesAt, SkipsAll}
use Rattle.json5_tokens.specs.ScanTexts.{quote_of, string_at}
use Rattle.json5_tokens.specs.ShortWays.{IsInFront}
use Rattle.json5_tokens.specs.ShortTexts.{ReadsEscapeFreeString, ReadsEscapeFreeKey, IsEscapeFreeString, IsEscapeFreeKey, TookEscapeFree, IsSliceBefore, FindsEscapeFree, HasSolid, FindsFirst}
use Rattle.json5_tokens.specs.declared.short_texts.TextBounds.{TextBounds}
use Rattle.json5_tokens.specs.declared.strings_and_names.Quote.{Quote}
use Rattle.json5_tokens.specs.declared.strings_and_names.Quote.TheVariants as quotes
use Rattle.json5_tokens.proofs.AsciiNames.{ascii_start, ascii_part, parts_ascii, parts_counted}
use Rattle.json5_types.proofs.AsciiRuns.{chars_split, rest_cut, rest_utf8}
use Rattle.json5_tokens.proofs.TextCuts.{fits_left, whole_split, bytes_append}
use Rattle.json5_tokens.proofs.ScanRuns.{quote_is}
use Rattle.json5_tokens.proofs.ScanTokens.{left_counted, blanks_passed, string_taken}

-- ---- strings

items_raw : (q : ℕ) (s : List ℕ) → Each (is_raw q) s → Items q (q ∷ []) s s true
items_raw q [] no_char = no_item
items_raw q (c ∷ s) (char h e) = raw h (items_raw q s e)

quote_solid : (q : Quote) → is_solid (quote_of q) ≡ true
quote_solid quotes.Double = printable_solid 34 refl refl
quote_solid quotes.Single = printable_solid 39 refl refl

pub quoted_found : (q : Quote) (body rest : List ℕ) → IsUtf8 body → IsUtf8 rest → SkipsAll (is_raw (quote_of q)) body rest → IsInFront (quote_of q) rest true
    → FindsEscapeFree IsEscapeFreeString (quote_of q ∷ chars body) (record { from = length body; to = length rest; left = length rest - 1 })
quoted_found q body rest u v s f =
    let e : chars body ≡ s.passed ++ (quote_of q ∷ chars (drop 1 rest)) = s.split ∙ ap (λ z. s.passed ++ z) f.1 in
    record {
      token = quote_of q ∷ s.passed ++ quote_of q ∷ [];
      spelled = s.passed;
      rest = chars (drop 1 rest);
      split = ap (λ z. quote_of q ∷ z) (e ∙ sym (append_assoc s.passed (quote_of q ∷ []) (chars (drop 1 rest))));
      is_token = quoted (quote_is q) (items_raw (quote_of q) s.passed s.each);
      place = record {
        before = quote_of q ∷ [];
        rest = quote_of q ∷ chars (drop 1 rest);
        split = ap (λ z. quote_of q ∷ z) e;
        begins = left_counted body u ∙ ap bytes_in e;
        ends = left_counted rest v ∙ ap bytes_in f.1;
      };
      counted = sym (length-drop 1 rest) ∙ left_counted (drop 1 rest) (IsUtf8-drop rest 1 v f.0);
    }

-- the string after its quote
quote_first : (q : Quote) (text body : List ℕ) → IsInFront (quote_of q) text true → body ≡ drop 1 text → chars text ≡ quote_of q ∷ chars body
quote_first q text body f e = f.1 ∙ ap (λ z. quote_of q ∷ chars z) (sym e)

pub string_first : (q : Quote) (text body : List ℕ) (o : Option TextBounds) → IsInFront (quote_of q) text true → body ≡ drop 1 text
    → IfSome o (FindsEscapeFree IsEscapeFreeString (quote_of q ∷ chars body)) → IfSome o (FindsFirst IsEscapeFreeString (chars text))
string_first q text body None f e k = tt
string_first q text body (Some found) f e k =
    let same = quote_first q text body f e in
    (subst (λ z. FindsEscapeFree IsEscapeFreeString z found) (sym same) k, (quote_of q, chars body, same, quote_solid q))

as_key : (x : List ℕ) (found : TextBounds) → FindsFirst IsEscapeFreeString x found → FindsFirst IsEscapeFreeKey x found
as_key x found (k, solid) = (record { token = k.token; spelled = k.spelled; rest = k.rest; split = k.split; is_token = string_key k.is_token; place = k.place; counted = k.counted }, solid)

pub key_first : (x : List ℕ) (o : Option TextBounds) → IfSome o (FindsFirst IsEscapeFreeString x) → IfSome o (FindsFirst IsEscapeFreeKey x)
key_first x None k = tt
key_first x (Some found) k = as_key x found k

-- ---- names of ASCII characters

no_backslash : (c : ℕ) → is_ascii_part c ≡ true → c ≡ 92 → ⊥
no_backslash c h e = grind (arith, nat_tests)

parts_escape_free : (s : List ℕ) → Each is_ascii_part s → NameParts s s true
parts_escape_free [] no_char = no_part
parts_escape_free (c ∷ s) (char h e) = part (raw_name (no_backslash c h)) (ascii_part c (parts_ascii c h) ∙ h) (parts_escape_free s e)

start_is_part : (c : ℕ) → is_ascii_start c ≡ true → is_ascii_part c ≡ true
start_is_part c h = rw h refl

name_escape_free : (c : ℕ) (s : List ℕ) → is_ascii_start c ≡ true → Each is_ascii_part s → Ident (c ∷ s) (c ∷ s) true
name_escape_free c s h e =
    let p = start_is_part c h in
    name (raw_name (no_backslash c p)) (ascii_start c (parts_ascii c p) ∙ h) (parts_escape_free s e)

front_begins : (p : ℕ → Bool) (c : ℕ) (s : List ℕ) → p c ≡ true → front_of p (c ∷ s) ≡ c ∷ front_of p s
unfolding front_of
front_begins p c s h = rw h refl

start_solid : (c : ℕ) → is_ascii_start c ≡ true → is_solid c ≡ true
start_solid c h =
    let printable : is_in 33 126 c ≡ true = grind (arith, nat_tests) in
    let other : (c == 47) ≡ false = grind (arith, nat_tests) in
    printable_solid c printable other

stops_name : (c : ℕ) → is_plain_ascii c ≡ true → is_ascii_part c ≡ false → goes_on_name c ≡ false
stops_name c h n =
    let low : c < 128 = grind (arith, nat_tests) in
    let other : (c == 92) ≡ false = grind (arith, nat_tests) in
    let no : is_identifier_part c ≡ false = ascii_part c low ∙ n in
    rw (no, other) refl

ends_low : (c : ℕ) → is_plain_ascii c ≡ true → c < 128
ends_low c h = grind (arith, nat_tests)

-- what follows the name
record After (rest : List ℕ) : Type 0 where
  first : ℕ
  more : List ℕ
  split : chars rest ≡ first ∷ more
  ends : goes_on_name first ≡ false

after_name : (rest : List ℕ) (c : ℕ) → IsUtf8 rest → 0 < length rest → slice_index rest 0 ≡ c → is_plain_ascii c ≡ true → NotBegun is_ascii_part rest → After rest
after_name [] c u l e h n = absurd (omega arith)
after_name (d ∷ rest) c u l e h n =
    let escape_free : is_plain_ascii d ≡ true = ap is_plain_ascii e ∙ h in
    record { first = d; more = chars rest; split = chars_past_char (d ∷ rest) rest d u (ap (λ z. z ++ rest) (sym (encode_ascii d (ends_low d escape_free)))); ends = stops_name d escape_free n }

index_after : (s : List ℕ) (n : ℕ) → slice_index (drop n s) 0 ≡ slice_index s n
index_after [] zero = refl
index_after [] (suc n) = refl
index_after (x ∷ s) zero = refl
index_after (x ∷ s) (suc n) = index_after s n

name_token : (s r : List ℕ) (c : ℕ) → is_ascii_start c ≡ true → Each is_ascii_part (front_of is_ascii_part (c ∷ s)) → After r → Key (front_of is_ascii_part (c ∷ s)) (chars r) (front_of is_ascii_part (c ∷ s)) true
name_token s r c h e a =
    let same = front_begins is_ascii_part c s (start_is_part c h) in
    let i : Ident (front_of is_ascii_part (c ∷ s)) (front_of is_ascii_part (c ∷ s)) true = subst (λ z. Ident z z true) (sym same) (name_escape_free c (front_of is_ascii_part s) h (front_each is_ascii_part s)) in
    subst (λ z. Key (front_of is_ascii_part (c ∷ s)) z (front_of is_ascii_part (c ∷ s)) true) (sym a.split) (name_key i a.ends)

pub name_found : (text : List ℕ) (len : ℕ) → IsUtf8 text → IsAsciiName text len → FindsFirst IsEscapeFreeKey (chars text) (record { from = length text; to = length text - len; left = length text - len })
name_found [] len u k = absurd (let l = k.some in omega arith)
name_found (c ∷ s) len u k =
    let text = c ∷ s in
    let p = is_ascii_part in
    let cut : drop len text ≡ rest_of p text = rest_cut p text len (parts_counted text len k.counted) in
    let v : IsUtf8 (rest_of p text) = rest_utf8 p text parts_ascii u in
    let split : chars text ≡ front_of p text ++ chars (rest_of p text) = chars_split p text parts_ascii in
    let left : length text - len ≡ bytes_in (chars (rest_of p text)) = sym (length-drop len text) ∙ ap length cut ∙ left_counted (rest_of p text) v in
    let some : 0 < length (rest_of p text) = (let a = ap length cut in let b = length-drop len text in let d = k.inside in omega arith) in
    let first : slice_index (rest_of p text) 0 ≡ slice_index text len = ap (λ z. slice_index z 0) (sym cut) ∙ index_after text len in
    let a = after_name (rest_of p text) (slice_index text len) v some first k.stops (rest_stops p text) in (
      record {
        token = front_of p text;
        spelled = front_of p text;
        rest = chars (rest_of p text);
        split = split;
        is_token = name_token s (rest_of p text) c k.first (front_each p text) a;
        place = record { before = []; rest = chars (rest_of p text); split = split; begins = left_counted text u ∙ ap bytes_in split; ends = left };
        counted = left;
      },
      (c, chars s, chars_past_char text s c u (ap (λ z. z ++ s) (sym (encode_ascii c (parts_ascii c (start_is_part c k.first))))), start_solid c k.first),
    )

-- ---- blanks before it

pub record BlanksBefore (x y : List ℕ) : Type 0 where
  pub front : List ℕ
  pub split : x ≡ front ++ y
  pub blank : Blanks front

solid_read : (x : List ℕ) → HasSolid x → skip between x ≡ got tt x
solid_read x (c, r, e, h) = skip_rest x (subst Solid (sym e) (begins_solid c r h))

blanks_before : (x y : List ℕ) → skip between x ≡ skip between y → HasSolid y → BlanksBefore x y
blanks_before x y e (c, r, f, h) =
    let k = blanks_passed x x y refl (e ∙ solid_read y (c, r, f, h)) in
    record { front = k.gap; split = k.split; blank = gap_blanks c r (subst (Gap k.gap) f k.blank) }

-- a token with blanks before it is read
abbrev pub ReadsToken : (List ℕ → List ℕ → List ℕ → Type 0) → (List ℕ → List ℕ → List ℕ → Type 0) → Type 0
ReadsToken IsToken IsRead = (x w s u r : List ℕ) → x ≡ w ++ (s ++ r) → Blanks w → IsToken s u r → IsRead x u r

pub string_read : ReadsToken IsEscapeFreeString ReadsEscapeFreeString
string_read x w s u r e b k = record { front = w; phrase = s; split = e; blank = b; value = is_text k; stops = text_stops r k }

pub key_read : ReadsToken IsEscapeFreeKey ReadsEscapeFreeKey
key_read x w s u r e b k = record { front = w; spelling = s; split = e; blank = b; key = k }

-- blanks and a token are in front of x
pub record Found (IsRead : List ℕ → List ℕ → List ℕ → Type 0) (x : List ℕ) (found : TextBounds) : Type 0 where
  pub spelled : List ℕ
  pub taken : List ℕ
  pub rest : List ℕ
  pub split : x ≡ taken ++ rest
  pub read : IsRead x spelled rest
  pub place : IsSliceBefore x spelled found.from found.to
  pub counted : found.left ≡ bytes_in rest

pub spaced : {IsToken IsRead : List ℕ → List ℕ → List ℕ → Type 0} {found : TextBounds} (text x y : List ℕ) → ReadsToken IsToken IsRead → text ≡ x → skip between text ≡ skip between y → FindsFirst IsToken y found → Found IsRead x found
spaced text x y reads f e (k, solid) =
    let b = blanks_before x y (ap (skip between) (sym f) ∙ e) solid in
    let split = b.split ∙ ap (λ z. b.front ++ z) k.split in
    record {
      spelled = k.spelled;
      taken = b.front ++ k.token;
      rest = k.rest;
      split = split ∙ sym (append_assoc b.front k.token k.rest);
      read = reads x b.front k.token k.spelled k.rest split b.blank k.is_token;
      place = record {
        before = b.front ++ k.place.before;
        rest = k.place.rest;
        split = b.split ∙ ap (λ z. b.front ++ z) k.place.split ∙ sym (append_assoc b.front k.place.before (k.spelled ++ k.place.rest));
        begins = k.place.begins;
        ends = k.place.ends;
      };
      counted = k.counted;
    }

-- ---- in the scanner's input

from_fits : {text x u : List ℕ} {offset end from to : ℕ} → InText text offset end → chars (drop offset text) ≡ x → IsSliceBefore x u from to → from ≤ end
from_fits {u = u} k e p = fits_left _ _ k (whole_split p.before (u ++ p.rest) k (e ∙ p.split)) p.begins

to_fits : {text x u : List ℕ} {offset end from to : ℕ} → InText text offset end → chars (drop offset text) ≡ x → IsSliceBefore x u from to → to ≤ from
to_fits {u = u} k e p = let b = bytes_append u p.rest in let f = p.begins in let t = p.ends in omega arith

pub begins_inside : {IsRead : List ℕ → List ℕ → List ℕ → Type 0} {text x : List ℕ} {offset end : ℕ} {found : TextBounds} → InText text offset end → chars (drop offset text) ≡ x → Found IsRead x found → found.from ≤ end
begins_inside k e f = from_fits k e f.place

pub ends_inside : {IsRead : List ℕ → List ℕ → List ℕ → Type 0} {text x : List ℕ} {offset end : ℕ} {found : TextBounds} → InText text offset end → chars (drop offset text) ≡ x → Found IsRead x found → found.to ≤ end
ends_inside k e f = let a = from_fits k e f.place in let b = to_fits k e f.place in omega arith

stands_at : {text x u : List ℕ} {offset end from to : ℕ} (s : Cursor) → InText text offset end → chars text ≡ s.input → chars (drop offset text) ≡ x → IsSliceBefore x u from to → IsSliceAt s.input u (end - from) (end - to)
stands_at {text = text} {u = u} {offset = offset} {end = end} {from = from} {to = to} s k i e p =
    let whole = whole_split p.before (u ++ p.rest) k (e ∙ p.split) in
    let before = chars (take offset text) ++ p.before in
    let bytes : end ≡ bytes_in before + bytes_in (u ++ p.rest) = k.counted ∙ left_counted text k.is_text ∙ ap bytes_in whole ∙ bytes_append before (u ++ p.rest) in
    let b = bytes_append u p.rest in
    let f = p.begins in
    let t = p.ends in
    record { before = before; rest = p.rest; split = sym i ∙ whole; starts = omega arith; ends = omega arith }

pub found_leaves : {IsRead : List ℕ → List ℕ → List ℕ → Type 0} {found : TextBounds} (s : Cursor) → Found IsRead s.unread found → Leaves s found.left
found_leaves s k = record { passed = k.taken; rest = k.rest; split = k.split; counted = k.counted }

pub took_escape_free : {IsRead : List ℕ → List ℕ → List ℕ → Type 0} {text : List ℕ} {offset end : ℕ} {found : TextBounds} (old new : Cursor) → InText text offset end → chars text ≡ old.input → chars (drop offset text) ≡ old.unread → Found IsRead old.unread found
    → LeavesAt old found.left new → TookEscapeFree IsRead old new (record { start = end - found.from; end = end - found.to })
took_escape_free {IsRead = IsRead} old new k i e f left =
    let l = left f.taken f.rest f.split f.counted in
    record { spelled = f.spelled; read = subst (IsRead old.unread f.spelled) (sym l.1) f.read; stands = stands_at old k i e f.place; same = l.0.same }

-- ---- strings that may have escapes

quote_is_solid : (c : ℕ) → is_quote c ≡ true → is_solid c ≡ true
quote_is_solid c h =
    let printable : is_in 33 126 c ≡ true = grind (arith, nat_tests) in
    let other : (c == 47) ≡ false = grind (arith, nat_tests) in
    printable_solid c printable other

string_solid : {s u : List ℕ} {escape_free : Bool} (r : List ℕ) → Str s u escape_free → HasSolid (s ++ r)
string_solid r (quoted {q = q} {s = s} k i) = (q, (s ++ q ∷ []) ++ r, refl, quote_is_solid q k)

-- blanks and a string are in front of x
pub record FoundString (x u : List ℕ) (escape_free : Bool) (r : List ℕ) : Type 0 where
  pub taken : List ℕ
  pub split : x ≡ taken ++ r
  pub read : Reads x (trees.text u escape_free) r

pub string_found : (text x y u r : List ℕ) (escape_free : Bool) → text ≡ x → skip between text ≡ skip between y → string_at y ≡ got (u, escape_free) r → FoundString x u escape_free r
string_found text x y u r escape_free f e reads =
    let k = string_taken y y u r escape_free refl reads in
    let b = blanks_before x y (ap (skip between) (sym f) ∙ e) (subst HasSolid (sym k.split) (string_solid r k.is_string)) in
    let split = b.split ∙ ap (λ z. b.front ++ z) k.split in
    record {
      taken = b.front ++ k.string;
      split = split ∙ sym (append_assoc b.front k.string r);
      read = record { front = b.front; phrase = k.string; split = split; blank = b.blank; value = is_text k.is_string; stops = text_stops r k.is_string };
    }
