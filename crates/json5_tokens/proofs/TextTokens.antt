-- The offsets of what tokens spell.
use Rattle.std.proofs.Common.{◌≡◌, ℕ, ◌+◌, ◌-◌, ◌≤◌, Bool, true, List, [], ◌∷◌, ◌++◌, length, take, drop, refl, ap, sym, ◌∙◌, subst, arith, append_assoc, Option, Some, None}
use Rattle.std.specs.Prelude.{slice_range}
use Rattle.std.specs.Option.{unwrap_or}
use Rattle.std.specs.Str.{IsUtf8, IsCharBoundary, chars, encode_utf8_all}
use Rattle.std.specs.Str.Pattern.{GetsRange}
use denote.Ref.{Bor}
use Rattle.json5_grammar.specs.Model.Reading.{Read, got}
use Rattle.json5_grammar.specs.Model.ReadTexts.{identifier}
use Rattle.json5_grammar.proofs.TextsWritten.{string_slice, name_slice}
use Rattle.json5_types.specs.declared.cow_str.CowStr.{CowStr}
use Rattle.json5_types.specs.declared.cow_str.CowStr.TheVariants as cow
use Rattle.json5_tokens.specs.declared.text_token.TextToken.{TextToken}
use Rattle.json5_tokens.specs.TokenResults.{GivesText, IsCow}
use Rattle.json5_types.specs.Cows.{cow_bytes, is_borrowed}
use Rattle.json5_tokens.specs.Cursor.{Cursor}
use Rattle.json5_tokens.specs.TextTokens.{IsSliceAt, Spells}
use Rattle.json5_tokens.specs.Outcome.{bytes_in}
use Rattle.json5_tokens.specs.Scan.{InText}
use Rattle.json5_tokens.specs.ScanTextTokens.{IsTokenOf, IsTokenIn}
use Rattle.json5_tokens.specs.ScanTexts.{string_at}
use Rattle.json5_tokens.proofs.TextCuts.{Halves, halves_in, fits_left, bytes_append, cut_at, part_between, halves_after}
use Rattle.json5_tokens.proofs.ScanTokens.{string_taken, name_taken, left_counted}

-- an escape-free string's body begins with what the string spells
pub string_body : (q : ℕ) (x body u r : List ℕ) (escape_free : Bool) → x ≡ q ∷ body → string_at x ≡ got (u, escape_free) r → escape_free ≡ true → (rest : List ℕ) × (body ≡ u ++ rest)
string_body q x body u r escape_free e read h =
    let k = string_taken x x u r escape_free refl read in
    let s = string_slice k.is_string h in
    (s.0 ∷ [] ++ r, tails (sym e ∙ k.split ∙ ap (λ z. z ++ r) s.2 ∙ ap (λ z. s.0 ∷ z) (append_assoc u (s.0 ∷ []) r)))
  where
    tails : {a b : ℕ} {y z : List ℕ} → a ∷ y ≡ b ∷ z → y ≡ z
    tails f = cc

-- an escape-free name spells itself
pub name_body : (x u r : List ℕ) (escape_free : Bool) → identifier x ≡ got (u, escape_free) r → escape_free ≡ true → (rest : List ℕ) × (x ≡ u ++ rest)
name_body x u r escape_free read h =
    let k = name_taken x x u r escape_free refl read in
    (r, k.split ∙ ap (λ z. z ++ r) (name_slice k.is_name h))

-- ---- the offsets of the text

-- a borrowed text is no longer than the input that begins with it
pub borrowed_fits : {u : List ℕ} {escape_free : Bool} (text : CowStr) (y : List ℕ) → IsUtf8 y → IsCow text u escape_free → (escape_free ≡ true → (rest : List ℕ) × (chars y ≡ u ++ rest)) → is_borrowed text ≡ true → length (cow_bytes text) ≤ length y
borrowed_fits {u = u} text y utf8 is begins h =
    let k = begins (sym is.borrowed ∙ h) in
    let whole = left_counted y utf8 ∙ ap bytes_in k.1 ∙ bytes_append u k.0 in
    let part = ap length is.bytes in
    omega arith

pub token_in : {x u : List ℕ} {escape_free : Bool} (end left : ℕ) (t : TextToken) (text : CowStr) (front y : List ℕ) → x ≡ front ++ y → IsCow text u escape_free → (escape_free ≡ true → (rest : List ℕ) × (y ≡ u ++ rest)) → left ≡ bytes_in y → IsTokenOf (end - left) text t
    → IsTokenIn end x t u escape_free
token_in {x = x} {u = u} {escape_free = escape_free} end left t (cow.Borrowed text) front y split is begins counted made = λ before whole.
    let more = begins (sym is.borrowed) in
    let cut : before ++ x ≡ (before ++ front) ++ y = ap (λ z. before ++ z) split ∙ sym (append_assoc before front y) in
    let bytes = whole ∙ ap bytes_in cut ∙ bytes_append (before ++ front) y in
    subst (Spells (before ++ x) u escape_free) (sym made) (
      sym is.borrowed,
      record {
        before = before ++ front;
        rest = more.0;
        split = cut ∙ ap (λ z. (before ++ front) ++ z) more.1;
        starts = (omega arith);
        ends = ap (λ z. (end - left) + length z) is.bytes;
      },
    )
token_in {x = x} {u = u} {escape_free = escape_free} end left t (cow.Owned text) front y split is begins counted made = λ before whole.
    subst (Spells (before ++ x) u escape_free) (sym made) (sym is.borrowed, is.bytes)

-- what follows the first character is no longer
pub body_fits : (c end : ℕ) (x y : List ℕ) → IsUtf8 x → IsUtf8 y → chars x ≡ c ∷ chars y → length x ≤ end → length y ≤ end
body_fits c end x y is_x is_y split fits =
    let whole = left_counted x is_x ∙ ap bytes_in split ∙ bytes_append (c ∷ []) (chars y) in
    let part = left_counted y is_y in
    omega arith

-- the token of a text that is borrowed from y on
pub gives_token : {reading other : Read (List ℕ × Bool)} (end left : ℕ) (t : TextToken) (text : CowStr) (front x y rest : List ℕ) → x ≡ front ++ y → reading ≡ other → (given : GivesText IsCow other text rest)
    → (given.escape_free ≡ true → (r : List ℕ) × (y ≡ given.spelled ++ r)) → left ≡ bytes_in y → IsTokenOf (end - left) text t → GivesText (IsTokenIn end x) reading t rest
gives_token end left t text front x y rest split same given begins counted made = record {
  spelled = given.spelled;
  escape_free = given.escape_free;
  read = same ∙ given.read;
  is_text = token_in end left t text front y split given.is_text begins counted made;
  text = given.text;
}

-- the unread part is no longer than the whole input
pub unread_fits : {text : List ℕ} {offset end : ℕ} (s : Cursor) (part : List ℕ) → InText text offset end → IsUtf8 part → chars part ≡ s.unread → chars (drop offset text) ≡ s.unread → length part ≤ end
unread_fits s part k utf8 e f = fits_left _ _ k (halves_in k).split (left_counted part utf8 ∙ ap bytes_in (e ∙ sym f))

-- the text of the token in front of the unread part is within the whole input
pub token_inside : {text : List ℕ} {offset end : ℕ} (s : Cursor) (x u : List ℕ) (escape_free : Bool) (t : TextToken) → InText text offset end → chars text ≡ s.input → chars (drop offset text) ≡ s.unread → x ≡ s.unread → IsTokenIn end x t u escape_free → Spells s.input u escape_free t
token_inside {text = text} {offset = offset} s x u escape_free t inside e f g is =
    let before = chars (take offset text) in
    let whole : before ++ x ≡ chars text = ap (λ z. before ++ z) (g ∙ sym f) ∙ sym (halves_in inside).split in
    subst (λ z. Spells z u escape_free t) (whole ∙ e) (is before (inside.counted ∙ left_counted text inside.is_text ∙ sym (ap bytes_in whole)))

-- the part of the input that is u
pub slice_bytes : (text u : List ℕ) (start end : ℕ) → IsUtf8 text → IsSliceAt (chars text) u start end → slice_range text start end ≡ encode_utf8_all u
slice_bytes text u start end utf8 at =
    let h : Halves text at.before (u ++ at.rest) = record { is_text = utf8; split = at.split } in
    rw (at.ends, at.starts) (part_between u at.rest h)

-- characters begin where it starts and where it ends
pub slice_starts : (text u : List ℕ) (start end : ℕ) → IsUtf8 text → IsSliceAt (chars text) u start end → IsCharBoundary text start
slice_starts text u start end utf8 at =
    let h : Halves text at.before (u ++ at.rest) = record { is_text = utf8; split = at.split } in
    subst (IsCharBoundary text) (sym at.starts) (cut_at h)

pub slice_ends : (text u : List ℕ) (start end : ℕ) → IsUtf8 text → IsSliceAt (chars text) u start end → IsCharBoundary text end
slice_ends text u start end utf8 at =
    let h : Halves text at.before (u ++ at.rest) = record { is_text = utf8; split = at.split } in
    subst (IsCharBoundary text) (sym (at.ends ∙ ap (λ n. n + bytes_in u) at.starts ∙ sym (bytes_append at.before u))) (cut_at (halves_after u at.rest h refl))

-- the same, as `get` gives it
pub stands_between : (text u : List ℕ) (start end : ℕ) (part : Option (Bor (List ℕ))) (other : Bor (List ℕ)) → IsUtf8 text → GetsRange text start end part → IsSliceAt (chars text) u start end → (unwrap_or part other).now ≡ encode_utf8_all u
stands_between text u start end (Some x) other utf8 gets at = gets.0 ∙ slice_bytes text u start end utf8 at
stands_between text u start end None other utf8 gets at = absurd (gets (let e = at.ends in omega arith) (slice_starts text u start end utf8 at) (slice_ends text u start end utf8 at))
