-- A key as json5 writes it, and the key in front of a text.
use Rattle.std.proofs.Common.{◌≡◌, ℕ, ◌+◌, Bool, true, false, List, [], ◌++◌, sym, ap, ◌∙◌, append_assoc, subst, take, drop, arith}
use Rattle.std.specs.Str.{chars, IsUtf8, IsCharBoundary, all_scalars, encode_utf8_all}
use Rattle.std.proofs.lemmas.Str.{encodes-chars, chars-encodes, scalars-chars, encodes-append}
use Rattle.std.proofs.Math.Seq.{drop-append_seam, take-append_seam}
use Rattle.json5_grammar.specs.Language.Blanks.{Blanks, Gap, Solid}
use Rattle.json5_grammar.specs.Language.Names.{Key}
use Rattle.json5_grammar.specs.Language.Trees.{object, member}
use Rattle.json5_grammar.specs.Language.Values.{KeyText}
use Rattle.json5_grammar.specs.Model.Collections.{MembersTail}
use Rattle.json5_grammar.specs.Model.Reading.{got}
use Rattle.json5_grammar.specs.Model.ReadBlanks.{skip, between}
use Rattle.json5_grammar.proofs.BlanksRead.{skip_blanks}
use Rattle.json5_grammar.proofs.BlanksSound.{blank_refused, gap_blanks}
use Rattle.json5_grammar.proofs.Refusals.{not_both}
use Rattle.json5_grammar.proofs.ValueHeads.{key_head, skip_key}
use Rattle.json5_styles.specs.Json.{JsonString}
use Rattle.json5_styles.specs.JsonTexts.{json_string}
use Rattle.json5_styles.proofs.JsonWritten.{string_is}
use Rattle.json5_styles.proofs.Spelled.{json_key_is}
use Rattle.json5_tokens.specs.Cursor.{Cursor, Took, Refused, offset_of}
use Rattle.json5_tokens.specs.Outcome.{bytes_in}
use Rattle.json5_tokens.specs.TokenFaults.{FaultyBlanks}
use Rattle.json5_types.specs.declared.error.Error.{Error}
use Rattle.json5_types.specs.Errors.{LacksMemory}
use Rattle.json5_walk.proofs.Calls.{bytes_joined}
use Rattle.json5_edit.specs.Keys.{BeginsWithMember, KeySpan, TakesKeyAhead}
use Rattle.json5_edit.specs.Pieces.{SpellsKey}
use Rattle.json5_edit.specs.Spots.{first_member}
use Rattle.json5_edit.specs.declared.places.ValueSpan.{ValueSpan}
use Rattle.json5_edit.proofs.Measured.{goes_after_gap, key_first}
use Rattle.json5_edit.proofs.Placed.{bytes_cut, encoded, scalars_left, scalars_right, seam}

-- what was written of a key as JSON has it spells it, and is a string
pub json_key_spelled : (key bytes : List ℕ) → IsUtf8 key → chars bytes ≡ json_string (chars key) → SpellsKey key bytes
json_key_spelled key bytes u is = let (free, text) = json_key_is (chars key) in (chars key, free, subst (λ z. KeyText z (chars key) free) (sym is) text, encodes-chars key u)

pub json_key_plain : (key bytes : List ℕ) → chars bytes ≡ json_string (chars key) → JsonString (chars bytes)
json_key_plain key bytes is = subst JsonString (sym is) (string_is (chars key))

-- ---- the key in front of a text

offset_at : (part : List ℕ) (n : ℕ) (now : Cursor) → now.input ≡ part ++ now.unread → n ≡ offset_of now → n ≡ bytes_in part
offset_at part n now input at =
    let all : bytes_in now.input ≡ bytes_in part + bytes_in now.unread = ap bytes_in input ∙ bytes_joined part now.unread in
    omega (arith, at, all)

whole_unread : (text : List ℕ) (s : Cursor) → s ≡ record { input = chars text; unread = chars text } → (s.unread ≡ chars text) × (s.input ≡ chars text)
whole_unread text s e = (ap (λ (z : Cursor). z.unread) e, ap (λ (z : Cursor). z.input) e)

pub blanks_spare : (text : List ℕ) (s : Cursor) (e : Error) → s ≡ record { input = chars text; unread = chars text } → Refused FaultyBlanks s e → BeginsWithMember text → LacksMemory e
blanks_spare text s e start r (u, b, t, ps, (k, z, key, v, tl)) =
    let (before, part, shown, fault) = r.fault in
    let passes : skip between s.unread ≡ got tt (key.spelling ++ k) = ap (skip between) ((whole_unread text s start).0 ∙ key.split) ∙ skip_blanks (key.spelling ++ k) key.blank ∙ skip_key k (key_head key.key) in
    absurd (not_both (skip between s.unread) s.unread (key.spelling ++ k) tt r.reason r.place passes (blank_refused fault))

-- a key is in front, after blanks
key_after : (text : List ℕ) (s now : Cursor) → s ≡ record { input = chars text; unread = chars text } → (w : List ℕ) × Took s w now × Gap w now.unread × Solid now.unread → BeginsWithMember text → (k v y : List ℕ) × (e : Bool) × (now.unread ≡ k ++ y) × Key k y v e
key_after text s now start (w, took, gap, solid) (u, b, t, ps, tl) =
    key_first (first_member u b t ps) solid (goes_after_gap w now.unread false (object (member u b t ps)) gap solid (subst (λ z. MembersTail (member u b t ps) false z []) (sym (whole_unread text s start).0 ∙ took.split) tl))

pub key_spares : (text : List ℕ) (s now : Cursor) (e : Error) → s ≡ record { input = chars text; unread = chars text } → (w : List ℕ) × Took s w now × Gap w now.unread × Solid now.unread → ((k u r : List ℕ) (b : Bool) → now.unread ≡ k ++ r → Key k r u b → LacksMemory e) → BeginsWithMember text → LacksMemory e
key_spares text s now e start passed refuses m = let (k, v, y, b, split, key) = key_after text s now start passed m in refuses k v y b split key

pub key_spans : (text : List ℕ) (s now last : Cursor) (n m : ℕ) (k u : List ℕ) (b : Bool) → s ≡ record { input = chars text; unread = chars text } → (w : List ℕ) × Took s w now × Gap w now.unread × Solid now.unread → Took now k last → Key k last.unread u b → n ≡ offset_of now → m ≡ offset_of last → KeySpan text (record { start = n; end = m })
key_spans text s now last n m k u b start (w, took, gap, solid) taken key from to =
    let (unread, input) = whole_unread text s start in
    let whole : chars text ≡ w ++ (k ++ last.unread) = sym unread ∙ took.split ∙ ap (λ z. w ++ z) taken.split in
    record {
      blank = w;
      gone = k;
      back = last.unread;
      split = whole;
      begins = offset_at w n now (took.same ∙ input ∙ sym unread ∙ took.split) from;
      ends = offset_at (w ++ k) m last (taken.same ∙ took.same ∙ input ∙ whole ∙ sym (append_assoc w k last.unread)) to;
      is_blank = subst (Gap w) taken.split gap;
      meaning = u;
      escape_free = b;
      key = key;
    }

-- the texts before and after it
module _ (text : List ℕ) (span : ValueSpan) (utf8 : IsUtf8 text) (at : KeySpan text span) where
  scalars : all_scalars (at.blank ++ (at.gone ++ at.back)) ≡ true
  scalars = ap all_scalars (sym at.split) ∙ scalars-chars text utf8

  rest_scalars : all_scalars (at.gone ++ at.back) ≡ true
  rest_scalars = scalars_right at.blank (at.gone ++ at.back) scalars

  cut : text ≡ encode_utf8_all at.blank ++ encode_utf8_all (at.gone ++ at.back)
  cut = bytes_cut text at.blank (at.gone ++ at.back) utf8 at.split

  later : chars text ≡ (at.blank ++ at.gone) ++ at.back
  later = at.split ∙ sym (append_assoc at.blank at.gone at.back)

  pub first_seam : IsCharBoundary text span.start
  first_seam = subst (IsCharBoundary text) (sym at.begins) (seam text at.blank (at.gone ++ at.back) utf8 at.split)

  pub second_seam : IsCharBoundary text span.end
  second_seam = subst (IsCharBoundary text) (sym at.ends) (seam text (at.blank ++ at.gone) at.back utf8 later)

  pub key_taken : (blank back : List ℕ) → blank ≡ take span.start text → back ≡ drop span.end text → TakesKeyAhead text blank back
  key_taken blank back b e =
      let first : blank ≡ encode_utf8_all at.blank = b ∙ ap (λ n. take n text) at.begins ∙ ap (take (bytes_in at.blank)) cut ∙ take-append_seam (encode_utf8_all at.blank) (encode_utf8_all (at.gone ++ at.back)) in
      let last : back ≡ encode_utf8_all at.back =
      e ∙ ap (λ n. drop n text) at.ends ∙ ap (drop (bytes_in (at.blank ++ at.gone))) (bytes_cut text (at.blank ++ at.gone) at.back utf8 later)
      ∙ drop-append_seam (encode_utf8_all (at.blank ++ at.gone)) (encode_utf8_all at.back) in
      let gone_scalars = scalars_left at.gone at.back rest_scalars in
      let h = key_head at.key in
      record {
        gone = encode_utf8_all at.gone;
        split = cut ∙ ap (λ z. z ++ encode_utf8_all (at.gone ++ at.back)) (sym first) ∙ ap (λ z. blank ++ z) (encodes-append at.gone at.back ∙ ap (λ z. encode_utf8_all at.gone ++ z) (sym last));
        blank_text = subst IsUtf8 (sym first) (encoded at.blank (scalars_left at.blank (at.gone ++ at.back) scalars));
        is_text = encoded at.gone gone_scalars;
        is_blank = subst Blanks (sym (ap chars first ∙ chars-encodes at.blank (scalars_left at.blank (at.gone ++ at.back) scalars))) (gap_blanks h.char (h.more ++ at.back) (subst (λ z. Gap at.blank (z ++ at.back)) h.is at.is_blank));
        meaning = at.meaning;
        escape_free = at.escape_free;
        key = subst (λ z. Key z (chars back) at.meaning at.escape_free) (sym (chars-encodes at.gone gone_scalars)) (subst (λ z. Key at.gone z at.meaning at.escape_free) (sym (ap chars last ∙ chars-encodes at.back (scalars_right at.gone at.back rest_scalars))) at.key);
      }
