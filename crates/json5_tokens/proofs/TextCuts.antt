-- A string is cut between its characters.
use Rattle.std.proofs.Common.{◌≡◌, ℕ, suc, ◌+◌, ◌-◌, ◌<◌, ◌≤◌, true, List, [], ◌∷◌, ◌++◌, length, take, drop, refl, ap, sym, ◌∙◌, subst, arith, append_assoc, Bool, false, nat_eq, Option, Some, drop-cons}
use Rattle.std.specs.Char.{IsScalar, encode_utf8, len_utf8}
use Rattle.std.specs.Prelude.{slice_index, slice_index_or, slice_get, not}
use Rattle.std.specs.Option.{option_eq}
use Rattle.std.proofs.lemmas.Bool.Decides.{nat_tests}
use Rattle.std.specs.List.{slice_range}
use Rattle.std.proofs.lemmas.Grind.{common_steps}
use Rattle.std.specs.Str.{IsUtf8, IsCharBoundary, chars, encode_utf8_all, all_scalars}
use Rattle.std.proofs.Math.Seq.{take-append_seam, drop-append_seam}
use Rattle.std.proofs.lemmas.List.{length-append, length-drop, length-take, take-append-drop}
use Rattle.std.proofs.lemmas.Str.{chars_past_char, IsUtf8-past_char, length-encode, len_utf8_bounds, encode_ascii, length-encode, IsCharBoundary-after_ascii, encodes-chars, scalars-chars, chars-encodes, encodes-append, chars-append, IsUtf8-take, IsUtf8-drop, IsCharBoundary-at_seam}
use Rattle.json5_tokens.specs.Outcome.{bytes_in}
use Rattle.json5_tokens.specs.Cursor.{IsOffset}
use Rattle.json5_tokens.specs.Scan.{InText, StartsWith}
use Rattle.std.proofs.lemmas.Bool.{and_parts}

pub scalar_halves : (x y : List ℕ) → all_scalars (x ++ y) ≡ true → (all_scalars x ≡ true) × (all_scalars y ≡ true)
scalar_halves [] y s = (refl, s)
scalar_halves (c ∷ x) y s =
    let k = and_parts _ (all_scalars (x ++ y)) s in
    let l = scalar_halves x y k.1 in
    (rw (k.0, l.0) refl, l.1)

pub one_scalar : (c : ℕ) → IsScalar c → all_scalars (c ∷ []) ≡ true
one_scalar c h = rw h refl

-- the characters of the string are x ++ y
pub record Halves (text x y : List ℕ) : Type 0 where
  pub is_text : IsUtf8 text
  pub split : chars text ≡ x ++ y

whole_bytes : {text x y : List ℕ} → Halves text x y → text ≡ encode_utf8_all x ++ encode_utf8_all y
whole_bytes {text = text} {x = x} {y = y} h = sym (encodes-chars text h.is_text) ∙ ap encode_utf8_all h.split ∙ encodes-append x y

pub parts_scalar : {text x y : List ℕ} → Halves text x y → (all_scalars x ≡ true) × (all_scalars y ≡ true)
parts_scalar {text = text} {x = x} {y = y} h = scalar_halves x y (sym (ap all_scalars h.split) ∙ scalars-chars text h.is_text)

bytes_apart : {text x y : List ℕ} → Halves text x y → length text ≡ bytes_in x + bytes_in y
bytes_apart {x = x} {y = y} h = ap length (whole_bytes h) ∙ length-append (encode_utf8_all x) (encode_utf8_all y)

-- the offset of the cut
offset_at : {text x y : List ℕ} → Halves text x y → length text - bytes_in y ≡ bytes_in x
offset_at h = let e = bytes_apart h in omega arith

pub left_fits : {text x y : List ℕ} → Halves text x y → bytes_in y ≤ length text
left_fits h = let e = bytes_apart h in omega arith

pub take_half : {text x y : List ℕ} → Halves text x y → chars (take (length text - bytes_in y) text) ≡ x
take_half {x = x} {y = y} h =
    rw (offset_at h) (ap chars (ap (take (bytes_in x)) (whole_bytes h) ∙ take-append_seam (encode_utf8_all x) (encode_utf8_all y)) ∙ chars-encodes x (parts_scalar h).0)

pub drop_half : {text x y : List ℕ} → Halves text x y → chars (drop (length text - bytes_in y) text) ≡ y
drop_half {x = x} {y = y} h =
    rw (offset_at h) (ap chars (ap (drop (bytes_in x)) (whole_bytes h) ∙ drop-append_seam (encode_utf8_all x) (encode_utf8_all y)) ∙ chars-encodes y (parts_scalar h).1)

pub cut_half : {text x y : List ℕ} → Halves text x y → IsCharBoundary text (length text - bytes_in y)
cut_half {text = text} {x = x} {y = y} h =
    rw (offset_at h) (IsCharBoundary-at_seam text (encode_utf8_all x) (encode_utf8_all y) (whole_bytes h) (y, ((parts_scalar h).1, refl)))

-- a string cut at a boundary
pub halves_at : (text : List ℕ) (i : ℕ) → IsUtf8 text → IsCharBoundary text i → Halves text (chars (take i text)) (chars (drop i text))
halves_at text i u b = record {
  is_text = u;
  split = sym (ap chars (take-append-drop i text)) ∙ chars-append (take i text) (drop i text) (IsUtf8-take text i u b);
}

pub boundary_offset : (text : List ℕ) (i : ℕ) → IsUtf8 text → IsCharBoundary text i → IsOffset (chars text) i
boundary_offset text i u b =
    let inside : i ≤ length text = b.0 in
    let same = encodes-chars (take i text) (IsUtf8-take text i u b) in
    (chars (take i text), chars (drop i text), (halves_at text i u b).split, (let taken = length-take i text in let bytes = ap length same in omega arith))

-- and cut again after p
pub halves_after : {text x y : List ℕ} (p q : List ℕ) → Halves text x y → y ≡ p ++ q → Halves text (x ++ p) q
halves_after {x = x} p q h e = record { is_text = h.is_text; split = h.split ∙ ap (λ z. x ++ z) e ∙ sym (append_assoc x p q) }

-- strings of the same characters have the same bytes
pub same_text : (a b : List ℕ) → IsUtf8 a → IsUtf8 b → chars a ≡ chars b → a ≡ b
same_text a b u v e = sym (encodes-chars a u) ∙ ap encode_utf8_all e ∙ encodes-chars b v

-- ---- the scanner's input

pub halves_in : {text : List ℕ} {offset end : ℕ} → InText text offset end → Halves text (chars (take offset text)) (chars (drop offset text))
halves_in {text = text} {offset = offset} k = halves_at text offset k.is_text k.cut

-- the input is cut where so many bytes are left
pub cut_left : {text : List ℕ} {offset end left : ℕ} (x y : List ℕ) → InText text offset end → chars text ≡ x ++ y → left ≡ bytes_in y → IsCharBoundary text (end - left)
cut_left x y k e l = rw (k.counted, l) (cut_half (record { is_text = k.is_text; split = e }))

pub take_left : {text : List ℕ} {offset end left : ℕ} (x y : List ℕ) → InText text offset end → chars text ≡ x ++ y → left ≡ bytes_in y → chars (take (end - left) text) ≡ x
take_left x y k e l = rw (k.counted, l) (take_half (record { is_text = k.is_text; split = e }))

pub drop_left : {text : List ℕ} {offset end left : ℕ} (x y : List ℕ) → InText text offset end → chars text ≡ x ++ y → left ≡ bytes_in y → chars (drop (end - left) text) ≡ y
drop_left x y k e l = rw (k.counted, l) (drop_half (record { is_text = k.is_text; split = e }))

pub fits_left : {text : List ℕ} {offset end left : ℕ} (x y : List ℕ) → InText text offset end → chars text ≡ x ++ y → left ≡ bytes_in y → left ≤ end
fits_left x y k e l = rw (k.counted, l) (left_fits (record { is_text = k.is_text; split = e }))

-- the whole input, cut within its unread part
pub whole_split : {text : List ℕ} {offset end : ℕ} (p q : List ℕ) → InText text offset end → chars (drop offset text) ≡ p ++ q → chars text ≡ (chars (take offset text) ++ p) ++ q
whole_split p q k e = (halves_after p q (halves_in k) e).split

pub offset_counted : {text : List ℕ} {offset end : ℕ} → InText text offset end → offset ≡ length (encode_utf8_all (chars text)) - length (encode_utf8_all (chars (drop offset text)))
offset_counted {text = text} {offset = offset} k =
    rw (encodes-chars text k.is_text, encodes-chars (drop offset text) (IsUtf8-drop text offset k.is_text k.cut), length-drop offset text)
    (let h : offset ≤ length text = k.cut.0 in omega arith)

-- ---- what comes before a rest

beginning : (n : ℕ) (text : List ℕ) → slice_range text 0 n ≡ take n text
beginning n text = grind (arith, common_steps)

pub before_rest : {part : List ℕ} (text x rest : List ℕ) → IsUtf8 text → IsUtf8 rest → chars text ≡ x ++ chars rest → part ≡ slice_range text 0 (length text - length rest) → chars part ≡ x
before_rest text x rest u v e f =
    ap chars (f ∙ beginning (length text - length rest) text ∙ ap (λ r. take (length text - length r) text) (sym (encodes-chars rest v))) ∙ take_half (record { is_text = u; split = e })

-- the input is cut after so many bytes
pub cut_before : {text : List ℕ} {offset end cut : ℕ} (x y : List ℕ) → InText text offset end → chars text ≡ x ++ y → cut ≡ bytes_in x → IsCharBoundary text cut
cut_before {text = text} {cut = cut} x y k e l =
    let h : Halves text x y = record { is_text = k.is_text; split = e } in
    subst (IsCharBoundary text) (offset_at h ∙ sym l) (cut_half h)

pub take_before : {text : List ℕ} {offset end cut : ℕ} (x y : List ℕ) → InText text offset end → chars text ≡ x ++ y → cut ≡ bytes_in x → chars (take cut text) ≡ x
take_before {text = text} {cut = cut} x y k e l =
    let h : Halves text x y = record { is_text = k.is_text; split = e } in
    subst (λ n. chars (take n text) ≡ x) (offset_at h ∙ sym l) (take_half h)

-- ---- a part of the input

pub cut_at : {text x y : List ℕ} → Halves text x y → IsCharBoundary text (bytes_in x)
cut_at {text = text} h = subst (IsCharBoundary text) (offset_at h) (cut_half h)

pub bytes_append : (x y : List ℕ) → bytes_in (x ++ y) ≡ bytes_in x + bytes_in y
bytes_append x y = ap length (encodes-append x y) ∙ length-append (encode_utf8_all x) (encode_utf8_all y)

less_front : (m n : ℕ) → (m + n) - m ≡ n
less_front m n = omega arith

pub part_between : {text x : List ℕ} (u y : List ℕ) → Halves text x (u ++ y) → slice_range text (bytes_in x) (bytes_in x + bytes_in u) ≡ encode_utf8_all u
part_between {text = text} {x = x} u y h =
    let whole : text ≡ encode_utf8_all x ++ (encode_utf8_all u ++ encode_utf8_all y) = whole_bytes h ∙ ap (λ z. encode_utf8_all x ++ z) (encodes-append u y) in
    ap (λ n. take n (drop (bytes_in x) text)) (less_front (bytes_in x) (bytes_in u))
    ∙ ap (λ z. take (bytes_in u) (drop (bytes_in x) z)) whole
    ∙ ap (take (bytes_in u)) (drop-append_seam (encode_utf8_all x) (encode_utf8_all u ++ encode_utf8_all y))
    ∙ take-append_seam (encode_utf8_all u) (encode_utf8_all y)

-- ---- an ASCII character in front

pub first_cut : (s : List ℕ) → IsUtf8 s → 0 < length s → slice_index s 0 < 128 → IsCharBoundary s 1
first_cut s u l h = IsCharBoundary-after_ascii s 0 u l h

first_char : (s t : List ℕ) → IsUtf8 s → 0 < length s → slice_index s 0 < 128 → t ≡ drop 1 s → chars s ≡ slice_index s 0 ∷ chars t
first_char [] t u l h d = absurd (omega arith)
first_char (b ∷ s) t u l h d = chars_past_char (b ∷ s) s b u (ap (λ z. z ++ s) (sym (encode_ascii b h))) ∙ ap (λ z. b ∷ chars z) (sym d)

-- the first character of what is unread
pub ascii_next : {text bytes : List ℕ} {offset end : ℕ} → bytes ≡ text → InText text offset end → offset < length bytes → slice_index_or bytes offset 0 < 128 → Some (slice_index_or bytes offset 0) ≡ slice_get (chars (drop offset text)) 0
ascii_next {text = text} {bytes = bytes} {offset = offset} e k i l =
    let first : drop offset text ≡ slice_index_or bytes offset 0 ∷ drop (suc offset) bytes = ap (drop offset) (sym e) ∙ drop-cons bytes offset 0 i in
    let front = chars_past_char (drop offset text) (drop (suc offset) bytes) (slice_index_or bytes offset 0) (IsUtf8-drop text offset k.is_text k.cut) (first ∙ ap (λ z. z ++ drop (suc offset) bytes) (sym (encode_ascii (slice_index_or bytes offset 0) l))) in
    sym (ap (λ z. slice_get z 0) front)

-- the first character is this one
pub next_is : (x : List ℕ) (c : ℕ) (o : Option ℕ) (b : Bool) → o ≡ slice_get x 0 → b ≡ not (option_eq nat_eq o (Some c)) → b ≡ false → x ≡ c ∷ drop 1 x
next_is [] c o b e f h = absurd (let k = sym h ∙ f ∙ ap (λ z. not (option_eq nat_eq z (Some c))) e in cc)
next_is (d ∷ x) c o b e f h = let k = sym h ∙ f ∙ ap (λ z. not (option_eq nat_eq z (Some c))) e in let s : d ≡ c = grind (arith, nat_tests, k) in ap (λ z. z ∷ x) s

-- what is unread after its first character
pub next_left : {text : List ℕ} {offset end : ℕ} (c : ℕ) (r : List ℕ) → InText text offset end → chars (drop offset text) ≡ c ∷ r → offset + len_utf8 c ≡ end - bytes_in r
next_left {text = text} {offset = offset} {end = end} c r k e =
    let o = offset_counted k in
    let n = length-append (encode_utf8 c) (encode_utf8_all r) in
    let m = length-encode c in
    let u : bytes_in (chars (drop offset text)) ≡ bytes_in (c ∷ r) = ap bytes_in e in
    let w = left_fits (halves_in k) in
    let f = encodes-chars text k.is_text in
    let t = k.counted in
    omega (arith, o, n, m, u, w, ap length f, t)

pub begins_ascii : (s t : List ℕ) → IsUtf8 s → 0 < length s → slice_index s 0 < 128 → t ≡ drop 1 s → StartsWith s (slice_index s 0) t
begins_ascii s t u l h d = record {
  chars = first_char s t u l h d;
  text = subst IsUtf8 (sym d) (IsUtf8-drop s 1 u (first_cut s u l h));
  shorter = let k = ap length d in let m = length-drop 1 s in omega arith;
}

pub begins_char : (s t : List ℕ) (c : ℕ) → IsUtf8 s → s ≡ encode_utf8 c ++ t → StartsWith s c t
begins_char s t c u e = record {
  chars = chars_past_char s t c u e;
  text = IsUtf8-past_char s t c u e;
  shorter = let k : length s ≡ length (encode_utf8 c) + length t = ap length e ∙ length-append (encode_utf8 c) t in let m = length-encode c in let n = (len_utf8_bounds c).0 in omega arith;
}

pub no_chars : (s : List ℕ) → length s ≡ 0 → chars s ≡ []
unfolding chars
no_chars [] e = refl
no_chars (b ∷ s) e = absurd (omega arith)
