-- Names as messages show them, one character after the other.
use Rattle.std.proofs.Common.{◌≡◌, ◌<◌, ◌++◌, ℕ, zero, suc, false, List, [], ◌∷◌, length, IsUtf8, ap, sym, ◌∙◌, refl, arith, append_assoc, append-nil}
use Rattle.std.specs.Char.{encode_utf8, is_control}
use Rattle.std.specs.Str.{chars, IsAscii}
use Rattle.std.proofs.lemmas.List.{nil_from_length}
use Rattle.std.proofs.lemmas.Str.{IsUtf8-from_ascii, chars-nil, chars_past_char}
use Rattle.cli_files.specs.ShownNames.{shown_char, shown_chars, shown_name}

pub nothing_shown : shown_name [] ≡ []
nothing_shown = ap shown_chars chars-nil

-- ---- the first character of what is left

first_shown : (left after : List ℕ) (c : ℕ) → IsUtf8 left → left ≡ encode_utf8 c ++ after → shown_name left ≡ shown_char c ++ shown_name after
first_shown left after c utf8 split = ap shown_chars (chars_past_char left after c utf8 split)

pub one_more_shown : (name left after done : List ℕ) (c : ℕ) → IsUtf8 left → left ≡ encode_utf8 c ++ after → shown_name name ≡ done ++ shown_name left → shown_name name ≡ (done ++ shown_char c) ++ shown_name after
one_more_shown name left after done c utf8 split so_far =
    so_far ∙ ap (λ x. done ++ x) (first_shown left after c utf8 split) ∙ sym (append_assoc done (shown_char c) (shown_name after))

plainly_shown : (c : ℕ) → is_control c ≡ false → shown_char c ≡ encode_utf8 c
plainly_shown c plain = rw plain refl

pub whole_before : (left after : List ℕ) (c : ℕ) → IsUtf8 left → left ≡ encode_utf8 c ++ after → is_control c ≡ false → shown_name after ≡ after → shown_name left ≡ left
whole_before left after c utf8 split plain rest =
    first_shown left after c utf8 split ∙ ap (λ x. x ++ shown_name after) (plainly_shown c plain) ∙ ap (λ x. encode_utf8 c ++ x) rest ∙ sym split

-- ---- nothing is left

pub whole_at_end : (left : List ℕ) → length left ≡ 0 → shown_name left ≡ left
whole_at_end left none =
    let empty = nil_from_length left none in
    ap shown_name empty ∙ nothing_shown ∙ sym empty

pub all_shown : (name left done : List ℕ) → length left ≡ 0 → shown_name name ≡ done ++ shown_name left → shown_name name ≡ done
all_shown name left done none so_far = so_far ∙ ap (λ x. done ++ x) (ap shown_name (nil_from_length left none) ∙ nothing_shown) ∙ append-nil done

-- ---- an escape is a text

escape_ascii : (x y : ℕ) → x < 128 → y < 128 → IsAscii (92 ∷ 120 ∷ x ∷ y ∷ [])
escape_ascii x y first second zero = omega arith
escape_ascii x y first second (suc zero) = omega arith
escape_ascii x y first second (suc (suc zero)) = first
escape_ascii x y first second (suc (suc (suc zero))) = second
escape_ascii x y first second (suc (suc (suc (suc i)))) = omega arith

pub escape_utf8 : (x y : ℕ) → x < 128 → y < 128 → IsUtf8 (92 ∷ 120 ∷ x ∷ y ∷ [])
escape_utf8 x y first second = IsUtf8-from_ascii _ (escape_ascii x y first second)
