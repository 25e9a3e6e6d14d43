-- Counting characters up to a position: what was counted so far, and whether the position still lies ahead.
use Rattle.std.proofs.Common.{◌≡◌, ◌≤◌, ℕ, ◌+◌, Bool, true, false, List, [], ◌∷◌, ◌++◌, length, take, drop, IsUtf8, refl, ap, sym, ◌∙◌, subst, arith}
use Rattle.std.specs.Prelude.{◌==◌}
use Rattle.std.specs.Char.{IsScalar, encode_utf8, len_utf8}
use Rattle.std.specs.Str.{chars, all_scalars, IsCharBoundary}
use Rattle.std.proofs.lemmas.Bool.{and_parts}
use Rattle.std.proofs.lemmas.Bool.Decides.{nat_tests}
use Rattle.std.proofs.lemmas.Str.{IsCharBoundary-at_seam, IsUtf8-append, IsUtf8-encode, IsUtf8-nil, IsUtf8-past_char, chars-append, chars-nil, chars_past_char, length-encode, len_utf8_bounds, scalars-chars}
use Rattle.std.proofs.StrCases.{chars_of_empty}
use Rattle.std.proofs.lemmas.List.{length-append, append-nil, append_assoc, take_at, drop_at}
use Rattle.json5_grammar.specs.declared.position.Position.{Position}
use Rattle.json5_grammar.specs.Faults.Positions.{position_after}
use Rattle.json5_grammar.specs.Model.PositionSteps.{position_step, position_from}
use Rattle.json5_grammar.proofs.PositionsCounted.{counted, step_bounded}
use Rattle.json5_tokens.specs.Places.{HasPosition, PartsCrLf, IsOffsetIn}

abbrev pub text_start : Position
text_start = record { line = 0; column = 0 }

-- some of the characters that are left lead to the position
abbrev pub Reaches : Position → Bool → List ℕ → Position → Type 0
Reaches p cr cs w = (before after : List ℕ) × (cs ≡ before ++ after) × (position_from p cr before ≡ w)

pub reaches_start : (text : List ℕ) (w : Position) → HasPosition text w → Reaches text_start false (chars text) w
reaches_start text w (before, after, split, is) = (before, after, split, counted before ∙ is)

-- one character further, where it wasn't reached or nothing was counted
pub reaches_step : (p w : Position) (cr : Bool) (c : ℕ) (s : List ℕ) → (p ≡ w → position_step p cr c ≡ p) → Reaches p cr (c ∷ s) w → Reaches (position_step p cr c) (c == 13) s w
reaches_step p w cr c s stays ([], after, split, is) = ([], s, refl, stays is ∙ is)
reaches_step p w cr c s stays (d ∷ before, after, split, is) =
    let same : c ≡ d = cc in let rest : s ≡ before ++ after = cc in
    (before, after, rest, subst (λ e. position_from (position_step p cr e) (e == 13) before ≡ w) (sym same) is)

pub reaches_end : (p w : Position) (cr : Bool) → Reaches p cr [] w → p ≡ w
reaches_end p w cr ([], after, split, is) = is
reaches_end p w cr (d ∷ before, after, split, is) = absurd (cc)

-- ---- the last character

no_last : (s : List ℕ) (c : ℕ) → [] ≡ s ++ c ∷ [] → ⊥
no_last [] c h = absurd (cc)
no_last (d ∷ s) c h = absurd (cc)

same_last : (s t : List ℕ) (c d : ℕ) → s ++ c ∷ [] ≡ t ++ d ∷ [] → c ≡ d
same_last [] [] c d h = cc
same_last [] (x ∷ t) c d h = let e : [] ≡ t ++ d ∷ [] = cc in absurd (no_last t d e)
same_last (x ∷ s) [] c d h = let e : [] ≡ s ++ c ∷ [] = cc in absurd (no_last s c e)
same_last (x ∷ s) (y ∷ t) c d h = let e : s ++ c ∷ [] ≡ t ++ d ∷ [] = cc in same_last s t c d e

-- the characters end with a CR only if it was noted
abbrev pub NotesCr : List ℕ → Bool → Type 0
NotesCr s cr = (before : List ℕ) → s ≡ before ++ 13 ∷ [] → cr ≡ true

notes_nothing : (s : List ℕ) → s ≡ [] → NotesCr s false
notes_nothing s empty before ends = absurd (no_last before 13 (sym empty ∙ ends))

is_cr : (c : ℕ) → c ≡ 13 → (c == 13) ≡ true
is_cr c h = grind (arith, nat_tests)

notes_char : (s : List ℕ) (c : ℕ) → NotesCr (s ++ c ∷ []) (c == 13)
notes_char s c before ends = is_cr c (same_last s before c 13 ends)

-- ---- what was counted: the characters before what is left of the text

abbrev pub Counted : List ℕ → List ℕ → Position → Bool → ℕ → Type 0
Counted text rest p cr offset = (taken : List ℕ) × (text ≡ taken ++ rest) × (length taken ≡ offset) × IsUtf8 taken
    × ((s : List ℕ) → position_from text_start false (chars taken ++ s) ≡ position_from p cr s) × NotesCr (chars taken) cr

one_char : (c : ℕ) → IsScalar c → chars (encode_utf8 c) ≡ c ∷ []
one_char c scalar = chars_past_char (encode_utf8 c) [] c (IsUtf8-encode c scalar) (sym (append-nil (encode_utf8 c))) ∙ ap (λ z. c ∷ z) chars-nil

pub counted_step : (text rest left : List ℕ) (p : Position) (cr : Bool) (offset c : ℕ) → IsScalar c → rest ≡ encode_utf8 c ++ left → Counted text rest p cr offset → Counted text left (position_step p cr c) (c == 13) (offset + len_utf8 c)
counted_step text rest left p cr offset c scalar split (taken, whole, size, utf8, count, noted) =
    let longer : length (taken ++ encode_utf8 c) ≡ length taken + length (encode_utf8 c) = length-append taken (encode_utf8 c) in
    let width : length (encode_utf8 c) ≡ len_utf8 c = length-encode c in
    let spelled : chars (taken ++ encode_utf8 c) ≡ chars taken ++ c ∷ [] = chars-append taken (encode_utf8 c) utf8 ∙ ap (λ z. chars taken ++ z) (one_char c scalar) in (
      taken ++ encode_utf8 c,
      whole ∙ ap (λ z. taken ++ z) split ∙ sym (append_assoc taken (encode_utf8 c) left),
      omega (arith, longer, width, size),
      IsUtf8-append taken (encode_utf8 c) utf8 (IsUtf8-encode c scalar),
      λ s. ap (λ z. position_from text_start false (z ++ s)) spelled ∙ ap (λ z. position_from text_start false z) (append_assoc (chars taken) (c ∷ []) s) ∙ count (c ∷ s),
      subst (λ z. NotesCr z (c == 13)) (sym spelled) (notes_char (chars taken) c),
    )

-- the position after what was counted, which is within the text
pub counted_end : (text rest : List ℕ) (p : Position) (cr : Bool) (offset : ℕ) → Counted text rest p cr offset → (offset ≤ length text) × (position_after (chars (take offset text)) ≡ p)
counted_end text rest p cr offset (taken, whole, size, utf8, count, noted) =
    let longer : length (taken ++ rest) ≡ length taken + length rest = length-append taken rest in
    let all : length text ≡ length (taken ++ rest) = ap length whole in
    let cut : take offset text ≡ taken = ap (λ z. take offset z) whole ∙ take_at taken rest offset size in (
      omega (arith, longer, all, size),
      ap (λ z. position_after (chars z)) cut ∙ sym (counted (chars taken)) ∙ ap (λ z. position_from text_start false z) (sym (append-nil (chars taken))) ∙ count [],
    )

-- no CR LF is parted where an LF that comes next belongs to no CR
counted_whole : (text rest : List ℕ) (p : Position) (cr : Bool) (offset : ℕ) → ((s : List ℕ) → chars rest ≡ 10 ∷ s → cr ≡ true → ⊥) → Counted text rest p cr offset → PartsCrLf text offset → ⊥
counted_whole text rest p cr offset alone (taken, whole, size, utf8, count, noted) (before, after, ends, begins) =
    let front : take offset text ≡ taken = ap (λ z. take offset z) whole ∙ take_at taken rest offset size in
    let behind : drop offset text ≡ rest = ap (λ z. drop offset z) whole ∙ drop_at taken rest offset size in
    alone after (sym (ap chars behind) ∙ begins) (noted before (sym (ap chars front) ∙ ends))

pub counted_boundary : (text rest : List ℕ) (p : Position) (cr : Bool) (offset : ℕ) → IsUtf8 rest → Counted text rest p cr offset → IsCharBoundary text offset
counted_boundary text rest p cr offset utf8 (taken, whole, size, taken_utf8, count, noted) = subst (IsCharBoundary text) size (IsCharBoundary-at_seam text taken rest whole utf8)

-- what comes next is a character
pub scalar_ahead : (rest left : List ℕ) (c : ℕ) → IsUtf8 rest → rest ≡ encode_utf8 c ++ left → IsScalar c
scalar_ahead rest left c utf8 split =
    (and_parts _ (all_scalars (chars left)) (sym (ap all_scalars (chars_past_char rest left c utf8 split)) ∙ scalars-chars rest utf8)).0

pub same_place : (p q : Position) → p.line ≡ q.line → p.column ≡ q.column → p ≡ q
same_place p q l k = ap (λ x. place x p.column) l ∙ ap (λ y. place q.line y) k
  where
    place : ℕ → ℕ → Position
    place x y = record { line = x; column = y }

-- ---- the walk over the characters, with what is left of them

abbrev pub Walk : List ℕ → Position → List ℕ → Position → Bool → ℕ → Type 0
Walk text w rest p cr offset = IsUtf8 rest × Counted text rest p cr offset
    × (HasPosition text w → Reaches p cr (chars rest) w) × (p.line + p.column + length rest ≤ length text)

pub walk_start : (text : List ℕ) (w : Position) → IsUtf8 text → Walk text w text text_start false 0
walk_start text w utf8 = (utf8, ([], refl, refl, IsUtf8-nil, λ s. ap (λ z. position_from text_start false (z ++ s)) chars-nil, notes_nothing (chars []) chars-nil), reaches_start text w, omega arith)

pub walk_step : (text : List ℕ) (w : Position) (rest left : List ℕ) (p : Position) (cr : Bool) (offset c : ℕ) → (p ≡ w → position_step p cr c ≡ p) → rest ≡ encode_utf8 c ++ left
    → Walk text w rest p cr offset → Walk text w left (position_step p cr c) (c == 13) (offset + len_utf8 c)
walk_step text w rest left p cr offset c stays split (utf8, count, ahead, room) =
    let spelled : chars rest ≡ c ∷ chars left = chars_past_char rest left c utf8 split in
    let shorter : length rest ≡ length (encode_utf8 c) + length left = ap length split ∙ length-append (encode_utf8 c) left in (
      IsUtf8-past_char rest left c utf8 split,
      counted_step text rest left p cr offset c (scalar_ahead rest left c utf8 split) split count,
      λ h. reaches_step p w cr c (chars left) stays (subst (λ z. Reaches p cr z w) spelled (ahead h)),
      omega (arith, shorter, room, length-encode c, (len_utf8_bounds c).0, step_bounded p cr c),
    )

walk_found : (text : List ℕ) (w : Position) (rest : List ℕ) (p : Position) (cr : Bool) (offset : ℕ) → p ≡ w → ((s : List ℕ) → chars rest ≡ 10 ∷ s → cr ≡ true → ⊥) → Walk text w rest p cr offset → IsOffsetIn text w offset
walk_found text w rest p cr offset same alone (utf8, count, ahead, room) = record {
  boundary = counted_boundary text rest p cr offset utf8 count;
  at = (counted_end text rest p cr offset count).1 ∙ same;
  whole = counted_whole text rest p cr offset alone count;
}

feed_stays : (p : Position) (cr : Bool) (c : ℕ) → cr ≡ true → c ≡ 10 → position_step p cr c ≡ p
feed_stays p cr c h k = rw (h, k) refl

pub walk_passed : (text : List ℕ) (w : Position) (rest left : List ℕ) (p : Position) (cr : Bool) (offset c : ℕ) → p ≡ w → (position_step p cr c ≡ p → ⊥) → rest ≡ encode_utf8 c ++ left
    → Walk text w rest p cr offset → IsOffsetIn text w offset
walk_passed text w rest left p cr offset c same moves split walk = walk_found text w rest p cr offset same alone walk
  where
    spelled : chars rest ≡ c ∷ chars left
    spelled = chars_past_char rest left c walk.0 split

    alone : (s : List ℕ) → chars rest ≡ 10 ∷ s → cr ≡ true → ⊥
    alone s begins h = let both : c ∷ chars left ≡ 10 ∷ s = sym spelled ∙ begins in let is : c ≡ 10 = cc in moves (feed_stays p cr c h is)

pub walk_ended : (text : List ℕ) (w : Position) (rest : List ℕ) (p : Position) (cr : Bool) (offset : ℕ) → p ≡ w → length rest ≡ 0 → Walk text w rest p cr offset → IsOffsetIn text w offset
walk_ended text w rest p cr offset same empty walk =
    walk_found text w rest p cr offset same (λ s begins h. let e : [] ≡ 10 ∷ s = sym (chars_of_empty rest empty) ∙ begins in absurd (cc)) walk

pub walk_missed : (text : List ℕ) (w : Position) (rest : List ℕ) (p : Position) (cr : Bool) (offset : ℕ) → (p ≡ w → ⊥) → length rest ≡ 0 → Walk text w rest p cr offset → HasPosition text w → ⊥
walk_missed text w rest p cr offset differ empty (utf8, count, ahead, room) h = differ (reaches_end p w cr (subst (λ z. Reaches p cr z w) (chars_of_empty rest empty) (ahead h)))
