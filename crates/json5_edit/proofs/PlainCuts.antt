-- A plain collection keeps plain without one of its entries.
use Rattle.std.proofs.Common.{◌≡◌, ◌≢◌, ℕ, Bool, true, false, ◌⊎◌, inl, inr, List, [], ◌∷◌, ◌++◌, refl, ap, sym, ◌∙◌, append_assoc, subst, Some}
use Rattle.std.specs.Str.{chars, IsUtf8, encode_utf8_all}
use Rattle.std.proofs.lemmas.List.{append_cancel_right}
use Rattle.json5_grammar.specs.Language.Blanks.{Blanks}
use Rattle.json5_grammar.specs.Language.Characters.{NotBegun}
use Rattle.json5_grammar.specs.Language.Trees.{Tree, Trees, Members, array, object, no_more, no_member}
use Rattle.json5_grammar.specs.Language.Values.{Val, is_null, is_true, is_false, is_number, is_text, is_empty_array, is_array, is_empty_object, is_object, ElementList, last as last_element, next, MemberList, last_member, next_member}
use Rattle.json5_grammar.proofs.ValueHeads.{key_spelling}
use Rattle.json5_lexemes.specs.LastTokens.{LastToken}
use Rattle.json5_lexemes.specs.LastTokens as last
use Rattle.json5_lexemes.specs.Plain.{KeepsPlain, Plain, PlainText}
use Rattle.json5_lexemes.specs.Plain as plain
use Rattle.json5_lexemes.specs.SameLexemes.{is_word_part}
use Rattle.json5_lexemes.specs.Spans.{Spans}
use Rattle.json5_lexemes.specs.Spans as spans
use Rattle.json5_lexemes.proofs.DocumentLexemes.{blanks_stop, not_part}
use Rattle.json5_lexemes.proofs.PlainSeams.{seam, blank_seam, value_seam, key_seam, key_begins, value_begins, entry_turn, after_stops, after_turn}
use Rattle.json5_lexemes.proofs.PlainTokens.{plain_close, plain_comma}
use Rattle.json5_lexemes.proofs.TokensSpanned.{joined, sign_apart, blanks_span, value_alone}
use Rattle.json5_walk.specs.Seams.{WholeTokens}
use Rattle.json5_walk.specs.declared.place.Place.{Place}
use Rattle.json5_edit.specs.Places.{IsPart, IsValue, Leads}
use Rattle.json5_edit.specs.Pieces.{IsName, name}
use Rattle.json5_edit.specs.Spots.{EndsWithValue, Goes}
use Rattle.json5_edit.specs.declared.paths.Step.{Step}
use Rattle.json5_edit.proofs.PiecesJoined.{no_characters}
use Rattle.json5_edit.proofs.PlainPlaces.{part_stays, apart, spanned, entry_ends, plain_within}
use Rattle.json5_edit.proofs.Seams.{goes_ends, goes_begins, BeginsEntry, begins_element, begins_member, BeginsClosing}

-- ---- after an entry

-- what follows a value is plain, and the value's last token is no comma
record Left (k : Bool) (x : List ℕ) : Type 0 where
  kind : LastToken
  no_comma : kind ≢ last.comma
  rest : Plain k kind x

after_value : {k : Bool} {l : LastToken} {value : List ℕ} {t : Tree} (z : List ℕ) → Val value t → NotBegun is_word_part z → Plain k l (value ++ z) → Left k z
after_value z v n p = let f = value_seam z v n p in record { kind = f.kind; no_comma = f.no_comma; rest = f.rest }

after_entry : {k : Bool} {l : LastToken} {value : List ℕ} {t : Tree} (n z : List ℕ) → (n ≡ []) ⊎ IsName n → Val value t → NotBegun is_word_part z → Plain k l ((n ++ value) ++ z) → Left k z
after_entry {k = k} {l = l} {value = value} n z (inl e) v stops p = after_value z v stops (subst (λ m. Plain k l ((m ++ value) ++ z)) e p)
after_entry {k = k} {l = l} {value = value} n z (inr (name {k = key} {b = b} {w = w} text before after)) v stops p =
    let whole : ((key ++ (b ++ 58 ∷ w)) ++ value) ++ z ≡ key ++ (b ++ 58 ∷ (w ++ (value ++ z))) =
    append_assoc (key ++ (b ++ 58 ∷ w)) value z ∙ append_assoc key (b ++ 58 ∷ w) (value ++ z) ∙ ap (λ x. key ++ x) (append_assoc b (58 ∷ w) (value ++ z)) in
    let f = key_seam (w ++ (value ++ z)) text before (subst (Plain k l) whole p) in
    after_value z v stops (blank_seam (value ++ z) after f.value).rest

stops_there : (r : Tree) (x : List ℕ) → Goes true r x → NotBegun is_word_part x
stops_there r x g = after_stops (entry_ends (goes_ends r x g))

-- after a comma an entry comes, and it is plain after any token
turned : {k : Bool} {x : List ℕ} (m : LastToken) → BeginsEntry x ⊎ BeginsClosing x → Plain k last.comma x → Plain k m x
turned {k = k} m (inl (begins_element t r p)) q = subst (Plain k m) (sym p.split) (entry_turn m r p.blank (value_begins p.value) (subst (Plain k last.comma) p.split q))
turned {k = k} m (inl (begins_member u r e key)) q = subst (Plain k m) (sym key.split) (entry_turn m r key.blank (key_begins (key_spelling key.key)) (subst (Plain k last.comma) key.split q))
turned {k = k} m (inr (c, r, h, i)) q =
    let f = blank_seam (c ∷ r) i.blank (subst (Plain k last.comma) i.split q) in
    absurd ((plain_close c h f.rest).0 refl)

-- ---- an entry goes

-- with the comma after it
pub cut_with_comma : {k : Bool} {x value : List ℕ} {t : Tree} (rest n end w : List ℕ) (r : Tree) → WholeTokens false x → (n ≡ []) ⊎ IsName n → Val value t → Blanks w → end ≡ w ++ 44 ∷ [] → Goes true r (end ++ rest) → Goes false r rest
    → Plain k last.sign (x ++ ((n ++ value) ++ (end ++ rest))) → Plain k last.sign (x ++ rest)
cut_with_comma {k = k} {value = value} rest n end w r tokens named v b is goes after p =
    let s = spanned tokens in
    let all = (n ++ value) ++ (end ++ rest) in
    let f = seam all s.spans (apart s all) p in
    let left = after_entry n (end ++ rest) named v (stops_there r (end ++ rest) goes) f.rest in
    let gap = blank_seam (44 ∷ rest) b (subst (Plain k left.kind) (ap (λ z. z ++ rest) is ∙ append_assoc w (44 ∷ []) rest) left.rest) in
    f.again rest (apart s rest) (turned s.kind (goes_begins r rest after) (plain_comma gap.rest))

-- with no comma, after a bracket
pub cut_alone : {k : Bool} {x value : List ℕ} {t : Tree} (rest n : List ℕ) (r : Tree) → Spans last.sign x last.sign → (n ≡ []) ⊎ IsName n → Val value t → Goes true r rest
    → Plain k last.sign (x ++ ((n ++ value) ++ rest)) → Plain k last.sign (x ++ rest)
cut_alone {value = value} rest n r i named v goes p =
    let all = (n ++ value) ++ rest in
    let f = seam all i (sign_apart all) p in
    let left = after_entry n rest named v (stops_there r rest goes) f.rest in
    f.again rest (sign_apart rest) (after_turn last.sign (λ e. cc) (entry_ends (goes_ends r rest goes)) left.rest)

-- with the comma before it, after a value
pub cut_after_value : {k : Bool} {x before after value : List ℕ} {t : Tree} (rest n : List ℕ) (r : Tree) → EndsWithValue x → Blanks before → Blanks after → (n ≡ []) ⊎ IsName n → Val value t → Goes true r rest
    → Plain k last.sign (x ++ (before ++ (44 ∷ (after ++ ((n ++ value) ++ rest))))) → Plain k last.sign (x ++ (before ++ (after ++ rest)))
cut_after_value {x = x} {before = before} {after = after} {value = value} rest n r (head, s, t, is, tokens, val) b a named v goes p =
    let h = spanned tokens in
    let alone = value_alone val in
    let i : Spans last.sign x alone.kind = subst (λ z. Spans last.sign z alone.kind) (sym is) (joined s h.spans (apart h s) (alone.spans h.kind)) in
    let entry = (n ++ value) ++ rest in
    let stops = stops_there r rest goes in
    let f = seam (before ++ (44 ∷ (after ++ entry))) i (λ e. blanks_stop (44 ∷ (after ++ entry)) b (not_part 44 refl)) p in
    let first = blank_seam (44 ∷ (after ++ entry)) b f.rest in
    let second = blank_seam entry a (plain_comma first.rest) in
    let left = after_entry n rest named v stops second.rest in
    let now = after_turn alone.kind alone.no_comma (entry_ends (goes_ends r rest goes)) left.rest in
    f.again (before ++ (after ++ rest)) (λ e. blanks_stop (after ++ rest) b (blanks_stop rest a stops)) (first.again alone.kind (after ++ rest) (second.again alone.kind rest now))

-- ---- before the first entry

some_elements : {m : List ℕ} (ts : Trees) → ElementList m ts → ts ≡ no_more → ⊥
some_elements ts (last_element b v c d) e = cc
some_elements ts (next b v c es) e = cc

some_members : {m : List ℕ} (ps : Members) → MemberList m ps → ps ≡ no_member → ⊥
some_members ps (last_member a c) e = cc
some_members ps (next_member a ms) e = cc

-- a value with no entry is blanks in brackets
empty_array : (y : List ℕ) (t : Tree) → Val y t → t ≡ array no_more → (w : List ℕ) × Blanks w × (y ≡ 91 ∷ (w ++ 93 ∷ []))
empty_array y t (is_empty_array {w = w} b) e = (w, b, refl)
empty_array y t (is_array {ts = ts} es) e = absurd (some_elements ts es (cc))
empty_array y t is_null e = absurd (cc)
empty_array y t is_true e = absurd (cc)
empty_array y t is_false e = absurd (cc)
empty_array y t (is_number a) e = absurd (cc)
empty_array y t (is_text a) e = absurd (cc)
empty_array y t (is_empty_object b) e = absurd (cc)
empty_array y t (is_object ms) e = absurd (cc)

empty_object : (y : List ℕ) (t : Tree) → Val y t → t ≡ object no_member → (w : List ℕ) × Blanks w × (y ≡ 123 ∷ (w ++ 125 ∷ []))
empty_object y t (is_empty_object {w = w} b) e = (w, b, refl)
empty_object y t (is_object {ps = ps} ms) e = absurd (some_members ps ms (cc))
empty_object y t is_null e = absurd (cc)
empty_object y t is_true e = absurd (cc)
empty_object y t is_false e = absurd (cc)
empty_object y t (is_number a) e = absurd (cc)
empty_object y t (is_text a) e = absurd (cc)
empty_object y t (is_empty_array b) e = absurd (cc)
empty_object y t (is_array es) e = absurd (cc)

-- what a closing bracket makes an empty collection ends with an opening one
pub opening_array : (x : List ℕ) → Val (x ++ 93 ∷ []) (array no_more) → Spans last.sign x last.sign
opening_array x v =
    let (w, b, is) = empty_array (x ++ 93 ∷ []) (array no_more) v refl in
    subst (λ z. Spans last.sign z last.sign) (sym (append_cancel_right x (91 ∷ w) (93 ∷ []) is)) (spans.sign refl (blanks_span last.sign b))

pub opening_object : (x : List ℕ) → Val (x ++ 125 ∷ []) (object no_member) → Spans last.sign x last.sign
opening_object x v =
    let (w, b, is) = empty_object (x ++ 125 ∷ []) (object no_member) v refl in
    subst (λ z. Spans last.sign z last.sign) (sym (append_cancel_right x (123 ∷ w) (125 ∷ []) is)) (spans.sign refl (blanks_span last.sign b))

-- ---- in a document

empty_plain : (k : Bool) → PlainText k []
empty_plain k = subst (Plain k last.sign) (sym no_characters) plain.ends

-- a document is as plain as before where the collection in the place is
pub keeps_within : (bytes old new text made : List ℕ) (path : List Step) (p : Place) → IsUtf8 bytes → IsUtf8 new → new ≡ text → Leads bytes path (Some p) → ((before o after : List ℕ) → IsPart bytes p before o after → old ≡ encode_utf8_all o) → IsValue p.room (chars text) → KeepsPlain old text → ((before o after : List ℕ) → IsPart bytes p before o after → made ≡ encode_utf8_all before ++ (new ++ encode_utf8_all after)) → KeepsPlain bytes made
keeps_within bytes old new text made path p u v is leads there fits keeps puts k was = plain_within bytes [] new text made path p u v is leads fits (λ c a b. keeps c (part_stays bytes old path p u leads there c a)) puts k was (empty_plain k)
