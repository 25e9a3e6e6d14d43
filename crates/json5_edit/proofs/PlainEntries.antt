-- A plain collection keeps plain with one plain entry more.
use Rattle.std.proofs.Common.{◌≡◌, ℕ, ◌-◌, Bool, true, false, List, [], ◌∷◌, ◌++◌, refl, ap, sym, ◌∙◌, append_assoc, subst, drop}
use Rattle.std.specs.Str.{chars, IsUtf8, encode_utf8_all}
use Rattle.std.proofs.lemmas.List.{append-nil}
use Rattle.std.proofs.lemmas.Str.{chars-encodes, chars-append}
use Rattle.json5_grammar.specs.Language.Blanks.{Blanks}
use Rattle.json5_grammar.specs.Language.Characters.{comma_sign}
use Rattle.json5_grammar.specs.Language.Trees.{Tree}
use Rattle.json5_grammar.proofs.ValueHeads.{key_spelling}
use Rattle.json5_styles.specs.Json.{JsonString}
use Rattle.json5_lexemes.specs.Plain.{Plain, KeepsPlain, PlainText, StaysPlain}
use Rattle.json5_lexemes.specs.Plain as plain
use Rattle.json5_lexemes.specs.Spans.{AfterEntry}
use Rattle.json5_lexemes.specs.Spans as spans
use Rattle.json5_lexemes.specs.LastTokens.{LastToken}
use Rattle.json5_lexemes.specs.LastTokens as last
use Rattle.json5_lexemes.proofs.DocumentLexemes.{sign_no_part}
use Rattle.json5_lexemes.proofs.PlainSeams.{seam, put_before, free_turn, BeginsFree, key_begins, value_begins, after_stops, after_turn, entry_put_after, entry_put_before}
use Rattle.json5_lexemes.proofs.TokensSpanned.{joined, value_alone, key_alone, SpansAlone}
use Rattle.json5_read.specs.declared.brackets.BracketKind.{BracketKind as Kind}
use Rattle.json5_read.specs.declared.brackets.BracketKind.TheVariants as kind
use Rattle.json5_edit.specs.Entries.{entries}
use Rattle.json5_edit.specs.Places.{IsValue}
use Rattle.json5_edit.specs.Pieces.{SpellsKey}
use Rattle.json5_edit.specs.Spots.{Goes, HasEntry, HasEnd, HasMember, Parts, first_element, first_member, SpellsEntry, spells_element, spells_member, AddsPlainly, comma_for}
use Rattle.json5_edit.specs.declared.paths.Before.{Before}
use Rattle.json5_edit.specs.declared.paths.Step.TheVariants as step
use Rattle.json5_edit.specs.declared.plain.End.{End}
use Rattle.json5_edit.proofs.Placed.{encoded}
use Rattle.json5_edit.proofs.PlainPlaces.{Spanned, spanned, apart, entry_ends}
use Rattle.json5_edit.proofs.PlainlyEdited.{goes_closed, cut_there, ahead, first_of, rest_there, same_rest, ascii_comma, ascii_utf8, comma_utf8, member_chars, last_closed, utf8_both}
use Rattle.json5_edit.proofs.Seams.{goes_ends}
use Rattle.json5_edit.proofs.Spotted.{IsOf, entries_joined, spells_value}

-- ---- an entry alone

-- an entry is whole tokens, and begins as an entry does
record EntryAlone (x : List ℕ) : Type 0 where
  alone : SpansAlone x
  begins : BeginsFree x

entry_alone : {k : Kind} {key x : List ℕ} {v : Tree} → SpellsEntry k key v x → EntryAlone x
entry_alone (spells_element v x val) = record { alone = value_alone val; begins = value_begins val }
entry_alone (spells_member k x u b v key val) =
    let a = key_alone key in
    let w = value_alone val in
    let f = key_begins key in
    record {
      alone = record { kind = w.kind; no_comma = w.no_comma; spans = λ l. joined (58 ∷ x) (a.spans l) (λ e. sign_no_part 58 refl) (spans.sign refl (w.spans last.sign)) };
      begins = record { first = f.first; more = f.more ++ 58 ∷ x; split = ap (λ z. z ++ 58 ∷ x) f.split; no_blank = f.no_blank; no_closing = f.no_closing; no_colon = f.no_colon; no_slash = f.no_slash };
    }

-- where it is plain, it is so after any token
turned : {k : Bool} {x : List ℕ} (m : LastToken) → BeginsFree x → Plain k last.sign x → Plain k m x
turned {k = k} {x = x} m f p = subst (Plain k m) (append-nil x) (free_turn m [] f refl (subst (Plain k last.sign) (sym (append-nil x)) p))

-- a string of JSON, a colon and a plain value are plain
pub member_plain : {k : Bool} {name value : List ℕ} → JsonString name → Plain k last.sign value → Plain k last.sign (name ++ 58 ∷ value)
member_plain s p = plain.string s (plain.colon p)

-- ---- at the end

last_plain_there : {k : Bool} {f rest x : List ℕ} (due : Bool) → Spanned due f → AfterEntry rest → EntryAlone x → Plain k last.sign (f ++ rest) → Plain k last.sign x → Plain k last.sign (f ++ (comma_for due ++ (x ++ rest)))
last_plain_there {rest = rest} true s e a p q = entry_put_after rest s.spans (a.alone.spans last.comma) a.alone.no_comma e p (turned last.comma a.begins q)
last_plain_there {rest = rest} {x = x} false s e a p q =
    let w = seam rest s.spans (apart s rest) p in
    w.again (x ++ rest) (apart s (x ++ rest)) (put_before rest (a.alone.spans s.kind) (λ z. after_stops e) (turned s.kind a.begins q) (after_turn a.alone.kind a.alone.no_comma e w.rest))

chars_comma : (due : Bool) → chars (comma_for due) ≡ comma_for due
unfolding lib.Utf8.encode
chars_comma true = ascii_comma
chars_comma false = chars-encodes [] refl

-- the characters of a text with two parts between its front and its back
four_chars : (front one two back f b : List ℕ) → IsUtf8 (encode_utf8_all f) → IsUtf8 one → IsUtf8 two → front ≡ encode_utf8_all f → back ≡ encode_utf8_all b → chars (encode_utf8_all f) ≡ f → chars (encode_utf8_all b) ≡ b → chars (front ++ (one ++ (two ++ back))) ≡ f ++ (chars one ++ (chars two ++ b))
four_chars front one two back f b u v w front_is back_is first last_is =
    ap (λ z. chars (z ++ (one ++ (two ++ back)))) front_is ∙ chars-append (encode_utf8_all f) (one ++ (two ++ back)) u
    ∙ ap (λ z. z ++ chars (one ++ (two ++ back))) first
    ∙ ap (λ z. f ++ z) (chars-append one (two ++ back) v ∙ ap (λ z. chars one ++ z) (chars-append two back w ∙ ap (λ z. chars two ++ z) (ap chars back_is ∙ last_is)))

pub last_plain : (k : Kind) (limit : ℕ) (end : End) (bytes new front back entry comma : List ℕ) → IsUtf8 bytes → IsUtf8 entry → (h : HasEnd k limit bytes end) → front ≡ encode_utf8_all h.end.front → back ≡ encode_utf8_all h.end.rest → comma ≡ comma_for end.comma → new ≡ front ++ (comma ++ (entry ++ back)) → AddsPlainly k entry bytes new
last_plain k limit end bytes new front back entry comma utf8 entry_utf8 h front_is back_is comma_at now key v spelled comments was came =
    let p = h.end in
    let (u, none, goes) = last_closed h in
    let ends : AfterEntry p.rest = entry_ends (goes_ends u p.rest (by_due end.comma u p.rest none goes)) in
    let (whole, scalar_front, scalar_rest) = cut_there utf8 p in
    let due : List ℕ = comma_for end.comma in
    let spelled_new : chars new ≡ p.front ++ (due ++ (chars entry ++ p.rest)) =
    ap chars (now ∙ ap (λ z. front ++ (z ++ (entry ++ back))) comma_at)
    ∙ four_chars front due entry back p.front p.rest (encoded p.front scalar_front) (comma_utf8 end.comma) entry_utf8 front_is back_is (chars-encodes p.front scalar_front) (chars-encodes p.rest scalar_rest)
    ∙ ap (λ z. p.front ++ (z ++ (chars entry ++ p.rest))) (chars_comma end.comma) in
    subst (Plain comments last.sign) (sym spelled_new) (last_plain_there end.comma (spanned p.passed) ends (entry_alone spelled) (subst (Plain comments last.sign) p.split was) came)
  where
    by_due : (due : Bool) (u : Tree) (x : List ℕ) → entries u ≡ [] → Goes due u x → Goes true u x
    by_due true u x e g = g
    by_due false u x e g = goes_closed u x e g

-- a value alone as the last element
pub value_plain : (bytes new value : List ℕ) (limit : ℕ) → IsValue limit (chars value) → AddsPlainly kind.Array value bytes new → StaysPlain bytes value new
value_plain bytes new value limit (v, val, d) adds = adds [] v (spells_element v (chars value) val)

-- a member whose key is a string of JSON
pub member_stays : (bytes new : List ℕ) (limit : ℕ) (key value name entry : List ℕ) → IsUtf8 name → IsUtf8 value → SpellsKey key name → JsonString (chars name) → entry ≡ name ++ ((58 ∷ []) ++ value) → IsValue limit (chars value) → AddsPlainly kind.Object entry bytes new → StaysPlain bytes value new
member_stays bytes new limit key value name entry name_utf8 value_utf8 (u, b, spelled, means) s is (v, val, d) adds comments was came =
    let parts = member_chars value name entry name_utf8 value_utf8 is in
    adds (encode_utf8_all u) v (subst (SpellsEntry kind.Object (encode_utf8_all u) v) (sym parts) (spells_member (chars name) (chars value) u b v spelled val)) comments was (subst (Plain comments last.sign) (sym parts) (member_plain s came))

-- ---- before an element

-- a text goes on with blanks and what begins as an element does
record ElementAhead (x : List ℕ) : Type 0 where
  blank : List ℕ
  phrase : List ℕ
  rest : List ℕ
  split : x ≡ blank ++ (phrase ++ rest)
  is_blank : Blanks blank
  begins : BeginsFree phrase

element_ahead : {u t r : Tree} {x : List ℕ} → Parts kind.Array u t r → Goes false u x → ElementAhead x
element_ahead (first_element t us) (y, p, tl) = record { blank = p.front; phrase = p.phrase; rest = y; split = p.split; is_blank = p.blank; begins = value_begins p.value }

pub element_plain : (i limit n : ℕ) (bytes new front back value : List ℕ) → IsUtf8 bytes → IsUtf8 value → (h : HasEntry (step.Index i) limit bytes n) → front ≡ encode_utf8_all h.entry.spot.front → back ≡ drop n bytes → IsValue (limit - 1) (chars value) → new ≡ front ++ (value ++ ((44 ∷ []) ++ back)) → StaysPlain bytes value new
element_plain i limit n bytes new front back value utf8 value_utf8 h front_is back_at (v, val, d) now comments was came =
    let p = h.entry.spot in
    let back_is : back ≡ encode_utf8_all p.rest = back_at ∙ rest_there utf8 p in
    let (whole, scalar_front, scalar_rest) = cut_there utf8 p in
    let a = ahead (step.Index i) limit n kind.Array bytes back refl utf8 h back_at in
    let e = element_ahead a.parts a.goes in
    let rest_is : p.rest ≡ e.blank ++ (e.phrase ++ e.rest) = sym (ap chars back_is ∙ chars-encodes p.rest scalar_rest) ∙ e.split in
    let s = spanned p.passed in
    let f = value_alone val in
    let spelled : chars new ≡ p.front ++ (chars value ++ (comma_sign ∷ (e.blank ++ (e.phrase ++ e.rest)))) =
    ap chars now
    ∙ four_chars front value (44 ∷ []) back p.front p.rest (encoded p.front scalar_front) value_utf8 ascii_utf8 front_is back_is (chars-encodes p.front scalar_front) (chars-encodes p.rest scalar_rest)
    ∙ ap (λ z. p.front ++ (chars value ++ (z ++ p.rest))) ascii_comma
    ∙ ap (λ z. p.front ++ (chars value ++ (comma_sign ∷ z))) rest_is in
    subst (Plain comments last.sign) (sym spelled)
    (entry_put_before e.rest s.spans (apart s _) (apart s _) (f.spans s.kind) e.is_blank e.begins (subst (λ z. Plain comments last.sign (p.front ++ z)) rest_is (subst (Plain comments last.sign) p.split was)) (turned s.kind (value_begins val) came))

-- ---- before a member

member_ahead : {u t r : Tree} {x : List ℕ} → Parts kind.Object u t r → Goes false u x → ElementAhead x
member_ahead (first_member u b t qs) (y, z, k, v, tl) = record { blank = k.front; phrase = k.spelling; rest = y; split = k.split; is_blank = k.blank; begins = key_begins (key_spelling k.key) }

-- what goes on there begins with a member
member_there : {b : Before} {limit n : ℕ} {bytes : List ℕ} → (h : HasMember b limit bytes n) → ElementAhead h.spot.rest
member_there {limit = limit} {bytes = bytes} h =
    let kt : IsOf kind.Object h.before = h.same_kind ∙ h.kind in
    let (u, same, goes, small, joins) = h.spot.back h.tree (spells_value limit (chars bytes) h.tree h.value h.shallow) in
    let ku : IsOf kind.Object u = same ∙ kt in
    let left : entries u ≡ (h.key, h.next) ∷ h.after = same_rest (entries h.before) (entries u) ((h.key, h.next) ∷ h.after) (sym (entries_joined kind.Object h.before u kt ku) ∙ sym (ap entries joins) ∙ h.all) in
    member_ahead (first_of kind.Object u h.next h.key h.after ku left).parts goes

pub member_plain_there : (b : Before) (limit n : ℕ) (bytes new front back key name value : List ℕ) → IsUtf8 bytes → IsUtf8 name → IsUtf8 value → (h : HasMember b limit bytes n) → front ≡ encode_utf8_all h.spot.front → back ≡ encode_utf8_all h.spot.rest → (v : Tree) → SpellsEntry kind.Object key v (chars (name ++ value)) → new ≡ front ++ (name ++ (value ++ ((44 ∷ []) ++ back))) → (comments : Bool) → PlainText comments bytes → PlainText comments (name ++ value) → PlainText comments new
member_plain_there b limit n bytes new front back key name value utf8 name_utf8 value_utf8 h front_is back_is v spells now comments was came =
    let p = h.spot in
    let (whole, scalar_front, scalar_rest) = cut_there utf8 p in
    let e = member_there h in
    let s = spanned p.passed in
    let f = entry_alone spells in
    let entry : List ℕ = name ++ value in
    let spelled : chars new ≡ p.front ++ (chars entry ++ (comma_sign ∷ (e.blank ++ (e.phrase ++ e.rest)))) =
    ap chars (now ∙ ap (λ z. front ++ z) (sym (append_assoc name value ((44 ∷ []) ++ back))))
    ∙ four_chars front entry (44 ∷ []) back p.front p.rest (encoded p.front scalar_front) (utf8_both name value name_utf8 value_utf8) ascii_utf8 front_is back_is (chars-encodes p.front scalar_front) (chars-encodes p.rest scalar_rest)
    ∙ ap (λ z. p.front ++ (chars entry ++ (z ++ p.rest))) ascii_comma
    ∙ ap (λ z. p.front ++ (chars entry ++ (comma_sign ∷ z))) e.split in
    subst (Plain comments last.sign) (sym spelled)
    (entry_put_before e.rest s.spans (apart s _) (apart s _) (f.alone.spans s.kind) e.is_blank e.begins (subst (λ z. Plain comments last.sign (p.front ++ z)) e.split (subst (Plain comments last.sign) p.split was)) (turned s.kind f.begins came))

-- what stays as plain as a collection stays as plain as the document around it
pub stays_within : (text old value new : List ℕ) → KeepsPlain text old → StaysPlain old value new → StaysPlain text value new
stays_within text old value new keeps stays comments was came = stays comments (keeps comments was) came
