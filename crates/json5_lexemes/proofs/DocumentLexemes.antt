-- A document has a list of lexemes, which spells its tree.
use Rattle.std.proofs.Common.{◌≡◌, ◌≢◌, ℕ, Bool, true, false, not, ◌||◌, List, [], ◌∷◌, ◌++◌, refl, sym, ap, subst, append_assoc, arith}
use Rattle.std.specs.Prelude.{◌==◌}
use Rattle.std.proofs.lemmas.Bool.Decides.{nat_tests}
use Rattle.std.proofs.lemmas.List.{append-nil}
use Rattle.json5_grammar.specs.Language.Blanks.{Blanks, LastBlanks}
use Rattle.json5_grammar.specs.Language.Blanks as blanks
use Rattle.json5_grammar.specs.Language.Characters.{is_blank, is_terminator, slash_sign, star_sign, comma_sign, colon_sign, left_bracket, right_bracket, left_brace, right_brace, NotBegun, Each, no_char}
use Rattle.json5_grammar.specs.Language.Strings.{is_quote}
use Rattle.json5_grammar.specs.Language.Documents.{Doc}
use Rattle.json5_grammar.specs.Language.Trees.{Tree, Trees, Members, array, object, no_more, more, no_member, member}
use Rattle.json5_grammar.specs.Language.Values.{KeyText, Val, is_null, is_true, is_false, is_number, is_text, is_empty_array, is_array, is_empty_object, is_object, ElementList, last, next, MemberList, last_member, next_member, Member, entry, LastComma, no_last_comma, last_comma}
use Rattle.json5_grammar.proofs.BlanksRead.{printable_no_blank}
use Rattle.json5_grammar.proofs.ValuesRead.{regroup, regroup_pair}
use Rattle.json5_lexemes.specs.SameLexemes.{is_separator, is_sign, is_word_part, is_line_part}
use Rattle.json5_lexemes.specs.Lexemes.{Lexemes}
use Rattle.json5_lexemes.specs.Lexemes as lexemes
use Rattle.json5_lexemes.specs.Tokens.{is_comment, without_comments, Scalar, Tokens, ElementTokens, MemberTokens, scalar, array_begins, object_begins, array_ends, element, object_ends, member_begins, Spells}
use Rattle.json5_lexemes.specs.Tokens as tokens
use Rattle.json5_lexemes.proofs.OneList.{part_apart, quote_no_slash, each_head}
use Rattle.json5_lexemes.proofs.WordParts.{IsToken, a_word, a_string, scalar_token, key_token}

-- the text has a list of lexemes, and its tokens are ls
record Has (x : List ℕ) (ls : List (List ℕ)) : Type 0 where
  list : List (List ℕ)
  lexed : Lexemes x list
  kept : without_comments list ≡ ls

-- the text has such tokens
record Found (P : List (List ℕ) → Type 0) (x : List ℕ) : Type 0 where
  list : List (List ℕ)
  has : Has x list
  holds : P list

-- ---- signs and separators

has_nothing : Has [] []
has_nothing = record { list = []; lexed = lexemes.no_lexeme; kept = refl }

has_separator : (c : ℕ) {r : List ℕ} {ls : List (List ℕ)} → is_separator c ≡ true → Has r ls → Has (c ∷ r) ls
has_separator c p h = record { list = h.list; lexed = lexemes.separator p h.lexed; kept = h.kept }

pub sign_no_comment : (c : ℕ) → is_sign c ≡ true → (c == slash_sign) ≡ false
sign_no_comment c h = grind (arith, nat_tests)

has_sign : (c : ℕ) {r : List ℕ} {ls : List (List ℕ)} → is_sign c ≡ true → Has r ls → Has (c ∷ r) ((c ∷ []) ∷ ls)
has_sign c p h = record { list = (c ∷ []) ∷ h.list; lexed = lexemes.sign p h.lexed; kept = rw (sign_no_comment c p) (ap (λ z. (c ∷ []) ∷ z) h.kept) }

-- ---- blanks

pub blank_separates : (c : ℕ) → is_blank c ≡ true → is_separator c ≡ true
blank_separates c h = by_comma (c == comma_sign) (is_blank c) h
  where
    by_comma : (a b : Bool) → b ≡ true → (a || b) ≡ true
    by_comma true b h = refl
    by_comma false b h = h

pub terminator_blank : (c : ℕ) → is_terminator c ≡ true → is_blank c ≡ true
terminator_blank c h = grind (arith, nat_tests)

pub not_part : (c : ℕ) → is_separator c ≡ true → is_word_part c ≡ false
not_part c h = rw h refl

slash_no_part : is_word_part slash_sign ≡ false
slash_no_part = rw (printable_no_blank slash_sign refl) refl

pub sign_no_part : (c : ℕ) → is_sign c ≡ true → is_word_part c ≡ false
sign_no_part c h = by_separator (is_separator c) (is_sign c) (is_quote c || (c == slash_sign)) h
  where
    by_separator : (a b d : Bool) → b ≡ true → not (a || (b || d)) ≡ false
    by_separator true b d h = refl
    by_separator false b d h = rw h refl

-- blanks begin no word
pub blanks_stop : {w : List ℕ} (r : List ℕ) → Blanks w → NotBegun is_word_part r → NotBegun is_word_part (w ++ r)
blanks_stop r blanks.empty n = n
blanks_stop r (blanks.blank {c = c} p b) n = not_part c (blank_separates c p)
blanks_stop r (blanks.line c e t b) n = slash_no_part
blanks_stop r (blanks.block i b) n = slash_no_part

has_line : {x r : List ℕ} {ls : List (List ℕ)} → Each is_line_part x → NotBegun is_line_part r → Has r ls → Has (slash_sign ∷ slash_sign ∷ x ++ r) ls
has_line {x = x} e n h = record { list = (slash_sign ∷ slash_sign ∷ x) ∷ h.list; lexed = lexemes.line e no_char n h.lexed; kept = h.kept }

-- blanks have comments alone
has_blanks : {w : List ℕ} (r : List ℕ) (ls : List (List ℕ)) → Blanks w → Has r ls → Has (w ++ r) ls
has_blanks r ls blanks.empty h = h
has_blanks r ls (blanks.blank {c = c} p b) h = has_separator c (blank_separates c p) (has_blanks r ls b h)
has_blanks r ls (blanks.line {x = x} c {s = s} e t b) h =
    subst (λ z. Has (slash_sign ∷ slash_sign ∷ z) ls) (sym (append_assoc x (c ∷ s) r)) (has_line e (rw t refl) (has_separator c (blank_separates c (terminator_blank c t)) (has_blanks r ls b h)))
has_blanks r ls (blanks.block {x = x} {s = s} i b) h =
    let k = has_blanks r ls b h in
    subst (λ z. Has (slash_sign ∷ star_sign ∷ z) ls) (sym (append_assoc x (star_sign ∷ slash_sign ∷ s) r)) (record { list = (slash_sign ∷ star_sign ∷ x) ∷ k.list; lexed = lexemes.block i k.lexed; kept = k.kept })

has_last : {w : List ℕ} → LastBlanks w → Has w []
has_last (LastBlanks.blanks {w = w} b) = subst (λ z. Has z []) (append-nil w) (has_blanks [] [] b has_nothing)
has_last (blanks.open_line {w = w} {x = x} b e) = has_blanks (slash_sign ∷ slash_sign ∷ x) [] b (subst (λ z. Has (slash_sign ∷ slash_sign ∷ z) []) (append-nil x) (has_line e tt has_nothing))

pub last_stops : {w : List ℕ} → LastBlanks w → NotBegun is_word_part w
last_stops (LastBlanks.blanks {w = w} b) = subst (NotBegun is_word_part) (append-nil w) (blanks_stop [] b tt)
last_stops (blanks.open_line {x = x} b e) = blanks_stop (slash_sign ∷ slash_sign ∷ x) b slash_no_part

-- ---- tokens

-- a token, before what goes on no word
has_token : {s : List ℕ} (r : List ℕ) (ls : List (List ℕ)) → IsToken s → NotBegun is_word_part r → Has r ls → Has (s ++ r) (s ∷ ls)
has_token {s = s} r ls (a_word some e) n h = word s some e
  where
    word : (s : List ℕ) → s ≢ [] → Each is_word_part s → Has (s ++ r) (s ∷ ls)
    word [] some e = absurd (some refl)
    word (c ∷ w) some e = record { list = (c ∷ w) ∷ h.list; lexed = lexemes.word e n h.lexed; kept = rw (part_apart c (each_head e)).3 (ap (λ z. (c ∷ w) ∷ z) h.kept) }
has_token {s = s} r ls (a_string q t e k i) n h =
    subst (λ z. Has (z ++ r) (z ∷ ls)) (sym e) (record { list = (q ∷ t) ∷ h.list; lexed = lexemes.string k i h.lexed; kept = rw (quote_no_slash q k) (ap (λ z. (q ∷ t) ∷ z) h.kept) })

-- ---- values

scalar_found : {s : List ℕ} {t : Tree} (r : List ℕ) (ls : List (List ℕ)) → Scalar s t → NotBegun is_word_part r → Has r ls → Found (λ l. Tokens l t ls) (s ++ r)
scalar_found {s = s} r ls a n h = record { list = s ∷ ls; has = has_token r ls (scalar_token a) n h; holds = scalar a }

close_array : {w : List ℕ} (r : List ℕ) (ls : List (List ℕ)) → Blanks w → Has r ls → Found (λ l. ElementTokens l no_more ls) (w ++ right_bracket ∷ r)
close_array r ls b h = record { list = (right_bracket ∷ []) ∷ ls; has = has_blanks (right_bracket ∷ r) ((right_bracket ∷ []) ∷ ls) b (has_sign right_bracket refl h); holds = array_ends }

close_object : {w : List ℕ} (r : List ℕ) (ls : List (List ℕ)) → Blanks w → Has r ls → Found (λ l. MemberTokens l no_member ls) (w ++ right_brace ∷ r)
close_object r ls b h = record { list = (right_brace ∷ []) ∷ ls; has = has_blanks (right_brace ∷ r) ((right_brace ∷ []) ∷ ls) b (has_sign right_brace refl h); holds = object_ends }

array_found : (m r : List ℕ) (ls : List (List ℕ)) (ts : Trees) → Found (λ l. ElementTokens l ts ls) (m ++ right_bracket ∷ r) → Found (λ l. Tokens l (array ts) ls) ((left_bracket ∷ m ++ right_bracket ∷ []) ++ r)
array_found m r ls ts f =
    subst (λ z. Found (λ l. Tokens l (array ts) ls) (left_bracket ∷ z)) (sym (append_assoc m (right_bracket ∷ []) r))
    (record { list = (left_bracket ∷ []) ∷ f.list; has = has_sign left_bracket refl f.has; holds = array_begins f.holds })

object_found : (m r : List ℕ) (ls : List (List ℕ)) (ps : Members) → Found (λ l. MemberTokens l ps ls) (m ++ right_brace ∷ r) → Found (λ l. Tokens l (object ps) ls) ((left_brace ∷ m ++ right_brace ∷ []) ++ r)
object_found m r ls ps f =
    subst (λ z. Found (λ l. Tokens l (object ps) ls) (left_brace ∷ z)) (sym (append_assoc m (right_brace ∷ []) r))
    (record { list = (left_brace ∷ []) ∷ f.list; has = has_sign left_brace refl f.has; holds = object_begins f.holds })

comma_found : (P : List (List ℕ) → Type 0) (x : List ℕ) → Found P x → Found P (comma_sign ∷ x)
comma_found P x f = record { list = f.list; has = has_separator comma_sign refl f.has; holds = f.holds }

-- the last comma and the closing bracket
array_closed : {c : List ℕ} (r : List ℕ) (ls : List (List ℕ)) → LastComma c → Has r ls → Found (λ l. ElementTokens l no_more ls) (c ++ right_bracket ∷ r)
array_closed r ls no_last_comma h = close_array r ls blanks.empty h
array_closed r ls (last_comma {w = w} b) h = comma_found (λ l. ElementTokens l no_more ls) (w ++ right_bracket ∷ r) (close_array r ls b h)

object_closed : {c : List ℕ} (r : List ℕ) (ls : List (List ℕ)) → LastComma c → Has r ls → Found (λ l. MemberTokens l no_member ls) (c ++ right_brace ∷ r)
object_closed r ls no_last_comma h = close_object r ls blanks.empty h
object_closed r ls (last_comma {w = w} b) h = comma_found (λ l. MemberTokens l no_member ls) (w ++ right_brace ∷ r) (close_object r ls b h)

pub comma_stops : {c : List ℕ} (d : ℕ) (r : List ℕ) → is_sign d ≡ true → LastComma c → NotBegun is_word_part (c ++ d ∷ r)
comma_stops d r h no_last_comma = sign_no_part d h
comma_stops d r h (last_comma b) = not_part comma_sign refl

-- the value with the spelling s is found, whatever follows that goes on no word
record FoundAs (s : List ℕ) (t : Tree) : Type 0 where
  before : (r : List ℕ) (ls : List (List ℕ)) → NotBegun is_word_part r → Has r ls → Found (λ l. Tokens l t ls) (s ++ r)

-- a value, and blanks after it
value_then : {s v : List ℕ} {t : Tree} (r : List ℕ) (ls : List (List ℕ)) → FoundAs s t → Blanks v → NotBegun is_word_part r → Has r ls → Found (λ l. Tokens l t ls) (s ++ (v ++ r))
value_then {v = v} r ls f b n h = f.before (v ++ r) ls (blanks_stop r b n) (has_blanks r ls b h)

-- an element, and what follows it
one_element : {w s v : List ℕ} {t : Tree} (r : List ℕ) (ls : List (List ℕ)) (ts : Trees) → Blanks w → FoundAs s t → Blanks v → NotBegun is_word_part r → Found (λ l. ElementTokens l ts ls) r
    → Found (λ l. ElementTokens l (more t ts) ls) (w ++ (s ++ (v ++ r)))
one_element {s = s} {v = v} r ls ts bw f bv n g =
    let k = value_then r g.list f bv n g.has in
    record { list = k.list; has = has_blanks (s ++ (v ++ r)) k.list bw k.has; holds = element k.holds g.holds }

-- a member, and what follows it
one_member : {a k b w s v u : List ℕ} {escape_free : Bool} {t : Tree} (r : List ℕ) (ls : List (List ℕ)) (ps : Members) → Blanks a → KeyText k u escape_free → Blanks b → Blanks w → FoundAs s t → Blanks v
    → NotBegun is_word_part r → Found (λ l. MemberTokens l ps ls) r → Found (λ l. MemberTokens l (member u escape_free t ps) ls) (a ++ (k ++ (b ++ colon_sign ∷ (w ++ (s ++ (v ++ r))))))
one_member {k = k} {b = b} {w = w} {s = s} {v = v} r ls ps ba key bb bw f bv n g =
    let value = value_then r g.list f bv n g.has in
    let y : List ℕ = colon_sign ∷ (w ++ (s ++ (v ++ r))) in
    let ks : List (List ℕ) = (colon_sign ∷ []) ∷ value.list in
    let after : Has y ks = has_sign colon_sign refl (has_blanks (s ++ (v ++ r)) value.list bw value.has) in
    record {
      list = k ∷ ks;
      has = has_blanks (k ++ (b ++ y)) (k ∷ ks) ba (has_token (b ++ y) ks (key_token key) (blanks_stop y bb (sign_no_part colon_sign refl)) (has_blanks y ks bb after));
      holds = member_begins key value.holds g.holds;
    }

mutual
  -- a value, whatever follows that goes on no word
  value_found : {s : List ℕ} {t : Tree} → Val s t → (r : List ℕ) (ls : List (List ℕ)) → NotBegun is_word_part r → Has r ls → Found (λ l. Tokens l t ls) (s ++ r)
  value_found is_null r ls n h = scalar_found r ls tokens.is_null n h
  value_found is_true r ls n h = scalar_found r ls tokens.is_true n h
  value_found is_false r ls n h = scalar_found r ls tokens.is_false n h
  value_found (is_number a) r ls n h = scalar_found r ls (tokens.is_number a) n h
  value_found (is_text a) r ls n h = scalar_found r ls (tokens.is_text a) n h
  value_found (is_empty_array {w = w} b) r ls n h = array_found w r ls no_more (close_array r ls b h)
  value_found (is_array {m = m} {ts = ts} es) r ls n h = array_found m r ls ts (elements_found es r ls h)
  value_found (is_empty_object {w = w} b) r ls n h = object_found w r ls no_member (close_object r ls b h)
  value_found (is_object {m = m} {ps = ps} ms) r ls n h = object_found m r ls ps (members_found ms r ls h)

  -- elements and the closing bracket
  elements_found : {m : List ℕ} {ts : Trees} → ElementList m ts → (r : List ℕ) (ls : List (List ℕ)) → Has r ls → Found (λ l. ElementTokens l ts ls) (m ++ right_bracket ∷ r)
  elements_found (last {w = w} {s = s} {v = v} {c = c} {t = t} bw a bv k) r ls h =
      subst (Found (λ l. ElementTokens l (more t no_more) ls)) (sym (regroup w s v c (right_bracket ∷ r)))
      (one_element (c ++ right_bracket ∷ r) ls no_more bw (record { before = λ y ks n g. value_found a y ks n g }) bv (comma_stops right_bracket r refl k) (array_closed r ls k h))
  elements_found (next {w = w} {s = s} {v = v} {m = m} {t = t} {ts = ts} bw a bv es) r ls h =
      subst (Found (λ l. ElementTokens l (more t ts) ls)) (sym (regroup w s v (comma_sign ∷ m) (right_bracket ∷ r)))
      (one_element (comma_sign ∷ (m ++ right_bracket ∷ r)) ls ts bw (record { before = λ y ks n g. value_found a y ks n g }) bv (not_part comma_sign refl) (comma_found (λ l. ElementTokens l ts ls) (m ++ right_bracket ∷ r) (elements_found es r ls h)))

  -- members and the closing brace
  members_found : {m : List ℕ} {ps : Members} → MemberList m ps → (r : List ℕ) (ls : List (List ℕ)) → Has r ls → Found (λ l. MemberTokens l ps ls) (m ++ right_brace ∷ r)
  members_found (last_member {p = p} {c = c} {u = u} {escape_free = escape_free} {t = t} a k) r ls h =
      subst (Found (λ l. MemberTokens l (member u escape_free t no_member) ls)) (sym (append_assoc p c (right_brace ∷ r)))
      (member_found a (c ++ right_brace ∷ r) ls no_member (comma_stops right_brace r refl k) (object_closed r ls k h))
  members_found (next_member {p = p} {m = m} {u = u} {escape_free = escape_free} {t = t} {ps = ps} a ms) r ls h =
      subst (Found (λ l. MemberTokens l (member u escape_free t ps) ls)) (sym (append_assoc p (comma_sign ∷ m) (right_brace ∷ r)))
      (member_found a (comma_sign ∷ (m ++ right_brace ∷ r)) ls ps (not_part comma_sign refl) (comma_found (λ l. MemberTokens l ps ls) (m ++ right_brace ∷ r) (members_found ms r ls h)))

  member_found : {p u : List ℕ} {escape_free : Bool} {t : Tree} → Member p u escape_free t → (r : List ℕ) (ls : List (List ℕ)) (ps : Members) → NotBegun is_word_part r → Found (λ l. MemberTokens l ps ls) r
      → Found (λ l. MemberTokens l (member u escape_free t ps) ls) (p ++ r)
  member_found (entry {a = a} {k = k} {b = b} {w = w} {s = s} {v = v} {u = u} {escape_free = escape_free} {t = t} ba key bb bw vs bv) r ls ps n f =
      subst (Found (λ l. MemberTokens l (member u escape_free t ps) ls)) (sym (regroup_pair a k b w s v r)) (one_member r ls ps ba key bb bw (record { before = λ y ks n g. value_found vs y ks n g }) bv n f)

-- a document has lexemes that spell its tree
pub document_spelled : (limit : ℕ) (x : List ℕ) (t : Tree) → Doc limit x t → (ls : List (List ℕ)) × Lexemes x ls × Spells ls t
document_spelled limit x t d =
    let value = value_found d.value d.after [] (last_stops d.last) (has_last d.last) in
    let h = subst (λ z. Has z value.list) (sym d.whole) (has_blanks (d.text ++ d.after) value.list d.blank value.has) in
    (h.list, h.lexed, subst (λ z. Tokens z t []) (sym h.kept) value.holds)
