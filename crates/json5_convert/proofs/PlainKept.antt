-- A document that is JSON already, but for comments, stays as it is.
use Rattle.std.proofs.Common.{◌≡◌, ℕ, Bool, true, false, ◌||◌, List, [], ◌∷◌, ◌++◌, refl, subst, append_assoc, arith}
use Rattle.std.specs.Prelude.{◌==◌}
use Rattle.std.specs.Str.{chars}
use Rattle.std.proofs.lemmas.Bool.{both_ways}
use Rattle.std.proofs.lemmas.Bool.Decides.{nat_tests}
use lib.Chars.{codes}
use Rattle.json5_grammar.specs.Language.Characters.{is_blank, is_in, comma_sign, colon_sign, left_bracket, right_bracket, left_brace, right_brace, NotBegun, Each, char}
use Rattle.json5_grammar.specs.Language.Documents.{Doc, max_depth}
use Rattle.json5_grammar.specs.Language.Numbers.{Number, Num, is_infinite, is_nan, is_hexadecimal, is_integer, is_decimal, Sign, no_sign, plus, minus, Integer, lone_zero, nonzero}
use Rattle.json5_grammar.specs.Language.Trees.{Tree, Trees, Members}
use Rattle.json5_grammar.specs.Language.Values.{Val, is_null, is_true, is_false, is_number, is_text, is_empty_array, is_array, is_empty_object, is_object, ElementList, last as last_element, next, MemberList, last_member, next_member, Member, entry, LastComma, no_last_comma, last_comma}
use Rattle.json5_grammar.proofs.CharacterTests.{each_weaken}
use Rattle.json5_grammar.proofs.CommonLemmas.{neq_from}
use Rattle.json5_grammar.proofs.ValuesRead.{regroup, regroup_pair}
use Rattle.json5_read.specs.TreeMeanings.{datum_of, items_of, fields_of}
use Rattle.json5_styles.specs.Json.{json_number}
use Rattle.json5_styles.specs.Json as json
use Rattle.json5_styles.specs.JsonTexts.{is_json, is_json_number, items_are_json, fields_are_json}
use Rattle.json5_lexemes.specs.Plain.{JsonWord, Plain, PlainText}
use Rattle.json5_lexemes.specs.Plain as plain
use Rattle.json5_lexemes.specs.SameLexemes.{is_sign, is_word_part}
use Rattle.json5_lexemes.specs.WithoutComments.{WithoutComments}
use Rattle.json5_lexemes.specs.WithoutComments as without
use Rattle.json5_lexemes.specs.LastTokens.{LastToken}
use Rattle.json5_lexemes.specs.LastTokens as last
use Rattle.json5_lexemes.proofs.DocumentLexemes.{blank_separates, blanks_stop, last_stops, not_part, sign_no_part}
use Rattle.json5_lexemes.proofs.PlainDocuments.{document_made}
use Rattle.json5_lexemes.proofs.PlainSeams.{blank_seam, value_seam, key_seam}
use Rattle.json5_lexemes.proofs.PlainTokens.{plain_open, plain_comma, plain_word}
use Rattle.json5_lexemes.proofs.WordParts.{each_part, run_part}
use Rattle.json5_convert.specs.Comments.{Comments, begins_neither}
use Rattle.json5_convert.specs.Comments as comments
use Rattle.json5_convert.specs.Respelled.{IsMade}
use Rattle.json5_convert.specs.Spellings.{has_comments}
use Rattle.json5_convert.specs.declared.spelling.Spelling.{Spelling}
use Rattle.json5_convert.proofs.CommentsPassed.{neither_run}
use Rattle.json5_convert.proofs.OneComments.{document_has_comments, part_neither, separator_neither, sign_neither}

-- ---- JSON has neither infinity nor not-a-number

-- such a number begins so, behind a minus if it has one
abbrev begins_other : ℕ → Bool
begins_other c = (c == 73) || ((c == 78) || (c == 43))

nonzero_so : (c : ℕ) → is_in 49 57 c ≡ true → begins_other c ≡ false
nonzero_so c h = grind (arith, nat_tests)

integer_so : {i : List ℕ} (c : ℕ) (r x : List ℕ) → Integer i → i ++ x ≡ c ∷ r → begins_other c ≡ false
integer_so c r x lone_zero e = let same : 48 ≡ c = cc in subst (λ z. begins_other z ≡ false) same refl
integer_so c r x (nonzero {c = d} h k) e = let same : d ≡ c = cc in subst (λ z. begins_other z ≡ false) same (nonzero_so d h)

first_so : {s : List ℕ} (c : ℕ) (r : List ℕ) → JsonWord s → s ≡ c ∷ r → begins_other c ≡ false
first_so c r plain.is_null e = let same : 110 ≡ c = cc in subst (λ z. begins_other z ≡ false) same refl
first_so c r plain.is_true e = let same : 116 ≡ c = cc in subst (λ z. begins_other z ≡ false) same refl
first_so c r plain.is_false e = let same : 102 ≡ c = cc in subst (λ z. begins_other z ≡ false) same refl
first_so c r (plain.is_number (json_number {f = f} {e = x} json.no_minus i k d)) e = integer_so c r (f ++ x) i e
first_so c r (plain.is_number (json_number json.minus i k d)) e = let same : 45 ≡ c = cc in subst (λ z. begins_other z ≡ false) same refl

no_digit_minus : (c : ℕ) → is_in 49 57 c ≡ true → c ≡ 45 → ⊥
no_digit_minus c h e = grind (arith, nat_tests)

integer_no_minus : {i : List ℕ} (r x : List ℕ) → Integer i → i ++ x ≡ 45 ∷ r → ⊥
integer_no_minus r x lone_zero e = neq_from 48 45 refl (cc)
integer_no_minus r x (nonzero {c = d} h k) e = let same : d ≡ 45 = cc in no_digit_minus d h same

second_so : {s : List ℕ} (c : ℕ) (r : List ℕ) → JsonWord s → s ≡ 45 ∷ c ∷ r → begins_other c ≡ false
second_so c r plain.is_null e = absurd (neq_from 110 45 refl (cc))
second_so c r plain.is_true e = absurd (neq_from 116 45 refl (cc))
second_so c r plain.is_false e = absurd (neq_from 102 45 refl (cc))
second_so c r (plain.is_number (json_number {f = f} {e = x} json.no_minus i k d)) e = absurd (integer_no_minus (c ∷ r) (f ++ x) i e)
second_so c r (plain.is_number (json_number {i = i} {f = f} {e = x} json.minus a k d)) e = let rest : i ++ (f ++ x) ≡ c ∷ r = cc in integer_so c r (f ++ x) a rest

no_other : {g : List ℕ} {m : Bool} (c : ℕ) (w : List ℕ) → begins_other c ≡ true → Sign g m → JsonWord (g ++ c ∷ w) → ⊥
no_other c w h no_sign k = both_ways (begins_other c) (first_so c w k refl) h
no_other c w h plus k = both_ways (begins_other 43) (first_so 43 (c ∷ w) k refl) refl
no_other c w h minus k = both_ways (begins_other c) (second_so c w k refl) h

signed_parts : {g : List ℕ} {m : Bool} (c : ℕ) (w : List ℕ) → Each is_word_part (c ∷ w) → Sign g m → Each is_word_part (g ++ c ∷ w)
signed_parts c w e no_sign = e
signed_parts c w e plus = char (run_part 43 refl) e
signed_parts c w e minus = char (run_part 45 refl) e

signed_some : {g : List ℕ} {m : Bool} (c : ℕ) (w : List ℕ) → Sign g m → g ++ c ∷ w ≡ [] → ⊥
signed_some c w no_sign e = cc
signed_some c w plus e = cc
signed_some c w minus e = cc

-- a sign and a name aren't plain
no_name : {k : Bool} {l : LastToken} {g : List ℕ} {m : Bool} (r : List ℕ) (c : ℕ) (w : List ℕ) → begins_other c ≡ true → Each is_word_part (c ∷ w) → Sign g m → NotBegun is_word_part r → Plain k l ((g ++ c ∷ w) ++ r) → ⊥
no_name r c w h e g n p = no_other c w h g (plain_word (signed_some c w g) (signed_parts c w e g) n p).0

number_json : {k : Bool} {l : LastToken} {s : List ℕ} {n : Number} (r : List ℕ) → Num s n → NotBegun is_word_part r → Plain k l (s ++ r) → is_json_number n ≡ true
number_json r (is_infinite g) n p = absurd (no_name r 73 (codes "nfinity") refl (each_part (codes "Infinity") refl) g n p)
number_json r (is_nan g) n p = absurd (no_name r 78 (codes "aN") refl (each_part (codes "NaN") refl) g n p)
number_json r (is_hexadecimal x g h e b) n p = refl
number_json r (is_integer g l b) n p = refl
number_json r (is_decimal g l o b) n p = refl

-- ---- so a plain document's numbers are JSON's

-- what follows an entry is no part of a word
comma_stops : {w : List ℕ} (c : ℕ) (r : List ℕ) → is_sign c ≡ true → LastComma w → NotBegun is_word_part (w ++ c ∷ r)
comma_stops c r h no_last_comma = sign_no_part c h
comma_stops c r h (last_comma b) = not_part comma_sign refl

record MemberJson (k : Bool) (t : Tree) (y : List ℕ) : Type 0 where
  is : is_json (datum_of t) ≡ true
  kind : LastToken
  rest : Plain k kind y

mutual
  value_json : {k : Bool} {l : LastToken} {s : List ℕ} {t : Tree} (r : List ℕ) → Val s t → NotBegun is_word_part r → Plain k l (s ++ r) → is_json (datum_of t) ≡ true
  value_json r is_null n p = refl
  value_json r is_true n p = refl
  value_json r is_false n p = refl
  value_json r (is_number a) n p = number_json r a n p
  value_json r (is_text a) n p = refl
  value_json r (is_empty_array b) n p = refl
  value_json {k = k} {l = l} r (is_array {m = m} es) n p = elements_json r es (plain_open left_bracket refl (subst (λ z. Plain k l (left_bracket ∷ z)) (append_assoc m (right_bracket ∷ []) r) p))
  value_json r (is_empty_object b) n p = refl
  value_json {k = k} {l = l} r (is_object {m = m} ms) n p = members_json r ms (plain_open left_brace refl (subst (λ z. Plain k l (left_brace ∷ z)) (append_assoc m (right_brace ∷ []) r) p))

  elements_json : {k : Bool} {l : LastToken} {m : List ℕ} {ts : Trees} (r : List ℕ) → ElementList m ts → Plain k l (m ++ right_bracket ∷ r) → items_are_json (items_of ts) ≡ true
  elements_json {k = k} {l = l} r (last_element {w = w} {s = s} {v = v} {c = c} bw a bv lc) p =
      let y : List ℕ = c ++ right_bracket ∷ r in
      let q = subst (Plain k l) (regroup w s v c (right_bracket ∷ r)) p in
      let is = value_json (v ++ y) a (blanks_stop y bv (comma_stops right_bracket r refl lc)) (blank_seam (s ++ (v ++ y)) bw q).rest in
      rw is refl
  elements_json {k = k} {l = l} r (next {w = w} {s = s} {v = v} {m = m} bw a bv es) p =
      let y : List ℕ = comma_sign ∷ (m ++ right_bracket ∷ r) in
      let q = (blank_seam (s ++ (v ++ y)) bw (subst (Plain k l) (regroup w s v (comma_sign ∷ m) (right_bracket ∷ r)) p)).rest in
      let stops = blanks_stop y bv (not_part comma_sign refl) in
      let after = (blank_seam y bv (value_seam (v ++ y) a stops q).rest).rest in
      rw (value_json (v ++ y) a stops q, elements_json r es (plain_comma after)) refl

  members_json : {k : Bool} {l : LastToken} {m : List ℕ} {ps : Members} (r : List ℕ) → MemberList m ps → Plain k l (m ++ right_brace ∷ r) → fields_are_json (fields_of ps) ≡ true
  members_json {k = k} {l = l} r (last_member {p = p} {c = c} a lc) q =
      let f = member_json (c ++ right_brace ∷ r) a (comma_stops right_brace r refl lc) (subst (Plain k l) (append_assoc p c (right_brace ∷ r)) q) in
      rw f.is refl
  members_json {k = k} {l = l} r (next_member {p = p} {m = m} a ms) q =
      let f = member_json (comma_sign ∷ (m ++ right_brace ∷ r)) a (not_part comma_sign refl) (subst (Plain k l) (append_assoc p (comma_sign ∷ m) (right_brace ∷ r)) q) in
      rw (f.is, members_json r ms (plain_comma f.rest)) refl

  member_json : {k : Bool} {l : LastToken} {p u : List ℕ} {escape_free : Bool} {t : Tree} (y : List ℕ) → Member p u escape_free t → NotBegun is_word_part y → Plain k l (p ++ y) → MemberJson k t y
  member_json {k = k} {l = l} y (entry {a = a} {k = key} {b = b} {w = w} {s = s} {v = v} ba text bb bw val bv) n q =
      let r : List ℕ = w ++ (s ++ (v ++ y)) in
      let front = (blank_seam (key ++ (b ++ colon_sign ∷ r)) ba (subst (Plain k l) (regroup_pair a key b w s v y) q)).rest in
      let value = (blank_seam (s ++ (v ++ y)) bw (key_seam r text bb front).value).rest in
      let stops = blanks_stop y bv n in
      let g = value_seam (v ++ y) val stops value in
      record { is = value_json (v ++ y) val stops value; kind = g.kind; rest = (blank_seam y bv g.rest).rest }

pub numbers_json : {k : Bool} {x : List ℕ} {t : Tree} → Doc max_depth x t → Plain k last.sign x → is_json (datum_of t) ≡ true
numbers_json {k = k} d p =
    value_json d.after d.value (last_stops d.last) (blank_seam (d.text ++ d.after) d.blank (subst (Plain k last.sign) d.whole p)).rest

-- ---- a text that stays as it is without its comments has none

blank_neither : (c : ℕ) → is_blank c ≡ true → begins_neither c ≡ true
blank_neither c h = separator_neither c (blank_separates c h)

no_comments : {x y : List ℕ} → WithoutComments false x y → Comments x []
no_comments without.nothing = comments.nothing
no_comments (without.blank {c = c} h s) = comments.other (blank_neither c h) (no_comments s)
no_comments (without.comma s) = comments.other refl (no_comments s)
no_comments (without.sign {c = c} h s) = comments.other (sign_neither c h) (no_comments s)
no_comments (without.word {x = x} e n o s) = neither_run x [] (each_weaken begins_neither part_neither e) (no_comments s)
no_comments (without.string h i s) = comments.string h i (no_comments s)
no_comments (without.line a e n s) = absurd (cc)
no_comments (without.block a i s) = absurd (cc)

-- ---- the whole

pub stays : (s : Spelling) (x : List ℕ) (t : Tree) → Doc max_depth (chars x) t → PlainText (has_comments s) x → IsMade s x x
stays s x t d p =
    let (l, c) = document_has_comments max_depth (chars x) t d in
    record {
      means = record { tree = t; document = d; other = t; respelled = d; same = refl };
      numbers = λ asked. (t, d, numbers_json d p);
      comments = (λ kept. record { comments = l; left = c; right = c }, λ gone. no_comments (document_made max_depth (chars x) t d (subst (λ k. PlainText k x) gone p)).strips);
      plain = λ asked. p;
    }
