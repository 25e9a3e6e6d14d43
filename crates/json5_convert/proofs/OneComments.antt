-- A text has at most one list of comments, and a document has one.
use Rattle.std.proofs.Common.{◌≡◌, ◌⊎◌, inl, inr, ℕ, Bool, true, false, not, List, [], ◌∷◌, ◌++◌, refl, sym, ap, ◌∙◌, subst, append_assoc, arith}
use Rattle.std.specs.Prelude.{◌==◌, ◌||◌, ◌&&◌}
use Rattle.std.proofs.lemmas.Bool.{both_ways}
use Rattle.std.proofs.lemmas.Bool.Decides.{nat_tests}
use Rattle.json5_grammar.specs.Language.Blanks.{Inside}
use Rattle.json5_grammar.specs.Language.Characters.{is_blank, NotBegun, Each}
use Rattle.json5_grammar.specs.Language.Documents.{Doc}
use Rattle.json5_grammar.specs.Language.Strings.{is_quote}
use Rattle.json5_grammar.specs.Language.Trees.{Tree}
use Rattle.json5_grammar.proofs.BlanksRead.{printable_no_blank}
use Rattle.json5_grammar.proofs.CharacterTests.{Each-append, each_weaken}
use Rattle.json5_grammar.proofs.CommonLemmas.{eq_from, neq_from}
use Rattle.json5_lexemes.specs.Lexemes.{Lexemes, Quoted, is_line_blank}
use Rattle.json5_lexemes.specs.Lexemes as lexemes
use Rattle.json5_lexemes.specs.SameLexemes.{is_line_part, is_separator, is_sign, is_word_part}
use Rattle.json5_lexemes.proofs.OneList.{one_block, one_run, one_string}
use Rattle.json5_lexemes.proofs.SameTrees.{document_has_lexemes}
use Rattle.json5_convert.specs.Comments.{Comments, begins_neither}
use Rattle.json5_convert.specs.Comments as comments
use Rattle.json5_convert.proofs.CommentsPassed.{neither_run}

-- ---- one list

-- the comments of a text by what is in front
data Front (x : List ℕ) (l : List (List ℕ)) : Type 0 where
  end : x ≡ [] → l ≡ [] → Front x l
  other : (c : ℕ) (r : List ℕ) → x ≡ c ∷ r → begins_neither c ≡ true → Comments r l → Front x l
  string : (q : ℕ) (s r : List ℕ) → x ≡ q ∷ s ++ r → is_quote q ≡ true → Quoted q s → Comments r l → Front x l
  line : (y r : List ℕ) (m : List (List ℕ)) → x ≡ 47 ∷ 47 ∷ y ++ r → Each is_line_part y → NotBegun is_line_part r → Comments r m → l ≡ (47 ∷ 47 ∷ y) ∷ m → Front x l
  block : (y r : List ℕ) (m : List (List ℕ)) → x ≡ 47 ∷ 42 ∷ y ++ 42 ∷ 47 ∷ r → Inside y → Comments r m → l ≡ (47 ∷ 42 ∷ y ++ 42 ∷ 47 ∷ []) ∷ m → Front x l

front_of : {x : List ℕ} {l : List (List ℕ)} → Comments x l → Front x l
front_of comments.nothing = end refl refl
front_of (comments.other {c = c} {r = r} h k) = other c r refl h k
front_of (comments.string {q = q} {s = s} {r = r} h i k) = string q s r refl h i k
front_of (comments.line {x = y} {r = r} {cs = m} e n k) = line y r m refl e n k refl
front_of (comments.block {x = y} {r = r} {cs = m} i k) = block y r m refl i k refl

-- c begins neither a string nor a comment
neither_quote : (c q : ℕ) → c ≡ q → begins_neither c ≡ true → is_quote q ≡ true → ⊥
neither_quote c q e h i = apart (is_quote q) (q == 47) (subst (λ z. begins_neither z ≡ true) e h) i
  where
    apart : (a b : Bool) → not (a || b) ≡ true → a ≡ true → ⊥
    apart true b h i = cc
    apart false b h i = cc

neither_slash : (c : ℕ) → c ≡ 47 → begins_neither c ≡ true → ⊥
neither_slash c e h = both_ways (begins_neither 47) refl (subst (λ z. begins_neither z ≡ true) e h)

quote_slash : (q : ℕ) → q ≡ 47 → is_quote q ≡ true → ⊥
quote_slash q e h = both_ways (is_quote 47) refl (subst (λ z. is_quote z ≡ true) e h)

pub one_comments : {x : List ℕ} {l m : List (List ℕ)} → Comments x l → Comments x m → l ≡ m
one_comments {m = m} comments.nothing k = by_front (front_of k)
  where
    by_front : Front [] m → [] ≡ m
    by_front (end e f) = sym f
    by_front (other c r e h a) = absurd (cc)
    by_front (string q s r e h i a) = absurd (cc)
    by_front (line y r n e i o a f) = absurd (cc)
    by_front (block y r n e i a f) = absurd (cc)
one_comments {l = l} {m = m} (comments.other {c = c} {r = r} h a) k = by_front (λ n b. one_comments a b) (front_of k)
  where
    by_front : ((n : List (List ℕ)) → Comments r n → l ≡ n) → Front (c ∷ r) m → l ≡ m
    by_front again (end e f) = absurd (cc)
    by_front again (other d s e i b) = let same : s ≡ r = cc in again m (subst (λ z. Comments z m) same b)
    by_front again (string q s t e i j b) = let same : c ≡ q = cc in absurd (neither_quote c q same h i)
    by_front again (line y s n e i o b f) = let same : c ≡ 47 = cc in absurd (neither_slash c same h)
    by_front again (block y s n e i b f) = let same : c ≡ 47 = cc in absurd (neither_slash c same h)
one_comments {l = l} {m = m} (comments.string {q = q} {s = s} {r = r} h i a) k = by_front (λ n b. one_comments a b) (front_of k)
  where
    by_front : ((n : List (List ℕ)) → Comments r n → l ≡ n) → Front (q ∷ s ++ r) m → l ≡ m
    by_front again (end e f) = absurd (cc)
    by_front again (other d t e j b) = let same : d ≡ q = cc in absurd (neither_quote d q same j h)
    by_front again (string p t u e j o b) =
        let quote : p ≡ q = cc in
        let rest : s ++ r ≡ t ++ u = cc in
        let apart = one_string r u h i (subst (λ z. Quoted z t) quote o) rest in
        again m (subst (λ z. Comments z m) (sym apart.1) b)
    by_front again (line y t n e j o b f) = let same : q ≡ 47 = cc in absurd (quote_slash q same h)
    by_front again (block y t n e j b f) = let same : q ≡ 47 = cc in absurd (quote_slash q same h)
one_comments {m = m} (comments.line {x = y} {r = r} {cs = l} i n a) k = by_front (λ n b. one_comments a b) (front_of k)
  where
    by_front : ((n : List (List ℕ)) → Comments r n → l ≡ n) → Front (47 ∷ 47 ∷ y ++ r) m → (47 ∷ 47 ∷ y) ∷ l ≡ m
    by_front again (end e f) = absurd (cc)
    by_front again (other d t e j b) = let same : d ≡ 47 = cc in absurd (neither_slash d same j)
    by_front again (string p t u e j o b) = let same : p ≡ 47 = cc in absurd (quote_slash p same j)
    by_front again (line z s o e j p b f) =
        let rest : y ++ r ≡ z ++ s = cc in
        let apart = one_run r s i n j p rest in
        let more : l ≡ o = again o (subst (λ w. Comments w o) (sym apart.1) b) in
        ap (λ w. (47 ∷ 47 ∷ w) ∷ l) apart.0 ∙ ap (λ w. (47 ∷ 47 ∷ z) ∷ w) more ∙ sym f
    by_front again (block z s o e j b f) = let same : 47 ≡ 42 = cc in absurd (neq_from 47 42 refl same)
one_comments {m = m} (comments.block {x = y} {r = r} {cs = l} i a) k = by_front (λ n b. one_comments a b) (front_of k)
  where
    by_front : ((n : List (List ℕ)) → Comments r n → l ≡ n) → Front (47 ∷ 42 ∷ y ++ 42 ∷ 47 ∷ r) m → (47 ∷ 42 ∷ y ++ 42 ∷ 47 ∷ []) ∷ l ≡ m
    by_front again (end e f) = absurd (cc)
    by_front again (other d t e j b) = let same : d ≡ 47 = cc in absurd (neither_slash d same j)
    by_front again (string p t u e j o b) = let same : p ≡ 47 = cc in absurd (quote_slash p same j)
    by_front again (line z s o e j p b f) = let same : 47 ≡ 42 = cc in absurd (neq_from 47 42 refl same)
    by_front again (block z s o e j b f) =
        let rest : y ++ 42 ∷ 47 ∷ r ≡ z ++ 42 ∷ 47 ∷ s = cc in
        let apart = one_block r s i j rest in
        let more : l ≡ o = again o (subst (λ w. Comments w o) (sym apart.1) b) in
        ap (λ w. (47 ∷ 42 ∷ w ++ 42 ∷ 47 ∷ []) ∷ l) apart.0 ∙ ap (λ w. (47 ∷ 42 ∷ z ++ 42 ∷ 47 ∷ []) ∷ w) more ∙ sym f

-- ---- a list

one_of_three : (a b d : Bool) → ((a || b) || d) ≡ true → (a ≡ true) ⊎ ((b ≡ true) ⊎ (d ≡ true))
one_of_three true b d h = inl refl
one_of_three false true d h = inr (inl refl)
one_of_three false false d h = inr (inr h)

no_separator : (c : ℕ) → (is_quote c || (c == 47)) ≡ true → is_separator c ≡ false
no_separator c h = by_char (one_of_three (c == 34) (c == 39) (c == 47) h)
  where
    quote : is_separator 34 ≡ false
    quote = rw (printable_no_blank 34 refl) refl

    single : is_separator 39 ≡ false
    single = rw (printable_no_blank 39 refl) refl

    slash : is_separator 47 ≡ false
    slash = rw (printable_no_blank 47 refl) refl

    like : (n : ℕ) → (c == n) ≡ true → is_separator n ≡ false → is_separator c ≡ false
    like n e f = subst (λ z. is_separator z ≡ false) (sym (eq_from c n e)) f

    by_char : ((c == 34) ≡ true) ⊎ (((c == 39) ≡ true) ⊎ ((c == 47) ≡ true)) → is_separator c ≡ false
    by_char (inl e) = like 34 e quote
    by_char (inr (inl e)) = like 39 e single
    by_char (inr (inr e)) = like 47 e slash

pub separator_neither : (c : ℕ) → is_separator c ≡ true → begins_neither c ≡ true
separator_neither c h = decide (is_quote c || (c == 47)) refl
  where
    decide : (b : Bool) → (is_quote c || (c == 47)) ≡ b → begins_neither c ≡ true
    decide true e = absurd (both_ways (is_separator c) (no_separator c e) h)
    decide false e = ap not e

pub sign_neither : (c : ℕ) → is_sign c ≡ true → begins_neither c ≡ true
sign_neither c h = grind (arith, nat_tests)

pub part_neither : (c : ℕ) → is_word_part c ≡ true → begins_neither c ≡ true
part_neither c h = apart (is_separator c) (is_sign c) (is_quote c || (c == 47)) h
  where
    apart : (a b d : Bool) → not (a || (b || d)) ≡ true → not d ≡ true
    apart true b d h = absurd (cc)
    apart false true d h = absurd (cc)
    apart false false d h = h

line_blank_part : (c : ℕ) → is_line_blank c ≡ true → is_line_part c ≡ true
line_blank_part c h = second (is_blank c) (is_line_part c) h
  where
    second : (a b : Bool) → (a && b) ≡ true → b ≡ true
    second true b h = h
    second false b h = absurd (cc)

pub has_comments : {x : List ℕ} {ls : List (List ℕ)} → Lexemes x ls → (l : List (List ℕ)) × Comments x l
has_comments lexemes.no_lexeme = ([], comments.nothing)
has_comments (lexemes.separator {c = c} h k) = let (l, a) = has_comments k in (l, comments.other (separator_neither c h) a)
has_comments (lexemes.sign {c = c} h k) = let (l, a) = has_comments k in (l, comments.other (sign_neither c h) a)
has_comments (lexemes.word {r = r} e n k) = let (l, a) = has_comments k in (l, neither_run r l (each_weaken begins_neither part_neither e) a)
has_comments (lexemes.string h i k) = let (l, a) = has_comments k in (l, comments.string h i a)
has_comments (lexemes.line {x = x} {b = b} {r = r} e f n k) =
    let (l, a) = has_comments k in
    let whole : 47 ∷ 47 ∷ (x ++ b) ++ r ≡ 47 ∷ 47 ∷ x ++ (b ++ r) = ap (λ z. 47 ∷ 47 ∷ z) (append_assoc x b r) in
    ((47 ∷ 47 ∷ x ++ b) ∷ l, subst (λ z. Comments z ((47 ∷ 47 ∷ x ++ b) ∷ l)) whole (comments.line (Each-append e (each_weaken is_line_part line_blank_part f)) n a))
has_comments (lexemes.block {x = x} i k) = let (l, a) = has_comments k in ((47 ∷ 42 ∷ x ++ 42 ∷ 47 ∷ []) ∷ l, comments.block i a)

pub document_has_comments : (limit : ℕ) (x : List ℕ) (t : Tree) → Doc limit x t → (l : List (List ℕ)) × Comments x l
document_has_comments limit x t d = let (ls, k) = document_has_lexemes limit x t d in has_comments k
