-- Paths that are read of texts.
use Rattle.std.proofs.Common.{◌≡◌, ◌≢◌, ◌⊎◌, inl, inr, ◌∙◌, ◌<◌, ◌≤◌, ◌+◌, ◌^◌, ℕ, zero, suc, Bool, true, false, List, [], ◌∷◌, ◌++◌, length, take, drop, get_or, Result, Ok, Err, refl, sym, ap, subst, arith, rules, append_assoc, take-append-drop, Some, None, Option, string_bytes, ne_eqb, String}
use Rattle.std.specs.Prelude.{not, ◌==◌, ◌||◌, ◌&&◌, cond, IfOk}
use Rattle.std.specs.Borrow.{Bor}
use Rattle.std.specs.Char.{encode_utf8}
use Rattle.std.specs.List.{list_all, prefix_len}
use Rattle.std.specs.Result.{OkIff}
use Rattle.std.specs.Str.{IsUtf8, IsCharBoundary}
use Rattle.std.specs.Str.Parse.{ParsesUnsigned, digits_value}
use Rattle.std.specs.declared.alloc.Global.{Global}
use Rattle.std.proofs.lemmas.Bool.Decides.{nat_tests}
use Rattle.std.proofs.lemmas.List.{length-append}
use Rattle.std.proofs.lemmas.Str.Parse.{IsNumeralModel, numerals_by_value, parse_plain}
use Rattle.json5_grammar.specs.Language.Characters.{Each, no_char, char, is_digit, left_bracket, right_bracket, slash_sign, digit_one, digit_zero}
use Rattle.json5_grammar.specs.Language.Strings.{is_quote}
use Rattle.json5_grammar.specs.Model.ReadNumbers.{front_of, rest_of}
use Rattle.json5_grammar.proofs.CharacterTests.{front_rest}
use Rattle.json5_tokens.proofs.RunBoundaries.{OfChars, of_ascii, stop_boundary}
use Rattle.json5_types.specs.DigitRuns.{SplitsDigits}
use Rattle.json5_types.specs.Pointers.{escaped_byte, escaped_key, parts_of, tilde}
use Rattle.json5_edit.specs.PathTexts.{IsEscape, Lacks, ReadsBetween, ReadsInside, ReadsQuoted, ReadsStep, SpellsDotted, SpellsInside, SpellsName, SpellsPart, SpellsParts, SpellsStep, SplitsName, dot_unless, is_in_name}
use Rattle.json5_edit.specs.declared.path_texts.parsed.Written.{Written}
use Rattle.json5_edit.specs.declared.path_texts.parsed.Written.TheVariants as written

-- ---- names

name_fails : (c : ℕ) → is_in_name c ≡ false → c < 128
name_fails c h = grind (arith, nat_tests)

name_chars : OfChars is_in_name is_in_name
name_chars = of_ascii is_in_name name_fails

pub name_boundary : (text : List ℕ) (n : ℕ) → IsUtf8 text → n ≡ prefix_len is_in_name text → IsCharBoundary text n
name_boundary text n utf8 is = stop_boundary is_in_name is_in_name text n name_chars utf8 is

one_more : (p : ℕ → Bool) (c : ℕ) (x : List ℕ) (b : Bool) → p c ≡ b → list_all p (take (prefix_len p x) x) ≡ true → list_all p (take (prefix_len p (c ∷ x)) (c ∷ x)) ≡ true
one_more p c x true h each = rw h (subst (λ m. list_all p (take m (c ∷ x)) ≡ true) (next (prefix_len p x)) (rw (h, each) refl))
  where
    next : (n : ℕ) → suc n ≡ 1 + n
    next n = omega arith
one_more p c x false h each = rw h refl

front_all : (p : ℕ → Bool) (x : List ℕ) → list_all p (take (prefix_len p x) x) ≡ true
front_all p [] = refl
front_all p (c ∷ x) = one_more p c x (p c) refl (front_all p x)

pub name_split : (text front back : List ℕ) (n : ℕ) → n ≡ prefix_len is_in_name text → front ≡ take n text → back ≡ drop n text → SplitsName text front back
name_split text front back n is f b = (
  sym (take-append-drop n text) ∙ ap (λ z. z ++ drop n text) (sym f) ∙ ap (λ z. front ++ z) (sym b),
  ap (list_all is_in_name) (f ∙ ap (λ z. take z text) is) ∙ front_all is_in_name text,
)

-- ---- a step

pub some_from : (s : List ℕ) (none : Bool) → none ≡ (length s == 0) → none ≡ false → s ≢ []
some_from [] none is some e = let h : true ≡ false = sym is ∙ some in absurd (cc)
some_from (c ∷ s) none is some e = absurd (cc)

longer : (n : ℕ) → (suc n == 0) ≡ false
longer n = ne_eqb (suc n) 0 (λ e. absurd (omega (arith, e)))

pub none_from : (s : List ℕ) (none : Bool) → none ≡ (length s == 0) → none ≡ true → s ≡ []
none_from [] none is h = refl
none_from (c ∷ s) none is h = let k : false ≡ true = sym (is ∙ longer (length s)) ∙ h in absurd (cc)

shorter : (spelled after : List ℕ) → spelled ≢ [] → length after < length (spelled ++ after)
shorter [] after some = absurd (some refl)
shorter (c ∷ s) after some = let n = length-append s after in omega (arith, n)

step_read : (first : Bool) (text spelled after : List ℕ) (w : Written) → text ≡ spelled ++ after → SpellsStep first w spelled → spelled ≢ [] → ReadsStep first text w after
step_read first text spelled after w split step some = record { spelled = spelled; split = split; step = step; shorter = subst (λ z. length after < length z) (sym split) (shorter spelled after some) }

cons_some : (c : ℕ) (s : List ℕ) → c ∷ s ≢ []
cons_some c s h = absurd (cc)

pub between_read : (first : Bool) (text inner after : List ℕ) (w : Written) → text ≡ left_bracket ∷ inner → ReadsBetween inner w after → ReadsStep first text w after
between_read first text inner after w begun (inside, split, is) =
    step_read first text (left_bracket ∷ inside ++ right_bracket ∷ []) after w
    (begun ∙ ap (λ z. left_bracket ∷ z) (split ∙ sym (append_assoc inside (right_bracket ∷ []) after)))
    (inr (inside, refl, is)) (cons_some left_bracket (inside ++ right_bracket ∷ []))

append_some : (x y : List ℕ) → y ≢ [] → x ++ y ≢ []
append_some [] y some = some
append_some (c ∷ x) y some = cons_some c (x ++ y)

pub name_read : (first : Bool) (text begun name after : List ℕ) (key : String Global) → text ≡ dot_unless first ++ begun → SplitsName begun name after → string_bytes key ≡ name → name ≢ [] → ReadsStep first text (written.Key key) after
name_read first text begun name after key front (split, each) is some =
    step_read first text (dot_unless first ++ name) after (written.Key key)
    (front ∙ ap (λ z. dot_unless first ++ z) split ∙ sym (append_assoc (dot_unless first) name after))
    (inl (ap (λ z. dot_unless first ++ z) (sym is), subst (λ z. z ≢ []) (sym is) some, ap (list_all is_in_name) is ∙ each)) (append_some (dot_unless first) name some)

pub between_closes : (inner after rest : List ℕ) (w : Written) → ReadsInside inner w after → after ≡ right_bracket ∷ rest → ReadsBetween inner w rest
between_closes inner after rest w (inside, split, is) closed = (inside, split ∙ ap (λ z. inside ++ z) closed, is)

pub inside_begun : (q : ℕ) (inner begun after : List ℕ) (w : Written) → inner ≡ q ∷ begun → ReadsInside (q ∷ begun) w after → ReadsInside inner w after
inside_begun q inner begun after w is r = subst (λ z. ReadsInside z w after) (sym is) r

pub between_ok : {E : Type 0} (first : Bool) (text inner : List ℕ) → text ≡ left_bracket ∷ inner → (r : Result (Written × Bor (List ℕ)) E) → IfOk r (λ p. ReadsBetween inner p.0 p.1.now) → IfOk r (λ p. ReadsStep first text p.0 p.1.now)
between_ok first text inner begun (Ok p) k = between_read first text inner p.1.now p.0 begun k
between_ok first text inner begun (Err e) k = tt

pub inside_ok : {E : Type 0} (q : ℕ) (inner begun : List ℕ) → inner ≡ q ∷ begun → is_quote q ≡ true → (r : Result (Written × Bor (List ℕ)) E) → IfOk r (λ p. ReadsQuoted q begun p.0 p.1.now) → IfOk r (λ p. ReadsInside inner p.0 p.1.now)
inside_ok q inner begun is quote (Ok p) k = inside_begun q inner begun p.1.now p.0 is (k quote)
inside_ok q inner begun is quote (Err e) k = tt

pub quoted_read : (q : ℕ) (begun name rest : List ℕ) (key : String Global) → is_quote q ≡ true → begun ≡ name ++ q ∷ rest → Lacks q name → string_bytes key ≡ name → ReadsInside (q ∷ begun) (written.Key key) rest
quoted_read q begun name rest key quote split lacks is =
    (q ∷ name ++ q ∷ [], ap (λ z. q ∷ z) (split ∙ sym (append_assoc name (q ∷ []) rest)), (q, quote, ap (λ z. q ∷ z ++ q ∷ []) (sym is), subst (Lacks q) (sym is) lacks))

own : IsNumeralModel (λ ds. list_all is_digit ds ≡ true) (digits_value 10)
own = numerals_by_value _ (search rules)

not_plus : {part : List ℕ} → Each is_digit part → get_or part 0 0 ≢ 43
not_plus no_char e = absurd (cc)
not_plus (char h k) e = absurd (grind (arith, nat_tests))

pub index_is : {E : Type 0} (digits : List ℕ) (n : ℕ) (r : Result ℕ E) → Each is_digit digits → ParsesUnsigned 64 10 digits r → r ≡ Ok n → digits ≢ [] → SpellsInside (written.Index n) digits
index_is digits n r each p is some =
    let h = subst (λ z. OkIff z ((list_all is_digit digits ≡ true) × (0 < length digits) × (digits_value 10 digits < 2 ^ 64)) (digits_value 10 digits)) is (parse_plain own 64 digits r p (not_plus each)) in
    (some, h.0.0, h.1)

pub index_read : (inner digits after : List ℕ) (n : ℕ) → SplitsDigits inner digits after → SpellsInside (written.Index n) digits → ReadsInside inner (written.Index n) after
index_read inner digits after n k is =
    (digits, front_rest is_digit inner ∙ ap (λ z. z ++ rest_of is_digit inner) (sym k.front_bytes) ∙ ap (λ z. digits ++ z) (sym k.rest_bytes), is)

-- ---- one step after another

abbrev pub is_start : List Written → Bool
is_start [] = true
is_start (w ∷ ws) = false

snoc_more : (ws vs : List Written) (w : Written) → (ws ++ w ∷ []) ++ vs ≡ ws ++ w ∷ vs
snoc_more ws vs w = append_assoc ws (w ∷ []) vs

later : (ws : List Written) (w : Written) → is_start (ws ++ w ∷ []) ≡ false
later [] w = refl
later (v ∷ ws) w = refl

start_is : (ws : List Written) → (length ws == 0) ≡ is_start ws
start_is [] = refl
start_is (w ∷ ws) = longer (length ws)

-- what spells the rest, spells all
abbrev pub GoesOn : (text rest : List ℕ) → List Written → Type 0
GoesOn text rest ws = (vs : List Written) → SpellsDotted (is_start ws) vs rest → SpellsDotted true (ws ++ vs) text

pub goes_on : (text rest after : List ℕ) (ws ns : List Written) (w : Written) (first : Bool) → first ≡ (length ws == 0) → ns ≡ ws ++ w ∷ [] → GoesOn text rest ws → ReadsStep first rest w after → GoesOn text after ns
goes_on text rest after ws ns w first is pushed so_far k = λ vs spells.
    let at_rest : SpellsDotted (is_start ws) (w ∷ vs) rest = (k.spelled, after, k.split, subst (λ b. SpellsStep b w k.spelled) (is ∙ start_is ws) k.step, subst (λ b. SpellsDotted b vs after) (ap is_start pushed ∙ later ws w) spells) in
    subst (λ z. SpellsDotted true z text) (sym (ap (λ z. z ++ vs) pushed ∙ snoc_more ws vs w)) (so_far (w ∷ vs) at_rest)

nothing_more : (b : Bool) (x : List ℕ) → x ≡ [] → SpellsDotted b [] x
nothing_more b x is = is

append_all : (ws : List Written) → ws ++ [] ≡ ws
append_all [] = refl
append_all (w ∷ ws) = ap (λ z. w ∷ z) (append_all ws)

pub all_read : (text rest : List ℕ) (ws : List Written) → GoesOn text rest ws → rest ≡ [] → SpellsDotted true ws text
all_read text rest ws so_far none = subst (λ z. SpellsDotted true z text) (append_all ws) (so_far [] (nothing_more (is_start ws) rest none))

-- ---- pointers

parts_split : (xs rest : List ℕ) → Lacks 47 xs → parts_of (xs ++ 47 ∷ rest) ≡ xs ∷ parts_of rest
parts_split [] rest h = refl
parts_split (x ∷ xs) rest h = rw (ne_eqb x 47 (h 0 (omega arith)), parts_split xs rest (λ i less. h (suc i) (omega arith))) refl

parts_last : (xs : List ℕ) → Lacks 47 xs → parts_of xs ≡ xs ∷ []
parts_last [] h = refl
parts_last (x ∷ xs) h = rw (ne_eqb x 47 (h 0 (omega arith)), parts_last xs (λ i less. h (suc i) (omega arith))) refl

-- what spells the parts of the rest, spells those of all
abbrev pub PartsGoOn : (text rest : List ℕ) → List Written → Type 0
PartsGoOn text rest ws = (vs : List Written) → SpellsParts vs (parts_of rest) → SpellsParts (ws ++ vs) (parts_of text)

pub parts_go_on : (text rest part more : List ℕ) (ws ns : List Written) (w : Written) → ns ≡ ws ++ w ∷ [] → PartsGoOn text rest ws → rest ≡ part ++ 47 ∷ more → Lacks 47 part → SpellsPart w part → PartsGoOn text more ns
parts_go_on text rest part more ws ns w pushed so_far cut lacks is = λ vs spells.
    let at_rest : SpellsParts (w ∷ vs) (parts_of rest) = subst (SpellsParts (w ∷ vs)) (sym (ap parts_of cut ∙ parts_split part more lacks)) (is, spells) in
    subst (λ z. SpellsParts z (parts_of text)) (sym (ap (λ z. z ++ vs) pushed ∙ snoc_more ws vs w)) (so_far (w ∷ vs) at_rest)

pub parts_end : (text rest : List ℕ) (ws ns : List Written) (w : Written) → ns ≡ ws ++ w ∷ [] → PartsGoOn text rest ws → Lacks 47 rest → SpellsPart w rest → SpellsParts ns (parts_of text)
parts_end text rest ws ns w pushed so_far lacks is = subst (λ z. SpellsParts z (parts_of text)) (sym pushed) (so_far (w ∷ []) (subst (SpellsParts (w ∷ [])) (sym (parts_last rest lacks)) (is, tt)))

escaped_append : (x y : List ℕ) → escaped_key (x ++ y) ≡ escaped_key x ++ escaped_key y
escaped_append [] y = refl
escaped_append (c ∷ x) y = ap (λ z. escaped_byte c ++ z) (escaped_append x y) ∙ sym (append_assoc (escaped_byte c) (escaped_key x) (escaped_key y))

plain_byte : (c : ℕ) → c ≢ tilde → c ≢ slash_sign → escaped_byte c ≡ c ∷ []
plain_byte c h k = rw (ne_eqb c 0x7E h, ne_eqb c 0x2F k) refl

plain_key : (x : List ℕ) → Lacks tilde x → Lacks slash_sign x → escaped_key x ≡ x
plain_key [] h k = refl
plain_key (c ∷ x) h k = rw (plain_byte c (h 0 (omega arith)) (k 0 (omega arith)), plain_key x (λ i less. h (suc i) (omega arith)) (λ i less. k (suc i) (omega arith))) refl

lacks_front : (b : ℕ) (x y : List ℕ) → Lacks b (x ++ y) → Lacks b x
lacks_front b [] y h i less = absurd (omega (arith, less))
lacks_front b (c ∷ x) y h zero less = h 0 (omega arith)
lacks_front b (c ∷ x) y h (suc i) less = lacks_front b x y (λ j l. h (suc j) (omega arith)) i (omega (arith, less))

lacks_back : (b : ℕ) (x y : List ℕ) → Lacks b (x ++ y) → Lacks b y
lacks_back b [] y h = h
lacks_back b (c ∷ x) y h = lacks_back b x y (λ j l. h (suc j) (omega arith))

-- so much of the part is unescaped, and the rest has no slash either
abbrev pub IsUnescaped : (part rest key : List ℕ) → Type 0
IsUnescaped part rest key = Lacks slash_sign part → (escaped_key key ++ rest ≡ part) × Lacks slash_sign rest

pub unescapes : (part rest plain escape after key joined ended : List ℕ) (c : ℕ) → IsUnescaped part rest key → rest ≡ plain ++ tilde ∷ escape → Lacks tilde plain → IsEscape escape c after → joined ≡ key ++ plain → ended ≡ joined ++ encode_utf8 c → IsUnescaped part after ended
unfolding encode_utf8
unescapes part rest plain escape after key joined ended c so_far cut lacks is pushed ended_so no_slash =
    let (all, none) = so_far no_slash in
    let none_cut = subst (Lacks slash_sign) cut none in
    let same = plain_key plain lacks (lacks_front slash_sign plain (tilde ∷ escape) none_cut) in
    let (whole, left) = by is (lacks_back slash_sign plain (tilde ∷ escape) none_cut) in (
      ap (λ z. escaped_key z ++ after) (ended_so ∙ ap (λ z. z ++ encode_utf8 c) pushed) ∙ ap (λ z. z ++ after) (escaped_append (key ++ plain) (encode_utf8 c) ∙ ap (λ z. z ++ escaped_key (encode_utf8 c)) (escaped_append key plain ∙ ap (λ z. escaped_key key ++ z) same))
          ∙ append_assoc (escaped_key key ++ plain) (escaped_key (encode_utf8 c)) after ∙ append_assoc (escaped_key key) plain (escaped_key (encode_utf8 c) ++ after) ∙ ap (λ z. escaped_key key ++ (plain ++ z)) whole ∙ ap (λ z. escaped_key key ++ z) (sym cut) ∙ all,
      left,
    )
  where
    by : IsEscape escape c after → Lacks slash_sign (tilde ∷ escape) → (escaped_key (encode_utf8 c) ++ after ≡ tilde ∷ escape) × Lacks slash_sign after
    by (inl (e, f)) none = (ap (λ z. escaped_key (encode_utf8 z) ++ after) e ∙ ap (λ z. tilde ∷ z) (sym f), λ i less. subst (Lacks slash_sign) (ap (λ z. tilde ∷ z) f) none (suc (suc i)) (omega (arith, less)))
    by (inr (e, f)) none = (ap (λ z. escaped_key (encode_utf8 z) ++ after) e ∙ ap (λ z. tilde ∷ z) (sym f), λ i less. subst (Lacks slash_sign) (ap (λ z. tilde ∷ z) f) none (suc (suc i)) (omega (arith, less)))

pub unescaped_end : (part rest key ended : List ℕ) → IsUnescaped part rest key → Lacks tilde rest → ended ≡ key ++ rest → Lacks slash_sign part → escaped_key ended ≡ part
unescaped_end part rest key ended so_far lacks is no_slash =
    let (all, none) = so_far no_slash in
    ap escaped_key is ∙ escaped_append key rest ∙ ap (λ z. escaped_key key ++ z) (plain_key rest lacks none) ∙ all
