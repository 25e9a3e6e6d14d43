-- Taking the tokens of a text one after another: what is taken, and that nothing else could be.
use Rattle.std.proofs.Common.{◌≡◌, ◌≤◌, ◌<◌, ◌+◌, ℕ, Bool, true, false, List, [], ◌∷◌, ◌++◌, length, Option, Some, refl, ap, sym, ◌∙◌, append_assoc, subst, inl, inr, arith}
use Rattle.std.specs.Prelude.{◌==◌, ◌⊎◌}
use Rattle.std.specs.Str.{encode_utf8_all}
use Rattle.std.proofs.lemmas.Str.{encodes-append, length-encode, len_utf8_bounds}
use Rattle.std.proofs.lemmas.List.{length-append}
use Rattle.std.specs.Char.{encode_utf8}
use Rattle.json5_grammar.specs.Language.Blanks.{Blanks, Gap, Solid, is_solid}
use Rattle.json5_grammar.specs.Language.Characters.{NotBegun}
use Rattle.json5_grammar.specs.Language.Names.{Key}
use Rattle.json5_grammar.specs.Language.Trees.{Tree, depth}
use Rattle.json5_grammar.specs.Language.Values.{Val, is_null, is_true, is_false, is_number, is_text, is_empty_array, is_array, is_empty_object, is_object, Reads}
use Rattle.json5_grammar.specs.Model.Collections.{IsSign, ReadsKey}
use Rattle.json5_grammar.specs.Model.Reading.{got}
use Rattle.json5_grammar.specs.Model.ReadValues.{read}
use Rattle.json5_grammar.specs.Faults.{begins_value}
use Rattle.json5_grammar.specs.declared.error_code.ErrorCode.{ErrorCode}
use Rattle.json5_grammar.specs.Faults.Tokens.{BlankFault}
use Rattle.json5_grammar.proofs.CommonLemmas.{rest_same}
use Rattle.json5_grammar.proofs.ArraysRead.{comma_solid, bracket_solid, opening_solid, one_sign, sign_no_value, sign_found, phrase_found, reads_found}
use Rattle.json5_grammar.proofs.ObjectsRead.{colon_solid, brace_solid, opening_brace_solid, brace_no_key}
use Rattle.json5_grammar.proofs.BlanksSound.{Blanks-append, one_gap, gap_blanks, no_blank_fault}
use Rattle.json5_grammar.proofs.EntriesAfterGaps.{reads_here, no_sign, no_sign_in_blanks, no_reads_in_blanks}
use Rattle.json5_grammar.proofs.ValueHeads.{val_head, key_head, key_solid}
use Rattle.json5_grammar.proofs.ValuesRead.{read_complete}
use Rattle.json5_grammar.proofs.ValuesSound.{sign_gap}
use Rattle.json5_tokens.specs.Outcome.{bytes_in}
use Rattle.json5_tokens.specs.TokenFaults.{FaultyBlanks}
use Rattle.json5_walk.specs.declared.next.Next.{Next}
use Rattle.json5_walk.specs.declared.next.Next.TheVariants as next
use Rattle.json5_walk.specs.Nexts.{takes_value}
use Rattle.json5_report.specs.Paths.{Crumb, whole, element, member, closing, Step, value, array, object, key, colon, next_element, next_member, closes}

-- ---- a token has characters

-- something is in front of x, and y is left
pub record Takes (x y : List ℕ) : Type 0 where
  pub first : ℕ
  pub more : List ℕ
  pub split : x ≡ (first ∷ more) ++ y

takes_after : (f : List ℕ) (c : ℕ) (m x y : List ℕ) → x ≡ f ++ ((c ∷ m) ++ y) → Takes x y
takes_after [] c m x y e = record { first = c; more = m; split = e }
takes_after (d ∷ f) c m x y e = record { first = d; more = f ++ (c ∷ m); split = e ∙ ap (λ z. d ∷ z) (sym (append_assoc f (c ∷ m) y)) }

sign_takes : (s : ℕ) (x y : List ℕ) → IsSign s x y → Takes x y
sign_takes s x y p = takes_after p.front s [] x y p.split

reads_takes : (x y : List ℕ) (t : Tree) → Reads x t y → Takes x y
reads_takes x y t p = let h = val_head p.value in takes_after p.front h.char h.more x y (p.split ∙ ap (λ z. p.front ++ (z ++ y)) h.is)

key_takes : (x y u : List ℕ) (e : Bool) → ReadsKey x u e y → Takes x y
key_takes x y u e p = let h = key_head p.key in takes_after p.front h.char h.more x y (p.split ∙ ap (λ z. p.front ++ (z ++ y)) h.is)

pub step_takes : {d e : Next} {o p : List Crumb} {x y : List ℕ} → Step d o x e p y → Takes x y
step_takes {x = x} {y = y} (value t v r) = reads_takes x y t r
step_takes {x = x} {y = y} (array v s) = sign_takes 91 x y s
step_takes {x = x} {y = y} (object v s) = sign_takes 123 x y s
step_takes {x = x} {y = y} (key u f k) = key_takes x y u f k
step_takes {x = x} {y = y} (colon s) = sign_takes 58 x y s
step_takes {x = x} {y = y} (next_element s) = sign_takes 44 x y s
step_takes {x = x} {y = y} (next_member s) = sign_takes 44 x y s
step_takes {x = x} {y = y} (closes c e s) = sign_takes c x y s

pub bytes_joined : (xs ys : List ℕ) → bytes_in (xs ++ ys) ≡ bytes_in xs + bytes_in ys
bytes_joined xs ys = ap length (encodes-append xs ys) ∙ length-append (encode_utf8_all xs) (encode_utf8_all ys)

has_bytes : (c : ℕ) (m : List ℕ) → 1 ≤ bytes_in (c ∷ m)
has_bytes c m =
    let apart : bytes_in (c ∷ m) ≡ length (encode_utf8 c) + bytes_in m = length-append (encode_utf8 c) (encode_utf8_all m) in
    omega (arith, apart, length-encode c, (len_utf8_bounds c).0)

pub fewer_bytes : {x y : List ℕ} → Takes x y → bytes_in y + 1 ≤ bytes_in x
fewer_bytes {x = x} {y = y} t =
    let all : bytes_in x ≡ bytes_in (t.first ∷ t.more) + bytes_in y = ap bytes_in t.split ∙ bytes_joined (t.first ∷ t.more) y in
    omega (arith, all, has_bytes t.first t.more)

pub shorter : {x y : List ℕ} → Takes x y → length y < length x
shorter {x = x} {y = y} t =
    let all : length x ≡ length (t.first ∷ t.more) + length y = ap length t.split ∙ length-append (t.first ∷ t.more) y in
    omega (arith, all)

-- ---- gaps in front

key_gap : (w x y r u : List ℕ) (e : Bool) → x ≡ w ++ y → Gap w y → ReadsKey y u e r → ReadsKey x u e r
key_gap w x y r u e split g k =
    let t = key_takes y r u e k in
    let b : Blanks w = gap_blanks t.first (t.more ++ r) (subst (Gap w) t.split g) in
    record { front = w ++ k.front; spelling = k.spelling; split = split ∙ ap (λ z. w ++ z) k.split ∙ sym (append_assoc w k.front (k.spelling ++ r)); blank = Blanks-append b k.blank; key = k.key }

key_found : (w x y r u : List ℕ) (e : Bool) → x ≡ w ++ y → Gap w y → Solid y → ReadsKey x u e r → ReadsKey y u e r
key_found w x y r u e split g s k = record {
  front = [];
  spelling = k.spelling;
  split = (one_gap k.front (k.spelling ++ r) w y (Gap.blanks k.blank) (key_solid r (key_head k.key)) g s (sym k.split ∙ split)).1;
  blank = Blanks.empty;
  key = k.key;
}

-- a key in front of a text
pub key_split : (y r u : List ℕ) (e : Bool) → Solid y → ReadsKey y u e r → (k : List ℕ) × (y ≡ k ++ r) × Key k r u e
key_split y r u e s k = (k.spelling, (one_gap k.front (k.spelling ++ r) [] y (Gap.blanks k.blank) (key_solid r (key_head k.key)) (Gap.blanks Blanks.empty) s (sym k.split)).1, k.key)

sign_only : (s : ℕ) (y r : List ℕ) → y ≡ s ∷ r → IsSign s y r
sign_only s y r e = record { front = []; split = e; blank = Blanks.empty }

closing_solid : (d : Next) (b : Crumb) (s : ℕ) → closing d b ≡ Some s → (s ≡ 93) ⊎ (s ≡ 125)
closing_solid next.Value whole s e = absurd (cc)
closing_solid next.Element whole s e = absurd (cc)
closing_solid next.Key whole s e = absurd (cc)
closing_solid next.Colon whole s e = absurd (cc)
closing_solid next.Comma whole s e = absurd (cc)
closing_solid next.Failed whole s e = absurd (cc)
closing_solid next.Element (element n) s e = inl (cc)
closing_solid next.Comma (element n) s e = inl (cc)
closing_solid next.Value (element n) s e = absurd (cc)
closing_solid next.Key (element n) s e = absurd (cc)
closing_solid next.Colon (element n) s e = absurd (cc)
closing_solid next.Failed (element n) s e = absurd (cc)
closing_solid next.Key (member k) s e = inr (cc)
closing_solid next.Comma (member k) s e = inr (cc)
closing_solid next.Value (member k) s e = absurd (cc)
closing_solid next.Element (member k) s e = absurd (cc)
closing_solid next.Colon (member k) s e = absurd (cc)
closing_solid next.Failed (member k) s e = absurd (cc)

solid_sign : (s : ℕ) → (s ≡ 93) ⊎ (s ≡ 125) → is_solid s ≡ true
solid_sign s (inl e) = ap is_solid e ∙ bracket_solid
solid_sign s (inr e) = ap is_solid e ∙ brace_solid

-- a token after a gap is one with the gap
pub step_after : {d e : Next} {o p : List Crumb} {x y z : List ℕ} (w : List ℕ) → x ≡ w ++ y → Gap w y → Step d o y e p z → Step d o x e p z
step_after {x = x} {y = y} {z = z} w split g (value t v r) = value t v (reads_here x w y z t split g r)
step_after {x = x} {y = y} {z = z} w split g (array v a) = array v (sign_gap 91 w x y z split g a)
step_after {x = x} {y = y} {z = z} w split g (object v a) = object v (sign_gap 123 w x y z split g a)
step_after {x = x} {y = y} {z = z} w split g (key u f k) = key u f (key_gap w x y z u f split g k)
step_after {x = x} {y = y} {z = z} w split g (colon a) = colon (sign_gap 58 w x y z split g a)
step_after {x = x} {y = y} {z = z} w split g (next_element a) = next_element (sign_gap 44 w x y z split g a)
step_after {x = x} {y = y} {z = z} w split g (next_member a) = next_member (sign_gap 44 w x y z split g a)
step_after {x = x} {y = y} {z = z} w split g (closes s e a) = closes s e (sign_gap s w x y z split g a)

-- and the other way round
pub step_found : {d e : Next} {o p : List Crumb} {x y z : List ℕ} (w : List ℕ) → x ≡ w ++ y → Gap w y → Solid y → Step d o x e p z → Step d o y e p z
step_found {x = x} {y = y} {z = z} w split g s (value t v r) = value t v (reads_found x w y z t split g s r)
step_found {x = x} {y = y} {z = z} w split g s (array v a) = array v (sign_only 91 y z (sign_found 91 x w y z opening_solid split g s a))
step_found {x = x} {y = y} {z = z} w split g s (object v a) = object v (sign_only 123 y z (sign_found 123 x w y z opening_brace_solid split g s a))
step_found {x = x} {y = y} {z = z} w split g s (key u f k) = key u f (key_found w x y z u f split g s k)
step_found {x = x} {y = y} {z = z} w split g s (colon a) = colon (sign_only 58 y z (sign_found 58 x w y z colon_solid split g s a))
step_found {x = x} {y = y} {z = z} w split g s (next_element a) = next_element (sign_only 44 y z (sign_found 44 x w y z comma_solid split g s a))
step_found {x = x} {y = y} {z = z} w split g s (next_member a) = next_member (sign_only 44 y z (sign_found 44 x w y z comma_solid split g s a))
step_found {x = x} {y = y} {z = z} w split g s (closes {d = d} {b = b} c e a) = closes c e (sign_only c y z (sign_found c x w y z (solid_sign c (closing_solid d b c e)) split g s a))

-- where a comment is at fault there is no token
pub none_in_blanks : {d e : Next} {o p : List Crumb} {x y : List ℕ} {reason : Option ErrorCode} {place : Option (List ℕ)} → FaultyBlanks x reason place → Step d o x e p y → ⊥
none_in_blanks {x = x} {y = y} {reason = code} {place = at} (b, q, how, f) (value t v r) = no_reads_in_blanks x b q y t code at how f r
none_in_blanks {x = x} {y = y} {reason = code} {place = at} (b, q, how, f) (array v a) = no_sign_in_blanks 91 x b q y code at how opening_solid f a
none_in_blanks {x = x} {y = y} {reason = code} {place = at} (b, q, how, f) (object v a) = no_sign_in_blanks 123 x b q y code at how opening_brace_solid f a
none_in_blanks {x = x} {y = y} {reason = code} {place = at} (b, q, how, f) (key u e k) = no_blank_fault (Gap.blanks k.blank) (key_solid y (key_head k.key)) (subst (λ z. BlankFault z code at b q how) k.split f)
none_in_blanks {x = x} {y = y} {reason = code} {place = at} (b, q, how, f) (colon a) = no_sign_in_blanks 58 x b q y code at how colon_solid f a
none_in_blanks {x = x} {y = y} {reason = code} {place = at} (b, q, how, f) (next_element a) = no_sign_in_blanks 44 x b q y code at how comma_solid f a
none_in_blanks {x = x} {y = y} {reason = code} {place = at} (b, q, how, f) (next_member a) = no_sign_in_blanks 44 x b q y code at how comma_solid f a
none_in_blanks {x = x} {y = y} {reason = code} {place = at} (b, q, how, f) (closes {d = d} {b = c} s e a) = no_sign_in_blanks s x b q y code at how (solid_sign s (closing_solid d c s e)) f a

-- ---- which token it is

-- any token is as long as the first character
pub past_first : {d e : Next} {o p : List Crumb} {y z : List ℕ} (c : ℕ) (r : List ℕ) → y ≡ (c ∷ []) ++ r → Step d o y e p z → bytes_in z ≤ bytes_in r
past_first {z = z} c r e s =
    let t = step_takes s in
    let rest : t.more ++ z ≡ r = rest_same t.first c (t.more ++ z) r (sym t.split ∙ e) in
    omega (arith, ap bytes_in rest, bytes_joined t.more z)

pub no_gap : (y : List ℕ) → Gap [] y
no_gap y = Gap.blanks Blanks.empty

pub unsigned : (s : ℕ) (y z : List ℕ) → is_solid s ≡ true → Solid y → NotBegun (λ h. h == s) y → IsSign s y z → ⊥
unsigned s y z h solid n a = no_sign s y [] y z h refl (no_gap y) solid n a

-- a value without a bracket in front has none
flat : {s : List ℕ} {t : Tree} (z : List ℕ) → Val s t → NotBegun (λ h. h == 91) (s ++ z) → NotBegun (λ h. h == 123) (s ++ z) → depth t ≡ 0
flat z is_null a b = refl
flat z is_true a b = refl
flat z is_false a b = refl
flat z (is_number n) a b = refl
flat z (is_text k) a b = refl
flat z (is_empty_array w) a b = absurd (cc)
flat z (is_array ms) a b = absurd (cc)
flat z (is_empty_object w) a b = absurd (cc)
flat z (is_object ms) a b = absurd (cc)

reads_flat : (y z : List ℕ) (t : Tree) → Solid y → NotBegun (λ h. h == 91) y → NotBegun (λ h. h == 123) y → Reads y t z → read 128 y ≡ got t z
reads_flat y z t solid a b r =
    let split : y ≡ r.phrase ++ z = phrase_found y [] y z t refl (no_gap y) solid r in
    let n : depth t ≡ 0 = flat z r.value (subst (NotBegun (λ h. h == 91)) split a) (subst (NotBegun (λ h. h == 123)) split b) in
    ap (read 128) split ∙ read_complete r.value z r.stops 128 (omega (arith, n))

-- where a value is due and no bracket is in front, it is the value that is read
pub only_value : {d e : Next} {b : Crumb} {o p : List Crumb} {y z : List ℕ} → takes_value d ≡ true → Solid y → NotBegun (λ h. h == 91) y → NotBegun (λ h. h == 123) y
    → ((k : ℕ) → closing d b ≡ Some k → NotBegun (λ h. h == k) y) → Step d (b ∷ o) y e p z → (t : Tree) × (read 128 y ≡ got t z)
only_value {y = y} {z = z} v solid m n shut (value t w r) = (t, reads_flat y z t solid m n r)
only_value {y = y} {z = z} v solid m n shut (array w a) = absurd (unsigned 91 y z opening_solid solid m a)
only_value {y = y} {z = z} v solid m n shut (object w a) = absurd (unsigned 123 y z opening_brace_solid solid n a)
only_value v solid m n shut (key u f k) = absurd (cc)
only_value v solid m n shut (colon a) = absurd (cc)
only_value v solid m n shut (next_element a) = absurd (cc)
only_value v solid m n shut (next_member a) = absurd (cc)
only_value {y = y} {z = z} v solid m n shut (closes {d = d} {b = b} s e a) = absurd (unsigned s y z (solid_sign s (closing_solid d b s e)) solid (shut s e) a)

-- where something else is due than a value
no_value_at : (d c : Next) → d ≡ c → takes_value c ≡ false → takes_value d ≡ true → ⊥
no_value_at d c e f w = let k : takes_value d ≡ false = ap takes_value e ∙ f in absurd (cc)

closed_only : (d : Next) (b : Crumb) (s : ℕ) (y z : List ℕ) → Solid y → ((k : ℕ) → closing d b ≡ Some k → NotBegun (λ h. h == k) y) → closing d b ≡ Some s → IsSign s y z → ⊥
closed_only d b s y z solid shut e a = unsigned s y z (solid_sign s (closing_solid d b s e)) solid (shut s e) a

-- where a key is due, it is the key
pub only_key : {d e : Next} {b : Crumb} {o p : List Crumb} {y z : List ℕ} → d ≡ next.Key → Solid y
    → ((k : ℕ) → closing d b ≡ Some k → NotBegun (λ h. h == k) y) → Step d (b ∷ o) y e p z → (u : List ℕ) × (f : Bool) × ReadsKey y u f z
only_key {d = d} is solid shut (value t w r) = absurd (no_value_at d next.Key is refl w)
only_key {d = d} is solid shut (array w a) = absurd (no_value_at d next.Key is refl w)
only_key {d = d} is solid shut (object w a) = absurd (no_value_at d next.Key is refl w)
only_key is solid shut (key u f k) = (u, f, k)
only_key is solid shut (colon a) = absurd (cc)
only_key is solid shut (next_element a) = absurd (cc)
only_key is solid shut (next_member a) = absurd (cc)
only_key {y = y} {z = z} is solid shut (closes {d = d} {b = b} s e a) = absurd (closed_only d b s y z solid shut e a)

-- where a colon is due, it is the colon
pub only_colon : {d e : Next} {b : Crumb} {o p : List Crumb} {y z : List ℕ} → d ≡ next.Colon → Step d (b ∷ o) y e p z → IsSign 58 y z
only_colon {d = d} is (value t w r) = absurd (no_value_at d next.Colon is refl w)
only_colon {d = d} is (array w a) = absurd (no_value_at d next.Colon is refl w)
only_colon {d = d} is (object w a) = absurd (no_value_at d next.Colon is refl w)
only_colon is (key u f k) = absurd (cc)
only_colon is (colon a) = a
only_colon is (next_element a) = absurd (cc)
only_colon is (next_member a) = absurd (cc)
only_colon is (closes {d = d} {b = b} s e a) = absurd (never d b s is e)
  where
    never : (d : Next) (b : Crumb) (s : ℕ) → d ≡ next.Colon → closing d b ≡ Some s → ⊥
    never d whole s is e = absurd (cc)
    never d (element n) s is e = let k : closing next.Colon (element n) ≡ Some s = sym (ap (λ c. closing c (element n)) is) ∙ e in absurd (cc)
    never d (member u) s is e = let k : closing next.Colon (member u) ≡ Some s = sym (ap (λ c. closing c (member u)) is) ∙ e in absurd (cc)

-- where a comma is due, it is the comma, and a bracket is open
pub only_comma : {d e : Next} {b : Crumb} {o p : List Crumb} {y z : List ℕ} → d ≡ next.Comma → Solid y
    → ((k : ℕ) → closing d b ≡ Some k → NotBegun (λ h. h == k) y) → Step d (b ∷ o) y e p z → IsSign 44 y z × (b ≡ whole → ⊥)
only_comma {d = d} is solid shut (value t w r) = absurd (no_value_at d next.Comma is refl w)
only_comma {d = d} is solid shut (array w a) = absurd (no_value_at d next.Comma is refl w)
only_comma {d = d} is solid shut (object w a) = absurd (no_value_at d next.Comma is refl w)
only_comma is solid shut (key u f k) = absurd (cc)
only_comma is solid shut (colon a) = absurd (cc)
only_comma is solid shut (next_element a) = (a, λ h. cc)
only_comma is solid shut (next_member a) = (a, λ h. cc)
only_comma {y = y} {z = z} is solid shut (closes {d = d} {b = b} s e a) = absurd (closed_only d b s y z solid shut e a)

-- where nothing is due, there is none
pub none_at_failed : {d e : Next} {b : Crumb} {o p : List Crumb} {y z : List ℕ} → d ≡ next.Failed → Step d (b ∷ o) y e p z → ⊥
none_at_failed {d = d} is (value t w r) = no_value_at d next.Failed is refl w
none_at_failed {d = d} is (array w a) = no_value_at d next.Failed is refl w
none_at_failed {d = d} is (object w a) = no_value_at d next.Failed is refl w
none_at_failed is (key u f k) = absurd (cc)
none_at_failed is (colon a) = absurd (cc)
none_at_failed is (next_element a) = absurd (cc)
none_at_failed is (next_member a) = absurd (cc)
none_at_failed is (closes {d = d} {b = b} s e a) = never d b s is e
  where
    never : (d : Next) (b : Crumb) (s : ℕ) → d ≡ next.Failed → closing d b ≡ Some s → ⊥
    never d whole s is e = absurd (cc)
    never d (element n) s is e = let k : closing next.Failed (element n) ≡ Some s = sym (ap (λ c. closing c (element n)) is) ∙ e in absurd (cc)
    never d (member u) s is e = let k : closing next.Failed (member u) ≡ Some s = sym (ap (λ c. closing c (member u)) is) ∙ e in absurd (cc)

-- ---- a closing bracket where no bracket is open around it

key_closed : (b : Crumb) (s : ℕ) → closing next.Key b ≡ Some s → s ≡ 125
key_closed whole s e = absurd (cc)
key_closed (element n) s e = absurd (cc)
key_closed (member k) s e = cc

colon_unclosed : (b : Crumb) (s : ℕ) → closing next.Colon b ≡ Some s → ⊥
colon_unclosed whole s e = absurd (cc)
colon_unclosed (element n) s e = absurd (cc)
colon_unclosed (member k) s e = absurd (cc)

no_value_sign : (s : ℕ) → (s ≡ 93) ⊎ (s ≡ 125) → begins_value s ≡ false
no_value_sign s (inl e) = ap begins_value e
no_value_sign s (inr e) = ap begins_value e

differs_91 : {s : ℕ} → (s ≡ 93) ⊎ (s ≡ 125) → 91 ≡ s → ⊥
differs_91 (inl e) h = omega (arith, e, h)
differs_91 (inr e) h = omega (arith, e, h)

differs_123 : {s : ℕ} → (s ≡ 93) ⊎ (s ≡ 125) → 123 ≡ s → ⊥
differs_123 (inl e) h = omega (arith, e, h)
differs_123 (inr e) h = omega (arith, e, h)

differs_44 : {s : ℕ} → (s ≡ 93) ⊎ (s ≡ 125) → 44 ≡ s → ⊥
differs_44 (inl e) h = omega (arith, e, h)
differs_44 (inr e) h = omega (arith, e, h)

pub nothing_else : {d e : Next} {b : Crumb} {o p : List Crumb} {y z r : List ℕ} (s : ℕ) → closing d b ≡ Some s → o ≡ b ∷ [] → IsSign s y r → Step d o y e p z → ⊥
nothing_else {d = d} {b = b} {y = y} {z = z} {r = r} s e o a (value t v k) =
    let is = closing_solid d b s e in sign_no_value s y z r t (solid_sign s is) (no_value_sign s is) a k
nothing_else {d = d} {b = b} {y = y} {z = z} {r = r} s e o a (array v f) =
    let is = closing_solid d b s e in differs_91 is (one_sign 91 s y z r opening_solid (solid_sign s is) f a).0
nothing_else {d = d} {b = b} {y = y} {z = z} {r = r} s e o a (object v f) =
    let is = closing_solid d b s e in differs_123 is (one_sign 123 s y z r opening_brace_solid (solid_sign s is) f a).0
nothing_else {b = b} {y = y} {z = z} {r = r} s e o a (key u f k) = brace_no_key y z r u f (subst (λ c. IsSign c y r) (key_closed b s e) a) k
nothing_else {b = b} s e o a (colon f) = colon_unclosed b s e
nothing_else {b = b} {y = y} {z = z} {r = r} s e o a (next_element f) =
    let is = closing_solid next.Comma b s e in differs_44 is (one_sign 44 s y z r comma_solid (solid_sign s is) f a).0
nothing_else {b = b} {y = y} {z = z} {r = r} s e o a (next_member f) =
    let is = closing_solid next.Comma b s e in differs_44 is (one_sign 44 s y z r comma_solid (solid_sign s is) f a).0
nothing_else s e o a (closes t f g) = absurd (cc)
