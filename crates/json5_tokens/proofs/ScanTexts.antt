-- Steps of reading strings and names.
use Rattle.std.proofs.Common.{◌≡◌, ℕ, ◌+◌, ◌<◌, ◌≤◌, Bool, true, false, List, [], ◌∷◌, ◌++◌, length, refl, ap, sym, ◌∙◌, append_assoc, subst, arith, Option, Some}
use denote.Ref.{Bor}
use Rattle.std.specs.Prelude.{◌==◌, ◌&&◌, String, Result, Ok, Err}
use Rattle.std.specs.Str.{IsUtf8, chars, encode_utf8_all}
use Rattle.std.proofs.lemmas.List.{length-append, append-nil}
use Rattle.std.proofs.lemmas.Str.{encodes-append, encodes-chars}
use Rattle.json5_grammar.specs.declared.error_code.ErrorCode.{ErrorCode}
use Rattle.json5_grammar.specs.declared.error_code.ErrorCode.TheVariants.{EofParsingIdentifier, ExpectedIdentifier, InvalidEscapeSequence}
use Rattle.json5_grammar.specs.Model.Reading.{Read, Place, got, bad, here, inner, and_then}
use Rattle.json5_grammar.specs.Model.ReadTexts.{name_escape, unicode_at, fit, one_char, put}
use Rattle.json5_grammar.proofs.EscapesSound.{EscapeSound, escape_sound}
use Rattle.json5_grammar.proofs.NamesRead.{unicode_head}
use Rattle.json5_grammar.proofs.NamesSound.{EscapedSound, escaped_sound}
use Rattle.json5_grammar.proofs.StringsRead.{escape_head, quote_no_backslash}
use Rattle.json5_grammar.proofs.StringsSound.{shorter}
use Rattle.json5_grammar.proofs.TextTurns.{string_is, rest_bad, rest_escape, name_rest, name_escaped, name_bad, start_escaped, start_bad}
use Rattle.json5_tokens.specs.declared.refusal.Refusal.{Refusal}
use Rattle.json5_tokens.specs.declared.strings_and_names.Kind.{Kind}
use Rattle.json5_tokens.specs.declared.strings_and_names.Kind.TheVariants as kind
use Rattle.json5_tokens.specs.declared.strings_and_names.Stop.{Stop}
use Rattle.json5_tokens.specs.declared.strings_and_names.Stop.TheVariants as stop
use Rattle.json5_tokens.specs.Outcome.{outcome}
use Rattle.json5_tokens.specs.RefusalOutcomes.{Refuses}
use Rattle.json5_tokens.specs.TokenResults.{AnswersMore, AnswersOwned}
use Rattle.json5_tokens.specs.ScanTexts.{quote_of, after_first_char, past, text_at, fits_name, SkipsRaw, item_of_name, item, ReadsUpTo, AnswersStop, IsRun}
use Rattle.json5_tokens.proofs.ScanEscapes.{refuses_as}
use Rattle.json5_tokens.proofs.ScanRuns.{quote_is, rest_is, put_put, run_past}

-- ---- escapes

one_read : (res : Read ℕ) (v z : List ℕ) → and_then res one_char ≡ got v z → (n : ℕ) × (res ≡ got n z) × (v ≡ n ∷ [])
one_read (got n r) v z e = (n, cc, cc)
one_read (bad c p) v z e = absurd (cc)

one_refused : (res : Read ℕ) (c : Option ErrorCode) (p : Place) → and_then res one_char ≡ bad c p → res ≡ bad c p
one_refused (got n r) c p e = absurd (cc)
one_refused (bad d q) c p e = cc

-- an escape that is read, and then the rest
item_at : (k : Kind) (y v z : List ℕ) → item k (92 ∷ y) y ≡ got v z → (text_at k (92 ∷ y) ≡ put v false (text_at (after_first_char k) z)) × (length z ≤ length y)
item_at kind.Name y v z h =
    let n = one_read _ v z h in
    let s = subst (EscapedSound (fits_name true) (92 ∷ y)) n.1 (escaped_sound (fits_name true) y) in
    let l : length z < length (92 ∷ y) = shorter (92 ∷ y) s.0 z s.1 (unicode_head s.2) in
    (start_escaped y z n.0 n.1 ∙ ap (λ w. put w false (name_rest z)) (sym n.2) ∙ ap (put v false) (sym (rest_is z)), omega arith)
item_at kind.NameRest y v z h =
    let n = one_read _ v z h in
    let s = subst (EscapedSound (fits_name false) (92 ∷ y)) n.1 (escaped_sound (fits_name false) y) in
    let l : length z < length (92 ∷ y) = shorter (92 ∷ y) s.0 z s.1 (unicode_head s.2) in
    (rest_is (92 ∷ y) ∙ name_escaped y z n.0 n.1 ∙ ap (λ w. put w false (name_rest z)) (sym n.2) ∙ ap (put v false) (sym (rest_is z)), omega arith)
item_at (kind.String q) y v z h =
    let s = subst (EscapeSound (92 ∷ y)) h (escape_sound y) in
    let l : length z < length (92 ∷ y) = shorter (92 ∷ y) s.0 z s.1 (escape_head s.2) in
    (string_is (quote_of q) (92 ∷ y) ∙ rest_escape (quote_of q) y v z (quote_no_backslash (quote_of q) (quote_is q)) h ∙ ap (put v false) (sym (string_is (quote_of q) z)), omega arith)

fault_at : (k : Kind) (y : List ℕ) (c : Option ErrorCode) (p : Place) → item k (92 ∷ y) y ≡ bad c p → text_at k (92 ∷ y) ≡ bad c p
fault_at kind.Name y c p h = start_bad y c p (one_refused _ c p h)
fault_at kind.NameRest y c p h = rest_is (92 ∷ y) ∙ name_bad y c p (one_refused _ c p h)
fault_at (kind.String q) y c p h = string_is (quote_of q) (92 ∷ y) ∙ rest_bad (quote_of q) y c p (quote_no_backslash (quote_of q) (quote_is q)) h

pub item_read : (k : Kind) (x y v z : List ℕ) → x ≡ 92 ∷ y → item k x y ≡ got v z → (text_at k x ≡ put v false (text_at (after_first_char k) z)) × (length z ≤ length y)
item_read k x y v z e = subst (λ t. item k t y ≡ got v z → (text_at k t ≡ put v false (text_at (after_first_char k) z)) × (length z ≤ length y)) (sym e) (item_at k y v z)

pub item_refused : (k : Kind) (r : Refusal) (x y : List ℕ) → x ≡ 92 ∷ y → Refuses r (outcome (item k x y)) → Refuses r (outcome (text_at k x))
item_refused k r x y e = refuses_as r (item k x y) (text_at k x) (λ c p. subst (λ t. item k t y ≡ bad c p → text_at k t ≡ bad c p) (sym e) (fault_at k y c p))

-- ---- what is read up to an escape, and from there on

pub goes_past : (whole next : Read (List ℕ × Bool)) (u v : List ℕ) (p q : Bool) (s : Stop) → whole ≡ put u p next → ReadsUpTo next v q s → ReadsUpTo whole (u ++ v) (p && q) s
goes_past whole next u v p q (stop.End rest) e g = record { read = e ∙ ap (put u p) g.read; text = g.text }
goes_past whole next u v p q (stop.Escape k x y) e g = (e ∙ ap (put u p) g.0 ∙ put_put u v p q (text_at k (chars x.now)), g.1)

pub run_ends : (k j : Kind) (whole run rest : List ℕ) (end : Stop) (s : SkipsRaw k whole rest) → chars run ≡ s.passed → j ≡ past k (chars run) → IsUtf8 run → AnswersStop j rest (Ok end) → IsRun k whole run end
run_ends k j whole run rest end s e f u g = record {
  goes_on = subst (λ t. ReadsUpTo (text_at k (chars whole)) t true end) (append-nil (chars run)) (goes_past _ _ (chars run) [] true true end (run_past k j whole run rest s e f) g.0);
  left = let l : length (chars whole) ≡ length s.passed + length (chars rest) = ap length s.split ∙ length-append s.passed (chars rest) in let m = g.1 in omega arith;
  text = u;
}

pub refused_past : (r : Refusal) (whole next : Read (List ℕ × Bool)) (u : List ℕ) (p : Bool) → whole ≡ put u p next → Refuses r (outcome next) → Refuses r (outcome whole)
refused_past r whole next u p e = refuses_as r next whole (λ c z g. e ∙ ap (put u p) g)

pub bytes_past : (front a b c r u v : List ℕ) → a ≡ front ++ encode_utf8_all u → b ≡ a ++ encode_utf8_all v → c ≡ b ++ r → IsUtf8 r → c ≡ front ++ encode_utf8_all (u ++ (v ++ chars r))
bytes_past front a b c r u v e f g k =
    g ∙ ap (λ t. t ++ r) (f ∙ ap (λ t. t ++ encode_utf8_all v) e) ∙ append_assoc (front ++ encode_utf8_all u) (encode_utf8_all v) r ∙ append_assoc front (encode_utf8_all u) (encode_utf8_all v ++ r)
    ∙ ap (λ t. front ++ (encode_utf8_all u ++ (encode_utf8_all v ++ t))) (sym (encodes-chars r k))
    ∙ ap (λ t. front ++ (encode_utf8_all u ++ t)) (sym (encodes-append v (chars r))) ∙ ap (λ t. front ++ t) (sym (encodes-append u (v ++ chars r)))

pub bytes_more : (front a b u v : List ℕ) → a ≡ front ++ encode_utf8_all u → b ≡ a ++ encode_utf8_all v → b ≡ front ++ encode_utf8_all (u ++ v)
bytes_more front a b u v e f = f ∙ ap (λ t. t ++ encode_utf8_all v) e ∙ append_assoc front (encode_utf8_all u) (encode_utf8_all v) ∙ ap (λ t. front ++ t) (sym (encodes-append u v))

pub both_parts : (r u : List ℕ) → IsUtf8 r → r ++ encode_utf8_all u ≡ encode_utf8_all (chars r ++ u)
both_parts r u k = ap (λ t. t ++ encode_utf8_all u) (sym (encodes-chars r k)) ∙ sym (encodes-append (chars r) u)

-- ---- a string or name with an escape isn't escape-free

abbrev flag : Read (List ℕ × Bool) → Bool
flag (got a r) = a.1
flag (bad e p) = false

plain_put : (v u r : List ℕ) (p : Bool) (m : Read (List ℕ × Bool)) → put v p m ≡ got (u, true) r → (p ≡ true) × ((w : List ℕ) × (y : List ℕ) × (m ≡ got (w, true) y))
plain_put v u r true (got (w, true) y) e = (refl, (w, y, refl))
plain_put v u r true (got (w, false) y) e = let h : false ≡ true = ap flag e in absurd (cc)
plain_put v u r false (got a y) e = let h : false ≡ true = ap flag e in absurd (cc)
plain_put v u r p (bad c z) e = let h : false ≡ true = ap flag e in absurd (cc)

pub escape_not_escape_free : (k : Kind) (x y u r : List ℕ) → x ≡ 92 ∷ y → text_at k x ≡ got (u, true) r → ⊥
escape_not_escape_free k x y u r e f = by_item (item k x y) refl
  where
    by_item : (res : Read (List ℕ)) → item k x y ≡ res → ⊥
    by_item (got v z) h = let p = (plain_put v u r false (text_at (after_first_char k) z) (sym (item_read k x y v z e h).0 ∙ f)).0 in absurd (cc)
    by_item (bad c p) h =
        let g : text_at k x ≡ bad c p = subst (λ t. item k t y ≡ bad c p → text_at k t ≡ bad c p) (sym e) (fault_at k y c p) h in
        absurd (cc)

pub never_escape_free : (k : Kind) (x y u r : List ℕ) (p : Bool) → x ≡ 92 ∷ y → text_at k x ≡ got (u, p) r → p ≡ false
never_escape_free k x y u r true e f = absurd (escape_not_escape_free k x y u r e f)
never_escape_free k x y u r false e f = refl

pub not_escape_free_past : (whole next : Read (List ℕ × Bool)) (u v r : List ℕ) (p : Bool) → whole ≡ put u p next → ((w y : List ℕ) → next ≡ got (w, true) y → ⊥) → whole ≡ got (v, true) r → ⊥
not_escape_free_past whole next u v r p e n f =
    let k = plain_put u v r p next (sym e ∙ f) in
    n k.1.0 k.1.1 k.1.2

-- ---- a name's escape

pub escape_none : (b xs : List ℕ) → xs ≡ [] → name_escape b xs ≡ bad (Some EofParsingIdentifier) inner
unfolding name_escape
escape_none b xs e = rw e refl

pub escape_other : (c : ℕ) (b xs ys : List ℕ) → xs ≡ c ∷ ys → (c ≡ 117 → ⊥) → name_escape b xs ≡ bad (Some InvalidEscapeSequence) (here xs)
unfolding name_escape
escape_other c b xs ys e n = let t : (c == 117) ≡ false = grind arith in rw e (rw t refl)

pub escape_unicode : (c : ℕ) (b xs ys : List ℕ) → xs ≡ c ∷ ys → c ≡ 117 → name_escape b xs ≡ unicode_at b ys
unfolding name_escape
escape_unicode c b xs ys e h = rw (e, h) refl

pub item_misfits : (first : Bool) (b xs ys : List ℕ) (n : ℕ) → name_escape b xs ≡ got n ys → fits_name first n ≡ false → item_of_name first b xs ≡ bad (Some ExpectedIdentifier) (here b)
item_misfits first b xs ys n e h = ap (λ z. and_then (and_then z (fit (fits_name first) b)) one_char) e ∙ rw h refl

-- ---- a text with an escape, and the run before it

pub more_owned : {A : Type 0} (run : List ℕ) (whole next : Read (List ℕ × Bool)) (r : Result (String A × Bor (List ℕ)) Refusal) → whole ≡ put (chars run) true next → IsUtf8 run → AnswersMore run next r → AnswersOwned whole r
more_owned run whole next (Ok p) e u m = record { spelled = chars run ++ m.spelled; escape_free = false; read = e ∙ ap (put (chars run) true) m.read; is_text = m.whole ∙ both_parts run m.spelled u; text = m.text }
more_owned run whole next (Err r) e u m = refused_past r whole next (chars run) true e m
