-- Reading doesn't depend on the number of turns, if it is enough; so what is left is read by equations without it, as a loop needs.
use Rattle.std.proofs.Common.{◌≡◌, ℕ, zero, suc, ◌<◌, Bool, true, false, cond, ◌||◌, List, [], ◌∷◌, length, refl, ap, sym, ◌∙◌, arith, subst, Option, Some}
use Rattle.std.specs.Prelude.{◌==◌}
use Rattle.json5_grammar.specs.Language.Characters.{is_identifier_start, is_identifier_part}
use Rattle.json5_grammar.specs.Faults.Codes.{ErrorCode, EofParsingString, EofParsingIdentifier, LineTerminatorInString}
use Rattle.json5_grammar.specs.Model.Reading.{Place, here, inner, Read, got, bad, and_then}
use Rattle.json5_grammar.specs.Model.ReadTexts.{escape_at, put, items, string, name_escape, fit, parts, identifier}
use Rattle.json5_grammar.proofs.CommonLemmas.{eq_from}
use Rattle.json5_grammar.proofs.EscapesSound.{EscapeSound, escape_sound}
use Rattle.json5_grammar.proofs.StringsRead.{escape_head}
use Rattle.json5_grammar.proofs.NamesRead.{unicode_head}
use Rattle.json5_grammar.proofs.NamesSound.{EscapedSound, escaped_sound}
use Rattle.json5_grammar.proofs.StringsSound.{shorter}

same_cond : {A : Type 0} (b : Bool) (x y v w : A) → (b ≡ true → x ≡ v) → (b ≡ false → y ≡ w) → cond b x y ≡ cond b v w
same_cond true x y v w f g = f refl
same_cond false x y v w f g = g refl

same_then : (x : List ℕ) (res : Read (List ℕ)) (k l : List ℕ → Read (List ℕ × Bool)) → EscapeSound x res → ((y : List ℕ) → length y < length x → k y ≡ l y)
    → and_then res (λ v y. put v false (k y)) ≡ and_then res (λ v y. put v false (l y))
same_then x (got v y) k l (e, f, h) i = ap (put v false) (i y (shorter x e y f (escape_head h)))
same_then x (bad c p) k l s i = refl

pub same_turns : (n m q : ℕ) (y : List ℕ) → length y < n → length y < m → items n q y ≡ items m q y
unfolding items
same_turns zero m q y l h = absurd (omega arith)
same_turns (suc n) zero q y l h = absurd (omega arith)
same_turns (suc n) (suc m) q [] l h = refl
same_turns (suc n) (suc m) q (c ∷ r) l h =
    same_cond (c == q) _ _ _ _ (λ t. refl)
    (λ not_q. same_cond (c == 92) _ _ _ _
    (λ t. same_then (c ∷ r) (escape_at (c ∷ r) r) (items n q) (items m q) (subst (λ z. EscapeSound (z ∷ r) (escape_at (z ∷ r) r)) (sym (eq_from c 92 t)) (escape_sound r)) (λ y k. same_turns n m q y (omega arith) (omega arith)))
    (λ not_slash. same_cond ((c == 10) || (c == 13)) _ _ _ _ (λ t. refl)
    (λ t. ap (put (c ∷ []) true) (same_turns n m q r (omega arith) (omega arith)))))

same_fit : (f : ℕ → Bool) (x : List ℕ) (res : Read ℕ) (k l : List ℕ → Read (List ℕ × Bool)) → EscapedSound f x res → ((y : List ℕ) → length y < length x → k y ≡ l y)
    → and_then res (λ n y. put (n ∷ []) false (k y)) ≡ and_then res (λ n y. put (n ∷ []) false (l y))
same_fit f x (got n y) k l (e, g, u, h) i = ap (put (n ∷ []) false) (i y (shorter x e y g (unicode_head u)))
same_fit f x (bad c p) k l s i = refl

pub same_part_turns : (n m : ℕ) (y : List ℕ) → length y < n → length y < m → parts n y ≡ parts m y
unfolding parts
same_part_turns zero m y l h = absurd (omega arith)
same_part_turns (suc n) zero y l h = absurd (omega arith)
same_part_turns (suc n) (suc m) [] l h = refl
same_part_turns (suc n) (suc m) (c ∷ r) l h =
    same_cond (c == 92) _ _ _ _
    (λ t. same_fit is_identifier_part (c ∷ r) (and_then (name_escape (c ∷ r) r) (fit is_identifier_part (c ∷ r))) (parts n) (parts m)
    (subst (λ z. EscapedSound is_identifier_part (z ∷ r) (and_then (name_escape (z ∷ r) r) (fit is_identifier_part (z ∷ r)))) (sym (eq_from c 92 t)) (escaped_sound is_identifier_part r))
    (λ y k. same_part_turns n m y (omega arith) (omega arith)))
    (λ t. same_cond (is_identifier_part c) _ _ _ _ (λ k. ap (put (c ∷ []) true) (same_part_turns n m r (omega arith) (omega arith))) (λ k. refl))

-- ---- the rest of a string, and the rest of a name

unfoldable pub string_rest : ℕ → List ℕ → Read (List ℕ × Bool)
string_rest q y = items (suc (length y)) q y

unfoldable pub name_rest : List ℕ → Read (List ℕ × Bool)
name_rest y = parts (suc (length y)) y

pub string_is : (q : ℕ) (y : List ℕ) → string (q ∷ y) ≡ string_rest q y
unfolding string string_rest
string_is q y = refl

pub rest_end : (q : ℕ) → string_rest q [] ≡ bad (Some EofParsingString) inner
unfolding string_rest items
rest_end q = refl

pub rest_quote : (q c : ℕ) (r : List ℕ) → (c == q) ≡ true → string_rest q (c ∷ r) ≡ got ([], true) r
unfolding string_rest items
rest_quote q c r h = rw h refl

pub rest_line : (q c : ℕ) (r : List ℕ) → (c == q) ≡ false → (c == 92) ≡ false → ((c == 10) || (c == 13)) ≡ true → string_rest q (c ∷ r) ≡ bad (Some LineTerminatorInString) (here (c ∷ r))
unfolding string_rest items
rest_line q c r a b h = rw (h, a, b) refl

pub rest_raw : (q c : ℕ) (r : List ℕ) → (c == q) ≡ false → (c == 92) ≡ false → ((c == 10) || (c == 13)) ≡ false → string_rest q (c ∷ r) ≡ put (c ∷ []) true (string_rest q r)
unfolding string_rest items
rest_raw q c r a b h = rw (h, a, b) refl

pub rest_bad : (q : ℕ) (r : List ℕ) (e : Option ErrorCode) (p : Place) → (92 == q) ≡ false → escape_at (92 ∷ r) r ≡ bad e p → string_rest q (92 ∷ r) ≡ bad e p
unfolding string_rest items
rest_bad q r e p a h = rw a (ap (λ z. and_then z (λ v y. put v false (items (suc (length r)) q y))) h)

got_shorter : (x v y : List ℕ) → EscapeSound x (got v y) → length y < length x
got_shorter x v y (e, f, h) = shorter x e y f (escape_head h)

pub rest_escape : (q : ℕ) (r v y : List ℕ) → (92 == q) ≡ false → escape_at (92 ∷ r) r ≡ got v y → string_rest q (92 ∷ r) ≡ put v false (string_rest q y)
unfolding string_rest items
rest_escape q r v y a h =
    rw a (ap (λ z. and_then z (λ v y. put v false (items (suc (length r)) q y))) h ∙ ap (put v false) (same_turns (suc (length r)) (suc (length y)) q y (got_shorter (92 ∷ r) v y (subst (EscapeSound (92 ∷ r)) h (escape_sound r))) (omega arith)))

pub name_end : name_rest [] ≡ bad (Some EofParsingIdentifier) inner
unfolding name_rest parts
name_end = refl

pub name_stops : (c : ℕ) (r : List ℕ) → (c == 92) ≡ false → is_identifier_part c ≡ false → name_rest (c ∷ r) ≡ got ([], true) (c ∷ r)
unfolding name_rest parts
name_stops c r a b = rw (a, b) refl

pub name_raw : (c : ℕ) (r : List ℕ) → (c == 92) ≡ false → is_identifier_part c ≡ true → name_rest (c ∷ r) ≡ put (c ∷ []) true (name_rest r)
unfolding name_rest parts
name_raw c r a b = rw (a, b) refl

name_shorter : (f : ℕ → Bool) (x y : List ℕ) (n : ℕ) → EscapedSound f x (got n y) → length y < length x
name_shorter f x y n (e, g, u, h) = shorter x e y g (unicode_head u)

pub name_escaped : (r y : List ℕ) (n : ℕ) → and_then (name_escape (92 ∷ r) r) (fit is_identifier_part (92 ∷ r)) ≡ got n y → name_rest (92 ∷ r) ≡ put (n ∷ []) false (name_rest y)
unfolding name_rest parts
name_escaped r y n h =
    ap (λ z. and_then z (λ n y. put (n ∷ []) false (parts (suc (length r)) y))) h
    ∙ ap (put (n ∷ []) false) (same_part_turns (suc (length r)) (suc (length y)) y (name_shorter is_identifier_part (92 ∷ r) y n (subst (EscapedSound is_identifier_part (92 ∷ r)) h (escaped_sound is_identifier_part r))) (omega arith))

pub name_bad : (r : List ℕ) (e : Option ErrorCode) (p : Place) → and_then (name_escape (92 ∷ r) r) (fit is_identifier_part (92 ∷ r)) ≡ bad e p → name_rest (92 ∷ r) ≡ bad e p
unfolding name_rest parts
name_bad r e p h = ap (λ z. and_then z (λ n y. put (n ∷ []) false (parts (suc (length r)) y))) h

pub start_raw : (c : ℕ) (r : List ℕ) → (c == 92) ≡ false → is_identifier_start c ≡ true → identifier (c ∷ r) ≡ put (c ∷ []) true (name_rest r)
unfolding name_rest identifier
start_raw c r a b = rw (a, b) refl

pub start_escaped : (r y : List ℕ) (n : ℕ) → and_then (name_escape (92 ∷ r) r) (fit is_identifier_start (92 ∷ r)) ≡ got n y → identifier (92 ∷ r) ≡ put (n ∷ []) false (name_rest y)
unfolding name_rest identifier
start_escaped r y n h =
    ap (λ z. and_then z (λ n y. put (n ∷ []) false (parts (suc (length r)) y))) h
    ∙ ap (put (n ∷ []) false) (same_part_turns (suc (length r)) (suc (length y)) y (name_shorter is_identifier_start (92 ∷ r) y n (subst (EscapedSound is_identifier_start (92 ∷ r)) h (escaped_sound is_identifier_start r))) (omega arith))

pub start_bad : (r : List ℕ) (e : Option ErrorCode) (p : Place) → and_then (name_escape (92 ∷ r) r) (fit is_identifier_start (92 ∷ r)) ≡ bad e p → identifier (92 ∷ r) ≡ bad e p
unfolding identifier
start_bad r e p h = ap (λ z. and_then z (λ n y. put (n ∷ []) false (parts (suc (length r)) y))) h
