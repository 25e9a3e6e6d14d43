-- How a text goes on after each part of it.
use Rattle.std.proofs.Common.{◌≡◌, ℕ, ◌+◌, List, [], ◌∷◌, ◌++◌, Bool, true, false, length, refl, sym, ap, ◌∙◌, arith}
use Rattle.json5_grammar.specs.Language.Characters.{comma_sign, colon_sign, space}
use Rattle.json5_grammar.specs.Faults.Fronts.{opening, closing}
use Rattle.json5_write.specs.Brackets.{bracket_of}
use Rattle.json5_write.specs.Commas.{comma_before, closed_after}
use Rattle.json5_write.specs.Out.{Out, Stop, whole, invalid_key, too_deep, no_number, followed_by, piece, ◌then◌, line, key_out, opened_by, out, elements_out, fields_out}
use Rattle.json5_write.specs.WrittenTrees.{WrittenKey, Written, array, object, no_element, element, no_field, field}
use Rattle.json5_write.specs.declared.brackets.Brackets.{Brackets}
use Rattle.json5_write.specs.declared.brackets.Brackets.TheVariants as brackets
use Rattle.json5_write.proofs.OutputsJoined.{then_assoc}
use Rattle.json5_write.proofs.Commas.{comma_before_then}
use Rattle.json5_serde_write.specs.Pens.{Completes}

-- ---- outputs

append_nil : (s : List ℕ) → s ++ [] ≡ s
append_nil [] = refl
append_nil (c ∷ s) = ap (λ z. c ∷ z) (append_nil s)

followed_by_nothing : (s : List ℕ) (e : Stop) → followed_by s e (piece []) ≡ record { text = s; stop = e }
followed_by_nothing s whole = ap (λ z. record { text = z; stop = whole }) (append_nil s)
followed_by_nothing s invalid_key = refl
followed_by_nothing s too_deep = refl
followed_by_nothing s no_number = refl

pub then_nothing : (a : Out) → a then piece [] ≡ a
then_nothing a = followed_by_nothing a.text a.stop

pub nothing_then : (a : Out) → piece [] then a ≡ a
nothing_then a = refl

-- an element of the line l and the value v, before the comma c and the rest e of its list
element_moves : (due : Bool) (l v c e z : Out) → comma_before due l then (v then ((c then e) then z)) ≡ comma_before due ((l then (v then c)) then e) then z
element_moves due l v c e z =
    ap (λ x. comma_before due l then x) (sym (then_assoc v (c then e) z))
    ∙ (sym (then_assoc (comma_before due l) (v then (c then e)) z)
    ∙ ap (λ x. x then z) (sym (comma_before_then due l (v then (c then e))) ∙ ap (comma_before due) (ap (λ x. l then x) (sym (then_assoc v c e)) ∙ sym (then_assoc l (v then c) e))))

member_parts : (l k p v c f : Out) → ((l then (k then p)) then (v then c)) then f ≡ (l then k) then ((p then (v then c)) then f)
member_parts l k p v c f =
    ap (λ x. x then f) (ap (λ x. x then (v then c)) (sym (then_assoc l k p)) ∙ then_assoc (l then k) p (v then c))
    ∙ then_assoc (l then k) (p then (v then c)) f

-- a member with the key k and the colon p
member_moves : (due : Bool) (l k p v c f z : Out) → (comma_before due l then (k then p)) then (v then ((c then f) then z)) ≡ comma_before due ((l then k) then ((p then (v then c)) then f)) then z
member_moves due l k p v c f z =
    ap (λ x. x then (v then ((c then f) then z))) (sym (comma_before_then due l (k then p)))
    ∙ (element_moves due (l then (k then p)) v c f z
    ∙ ap (λ x. comma_before due x then z) (member_parts l k p v c f))

-- ---- each part

pub one_more : (b : Brackets) (o : List Brackets) → length (b ∷ o) ≡ length o + 1
one_more b o = omega arith

pub value_completes : (limit : ℕ) (comma : Bool) (o : List Brackets) (t : Written) (rest : Out) → Completes limit false true o rest → Completes limit true comma o (out limit t (length o) then rest)
value_completes limit comma o t rest h = (t, rest, refl, h)

pub line_completes : (limit : ℕ) (due comma : Bool) (o : List Brackets) (rest : Out) → Completes limit true comma (brackets.Square ∷ o) rest
    → Completes limit false due (brackets.Square ∷ o) (comma_before due (piece (line (length o + 1))) then rest)
line_completes limit due comma o rest (t, after, is, (ts, left, tail, h)) =
    let l = piece (line (length o + 1)) in
    let v = out limit t (length o + 1) in
    let more = is ∙ (ap (λ n. out limit t n then after) (one_more brackets.Square o) ∙ ap (λ x. v then x) tail) in
    (element t ts, left, ap (λ x. comma_before due l then x) more ∙ element_moves due l v (piece (comma_sign ∷ [])) (elements_out limit ts (length o) true) left, h)

pub key_completes : (limit : ℕ) (due comma : Bool) (o : List Brackets) (k : WrittenKey) (rest : Out) → Completes limit true comma (brackets.Curly ∷ o) rest
    → Completes limit false due (brackets.Curly ∷ o) ((comma_before due (piece (line (length o + 1))) then (key_out k then piece (colon_sign ∷ space ∷ []))) then rest)
key_completes limit due comma o k rest (t, after, is, (fs, left, tail, h)) =
    let l = piece (line (length o + 1)) in
    let p = piece (colon_sign ∷ space ∷ []) in
    let v = out limit t (length o + 1) in
    let more = is ∙ (ap (λ n. out limit t n then after) (one_more brackets.Curly o) ∙ ap (λ x. v then x) tail) in
    (field k t fs, left, ap (λ x. (comma_before due l then (key_out k then p)) then x) more ∙ member_moves due l (key_out k) p v (piece (comma_sign ∷ [])) (fields_out limit fs (length o) true) left, h)

pub opening_completes : (limit : ℕ) (comma : Bool) (b : Brackets) (o : List Brackets) (rest : Out) → Completes limit false false (b ∷ o) rest
    → Completes limit true comma o (opened_by limit (length o) (opening (bracket_of b)) then rest)
opening_completes limit comma brackets.Square o rest (ts, after, is, h) =
    let first = opened_by limit (length o) (opening (bracket_of brackets.Square)) in
    (array ts, after, ap (λ x. first then x) is ∙ sym (then_assoc first (elements_out limit ts (length o) false) after), h)
opening_completes limit comma brackets.Curly o rest (fs, after, is, h) =
    let first = opened_by limit (length o) (opening (bracket_of brackets.Curly)) in
    (object fs, after, ap (λ x. first then x) is ∙ sym (then_assoc first (fields_out limit fs (length o) false) after), h)

pub closing_completes : (limit : ℕ) (due : Bool) (b : Brackets) (o : List Brackets) (rest : Out) → Completes limit false true o rest
    → Completes limit false due (b ∷ o) (closed_after due (length o) (closing (bracket_of b)) then rest)
closing_completes limit due brackets.Square o rest h = (no_element, rest, refl, h)
closing_completes limit due brackets.Curly o rest h = (no_field, rest, refl, h)
