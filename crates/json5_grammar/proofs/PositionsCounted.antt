-- Counting character by character gives the position after all of them.
use Rattle.std.proofs.Common.{◌≡◌, ◌≤◌, ℕ, suc, ◌+◌, Bool, true, false, if◌then◌else◌, ◌||◌, ◌&&◌, List, [], ◌∷◌, length, refl, ap, ◌∙◌, arith}
use Rattle.std.specs.Prelude.{◌==◌, not}
use Rattle.std.specs.List.{list_any}
use Rattle.std.proofs.lemmas.Bool.Decides.{nat_tests}
use Rattle.json5_grammar.specs.Language.Characters.{is_terminator}
use Rattle.json5_grammar.specs.Faults.Positions.{begins_line_feed, line_of, column_of, position_after}
use Rattle.json5_grammar.specs.Model.PositionSteps.{position_step, position_from}
use Rattle.json5_grammar.specs.declared.position.Position.{Position}

-- ---- what one character does; a: an LF after a CR, t: a terminator, r: a CR, f: an LF follows

feed_ends : (b : Bool) (c : ℕ) → (b && (c == 10)) ≡ true → is_terminator c ≡ true
feed_ends b c h = grind (arith, nat_tests)

feed_is_no_return : (b : Bool) (c : ℕ) → (b && (c == 10)) ≡ true → (c == 13) ≡ false
feed_is_no_return b c h = grind (arith, nat_tests)

return_ends : (c : ℕ) → (c == 13) ≡ true → is_terminator c ≡ true
return_ends c h = grind (arith, nat_tests)

line_stepped : (a t : Bool) (p : Position) → (if a then p else if t then record { line = suc p.line; column = 0 } else record { line = p.line; column = suc p.column }).line ≡ (if a then p.line else if t then suc p.line else p.line)
line_stepped true t p = refl
line_stepped false true p = refl
line_stepped false false p = refl

column_stepped : (a t : Bool) (p : Position) → (if a then p else if t then record { line = suc p.line; column = 0 } else record { line = p.line; column = suc p.column }).column ≡ (if a then p.column else if t then 0 else suc p.column)
column_stepped true t p = refl
column_stepped false true p = refl
column_stepped false false p = refl

step_lines : (a t r f : Bool) (l q p n : ℕ) → (a ≡ true → t ≡ true) → (a ≡ true → r ≡ false) → (r ≡ true → t ≡ true) → q ≡ (if a then p else if t then suc p else p) → l + (if r && f then 1 else 0) ≡ q + n
    → l + (if a then 1 else 0) ≡ p + ((if t && not (r && f) then 1 else 0) + n)
step_lines true false r f l q p n x y z h e = let w = x refl in absurd (cc)
step_lines true true true f l q p n x y z h e = let w = y refl in absurd (cc)
step_lines true true false f l q p n x y z h e = omega arith
step_lines false false true f l q p n x y z h e = let w = z refl in absurd (cc)
step_lines false false false f l q p n x y z h e = omega arith
step_lines false true true true l q p n x y z h e = omega arith
step_lines false true true false l q p n x y z h e = omega arith
step_lines false true false f l q p n x y z h e = omega arith

step_columns : (a t g : Bool) (x q p k l : ℕ) → (a ≡ true → t ≡ true) → (a ≡ true → p ≡ 0) → q ≡ (if a then p else if t then 0 else suc p) → (g ≡ false → k ≡ l) → x ≡ (if g then k else q + l)
    → x ≡ (if t || g then (if t || g then k else suc l) else p + suc l)
step_columns true false g x q p k l u v h w e = let z = u refl in absurd (cc)
step_columns true true true x q p k l u v h w e = e
step_columns true true false x q p k l u v h w e = let z = v refl in let y = w refl in omega arith
step_columns false true true x q p k l u v h w e = e
step_columns false true false x q p k l u v h w e = let y = w refl in omega arith
step_columns false false true x q p k l u v h w e = e
step_columns false false false x q p k l u v h w e = omega arith

-- ---- the whole text

line_counted : (s : List ℕ) (p : Position) (b : Bool) → (position_from p b s).line + (if b && begins_line_feed s then 1 else 0) ≡ p.line + line_of s
line_counted [] p true = refl
line_counted [] p false = refl
line_counted (c ∷ s) p b =
    step_lines (b && (c == 10)) (is_terminator c) (c == 13) (begins_line_feed s) _ _ p.line (line_of s) (feed_ends b c) (feed_is_no_return b c) (return_ends c)
    (line_stepped (b && (c == 10)) (is_terminator c) p) (line_counted s (position_step p b c) (c == 13))

plain_column : (s : List ℕ) → list_any is_terminator s ≡ false → column_of s ≡ length s
plain_column [] h = refl
plain_column (c ∷ s) h = rw h refl

after_return : (b t : Bool) (c : ℕ) (p : Position) → t ≡ true → (b && (c == 10)) ≡ false → (if b && (c == 10) then p else if t then record { line = suc p.line; column = 0 } else record { line = p.line; column = suc p.column }).column ≡ 0
after_return b t c p h k = rw (k, h) refl

column_counted : (s : List ℕ) (p : Position) (b : Bool) → (b ≡ true → p.column ≡ 0) → (position_from p b s).column ≡ (if list_any is_terminator s then column_of s else p.column + length s)
column_counted [] p b h = omega arith
column_counted (c ∷ s) p b h =
    step_columns (b && (c == 10)) (is_terminator c) (list_any is_terminator s) _ _ p.column (column_of s) (length s) (feed_ends b c) (λ k. h (grind (arith, nat_tests)))
    (column_stepped (b && (c == 10)) (is_terminator c) p) (plain_column s)
    (column_counted s (position_step p b c) (c == 13) (λ k. after_return b (is_terminator c) c p (return_ends c k) (grind (arith, nat_tests))))

same_position : (p : Position) (l k : ℕ) → p.line ≡ l → p.column ≡ k → p ≡ record { line = l; column = k }
same_position p l k h j = ap (λ x. record { line = x; column = p.column }) h ∙ ap (λ y. record { line = l; column = y }) j

whole_column : (g : Bool) (k l : ℕ) → (g ≡ false → k ≡ l) → (if g then k else 0 + l) ≡ k
whole_column true k l h = refl
whole_column false k l h = let e = h refl in omega arith

pub counted : (s : List ℕ) → position_from (record { line = 0; column = 0 }) false s ≡ position_after s
counted s =
    same_position (position_from (record { line = 0; column = 0 }) false s) (line_of s) (column_of s)
    (omega (arith, line_counted s (record { line = 0; column = 0 }) false))
    (column_counted s (record { line = 0; column = 0 }) false (λ k. refl) ∙ whole_column (list_any is_terminator s) (column_of s) (length s) (plain_column s))

-- ---- no number passes the text's length

pub step_bounded : (p : Position) (b : Bool) (c : ℕ) → (position_step p b c).line + (position_step p b c).column ≤ suc (p.line + p.column)
step_bounded p b c = both (b && (c == 10)) (is_terminator c)
  where
    both : (a t : Bool) → (if a then p else if t then record { line = suc p.line; column = 0 } else record { line = p.line; column = suc p.column }).line + (if a then p else if t then record { line = suc p.line; column = 0 } else record { line = p.line; column = suc p.column }).column ≤ suc (p.line + p.column)
    both true t = omega arith
    both false true = omega arith
    both false false = omega arith
