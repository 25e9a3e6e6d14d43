-- Steps over two texts, one after another.
use Rattle.std.proofs.Common.{◌≡◌, ◌≤◌, ◌<◌, ◌==◌, ℕ, Bool, false, nat_eq, List, [], ◌∷◌, length, refl, sym, ap, subst, arith}
use Rattle.std.specs.Prelude.{Some, None, slice_get, IsTrue}
use Rattle.json5_grammar.specs.Language.Characters.{carriage_return, line_feed, star_sign, slash_sign, backslash, NotBegun}
use Rattle.json5_tokens.specs.Cursor.{Cursor}
use Rattle.json5_lexemes.specs.SameLexemes.{Same, Within, is_separator, is_word_part, is_line_part}
use Rattle.json5_lexemes.specs.SameLexemes as same
use Rattle.json5_lexemes.specs.SameSteps.{Takes, PassesWithin, IsFollowed, Compares, EndsBlock}

pub none_next : (x : List ℕ) → slice_get x 0 ≡ None → x ≡ []
none_next [] e = refl
none_next (c ∷ x) e = absurd (cc)

pub shorter_by : (c : ℕ) (old new : Cursor) → Takes c old new → length new.unread < length old.unread
shorter_by c old new e = let k : length old.unread ≡ length (c ∷ new.unread) = ap length e in omega (arith, k)

-- what was taken in both texts is put back
pub untaken : {move : Bool} (w : Within) (c : ℕ) (left right after after_right : Cursor) → Takes c left after × Takes c right after_right → Same move w (c ∷ after.unread) (c ∷ after_right.unread) → Same move w left.unread right.unread
untaken {move = move} w c left right after after_right (e, f) s = subst (λ z. Same move w z right.unread) (sym e) (subst (λ z. Same move w (c ∷ after.unread) z) (sym f) s)

-- one more character is passed over in one text
pub passed_more : (w : Within) (c : ℕ) (old mid new : Cursor) → PassesWithin w old mid → Takes c mid new
    → ((move : Bool) (x y : List ℕ) → Same move w x y → Same move w (c ∷ x) y) → ((move : Bool) (x y : List ℕ) → Same move w x y → Same move w x (c ∷ y)) → PassesWithin w old new
passed_more w c old mid new p e l r =
    let k = shorter_by c mid new e in
    record {
      left = λ m y s. p.left m y (subst (λ z. Same m w z y) (sym e) (l m new.unread y s));
      right = λ m x s. p.right m x (subst (λ z. Same m w x z) (sym e) (r m x new.unread s));
      shorter = omega (arith, p.shorter, k);
    }

-- a step within w
pub followed : (w v u : Within) (left right mid mid_right after after_right : Cursor) → IsFollowed w left right v mid mid_right
    → ((move : Bool) → Same move u after.unread after_right.unread → Same move v mid.unread mid_right.unread) → length after.unread ≤ length mid.unread → IsFollowed w left right u after after_right
followed w v u left right mid mid_right after after_right f s k = record { same = λ m h. f.same m (s m h); shorter = omega (arith, f.shorter, k) }

-- the last step of a lexeme
pub compared : (w v : Within) (left right mid mid_right after after_right : Cursor) (result : Bool) → IsFollowed w left right v mid mid_right
    → (IsTrue result → (move : Bool) → Same move Within.between after.unread after_right.unread → Same move v mid.unread mid_right.unread) → length after.unread ≤ length mid.unread → Compares w left right after after_right result
compared w v left right mid mid_right after after_right result f s k = record { same = λ t m h. f.same m (s t m h); shorter = omega (arith, f.shorter, k) }

-- ---- single steps

pub star_then : (c next : ℕ) (rest : List ℕ) → c ≡ star_sign → slice_get rest 0 ≡ Some next → EndsBlock c rest (nat_eq next 47)
star_then c next [] is e = absurd (cc)
star_then c next (d ∷ r) is e = record { ends = λ h. is; goes_on = λ h m x y k s. goes h m x y k s; in_line = λ h m x y k n s. goes_in_line h m x y k s }
  where
    next_is : d ≡ next
    next_is = cc

    not_slash : nat_eq next 47 ≡ false → (x : List ℕ) → x ≡ d ∷ r → NotBegun (λ z. z == slash_sign) x
    not_slash h x k = subst (NotBegun (λ z. z == slash_sign)) (sym k) (subst (λ z. (z == slash_sign) ≡ false) (sym next_is) h)

    goes : nat_eq next 47 ≡ false → (m : Bool) (x y : List ℕ) → x ≡ d ∷ r → Same m Within.block x y → Same m Within.block (c ∷ x) (c ∷ y)
    goes h m x y k s = subst (λ z. Same m Within.block (z ∷ x) (z ∷ y)) (sym is) (same.star (not_slash h x k) s)

    goes_in_line : nat_eq next 47 ≡ false → (m : Bool) (x y : List ℕ) → x ≡ d ∷ r → Same m Within.stars x y → Same m Within.stars (c ∷ x) (c ∷ y)
    goes_in_line h m x y k s = subst (λ z. Same m Within.stars (z ∷ x) (z ∷ y)) (sym is) (same.star_within (not_slash h x k) s)

pub escaped : {move : Bool} (q c next : ℕ) (left right after after_right : Cursor) → c ≡ backslash → Takes next left after × Takes next right after_right
    → Same move (Within.string q) after.unread after_right.unread → Same move (Within.string q) (c ∷ left.unread) (c ∷ right.unread)
escaped {move = move} q c next left right after after_right is (e, f) s =
    subst (λ d. Same move (Within.string q) (d ∷ left.unread) (d ∷ right.unread)) (sym is)
    (subst (λ z. Same move (Within.string q) (backslash ∷ z) (backslash ∷ right.unread)) (sym e)
    (subst (λ z. Same move (Within.string q) (backslash ∷ next ∷ after.unread) (backslash ∷ z)) (sym f) (same.escape s)))

-- the end of a block comment
pub block_ended : {move : Bool} (w : Within) (c : ℕ) (left right mid mid_right after after_right : Cursor) → c ≡ star_sign → Takes c left mid × Takes c right mid_right → Takes slash_sign mid after × Takes slash_sign mid_right after_right
    → Same move w (star_sign ∷ slash_sign ∷ after.unread) (star_sign ∷ slash_sign ∷ after_right.unread) → Same move w left.unread right.unread
block_ended {move = move} w c left right mid mid_right after after_right is t (e, f) s =
    untaken w c left right mid mid_right t
    (subst (λ d. Same move w (d ∷ mid.unread) (d ∷ mid_right.unread)) (sym is)
    (subst (λ z. Same move w (star_sign ∷ z) (star_sign ∷ mid_right.unread)) (sym e)
    (subst (λ z. Same move w (star_sign ∷ slash_sign ∷ after.unread) (star_sign ∷ z)) (sym f) s)))

-- the first character is this one
pub as_first : {move : Bool} (w : Within) (c d : ℕ) (x y : List ℕ) → c ≡ d → Same move w (d ∷ x) (d ∷ y) → Same move w (c ∷ x) (c ∷ y)
as_first {move = move} w c d x y is s = subst (λ z. Same move w (z ∷ x) (z ∷ y)) (sym is) s

-- the LF after a CR
pub lf_after : {move : Bool} (c : ℕ) (x y : List ℕ) → c ≡ carriage_return → slice_get x 0 ≡ Some line_feed → Same move Within.stars x y → Same move Within.stars (c ∷ x) (c ∷ y)
lf_after c [] y is e s = absurd (cc)
lf_after {move = move} c (d ∷ x) y is e s =
    let lf : d ≡ line_feed = cc in
    subst (λ z. Same move Within.stars (z ∷ d ∷ x) (z ∷ y)) (sym is)
    (subst (λ z. Same move Within.stars (carriage_return ∷ z ∷ x) (carriage_return ∷ y)) (sym lf) (same.stars_crlf (subst (λ z. Same move Within.stars (z ∷ x) y) lf s)))
