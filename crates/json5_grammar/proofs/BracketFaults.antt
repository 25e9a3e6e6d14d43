-- What reading refuses within a bracket is a fault of the table, provided that what it refuses in nested values is one.
use Rattle.std.proofs.Common.{◌≡◌, ℕ, zero, suc, ◌+◌, ◌<◌, ◌≤◌, Bool, true, false, cond, List, [], ◌∷◌, ◌++◌, length, refl, ap, arith, length-append, subst, Some}
use Rattle.std.specs.Prelude.{◌==◌}
use Rattle.std.proofs.lemmas.Bool.{not-false, or_from}
use Rattle.json5_grammar.specs.Language.Characters.{NotBegun}
use Rattle.json5_grammar.specs.Faults.Codes.{EofParsingArray, EofParsingObject, ExpectedColon, ExpectedComma}
use Rattle.json5_grammar.specs.Language.Blanks.{Solid, is_solid}
use Rattle.json5_grammar.specs.Language.Trees.{Tree, Trees, Members, no_more, more, no_member, member}
use Rattle.json5_grammar.specs.Faults.Fronts.{BracketKind, of_array, of_object, closing, Bracket, Expects, takes_value, member_of, value, element, key, colon, comma}
use Rattle.json5_grammar.specs.Faults.{is_allowed_close, no_comma, comma_missing, key_missing, no_colon, colon_missing}
use Rattle.json5_grammar.specs.Model.Reading.{here, Read, got, bad, and_then}
use Rattle.json5_grammar.specs.Model.ReadBlanks.{skip, between}
use Rattle.json5_grammar.specs.Model.ReadTexts as texts
use Rattle.json5_grammar.specs.Model.ReadValues.{read_elements, read_members, after_element, close_or, element_at, after_member, colon_at, value_after, member_at, key_or, read}
use Rattle.json5_grammar.proofs.CommonLemmas.{by_test, eq_from, neq_from}
use Rattle.json5_grammar.proofs.ValueTurns.{gap_no_longer}
use Rattle.json5_grammar.proofs.ValuesSound.{IsGap, IsValue, IsKeyAt, IsValueAfter, gap_found, key_found, read_found, value_found, before_rest}
use Rattle.json5_grammar.proofs.FrontsAt.{At, at_gap, at_value, at_comma, at_key, at_colon, at_key_value}
use Rattle.json5_grammar.proofs.TokenFaults.{Scope, Judged, judged_then, judged_last, one_char, the_end, gap_judged, key_judged}

-- what is left of a text is no longer than it
rest_no_longer : (y w r : List ℕ) → y ≡ w ++ r → length r ≤ length y
rest_no_longer y w r e = omega (arith, ap length e, length-append w r)

-- a text that begins with neither a blank nor a slash
pub solid_char : (c : ℕ) (r : List ℕ) → Solid (c ∷ r) → is_solid c ≡ true
solid_char c r solid = not-false (is_solid c) solid

-- where a value alone is expected no closing bracket is allowed
pub no_close : (z : List ℕ) → NotBegun (is_allowed_close value) z
no_close [] = tt
no_close (c ∷ z) = refl

-- y begins with neither a blank nor a comment, nor with a closing bracket that is allowed here
abbrev pub BeginsValue : Expects → List ℕ → Type 0
BeginsValue a y = (takes_value a ≡ true) × Solid y × NotBegun (is_allowed_close a) y

module _ (s : Scope) where
  open s use {before_end, limit, text as x}

  -- what refuses a value nested no deeper than the number is a fault
  abbrev pub ReadsJudged : ℕ → Type 0
  ReadsJudged d = (o : List Bracket) (a : Expects) (y : List ℕ) → At limit x y o a → length o + d ≡ limit → BeginsValue a y
      → Judged s o (read d y)

  -- ---- members and pairs

  module _ (d : ℕ) (o : List Bracket) (g : List ℕ) (val_judged : ReadsJudged d) (room : suc (length o) + d ≡ limit) where
    -- the open brackets within this one
    abbrev within : BracketKind → List Bracket
    within k = record { kind = k; before = g } ∷ o

    -- f is judged on each rest that is shorter than y, where an element or a pair may begin
    abbrev Later : {A : Type 0} → BracketKind → (List ℕ → Read A) → List ℕ → Type 0
    Later k f y = (z : List ℕ) → length z < length y → At limit x z (within k) (member_of k) → Judged s (within k) (f z)

    -- at a comma: what follows it is judged later
    comma_later : {A : Type 0} (k : BracketKind) (f : List ℕ → Read A) (c : ℕ) (r : List ℕ) → Later k f (c ∷ r) → (c == 44) ≡ true
        → At limit x (c ∷ r) (within k) comma → Judged s (within k) (f r)
    comma_later k f c r j i h = j r (omega arith) (at_comma limit x r (subst (λ z. At limit x (z ∷ r) (within k) comma) (eq_from c 44 i) h))

    -- at a character after an element or a pair
    sign_judged : {A : Type 0} (k : BracketKind) (nothing : A) (f : List ℕ → Read A) (c : ℕ) (r : List ℕ) → Later k f (c ∷ r) → is_solid c ≡ true
        → At limit x (c ∷ r) (within k) comma
        → Judged s (within k) (cond (c == 44) (f r) (cond (c == closing k) (got nothing r) (bad (Some ExpectedComma) (here (c ∷ r)))))
    sign_judged k nothing f c r j solid h =
        by_test (Judged s (within k)) (c == 44) _ _ (λ i. comma_later k f c r j i h)
        (λ i. by_test (Judged s (within k)) (c == closing k) (got nothing r) (bad (Some ExpectedComma) (here (c ∷ r))) (λ m. tt)
        (λ m. one_char s ExpectedComma c r h (before_end comma (λ e. cc)) (no_comma k refl solid (or_from (c == 44) (c == closing k) i m))))

    -- after an element, in front of a comma or the closing bracket
    comma_judged : (f : List ℕ → Read Trees) (y : List ℕ) → Later of_array f y → Solid y → At limit x y (within of_array) comma
        → Judged s (within of_array) (after_element f y)
    comma_judged f [] j solid h = the_end s EofParsingArray h (before_end comma (λ e. cc)) (comma_missing of_array refl)
    comma_judged f (c ∷ r) j solid h = sign_judged of_array no_more f c r j (solid_char c r solid) h

    -- an element and what follows it
    member_judged : (f : List ℕ → Read Trees) (y : List ℕ) → Later of_array f y → BeginsValue element y → At limit x y (within of_array) element
        → Judged s (within of_array) (element_at (read d) f y)
    member_judged f y j b h =
        judged_then s (IsValue d y) y (within of_array) (read d y) _ (read_found d y) (val_judged (within of_array) element y h room b)
        (λ t r v. let after_it = at_value limit x d y r t h refl room v in
        judged_then s (IsGap r) r (within of_array) (skip between r) _ (gap_found r) (gap_judged s r after_it (before_end comma (λ e. cc)))
        (λ u z q. judged_last s (within of_array) (after_element f z) (λ ts. more t ts)
        (comma_judged f z
        (λ w l i. j w (omega (arith, l, rest_no_longer y v.0 r v.1, gap_no_longer r z u q)) i)
        q.3 (at_gap limit x r z u after_it q))))

    -- an element, or the closing bracket
    close_judged : (f : List ℕ → Read Trees) (y : List ℕ) → Later of_array f y → Solid y → At limit x y (within of_array) element
        → Judged s (within of_array) (close_or (element_at (read d) f y) y)
    close_judged f [] j solid h = member_judged f [] j (refl, solid, tt) h
    close_judged f (c ∷ r) j solid h =
        by_test (Judged s (within of_array)) (c == 93) (got no_more r) _
        (λ i. tt)
        (λ i. member_judged f (c ∷ r) j (refl, solid, i) h)

    -- the elements of an array, up to its closing bracket
    pub items_judged : (n : ℕ) (y : List ℕ) → length y < n → At limit x y (within of_array) element → Judged s (within of_array) (read_elements (read d) n y)
    unfolding read_elements
    items_judged zero y l h = absurd (omega arith)
    items_judged (suc n) y l h =
        judged_then s (IsGap y) y (within of_array) (skip between y) _ (gap_found y) (gap_judged s y h (before_end element (λ e. cc)))
        (λ u z q. close_judged (read_elements (read d) n) z
        (λ w m i. items_judged n w (omega (arith, l, m, gap_no_longer y z u q)) i)
        q.3 (at_gap limit x y z u h q))

    -- after a pair, in front of a comma or the closing brace
    comma_or_brace : (f : List ℕ → Read Members) (y : List ℕ) → Later of_object f y → Solid y → At limit x y (within of_object) comma
        → Judged s (within of_object) (after_member f y)
    comma_or_brace f [] j solid h = the_end s EofParsingObject h (before_end comma (λ e. cc)) (comma_missing of_object refl)
    comma_or_brace f (c ∷ r) j solid h = sign_judged of_object no_member f c r j (solid_char c r solid) h

    -- the value after a colon
    after_colon : (r : List ℕ) → At limit x r (within of_object) value → Judged s (within of_object) (and_then (skip between r) (λ w q. read d q))
    after_colon r i =
        judged_then s (IsGap r) r (within of_object) (skip between r) _ (gap_found r) (gap_judged s r i (before_end value (λ e. cc)))
        (λ u z q. val_judged (within of_object) value z (at_gap limit x r z u i q) room (refl, q.3, no_close z))

    -- a colon and a value
    colon_judged : (y : List ℕ) → Solid y → At limit x y (within of_object) colon
        → Judged s (within of_object) (and_then (colon_at y) (λ v z. and_then (skip between z) (λ w q. read d q)))
    colon_judged [] solid h = the_end s EofParsingObject h (before_end colon (λ e. cc)) colon_missing
    colon_judged (c ∷ r) solid h = split (c == 58) refl
      where
        split : (b : Bool) → (c == 58) ≡ b
            → Judged s (within of_object) (and_then (colon_at (c ∷ r)) (λ v z. and_then (skip between z) (λ w q. read d q)))
        split true i = rw i (after_colon r (at_colon limit x r (subst (λ z. At limit x (z ∷ r) (within of_object) colon) (eq_from c 58 i) h)))
        split false i = rw i (one_char s ExpectedColon c r h (before_end colon (λ e. cc)) (no_colon (solid_char c r solid) (neq_from c 58 i)))

    -- blanks, a colon, blanks and a value
    value_judged : (y : List ℕ) → At limit x y (within of_object) colon → Judged s (within of_object) (value_after (read d) y)
    value_judged y h =
        judged_then s (IsGap y) y (within of_object) (skip between y) _ (gap_found y) (gap_judged s y h (before_end colon (λ e. cc)))
        (λ u z q. colon_judged z q.3 (at_gap limit x y z u h q))

    -- what follows a pair of this key and value
    after_value_judged : (f : List ℕ → Read Members) (a : List ℕ × Bool) (t : Tree) (r : List ℕ) → Later of_object f r
        → At limit x r (within of_object) comma
        → Judged s (within of_object) (and_then (skip between r) (λ u z. and_then (after_member f z) (λ ps q. got (member a.0 a.1 t ps) q)))
    after_value_judged f a t r j h =
        judged_then s (IsGap r) r (within of_object) (skip between r) _ (gap_found r) (gap_judged s r h (before_end comma (λ e. cc)))
        (λ u z q. judged_last s (within of_object) (after_member f z) (λ ps. member a.0 a.1 t ps)
        (comma_or_brace f z (λ w l i. j w (omega (arith, l, gap_no_longer r z u q)) i) q.3 (at_gap limit x r z u h q)))

    -- a pair and what follows it
    pair_judged : (f : List ℕ → Read Members) (c : ℕ) (r : List ℕ) → Later of_object f (c ∷ r) → is_solid c ≡ true → (c == 125) ≡ false
        → At limit x (c ∷ r) (within of_object) key → Judged s (within of_object) (member_at (read d) f (c ∷ r))
    pair_judged f c r j solid n h =
        judged_then s (IsKeyAt (c ∷ r)) (c ∷ r) (within of_object) (texts.key (c ∷ r)) _ (key_found c r) (key_judged s c r h solid n)
        (λ a y is. let after_key = at_key limit x (c ∷ r) y a h is in
        judged_then s (IsValueAfter d y) y (within of_object) (value_after (read d) y) _ (value_found d (read d) (read_found d) y)
        (value_judged y after_key)
        (λ t q v. let w = before_rest y q t v.0 in
        after_value_judged f a t q
        (λ z l i. j z (omega (arith, l, rest_no_longer (c ∷ r) is.0 y is.1, rest_no_longer y w.0 q w.1)) i)
        (at_key_value limit x d y q t after_key room v)))

    -- a pair, or the closing brace
    brace_judged : (f : List ℕ → Read Members) (y : List ℕ) → Later of_object f y → Solid y → At limit x y (within of_object) key
        → Judged s (within of_object) (key_or (member_at (read d) f y) y)
    brace_judged f [] j solid h = the_end s EofParsingObject h (before_end key (λ e. cc)) key_missing
    brace_judged f (c ∷ r) j solid h =
        by_test (Judged s (within of_object)) (c == 125) (got no_member r) _
        (λ i. tt)
        (λ i. pair_judged f c r j (solid_char c r solid) i h)

    -- the pairs of an object, up to its closing brace
    pub entries_judged : (n : ℕ) (y : List ℕ) → length y < n → At limit x y (within of_object) key
        → Judged s (within of_object) (read_members (read d) n y)
    unfolding read_members
    entries_judged zero y l h = absurd (omega arith)
    entries_judged (suc n) y l h =
        judged_then s (IsGap y) y (within of_object) (skip between y) _ (gap_found y) (gap_judged s y h (before_end key (λ e. cc)))
        (λ u z q. brace_judged (read_members (read d) n) z
        (λ w m i. entries_judged n w (omega (arith, l, m, gap_no_longer y z u q)) i)
        q.3 (at_gap limit x y z u h q))
