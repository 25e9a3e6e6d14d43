-- What is passed over is blank; if that fails, a comment is at fault. There is one way to pass, and one fault.
use Rattle.std.proofs.Common.{◌≡◌, ℕ, Bool, true, false, cond, ◌||◌, not, List, [], ◌∷◌, ◌++◌, refl, ap, sym, ◌∙◌, append_assoc, ◌≢◌, ◌⊎◌, inl, inr, subst, Option, Some, None}
use Rattle.std.specs.Prelude.{◌==◌}
use Rattle.std.proofs.lemmas.List.{append-nil}
use Rattle.json5_grammar.specs.Language.Characters.{is_terminator, is_blank, NotBegun, Each, no_char, char}
use Rattle.json5_grammar.specs.Faults.Codes.{ErrorCode, ExpectedComment, EofParsingComment, Shown, by_char, by_end, after_text}
use Rattle.json5_grammar.specs.Language.Blanks.{Inside, ends, star, other, Blanks, empty, blank, line, block, LastBlanks, open_line, Gap, at_end, is_solid, Solid}
use Rattle.json5_grammar.specs.Faults.Tokens.{CommentFault, no_comment, slash_ends, block_ends, BlankFault, in_comment}
use Rattle.json5_grammar.specs.Faults.Blames.{BlankBlame, HasGap, IsBlamed}
use Rattle.json5_grammar.specs.Model.Reading.{Place, here, inner, Read, got, bad, IsAt}
use Rattle.json5_grammar.specs.Model.ReadBlanks.{Mode, between, slash, skip}
use Rattle.json5_grammar.proofs.CommonLemmas.{by_test, eq_from, neq_from, not_eq, at_after}
use Rattle.json5_grammar.proofs.Refusals.{Refuses, one_refusal, not_both, refuses_after, one_answer}
use Rattle.json5_grammar.proofs.BlanksRead.{skip_slash, skip_blanks, skip_gap, skip_rest, solid_from, begins_solid}

-- ---- blanks after blanks

-- blanks after blanks are blanks
pub Blanks-append : {v w : List ℕ} → Blanks v → Blanks w → Blanks (v ++ w)
Blanks-append empty b = b
Blanks-append (blank h a) b = blank h (Blanks-append a b)
Blanks-append {w = w} (line {x = x} c {s = s} n h a) b = rw (append_assoc x (c ∷ s) w) (line c n h (Blanks-append a b))
Blanks-append {w = w} (block {x = x} {s = s} i a) b = rw (append_assoc x (42 ∷ 47 ∷ s) w) (block i (Blanks-append a b))

-- also where they are the last
pub LastBlanks-append : {v w : List ℕ} → Blanks v → LastBlanks w → LastBlanks (v ++ w)
LastBlanks-append a (LastBlanks.blanks b) = LastBlanks.blanks (Blanks-append a b)
LastBlanks-append {v = v} a (open_line {w = w} {x = x} b n) = subst LastBlanks (append_assoc v w (47 ∷ 47 ∷ x)) (open_line (Blanks-append a b) n)

-- also before a rest
pub Gap-append : {v w r : List ℕ} → Blanks v → Gap w r → Gap (v ++ w) r
Gap-append a (Gap.blanks b) = Gap.blanks (Blanks-append a b)
Gap-append a (at_end l) = at_end (LastBlanks-append a l)

-- ---- sound

-- x has a fault of blanks with this code at this position
pub record BlankBlamed (x : List ℕ) (code : Option ErrorCode) (p : Place) : Type 0 where
  pub place : Option (List ℕ)
  pub before : List ℕ
  pub part : List ℕ
  pub shown : Shown
  pub fault : BlankFault x code place before part shown
  pub is_at : IsAt x place p

abbrev pub BlanksSound : List ℕ → Read (Unit {0}) → Type 0
BlanksSound x (got u r) = (w : List ℕ) × (x ≡ w ++ r) × Gap w r × Solid r
BlanksSound x (bad code p) = BlankBlamed x code p

-- the same, the blanks before the fault apart
record CommentBlamed (x : List ℕ) (code : Option ErrorCode) (p : Place) : Type 0 where
  place : Option (List ℕ)
  part : List ℕ
  shown : Shown
  fault : CommentFault x code place part shown
  is_at : IsAt x place p

abbrev Skipped : List ℕ → Read (Unit {0}) → Type 0
Skipped x (got u r) = (w : List ℕ) × (x ≡ w ++ r) × Gap w r × Solid r
Skipped x (bad e p) = (w : List ℕ) × (q : List ℕ) × (x ≡ w ++ q) × Blanks w × CommentBlamed q e p

-- blanks in front
after_blanks : (v x : List ℕ) (res : Read (Unit {0})) → Blanks v → Skipped x res → Skipped (v ++ x) res
after_blanks v x (got u r) b (w, e, g, s) = (v ++ w, ap (λ z. v ++ z) e ∙ sym (append_assoc v w r), Gap-append b g, s)
after_blanks v x (bad c p) b (w, q, e, a, k) = (v ++ w, q, ap (λ z. v ++ z) e ∙ sym (append_assoc v w q), Blanks-append b a, k)

abbrev NoTerminator : List ℕ → Type 0
NoTerminator x = Each (λ d. not (is_terminator d)) x

abbrev LineIs : List ℕ → Read (Unit {0}) → Type 0
LineIs r res = ((x : List ℕ) × (c : ℕ) × (s : List ℕ) × (r ≡ x ++ c ∷ s) × NoTerminator x × (is_terminator c ≡ true) × Skipped s res) ⊎ (NoTerminator r × (res ≡ got tt []))

abbrev BlockIs : List ℕ → Read (Unit {0}) → Type 0
BlockIs r res = ((x : List ℕ) × (s : List ℕ) × (r ≡ x ++ 42 ∷ 47 ∷ s) × Inside x × Skipped s res) ⊎ (Inside r × (res ≡ bad (Some EofParsingComment) inner))

abbrev StarIs : List ℕ → Read (Unit {0}) → Type 0
StarIs r res = ((s : List ℕ) × (r ≡ 47 ∷ s) × Skipped s res) ⊎ (NotBegun (λ c. c == 47) r × BlockIs r res)

abbrev ByMode : Mode → List ℕ → Read (Unit {0}) → Type 0
ByMode between r res = Skipped r res
ByMode slash r res = Skipped (47 ∷ r) res
ByMode Mode.line r res = LineIs r res
ByMode Mode.block r res = BlockIs r res
ByMode Mode.star r res = StarIs r res

from_line : (r : List ℕ) (res : Read (Unit {0})) → LineIs r res → Skipped (47 ∷ 47 ∷ r) res
from_line r res (inl (x, c, s, e, n, h, k)) = rw (e, ← append_assoc (47 ∷ 47 ∷ x) (c ∷ []) s) (after_blanks (47 ∷ 47 ∷ x ++ c ∷ []) s res (line c n h empty) k)
from_line r res (inr (n, e)) = rw e (47 ∷ 47 ∷ r, sym (append-nil (47 ∷ 47 ∷ r)), at_end (open_line empty n), tt)

from_block : (r : List ℕ) (res : Read (Unit {0})) → BlockIs r res → Skipped (47 ∷ 42 ∷ r) res
from_block r res (inl (x, s, e, i, k)) = rw (e, ← append_assoc (47 ∷ 42 ∷ x) (42 ∷ 47 ∷ []) s) (after_blanks (47 ∷ 42 ∷ x ++ 42 ∷ 47 ∷ []) s res (block i empty) k)
from_block r res (inr (i, e)) = rw e ([], 47 ∷ 42 ∷ r, refl, empty, record { place = None; part = 47 ∷ 42 ∷ r; shown = by_end; fault = block_ends i; is_at = tt })

from_star : (r : List ℕ) (res : Read (Unit {0})) → StarIs r res → BlockIs (42 ∷ r) res
from_star r res (inl (s, e, k)) = inl ([], s, ap (λ z. 42 ∷ z) e, ends, k)
from_star r res (inr (h, inl (x, s, e, i, k))) = inl (42 ∷ x, s, ap (λ z. 42 ∷ z) e, star (head_of x (42 ∷ 47 ∷ s) (subst (NotBegun (λ c. c == 47)) e h)) i, k)
  where
    head_of : (x y : List ℕ) → NotBegun (λ c. c == 47) (x ++ y) → NotBegun (λ c. c == 47) x
    head_of [] y h = tt
    head_of (c ∷ x) y h = h
from_star r res (inr (h, inr (i, e))) = inr (star h i, e)

line_more : (c : ℕ) (r : List ℕ) (res : Read (Unit {0})) → is_terminator c ≡ false → LineIs r res → LineIs (c ∷ r) res
line_more c r res h (inl (x, d, s, e, n, k, f)) = inl (c ∷ x, d, s, ap (λ z. c ∷ z) e, char (ap not h) n, k, f)
line_more c r res h (inr (n, e)) = inr (char (ap not h) n, e)

block_more : (c : ℕ) (r : List ℕ) (res : Read (Unit {0})) → c ≢ 42 → BlockIs r res → BlockIs (c ∷ r) res
block_more c r res h (inl (x, s, e, i, k)) = inl (c ∷ x, s, ap (λ z. c ∷ z) e, other h i, k)
block_more c r res h (inr (i, e)) = inr (other h i, e)

by_mode : (m : Mode) (x : List ℕ) → ByMode m x (skip m x)
unfolding skip
by_mode between [] = ([], refl, Gap.blanks empty, tt)
by_mode between (c ∷ r) =
    by_test (Skipped (c ∷ r)) (is_blank c) _ _
    (λ h. after_blanks (c ∷ []) r (skip between r) (blank h empty) (by_mode between r))
    (λ h. by_test (Skipped (c ∷ r)) (c == 47) (skip slash r) (got tt (c ∷ r))
    (λ k. subst (λ z. Skipped (z ∷ r) (skip slash r)) (sym (eq_from c 47 k)) (by_mode slash r))
    (λ k. ([], refl, Gap.blanks empty, begins_solid c r (solid_from c h k))))
by_mode slash [] = ([], 47 ∷ [], refl, empty, record { place = None; part = 47 ∷ []; shown = by_end; fault = slash_ends; is_at = tt })
by_mode slash (c ∷ r) =
    by_test (Skipped (47 ∷ c ∷ r)) (c == 47) _ _
    (λ h. subst (λ z. Skipped (47 ∷ z ∷ r) (skip Mode.line r)) (sym (eq_from c 47 h)) (from_line r (skip Mode.line r) (by_mode Mode.line r)))
    (λ h. by_test (Skipped (47 ∷ c ∷ r)) (c == 42) (skip Mode.block r) (bad (Some ExpectedComment) (here (c ∷ r)))
    (λ k. subst (λ z. Skipped (47 ∷ z ∷ r) (skip Mode.block r)) (sym (eq_from c 42 k)) (from_block r (skip Mode.block r) (by_mode Mode.block r)))
    (λ k. ([], 47 ∷ c ∷ r, refl, empty, record { place = Some (47 ∷ []); part = 47 ∷ c ∷ []; shown = by_char; fault = no_comment c r (rw (h, k)); is_at = refl })))
by_mode Mode.line [] = inr (no_char, refl)
by_mode Mode.line (c ∷ r) =
    by_test (LineIs (c ∷ r)) (is_terminator c) (skip between r) (skip Mode.line r)
    (λ h. inl ([], c, r, refl, no_char, h, by_mode between r))
    (λ h. line_more c r (skip Mode.line r) h (by_mode Mode.line r))
by_mode Mode.block [] = inr (ends, refl)
by_mode Mode.block (c ∷ r) =
    by_test (BlockIs (c ∷ r)) (c == 42) (skip Mode.star r) (skip Mode.block r)
    (λ h. subst (λ z. BlockIs (z ∷ r) (skip Mode.star r)) (sym (eq_from c 42 h)) (from_star r (skip Mode.star r) (by_mode Mode.star r)))
    (λ h. block_more c r (skip Mode.block r) (neq_from c 42 h) (by_mode Mode.block r))
by_mode Mode.star [] = inr (tt, inr (ends, refl))
by_mode Mode.star (c ∷ r) =
    by_test (StarIs (c ∷ r)) (c == 47) _ _
    (λ h. inl (r, ap (λ z. z ∷ r) (eq_from c 47 h), by_mode between r))
    (λ h. by_test (StarIs (c ∷ r)) (c == 42) (skip Mode.star r) (skip Mode.block r)
    (λ k. inr (h, subst (λ z. BlockIs (z ∷ r) (skip Mode.star r)) (sym (eq_from c 42 k)) (from_star r (skip Mode.star r) (by_mode Mode.star r))))
    (λ k. inr (h, block_more c r (skip Mode.block r) (neq_from c 42 k) (by_mode Mode.block r))))

blamed : {x : List ℕ} {code : Option ErrorCode} {p : Place} (w : List ℕ) → Blanks w → CommentBlamed x code p → BlankBlamed (w ++ x) code p
blamed {x = x} {p = p} w b k = record { place = after_text w k.place; before = w; part = k.part; shown = k.shown; fault = in_comment b k.fault; is_at = at_after w x k.place p k.is_at }

from_skipped : (x : List ℕ) (res : Read (Unit {0})) → Skipped x res → BlanksSound x res
from_skipped x (got u r) h = h
from_skipped x (bad code p) (w, q, e, b, k) = subst (λ z. BlankBlamed z code p) (sym e) (blamed w b k)

-- what is passed over is a gap before a solid rest, and a refusal is a fault
pub skip_sound : (x : List ℕ) → BlanksSound x (skip between x)
skip_sound x = from_skipped x (skip between x) (by_mode between x)

-- ---- refused

mutual
  unfolding skip

  block_open : {x : List ℕ} → Inside x → skip Mode.block x ≡ bad (Some EofParsingComment) inner
  block_open ends = refl
  block_open (star h i) = star_open i h
  block_open (other {c = c} ne i) = rw (not_eq c 42 ne) (block_open i)

  star_open : {x : List ℕ} → Inside x → NotBegun (λ c. c == 47) x → skip Mode.star x ≡ bad (Some EofParsingComment) inner
  star_open ends h = refl
  star_open (star k i) h = star_open i k
  star_open (other {c = c} ne i) h = rw (h, not_eq c 42 ne) (block_open i)

-- a faulty comment is refused with its code at its position
pub comment_refused : {x part : List ℕ} {code : Option ErrorCode} {place : Option (List ℕ)} {shown : Shown} → CommentFault x code place part shown → Refuses (skip between x) x code place
unfolding skip
comment_refused (no_comment c r h) = (here (c ∷ r), skip_slash (c ∷ r) ∙ fails (c == 47) (c == 42) h, refl)
  where
    fails : (a b : Bool) → (a || b) ≡ false → cond a (skip Mode.line r) (cond b (skip Mode.block r) (bad (Some ExpectedComment) (here (c ∷ r)))) ≡ bad (Some ExpectedComment) (here (c ∷ r))
    fails true b h = absurd (cc)
    fails false true h = absurd (cc)
    fails false false h = refl
comment_refused slash_ends = (inner, skip_slash [], tt)
comment_refused (block_ends {x = x} i) = (inner, skip_slash (42 ∷ x) ∙ block_open i, tt)

-- a fault of blanks is refused with its code at its position
pub blank_refused : {x before part : List ℕ} {code : Option ErrorCode} {place : Option (List ℕ)} {shown : Shown} → BlankFault x code place before part shown → Refuses (skip between x) x code place
blank_refused (in_comment {w = w} {x = x} {code = code} {place = place} b f) =
    refuses_after w x (skip between x) (skip between (w ++ x)) code place (λ p e. skip_blanks x b ∙ e) (comment_refused f)

-- two faults of blanks of one input have one code and one position
pub one_blank_fault : {x b c p q : List ℕ} {e f : Option ErrorCode} {pl pm : Option (List ℕ)} {h i : Shown} → BlankFault x e pl b p h → BlankFault x f pm c q i → (e ≡ f) × (pl ≡ pm)
one_blank_fault {x = x} {e = e} {f = f} {pl = pl} {pm = pm} a b = one_refusal (skip between x) x e f pl pm (blank_refused a) (blank_refused b)

-- ---- one gap

-- a gap is passed over, up to a solid rest
pub gap_read : {w r : List ℕ} → Gap w r → Solid r → skip between (w ++ r) ≡ got tt r
gap_read {r = r} g s = skip_gap g ∙ skip_rest r s

-- a text that is a gap before a solid rest has no fault of blanks
pub no_blank_fault : {w r b p : List ℕ} {e : Option ErrorCode} {pl : Option (List ℕ)} {h : Shown} → Gap w r → Solid r → BlankFault (w ++ r) e pl b p h → ⊥
no_blank_fault {w = w} {r = r} {e = e} {pl = pl} g s f = not_both (skip between (w ++ r)) (w ++ r) r tt e pl (gap_read g s) (blank_refused f)

-- a text is a gap before a solid rest in one way
pub one_gap : (w s v r : List ℕ) → Gap w s → Solid s → Gap v r → Solid r → w ++ s ≡ v ++ r → (v ≡ w) × (r ≡ s)
one_gap w s v r g a h b e =
    let k = one_answer (skip between) w s v r tt tt (gap_read g a) (gap_read h b) e in
    (sym k.0, sym k.2)

-- blanks before a solid character are the gap
pub gap_before : (w v r : List ℕ) (c : ℕ) (s : List ℕ) → Blanks w → is_solid c ≡ true → Gap v r → Solid r → w ++ c ∷ s ≡ v ++ r → (v ≡ w) × (r ≡ c ∷ s)
gap_before w v r c s b k g h e = one_gap w (c ∷ s) v r (Gap.blanks b) (begins_solid c s k) g h e

-- blanks to the end are the gap
pub gap_last : (x v r : List ℕ) → LastBlanks x → Gap v r → Solid r → x ≡ v ++ r → (v ≡ x) × (r ≡ [])
gap_last x v r l g h e = one_gap x [] v r (at_end l) tt g h (append-nil x ∙ e)

-- a gap before a text that isn't empty is of blanks
pub gap_blanks : {w : List ℕ} (c : ℕ) (r : List ℕ) → Gap w (c ∷ r) → Blanks w
gap_blanks {w = w} c r g = blanks_of g refl
  where
    blanks_of : {w q : List ℕ} → Gap w q → q ≡ c ∷ r → Blanks w
    blanks_of (Gap.blanks b) e = b
    blanks_of (at_end l) e = absurd (cc)

-- a gap to the end
pub gap_end : {w : List ℕ} → Gap w [] → LastBlanks w
gap_end {w = w} g = last_of g
  where
    last_of : {w q : List ℕ} → Gap w q → LastBlanks w
    last_of (Gap.blanks b) = LastBlanks.blanks b
    last_of (at_end l) = l

-- each text is a gap before a solid rest or has a fault of blanks
pub blanks_judged : (x : List ℕ) → HasGap x ⊎ IsBlamed BlankBlame x
blanks_judged x = by_answer (skip between x) (skip_sound x)
  where
    by_answer : (res : Read (Unit {0})) → BlanksSound x res → HasGap x ⊎ IsBlamed BlankBlame x
    by_answer (got u r) (w, e, g, s) = inl (w, r, e, g, s)
    by_answer (bad code p) b = inr (record { code = code; place = b.place; before = b.before; part = b.part; shown = b.shown }, b.fault)
