-- How far an entry goes in a text that goes on with it.
use Rattle.std.proofs.Common.{◌≡◌, ℕ, ◌+◌, ◌≤◌, Bool, true, false, List, [], ◌∷◌, ◌++◌, refl, ap, sym, ◌∙◌, append_assoc, subst, inl, inr, arith}
use Rattle.std.specs.Prelude.{◌==◌, ◌⊎◌}
use Rattle.std.specs.Str.{chars}
use Rattle.json5_grammar.specs.Language.Blanks.{Blanks, Gap, is_solid, Solid}
use Rattle.json5_grammar.specs.Language.Characters.{NotBegun}
use Rattle.json5_grammar.specs.Language.Names.{Key}
use Rattle.json5_grammar.specs.Language.Trees.{Tree, null, boolean, number, text, array, object, Members, no_more, more, no_member, member, depth}
use Rattle.json5_grammar.specs.Language.Values.{Reads}
use Rattle.json5_grammar.specs.Model.Collections.{IsSign, ReadsKey, IsKeyValue, MembersTail}
use Rattle.json5_grammar.specs.Model.Reading.{got, and_then}
use Rattle.json5_grammar.specs.Model.ReadBlanks.{skip, between}
use Rattle.json5_grammar.specs.Model.ReadSteps.{forget}
use Rattle.json5_grammar.specs.Model.ReadValues.{read}
use Rattle.json5_grammar.proofs.ArraysRead.{comma_solid, bracket_solid}
use Rattle.json5_grammar.proofs.ArraysPartlyRead.{same_sign}
use Rattle.json5_grammar.proofs.BlanksRead.{begins_solid, skip_blanks, skip_rest}
use Rattle.json5_grammar.proofs.BlanksSound.{blank_refused, gap_blanks, one_gap}
use Rattle.json5_grammar.proofs.EntriesAfterGaps.{no_sign}
use Rattle.json5_grammar.proofs.ObjectsRead.{colon_solid, brace_solid, value_left}
use Rattle.json5_grammar.proofs.OneTree.{phrase_complete, one_phrase}
use Rattle.json5_grammar.proofs.Refusals.{not_both}
use Rattle.json5_grammar.proofs.ValueHeads.{val_head, key_head, key_solid, skip_value, skip_key, key_spelling}
use Rattle.json5_tokens.specs.Cursor.{Cursor, Took, Refused, offset_of}
use Rattle.json5_tokens.specs.Outcome.{bytes_in}
use Rattle.json5_tokens.specs.TokenFaults.{FaultyBlanks}
use Rattle.json5_types.specs.declared.error.Error.{Error}
use Rattle.json5_types.specs.Errors.{LacksMemory}
use Rattle.json5_read.specs.declared.brackets.BracketKind.{BracketKind as Kind}
use Rattle.json5_read.specs.declared.brackets.BracketKind.TheVariants as kind
use Rattle.json5_read.specs.ModelSteps.{RefusesRead, Gave, value_at}
use Rattle.json5_walk.proofs.Rests.{append_nil, token_reads}
use Rattle.json5_walk.proofs.Calls.{passed, bytes_joined}
use Rattle.json5_walk.proofs.Determined.{here, sign_left, value_left_over, tail_left, pairs_left, tail_after_comma, pairs_after_comma}
use Rattle.json5_edit.specs.Pieces.{IsName, IsEnd}
use Rattle.json5_edit.specs.Spots.{Goes, Parts, first_element, first_member, Passed, ReadsThen, ReadsColon, Measures, IsColonBefore, IsNameBefore, PassedBefore, BeginsWithEntry, BeginsWithComma, IsCommaSpan}
use Rattle.json5_edit.specs.declared.plain.CommaSpan.{CommaSpan}
use Rattle.json5_edit.specs.declared.plain.EntryLen.{EntryLen}

-- ---- blanks

pub goes_after_gap : (g y : List ℕ) (due : Bool) (u : Tree) → Gap g y → Solid y → Goes due u (g ++ y) → Goes due u y
goes_after_gap g y due (array us) b s h = tail_left g y b s us due [] h
goes_after_gap g y due (object qs) b s h = pairs_left g y b s qs due [] h
goes_after_gap g y due null b s h = absurd h
goes_after_gap g y due (boolean c) b s h = absurd h
goes_after_gap g y due (number n) b s h = absurd h
goes_after_gap g y due (text v e) b s h = absurd h

sign_passes : (c : ℕ) (x r : List ℕ) → is_solid c ≡ true → IsSign c x r → (y : List ℕ) × (skip between x ≡ got tt y)
sign_passes c x r h a = (c ∷ r, ap (skip between) a.split ∙ skip_blanks (c ∷ r) a.blank ∙ skip_rest (c ∷ r) (begins_solid c r h))

value_passes : (x r : List ℕ) (t : Tree) → Reads x t r → (y : List ℕ) × (skip between x ≡ got tt y)
value_passes x r t p = (p.phrase ++ r, ap (skip between) p.split ∙ skip_blanks (p.phrase ++ r) p.blank ∙ skip_value r (val_head p.value))

goes_passes : (due : Bool) (u : Tree) (x : List ℕ) → Goes due u x → (y : List ℕ) × (skip between x ≡ got tt y)
goes_passes false (array no_more) x a = sign_passes 93 x [] bracket_solid a
goes_passes true (array no_more) x (inl a) = sign_passes 93 x [] bracket_solid a
goes_passes true (array no_more) x (inr (z, a, b)) = sign_passes 44 x z comma_solid a
goes_passes false (array (more t ts)) x (z, p, tl) = value_passes x z t p
goes_passes true (array (more t ts)) x (z, (q, a, p), tl) = sign_passes 44 x q comma_solid a
goes_passes false (object no_member) x a = sign_passes 125 x [] brace_solid a
goes_passes true (object no_member) x (inl a) = sign_passes 125 x [] brace_solid a
goes_passes true (object no_member) x (inr (z, a, b)) = sign_passes 44 x z comma_solid a
goes_passes false (object (member u e t ps)) x (k, z, key, v, tl) = (key.spelling ++ k, ap (skip between) key.split ∙ skip_blanks (key.spelling ++ k) key.blank ∙ skip_key k (key_head key.key))
goes_passes true (object (member u e t ps)) x (k, z, (q, a, key), v, tl) = sign_passes 44 x q comma_solid a
goes_passes due null x h = absurd h
goes_passes due (boolean c) x h = absurd h
goes_passes due (number n) x h = absurd h
goes_passes due (text v e) x h = absurd h

-- no faulty comment comes there
passes_on : {s : Cursor} {e : Error} → (y : List ℕ) × (skip between s.unread ≡ got tt y) → Refused FaultyBlanks s e → ⊥
passes_on {s = s} (y, is) f = let (before, part, shown, fault) = f.fault in not_both (skip between s.unread) s.unread y tt f.reason f.place is (blank_refused fault)

pub goes_spare : {s : Cursor} {e : Error} (due : Bool) (u : Tree) → Goes due u s.unread → Refused FaultyBlanks s e → LacksMemory e
goes_spare {s = s} due u h f = absurd (passes_on (goes_passes due u s.unread h) f)

pub colon_spares : {s : Cursor} {e : Error} (t r : Tree) → ReadsColon t r s.unread → Refused FaultyBlanks s e → LacksMemory e
colon_spares {s = s} t r (z, (y, a, p), h) f = absurd (passes_on (sign_passes 58 s.unread y colon_solid a) f)

pub value_spares : {s : Cursor} {e : Error} (t r : Tree) → ReadsThen t r s.unread → Refused FaultyBlanks s e → LacksMemory e
value_spares {s = s} t r (z, p, h) f = absurd (passes_on (value_passes s.unread z t p) f)

-- ---- the name of a member

pub nothing_passed : (s : Cursor) → Passed s s
nothing_passed s = ([], record { split = refl; same = refl })

pub passed_on : {a b c : Cursor} → Passed a b → Passed b c → Passed a c
passed_on {c = c} (x, p) (y, q) = (x ++ y, record { split = p.split ∙ ap (λ z. x ++ z) q.split ∙ sym (append_assoc x y c.unread); same = q.same ∙ p.same })

pub element_first : {u t r : Tree} {x : List ℕ} → Parts kind.Array u t r → Goes false u x → ReadsThen t r x
element_first (first_element t us) (z, p, tl) = (z, p, tl)

-- the key in front
pub key_first : {u t r : Tree} {x : List ℕ} → Parts kind.Object u t r → Solid x → Goes false u x → (k v y : List ℕ) × (e : Bool) × (x ≡ k ++ y) × Key k y v e
key_first {x = x} (first_member u e t qs) s (y, z, k, v, tl) =
    let g = one_gap k.front (k.spelling ++ y) [] x (Gap.blanks k.blank) (key_solid y (key_head k.key)) (Gap.blanks Blanks.empty) s (sym k.split) in
    (k.spelling, u, y, e, g.1, k.key)

same_member : {u v : List ℕ} {e f : Bool} {t s : Tree} {ps qs : Members} → member u e t ps ≡ member v f s qs → (t ≡ s) × (ps ≡ qs)
same_member e = (cc, cc)

pub key_left : {u t r : Tree} (x y s v : List ℕ) (e : Bool) → Parts kind.Object u t r → x ≡ s ++ y → Key s y v e → Goes false u x → ReadsColon t r y
key_left x y s v e (first_member u f t qs) split k h =
    let key : ReadsKey x v e y = record { front = []; spelling = s; split = split; blank = Blanks.empty; key = k } in
    let (w, ps, z, is, value, left) = value_left (member u f t qs) false x y [] v e key h in
    let (same, rest) = same_member is in
    (z, subst (λ q. IsKeyValue y q z) (sym same) value, subst (λ q. MembersTail q true z []) (sym rest) left)

-- ---- a colon

pub colon_after_gap : (g y : List ℕ) (t r : Tree) → Gap g y → Solid y → ReadsColon t r (g ++ y) → ReadsColon t r y
colon_after_gap g y t r b s (z, (q, a, p), h) = (z, (q, sign_left g y b s 58 q colon_solid a, p), h)

pub colon_left : (x y : List ℕ) (t r : Tree) → x ≡ (58 ∷ []) ++ y → ReadsColon t r x → ReadsThen t r y
colon_left x y t r e (z, (q, a, p), h) = (z, subst (λ m. Reads m t z) (same_sign 58 x q y colon_solid a (subst (λ m. IsSign 58 m y) (sym e) (here 58 y))) p, h)

pub no_colon : {e : Error} (x : List ℕ) (t r : Tree) → Solid x → NotBegun (λ c. c == 58) x → ReadsColon t r x → LacksMemory e
no_colon x t r s n (z, (q, a, p), h) = absurd (no_sign 58 x [] x q colon_solid refl (Gap.blanks Blanks.empty) s n a)

pub value_after_gap : (g y : List ℕ) (t r : Tree) → Gap g y → Solid y → ReadsThen t r (g ++ y) → ReadsThen t r y
value_after_gap g y t r b s (z, p, h) = (z, value_left_over g y b s z t p, h)

-- ---- the value

pub value_passed : {old new : Cursor} (room : ℕ) (t r : Tree) → Gave (value_at room old) tt old new → ReadsThen t r old.unread → Goes true r new.unread
value_passed {old = old} {new = new} room t r g (z, p, h) =
    let q = passed g in
    let one = one_phrase old.unread z new.unread t q.tree p (token_reads old.unread q.taken new.unread q.tree q.split q.value q.stops) in
    subst (Goes true r) one.1 h

pub value_gave : {old new : Cursor} (room : ℕ) → Gave (value_at room old) tt old new → Passed old new
value_gave room g = (g.taken, g.took)

reads_so : (room : ℕ) (x r : List ℕ) (t : Tree) → Solid x → Reads x t r → depth t ≤ room → forget (read room x) ≡ got tt r
reads_so room x r t s p l = ap forget (sym (ap (λ m. and_then m (λ u y. read room y)) (skip_rest x s)) ∙ phrase_complete room x r t p l)

pub value_refused : {s : Cursor} {e : Error} (room : ℕ) (t r : Tree) → Solid s.unread → depth t ≤ room → ReadsThen t r s.unread → RefusesRead s.input (value_at room s) e → LacksMemory e
value_refused {s = s} room t r solid l (z, p, h) k =
    let is = sym (reads_so room s.unread z t solid p l) ∙ k.is_bad in
    absurd (cc)

-- ---- a comma

pub comma_passed : (x y : List ℕ) (r : Tree) → x ≡ (44 ∷ []) ++ y → Goes true r x → Goes false r y
comma_passed x y (array us) e h = tail_after_comma us x y [] (subst (λ m. IsSign 44 m y) (sym e) (here 44 y)) h
comma_passed x y (object qs) e h = pairs_after_comma qs x y [] (subst (λ m. IsSign 44 m y) (sym e) (here 44 y)) h
comma_passed x y null e h = absurd h
comma_passed x y (boolean c) e h = absurd h
comma_passed x y (number n) e h = absurd h
comma_passed x y (text v f) e h = absurd h

-- where no comma comes, the closing bracket does
pub no_comma_passed : (x : List ℕ) (r : Tree) → ((y : List ℕ) → IsSign 44 x y → ⊥) → Goes true r x → Goes false r x
no_comma_passed x (array no_more) n (inl a) = a
no_comma_passed x (array no_more) n (inr (y, a, b)) = absurd (n y a)
no_comma_passed x (array (more t ts)) n (y, (q, a, p), tl) = absurd (n q a)
no_comma_passed x (object no_member) n (inl a) = a
no_comma_passed x (object no_member) n (inr (y, a, b)) = absurd (n y a)
no_comma_passed x (object (member u e t ps)) n (k, z, (q, a, key), v, tl) = absurd (n q a)
no_comma_passed x null n h = absurd h
no_comma_passed x (boolean c) n h = absurd h
no_comma_passed x (number m) n h = absurd h
no_comma_passed x (text v e) n h = absurd h

pub no_comma_here : (x g y : List ℕ) → x ≡ g ++ y → Gap g y → Solid y → NotBegun (λ c. c == 44) y → (r : List ℕ) → IsSign 44 x r → ⊥
no_comma_here x g y e b s n r a = no_sign 44 x g y r comma_solid e b s n a

-- ---- the whole entry

measured_at : (bytes part z : List ℕ) (n : ℕ) (now : Cursor) → now.unread ≡ z → now.input ≡ chars bytes → chars bytes ≡ part ++ z → n ≡ offset_of now → n ≡ bytes_in part
measured_at bytes part z n now is input split at =
    let all : bytes_in now.input ≡ bytes_in part + bytes_in z = ap bytes_in (input ∙ split) ∙ bytes_joined part z in
    let rest = ap bytes_in is in
    omega (arith, at, all, rest)

-- blanks were taken
abbrev pub TookBlanks : Cursor → Cursor → Type 0
TookBlanks old new = (w : List ℕ) × Took old w new × Gap w new.unread × Solid new.unread

pub blanks_passed : {old new : Cursor} → TookBlanks old new → Passed old new
blanks_passed (w, took, gap, solid) = (w, took)

pub past_blanks : {old new : Cursor} (due : Bool) (u : Tree) → TookBlanks old new → Goes due u old.unread → Goes due u new.unread
past_blanks {new = new} due u (w, took, gap, solid) h = goes_after_gap w new.unread due u gap solid (subst (Goes due u) took.split h)

pub colon_past_blanks : {old new : Cursor} (t r : Tree) → TookBlanks old new → ReadsColon t r old.unread → ReadsColon t r new.unread
colon_past_blanks {new = new} t r (w, took, gap, solid) h = colon_after_gap w new.unread t r gap solid (subst (ReadsColon t r) took.split h)

pub value_past_blanks : {old new : Cursor} (t r : Tree) → TookBlanks old new → ReadsThen t r old.unread → ReadsThen t r new.unread
value_past_blanks {new = new} t r (w, took, gap, solid) h = value_after_gap w new.unread t r gap solid (subst (ReadsThen t r) took.split h)

-- what a name leads to
abbrev pub Named : Kind → Cursor → Cursor → Type 0
Named k old new = (u t r : Tree) → Parts k u t r → Goes false u old.unread → ReadsThen t r new.unread

pub starts_goes : {s : Cursor} (bytes : List ℕ) (u : Tree) → s ≡ record { input = chars bytes; unread = chars bytes } → Goes false u (chars bytes) → Goes false u s.unread
starts_goes bytes u is h = subst (Goes false u) (sym (ap (λ (s : Cursor). s.unread) is)) h

-- ---- how the entry is spelled

pub name_passed : {old new : Cursor} → PassedBefore IsNameBefore old new → Passed old new
name_passed (taken, took, is) = (taken, took)

pub no_name : (s : Cursor) → PassedBefore IsNameBefore s s
no_name s = ([], record { split = refl; same = refl }, inl refl)

pub colon_before : {a b c d : Cursor} → TookBlanks a b → Took b (58 ∷ []) c → TookBlanks c d → PassedBefore IsColonBefore a d
unfolding passed_on
colon_before {b = b} {c = c} {d = d} (v, before, gap, solid) colon (w, after, later, last) =
    let (taken, took) = passed_on (v, before) (passed_on (58 ∷ [], colon) (w, after)) in
    (taken, took, (v, w, refl, gap_blanks 58 c.unread (subst (Gap v) colon.split gap), later))

pub name_before : {a b c : Cursor} (k u : List ℕ) (e : Bool) → Took a k b → Key k b.unread u e → PassedBefore IsColonBefore b c → PassedBefore IsNameBefore a c
unfolding passed_on
name_before k u e took key (x, colon, is) = let (taken, all) = passed_on (k, took) (x, colon) in (taken, all, inr (k, x, u, e, refl, key_spelling key, is))

-- before a value
name_there : (x r : List ℕ) (c : ℕ) → IsNameBefore (c ∷ r) x → (x ≡ []) ⊎ IsName x
name_there x r c (inl e) = inl e
name_there x r c (inr (k, y, u, e, is, key, (b, w, split, first, gap))) =
    inr (subst IsName (sym (is ∙ ap (λ z. k ++ z) split)) (IsName.name key first (gap_blanks c r gap)))

-- an entry up to its value, and what stands at its end
pub measured : {s0 s1 s2 s3 : Cursor} (k : Kind) (room : ℕ) (bytes end : List ℕ) (n : EntryLen) (now : Cursor) → s0 ≡ record { input = chars bytes; unread = chars bytes } → TookBlanks s0 s1 → PassedBefore IsNameBefore s1 s2 → Named k s1 s2 → Gave (value_at room s2) tt s2 s3 → Took s3 end now → IsEnd end → n.bare ≡ offset_of s3 → n.whole ≡ offset_of now → ((r : Tree) → Goes true r s3.unread → Goes false r now.unread) → Solid (chars bytes) → Measures k room bytes n
measured {s0 = s0} {s1 = s1} {s2 = s2} {s3 = s3} k room bytes end n now is (w, took, gap, solid) (name, named, is_name) leads g ended is_end at_value at_end later whole =
    let q = passed g in
    let h = val_head q.value in
    let start : w ++ s1.unread ≡ chars bytes = sym took.split ∙ ap (λ (s : Cursor). s.unread) is in
    let none = one_gap w s1.unread [] (chars bytes) gap solid (Gap.blanks Blanks.empty) whole start in
    let value : s2.unread ≡ h.char ∷ (h.more ++ s3.unread) = q.split ∙ ap (λ z. z ++ s3.unread) h.is in
    let left : s3.unread ≡ end ++ now.unread = ended.split in
    let bare : chars bytes ≡ (name ++ q.taken) ++ s3.unread = none.1 ∙ named.split ∙ ap (λ z. name ++ z) q.split ∙ sym (append_assoc name q.taken s3.unread) in
    let split : chars bytes ≡ (name ++ q.taken) ++ (end ++ now.unread) = bare ∙ ap (λ z. (name ++ q.taken) ++ z) left in
    let input : s3.input ≡ chars bytes = g.took.same ∙ named.same ∙ took.same ∙ ap (λ (s : Cursor). s.input) is in
    record {
      name = name;
      value = q.taken;
      end = end;
      rest = now.unread;
      tree = q.tree;
      split = split;
      bare = measured_at bytes (name ++ q.taken) s3.unread n.bare s3 refl input bare at_value;
      whole = measured_at bytes ((name ++ q.taken) ++ end) now.unread n.whole now refl (ended.same ∙ input) (split ∙ sym (append_assoc (name ++ q.taken) end now.unread)) at_end;
      is_name = name_there name (h.more ++ s3.unread) h.char (subst (λ z. IsNameBefore z name) value is_name);
      is_value = q.value;
      is_end = is_end;
      goes = λ u t r parts goes d.
          let there = value_passed room t r g (leads u t r parts (past_blanks false u (w, took, gap, solid) (starts_goes bytes u is goes))) in
          (subst (Goes true r) left there, later r there);
    }

pub with_comma : {s0 s1 s2 s3 s4 s5 : Cursor} (k : Kind) (room : ℕ) (bytes : List ℕ) (n : EntryLen) → s0 ≡ record { input = chars bytes; unread = chars bytes } → TookBlanks s0 s1 → PassedBefore IsNameBefore s1 s2 → Named k s1 s2 → Gave (value_at room s2) tt s2 s3 → TookBlanks s3 s4 → Took s4 (44 ∷ []) s5 → n.bare ≡ offset_of s3 → n.whole ≡ offset_of s5 → Solid (chars bytes) → Measures k room bytes n
unfolding passed_on
with_comma {s4 = s4} {s5 = s5} k room bytes n is blanks name named value (v, took, gap, solid) comma at_value at_end =
    let (end, ended) = passed_on (v, took) (44 ∷ [], comma) in
    measured k room bytes end n s5 is blanks name named value ended (inr (v, gap_blanks 44 s5.unread (subst (Gap v) comma.split gap), refl)) at_value at_end
    (λ r h. comma_passed s4.unread s5.unread r comma.split (past_blanks true r (v, took, gap, solid) h))

pub without_comma : {s0 s1 s2 s3 s4 : Cursor} (k : Kind) (room : ℕ) (bytes : List ℕ) (n : EntryLen) → s0 ≡ record { input = chars bytes; unread = chars bytes } → TookBlanks s0 s1 → PassedBefore IsNameBefore s1 s2 → Named k s1 s2 → Gave (value_at room s2) tt s2 s3 → TookBlanks s3 s4 → NotBegun (λ c. c == 44) s4.unread → n.bare ≡ offset_of s3 → n.whole ≡ offset_of s3 → Solid (chars bytes) → Measures k room bytes n
unfolding nothing_passed
without_comma {s3 = s3} {s4 = s4} k room bytes n is blanks name named value (w, took, gap, solid) none at_value at_end =
    measured k room bytes [] n s3 is blanks name named value (nothing_passed s3).1 (inl refl) at_value at_end
    (λ r h. no_comma_passed s3.unread r (no_comma_here s3.unread w s4.unread took.split gap solid none) h)

-- ---- the parts of an entry

-- with what stands at its end, or without
pub whole_entry : {k : Kind} {limit : ℕ} {bytes : List ℕ} {n : EntryLen} → Measures k limit bytes n → BeginsWithEntry (chars bytes) n.whole
whole_entry m = (
  (m.name ++ m.value) ++ m.end,
  m.rest,
  m.split ∙ sym (append_assoc (m.name ++ m.value) m.end m.rest),
  m.whole,
  record { name = m.name; value = m.value; end = m.end; tree = m.tree; split = append_assoc m.name m.value m.end; is_name = m.is_name; is_value = m.is_value; is_end = m.is_end },
)

pub bare_entry : {k : Kind} {limit : ℕ} {bytes : List ℕ} {n : EntryLen} → Measures k limit bytes n → BeginsWithEntry (chars bytes) n.bare
bare_entry m = (
  m.name ++ m.value,
  m.end ++ m.rest,
  m.split,
  m.bare,
  record { name = m.name; value = m.value; end = []; tree = m.tree; split = ap (λ z. m.name ++ z) (sym (append_nil m.value)); is_name = m.is_name; is_value = m.is_value; is_end = inl refl },
)

-- ---- a comma in front

pub comma_spanned : {s0 s1 s2 s3 : Cursor} (bytes : List ℕ) (n : CommaSpan) → s0 ≡ record { input = chars bytes; unread = chars bytes } → TookBlanks s0 s1 → Took s1 (44 ∷ []) s2 → TookBlanks s2 s3 → n.start ≡ offset_of s1 → n.end ≡ offset_of s2 → n.next ≡ offset_of s3 → IsCommaSpan bytes n
comma_spanned {s1 = s1} {s2 = s2} {s3 = s3} bytes n is (b, before, first, x) comma (a, after, second, solid) at_start at_end at_next =
    let split1 : chars bytes ≡ b ++ s1.unread = sym (ap (λ (s : Cursor). s.unread) is) ∙ before.split in
    let split2 : chars bytes ≡ b ++ (44 ∷ s2.unread) = split1 ∙ ap (λ z. b ++ z) comma.split in
    let split3 : chars bytes ≡ b ++ (44 ∷ (a ++ s3.unread)) = split2 ∙ ap (λ z. b ++ (44 ∷ z)) after.split in
    let input1 : s1.input ≡ chars bytes = before.same ∙ ap (λ (s : Cursor). s.input) is in
    let input2 = comma.same ∙ input1 in
    let input3 = after.same ∙ input2 in
    record {
      before = b;
      after = a;
      rest = s3.unread;
      split = split3;
      starts = measured_at bytes b s1.unread n.start s1 refl input1 split1 at_start;
      ends = measured_at bytes (b ++ 44 ∷ []) s2.unread n.end s2 refl input2 (split2 ∙ sym (append_assoc b (44 ∷ []) s2.unread)) at_end;
      follows = measured_at bytes (b ++ 44 ∷ a) s3.unread n.next s3 refl input3 (split3 ∙ sym (append_assoc b (44 ∷ a) s3.unread)) at_next;
      is_before = gap_blanks 44 s2.unread (subst (Gap b) comma.split first);
      is_after = second;
      solid = solid;
    }

-- where the text begins with a comma, no fault comes up to the next entry
pub before_comma_spares : {s : Cursor} {e : Error} (bytes : List ℕ) → s ≡ record { input = chars bytes; unread = chars bytes } → Refused FaultyBlanks s e → BeginsWithComma (chars bytes) → LacksMemory e
before_comma_spares {s = s} bytes is f (k, u, t, r, parts, goes) = goes_spare true u (subst (Goes true u) (sym (ap (λ (s : Cursor). s.unread) is)) goes) f

parts_comma : {k : Kind} {u t r : Tree} {x : List ℕ} → Parts k u t r → Goes true u x → (y : List ℕ) × IsSign 44 x y
parts_comma (first_element t us) (y, (z, a, p), tl) = (z, a)
parts_comma (first_member u e t qs) (y, z, (w, a, k), v, tl) = (w, a)

pub no_comma_spares : {s0 s1 : Cursor} {e : Error} (bytes : List ℕ) → s0 ≡ record { input = chars bytes; unread = chars bytes } → TookBlanks s0 s1 → NotBegun (λ c. c == 44) s1.unread → BeginsWithComma (chars bytes) → LacksMemory e
no_comma_spares {s0 = s0} {s1 = s1} bytes is (w, took, gap, solid) none (k, u, t, r, parts, goes) =
    let (y, a) = parts_comma parts goes in
    absurd (no_comma_here (chars bytes) w s1.unread (sym (ap (λ (s : Cursor). s.unread) is) ∙ took.split) gap solid none y a)

pub after_comma_spares : {s0 s1 s2 : Cursor} {e : Error} (bytes : List ℕ) → s0 ≡ record { input = chars bytes; unread = chars bytes } → TookBlanks s0 s1 → Took s1 (44 ∷ []) s2 → Refused FaultyBlanks s2 e → BeginsWithComma (chars bytes) → LacksMemory e
after_comma_spares {s0 = s0} {s1 = s1} {s2 = s2} bytes is blanks comma f (k, u, t, r, parts, goes) =
    goes_spare false u (comma_passed s1.unread s2.unread u comma.split (past_blanks true u blanks (subst (Goes true u) (sym (ap (λ (s : Cursor). s.unread) is)) goes))) f

-- what goes on after the comma
pub goes_past_comma : (before after rest x : List ℕ) (u : Tree) → Blanks before → Gap after rest → Solid rest → x ≡ before ++ (44 ∷ (after ++ rest)) → Goes true u x → Goes false u rest
goes_past_comma before after rest x u b gap solid is goes =
    let comma = goes_after_gap before (44 ∷ (after ++ rest)) true u (Gap.blanks b) (begins_solid 44 (after ++ rest) comma_solid) (subst (Goes true u) is goes) in
    goes_after_gap after rest false u gap solid (comma_passed (44 ∷ (after ++ rest)) (after ++ rest) u refl comma)
