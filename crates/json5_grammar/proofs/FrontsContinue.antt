-- Each front begins a document: a line feed, what is expected and the closing brackets go on from it.
use Rattle.std.proofs.Common.{◌≡◌, ℕ, Bool, true, false, cond, List, [], ◌∷◌, ◌++◌, refl, ap, sym, ◌∙◌, append_assoc, subst}
use Rattle.json5_grammar.specs.Language.Blanks.{Blanks, LastBlanks, Gap, empty, blank, line, open_line}
use Rattle.json5_grammar.specs.Language.Documents.{Doc, Begins}
use Rattle.json5_grammar.specs.Language.Names.{Key, goes_on_name}
use Rattle.json5_grammar.specs.Language.Numbers.{lengthens}
use Rattle.json5_grammar.specs.Language.Trees.{Tree}
use Rattle.json5_grammar.specs.Language.Values.{Stops, null_text}
use Rattle.json5_grammar.specs.Faults.Fronts.{BracketKind, of_array, of_object, Bracket, Expects, after, member_of, opening, closing, Front, start, after_value, after_bracket, after_comma, after_key, after_colon, value, element, key, colon, comma, end}
use Rattle.json5_grammar.specs.Model.Reading.{Read, got, bad, and_then}
use Rattle.json5_grammar.specs.Model.ReadBlanks.{skip, between}
use Rattle.json5_grammar.specs.Model.ReadValues.{at_end, document}
use Rattle.json5_grammar.specs.Model.ReadSteps.{forget, entry_head, entry_at, comma_at, separator, rest_of_bracket}
use Rattle.json5_grammar.proofs.CommonLemmas.{append_after_two, SameHead, same_append, same_not}
use Rattle.json5_grammar.proofs.BlanksRead.{skip_rest, skip_end, begins_solid, printable_solid}
use Rattle.json5_grammar.proofs.BlanksSound.{Blanks-append}
use Rattle.json5_grammar.proofs.CharacterClasses.{blank_ends_values, blank_no_name}
use Rattle.json5_grammar.proofs.ValueHeads.{val_head, key_head, key_before, key_spelling}
use Rattle.json5_grammar.proofs.ValuesRead.{read_null}
use Rattle.json5_grammar.proofs.ValueSteps.{turn, rest_step}
use Rattle.json5_grammar.proofs.FrontsLeft.{rest_then, colon_then, comma_turn, gap_then, entry_turn, ending, document_ends, room, rest_after, value_then, left_at, whole_of, Fits, front_fits}
use Rattle.json5_grammar.proofs.FrontsReached.{front_reached}
use Rattle.json5_grammar.proofs.DocumentOrFault.{document_sound}

-- ---- of what follows a front the first character counts alone

-- a gap, and a key
gap_same : {w r : List ℕ} (z : List ℕ) → SameHead r z → Gap w r → Gap w z
gap_same z h (Gap.blanks b) = Gap.blanks b
gap_same [] h (Gap.at_end l) = Gap.at_end l
gap_same (c ∷ z) h (Gap.at_end l) = absurd h

key_same : {k q u : List ℕ} {escape_free : Bool} (y : List ℕ) → SameHead q y → Key k q u escape_free → Key k y u escape_free
key_same y h (Key.string_key s) = Key.string_key s
key_same [] h (Key.name_key i g) = absurd h
key_same (d ∷ y) h (Key.name_key i g) = Key.name_key i (subst (λ z. goes_on_name z ≡ false) h g)

-- a front
pub front_same : {limit : ℕ} {f r : List ℕ} {o : List Bracket} {a : Expects} (z : List ℕ) → SameHead r z → Front limit f r o a → Front limit f z o a
front_same z h (start g) = start (gap_same z h g)
front_same z h (after_value {s = s} {w = w} {r = r} f t v st l g) =
    let more = same_append w r z h in
    after_value (front_same (s ++ (w ++ z)) (same_append s (w ++ r) (w ++ z) more) f) t v (same_not (lengthens s) (w ++ r) (w ++ z) more st) l
    (gap_same z h g)
front_same z h (after_bracket {w = w} k f t l g) = after_bracket k (front_same (opening k ∷ w ++ z) refl f) t l (gap_same z h g)
front_same z h (after_comma {w = w} f g) = after_comma (front_same (44 ∷ w ++ z) refl f) (gap_same z h g)
front_same z h (after_key {k = k} {w = w} {r = r} f is g) =
    let more = same_append w r z h in
    after_key (front_same (k ++ (w ++ z)) (same_append k (w ++ r) (w ++ z) more) f) (key_same (w ++ z) more is) (gap_same z h g)
front_same z h (after_colon {w = w} f g) = after_colon (front_same (58 ∷ w ++ z) refl f) (gap_same z h g)

-- ---- a line feed after a front

line_feed_blank : Blanks (10 ∷ [])
line_feed_blank = blank refl empty

-- a line feed makes each gap one before anything
gap_line : {w r : List ℕ} (z : List ℕ) → Gap w r → Gap (w ++ 10 ∷ []) z
gap_line z (Gap.blanks b) = Gap.blanks (Blanks-append b line_feed_blank)
gap_line z (Gap.at_end (LastBlanks.blanks b)) = Gap.blanks (Blanks-append b line_feed_blank)
gap_line z (Gap.at_end (open_line {w = w} {x = x} b n)) =
    Gap.blanks (subst Blanks (sym (append_assoc w (47 ∷ 47 ∷ x) (10 ∷ []))) (Blanks-append b (line 10 n refl empty)))

-- and it ends a value and a key
stops_line : (s w r z : List ℕ) → Stops s (w ++ r) → Stops s ((w ++ 10 ∷ []) ++ z)
stops_line s [] r z h = blank_ends_values 10 refl s
stops_line s (c ∷ w) r z h = h

key_line : {k u : List ℕ} {escape_free : Bool} (w r z : List ℕ) → Key k (w ++ r) u escape_free → Key k ((w ++ 10 ∷ []) ++ z) u escape_free
key_line [] r z k = key_before 10 z (key_spelling k) (blank_no_name 10 refl)
key_line (c ∷ w) r z k = key_same (c ∷ (w ++ 10 ∷ []) ++ z) refl k

-- texts that begin with the same text begin with the same character
same_nonempty : (s p q c m : _) → s ≡ c ∷ m → SameHead (s ++ p) (s ++ q)
same_nonempty s p q c m e = rw e refl

key_nonempty : {k q u : List ℕ} {escape_free : Bool} (p r : List ℕ) → Key k q u escape_free → SameHead (k ++ p) (k ++ r)
key_nonempty {k = k} p r is = let h = key_head is in same_nonempty k p r h.char h.more h.is

-- a line feed may follow each front, and then anything
pub front_line : {limit : ℕ} {f r : List ℕ} {o : List Bracket} {a : Expects} (z : List ℕ) → Front limit f r o a → Front limit (f ++ 10 ∷ []) z o a
front_line z (start g) = start (gap_line z g)
front_line {limit = limit} z (after_value {g = g} {s = s} {w = w} {r = r} {o = o} f t v st l gap) =
    let h = val_head v in
    subst (λ q. Front limit q z o (after o)) (sym (append_after_two g s w (10 ∷ [])))
    (after_value (front_same (s ++ ((w ++ 10 ∷ []) ++ z)) (same_nonempty s (w ++ r) ((w ++ 10 ∷ []) ++ z) h.char h.more h.is) f) t v
    (stops_line s w r z st) l (gap_line z gap))
front_line {limit = limit} z (after_bracket {g = g} {w = w} {o = o} k f t l gap) =
    subst (λ q. Front limit q z (record { kind = k; before = g } ∷ o) (member_of k)) (sym (append_assoc g (opening k ∷ w) (10 ∷ [])))
    (after_bracket k (front_same (opening k ∷ (w ++ 10 ∷ []) ++ z) refl f) t l (gap_line z gap))
front_line {limit = limit} z (after_comma {g = g} {w = w} {b = b} {o = o} f gap) =
    subst (λ q. Front limit q z (b ∷ o) (member_of b.kind)) (sym (append_assoc g (44 ∷ w) (10 ∷ [])))
    (after_comma (front_same (44 ∷ (w ++ 10 ∷ []) ++ z) refl f) (gap_line z gap))
front_line {limit = limit} z (after_key {g = g} {k = k} {w = w} {r = r} {o = o} f is gap) =
    subst (λ q. Front limit q z o colon) (sym (append_after_two g k w (10 ∷ [])))
    (after_key (front_same (k ++ ((w ++ 10 ∷ []) ++ z)) (key_nonempty (w ++ r) ((w ++ 10 ∷ []) ++ z) is) f) (key_line w r z is) (gap_line z gap))
front_line {limit = limit} z (after_colon {g = g} {w = w} {o = o} f gap) =
    subst (λ q. Front limit q z o value) (sym (append_assoc g (58 ∷ w) (10 ∷ [])))
    (after_colon (front_same (58 ∷ (w ++ 10 ∷ []) ++ z) refl f) (gap_line z gap))

-- ---- what goes on from a front to the end of a document

-- the closing brackets
abbrev closers : List Bracket → List ℕ
closers [] = []
closers (b ∷ o) = closing b.kind ∷ closers o

-- what goes on from a front
abbrev goes_on : List Bracket → Expects → List ℕ
goes_on o value = null_text ++ closers o
goes_on o element = closers o
goes_on o key = closers o
goes_on o colon = 58 ∷ null_text ++ closers o
goes_on o comma = closers o
goes_on o end = []

-- a closing bracket is read where a comma is expected, and where an element or a pair is
close_solid : (k : BracketKind) (y : List ℕ) → skip between (closing k ∷ y) ≡ got tt (closing k ∷ y)
close_solid of_array y = skip_rest (93 ∷ y) (begins_solid 93 y (printable_solid 93 refl refl))
close_solid of_object y = skip_rest (125 ∷ y) (begins_solid 125 y (printable_solid 125 refl refl))

closes_later : (k : BracketKind) (d : ℕ) (y : List ℕ) → rest_of_bracket k true d (closing k ∷ y) ≡ got tt y
unfolding separator
closes_later k d y =
    rest_step k true d (closing k ∷ y)
    ∙ ap (comma_turn k d) (close_solid k y)
    ∙ by_kind k
  where
    by_kind : (k : BracketKind)
        → and_then (and_then (comma_at k (closing k ∷ y)) (λ more y. cond more (entry_at k y) (got false y))) (turn k d) ≡ got tt y
    by_kind of_array = refl
    by_kind of_object = refl

closes_first : (k : BracketKind) (d : ℕ) (y : List ℕ) → rest_of_bracket k false d (closing k ∷ y) ≡ got tt y
unfolding entry_at
closes_first k d y =
    rest_step k false d (closing k ∷ y)
    ∙ ap (entry_turn k d) (close_solid k y)
    ∙ by_kind k
  where
    by_kind : (k : BracketKind) → and_then (entry_head k (closing k ∷ y)) (turn k d) ≡ got tt y
    by_kind of_array = refl
    by_kind of_object = refl

-- all brackets are closed
closes_all : (limit : ℕ) (x : List ℕ) (o : List Bracket) → whole_of ending limit x o (rest_after ending limit o (closers o)) ≡ got tt []
closes_all limit x [] = ap (λ m. and_then m (λ u r. forget (at_end Tree.null r))) skip_end
closes_all limit x (b ∷ o) = ap (whole_of ending limit x (b ∷ o)) (closes_later b.kind (room limit (b ∷ o)) (closers o)) ∙ closes_all limit x o

-- null is read where a value is expected
null_next : (limit : ℕ) (o : List Bracket) (y : List ℕ) → value_then ending limit o (null_text ++ y) ≡ rest_after ending limit o y
null_next limit o y = ap (λ m. rest_then ending limit o (forget m)) (read_null (room limit o) y)

-- blanks end at null and at a colon
null_skipped : (y : List ℕ) → skip between (null_text ++ y) ≡ got tt (null_text ++ y)
null_skipped y = skip_rest (null_text ++ y) (begins_solid 110 (117 ∷ 108 ∷ 108 ∷ y) (printable_solid 110 refl refl))

colon_skipped : (y : List ℕ) → skip between (58 ∷ y) ≡ got tt (58 ∷ y)
colon_skipped y = skip_rest (58 ∷ y) (begins_solid 58 y (printable_solid 58 refl refl))

-- what goes on is read to the end
goes_to_end : (limit : ℕ) (x : List ℕ) (o : List Bracket) (a : Expects) → Fits o a
    → whole_of ending limit x o (left_at ending limit o a (goes_on o a)) ≡ got tt []
goes_to_end limit x o value f =
    ap (whole_of ending limit x o) (ap (gap_then ending limit o) (null_skipped (closers o)) ∙ null_next limit o (closers o))
    ∙ closes_all limit x o
goes_to_end limit x [] element f = absurd f
goes_to_end limit x (b ∷ o) element f =
    ap (whole_of ending limit x (b ∷ o)) (closes_first b.kind (room limit (b ∷ o)) (closers o)) ∙ closes_all limit x o
goes_to_end limit x [] key f = absurd f
goes_to_end limit x (b ∷ o) key f = ap (whole_of ending limit x (b ∷ o)) (closes_first b.kind (room limit (b ∷ o)) (closers o)) ∙ closes_all limit x o
goes_to_end limit x o colon f =
    ap (whole_of ending limit x o)
    (ap (colon_then ending limit o) (colon_skipped (null_text ++ closers o))
    ∙ ap (gap_then ending limit o) (null_skipped (closers o))
    ∙ null_next limit o (closers o))
    ∙ closes_all limit x o
goes_to_end limit x o comma f = closes_all limit x o
goes_to_end limit x [] end f = closes_all limit x []
goes_to_end limit x (b ∷ o) end f = absurd f

-- ---- each front begins a document

-- what is read to the end is a document
read_whole : (m : Read Tree) → forget m ≡ got tt [] → (t : Tree) × (m ≡ got t [])
read_whole (got t r) e = let same : r ≡ [] = cc in (t, ap (got t) same)
read_whole (bad c p) e = absurd (cc)

-- with what goes on from it a front is a document
pub front_begins : {limit : ℕ} {f r : List ℕ} {o : List Bracket} {a : Expects} → Front limit f r o a → Begins limit f
front_begins {limit = limit} {f = f} {o = o} {a = a} h =
    let z = goes_on o a in
    let x = (f ++ 10 ∷ []) ++ z in
    let there = front_line z h in
    let (t, e) =
    read_whole (document limit x) (document_ends limit x ∙ front_reached ending x there refl ∙ goes_to_end limit x o a (front_fits there)) in
    record { more = 10 ∷ z; tree = t; document = subst (λ q. Doc limit q t) (append_assoc f (10 ∷ []) z) (document_sound limit x t [] e) }
