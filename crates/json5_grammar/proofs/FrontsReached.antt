-- Reading an input leads to each of its fronts, and goes on there with what is left.
use Rattle.std.proofs.Common.{◌≡◌, ℕ, suc, ◌+◌, ◌-◌, ◌<◌, ◌≤◌, Bool, true, false, cond, List, [], ◌∷◌, ◌++◌, length, refl, ap, sym, ◌∙◌, append_assoc, arith}
use Rattle.std.specs.Prelude.{◌==◌, drop}
use Rattle.std.proofs.lemmas.List.{drop_at}
use Rattle.json5_grammar.specs.Language.Blanks.{Gap, is_solid}
use Rattle.json5_grammar.specs.Language.Names.{Key}
use Rattle.json5_grammar.specs.Language.Trees.{Tree, depth}
use Rattle.json5_grammar.specs.Language.Values.{Val, Stops}
use Rattle.json5_grammar.specs.Faults.Fronts.{BracketKind, of_array, of_object, Bracket, Expects, takes_value, after, member_of, opening, Front, start, after_value, after_bracket, after_comma, after_key, after_colon, value, element, key, colon, comma, end}
use Rattle.json5_grammar.specs.Faults.{is_allowed_close}
use Rattle.json5_grammar.specs.Model.Reading.{Read, got, bad, and_then, placed}
use Rattle.json5_grammar.specs.Model.ReadBlanks.{skip, between}
use Rattle.json5_grammar.specs.Model.ReadValues.{colon_at, read}
use Rattle.json5_grammar.specs.Model.ReadSteps.{forget, colon_after, member_head, entry_head, entry_at, separator, rest_of_bracket, value_and_rest}
use Rattle.json5_grammar.proofs.CommonLemmas.{append_after_two}
use Rattle.json5_grammar.proofs.BlanksRead.{skip_gap, skip_rest, printable_solid, begins_solid}
use Rattle.json5_grammar.proofs.CharacterClasses.{begins_others}
use Rattle.json5_grammar.proofs.KeysRead.{key_complete}
use Rattle.json5_grammar.proofs.ValueHeads.{val_head, key_head, key_begins, begins_value_solid, skip_key}
use Rattle.json5_grammar.proofs.ValuesRead.{read_complete}
use Rattle.json5_grammar.proofs.ValueSteps.{turn, rest_step, read_opened}
use Rattle.json5_grammar.proofs.FrontsLeft.{rest_then, colon_then, comma_turn, gap_then, entry_turn, Finish, Fits, front_fits, gap_after, gap_rest, left_at, members_at, phrase_then, rest_after, room, value_then, whole_of}

-- ---- steps

-- where a value is expected and one begins, it is read and then the rest
pub value_next : (finish : Finish) (limit : ℕ) (o : List Bracket) (a : Expects) (c : ℕ) (r : List ℕ) → takes_value a ≡ true → Fits o a
    → is_solid c ≡ true → is_allowed_close a c ≡ false → left_at finish limit o a (c ∷ r) ≡ value_then finish limit o (c ∷ r)
unfolding entry_at
value_next finish limit o value c r t f s n = rw (skip_rest (c ∷ r) (begins_solid c r s)) refl
value_next finish limit [] element c r t f s n = absurd f
value_next finish limit (b ∷ o) element c r t f s n =
    rw f (rest_step of_array false (room limit (b ∷ o)) (c ∷ r) ∙ ap (λ m. and_then m (turn of_array (room limit (b ∷ o)))) by_member)
  where
    by_member : entry_at of_array (c ∷ r) ≡ got true (c ∷ r)
    by_member = rw (skip_rest (c ∷ r) (begins_solid c r s), n) refl
value_next finish limit o key c r t f s n = absurd (cc)
value_next finish limit o colon c r t f s n = absurd (cc)
value_next finish limit o comma c r t f s n = absurd (cc)
value_next finish limit o end c r t f s n = absurd (cc)

-- a character other than `]` closes nothing where a value is expected
pub no_close : (a : Expects) (c : ℕ) → takes_value a ≡ true → (c == 93) ≡ false → is_allowed_close a c ≡ false
no_close value c t n = refl
no_close element c t n = n
no_close key c t n = absurd (cc)
no_close colon c t n = refl
no_close comma c t n = refl
no_close end c t n = refl

-- after a value the rest is read
left_after : (finish : Finish) (limit : ℕ) (o : List Bracket) (r : List ℕ) → left_at finish limit o (after o) r ≡ rest_after finish limit o r
left_after finish limit [] r = refl
left_after finish limit (b ∷ o) r = refl

-- over a value
value_step : (finish : Finish) (limit : ℕ) (o : List Bracket) (a : Expects) (s w r : List ℕ) (t : Tree) → takes_value a ≡ true → Fits o a
    → Val s t → Stops s (w ++ r) → length o + depth t ≤ limit → Gap w r
    → left_at finish limit o a (s ++ (w ++ r)) ≡ left_at finish limit o (after o) r
value_step finish limit o a s w r t takes f v st l g =
    let h = val_head v in
    let e : s ++ (w ++ r) ≡ h.char ∷ (h.more ++ (w ++ r)) = ap (λ z. z ++ (w ++ r)) h.is in
    ap (left_at finish limit o a) e
    ∙ value_next finish limit o a h.char (h.more ++ (w ++ r)) takes f (begins_value_solid h.char h.begins)
    (no_close a h.char takes (begins_others h.char h.begins).3)
    ∙ ap (value_then finish limit o) (sym e)
    ∙ ap (λ m. rest_then finish limit o (forget m)) (read_complete v (w ++ r) st (room limit o) (omega (arith, l)))
    ∙ gap_after finish limit o w r g
    ∙ sym (left_after finish limit o r)

-- over an opening bracket
bracket_step : (finish : Finish) (limit : ℕ) (o : List Bracket) (a : Expects) (k : BracketKind) (before w r : List ℕ) → takes_value a ≡ true
    → Fits o a → length o < limit → Gap w r
    → left_at finish limit o a (opening k ∷ w ++ r)
    ≡ rest_then finish limit o (placed (opening k ∷ w ++ r) (left_at finish limit (record { kind = k; before = before } ∷ o) (member_of k) r))
bracket_step finish limit o a k before w r takes f l g =
    value_next finish limit o a (opening k) (w ++ r) takes f (bracket_solid k) (no_close a (opening k) takes (no_bracket k))
    ∙ ap (λ n. rest_then finish limit o (forget (read n (opening k ∷ w ++ r)))) more_room
    ∙ ap (rest_then finish limit o) (read_opened k (limit - suc (length o)) (w ++ r))
    ∙ ap (λ m. rest_then finish limit o (placed (opening k ∷ w ++ r) m)) (gap_rest k false (limit - suc (length o)) w r g ∙ by_kind k)
  where
    more_room : limit - length o ≡ suc (limit - suc (length o))
    more_room = omega (arith, l)

    bracket_solid : (k : BracketKind) → is_solid (opening k) ≡ true
    bracket_solid of_array = printable_solid 91 refl refl
    bracket_solid of_object = printable_solid 123 refl refl

    no_bracket : (k : BracketKind) → (opening k == 93) ≡ false
    no_bracket of_array = refl
    no_bracket of_object = refl

    by_kind : (k : BracketKind)
        → rest_of_bracket k false (limit - suc (length o)) r ≡ left_at finish limit (record { kind = k; before = before } ∷ o) (member_of k) r
    by_kind of_array = refl
    by_kind of_object = refl

-- over a comma
comma_step : (finish : Finish) (limit : ℕ) (b : Bracket) (o : List Bracket) (w r : List ℕ) → Gap w r
    → left_at finish limit (b ∷ o) comma (44 ∷ w ++ r) ≡ left_at finish limit (b ∷ o) (member_of b.kind) r
unfolding separator
comma_step finish limit b o w r g =
    rest_step b.kind true (room limit (b ∷ o)) (44 ∷ w ++ r)
    ∙ ap (comma_turn b.kind (room limit (b ∷ o))) (skip_rest (44 ∷ w ++ r) (begins_solid 44 (w ++ r) (printable_solid 44 refl refl)))
    ∙ sym (rest_step b.kind false (room limit (b ∷ o)) (w ++ r))
    ∙ gap_rest b.kind false (room limit (b ∷ o)) w r g
    ∙ by_kind b.kind
  where
    by_kind : (k : BracketKind) → members_at finish limit (b ∷ o) r ≡ left_at finish limit (b ∷ o) (member_of k) r
    by_kind of_array = refl
    by_kind of_object = refl

-- over a key
key_step : (finish : Finish) (limit : ℕ) (b : Bracket) (o : List Bracket) (k w r u : List ℕ) (escape_free : Bool) → b.kind ≡ of_object
    → Key k (w ++ r) u escape_free → Gap w r → left_at finish limit (b ∷ o) key (k ++ (w ++ r)) ≡ left_at finish limit (b ∷ o) colon r
unfolding entry_at
key_step finish limit b o k w r u escape_free f is g =
    let h = key_head is in
    let e : k ++ (w ++ r) ≡ h.char ∷ (h.more ++ (w ++ r)) = ap (λ z. z ++ (w ++ r)) h.is in
    let d : ℕ = room limit (b ∷ o) in
    ap (λ n. rest_of_bracket n false d (k ++ (w ++ r))) f
    ∙ rest_step of_object false d (k ++ (w ++ r))
    ∙ ap (entry_turn of_object d) (skip_key (w ++ r) h)
    ∙ ap (λ z. and_then (entry_head of_object z) (turn of_object d)) e
    ∙ ap (λ c. and_then (cond c (got false (h.more ++ (w ++ r))) (member_head (h.char ∷ (h.more ++ (w ++ r))))) (turn of_object d))
    (key_begins h.char h.begins).2
    ∙ ap (λ z. and_then (member_head z) (turn of_object d)) (sym e)
    ∙ ap (λ m. and_then (and_then m (λ a r. and_then (colon_after r) (λ u y. got true y))) (turn of_object d)) (key_complete is)
    ∙ colon_first (colon_after (w ++ r))
    ∙ ap (λ m. and_then (and_then m (λ v z. and_then (colon_at z) (λ v z. skip between z))) (λ u z. value_and_rest of_object d z)) (skip_gap g)
    ∙ ap (λ n. and_then (colon_after r) (λ u z. and_then (forget (read d z)) (λ u y. rest_of_bracket n true d y))) (sym f)
  where
    colon_first : (m : Read (Unit {0}))
        → and_then (and_then m (λ u y. got true y)) (turn of_object (room limit (b ∷ o)))
        ≡ and_then m (λ u z. value_and_rest of_object (room limit (b ∷ o)) z)
    colon_first (got u y) = refl
    colon_first (bad e p) = refl

-- over a colon
colon_step : (finish : Finish) (limit : ℕ) (o : List Bracket) (w r : List ℕ) → Gap w r
    → left_at finish limit o colon (58 ∷ w ++ r) ≡ left_at finish limit o value r
colon_step finish limit o w r g =
    ap (colon_then finish limit o) (skip_rest (58 ∷ w ++ r) (begins_solid 58 (w ++ r) (printable_solid 58 refl refl)))
    ∙ ap (gap_then finish limit o) (skip_gap g)

-- ---- the whole

-- what a front makes of the whole
pub front_reached : {limit : ℕ} {f r : List ℕ} {o : List Bracket} {a : Expects} (finish : Finish) (x : List ℕ) → Front limit f r o a → x ≡ f ++ r
    → phrase_then finish limit x ≡ whole_of finish limit x o (left_at finish limit o a r)
front_reached {limit = limit} {f = f} {r = r} finish x (start g) e =
    ap (phrase_then finish limit) e ∙ at_first (skip between (f ++ r)) ∙ ap (λ m. and_then m (λ u z. value_then finish limit [] z)) (skip_gap g)
  where
    no_less : limit ≡ limit - 0
    no_less = omega arith

    at_first : (m : Read (Unit {0}))
        → and_then (forget (and_then m (λ u y. read limit y))) (λ u z. finish.at z) ≡ and_then m (λ u z. value_then finish limit [] z)
    at_first (got u y) = ap (λ n. and_then (forget (read n y)) (λ u z. finish.at z)) no_less
    at_first (bad e p) = refl
front_reached {limit = limit} finish x (after_value {g = g} {s = s} {w = w} {r = r} {o = o} {a = a} {t = t} f takes v st l gap) e =
    front_reached finish x f (e ∙ append_after_two g s w r)
    ∙ ap (whole_of finish limit x o) (value_step finish limit o a s w r t takes (front_fits f) v st l gap)
front_reached {limit = limit} finish x (after_bracket {g = g} {w = w} {r = r} {o = o} {a = a} k f takes l gap) e =
    let inside = left_at finish limit (record { kind = k; before = g } ∷ o) (member_of k) r in
    let same : x ≡ g ++ opening k ∷ (w ++ r) = e ∙ append_assoc g (opening k ∷ w) r in
    front_reached finish x f same
    ∙ ap (whole_of finish limit x o) (bracket_step finish limit o a k g w r takes (front_fits f) l gap)
    ∙ ap (λ q. whole_of finish limit x o (rest_then finish limit o (placed q inside)))
    (sym (ap (drop (length g)) same ∙ drop_at g (opening k ∷ (w ++ r)) (length g) refl))
front_reached {limit = limit} finish x (after_comma {g = g} {w = w} {r = r} {b = b} {o = o} f gap) e =
    front_reached finish x f (e ∙ append_assoc g (44 ∷ w) r)
    ∙ ap (whole_of finish limit x (b ∷ o)) (comma_step finish limit b o w r gap)
front_reached {limit = limit} finish x (after_key {g = g} {k = k} {w = w} {r = r} {u = u} {o = o} {escape_free = escape_free} f is gap) e =
    front_reached finish x f (e ∙ append_after_two g k w r)
    ∙ ap (whole_of finish limit x o) (by_object o (front_fits f))
  where
    by_object : (o : List Bracket) → Fits o key → left_at finish limit o key (k ++ (w ++ r)) ≡ left_at finish limit o colon r
    by_object [] h = absurd h
    by_object (b ∷ o) h = key_step finish limit b o k w r u escape_free h is gap
front_reached {limit = limit} finish x (after_colon {g = g} {w = w} {r = r} {o = o} f gap) e =
    front_reached finish x f (e ∙ append_assoc g (58 ∷ w) r)
    ∙ ap (whole_of finish limit x o) (colon_step finish limit o w r gap)
