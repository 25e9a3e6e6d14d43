-- The entries of a collection that a survey passes.
use Rattle.std.proofs.Common.{◌≡◌, ℕ, zero, suc, ◌+◌, ◌≤◌, ◌<◌, ◌-◌, Bool, true, false, List, [], ◌∷◌, ◌++◌, length, refl, ap, sym, ◌∙◌, append_assoc, subst, inl, inr, ◌⊎◌, Option, Some, None, nat_eq, arith}
use Rattle.std.specs.Option.{is_some}
use Rattle.std.specs.Prelude.{◌≢◌, ◌==◌, MatchOption}
use Rattle.std.specs.Cmp.Lexicographic.{pointwise, bytes_decides}
use Rattle.std.specs.Str.{chars, IsUtf8}
use Rattle.std.proofs.lemmas.Bool.{eqb-false, eqb-true}
use Rattle.std.proofs.lemmas.List.{append_cancel_right, length-append}
use Rattle.std.proofs.lemmas.Str.{length-le-encodes}
use Rattle.json5_grammar.specs.Language.Blanks.{Solid}
use Rattle.json5_grammar.specs.Language.Characters.{NotBegun}
use Rattle.json5_grammar.specs.Language.Trees.{Tree, null, boolean, number, text, array, object, Trees, Members, no_more, more, no_member, member, depth}
use Rattle.json5_grammar.specs.Language.Values.{Val}
use Rattle.json5_grammar.proofs.ArraysRead.{array_front}
use Rattle.json5_grammar.proofs.ArraysPartlyRead.{sign_shorter}
use Rattle.json5_grammar.proofs.ObjectsRead.{object_front}
use Rattle.json5_grammar.proofs.OneTree.{one_tree}
use Rattle.json5_grammar.proofs.ValueHeads.{val_head}
use Rattle.json5_types.specs.declared.error.Error.{Error}
use Rattle.json5_types.specs.Errors.{LacksMemory}
use Rattle.json5_read.specs.declared.brackets.BracketKind.{BracketKind as Kind}
use Rattle.json5_read.specs.declared.brackets.BracketKind.TheVariants as kind
use Rattle.json5_read.specs.Brackets.{brackets_of}
use Rattle.json5_types.specs.Cows.{cow_bytes}
use Rattle.json5_walk.specs.declared.entry.EntryKey.{EntryKey}
use Rattle.json5_walk.specs.Nexts.{takes_value}
use Rattle.json5_walk.specs.Seams.{WholeTokens, is_unended}
use Rattle.json5_walk.specs.Entries.{is_inside, AwaitsEntry, BeginsEntry}
use Rattle.json5_walk.specs.Frames.{Frame, in_object, value_end, Spells, At, at_value, at_element, at_comma, value_frames}
use Rattle.json5_walk.specs.Moves.{Opens, opens_array, opens_object, TakesEntryKey, no_key, key as member_key, EndsEntries}
use Rattle.json5_walk.specs.Walks.{Walked, at_start, IsAt, Moved, PassesValue, NotOpened, IsDocumentWithin, IsHopeless, NeedsMemory, offset_in, AwaitsValue}
use Rattle.json5_walk.proofs.Calls.{starts_at, utf8_len}
use Rattle.json5_walk.proofs.Entries.{there, front_moves}
use Rattle.json5_edit.specs.Comparing.{GoesTo, step_kind, step_key}
use Rattle.json5_edit.specs.Entries.{elements, members, entries, kind_of, empty_of, read_in, around}
use Rattle.json5_edit.specs.Parts.{count, count_members}
use Rattle.json5_edit.specs.Places.{IsValue}
use Rattle.json5_edit.specs.Refusals.{BeginsNo}
use Rattle.json5_edit.specs.Seeks.{is_sought}
use Rattle.json5_edit.specs.Spots.{Spot, awaits_comma, Inside, latest, Misses, EndsWithValue, LastEnds, IsFound, Surveys}
use Rattle.json5_edit.specs.declared.paths.Step.{Step}
use Rattle.json5_edit.specs.declared.paths.Step.TheVariants as step
use Rattle.json5_edit.specs.declared.survey.Found.{Found}
use Rattle.json5_edit.specs.declared.survey.Survey.{Survey}
use Rattle.json5_edit.proofs.Compared.{alone, lacks_key_more}
use Rattle.json5_edit.proofs.EntriesPassed.{elements_snoc, members_snoc, opened_in}
use Rattle.json5_edit.proofs.Fronts.{value_taken, still_read, Fronted, element, member, fronted, ended_at}
use Rattle.json5_edit.proofs.Refused.{begins_with}
use Rattle.json5_edit.proofs.Spared.{fewer, fewer_members}
use Rattle.json5_tokens.specs.Outcome.{bytes_in}
use Rattle.json5_edit.proofs.Spotted.{spells_value, value_document, spot, entries_joined, joined_kind}

-- ---- the first bracket

opened_awaits : (k : Kind) {b : At} → Opens k (at_value []) b → awaits_comma b ≡ false
opened_awaits kind.Array (opens_array a v) = refl
opened_awaits kind.Object (opens_object a v) = refl

pub opens_inside : {v0 v1 : Walked} (bytes : List ℕ) (limit : ℕ) (k : Kind) → IsUtf8 bytes → v0 ≡ at_start bytes limit → Moved (Opens k) v0 v1 → Inside limit bytes (empty_of k) false v1
opens_inside {v0 = v0} {v1 = v1} bytes limit k u start p =
    let f : IsAt v0 (record { now = at_value []; marked = None }) = subst (λ v. IsAt v (record { now = at_value []; marked = None })) (sym start) (starts_at u) in
    let (b, is, g) = p.leads (record { now = at_value []; marked = None }) f in
    let (i, r, o) = opened_in k is in
    record {
      same_text = p.text ∙ ap (λ (v : Walked). v.text) start;
      same_limit = p.limit ∙ ap (λ (v : Walked). v.limit) start;
      now = b;
      marked = None;
      is_at = g;
      inside = i;
      read = r;
      outermost = o;
      is_due = opened_awaits k is;
    }

-- ---- no bracket of the kind

deep : (k : Kind) (t : Tree) → kind_of t ≡ Some k → 1 ≤ depth t
deep k (array ts) e = omega arith
deep k (object ps) e = omega arith
deep k null e = absurd (cc)
deep k (boolean b) e = absurd (cc)
deep k (number n) e = absurd (cc)
deep k (text u b) e = absurd (cc)

no_bracket : (k : Kind) (v : Walked) (bytes : List ℕ) (limit : ℕ) → v ≡ at_start bytes limit → IsValue limit (chars bytes) → (takes_value v.next ≡ false) ⊎ ((v.limit ≤ length v.kinds) ⊎ NotBegun (λ c. c == (brackets_of k).opening) v.unread) → BeginsNo k (chars bytes)
no_bracket k v bytes limit start value (inl e) = let h : true ≡ false = ap (λ (z : Walked). takes_value z.next) (sym start) ∙ e in absurd (cc)
no_bracket k v bytes limit start (w, val, d) (inr (inl l)) = λ t is e.
    let size : limit ≤ 0 = subst (λ (z : Walked). z.limit ≤ length z.kinds) start l in
    let same : t ≡ w = one_tree (depth t) (depth w) (chars bytes) t w (alone (chars bytes) t is) (alone (chars bytes) w val) in
    let n = deep k t e in
    let m : depth t ≡ depth w = ap depth same in
    omega (arith, n, m, d, size)
no_bracket k v bytes limit start value (inr (inr n)) = λ t is e.
    let (m, begins) = begins_with k (chars bytes) t is e in
    let h : NotBegun (λ c. c == (brackets_of k).opening) ((brackets_of k).opening ∷ m) = subst (NotBegun (λ c. c == (brackets_of k).opening)) (ap (λ (z : Walked). z.unread) start ∙ begins) n in
    no_other k m h
  where
    no_other : (k : Kind) (m : List ℕ) → NotBegun (λ c. c == (brackets_of k).opening) ((brackets_of k).opening ∷ m) → ⊥
    no_other kind.Array m h = let same : false ≡ true = sym h in cc
    no_other kind.Object m h = let same : false ≡ true = sym h in cc

pub not_opened : {k : Kind} {v : Walked} {bytes : List ℕ} {limit : ℕ} → v ≡ at_start bytes limit → IsValue limit (chars bytes) → NotOpened k v → BeginsNo k (chars bytes)
not_opened {k = k} {v = v} {bytes = bytes} {limit = limit} start value n = no_bracket k v bytes limit start value n

-- ---- within the collection

pub whole : (limit : ℕ) (bytes : List ℕ) (value : IsValue limit (chars bytes)) → Spells value_end limit (chars bytes) value.0
whole limit bytes (t, v, d) = spells_value limit (chars bytes) t v d

pub is_within : {limit : ℕ} {bytes : List ℕ} (v : Walked) → IsValue limit (chars bytes) → v.text ≡ bytes → v.limit ≡ limit → IsDocumentWithin v.limit v.text
is_within {limit = limit} {bytes = bytes} v (t, val, d) same_text same_limit =
    subst (λ l. IsDocumentWithin l v.text) (sym same_limit) (subst (λ x. IsDocumentWithin limit x) (sym same_text) (t, value_document limit (chars bytes) t val d))

-- the collection that was closed is the whole
pub closes_whole : {limit : ℕ} {bytes : List ℕ} {t : Tree} {due : Bool} {v w : Walked} → Inside limit bytes t due v → Moved EndsEntries v w → (value : IsValue limit (chars bytes)) → value.0 ≡ t
closes_whole {limit = limit} {bytes = bytes} {t = t} {w = w} h p value =
    let (b, is, g) = p.leads (record { now = h.now; marked = h.marked }) h.is_at in
    let f : IsAt w (record { now = at_comma t []; marked = h.marked }) = there (ended_at is ∙ ap (at_comma (read_in h.now)) h.outermost ∙ ap (λ z. at_comma z []) h.read) g in
    let same_text : w.text ≡ bytes = p.text ∙ h.same_text in
    let same_limit : w.limit ≡ limit = p.limit ∙ h.same_limit in
    let s : Spells value_end w.limit (chars w.text) value.0 = subst (λ x. Spells value_end w.limit (chars x) value.0) (sym same_text) (subst (λ l. Spells value_end l (chars bytes) value.0) (sym same_limit) (whole limit bytes value)) in
    (f.back value_end value.0 s).1

-- ---- where a value is due

-- a value is due that goes with this key after the entries of t
pub record Before (limit : ℕ) (bytes : List ℕ) (t : Tree) (key : List ℕ) (v : Walked) : Type 0 where
  pub same_text : v.text ≡ bytes
  pub same_limit : v.limit ≡ limit
  pub now : At
  pub marked : Option (List Frame)
  pub is_at : IsAt v (record { now = now; marked = marked })
  pub ended : is_unended now ≡ false
  pub inside : (w : Tree) → is_inside (at_comma w (value_frames now)) ≡ true
  pub outermost : (w : Tree) → around (at_comma w (value_frames now)) ≡ []
  pub in_array : kind_of t ≡ Some kind.Array → key ≡ []
  pub same_kind : (w : Tree) → kind_of (read_in (at_comma w (value_frames now))) ≡ kind_of t
  pub one_more : (w : Tree) → entries (read_in (at_comma w (value_frames now))) ≡ entries t ++ ((key, w) ∷ [])

at_front : {limit : ℕ} {bytes key : List ℕ} {t : Tree} {b : At} {v : Walked} {m : Option (List Frame)} → Fronted key t [] b → v.text ≡ bytes → v.limit ≡ limit → IsAt v (record { now = b; marked = m }) → Before limit bytes t key v
at_front {key = key} {m = m} (element ts o none) same_text same_limit f = record {
  same_text = same_text;
  same_limit = same_limit;
  now = at_element ts o;
  marked = m;
  is_at = f;
  ended = refl;
  inside = λ w. refl;
  outermost = λ w. refl;
  in_array = λ k. none;
  same_kind = λ w. refl;
  one_more = λ w. elements_snoc ts w ∙ ap (λ (k : List ℕ). elements ts ++ ((k, w) ∷ [])) (sym none);
}
at_front {key = key} {m = m} (member ps u e o is) same_text same_limit f = record {
  same_text = same_text;
  same_limit = same_limit;
  now = at_value (in_object ps u e ∷ o);
  marked = m;
  is_at = f;
  ended = refl;
  inside = λ w. refl;
  outermost = λ w. refl;
  in_array = λ k. absurd (cc);
  same_kind = λ w. refl;
  one_more = λ w. members_snoc ps u e w ∙ ap (λ (k : List ℕ). members ps ++ ((k, w) ∷ [])) (sym is);
}

-- an entry was begun after those of t
pub entry_before : {limit : ℕ} {bytes : List ℕ} {t : Tree} {due : Bool} {v w : Walked} {key : EntryKey} → Inside limit bytes t due v → BeginsEntry v w key → Before limit bytes t (cow_bytes key.text) w
entry_before {key = key} h entry =
    let front = front_moves entry in
    let (b, is, g) = front.leads (record { now = h.now; marked = h.marked }) h.is_at in
    at_front (subst (λ z. Fronted (cow_bytes key.text) z [] b) h.read (subst (λ o. Fronted (cow_bytes key.text) (read_in h.now) o b) h.outermost (fronted is))) (front.text ∙ h.same_text) (front.limit ∙ h.same_limit) g

key_due : {key : List ℕ} {a b : At} → TakesEntryKey key a b → (awaits_comma a ≡ false) × (is_inside a ≡ true)
key_due (no_key ts o e) = (refl, refl)
key_due (member_key ps u e o is) = (refl, refl)

-- where its key stands
pub entry_inside : {limit : ℕ} {bytes : List ℕ} {t : Tree} {due : Bool} {v w : Walked} {key : EntryKey} → Inside limit bytes t due v → (entry : BeginsEntry v w key) → Inside limit bytes t false entry.first
entry_inside h entry =
    let (b, is, g) = entry.parted.leads (record { now = h.now; marked = h.marked }) h.is_at in
    let (c, name, i) = entry.keyed.name.leads (record { now = b; marked = h.marked }) g in
    let (due, inner) = key_due name in
    let (read, frames) = still_read is in
    record { same_text = entry.parted.text ∙ h.same_text; same_limit = entry.parted.limit ∙ h.same_limit; now = b; marked = h.marked; is_at = g; inside = inner; read = read ∙ h.read; outermost = frames ∙ h.outermost; is_due = due }

pub awaits : {limit : ℕ} {bytes : List ℕ} {t : Tree} {due : Bool} {v : Walked} → Inside limit bytes t due v → AwaitsEntry v
awaits h = record { trail = record { now = h.now; marked = h.marked }; is_at = h.is_at; inside = h.inside }

-- ---- an entry

-- so many entries were passed
pub record Passing (s : Step) (first now : Walked) (n : ℕ) (found : Option Found) (before : Option ℕ) (end : ℕ) : Type 0 where
  pub tree : Tree
  pub inside : Inside first.limit first.text tree (is_some before) now
  pub kind : kind_of tree ≡ Some (step_kind s)
  pub size : length (entries tree) ≡ n
  pub entry : MatchOption found (Misses s (entries tree)) (IsFound s first.limit first.text tree)
  pub last : MatchOption before (entries tree ≡ []) (LastEnds first.limit first.text tree)
  pub at_end : end ≡ offset_in now

pub starts_passing : (s : Step) (v : Walked) (end : ℕ) → Inside v.limit v.text (empty_of (step_kind s)) false v → end ≡ offset_in v → Passing s v v 0 None None end
starts_passing (step.Index i) v end h e = record { tree = array no_more; inside = h; kind = refl; size = refl; entry = omega arith; last = refl; at_end = e }
starts_passing (step.Key k) v end h e = record { tree = object no_member; inside = h; kind = refl; size = refl; entry = tt; last = refl; at_end = e }

-- with its key, where it has one, and whether the step goes to it
pub record Sought (s : Step) (t : Tree) (same : Bool) (key : List ℕ) : Type 0 where
  pub is_so : same ≡ true → (key ≡ step_key s) × GoesTo s (entries t) []
  pub is_other : same ≡ false → Misses s (entries t) → (w : Tree) → Misses s (entries t ++ ((key, w) ∷ []))
  pub stays : same ≡ false → (es before : List (List ℕ × Tree)) (w : Tree) → GoesTo s before es → GoesTo s before (es ++ ((key, w) ∷ []))

one_longer : (es : List (List ℕ × Tree)) (key : List ℕ) (w : Tree) → length (es ++ ((key, w) ∷ [])) ≡ length es + 1
one_longer es key w = length-append es ((key, w) ∷ [])

names_same : (name key : List ℕ) (same : Bool) → same ≡ pointwise nat_eq name key → same ≡ true → name ≡ key
names_same name key same e f = (bytes_decides name key).0 (sym e ∙ f)

names_differ : (name key : List ℕ) (same : Bool) → same ≡ pointwise nat_eq name key → same ≡ false → name ≢ key
names_differ name key same e f = λ is. let h : true ≡ false = sym ((bytes_decides name key).1 is) ∙ sym e ∙ f in absurd (cc)

-- one is left between
strictly : (n i : ℕ) → n ≤ i → (n ≡ i → ⊥) → n + 1 ≤ i
strictly zero zero l n = absurd (n refl)
strictly zero (suc i) l n = omega arith
strictly (suc k) zero l n = absurd (omega (arith, l))
strictly (suc k) (suc i) l n = let h = strictly k i (omega (arith, l)) (λ e. n (ap suc e)) in omega (arith, h)

pub sought : {s : Step} {limit : ℕ} {bytes key : List ℕ} {t : Tree} {v : Walked} (n : ℕ) (same : Bool) → Before limit bytes t key v → kind_of t ≡ Some (step_kind s) → length (entries t) ≡ n → same ≡ is_sought s n key → Sought s t same key
sought {s = step.Index i} {key = key} {t = t} n same b k size eq = record {
  is_so = λ e. (b.in_array k, size ∙ eqb-true n i (sym eq ∙ e));
  is_other = λ e few w. let other = eqb-false n i (sym eq ∙ e) in let l = one_longer (entries t) key w in at_most few other l;
  stays = λ e es before w g. g;
}
  where
    at_most : {m : ℕ} → length (entries t) ≤ i → (n ≡ i → ⊥) → m ≡ length (entries t) + 1 → m ≤ i
    at_most few other l = let h = strictly n i (omega (arith, few, size)) other in omega (arith, h, l, size)
sought {s = step.Key name} {key = key} {t = t} n same b k size eq = record {
  is_so = λ e. (names_same key name.now same eq e, tt);
  is_other = λ e lacks w. lacks_key_more name.now (entries t) key w lacks (names_differ key name.now same eq e);
  stays = λ e es before w g. lacks_key_more name.now es key w g (names_differ key name.now same eq e);
}

-- the value that was passed
pub record Valued (limit : ℕ) (bytes : List ℕ) (t : Tree) (key : List ℕ) (v : Walked) : Type 0 where
  pub value : Tree
  pub tree : Tree
  pub inside : Inside limit bytes tree true v
  pub same_kind : kind_of tree ≡ kind_of t
  pub one_more : entries tree ≡ entries t ++ ((key, value) ∷ [])
  pub ends : (front : List ℕ) → chars bytes ≡ front ++ v.unread → EndsWithValue front

pub valued : {limit : ℕ} {bytes : List ℕ} {t : Tree} {key : List ℕ} {v w : Walked} → Before limit bytes t key v → Moved (PassesValue v w) v w → Valued limit bytes t key w
valued {bytes = bytes} {v = v} {w = w} b p =
    let (a, is, g) = p.leads (record { now = b.now; marked = b.marked }) b.is_at in
    let (u, x, at, d, split, val, small) = value_taken is in
    let f : IsAt w (record { now = at_comma u (value_frames b.now); marked = b.marked }) = there at g in
    record {
      value = u;
      tree = read_in (at_comma u (value_frames b.now));
      inside = record { same_text = p.text ∙ b.same_text; same_limit = p.limit ∙ b.same_limit; now = at_comma u (value_frames b.now); marked = b.marked; is_at = f; inside = b.inside u; read = refl; outermost = b.outermost u; is_due = refl };
      same_kind = b.same_kind u;
      one_more = b.one_more u;
      ends = λ front whole.
          let h = val_head val in
          let some : v.unread ≡ [] → ⊥ = λ none. not_empty h.char (h.more ++ w.unread) (sym (split ∙ ap (λ z. z ++ w.unread) h.is) ∙ none) in
          let before = b.is_at.front in
          let same : front ++ w.unread ≡ (before ++ x) ++ w.unread = sym whole ∙ ap chars (sym b.same_text) ∙ b.is_at.split ∙ ap (λ z. before ++ z) split ∙ sym (append_assoc before x w.unread) in
          (before, x, u, append_cancel_right front (before ++ x) w.unread same, subst (λ z. WholeTokens z before) b.ended (b.is_at.passed some), val);
    }
  where
    not_empty : (c : ℕ) (r : List ℕ) → c ∷ r ≡ [] → ⊥
    not_empty c r e = cc

found_stays : {s : Step} {limit : ℕ} {bytes : List ℕ} {t w : Tree} {f : Found} (key : List ℕ) (value : Tree) → kind_of w ≡ kind_of t → entries w ≡ entries t ++ ((key, value) ∷ []) → ((es before : List (List ℕ × Tree)) (u : Tree) → GoesTo s before es → GoesTo s before (es ++ ((key, u) ∷ []))) → IsFound s limit bytes t f → IsFound s limit bytes w f
found_stays {s = s} key value k e more_there m =
    let q = m.entry in
    let one : List (List ℕ × Tree) = (key, value) ∷ [] in
    record {
      entry = record {
        before = q.before;
        gone = q.gone;
        after = q.after ++ one;
        same_kind = q.same_kind ∙ sym k;
        all = e ∙ ap (λ z. z ++ one) q.all ∙ append_assoc (entries q.before) ((step_key s, q.gone) ∷ q.after) one;
        there = more_there q.after (entries q.before) value q.there;
        spot = q.spot;
        solid = q.solid;
      };
      before = m.before;
    }

latest_entry : {s : Step} {limit : ℕ} {bytes : List ℕ} {t : Tree} {same : Bool} {key : List ℕ} {x : Walked} (b : Bool) (n : Found) (found : Option Found) → same ≡ b → MatchOption found (Misses s (entries t)) (IsFound s limit bytes t) → MatchOption n.before (entries t ≡ []) (LastEnds limit bytes t) → Sought s t same key → (p : Valued limit bytes t key x) → (here : Spot limit bytes t false n.start) → Solid here.rest → MatchOption (latest b n found) (Misses s (entries p.tree)) (IsFound s limit bytes p.tree)
latest_entry {t = t} true n found e m last q p here solid =
    let (key_is, goes) = q.is_so e in
    record {
      entry = record {
        before = t;
        gone = p.value;
        after = [];
        same_kind = sym p.same_kind;
        all = p.one_more ∙ ap (λ k. entries t ++ ((k, p.value) ∷ [])) key_is;
        there = goes;
        spot = here;
        solid = solid;
      };
      before = last;
    }
latest_entry {s = s} false n None e m last q p here solid = subst (Misses s) (sym p.one_more) (q.is_other e m p.value)
latest_entry false n (Some k) e m last q p here solid = found_stays _ p.value p.same_kind p.one_more (q.stays e) m

pub passed_one : {s : Step} {first now mid new : Walked} {n last end : ℕ} {found after : Option Found} {before : Option ℕ} (key : EntryKey) (same : Bool) → Passing s first now n found before last → BeginsEntry now mid key → IsValue first.limit (chars first.text) → same ≡ is_sought s n (cow_bytes key.text) → after ≡ latest same (record { start = key.start; before = before }) found → Moved (PassesValue mid new) mid new → end ≡ offset_in new → Passing s first new (n + 1) after (Some end) end
passed_one {s = s} {first = first} {n = n} {end = end} {found = found} {before = before} key same p entry value names is skip at_end =
    let b = entry_before p.inside entry in
    let q = sought n same b p.kind p.size names in
    let v = valued b skip in
    let all = whole first.limit first.text value in
    let (place, rest_is) = spot value.0 key.start (entry_inside p.inside entry) all entry.keyed.start in
    let (after_value, left) = spot value.0 end v.inside all at_end in
    record {
      tree = v.tree;
      inside = v.inside;
      kind = v.same_kind ∙ p.kind;
      size = ap length v.one_more ∙ one_longer (entries p.tree) (cow_bytes key.text) v.value ∙ ap (λ z. z + 1) p.size;
      entry = subst (λ z. MatchOption z (Misses s (entries v.tree)) (IsFound s first.limit first.text v.tree)) (sym is) (latest_entry same (record { start = key.start; before = before }) found refl p.entry p.last q v place (subst Solid (sym rest_is) entry.solid));
      last = record { spot = after_value; ends = v.ends after_value.front (after_value.split ∙ ap (λ z. after_value.front ++ z) left) };
      at_end = at_end;
    }

-- ---- the end

surveyed : {s : Step} {limit : ℕ} {bytes : List ℕ} (t : Tree) (found : Survey) → (value : IsValue limit (chars bytes)) → value.0 ≡ t → kind_of t ≡ Some (step_kind s) → MatchOption found.entry (Misses s (entries t)) (IsFound s limit bytes t) → Spot limit bytes t found.comma found.end → Surveys s limit bytes found
surveyed {limit = limit} {bytes = bytes} t found (w, v, d) is k e p = record {
  tree = t;
  value = subst (Val (chars bytes)) is v;
  shallow = subst (λ z. depth z ≤ limit) is d;
  kind = k;
  entry = e;
  end = p;
}

pub passing_ends : {s : Step} {first now new : Walked} {n end : ℕ} {found : Option Found} {before : Option ℕ} (comma : Bool) → comma ≡ is_some before → Passing s first now n found before end → IsValue first.limit (chars first.text) → Moved EndsEntries now new → Surveys s first.limit first.text (record { entry = found; end = end; comma = comma })
passing_ends {s = s} {first = first} {end = end} {found = found} {before = before} comma is p value closes =
    let last = surveyed p.tree (record { entry = found; end = end; comma = is_some before }) value (closes_whole p.inside closes value) p.kind p.entry (spot value.0 end p.inside (whole first.limit first.text value) p.at_end).0 in
    subst (λ c. Surveys s first.limit first.text (record { entry = found; end = end; comma = c })) (sym is) last

-- ---- refusals

pub within : {limit : ℕ} {bytes : List ℕ} {t : Tree} {due : Bool} {v : Walked} → Inside limit bytes t due v → IsValue limit (chars bytes) → IsDocumentWithin v.limit v.text
within {v = v} h value = is_within v value h.same_text h.same_limit

pub entry_spares : {s : Step} {first now : Walked} {n end : ℕ} {found : Option Found} {before : Option ℕ} {e : Error} → Passing s first now n found before end → IsValue first.limit (chars first.text) → (AwaitsEntry now → NeedsMemory now e) → LacksMemory e
entry_spares p value k = k (awaits p.inside) (within p.inside value)

pub skip_spares : {s : Step} {first now mid : Walked} {n end : ℕ} {found : Option Found} {before : Option ℕ} {key : EntryKey} {e : Error} → Passing s first now n found before end → BeginsEntry now mid key → IsValue first.limit (chars first.text) → (AwaitsValue mid → IsHopeless mid) → LacksMemory e
skip_spares {mid = mid} p entry value k =
    let b = entry_before p.inside entry in
    absurd (k (entry.keyed.awaits (entry.stands (awaits p.inside))) (is_within mid value b.same_text b.same_limit))

-- so many entries can't be passed
count_elements : (ts : Trees) → length (elements ts) ≡ count ts
count_elements no_more = refl
count_elements (more t ts) = ap suc (count_elements ts)

count_all : (ps : Members) → length (members ps) ≡ count_members ps
count_all no_member = refl
count_all (member u e t ps) = ap suc (count_all ps)

few_entries : (k : Kind) (x : List ℕ) (t : Tree) → Val x t → kind_of t ≡ Some k → length (entries t) < length x
few_entries k x (array ts) v e =
    let (s, d) = spells_value (depth (array ts)) x (array ts) v (omega arith) in
    let (y, o, tl) = array_front x [] ts s in
    let n = fewer ts y [] tl in
    let l = sign_shorter 91 x y o in
    let c = count_elements ts in
    omega (arith, n, l, c)
few_entries k x (object ps) v e =
    let (s, d) = spells_value (depth (object ps)) x (object ps) v (omega arith) in
    let (y, o, tl) = object_front x [] ps s in
    let n = fewer_members ps y [] tl in
    let l = sign_shorter 123 x y o in
    let c = count_all ps in
    omega (arith, n, l, c)
few_entries k x null v e = absurd (cc)
few_entries k x (boolean b) v e = absurd (cc)
few_entries k x (number q) v e = absurd (cc)
few_entries k x (text u b) v e = absurd (cc)

pub too_many_entries : {s : Step} {first now : Walked} {n end : ℕ} {found : Option Found} {before : Option ℕ} {e : Error} → Passing s first now n found before end → IsUtf8 first.text → (value : IsValue first.limit (chars first.text)) → length first.text ≤ n → LacksMemory e
too_many_entries {s = s} {first = first} {now = now} {n = n} p utf8 value l =
    let (place, rest_is) = spot value.0 (length now.text - bytes_in now.unread) p.inside (whole first.limit first.text value) refl in
    let (u, k, g, d, is) = place.back value.0 (whole first.limit first.text value) in
    let whole_kind = joined_kind (step_kind s) p.tree u p.kind (k ∙ p.kind) in
    let all : entries value.0 ≡ entries p.tree ++ entries u = ap entries is ∙ entries_joined (step_kind s) p.tree u p.kind (k ∙ p.kind) in
    let few = few_entries (step_kind s) (chars first.text) value.0 value.1 (ap kind_of is ∙ whole_kind) in
    let sum : length (entries value.0) ≡ length (entries p.tree) + length (entries u) = ap length all ∙ length-append (entries p.tree) (entries u) in
    let a = utf8_len first.text utf8 in
    let b = length-le-encodes (chars first.text) in
    let size = p.size in
    absurd (omega (arith, few, sum, a, b, size, l))

-- ---- in the walk's own words

pub itself : {limit : ℕ} {bytes : List ℕ} {t : Tree} {due : Bool} {v : Walked} → Inside limit bytes t due v → Inside v.limit v.text t due v
itself {limit = limit} {t = t} {due = due} {v = v} h = subst (λ l. Inside l v.text t due v) (sym h.same_limit) (subst (λ x. Inside limit x t due v) (sym h.same_text) h)

pub value_itself : {limit : ℕ} {bytes : List ℕ} {t : Tree} {due : Bool} {v : Walked} → Inside limit bytes t due v → IsValue limit (chars bytes) → IsValue v.limit (chars v.text)
value_itself {limit = limit} {v = v} h value = subst (λ l. IsValue l (chars v.text)) (sym h.same_limit) (subst (λ x. IsValue limit (chars x)) (sym h.same_text) value)

pub surveys_so : {s : Step} {limit : ℕ} {bytes : List ℕ} {t : Tree} {due : Bool} {v : Walked} {found : Survey} → Inside limit bytes t due v → Surveys s v.limit v.text found → Surveys s limit bytes found
surveys_so {s = s} {bytes = bytes} {v = v} {found = found} h p = subst (λ l. Surveys s l bytes found) h.same_limit (subst (λ x. Surveys s v.limit x found) h.same_text p)

-- where the bracket of the step's kind was taken
pub opened_step : {v0 v1 : Walked} {bytes : List ℕ} {limit : ℕ} {k : Kind} (s : Step) (room : ℕ) → k ≡ step_kind s → limit ≡ room → IsUtf8 bytes → v0 ≡ at_start bytes limit → Moved (Opens k) v0 v1 → Inside room bytes (empty_of (step_kind s)) false v1
opened_step {v1 = v1} {bytes = bytes} {limit = limit} {k = k} s room is size u start p = subst (λ z. Inside room bytes (empty_of z) false v1) is (subst (λ n. Inside n bytes (empty_of k) false v1) size (opens_inside bytes limit k u start p))

pub not_opened_step : {v : Walked} {bytes : List ℕ} {limit : ℕ} {k : Kind} (s : Step) (room : ℕ) → k ≡ step_kind s → limit ≡ room → v ≡ at_start bytes limit → IsValue room (chars bytes) → NotOpened k v → BeginsNo (step_kind s) (chars bytes)
not_opened_step {bytes = bytes} s room is size start value n = subst (λ z. BeginsNo z (chars bytes)) is (not_opened start (subst (λ n. IsValue n (chars bytes)) (sym size) value) n)
