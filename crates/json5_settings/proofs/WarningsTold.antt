-- How what is likely a slip is found.
use Rattle.std.proofs.Common.{◌≡◌, ◌⊎◌, ◌∙◌, ℕ, suc, ◌+◌, ◌-◌, ◌≤◌, Bool, true, false, List, [], ◌∷◌, ◌++◌, length, refl, ap, sym, subst, inl, inr, arith, append_assoc, append-nil, Option, Some, None, IsUtf8}
use Rattle.std.specs.Prelude.{map, slice_range, ◌==◌}
use Rattle.std.specs.BTreeSet.{BTreeSet, IsEmpty}
use Rattle.std.specs.Str.{chars, all_scalars, encode_utf8_all}
use Rattle.std.proofs.lemmas.List.{map-append}
use Rattle.std.proofs.lemmas.List.Elements.{All-append, All-cons}
use Rattle.std.proofs.lemmas.Str.{chars-encodes, scalars-chars}
use Rattle.json5_grammar.specs.Language.Characters.{NotBegun}
use Rattle.json5_grammar.specs.Language.Documents.{Doc, max_depth}
use Rattle.json5_grammar.specs.Language.Trees.{Tree, null, boolean, number, text, array, object, Trees, Members, no_more, more, no_member, member, depth, depths, member_depths}
use Rattle.json5_grammar.specs.Language.Values.{Val}
use Rattle.json5_grammar.specs.Model.Collections.{snoc, snoc_member}
use Rattle.json5_tokens.specs.Outcome.{bytes_in}
use Rattle.json5_types.specs.Cows.{cow_bytes}
use Rattle.json5_types.specs.declared.cow_str.CowStr.{CowStr}
use Rattle.json5_read.specs.declared.brackets.BracketKind.{BracketKind as Kind}
use Rattle.json5_read.specs.declared.brackets.BracketKind.TheVariants as kind
use Rattle.json5_walk.specs.declared.entry.EntryKey.{EntryKey}
use Rattle.json5_walk.specs.Entries.{BeginsEntry, TookName}
use Rattle.json5_walk.specs.Frames.{Frame, in_array, in_object, At, at_value, at_element, at_key, at_comma, value_frames}
use Rattle.json5_walk.specs.Moves.{Stays, stays, Opens, EndsEntries, TakesEntryKey, no_key, key}
use Rattle.json5_walk.specs.Nexts.{takes_value}
use Rattle.json5_walk.specs.Walks.{Walked, at_start, Front, Trail, IsAt, Moved, PassesValue, NotOpened, TookKey, Ends, offset_in, room_of}
use Rattle.json5_walk.proofs.Calls.{starts_at, bytes_before}
use Rattle.json5_walk.proofs.Entries.{there, front_moves}
use Rattle.json5_edit.specs.Entries.{kind_of, members, read_in, around}
use Rattle.json5_edit.specs.Seeks.{opened}
use Rattle.json5_edit.proofs.EntriesPassed.{members_snoc}
use Rattle.json5_edit.proofs.Fronts.{value_taken, opened_at, still_read, Fronted, element, member as member_due, fronted, ended_at}
use Rattle.json5_edit.proofs.Placed.{same_tree, scalars_left, scalars_right, slice_there}
use Rattle.json5_edit.proofs.Seeks.{array_begins, object_begins}
use Rattle.json5_settings.proofs.KeysSeen.{has_none}
use Rattle.json5_settings.specs.Slips.{HasSlip}
use Rattle.json5_settings.specs.Warnings.{AreWarnings, HasSlipAt, IsRepeated, IsSpelledSo, IsThere, IsWarning, HasKeys, Looks, LooksAt, LooksInto, NotesKey, Tells, is_among, is_repeat, names, one_if, repeats, repeats_after, repeats_in, repeats_told, told_if}
use Rattle.json5_settings.specs.declared.slips.Slip.{Slip}
use Rattle.json5_settings.specs.declared.slips.Slip.TheVariants as slip
use Rattle.json5_settings.specs.declared.warned.Warning.{Warning}

-- ---- how many are told

told_then : (xs ys : List Warning) → repeats_told (xs ++ ys) ≡ repeats_told xs + repeats_told ys
told_then [] ys = omega arith
told_then (x ∷ xs) ys = let e = told_then xs ys in omega (arith, e)

pub tells_none : {limit : ℕ} {x : List ℕ} (found after : List Warning) → after ≡ found → Tells limit x 0 found after
tells_none found after e = record { told = []; grown = e ∙ sym (append-nil found); each = λ i d inside. absurd (omega (arith, inside)); all = refl }

pub tells_one : {limit : ℕ} {x : List ℕ} (found after : List Warning) (w : Warning) → after ≡ found ++ w ∷ [] → IsWarning limit x w → Tells limit x (one_if (is_repeat w.slip)) found after
tells_one {limit = limit} {x = x} found after w e is = record {
  told = w ∷ [];
  grown = e;
  each = All-cons (IsWarning limit x) w [] is (λ i d inside. absurd (omega (arith, inside)));
  all = omega arith;
}

pub tells_then : {limit n k : ℕ} {x : List ℕ} {a b c : List Warning} → Tells limit x n a b → Tells limit x k b c → Tells limit x (n + k) a c
tells_then {limit = limit} {x = x} {a = a} p q = record {
  told = p.told ++ q.told;
  grown = q.grown ∙ ap (λ z. z ++ q.told) p.grown ∙ append_assoc a p.told q.told;
  each = All-append (IsWarning limit x) p.told q.told p.each q.each;
  all = let e = told_then p.told q.told in let f = p.all in let g = q.all in omega (arith, e, f, g);
}

tells_as : {limit n : ℕ} {x : List ℕ} {a b : List Warning} (k : ℕ) → k ≡ n → Tells limit x n a b → Tells limit x k a b
tells_as {limit = limit} {x = x} {a = a} {b = b} k e t = subst (λ z. Tells limit x z a b) (sym e) t

-- ---- how many there are

repeats_snoc : (ts : Trees) (t : Tree) → repeats_in (snoc ts t) ≡ repeats_in ts + repeats t
repeats_snoc no_more t = omega arith
repeats_snoc (more s ts) t = let e = repeats_snoc ts t in omega (arith, e)

names_snoc : (ps : Members) (u : List ℕ) (b : Bool) (t : Tree) → names (snoc_member ps u b t) ≡ names ps ++ encode_utf8_all u ∷ []
names_snoc ps u b t = ap (map (λ (e : List ℕ × Tree). e.0)) (members_snoc ps u b t) ∙ map-append (λ (e : List ℕ × Tree). e.0) (members ps) ((encode_utf8_all u, t) ∷ [])

repeats_after_snoc : (known : List (List ℕ)) (ps : Members) (u : List ℕ) (b : Bool) (t : Tree) → repeats_after known (snoc_member ps u b t) ≡ repeats_after known ps + (one_if (is_among (encode_utf8_all u) (known ++ names ps)) + repeats t)
repeats_after_snoc known no_member u b t =
    let e : one_if (is_among (encode_utf8_all u) (known ++ [])) ≡ one_if (is_among (encode_utf8_all u) known) = ap (λ z. one_if (is_among (encode_utf8_all u) z)) (append-nil known) in
    omega (arith, e)
repeats_after_snoc known (member v c s ps) u b t =
    let e = repeats_after_snoc (known ++ encode_utf8_all v ∷ []) ps u b t in
    let f : one_if (is_among (encode_utf8_all u) ((known ++ encode_utf8_all v ∷ []) ++ names ps)) ≡ one_if (is_among (encode_utf8_all u) (known ++ encode_utf8_all v ∷ names ps)) =
    ap (λ z. one_if (is_among (encode_utf8_all u) z)) (append_assoc known (encode_utf8_all v ∷ []) (names ps)) in
    omega (arith, e, f)

-- ---- values without brackets

not_here : (c : ℕ) (v : Walked) (s y m : List ℕ) (n : ℕ) → (takes_value v.next ≡ false) ⊎ ((v.limit ≤ length v.kinds) ⊎ NotBegun (λ d. d == c) v.unread) → true ≡ takes_value v.next → v.unread ≡ s ++ y → s ≡ c ∷ m → suc n ≤ room_of v → (c == c) ≡ true → ⊥
not_here c w s y m z (inl f) v e is r k = let h : true ≡ false = v ∙ f in absurd (cc)
not_here c w s y m z (inr (inl l)) v e is r k = absurd (omega (arith, l, r))
not_here c w s y m z (inr (inr n)) v e is r k =
    let begun : NotBegun (λ d. d == c) (c ∷ (m ++ y)) = subst (NotBegun (λ d. d == c)) (e ∙ ap (λ q. q ++ y) is) n in
    let h : true ≡ false = sym k ∙ begun in absurd (cc)

no_repeats : (v : Walked) (t : Tree) (s y : List ℕ) → NotOpened kind.Object v → NotOpened kind.Array v → true ≡ takes_value v.next → v.unread ≡ s ++ y → Val s t → depth t ≤ room_of v → repeats t ≡ 0
no_repeats v null s y n m d e p r = refl
no_repeats v (boolean b) s y n m d e p r = refl
no_repeats v (number q) s y n m d e p r = refl
no_repeats v (text u b) s y n m d e p r = refl
no_repeats v (array ts) s y n m d e p r = let (k, is) = array_begins p in absurd (not_here 91 v s y k (depths ts) m d e is r refl)
no_repeats v (object ps) s y n m d e p r = let (k, is) = object_begins p in absurd (not_here 123 v s y k (member_depths ps) n d e is r refl)

-- ---- a value

pub opened_looks : {k : Kind} {v0 v1 v2 : Walked} {found after : List Warning} → Moved (Opens k) v0 v1 → LooksInto k v1 v2 found after → Looks v0 v2 found after
opened_looks {v0 = v0} {v1 = v1} {found = found} {after = after} p q = record {
  text = q.text ∙ p.text;
  limit = q.limit ∙ p.limit;
  leads = λ s f.
      let (a, opens, g) = p.leads s f in
      let (t, h, tells) = q.leads (value_frames s.now) s.marked (there (opened_at opens) g) in
      (t, h, subst (λ z. Tells v0.limit z (repeats t) found after) p.text (subst (λ n. Tells n v1.text (repeats t) found after) p.limit tells));
}

-- where another bracket wasn't there
pub opened_later : {k : Kind} {v0 v1 v2 v3 : Walked} {found after : List Warning} → v1 ≡ v0 → Moved (Opens k) v1 v2 → LooksInto k v2 v3 found after → Looks v0 v3 found after
opened_later {v3 = v3} {found = found} {after = after} e p q = subst (λ v. Looks v v3 found after) e (opened_looks p q)

pub scalar_looks : {v0 v1 v2 v3 : Walked} {found after : List Warning} → NotOpened kind.Object v0 → v1 ≡ v0 → NotOpened kind.Array v1 → v2 ≡ v1 → LooksAt v2 v3 found after → Looks v0 v3 found after
scalar_looks {v0 = v0} {v3 = v3} {found = found} {after = after} n e m f q =
    let at = subst (λ v. NotOpened kind.Array v) e m in
    let k : LooksAt v0 v3 found after = subst (λ v. LooksAt v v3 found after) (f ∙ e) q in
    record {
      text = k.passed.text;
      limit = k.passed.limit;
      leads = λ s g.
          let (a, is, h) = k.passed.leads s g in
          let (t, x, to, d, split, val, small) = value_taken is in
          (t, there to h, tells_as (repeats t) (no_repeats v0 t x v3.unread n at (d ∙ ap takes_value g.is_next) split val small) (k.tells s g));
    }

-- ---- entries

abbrev pub keys_in : Tree → List (List ℕ)
keys_in (object ps) = names ps
keys_in null = []
keys_in (boolean b) = []
keys_in (number n) = []
keys_in (text u b) = []
keys_in (array ts) = []

-- what is open was passed so far, and all in it is told
pub record Looked (k : Kind) (first now : Walked) (found after : List Warning) (seen : BTreeSet CowStr) : Type 0 where
  pub text : now.text ≡ first.text
  pub limit : now.limit ≡ first.limit
  pub leads : (o : List Frame) (m : Option (List Frame)) → IsAt first (record { now = opened k o; marked = m }) → (a : At) × IsAt now (record { now = a; marked = m }) × (around a ≡ o) × (kind_of (read_in a) ≡ Some k) × HasKeys seen (keys_in (read_in a)) × Tells first.limit first.text (repeats (read_in a)) found after

pub looked_none : (k : Kind) (v : Walked) (found : List Warning) (s : BTreeSet CowStr) → IsEmpty s → Looked k v v found found s
looked_none kind.Array v found s none = record { text = refl; limit = refl; leads = λ o m f. (at_element no_more o, f, refl, refl, has_none s none, tells_none found found refl) }
looked_none kind.Object v found s none = record { text = refl; limit = refl; leads = λ o m f. (at_key no_member o, f, refl, refl, has_none s none, tells_none found found refl) }

pub looked_all : {k : Kind} {first now new : Walked} {found after : List Warning} {seen : BTreeSet CowStr} → Looked k first now found after seen → Moved EndsEntries now new → LooksInto k first new found after
looked_all p q = record {
  text = q.text ∙ p.text;
  limit = q.limit ∙ p.limit;
  leads = λ o m f.
      let (a, g, frames, k, keys, tells) = p.leads o m f in
      let (b, is, h) = q.leads (record { now = a; marked = m }) g in
      (read_in a, there (ended_at is ∙ ap (at_comma (read_in a)) frames) h, tells);
}

-- the key that stands there
key_stands : {first : Walked} (named : Walked) {a b : At} {m : Option (List Frame)} (k : EntryKey) → IsAt first (record { now = a; marked = m }) → TakesEntryKey (cow_bytes k.text) a b → kind_of (read_in a) ≡ Some kind.Object → TookName first.next k.text first named → k.start ≡ offset_in first
    → is_among (cow_bytes k.text) (keys_in (read_in a)) ≡ true → IsRepeated first.limit first.text k.start
key_stands named k f (no_key ts o e) is took at among = absurd (cc)
key_stands {first = first} named k f (key ps u b o e) is took at among =
    let t : TookKey k.text first named = subst (λ n. TookName n k.text first named) (sym f.is_next) took in (
      ps,
      o,
      t.spelled,
      named.unread,
      t.text_of,
      t.escape_free,
      record {
        front = f.front;
        split = f.split ∙ ap (λ z. f.front ++ z) t.split;
        starts = at ∙ bytes_before first.text f.front first.unread f.is_text f.split;
        goes = subst (λ z. Front first.limit z f.front (at_key ps o)) t.split f.goes;
      },
      t.is_key,
      ap (λ z. is_among z (names ps)) (sym t.is_text.1) ∙ among,
    )

key_warned : {now mid : Walked} {a : At} {m : Option (List Frame)} (k : EntryKey) → BeginsEntry now mid k → IsAt now (record { now = a; marked = m }) → kind_of (read_in a) ≡ Some kind.Object
    → is_among (cow_bytes k.text) (keys_in (read_in a)) ≡ true → IsRepeated now.limit now.text k.start
key_warned {now = now} {a = a} {m = m} k entry g is among =
    let (a1, parted, f) = entry.parted.leads (record { now = a; marked = m }) g in
    let (a2, keyed, h) = entry.keyed.name.leads (record { now = a1; marked = m }) f in
    let (same, frames) = still_read parted in
    let stands = key_stands entry.keyed.named k f keyed (ap kind_of same ∙ is) entry.keyed.spelled entry.keyed.start (ap (is_among (cow_bytes k.text)) (ap keys_in same) ∙ among) in
    subst (λ z. IsRepeated now.limit z k.start) entry.parted.text (subst (λ n. IsRepeated n entry.first.text k.start) entry.parted.limit stands)

told_key : {limit : ℕ} {x : List ℕ} (among : Bool) (start : ℕ) (found noted : List Warning) → noted ≡ found ++ told_if among start → (among ≡ true → IsRepeated limit x start) → Tells limit x (one_if among) found noted
told_key true start found noted e is = tells_one found noted (record { offset = start; slip = slip.RepeatedKey }) e (is refl)
told_key false start found noted e is = tells_none found noted (e ∙ append-nil found)

-- the value of an entry was passed
value_looked : {k : Kind} {t : Tree} {o : List Frame} {b : At} {m : Option (List Frame)} (first : Walked) {mid new : Walked} {start found noted after : List Warning} (seen now : BTreeSet CowStr) (e : EntryKey)
    → Fronted (cow_bytes e.text) t o b → kind_of t ≡ Some k → HasKeys seen (keys_in t) → IsAt mid (record { now = b; marked = m }) → NotesKey k e seen now found noted → (is_among (cow_bytes e.text) (keys_in t) ≡ true → kind_of t ≡ Some kind.Object → IsRepeated first.limit first.text e.start)
    → mid.text ≡ first.text → mid.limit ≡ first.limit → Looks mid new noted after → Tells first.limit first.text (repeats t) start found
    → (a : At) × IsAt new (record { now = a; marked = m }) × (around a ≡ o) × (kind_of (read_in a) ≡ Some k) × HasKeys now (keys_in (read_in a)) × Tells first.limit first.text (repeats (read_in a)) start after
value_looked {k = kind.Array} {m = m} first {mid = mid} {noted = noted} {after = after} seen now e (element ts o none) is keys h (same, quiet) stands x l q tells =
    let (t, j, others) = q.leads (record { now = at_element ts o; marked = m }) h in
    let here = subst (λ z. Tells first.limit z (repeats t) noted after) x (subst (λ n. Tells n mid.text (repeats t) noted after) l others) in
    (at_comma t (in_array ts ∷ o), j, refl, refl, subst (λ s. HasKeys s []) (sym same) keys, tells_as _ (repeats_snoc ts t) (tells_then tells (subst (λ z. Tells first.limit first.text (repeats t) z after) quiet here)))
value_looked {k = kind.Object} {m = m} first {mid = mid} {found = found} {noted = noted} {after = after} seen now e (member_due ps u b o is_key) is keys h notes stands x l q tells =
    let (grown, told) = notes (names ps) keys in
    let (t, j, others) = q.leads (record { now = at_value (in_object ps u b ∷ o); marked = m }) h in
    let here = subst (λ z. Tells first.limit z (repeats t) noted after) x (subst (λ n. Tells n mid.text (repeats t) noted after) l others) in
    let among = is_among (cow_bytes e.text) (names ps) in
    let key = told_key among e.start found noted told (λ r. stands r refl) in
    let same : one_if (is_among (encode_utf8_all u) (names ps)) ≡ one_if among = ap (λ z. one_if (is_among z (names ps))) (sym is_key) in
    let count : repeats (object (snoc_member ps u b t)) ≡ repeats (object ps) + (one_if among + repeats t) = repeats_after_snoc [] ps u b t ∙ ap (λ n. repeats (object ps) + (n + repeats t)) same in
    let seen_all : HasKeys now (names (snoc_member ps u b t)) = subst (HasKeys now) (ap (λ z. names ps ++ z ∷ []) is_key ∙ sym (names_snoc ps u b t)) grown in
    (at_comma t (in_object ps u b ∷ o), j, refl, refl, seen_all, tells_as _ count (tells_then tells (tells_then key here)))
value_looked {k = kind.Object} first seen now e (element ts o none) is keys h notes stands x l q tells = absurd (cc)
value_looked {k = kind.Array} first seen now e (member_due ps u b o is_key) is keys h notes stands x l q tells = absurd (cc)

pub looked_more : {k : Kind} {first now mid new : Walked} {start found noted after : List Warning} (seen saw : BTreeSet CowStr) (e : EntryKey) → Looked k first now start found seen → BeginsEntry now mid e → NotesKey k e seen saw found noted → Looks mid new noted after → Looked k first new start after saw
looked_more {first = first} {now = now} {mid = mid} seen saw e p entry notes q =
    let front = front_moves entry in
    record {
      text = q.text ∙ front.text ∙ p.text;
      limit = q.limit ∙ front.limit ∙ p.limit;
      leads = λ o m f.
          let (a, g, frames, k, keys, tells) = p.leads o m f in
          let (b, is, h) = front.leads (record { now = a; marked = m }) g in
          let due : Fronted (cow_bytes e.text) (read_in a) o b = subst (λ z. Fronted (cow_bytes e.text) (read_in a) z b) frames (fronted is) in
          let stands : is_among (cow_bytes e.text) (keys_in (read_in a)) ≡ true → kind_of (read_in a) ≡ Some kind.Object → IsRepeated first.limit first.text e.start =
          λ r object. subst (λ z. IsRepeated first.limit z e.start) p.text (subst (λ n. IsRepeated n now.text e.start) p.limit (key_warned e entry g object r)) in
          value_looked first seen saw e due k keys h notes stands (front.text ∙ p.text) (front.limit ∙ p.limit) q tells;
    }

-- ---- a spelling

slip_there : (s : Slip) (limit : ℕ) (x : List ℕ) (offset : ℕ) (bytes : List ℕ) → HasSlip bytes s → IsSpelledSo s limit x offset → HasSlipAt s limit x offset
slip_there slip.RepeatedKey limit x offset bytes h is = absurd h
slip_there slip.IdleEscape limit x offset bytes h is = is
slip_there slip.DrivePath limit x offset bytes h is = is

not_repeat : (s : Slip) (bytes : List ℕ) → HasSlip bytes s → one_if (is_repeat s) ≡ 0
not_repeat slip.RepeatedKey bytes h = absurd h
not_repeat slip.IdleEscape bytes h = refl
not_repeat slip.DrivePath bytes h = refl

pub slip_told : {old new : Walked} (bytes value : List ℕ) (start end : ℕ) (s : Slip) (found after : List Warning) → Moved (PassesValue old new) old new → bytes ≡ old.text → start ≡ length old.text - bytes_in old.unread → end ≡ length new.text - bytes_in new.unread → value ≡ slice_range bytes start end
    → HasSlip value s → after ≡ found ++ record { offset = start; slip = s } ∷ [] → LooksAt old new found after
slip_told {old = old} {new = new} bytes value start end s found after p is at e v has grown = record {
  passed = p;
  tells = λ trail f.
      let (a, taken, g) = p.leads trail f in
      let (t, x, to, d, split, val, small) = value_taken taken in
      let whole : chars old.text ≡ f.front ++ (x ++ new.unread) = f.split ∙ ap (λ z. f.front ++ z) split in
      let from : start ≡ bytes_in f.front = at ∙ bytes_before old.text f.front old.unread f.is_text f.split in
      let till : end ≡ bytes_in (f.front ++ x) =
      e ∙ ap (λ z. length z - bytes_in new.unread) p.text
      ∙ bytes_before old.text (f.front ++ x) new.unread f.is_text (whole ∙ sym (append_assoc f.front x new.unread)) in
      let cut : value ≡ encode_utf8_all x =
      v ∙ ap (λ z. slice_range z start end) is ∙ ap (λ n. slice_range old.text n end) from ∙ ap (slice_range old.text (bytes_in f.front)) till
      ∙ slice_there old.text f.front x new.unread f.is_text whole in
      let scalars : all_scalars x ≡ true = scalars_left x new.unread (scalars_right f.front (x ++ new.unread) (ap all_scalars (sym whole) ∙ scalars-chars old.text f.is_text)) in
      let spelled : chars value ≡ x = ap chars cut ∙ chars-encodes x scalars in
      let stands : IsThere old.limit old.text start trail.now (chars value ++ new.unread) = record {
        front = f.front;
        split = whole ∙ ap (λ z. f.front ++ (z ++ new.unread)) (sym spelled);
        starts = from;
        goes = subst (λ z. Front old.limit z f.front trail.now) (split ∙ ap (λ z. z ++ new.unread) (sym spelled)) f.goes;
      } in
      let warned = slip_there s old.limit old.text start value has (trail.now, value, new.unread, t, stands, d, subst (λ z. Val z t) (sym spelled) val, has) in
      tells_as 0 (sym (not_repeat s value has)) (tells_one found after (record { offset = start; slip = s }) grown warned);
}

pub none_told : {old new : Walked} (found after : List Warning) → Moved (PassesValue old new) old new → after ≡ found → LooksAt old new found after
none_told found after p e = record { passed = p; tells = λ s f. tells_none found after e }

-- ---- the document

at_first : {a : At} {v : Walked} → Stays (at_value []) a → IsAt v (record { now = a; marked = None }) → IsAt v (record { now = at_value []; marked = None })
at_first (stays a) f = f

pub all_warned : {v0 v1 v2 : Walked} (bytes : List ℕ) (limit : ℕ) (none found : List Warning) → IsUtf8 bytes → limit ≡ max_depth → v0 ≡ at_start bytes limit → Moved Stays v0 v1 → none ≡ [] → Looks v1 v2 none found → ((s : Trail) → IsAt v2 s → Ends v2 s) → AreWarnings bytes found
all_warned {v0 = v0} {v1 = v1} {v2 = v2} bytes limit none found u l start gap empty look ends =
    let f : IsAt v0 (record { now = at_value []; marked = None }) = subst (λ v. IsAt v (record { now = at_value []; marked = None })) (sym start) (starts_at u) in
    let (a, still, g) = gap.leads (record { now = at_value []; marked = None }) f in
    let (t, h, tells) = look.leads (record { now = at_value []; marked = None }) (at_first still g) in
    let e = ends (record { now = at_comma t []; marked = None }) h in
    let is_text : v1.text ≡ bytes = gap.text ∙ ap (λ (v : Walked). v.text) start in
    let is_limit : v1.limit ≡ max_depth = gap.limit ∙ ap (λ (v : Walked). v.limit) start ∙ l in
    let here : Tells max_depth bytes (repeats t) [] found = subst (λ z. Tells max_depth bytes (repeats t) z found) empty (subst (λ z. Tells max_depth z (repeats t) none found) is_text (subst (λ n. Tells n v1.text (repeats t) none found) is_limit tells)) in
    let document : Doc max_depth (chars bytes) e.tree = subst (λ z. Doc max_depth (chars z) e.tree) (look.text ∙ is_text) (subst (λ n. Doc n (chars v2.text) e.tree) (look.limit ∙ is_limit) e.document) in
    (t, subst (Doc max_depth (chars bytes)) (sym (same_tree e.walked)) document, here)
