-- One more member before another.
use denote.Ref.{Bor}
use Rattle.std.proofs.Common.{◌≡◌, ℕ, ◌≤◌, ◌-◌, false, List, [], ◌∷◌, ◌++◌, refl, ap, sym, ◌∙◌, append_assoc, subst, inl, Some, Result, Ok, Err, arith}
use Rattle.std.specs.Prelude.{String, string_bytes}
use Rattle.std.specs.declared.alloc.Global.{Global}
use Rattle.std.specs.Str.{chars, IsUtf8, encode_utf8_all}
use Rattle.json5_grammar.specs.Language.Documents.{max_depth}
use Rattle.json5_grammar.specs.Language.Trees.{Tree, object, no_member, depth}
use Rattle.json5_grammar.specs.Language.Values.{Val}
use Rattle.json5_lexemes.specs.LastTokens as last
use Rattle.json5_lexemes.specs.Plain.{KeepsPlain, Plain}
use Rattle.json5_styles.specs.Json.{JsonString}
use Rattle.json5_types.specs.Cows.{cow_bytes}
use Rattle.json5_types.specs.Errors.{LacksMemory}
use Rattle.json5_types.specs.declared.error.Error.{Error}
use Rattle.json5_read.specs.declared.brackets.BracketKind.TheVariants as kind
use Rattle.json5_walk.specs.declared.entry.EntryKey.{EntryKey}
use Rattle.json5_walk.specs.Entries.{AwaitsEntry, BeginsEntry}
use Rattle.json5_walk.specs.Moves.{EndsEntries, Opens}
use Rattle.json5_walk.specs.Walks.{Walked, at_start, AwaitsValue, IsHopeless, Moved, NeedsMemory, NotOpened, PassesValue}
use Rattle.json5_edit.specs.Changes.{GainsMember}
use Rattle.json5_edit.specs.Comparing.{ComesBetween}
use Rattle.json5_edit.specs.Entries.{entries, empty_of}
use Rattle.json5_edit.specs.Pieces.{IsNameAlone, SpellsKey}
use Rattle.json5_walk.specs.declared.place.Place.{Place}
use Rattle.json5_edit.specs.Places.{IsPart, IsValue, Leads}
use Rattle.json5_edit.specs.Refusals.{RefusesBefore, RefusesInsert, RefusesStart, RefusesStep}
use Rattle.json5_edit.specs.Spots.{Adds, AddsLast, AddsMember, Goes, HasEntry, HasMember, Inside, IsObject, PutsMember, PutsThere, SpellsEntry, spells_member, joined}
use Rattle.json5_edit.specs.declared.faults.EditError.{EditError}
use Rattle.json5_edit.specs.declared.faults.EditError.TheVariants as error
use Rattle.json5_edit.specs.declared.paths.Before.{Before}
use Rattle.json5_edit.specs.declared.paths.Before.TheVariants as before_place
use Rattle.json5_edit.specs.declared.paths.Step.{Step}
use Rattle.json5_edit.specs.declared.paths.Step.TheVariants as step
use Rattle.json5_edit_style.specs.declared.collection.Collection.{Collection}
use Rattle.json5_edit.proofs.Changed.{tree_of}
use Rattle.json5_edit.proofs.Placed.{ok_then}
use Rattle.json5_edit.proofs.PlainEntries.{member_plain, member_plain_there, stays_within}
use Rattle.json5_edit.proofs.PlainlyEdited.{ascii_comma, ascii_utf8, chars_both, comma_space, cut_there, fits_inside, goes_after_comma, grows_there, made_there, member_chars, name_alone, no_part, same_rest, utf8_both, with_first}
use Rattle.json5_edit.proofs.Refused.{nowhere_in, outer_nowhere}
use Rattle.json5_edit.proofs.Spotted.{IsOf, entries_joined, joined_kind, spells_value, spot, value_document}
use Rattle.json5_edit.proofs.Surveyed.{awaits, closes_whole, entry_before, entry_inside, is_within, not_opened, opens_inside, valued, whole, within}

-- ---- where the member begins

pub has_member : {limit n : ℕ} {bytes : List ℕ} (k : Bor (List ℕ)) → HasEntry (step.Key k) limit bytes n → HasMember (before_place.Key k) limit bytes n
has_member k h =
    let e = h.entry in
    record { tree = h.tree; value = h.value; shallow = h.shallow; kind = h.kind; before = e.before; same_kind = e.same_kind; key = k.now; next = e.gone; after = e.after; all = e.all; there = (e.gone, e.after, refl, e.there); spot = e.spot }

-- the object was opened, and its first member passed
pub first_member_there : {limit : ℕ} {bytes : List ℕ} {v v1 v2 : Walked} (key : EntryKey) → Inside limit bytes (empty_of kind.Object) false v → BeginsEntry v v1 key → (value : IsValue limit (chars bytes)) → IsOf kind.Object value.0 → Moved (PassesValue v1 v2) v1 v2 → HasMember before_place.First limit bytes key.start
first_member_there {limit = limit} {bytes = bytes} key h entry value k skip =
    let b = entry_before h entry in
    let v = valued b skip in
    let all = whole limit bytes value in
    let (place, rest_is) = spot value.0 key.start (entry_inside h entry) all entry.keyed.start in
    let (later, left) = spot value.0 _ v.inside all refl in
    let (u, same, goes, small, joins) = later.back value.0 all in
    let kt : IsOf kind.Object v.tree = v.same_kind in
    record {
      tree = value.0;
      value = value.1;
      shallow = value.2;
      kind = k;
      before = empty_of kind.Object;
      same_kind = sym k;
      key = cow_bytes key.text;
      next = v.value;
      after = entries u;
      all = ap entries joins ∙ entries_joined kind.Object v.tree u kt (same ∙ kt) ∙ ap (λ z. z ++ entries u) v.one_more;
      there = refl;
      spot = place;
    }

-- it has none
pub no_member_there : {limit : ℕ} {bytes : List ℕ} {v v1 : Walked} → Inside limit bytes (empty_of kind.Object) false v → Moved EndsEntries v v1 → IsValue limit (chars bytes) → Val (chars bytes) (object no_member)
no_member_there {bytes = bytes} h ends value = subst (Val (chars bytes)) (closes_whole h ends value) value.1

pub object_opened : {v0 v1 : Walked} {bytes : List ℕ} {limit : ℕ} (room : ℕ) → limit ≡ room → IsUtf8 bytes → v0 ≡ at_start bytes limit → Moved (Opens kind.Object) v0 v1 → Inside room bytes (empty_of kind.Object) false v1
object_opened {v1 = v1} {bytes = bytes} {limit = limit} room size u start p = subst (λ n. Inside n bytes (empty_of kind.Object) false v1) size (opens_inside bytes limit kind.Object u start p)

pub never_closed : {v : Walked} {bytes : List ℕ} {limit : ℕ} (room : ℕ) → limit ≡ room → v ≡ at_start bytes limit → IsObject room bytes → NotOpened kind.Object v → ⊥
never_closed room size start (small, t, v, d, k) n = not_opened start (t, v, subst (λ l. depth t ≤ l) (sym size) d) n t v k

abbrev pub object_value : (room : ℕ) (bytes : List ℕ) → IsObject room bytes → IsValue room (chars bytes)
object_value room bytes (small, t, v, d, k) = (t, v, d)

pub member_spares : {limit : ℕ} {bytes : List ℕ} {v : Walked} {e : Error} → Inside limit bytes (empty_of kind.Object) false v → IsValue limit (chars bytes) → (AwaitsEntry v → NeedsMemory v e) → LacksMemory e
member_spares h value k = k (awaits h) (within h value)

pub value_spares : {limit : ℕ} {bytes : List ℕ} {v mid : Walked} {key : EntryKey} {e : Error} → Inside limit bytes (empty_of kind.Object) false v → BeginsEntry v mid key → IsValue limit (chars bytes) → (AwaitsValue mid → IsHopeless mid) → LacksMemory e
value_spares {mid = mid} h entry value k =
    let b = entry_before h entry in
    absurd (k (entry.keyed.awaits (entry.stands (awaits h))) (is_within mid value b.same_text b.same_limit))

-- ---- the refusals

pub start_step : (k : Bor (List ℕ)) (old : List ℕ) (e : EditError) → RefusesStep old (step.Key k) e → RefusesStart (before_place.Key k) old e
start_step k old (error.Text x) r = absurd r
start_step k old error.Nowhere r = r
start_step k old (error.Value x) r = absurd r
start_step k old error.Taken r = absurd r
start_step k old error.NotObject r = absurd r
start_step k old error.NotArray r = absurd r
start_step k old error.NoKey r = absurd r
start_step k old error.NoMemory r = tt
start_step k old error.Failed r = absurd r

-- what `insert` refuses
pub before_refused : (b : Before) (bytes key value : List ℕ) (path : List Step) (e : EditError) → RefusesInsert bytes path key value e → RefusesBefore b bytes path key value e
before_refused (before_place.Key k) bytes key value path error.Nowhere r = outer_nowhere bytes (path ++ (step.Key k ∷ [])) path (step.Key k) refl r
before_refused (before_place.Key k) bytes key value path (error.Text x) r = r
before_refused (before_place.Key k) bytes key value path (error.Value x) r = r
before_refused (before_place.Key k) bytes key value path error.Taken r = r
before_refused (before_place.Key k) bytes key value path error.NotObject r = r
before_refused (before_place.Key k) bytes key value path error.NotArray r = r
before_refused (before_place.Key k) bytes key value path error.NoKey r = r
before_refused (before_place.Key k) bytes key value path error.NoMemory r = r
before_refused (before_place.Key k) bytes key value path error.Failed r = r
before_refused before_place.First bytes key value path e r = r

-- no member has the key of the other
pub start_refused : (b : Before) (bytes old : List ℕ) (path : List Step) (p : Place) → IsUtf8 bytes → Leads bytes path (Some p) → ((before o after : List ℕ) → IsPart bytes p before o after → old ≡ encode_utf8_all o) → (key value : List ℕ) (e : EditError) → RefusesStart b old e → RefusesBefore b bytes path key value e
start_refused (before_place.Key k) bytes old path p u leads is_part key value error.Nowhere r = nowhere_in bytes old path p u leads is_part (path ++ (step.Key k ∷ [])) (step.Key k) refl r
start_refused (before_place.Key k) bytes old path p u leads is_part key value error.NoMemory r = tt
start_refused before_place.First bytes old path p u leads is_part key value error.NoMemory r = tt
start_refused (before_place.Key k) bytes old path p u leads is_part key value (error.Text x) r = absurd r
start_refused (before_place.Key k) bytes old path p u leads is_part key value (error.Value x) r = absurd r
start_refused (before_place.Key k) bytes old path p u leads is_part key value error.Taken r = absurd r
start_refused (before_place.Key k) bytes old path p u leads is_part key value error.NotObject r = absurd r
start_refused (before_place.Key k) bytes old path p u leads is_part key value error.NotArray r = absurd r
start_refused (before_place.Key k) bytes old path p u leads is_part key value error.NoKey r = absurd r
start_refused (before_place.Key k) bytes old path p u leads is_part key value error.Failed r = absurd r
start_refused before_place.First bytes old path p u leads is_part key value error.Nowhere r = absurd r
start_refused before_place.First bytes old path p u leads is_part key value (error.Text x) r = absurd r
start_refused before_place.First bytes old path p u leads is_part key value (error.Value x) r = absurd r
start_refused before_place.First bytes old path p u leads is_part key value error.Taken r = absurd r
start_refused before_place.First bytes old path p u leads is_part key value error.NotObject r = absurd r
start_refused before_place.First bytes old path p u leads is_part key value error.NotArray r = absurd r
start_refused before_place.First bytes old path p u leads is_part key value error.NoKey r = absurd r
start_refused before_place.First bytes old path p u leads is_part key value error.Failed r = absurd r

-- ---- the text with the member

pub member_put : (b : Before) (limit n : ℕ) (bytes new front back key name value : List ℕ) → limit ≤ max_depth → IsUtf8 bytes → IsUtf8 name → IsUtf8 value → IsNameAlone kind.Object name → (h : HasMember b limit bytes n) → front ≡ encode_utf8_all h.spot.front → back ≡ encode_utf8_all h.spot.rest → (v : Tree) → Val (chars value) v → depth v ≤ limit - 1 → SpellsEntry kind.Object key v (chars (name ++ value)) → new ≡ front ++ (name ++ (value ++ ((44 ∷ []) ++ back))) → Adds kind.Object value (GainsMember b key value) limit bytes new
member_put b limit n bytes new front back key name value small utf8 name_utf8 value_utf8 named h front_is back_is v val d spells now =
    let p = h.spot in
    let kt : IsOf kind.Object h.before = h.same_kind ∙ h.kind in
    let (u, same, goes, small_u, joins) = p.back h.tree (spells_value limit (chars bytes) h.tree h.value h.shallow) in
    let ku : IsOf kind.Object u = same ∙ kt in
    let split : entries h.tree ≡ entries h.before ++ entries u = ap entries joins ∙ entries_joined kind.Object h.before u kt ku in
    let left : entries u ≡ (h.key, h.next) ∷ h.after = same_rest (entries h.before) (entries u) ((h.key, h.next) ∷ h.after) (sym split ∙ h.all) in
    let f = with_first u spells ku in
    let entry : List ℕ = name ++ value in
    let entry_utf8 = utf8_both name value name_utf8 value_utf8 in
    let part : List ℕ = entry ++ (44 ∷ []) in
    let part_utf8 = utf8_both entry (44 ∷ []) entry_utf8 ascii_utf8 in
    let part_is : chars part ++ p.rest ≡ chars entry ++ (44 ∷ p.rest) = ap (λ z. z ++ p.rest) (chars_both entry (44 ∷ []) entry_utf8 ascii_utf8 ∙ ap (λ z. chars entry ++ z) ascii_comma) ∙ append_assoc (chars entry) (44 ∷ []) p.rest in
    let goes_on : Goes false f.all (chars part ++ p.rest) = subst (Goes false f.all) (sym part_is) (f.goes (44 ∷ p.rest) (goes_after_comma u p.rest goes)) in
    let inside = fits_inside limit (depth v) kind.Object h.tree h.kind h.shallow d in
    let joined_bytes : new ≡ front ++ (part ++ back) = now ∙ ap (λ z. front ++ z) (sym (append_assoc entry (44 ∷ []) back ∙ append_assoc name value ((44 ∷ []) ++ back))) in
    let made : new ≡ encode_utf8_all p.front ++ (part ++ encode_utf8_all p.rest) = joined_bytes ∙ ap (λ z. z ++ (part ++ back)) front_is ∙ ap (λ z. encode_utf8_all p.front ++ (part ++ z)) back_is in
    let w : Tree = joined h.before f.all in
    let m = made_there part utf8 part_utf8 h.value h.shallow h.kind kt p made f.all f.same_kind goes_on (f.fits limit inside small_u) in
    let (cut, scalar_front, scalar_rest) = cut_there utf8 p in
    let d_old = h.shallow in
    let d_new = m.shallow in (
      (
        h.tree,
        w,
        value_document max_depth (chars bytes) h.tree h.value (omega (arith, d_old, small)),
        value_document max_depth (chars new) w m.value (omega (arith, d_new, small)),
        (
          v,
          val,
          record {
            was_kind = h.kind;
            kind = joined_kind kind.Object h.before f.all kt f.same_kind;
            before = entries h.before;
            after = entries u;
            was = split;
            now = entries_joined kind.Object h.before f.all kt f.same_kind ∙ ap (λ z. entries h.before ++ z) f.one_more;
            there = subst (ComesBetween b (entries h.before)) (sym left) h.there;
          },
        ),
      ),
      grows_there kind.Object value bytes front back [] part new (inl refl) (record { lead = []; name = name; trail = 44 ∷ []; split = append_assoc name value (44 ∷ []); is_lead = no_part; is_name = named; is_trail = comma_space }) (cut ∙ ap (λ z. z ++ encode_utf8_all p.rest) (sym front_is) ∙ ap (λ z. front ++ z) (sym back_is)) joined_bytes,
      (w, m.value, m.shallow),
    )

-- with a key that is a string of JSON
pub member_before : (b : Before) (limit n : ℕ) (bytes new front back key json name value : List ℕ) → limit ≤ max_depth → IsUtf8 bytes → IsUtf8 json → IsUtf8 name → IsUtf8 value → SpellsKey key json → JsonString (chars json) → name ≡ json ++ (58 ∷ []) → (h : HasMember b limit bytes n) → front ≡ encode_utf8_all h.spot.front → back ≡ encode_utf8_all h.spot.rest → IsValue (limit - 1) (chars value) → new ≡ front ++ (name ++ (value ++ ((44 ∷ []) ++ back))) → AddsMember b key value limit bytes bytes new
member_before b limit n bytes new front back key json name value small utf8 json_utf8 name_utf8 value_utf8 (u, e, spelled, means) is_json name_is h front_is back_is (v, val, d) now =
    let entry_is : name ++ value ≡ json ++ ((58 ∷ []) ++ value) = ap (λ z. z ++ value) name_is ∙ append_assoc json (58 ∷ []) value in
    let parts = member_chars value json (name ++ value) json_utf8 value_utf8 entry_is in
    let one : SpellsEntry kind.Object (encode_utf8_all u) v (chars (name ++ value)) = subst (SpellsEntry kind.Object (encode_utf8_all u) v) (sym parts) (spells_member (chars json) (chars value) u e v spelled val) in
    let spells : SpellsEntry kind.Object key v (chars (name ++ value)) = subst (λ k. SpellsEntry kind.Object k v (chars (name ++ value))) means one in (
      member_put b limit n bytes new front back key name value small utf8 name_utf8 value_utf8 (name_alone key json name (u, e, spelled, means) name_is) h front_is back_is v val d spells now,
      λ comments was came. member_plain_there b limit n bytes new front back key name value utf8 name_utf8 value_utf8 h front_is back_is v spells now comments was (subst (Plain comments last.sign) (sym parts) (member_plain is_json came)),
    )

-- in a document
pub puts_within : {E : Type 0} (b : Before) (key value : List ℕ) (limit : ℕ) (document old : List ℕ) (r : Result (String Global) E) → KeepsPlain document old → PutsMember b key value limit old old r → PutsMember b key value limit document old r
puts_within b key value limit document old r keeps made = ok_then r (λ new k. (k.0, stays_within document old value (string_bytes new) keeps k.1)) made

-- the same where less is asked
pub puts_there : {E : Type 0} (b : Before) (key value : List ℕ) (limit : ℕ) (c : Collection) (old : List ℕ) (r : Result (String Global) E) → PutsMember b key value limit c.document.now old r → PutsThere b key value limit c old r
puts_there b key value limit c old r made = ok_then r (λ new k. (k.0, λ quoted. k.1)) made

-- the first one of an object that has none
pub first_of_none : {E : Type 0} (limit : ℕ) (c : Collection) (old key value : List ℕ) (r : Result (String Global) E) → Val (chars old) (object no_member) → AddsLast kind.Object key value limit c old r → PutsThere before_place.First key value limit c old r
first_of_none limit c old key value (Err e) none adds = tt
first_of_none limit c old key value (Ok new) none (((t, w, was, now, (v, val, with_last)), grows, fits), plain) =
    let same : t ≡ object no_member = tree_of (chars old) t (object no_member) was none in (
      (
        (
          t,
          w,
          was,
          now,
          (
            v,
            val,
            record {
              was_kind = with_last.was_kind;
              kind = with_last.kind;
              before = [];
              after = [];
              was = ap entries same;
              now = with_last.one_more ∙ ap (λ z. entries z ++ ((key, v) ∷ [])) same;
              there = refl;
            },
          ),
        ),
        grows,
        fits,
      ),
      plain,
    )
