-- The entries that a walk passes.
use Rattle.std.proofs.Common.{◌≡◌, ℕ, ◌-◌, Bool, true, List, [], ◌∷◌, ◌++◌, length, refl, ap, sym, ◌∙◌, append_assoc, subst, None}
use Rattle.std.specs.Prelude.{slice_range}
use Rattle.std.specs.Str.{chars, IsUtf8, all_scalars, encode_utf8_all}
use Rattle.std.proofs.lemmas.Str.{chars-encodes, scalars-chars}
use Rattle.json5_grammar.specs.Language.Documents.{Doc, max_depth}
use Rattle.json5_grammar.specs.Language.Trees.{Tree, Trees, Members, no_more, more, no_member, member}
use Rattle.json5_grammar.specs.Language.Values.{Val}
use Rattle.json5_grammar.specs.Model.Collections.{snoc, snoc_member}
use Rattle.json5_tokens.specs.Outcome.{bytes_in}
use Rattle.json5_read.specs.declared.brackets.BracketKind.{BracketKind as Kind}
use Rattle.json5_read.specs.declared.brackets.BracketKind.TheVariants as kind
use Rattle.json5_types.specs.Cows.{cow_bytes}
use Rattle.json5_walk.specs.declared.entry.EntryKey.{EntryKey}
use Rattle.json5_walk.specs.Entries.{is_inside, BeginsEntry}
use Rattle.json5_walk.specs.Frames.{Frame, At, at_value, at_comma, value_frames}
use Rattle.json5_walk.specs.Moves.{Opens, TakesFront, EndsEntries}
use Rattle.json5_walk.specs.Walks.{Walked, at_start, Trail, IsAt, Moved, PassesValue, Ends}
use Rattle.json5_walk.proofs.Calls.{starts_at, bytes_before}
use Rattle.json5_walk.proofs.Entries.{there, then, front_moves}
use Rattle.json5_edit.specs.Entries.{elements, members, entries, kind_of, empty_of, TakesText, takes_text, read_in, around, TakesEntry, Holds, Closed}
use Rattle.json5_edit.proofs.Placed.{scalars_left, scalars_right, slice_there, same_tree}
use Rattle.json5_edit.proofs.Fronts.{value_taken, opened_at, Fronted, element, member, fronted, ended_at}

-- ---- a value's text

pub text_moves : {old new : Walked} (bytes value : List ℕ) (start end : ℕ) → Moved (PassesValue old new) old new → bytes ≡ old.text → start ≡ length old.text - bytes_in old.unread → end ≡ length new.text - bytes_in new.unread → value ≡ slice_range bytes start end → Moved (TakesText value) old new
text_moves {old = old} {new = new} bytes value start end p is s e v = record {
  text = p.text;
  limit = p.limit;
  leads = λ trail f.
      let (a, taken, g) = p.leads trail f in
      let (t, x, at, d, split, val, small) = value_taken taken in
      let whole : chars old.text ≡ f.front ++ (x ++ new.unread) = f.split ∙ ap (λ z. f.front ++ z) split in
      let from : start ≡ bytes_in f.front = s ∙ bytes_before old.text f.front old.unread f.is_text f.split in
      let to : end ≡ bytes_in (f.front ++ x) =
      e ∙ ap (λ z. length z - bytes_in new.unread) p.text
      ∙ bytes_before old.text (f.front ++ x) new.unread f.is_text (whole ∙ sym (append_assoc f.front x new.unread)) in
      let cut : value ≡ encode_utf8_all x =
      v ∙ ap (λ z. slice_range z start end) is ∙ ap (λ n. slice_range old.text n end) from ∙ ap (slice_range old.text (bytes_in f.front)) to
      ∙ slice_there old.text f.front x new.unread f.is_text whole in
      let scalars : all_scalars x ≡ true = scalars_left x new.unread (scalars_right f.front (x ++ new.unread) (ap all_scalars (sym whole) ∙ scalars-chars old.text f.is_text)) in
      let spelled : chars value ≡ x = ap chars cut ∙ chars-encodes x scalars in
      (a, subst (TakesText value trail.now) (sym at) (takes_text trail.now t d (subst (λ z. Val z t) (sym spelled) val)), g);
}

-- ---- an entry

pub elements_snoc : (ts : Trees) (t : Tree) → elements (snoc ts t) ≡ elements ts ++ (([], t) ∷ [])
elements_snoc no_more t = refl
elements_snoc (more s ts) t = ap (λ z. ([], s) ∷ z) (elements_snoc ts t)

pub members_snoc : (ps : Members) (u : List ℕ) (b : Bool) (t : Tree) → members (snoc_member ps u b t) ≡ members ps ++ ((encode_utf8_all u, t) ∷ [])
members_snoc no_member u b t = refl
members_snoc (member v c s ps) u b t = ap (λ z. (encode_utf8_all v, s) ∷ z) (members_snoc ps u b t)

text_taken : {bytes : List ℕ} {a b : At} → TakesText bytes a b → (t : Tree) × (b ≡ at_comma t (value_frames a)) × Val (chars bytes) t
text_taken (takes_text a t d v) = (t, refl, v)

with_entry : {key value : List ℕ} {b : At} (a : At) (t u : Tree) (o : List Frame) → Fronted key t o b → t ≡ read_in a → o ≡ around a → Val (chars value) u → TakesEntry key value a (at_comma u (value_frames b))
with_entry {key = key} a _ u _ (element ts o e) r k v = record {
  tree = u;
  is_value = v;
  inside = refl;
  one_more = elements_snoc ts u ∙ ap (λ (n : List ℕ). elements ts ++ ((n, u) ∷ [])) (sym e) ∙ ap (λ z. entries z ++ ((key, u) ∷ [])) r;
  same_kind = ap kind_of r;
  same_frames = k;
}
with_entry {key = key} a _ u _ (member ps n b o e) r k v = record {
  tree = u;
  is_value = v;
  inside = refl;
  one_more = members_snoc ps n b u ∙ ap (λ (n : List ℕ). members ps ++ ((n, u) ∷ [])) (sym e) ∙ ap (λ z. entries z ++ ((key, u) ∷ [])) r;
  same_kind = ap kind_of r;
  same_frames = k;
}

entry_taken : {key value : List ℕ} (a b c : At) → TakesFront key a b → TakesText value b c → TakesEntry key value a c
entry_taken {key = key} {value = value} a b c p q = let (u, is, v) = text_taken q in subst (TakesEntry key value a) (sym is) (with_entry a (read_in a) u (around a) (fronted p) refl refl v)

pub entry_moves : {v0 v1 v2 : Walked} {value : List ℕ} (k : EntryKey) → BeginsEntry v0 v1 k → Moved (TakesText value) v1 v2 → Moved (TakesEntry (cow_bytes k.text) value) v0 v2
entry_moves {value = value} k p q = then (TakesFront (cow_bytes k.text)) (TakesText value) (TakesEntry (cow_bytes k.text) value) (λ a b c f t. entry_taken a b c f t) (front_moves p) q

-- ---- the outermost collection

pub opened_in : (k : Kind) {b : At} → Opens k (at_value []) b → (is_inside b ≡ true) × (read_in b ≡ empty_of k) × (around b ≡ [])
opened_in kind.Array is = let e = opened_at is in (ap is_inside e, ap read_in e, ap around e)
opened_in kind.Object is = let e = opened_at is in (ap is_inside e, ap read_in e, ap around e)

pub opens : {v0 v1 : Walked} (bytes : List ℕ) (limit : ℕ) (k : Kind) → IsUtf8 bytes → limit ≡ max_depth → v0 ≡ at_start bytes limit → Moved (Opens k) v0 v1 → Holds bytes (empty_of k) v1
opens {v0 = v0} {v1 = v1} bytes limit k u l start p =
    let f : IsAt v0 (record { now = at_value []; marked = None }) = subst (λ v. IsAt v (record { now = at_value []; marked = None })) (sym start) (starts_at u) in
    let (b, is, g) = p.leads (record { now = at_value []; marked = None }) f in
    let (i, r, o) = opened_in k is in
    record {
      text = p.text ∙ ap (λ (v : Walked). v.text) start;
      limit = p.limit ∙ ap (λ (v : Walked). v.limit) start ∙ l;
      now = b;
      marked = None;
      is_at = g;
      inside = i;
      read = r;
      outermost = o;
    }

pub closes : {x : List ℕ} {t : Tree} {v w : Walked} → Holds x t v → Moved EndsEntries v w → Closed x t w
closes {w = w} h p =
    let (b, is, g) = p.leads (record { now = h.now; marked = h.marked }) h.is_at in
    record {
      text = p.text ∙ h.text;
      limit = p.limit ∙ h.limit;
      marked = h.marked;
      is_at = there (ended_at is ∙ ap (at_comma (read_in h.now)) h.outermost ∙ ap (λ z. at_comma z []) h.read) g;
    }

pub is_document : {x : List ℕ} {t : Tree} {v : Walked} → Closed x t v → ((s : Trail) → IsAt v s → Ends v s) → Doc max_depth (chars x) t
is_document {x = x} {t = t} {v = v} c ends =
    let e = ends (record { now = at_comma t []; marked = c.marked }) c.is_at in
    let same : t ≡ e.tree = same_tree e.walked in
    subst (λ z. Doc max_depth (chars z) t) c.text (subst (λ n. Doc n (chars v.text) t) c.limit (subst (Doc v.limit (chars v.text)) (sym same) e.document))
