-- The text with a collection changed.
use Rattle.std.proofs.Common.{◌≡◌, ℕ, ◌≤◌, List, ◌++◌, sym, ◌∙◌, subst, string_bytes, Some, arith}
use Rattle.std.specs.declared.alloc.Global.{Global}
use Rattle.std.specs.Prelude.{Err, Ok, Result, String}
use Rattle.std.specs.Str.{chars, IsUtf8, encode_utf8_all}
use Rattle.json5_grammar.specs.Language.Documents.{Doc, max_depth}
use Rattle.json5_grammar.specs.Language.Trees.{Tree, depth}
use Rattle.json5_grammar.specs.Language.Values.{Val}
use Rattle.json5_grammar.proofs.OneTree.{one_tree}
use Rattle.json5_walk.specs.declared.place.Place.{Place}
use Rattle.json5_edit.specs.Changes.{ChangesBy, Edits, IsChanged}
use Rattle.json5_edit.specs.Places.{IsValue, IsPart, HasPlace, Leads}
use Rattle.json5_edit.specs.Sets.{Puts}
use Rattle.json5_edit.specs.declared.faults.EditError.{EditError}
use Rattle.json5_edit.specs.declared.paths.Step.{Step}
use Rattle.json5_edit.proofs.Compared.{alone}
use Rattle.json5_edit.proofs.Placed.{set_at}

pub has_place : {bytes : List ℕ} {path : List Step} {p : Place} → Leads bytes path (Some p) → HasPlace bytes p
has_place leads = let q = leads.placed in (q.before, q.old, q.after, q.cut)

pub is_small : {bytes : List ℕ} {path : List Step} {p : Place} → Leads bytes path (Some p) → p.room ≤ max_depth
is_small leads = let r = leads.placed.room in omega (arith, r)

-- the trees of a spelling
pub tree_of : (x : List ℕ) (t u : Tree) → Doc max_depth x t → Val x u → t ≡ u
tree_of x t u d v = one_tree max_depth (depth u) x t u d (alone x u v)

-- a place that holds a collection, and the collection changed in it, its text in this way
pub changed_by : (Bytes : List ℕ → List ℕ → Type 0) (Change : Tree → Tree → Type 0) (bytes old new made : List ℕ) (path : List Step) (p : Place) → IsUtf8 bytes → Leads bytes path (Some p) → ((before o after : List ℕ) → IsPart bytes p before o after → old ≡ encode_utf8_all o) → ChangesBy Change old new → Bytes old new → Puts bytes p new made → (c : IsChanged Change bytes path made) × Bytes c.old c.new
changed_by Bytes Change bytes old new made path p u leads there (t, w, was, now, change) how (v, fits, puts) =
    let (s, at) = set_at bytes new made path p u v leads fits puts in
    let q = leads.placed in
    let same : s.old ≡ old = at ∙ sym (there q.before q.old q.after q.cut) in
    let old_tree : t ≡ s.old_tree = tree_of (chars old) t s.old_tree was (subst (λ z. Val (chars z) s.old_tree) same s.old_value) in
    let new_tree : w ≡ s.new_tree = tree_of (chars new) w s.new_tree now s.new_value in (
      record {
        before = s.before;
        old = s.old;
        new = new;
        after = s.after;
        was = s.was;
        now = s.now;
        tree = s.tree;
        old_tree = s.old_tree;
        new_tree = s.new_tree;
        positions = s.positions;
        led = s.led;
        old_value = s.old_value;
        new_value = s.new_value;
        there = s.there;
        document = s.document;
        still = s.still;
        changed = subst (λ z. Change z s.new_tree) old_tree (subst (Change t) new_tree change);
      },
      subst (λ z. Bytes z new) (sym same) how,
    )

-- the same of a text that was made, which is a value that fits
pub changed_within : (Bytes : List ℕ → List ℕ → Type 0) (Change : Tree → Tree → Type 0) (bytes old new text made : List ℕ) (path : List Step) (p : Place) → IsUtf8 bytes → IsUtf8 new → new ≡ text → Leads bytes path (Some p) → ((before o after : List ℕ) → IsPart bytes p before o after → old ≡ encode_utf8_all o) → ChangesBy Change old text × Bytes old text × IsValue p.room (chars text) → ((before o after : List ℕ) → IsPart bytes p before o after → made ≡ encode_utf8_all before ++ (new ++ encode_utf8_all after)) → (c : IsChanged Change bytes path made) × Bytes c.old c.new
changed_within Bytes Change bytes old new text made path p u v is leads there (change, how, value) puts =
    changed_by Bytes Change bytes old new made path p u leads there (subst (ChangesBy Change old) (sym is) change) (subst (Bytes old) (sym is) how) (v, subst (λ x. IsValue p.room (chars x)) (sym is) value, puts)

-- ---- what a call answers

pub not_edited : {Plain Made : List ℕ → Type 0} {Refuses : EditError → Type 0} {e : EditError} → Refuses e → Edits Plain Made Refuses (Err e)
not_edited h = record { made = tt; plain = tt; refused = h }

-- the same, said otherwise
pub edited_as : {P Q M N : List ℕ → Type 0} {R S : EditError → Type 0} (r : Result (String Global) EditError) → ((new : List ℕ) → M new → N new) → ((new : List ℕ) → P new → Q new) → ((e : EditError) → R e → S e) → Edits P M R r → Edits Q N S r
edited_as (Ok a) made plain refused h = record { made = made (string_bytes a) h.made; plain = plain (string_bytes a) h.plain; refused = tt }
edited_as (Err e) made plain refused h = record { made = tt; plain = tt; refused = refused e h.refused }
