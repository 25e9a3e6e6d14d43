-- Two collections whose entries were compared.
use denote.Ref.{Bor}
use Rattle.std.proofs.Common.{◌≡◌, ℕ, ◌+◌, List, [], ◌∷◌, ◌++◌, length, refl, ap, sym, ◌∙◌, append_assoc, subst, Option, Some, None, arith}
use Rattle.std.specs.Prelude.{◌≢◌}
use Rattle.std.specs.Str.{chars}
use Rattle.std.proofs.lemmas.List.{length-append}
use Rattle.json5_grammar.specs.Language.Blanks.{Blanks, LastBlanks}
use Rattle.json5_grammar.specs.Language.Documents.{Doc}
use Rattle.json5_grammar.specs.Language.Trees.{Tree, depth}
use Rattle.json5_grammar.specs.Language.Values.{Val}
use Rattle.json5_grammar.proofs.OneTree.{one_tree}
use Rattle.json5_read.specs.declared.brackets.BracketKind.{BracketKind as Kind}
use Rattle.json5_read.specs.declared.brackets.BracketKind.TheVariants as kind
use Rattle.json5_walk.specs.Moves.{EndsEntries}
use Rattle.json5_walk.specs.Walks.{Walked, Trail, IsAt, Moved, Ends}
use Rattle.json5_walk.proofs.Rests.{append_nil}
use Rattle.json5_edit.specs.Changes.{ChangesBy, Gains, GainsAt, GainsMember}
use Rattle.json5_edit.specs.Comparing.{With, HaveSameEntries, EndsToo, BothPass, PassesPair, PassesFront, PassesRest, PassesAfter, FitsFront, MayPrecede, ComesBetween, LacksKey, Lacks, IsOther, IsWithout, IsRenamed, GoesTo, step_kind, step_key, step_place}
use Rattle.json5_edit.specs.Entries.{entries, kind_of, empty_of, read_in, TakesEntry, Holds}
use Rattle.json5_edit.specs.declared.entries.Entry.{Entry}
use Rattle.json5_edit.specs.declared.paths.Before.{Before}
use Rattle.json5_edit.specs.declared.paths.Before.TheVariants as before_place
use Rattle.json5_edit.specs.declared.paths.Step.{Step}
use Rattle.json5_edit.specs.declared.paths.Step.TheVariants as step
use Rattle.json5_edit.proofs.EntriesPassed.{closes, is_document}

-- ---- values

-- a value alone is a document
pub alone : (x : List ℕ) (t : Tree) → Val x t → Doc (depth t) x t
alone x t v = record { before = []; text = x; after = []; whole = sym (append_nil x); blank = Blanks.empty; value = v; last = LastBlanks.blanks Blanks.empty; shallow = omega arith }

pub same_value : (x y : List ℕ) (t u : Tree) → x ≡ y → Val (chars x) t → Val (chars y) u → t ≡ u
same_value x y t u e v w = one_tree (depth t) (depth u) (chars y) t u (subst (λ z. Doc (depth t) z t) (ap chars e) (alone (chars x) t v)) (alone (chars y) u w)

-- ---- entries

append_none : (es : List (List ℕ × Tree)) → es ++ [] ≡ es
append_none [] = refl
append_none (e ∷ es) = ap (λ z. e ∷ z) (append_none es)

pub no_more_with : (t : Tree) → With t [] t
no_more_with t = record { more = sym (append_none (entries t)); same_kind = refl }

pub with_more : {t u w : Tree} (es fs : List (List ℕ × Tree)) → With t es u → With u fs w → With t (es ++ fs) w
with_more {t = t} es fs p q = record { more = q.more ∙ ap (λ z. z ++ fs) p.more ∙ append_assoc (entries t) es fs; same_kind = q.same_kind ∙ p.same_kind }

-- the entry that was passed
pub record Passes (x : List ℕ) (t : Tree) (v : Walked) (key value : List ℕ) : Type 0 where
  pub tree : Tree
  pub is_value : Val (chars value) tree
  pub all : Tree
  pub one : With t ((key, tree) ∷ []) all
  pub holds : Holds x all v

pub passes : {x : List ℕ} {t : Tree} {v w : Walked} (key value : List ℕ) → Holds x t v → Moved (TakesEntry key value) v w → Passes x t w key value
passes {t = t} key value h p =
    let (b, k, g) = p.leads (record { now = h.now; marked = h.marked }) h.is_at in
    record {
      tree = k.tree;
      is_value = k.is_value;
      all = read_in b;
      one = record { more = k.one_more ∙ ap (λ z. entries z ++ ((key, k.tree) ∷ [])) h.read; same_kind = k.same_kind ∙ ap kind_of h.read };
      holds = record { text = p.text ∙ h.text; limit = p.limit ∙ h.limit; now = b; marked = h.marked; is_at = g; inside = k.inside; read = refl; outermost = k.same_frames ∙ h.outermost };
    }

both_one : {x y : List ℕ} {t u : Tree} {v w left right : Walked} (key value : List ℕ) → Holds x t v → Holds y u w → Moved (TakesEntry key value) v left → Moved (TakesEntry key value) w right → (e : Tree) × BothPass x y t u left right ((key, e) ∷ [])
both_one {u = u} key value h k p q =
    let a = passes key value h p in
    let b = passes key value k q in
    let same : b.tree ≡ a.tree = same_value value value b.tree a.tree refl b.is_value a.is_value in
    (a.tree, record { left = a.all; right = b.all; left_with = a.one; right_with = subst (λ z. With u ((key, z) ∷ []) b.all) same b.one; left_holds = a.holds; right_holds = b.holds })

-- ---- several entries, one after another

pub front_starts : (v w : Walked) → PassesFront 0 v w v w
front_starts v w = record { passed = λ x y t u h k. ([], record { left = t; right = u; left_with = no_more_with t; right_with = no_more_with u; left_holds = h; right_holds = k }, refl) }

pub front_goes_on : {n : ℕ} {v w left right new_left new_right : Walked} (key value : List ℕ) → PassesFront n v w left right → Moved (TakesEntry key value) left new_left → Moved (TakesEntry key value) right new_right → PassesFront (n + 1) v w new_left new_right
front_goes_on {n = n} key value p a b = record {
  passed = λ x y t u h k.
      let (es, both, size) = p.passed x y t u h k in
      let (e, one) = both_one key value both.left_holds both.right_holds a b in
      let fs : List (List ℕ × Tree) = (key, e) ∷ [] in (
        es ++ fs,
        record {
          left = one.left;
          right = one.right;
          left_with = with_more es fs both.left_with one.left_with;
          right_with = with_more es fs both.right_with one.right_with;
          left_holds = one.left_holds;
          right_holds = one.right_holds;
        },
        length-append es fs ∙ ap (λ m. m + 1) size,
      );
}

-- entries that the step doesn't go to by its key
pub record PassesOthers (s : Step) (v w left right : Walked) : Type 0 where
  pub passed : (x y : List ℕ) (t u : Tree) → Holds x t v → Holds y u w → (es : List (List ℕ × Tree)) × BothPass x y t u left right es × Lacks s es

pub lacks_key_more : (key : List ℕ) (es : List (List ℕ × Tree)) (name : List ℕ) (t : Tree) → LacksKey key es → name ≢ key → LacksKey key (es ++ ((name, t) ∷ []))
lacks_key_more key [] name t l n = (n, tt)
lacks_key_more key (e ∷ es) name t (m, l) n = (m, lacks_key_more key es name t l n)

lacks_more : (s : Step) (es : List (List ℕ × Tree)) (name : List ℕ) (t : Tree) → Lacks s es → IsOther s name → Lacks s (es ++ ((name, t) ∷ []))
lacks_more (step.Index i) es name t l n = tt
lacks_more (step.Key k) es name t l n = lacks_key_more k.now es name t l n

no_lack : (s : Step) → Lacks s []
no_lack (step.Index i) = tt
no_lack (step.Key k) = tt

pub others_start : (s : Step) (v w : Walked) → PassesOthers s v w v w
others_start s v w = record { passed = λ x y t u h k. ([], record { left = t; right = u; left_with = no_more_with t; right_with = no_more_with u; left_holds = h; right_holds = k }, no_lack s) }

pub others_go_on : {s : Step} {v w left right new_left new_right : Walked} (key value : List ℕ) → PassesOthers s v w left right → Moved (TakesEntry key value) left new_left → Moved (TakesEntry key value) right new_right → IsOther s key → PassesOthers s v w new_left new_right
others_go_on {s = s} key value p a b other = record {
  passed = λ x y t u h k.
      let (es, both, lacks) = p.passed x y t u h k in
      let (e, one) = both_one key value both.left_holds both.right_holds a b in
      let fs : List (List ℕ × Tree) = (key, e) ∷ [] in (
        es ++ fs,
        record {
          left = one.left;
          right = one.right;
          left_with = with_more es fs both.left_with one.left_with;
          right_with = with_more es fs both.right_with one.right_with;
          left_holds = one.left_holds;
          right_holds = one.right_holds;
        },
        lacks_more s es key e lacks other,
      );
}

pub rest_ends : {s : Step} {v w left right new_left new_right : Walked} → PassesOthers s v w left right → Moved EndsEntries left new_left → Moved EndsEntries right new_right → PassesRest s v w new_left new_right
rest_ends p a b = λ x y t u h k.
    let (es, both, lacks) = p.passed x y t u h k in (
      es,
      record {
        left = both.left;
        right = both.right;
        left_with = both.left_with;
        right_with = both.right_with;
        left_closed = closes both.left_holds a;
        right_closed = closes both.right_holds b;
      },
      lacks,
    )

-- ---- whole collections

no_entries : (k : Kind) → entries (empty_of k) ≡ []
no_entries kind.Array = refl
no_entries kind.Object = refl

empty_kind : (k : Kind) → kind_of (empty_of k) ≡ Some k
empty_kind kind.Array = refl
empty_kind kind.Object = refl

-- the entries of a collection that began empty
pub from_empty : {t : Tree} (k : Kind) (es : List (List ℕ × Tree)) → With (empty_of k) es t → entries t ≡ es
from_empty k es p = p.more ∙ ap (λ z. z ++ es) (no_entries k)

goes_to : (s : Step) (found : ℕ) (before after : List (List ℕ × Tree)) → length before ≡ step_place s found → Lacks s after → GoesTo s before after
goes_to (step.Index i) found before after size lacks = size
goes_to (step.Key k) found before after size lacks = lacks

pub same_entries : {x y : List ℕ} {l1 r1 l2 r2 : Walked} (k : Kind) (s : Step) → Holds x (empty_of k) l1 → Holds y (empty_of k) r1 → PassesRest s l1 r1 l2 r2 → ((t : Trail) → IsAt l2 t → Ends l2 t) → ((t : Trail) → IsAt r2 t → Ends r2 t) → ChangesBy HaveSameEntries x y
same_entries {x = x} {y = y} k s h g rest end_left end_right =
    let (es, close, lacks) = rest x y (empty_of k) (empty_of k) h g in (
      close.left,
      close.right,
      is_document close.left_closed end_left,
      is_document close.right_closed end_right,
      record {
        same = from_empty k es close.right_with ∙ sym (from_empty k es close.left_with);
        same_kind = close.right_with.same_kind ∙ sym close.left_with.same_kind;
      },
    )

pub removed : {x y : List ℕ} {l1 r1 l2 r2 l3 l4 r4 : Walked} (s : Step) (found n : ℕ) (kd : Kind) (key value : List ℕ) → kd ≡ step_kind s → n ≡ step_place s found → Holds x (empty_of kd) l1 → Holds y (empty_of kd) r1 → PassesFront n l1 r1 l2 r2 → Moved (TakesEntry key value) l2 l3 → key ≡ step_key s → PassesRest s l3 r2 l4 r4 → ((t : Trail) → IsAt l4 t → Ends l4 t) → ((t : Trail) → IsAt r4 t → Ends r4 t) → ChangesBy (IsWithout s) x y
removed {x = x} {y = y} s found n kd key value is_kind is_place h k front one same rest end_left end_right =
    let e = empty_of kd in
    let (es, both, size) = front.passed x y e e h k in
    let gone = passes key value both.left_holds one in
    let (fs, close, lacks) = rest x y gone.all both.right gone.holds both.right_holds in
    let mid : List (List ℕ × Tree) = (key, gone.tree) ∷ [] in
    let left = with_more (es ++ mid) fs (with_more es mid both.left_with gone.one) close.left_with in
    let right = with_more es fs both.right_with close.right_with in (
      close.left,
      close.right,
      is_document close.left_closed end_left,
      is_document close.right_closed end_right,
      record {
        was_kind = left.same_kind ∙ empty_kind kd ∙ ap Some is_kind;
        kind = right.same_kind ∙ empty_kind kd ∙ ap Some is_kind;
        before = es;
        after = fs;
        gone = gone.tree;
        was = from_empty kd ((es ++ mid) ++ fs) left ∙ append_assoc es mid fs ∙ ap (λ z. es ++ ((z, gone.tree) ∷ fs)) same;
        now = from_empty kd (es ++ fs) right;
        there = goes_to s found es fs (size ∙ is_place) lacks;
      },
    )

pub added : {x y : List ℕ} {l1 r1 l2 r2 r3 l4 r4 : Walked} (k : Kind) (count : ℕ) (key value name spelled : List ℕ) → Holds x (empty_of k) l1 → Holds y (empty_of k) r1 → PassesFront count l1 r1 l2 r2 → Moved (TakesEntry key value) r2 r3 → key ≡ name → value ≡ spelled → Moved EndsEntries l2 l4 → Moved EndsEntries r3 r4 → ((t : Trail) → IsAt l4 t → Ends l4 t) → ((t : Trail) → IsAt r4 t → Ends r4 t) → ChangesBy (Gains k name spelled) x y
added {x = x} {y = y} k count key value name spelled h g front one same same_text close_left close_right end_left end_right =
    let e = empty_of k in
    let (es, both, size) = front.passed x y e e h g in
    let came = passes key value both.right_holds one in
    let mid : List (List ℕ × Tree) = (key, came.tree) ∷ [] in
    let right = with_more es mid both.right_with came.one in (
      both.left,
      came.all,
      is_document (closes both.left_holds close_left) end_left,
      is_document (closes came.holds close_right) end_right,
      (
        came.tree,
        subst (λ z. Val (chars z) came.tree) same_text came.is_value,
        record {
          was_kind = both.left_with.same_kind ∙ empty_kind k;
          kind = right.same_kind ∙ empty_kind k;
          one_more = from_empty k (es ++ mid) right ∙ ap (λ z. z ++ mid) (sym (from_empty k es both.left_with)) ∙ ap (λ z. entries both.left ++ ((z, came.tree) ∷ [])) same;
        },
      ),
    )

pub put_in : {x y : List ℕ} {l1 r1 l2 r2 r3 l4 r4 : Walked} (s : Step) (i : ℕ) (key value spelled : List ℕ) → Holds x (empty_of kind.Array) l1 → Holds y (empty_of kind.Array) r1 → PassesFront i l1 r1 l2 r2 → Moved (TakesEntry key value) r2 r3 → key ≡ [] → value ≡ spelled → PassesRest s l2 r3 l4 r4 → ((t : Trail) → IsAt l4 t → Ends l4 t) → ((t : Trail) → IsAt r4 t → Ends r4 t) → ChangesBy (GainsAt i spelled) x y
put_in {x = x} {y = y} s i key value spelled h k front one same same_text rest end_left end_right =
    let e = empty_of kind.Array in
    let (es, both, size) = front.passed x y e e h k in
    let came = passes key value both.right_holds one in
    let (fs, close, lacks) = rest x y both.left came.all both.left_holds came.holds in
    let mid : List (List ℕ × Tree) = (key, came.tree) ∷ [] in
    let left = with_more es fs both.left_with close.left_with in
    let right = with_more (es ++ mid) fs (with_more es mid both.right_with came.one) close.right_with in (
      close.left,
      close.right,
      is_document close.left_closed end_left,
      is_document close.right_closed end_right,
      (
        came.tree,
        subst (λ z. Val (chars z) came.tree) same_text came.is_value,
        record {
          was_kind = left.same_kind;
          kind = right.same_kind;
          before = es;
          after = fs;
          was = from_empty kind.Array (es ++ fs) left;
          now = from_empty kind.Array ((es ++ mid) ++ fs) right ∙ append_assoc es mid fs ∙ ap (λ z. es ++ ((z, came.tree) ∷ fs)) same;
          there = size;
        },
      ),
    )

pub renamed : {x y : List ℕ} {l1 r1 l2 r2 l3 r3 l4 r4 : Walked} (k : Bor (List ℕ)) (n : ℕ) (key value name other new : List ℕ) → Holds x (empty_of kind.Object) l1 → Holds y (empty_of kind.Object) r1 → PassesFront n l1 r1 l2 r2 → Moved (TakesEntry key value) l2 l3 → Moved (TakesEntry name other) r2 r3 → key ≡ k.now → name ≡ new → value ≡ other → PassesRest (step.Key k) l3 r3 l4 r4 → ((t : Trail) → IsAt l4 t → Ends l4 t) → ((t : Trail) → IsAt r4 t → Ends r4 t) → ChangesBy (IsRenamed k.now new) x y
renamed {x = x} {y = y} k n key value name other new h g front one two same same_name same_text rest end_left end_right =
    let e = empty_of kind.Object in
    let (es, both, size) = front.passed x y e e h g in
    let gone = passes key value both.left_holds one in
    let came = passes name other both.right_holds two in
    let (fs, close, lacks) = rest x y gone.all came.all gone.holds came.holds in
    let mid : List (List ℕ × Tree) = (key, gone.tree) ∷ [] in
    let new_mid : List (List ℕ × Tree) = (name, came.tree) ∷ [] in
    let left = with_more (es ++ mid) fs (with_more es mid both.left_with gone.one) close.left_with in
    let right = with_more (es ++ new_mid) fs (with_more es new_mid both.right_with came.one) close.right_with in
    let tree : came.tree ≡ gone.tree = same_value other value came.tree gone.tree (sym same_text) came.is_value gone.is_value in (
      close.left,
      close.right,
      is_document close.left_closed end_left,
      is_document close.right_closed end_right,
      record {
        was_kind = left.same_kind;
        kind = right.same_kind;
        before = es;
        after = fs;
        value = gone.tree;
        was = from_empty kind.Object ((es ++ mid) ++ fs) left ∙ append_assoc es mid fs ∙ ap (λ z. es ++ ((z, gone.tree) ∷ fs)) same;
        now = from_empty kind.Object ((es ++ new_mid) ++ fs) right ∙ append_assoc es new_mid fs ∙ ap (λ z. es ++ ((z, came.tree) ∷ fs)) same_name ∙ ap (λ z. es ++ ((new, z) ∷ fs)) tree;
        last = lacks;
      },
    )

-- ---- one more member before others

pub after_first : {v w left right : Walked} → PassesRest (step.Index 0) v w left right → PassesAfter before_place.First v w left right
after_first rest = λ x y t u h k. let (es, close, lacks) = rest x y t u h k in (es, close, tt)

pub after_key : {v w l r left right : Walked} (k : Bor (List ℕ)) (key value : List ℕ) → Moved (TakesEntry key value) v l → Moved (TakesEntry key value) w r → key ≡ k.now → PassesRest (step.Key k) l r left right → PassesAfter (before_place.Key k) v w left right
after_key k key value p q same rest = λ x y t u h g.
    let (e, one) = both_one key value h g p q in
    let (es, close, lacks) = rest x y one.left one.right one.left_holds one.right_holds in
    let mid : List (List ℕ × Tree) = (key, e) ∷ [] in (
      (key, e) ∷ es,
      record {
        left = close.left;
        right = close.right;
        left_with = with_more mid es one.left_with close.left_with;
        right_with = with_more mid es one.right_with close.right_with;
        left_closed = close.left_closed;
        right_closed = close.right_closed;
      },
      (e, es, ap (λ z. (z, e) ∷ es) same, lacks),
    )

comes_between : (b : Before) (front after : List (List ℕ × Tree)) → FitsFront b (length front) → MayPrecede b after → ComesBetween b front after
comes_between before_place.First [] after n p = refl
comes_between before_place.First (e ∷ es) after n p = absurd (omega (arith, n))
comes_between (before_place.Key k) front after n p = p

pub member_put_in : {x y : List ℕ} {l1 r1 l2 r2 r3 l4 r4 : Walked} (b : Before) (n : ℕ) (key value name spelled : List ℕ) → FitsFront b n → Holds x (empty_of kind.Object) l1 → Holds y (empty_of kind.Object) r1 → PassesFront n l1 r1 l2 r2 → Moved (TakesEntry key value) r2 r3 → key ≡ name → value ≡ spelled → PassesAfter b l2 r3 l4 r4 → ((t : Trail) → IsAt l4 t → Ends l4 t) → ((t : Trail) → IsAt r4 t → Ends r4 t) → ChangesBy (GainsMember b name spelled) x y
member_put_in {x = x} {y = y} b n key value name spelled fits h k front one same same_text rest end_left end_right =
    let e = empty_of kind.Object in
    let (es, both, size) = front.passed x y e e h k in
    let came = passes key value both.right_holds one in
    let (fs, close, precedes) = rest x y both.left came.all both.left_holds came.holds in
    let mid : List (List ℕ × Tree) = (key, came.tree) ∷ [] in
    let left = with_more es fs both.left_with close.left_with in
    let right = with_more (es ++ mid) fs (with_more es mid both.right_with came.one) close.right_with in (
      close.left,
      close.right,
      is_document close.left_closed end_left,
      is_document close.right_closed end_right,
      (
        came.tree,
        subst (λ z. Val (chars z) came.tree) same_text came.is_value,
        record {
          was_kind = left.same_kind;
          kind = right.same_kind;
          before = es;
          after = fs;
          was = from_empty kind.Object (es ++ fs) left;
          now = from_empty kind.Object ((es ++ mid) ++ fs) right ∙ append_assoc es mid fs ∙ ap (λ z. es ++ ((z, came.tree) ∷ fs)) same;
          there = comes_between b es fs (subst (FitsFront b) (sym size) fits) precedes;
        },
      ),
    )

-- ---- pairs

pub both_end : {v left : Walked} (w right : Walked) (found : Option Entry) → Moved EndsEntries v left → EndsToo w right found → PassesPair v w left right found
both_end w right None p q = (p, q)
both_end w right (Some e) p q = absurd q

pub same_pair : {w right : Walked} (key value other text : List ℕ) → key ≡ other → value ≡ text → Moved (TakesEntry other text) w right → Moved (TakesEntry key value) w right
same_pair {w = w} {right = right} key value other text k v p = subst (λ z. Moved (TakesEntry z value) w right) (sym k) (subst (λ z. Moved (TakesEntry other z) w right) (sym v) p)
