-- A user's own enums: a variant is named, and its content is read.
use Rattle.std.proofs.Common.{◌≡◌, ◌≢◌, ◌==◌, ℕ, ◌+◌, ◌≤◌, Bool, true, false, List, refl, sym, ap, ◌∙◌, subst, arith, Option, Some, None, Result, Ok, Err}
use Rattle.std.proofs.lemmas.Bool.{false≢true}
use Rattle.std.specs.Prelude.{◌∷◌, if◌then◌else◌, IsErrAnd, IfOk}
use Rattle.json5_grammar.specs.Language.Documents.{max_depth}
use Rattle.json5_grammar.specs.Language.Trees.{Tree, Trees, Members, null, boolean, number, text, array, object, no_more, more, no_member, member, depth}
use Rattle.json5_grammar.specs.Language.Values.{Reads}
use Rattle.json5_grammar.specs.Model.Collections.{IsBrace, joint, array_of, object_of, snoc, joined_trees}
use Rattle.json5_grammar.proofs.MembersConverted.{object_only}
use Rattle.json5_types.specs.declared.error.Error.{Error}
use Rattle.json5_tokens.specs.Cursor.{IsOutOfMemory}
use Rattle.json5_de.specs.State.{State, SameText}
use Rattle.json5_de.specs.DeserializeLaw.{Unprompted, Gives, Completes, TookValue, IsUnprompted}
use Rattle.json5_de.specs.ConvertLists.{if_some, first_of, last_of}
use Rattle.json5_de.specs.Refinement.{if_more}
use Rattle.json5_de.specs.Arrays.{AccessState, ElementsRead, ElementsLeft, ReadsMore, LeavesFewer}
use Rattle.json5_de.specs.Objects.{MapAccessState, MembersLeft}
use Rattle.json5_de.specs.Plans.{Plan, run, ReadsMembers}
use Rattle.json5_de.specs.Enums.{EnumAccessState, NameRead, NamesVariant, ReadsVariant, GivesContent, AfterName, ContentLeft, OpensTuple, OpensStruct, ClosesTuple, ClosesStruct, enum_of, named_variant, content_of}
use Rattle.json5_de.specs.Variants.{Variant, from_index, FinishesVariant}
use Rattle.json5_de.proofs.ElementLoops.{handed_on}
use Rattle.json5_de.proofs.Refinement.{parts, completes_by}

some_parts : {A B : Type 0} (g : A → B) (o : Option A) (b : B) → if_some g o ≡ Some b → (a : A) × (o ≡ Some a) × (g a ≡ b)
some_parts g None b e = absurd (cc)
some_parts g (Some a) b e = (a, refl, cc e)

-- ---- the name, and then the content

-- another index
pub other_place : {k : ℕ} (n : ℕ) → k ≢ n → (k == n) ≡ false
other_place n not_it = grind arith

-- the variant isn't the first of these, and so one of the others
pub passed_place : {C : Type 0} (n : ℕ) (v w : Variant C) (vs : List (Variant C)) {k : ℕ} → k ≢ n → (t : Option Tree) → from_index n (v ∷ w ∷ vs) k t ≡ from_index (n + 1) (w ∷ vs) k t
passed_place {C} n v w vs {k = k} not_it t = by (k == n) (other_place n not_it)
  where
    by : (b : Bool) → b ≡ false → (if b then v.convert t else from_index (n + 1) (w ∷ vs) k t) ≡ from_index (n + 1) (w ∷ vs) k t
    by true e = absurd (cc)
    by false e = refl

-- two conversions that agree read the same contents
pub finishes_same : {V C : Type 0} {content : V → C} {f h : Option Tree → Option C} {old : EnumAccessState} {new : State} {result : Result V Error} → ((t : Option Tree) → f t ≡ h t) → FinishesVariant content h old new result → FinishesVariant content f old new result
finishes_same {V} {C} {content = content} {f = f} {h = h} {old = old} {new = new} {result = result} same done = record {
  read = by result done.read;
  left = λ t r c l is. done.left t r c l (sym (same t) ∙ is);
  unprompted = done.unprompted;
  same_text = done.same_text;
}
  where
    by : (r : Result V Error) → IfOk r (λ v. (ns : List (List ℕ)) (from : State) → NameRead ns from old → GivesContent content h ns from old.variant new v) → IfOk r (λ v. (ns : List (List ℕ)) (from : State) → NameRead ns from old → GivesContent content f ns from old.variant new v)
    by (Ok v) read = λ ns from n. let (t, d, took, is, converts) = read ns from n in (t, d, took, is, same d ∙ converts)
    by (Err e) read = tt

-- no variant was named
pub enum_refused : {A U C : Type 0} (names : List (List ℕ)) (f : ℕ → Option Tree → Option C) (state_of : A → EnumAccessState) {old : State} (e : Error) (result : Result U Error) → IsErrAnd result (λ y. y ≡ e) → NamesVariant names state_of old (Err e) → Completes (enum_of names f) old result
enum_refused names f state_of {old = old} e result is_err named = handed_on (λ r. Completes (enum_of names f) old r) e result is_err (record {
  memory = λ t r c live reads shallow is.
      let ((k, d), one, rest) = parts (λ (k, d). f k d) (named_variant names t) c is in
      named.left t r k d live reads shallow one;
})

module _ {A V C : Type 0} (names : List (List ℕ)) (f : ℕ → Option Tree → Option C) (state_of : A → EnumAccessState) {content : V → C} {old new : State} {a : A} (result : Result V Error) (named : NamesVariant names state_of old (Ok a)) (k : ℕ) (at : (state_of a).variant ≡ k) (done : FinishesVariant content (f k) (state_of a) new result) where
  -- the variant at index k was named, and its content was read
  pub enum_read : IfOk result (λ v. Gives content (enum_of names f) old new v)
  enum_read = by result done.read
    where
      by : (r : Result V Error) → IfOk r (λ v. (ns : List (List ℕ)) (from : State) → NameRead ns from (state_of a) → GivesContent content (f k) ns from (state_of a).variant new v) → IfOk r (λ v. Gives content (enum_of names f) old new v)
      by (Ok v) read = let (t, d, took, is, converts) = read names old named.read in (t, took, ap (if_more (λ (i, x). f i x)) is ∙ ap (λ i. f i d) at ∙ converts)
      by (Err e) read = tt

  -- where a tree converts its variant is named, and its content converts
  pub enum_completes : Completes (enum_of names f) old result
  enum_completes = completes_by (enum_of names f) old result (λ t r c live reads shallow is.
      let ((i, d), one, rest) = parts (λ (i, d). f i d) (named_variant names t) c is in
      let (same, left) = named.left t r i d live reads shallow one in
      done.left d r c left (ap (λ i. f i d) (sym at ∙ same) ∙ rest))

-- ---- a content that one call reads

module _ {U A V C : Type 0} {of : U → A} {f : Option Tree → Option A} {allocation_free : Option Tree → Bool} {refuses : State → Error → State → Type 0} {content : V → C} {old : EnumAccessState} {new : State} (make : A → C) where
  pub one_read : {u : U} {v : V} → ReadsVariant of f allocation_free refuses old new (Ok u) → make (of u) ≡ content v → FinishesVariant content (λ t. if_some make (f t)) old new (Ok v)
  one_read is same = record {
    read = λ names from n. let (t, d, took, one, converts) = is.read names from n in (t, d, took, one, ap (if_some make) converts ∙ ap (λ x. Some x) same);
    left = λ t r c l converts. tt;
    unprompted = tt;
    same_text = is.same_text;
  }

  pub one_refused : (e : Error) (result : Result V Error) → IsErrAnd result (λ y. y ≡ e) → ReadsVariant of f allocation_free refuses old new (Err e) → FinishesVariant content (λ t. if_some make (f t)) old new result
  one_refused e result is_err is = handed_on (λ r. FinishesVariant content (λ t. if_some make (f t)) old new r) e result is_err (record {
    read = tt;
    left = λ t r c l converts. let (d, one, rest) = some_parts make (f t) c converts in is.left t r d l one;
    unprompted = is.unprompted;
    same_text = is.same_text;
  })

-- ---- a content that is an array

array_only : {C : Type 0} (g : Trees → Option C) (t : Tree) (c : C) → array_of g t ≡ Some c → (ts : Trees) × (t ≡ array ts) × (g ts ≡ Some c)
array_only g null c is = absurd (cc)
array_only g (boolean b) c is = absurd (cc)
array_only g (number n) c is = absurd (cc)
array_only g (text u escape_free) c is = absurd (cc)
array_only g (array ts) c is = (ts, refl, is)
array_only g (object ps) c is = absurd (cc)

joined_none : (ts : Trees) → joined_trees ts no_more ≡ ts
joined_none no_more = refl
joined_none (more t ts) = ap (more t) (joined_none ts)

joined_snoc : (ts : Trees) (t : Tree) (us : Trees) → joined_trees (snoc ts t) us ≡ joined_trees ts (more t us)
joined_snoc no_more t us = refl
joined_snoc (more u ts) t us = ap (more u) (joined_snoc ts t us)

-- no element more
abbrev pub nothing : Trees → Option (Unit {0})
nothing no_more = Some tt
nothing (more t ts) = None

no_element : (ts : Trees) → nothing ts ≡ Some tt → ts ≡ no_more
no_element no_more is = refl
no_element (more t ts) is = absurd (cc)

-- what h takes begins with an element that f converts
pub record BeginsWith {C D : Type 0} (f : Tree → Option C) (h : Trees → Option D) : Type 0 where
  pub begins : (ts : Trees) (d : D) → h ts ≡ Some d → (t : Tree) × (us : Trees) × (c : C) × (ts ≡ more t us) × (f t ≡ Some c)

joint_parts : {A B : Type 0} (o : Option A) (p : Option B) (d : A × B) → joint o p ≡ Some d → (o ≡ Some d.0) × (p ≡ Some d.1)
joint_parts None p d e = absurd (cc)
joint_parts (Some a) None d e = absurd (cc)
joint_parts {A = A} {B = B} (Some a) (Some b) d e = let same : (a, b) ≡ d = cc e in (ap (λ (x : A × B). Some x.0) same, ap (λ (x : A × B). Some x.1) same)

pub with_first : {A B : Type 0} {f : Tree → Option A} (h : Trees → Option B) → BeginsWith f (first_of f h)
with_first {A} {B} {f = f} h = record { begins = by }
  where
    by : (ts : Trees) (d : A × B) → first_of f h ts ≡ Some d → (t : Tree) × (us : Trees) × (c : A) × (ts ≡ more t us) × (f t ≡ Some c)
    by no_more d is = absurd (cc)
    by (more t us) d is = let (one, others) = joint_parts (f t) (h us) d is in (t, us, d.0, refl, one)

pub with_last : {A : Type 0} {f : Tree → Option A} → BeginsWith f (last_of f)
with_last {A} {f = f} = record { begins = by }
  where
    by : (ts : Trees) (d : A) → last_of f ts ≡ Some d → (t : Tree) × (us : Trees) × (c : A) × (ts ≡ more t us) × (f t ≡ Some c)
    by no_more d is = absurd (cc)
    by (more t no_more) d is = (t, no_more, d, refl, is)
    by (more t (more u us)) d is = absurd (cc)

-- elements that h takes are left, which make a of the whole
pub record RestOf {A D : Type 0} (h : Trees → Option D) (make : D → A) (a : A) (r : List ℕ) (now : AccessState) : Type 0 where
  pub trees : Trees
  pub values : D
  pub are : h trees ≡ Some values
  pub same : make values ≡ a
  pub after : List ℕ
  pub left : ElementsLeft trees after now
  pub brace : IsBrace true after r

-- the array that g takes, between two of its elements: h takes those that are left, and make says what the whole is
pub record InTuple {A D : Type 0} (g : Trees → Option A) (old : EnumAccessState) (h : Trees → Option D) (make : D → A) (now : AccessState) : Type 0 where
  pub has_content : old.has_content ≡ true
  pub trees : Trees
  pub read : ElementsRead old.reader trees now
  pub are : (us : Trees) (d : D) → h us ≡ Some d → g (joined_trees trees us) ≡ Some (make d)
  pub left : (t : Option Tree) (r : List ℕ) (a : A) → ContentLeft t r old → content_of (array_of g) t ≡ Some a → RestOf h make a r now

module _ {A : Type 0} {g : Trees → Option A} {old : EnumAccessState} where
  -- it begins
  pub tuple_begun : {X : Type 0} (state_of : X → AccessState) {x : X} → OpensTuple state_of old (Ok x) → InTuple g old g (λ a. a) (state_of x)
  tuple_begun state_of {x = x} opens = record { has_content = opens.content.has_content; trees = no_more; read = opens.read; are = λ us d is. is; left = by }
    where
      by : (t : Option Tree) (r : List ℕ) (a : A) → ContentLeft t r old → content_of (array_of g) t ≡ Some a → RestOf g (λ a. a) a r (state_of x)
      by None r a l is = absurd (cc)
      by (Some t) r a l is =
          let (ts, one, are) = array_only g t a is in
          let (z, reads, close) = l.tail in
          record {
            trees = ts;
            values = a;
            are = are;
            same = refl;
            after = z;
            left = opens.left ts z opens.content.has_content l.live (subst (λ u. Reads old.reader.unread u z) one reads) (subst (λ u. old.reader.level + depth u ≤ max_depth) one l.shallow);
            brace = close;
          }

  -- no array was opened
  pub tuple_refused : {X V C : Type 0} (state_of : X → AccessState) (make : A → C) (content : V → C) {new : State} (e : Error) (result : Result V Error) → IsErrAnd result (λ y. y ≡ e) → OpensTuple state_of old (Err e) → SameText old.reader new
      → FinishesVariant content (λ t. if_some make (content_of (array_of g) t)) old new result
  tuple_refused {V = V} {C = C} state_of make content {new = new} e result is_err opens same = handed_on (λ r. FinishesVariant content (λ t. if_some make (content_of (array_of g) t)) old new r) e result is_err (record {
    read = tt;
    left = λ t r c l is. by t r c l is;
    unprompted = opens.content.unprompted;
    same_text = same;
  })
    where
      by : (t : Option Tree) (r : List ℕ) (c : C) → ContentLeft t r old → if_some make (content_of (array_of g) t) ≡ Some c → IsOutOfMemory e
      by None r c l is = absurd (cc)
      by (Some t) r c l is =
          let (a, whole, rest) = some_parts make (array_of g t) c is in
          let (ts, one, are) = array_only g t a whole in
          let (z, reads, close) = l.tail in
          absurd (opens.left ts z l.content l.live (subst (λ u. Reads old.reader.unread u z) one reads) (subst (λ u. old.reader.level + depth u ≤ max_depth) one l.shallow))

  module _ {E C : Type 0} {f : Tree → Option C} {content : E → C} {now new : AccessState} {v : E} where
    -- an element was read, and others follow
    pub first_on : {D : Type 0} {h : Trees → Option D} {make : C × D → A} → InTuple g old (first_of f h) make now → ReadsMore content f now new (Some v) → ((ts : Trees) (r : List ℕ) → ElementsLeft ts r now → LeavesFewer content f ts r new (Ok (Some v)))
        → InTuple g old h (λ d. make (content v, d)) new
    first_on {D = D} {h = h} {make = make} m (t, is, on) fewer = record {
      has_content = m.has_content;
      trees = snoc m.trees t;
      read = on old.reader m.trees m.read;
      are = λ us d others. ap g (joined_snoc m.trees t us) ∙ m.are (more t us) (content v, d) (rw (is, others) refl);
      left = λ s r a l whole. let w = m.left s r a l whole in by a r w.trees w.values w.after w.are w.same w.brace (fewer w.trees w.after w.left);
    }
      where
        by : (a : A) (r : List ℕ) (ts : Trees) (d : C × D) (z : List ℕ) → first_of f h ts ≡ Some d → make d ≡ a → IsBrace true z r → LeavesFewer content f ts z new (Ok (Some v)) → RestOf h (λ x. make (content v, x)) a r new
        by a r no_more d z are same close left = absurd (cc)
        by a r (more u us) d z are same close (one, left) =
            let (first, others) = joint_parts (f u) (h us) d are in
            let equal : Some (content v) ≡ Some d.0 = sym one ∙ first in
            let value : content v ≡ d.0 = cc equal in
            record { trees = us; values = d.1; are = others; same = ap (λ x. make (x, d.1)) value ∙ same; after = z; left = left; brace = close }

    -- the last was read
    pub last_on : {make : C → A} → InTuple g old (last_of f) make now → ReadsMore content f now new (Some v) → ((ts : Trees) (r : List ℕ) → ElementsLeft ts r now → LeavesFewer content f ts r new (Ok (Some v)))
        → InTuple g old nothing (λ none. make (content v)) new
    last_on {make = make} m (t, is, on) fewer = record {
      has_content = m.has_content;
      trees = snoc m.trees t;
      read = on old.reader m.trees m.read;
      are = λ us d none. are us none;
      left = λ s r a l whole. let w = m.left s r a l whole in by a r w.trees w.values w.after w.are w.same w.brace (fewer w.trees w.after w.left);
    }
      where
        are : (us : Trees) → nothing us ≡ Some tt → g (joined_trees (snoc m.trees t) us) ≡ Some (make (content v))
        are no_more none = ap g (joined_snoc m.trees t no_more) ∙ m.are (more t no_more) (content v) is
        are (more u us) none = absurd (cc)

        by : (a : A) (r : List ℕ) (ts : Trees) (d : C) (z : List ℕ) → last_of f ts ≡ Some d → make d ≡ a → IsBrace true z r → LeavesFewer content f ts z new (Ok (Some v)) → RestOf nothing (λ none. make (content v)) a r new
        by a r no_more d z are same close left = absurd (cc)
        by a r (more u no_more) d z are same close (one, left) =
            let equal : Some (content v) ≡ Some d = sym one ∙ are in
            let value : content v ≡ d = cc equal in
            record { trees = no_more; values = tt; are = refl; same = ap make value ∙ same; after = z; left = left; brace = close }
        by a r (more u (more w us)) d z are same close left = absurd (cc)

  module _ {V B D : Type 0} {h : Trees → Option D} {of : D → A} {now : AccessState} (make : A → B) (content : V → B) where
    still_live : InTuple g old h of now → now.reader.failed ≡ false
    still_live m = ap (λ (s : State). s.failed) m.read.rest ∙ m.read.live

    same_input : (new : State) → InTuple g old h of now → SameText now.reader new → SameText old.reader new
    same_input new m same = same ∙ ap (λ (s : State). s.input) m.read.rest

    refused_in : {new : State} (e : Error) (result : Result V Error) → IsErrAnd result (λ y. y ≡ e) → InTuple g old h of now → (now.reader.failed ≡ false → IsUnprompted e) → SameText now.reader new
        → ((ts : Trees) (z r : List ℕ) (d : D) → h ts ≡ Some d → ElementsLeft ts z now → IsBrace true z r → IsOutOfMemory e) → FinishesVariant content (λ t. if_some make (content_of (array_of g) t)) old new result
    refused_in {new = new} e result is_err m unprompted same memory = handed_on (λ r. FinishesVariant content (λ t. if_some make (content_of (array_of g) t)) old new r) e result is_err (record {
      read = tt;
      left = λ t r c l is.
          let (a, whole, rest) = some_parts make (content_of (array_of g) t) c is in
          let w = m.left t r a l whole in
          memory w.trees w.after r w.values w.are w.left w.brace;
      unprompted = λ live. unprompted (still_live m);
      same_text = same_input new m same;
    })

    module _ {E C : Type 0} {f : Tree → Option C} {given : E → C} {next : AccessState} {new : State} (one : BeginsWith f h) where
      -- an element was refused
      pub element_refused : (e : Error) (result : Result V Error) → IsErrAnd result (λ y. y ≡ e) → InTuple g old h of now → (now.reader.failed ≡ false → IsUnprompted e) → ((ts : Trees) (r : List ℕ) → ElementsLeft ts r now → LeavesFewer given f ts r next (Err e))
          → SameText now.reader new → FinishesVariant content (λ t. if_some make (content_of (array_of g) t)) old new result
      element_refused e result is_err m unprompted fewer same = refused_in e result is_err m unprompted same (λ ts z r d are left close.
          let (t, us, c, split, is) = one.begins ts d are in subst (λ u. LeavesFewer given f u z next (Err e)) split (fewer ts z left) c is)

      -- one is missing
      pub element_missing : {e : Error} → InTuple g old h of now → IsUnprompted e → ((ts : Trees) (r : List ℕ) → ElementsLeft ts r now → LeavesFewer given f ts r next (Ok None)) → SameText now.reader new
          → FinishesVariant content (λ t. if_some make (content_of (array_of g) t)) old new (Err e)
      element_missing {e = e} m unprompted fewer same = refused_in e (Err e) refl m (λ live. unprompted) same (λ ts z r d are left close.
          let (t, us, c, split, is) = one.begins ts d are in absurd (subst (λ u. LeavesFewer given f u z next (Ok None)) split (fewer ts z left)))

  module _ {V B : Type 0} {of : Unit {0} → A} {now : AccessState} {brace : ℕ} {last : State} (make : A → B) (content : V → B) where
    -- its bracket or the variant's brace was refused
    pub tuple_open : (e : Error) (result : Result V Error) → IsErrAnd result (λ y. y ≡ e) → InTuple g old nothing of now → ClosesTuple brace now last (Err e) → FinishesVariant content (λ t. if_some make (content_of (array_of g) t)) old last result
    tuple_open e result is_err m closes = refused_in make content e result is_err m closes.bracket.unprompted closes.bracket.same_text (λ ts z r d are left close.
        absurd (false≢true (closes.left z r (subst (λ u. ElementsLeft u z now) (no_element ts are) left) close)))

    -- both were taken
    pub tuple_read : {new : State} {v : V} → InTuple g old nothing of now → ClosesTuple brace now last (Ok tt) → new ≡ last → make (of tt) ≡ content v → FinishesVariant content (λ t. if_some make (content_of (array_of g) t)) old new (Ok v)
    tuple_read {new = new} {v = v} m closes at same = record {
      read = λ names from n.
          let after = subst (λ b. AfterName b from n.name n.escape_free old.reader) m.has_content n.after in
          let took = closes.read from old.reader n.name n.escape_free m.trees after m.read in
          let converts = ap g (sym (joined_none m.trees)) ∙ m.are no_more tt refl in
          (object (member n.name n.escape_free (array m.trees) no_member), Some (array m.trees), subst (λ s. TookValue from (object (member n.name n.escape_free (array m.trees) no_member)) s) (sym at) took, ap (if_some (λ k. (k, Some (array m.trees)))) n.place, ap (if_some make) converts ∙ ap (λ x. Some x) same);
      left = λ t r c l is. tt;
      unprompted = tt;
      same_text = subst (λ s. SameText old.reader s) (sym at) (same_input make content last m closes.bracket.same_text);
    }

-- ---- a content that is an object, by its fields

module _ {S D : Type 0} (plan : Plan S D) {X : Type 0} (state_of : X → MapAccessState) {x : X} {old : EnumAccessState} (opens : OpensStruct state_of old (Ok x)) {V C : Type 0} (make : D → C) (content : V → C) where
  struct_live : (state_of x).at.reader.failed ≡ false
  struct_live = ap (λ (s : State). s.failed) opens.read.rest ∙ opens.read.live

  struct_input : (new : State) → SameText (state_of x).at.reader new → SameText old.reader new
  struct_input new same = same ∙ opens.same_text

  refused_fields : {new : State} (e : Error) (result : Result V Error) → IsErrAnd result (λ y. y ≡ e) → (old.reader.failed ≡ false → IsUnprompted e) → SameText old.reader new
      → ((ps : Members) (z r : List ℕ) (m : S) (d : D) → run plan.step plan.start ps ≡ Some m → plan.build m ≡ Some d → MembersLeft ps z (state_of x) → IsBrace true z r → IsOutOfMemory e) → FinishesVariant content (λ t. if_some make (content_of (object_of plan.convert) t)) old new result
  refused_fields {new = new} e result is_err unprompted same memory = handed_on (λ r. FinishesVariant content (λ t. if_some make (content_of (object_of plan.convert) t)) old new r) e result is_err (record {
    read = tt;
    left = λ t r c l is. by t r c l is;
    unprompted = unprompted;
    same_text = same;
  })
    where
      by : (t : Option Tree) (r : List ℕ) (c : C) → ContentLeft t r old → if_some make (content_of (object_of plan.convert) t) ≡ Some c → IsOutOfMemory e
      by None r c l is = absurd (cc)
      by (Some t) r c l is =
          let (d, whole, rest) = some_parts make (object_of plan.convert t) c is in
          let (ps, one, converts) = object_only plan.convert t d whole in
          let (z, reads, close) = l.tail in
          let (m, are, built) = parts plan.build (run plan.step plan.start ps) d (sym (plan.says ps) ∙ converts) in
          memory ps z r m d are built (opens.left ps z opens.content.has_content l.live (subst (λ u. Reads old.reader.unread u z) one reads) (subst (λ u. old.reader.level + depth u ≤ max_depth) one l.shallow)) close

  -- the refusal of its members isn't `Failed`
  pub fields_unprompted : (before : State) {n : S} {now : MapAccessState} (e : Error) (result : Result V Error) → IsErrAnd result (λ y. y ≡ e) → ReadsMembers plan.step plan.start n (state_of x) now (Err e) → Unprompted before result
  fields_unprompted before e result is_err reads = handed_on (λ r. Unprompted before r) e result is_err (λ live. reads.unprompted struct_live)

  -- its members were refused
  pub fields_refused : {n : S} {now : MapAccessState} {new : State} (e : Error) (result : Result V Error) → IsErrAnd result (λ y. y ≡ e) → ReadsMembers plan.step plan.start n (state_of x) now (Err e) → SameText (state_of x).at.reader new
      → FinishesVariant content (λ t. if_some make (content_of (object_of plan.convert) t)) old new result
  fields_refused {new = new} e result is_err reads same = refused_fields e result is_err (λ live. reads.unprompted struct_live) (struct_input new same) (λ ps z r m d are built left close. reads.left ps z m are left)

  -- all its members were read, and they make no struct
  pub field_missing : {n : S} {now : MapAccessState} {new : State} (e : Error) (result : Result V Error) → IsErrAnd result (λ y. y ≡ e) → ReadsMembers plan.step plan.start n (state_of x) now (Ok tt) → plan.build n ≡ None → IsUnprompted e → SameText (state_of x).at.reader new
      → FinishesVariant content (λ t. if_some make (content_of (object_of plan.convert) t)) old new result
  field_missing {new = new} e result is_err reads none own same = refused_fields e result is_err (λ live. own) (struct_input new same) (λ ps z r m d are built left close.
      let (one, rest) = reads.left ps z m are left in
      let both : Some d ≡ None = sym built ∙ ap plan.build one ∙ none in
      absurd (cc both))

  module _ {n : S} {now : MapAccessState} {brace : ℕ} {last : State} where
    -- its bracket or the variant's brace was refused
    pub struct_open : (e : Error) (result : Result V Error) → IsErrAnd result (λ y. y ≡ e) → ReadsMembers plan.step plan.start n (state_of x) now (Ok tt) → now.pending ≡ false → SameText (state_of x).at.reader now.at.reader → ClosesStruct brace now last (Err e)
        → FinishesVariant content (λ t. if_some make (content_of (object_of plan.convert) t)) old last result
    struct_open e result is_err reads none same closes = refused_fields e result is_err (λ live. closes.bracket.unprompted reads.live) (struct_input last (closes.bracket.same_text ∙ same)) (λ ps z r m d are built left close.
        let (one, rest) = reads.left ps z m are left in absurd (false≢true (closes.left z r none rest close)))

    -- both were taken
    pub struct_content : {new : State} {v : V} {d : D} → ReadsMembers plan.step plan.start n (state_of x) now (Ok tt) → SameText (state_of x).at.reader now.at.reader → ClosesStruct brace now last (Ok tt) → new ≡ last → plan.build n ≡ Some d → make d ≡ content v
        → FinishesVariant content (λ t. if_some make (content_of (object_of plan.convert) t)) old new (Ok v)
    struct_content {new = new} {v = v} {d = d} reads inside closes at built same = record {
      read = λ names from n.
          let (ps, are, on) = reads.read in
          let after = subst (λ b. AfterName b from n.name n.escape_free old.reader) opens.content.has_content n.after in
          let took = closes.read from old.reader n.name n.escape_free ps after (on old.reader opens.read) in
          let converts = plan.says ps ∙ ap (if_more plan.build) are ∙ built in
          (object (member n.name n.escape_free (object ps) no_member), Some (object ps), subst (λ s. TookValue from (object (member n.name n.escape_free (object ps) no_member)) s) (sym at) took, ap (if_some (λ k. (k, Some (object ps)))) n.place, ap (if_some make) converts ∙ ap (λ x. Some x) same);
      left = λ t r c l is. tt;
      unprompted = tt;
      same_text = subst (λ s. SameText old.reader s) (sym at) (struct_input last (closes.bracket.same_text ∙ inside));
    }

-- no object was opened
pub struct_refused : {X S D V C : Type 0} (plan : Plan S D) (state_of : X → MapAccessState) (make : D → C) (content : V → C) {old : EnumAccessState} {new : State} (e : Error) (result : Result V Error) → IsErrAnd result (λ y. y ≡ e) → OpensStruct state_of old (Err e) → SameText old.reader new
    → FinishesVariant content (λ t. if_some make (content_of (object_of plan.convert) t)) old new result
struct_refused {V = V} {C = C} plan state_of make content {old = old} {new = new} e result is_err opens same = handed_on (λ r. FinishesVariant content (λ t. if_some make (content_of (object_of plan.convert) t)) old new r) e result is_err (record {
  read = tt;
  left = λ t r c l is. by t r c l is;
  unprompted = opens.content.unprompted;
  same_text = same;
})
  where
    by : (t : Option Tree) (r : List ℕ) (c : C) → ContentLeft t r old → if_some make (content_of (object_of plan.convert) t) ≡ Some c → IsOutOfMemory e
    by None r c l is = absurd (cc)
    by (Some t) r c l is =
        let (d, whole, rest) = some_parts make (object_of plan.convert t) c is in
        let (ps, one, converts) = object_only plan.convert t d whole in
        let (z, reads, close) = l.tail in
        absurd (opens.left ps z l.content l.live (subst (λ u. Reads old.reader.unread u z) one reads) (subst (λ u. old.reader.level + depth u ≤ max_depth) one l.shallow))
