-- A list that is read in a loop: what was read, what is left, and how many.
use Rattle.std.proofs.Common.{◌≡◌, ℕ, ◌+◌, ◌<◌, ◌≤◌, true, false, List, [], ◌∷◌, ◌++◌, length, map, refl, sym, ap, ◌∙◌, subst, arith, Option, Some, None, Ok, Err}
use Rattle.std.proofs.lemmas.List.{length-append, map-append, length-map}
use Rattle.std.proofs.lemmas.Bool.{false≢true}
use Rattle.std.specs.Prelude.{Result, IsOk, IfErr, IsErrAnd}
use Rattle.std.specs.Str.{encode_utf8_all}
use Rattle.json5_grammar.specs.Language.Characters.{left_bracket}
use Rattle.json5_read.specs.Brackets.{square}
use Rattle.json5_grammar.specs.Language.Documents.{max_depth}
use Rattle.json5_grammar.specs.Language.Trees.{Tree, Trees, array, no_more, more, depth}
use Rattle.json5_grammar.specs.Language.Values.{Reads}
use Rattle.json5_grammar.specs.Model.Collections.{contents, array_of, snoc}
use Rattle.json5_grammar.proofs.ElementsConverted.{both_parts, contents_snoc}
use Rattle.json5_types.specs.declared.error.Error.{Error}
use Rattle.json5_tokens.specs.Cursor.{IsOutOfMemory}
use Rattle.json5_de.specs.State.{State}
use Rattle.json5_de.specs.DeserializeLaw.{TookValue, Completes}
use Rattle.json5_de.specs.Arrays.{AccessState, Opened, OpensArray, ClosesArray, ElementsRead, ElementsLeft, ReadsMore, LeavesFewer}
use Rattle.json5_de.specs.AccessCalls.{RefusedAtBracket}
use Rattle.json5_de.specs.ListFaults.{element, every, count, ReadWithin, any_number, array_of_size, at_element, too_many, LeavesRequired, RefusesRequired, RefusesList}
use Rattle.json5_de.proofs.ListFaults.{every_accepted, count_values, refuses_list, required_fault, reading}

-- elements that convert are left: `all` in number, less the `read` ones
pub record ManyLeft {C : Type 0} (f : Tree → Option C) (r : List ℕ) (all read : ℕ) (now : AccessState) : Type 0 where
  pub trees : Trees
  pub values : List C
  pub are : contents f trees ≡ Some values
  pub left : ElementsLeft trees r now
  pub counted : read + length values ≡ all

-- an array between two elements: the values are what the elements that were read convert to, and if all of the array converts, the
-- other elements are left
pub record Reading {V C : Type 0} (content : V → C) (f : Tree → Option C) (old : State) (vs : List V) (now : AccessState) : Type 0 where
  pub first : State
  pub opened : Opened square old first
  pub start : (before : List ℕ) → old.input ≡ before ++ left_bracket ∷ first.unread → now.start ≡ length (encode_utf8_all before)
  pub trees : Trees
  pub are : contents f trees ≡ Some (map content vs)
  pub read : ElementsRead old trees now
  pub left : (ts : Trees) (r : List ℕ) (cs : List C) → contents f ts ≡ Some cs → old.failed ≡ false → Reads old.unread (array ts) r → old.level + depth (array ts) ≤ max_depth → ManyLeft f r (length cs) (length vs) now

-- ---- the loop's steps

-- it begins, with no value
pub begins : {A V C : Type 0} {Held : A → Type 0} (content : V → C) (f : Tree → Option C) {old : State} {vs : List V} (state_of : A → AccessState) (a : A) → OpensArray Held state_of old (Ok a) → vs ≡ [] → Reading content f old vs (state_of a)
begins content f state_of a opens e = record {
  first = (state_of a).reader;
  opened = opens.bracket.opened.0;
  start = opens.bracket.start;
  trees = no_more;
  are = rw e refl;
  read = opens.read;
  left = λ ts r cs are live reads shallow. let none = ap length e in record { trees = ts; values = cs; are = are; left = opens.left ts r live reads shallow; counted = omega (arith, none) };
}

one_less : {V C : Type 0} (content : V → C) (f : Tree → Option C) (ts : Trees) (r : List ℕ) (all done more_done : ℕ) (new : AccessState) (v : V) (cs : List C) → contents f ts ≡ Some cs → done + length cs ≡ all → more_done ≡ done + 1
    → LeavesFewer content f ts r new (Ok (Some v)) → ManyLeft f r all more_done new
one_less content f no_more r all done more_done new v cs are counted one fewer = absurd fewer
one_less content f (more t ts) r all done more_done new v cs are counted one (is, left) =
    let (c, rest, is_c, others, k) = both_parts (f t) (contents f ts) cs are in
    let length_is = ap length k in
    record { trees = ts; values = rest; are = others; left = left; counted = omega (arith, length_is, counted, one) }

-- one value more, which may be kept in another form than it was read
pub steps : {V W C : Type 0} (content : V → C) (given : W → C) {f : Tree → Option C} {old : State} {vs ws : List V} {s new : AccessState} (v : V) (w : W) → given w ≡ content v → Reading content f old vs s → ws ≡ vs ++ v ∷ [] → new.start ≡ s.start
    → ReadsMore given f s new (Some w) → ((ts : Trees) (r : List ℕ) → ElementsLeft ts r s → LeavesFewer given f ts r new (Ok (Some w))) → Reading content f old ws new
steps content given {f = f} {old = old} {vs = vs} {ws = ws} {new = new} v w same m e start (t, is, on) fewer = record {
  first = m.first;
  opened = m.opened;
  start = λ before split. start ∙ m.start before split;
  trees = snoc m.trees t;
  are = let all = ap (λ xs. map content xs) e ∙ map-append content vs (v ∷ []) in rw all (contents_snoc f m.trees t (map content vs) (content v) m.are (is ∙ ap Some same));
  read = on old m.trees m.read;
  left = λ ts r cs are live reads shallow.
      let l = m.left ts r cs are live reads shallow in
      let one = ap length e ∙ length-append vs (v ∷ []) in
      one_less given f l.trees r (length cs) (length vs) (length ws) new w l.values l.are l.counted one (fewer l.trees r l.left);
}

-- it stops, and the bracket was taken: what was read is the whole array
pub stops : {V C D : Type 0} {content : V → C} {f : Tree → Option C} {g : Trees → Option D} {d : D} {old last end : State} {vs : List V} {now : AccessState} → Reading content f old vs now → end ≡ last
    → ((ts : Trees) → ElementsRead old ts now → TookValue old (array ts) last) → ((ts : Trees) → contents f ts ≡ Some (map content vs) → g ts ≡ Some d) → (t : Tree) × TookValue old t end × (array_of g t ≡ Some d)
stops {old = old} m same ends whole = (array m.trees, subst (λ n. TookValue old (array m.trees) n) (sym same) (ends m.trees m.read), whole m.trees m.are)

-- ---- a tree that converts is read

is_array : {C : Type 0} (g : Trees → Option C) (s : State) (t : Tree) (r : List ℕ) (v : C) → Reads s.unread t r → s.level + depth t ≤ max_depth → array_of g t ≡ Some v
    → (ts : Trees) × (g ts ≡ Some v) × Reads s.unread (array ts) r × (s.level + depth (array ts) ≤ max_depth)
is_array g s t r v reads shallow converts = grind arith

next_refused : {V C : Type 0} (content : V → C) (f : Tree → Option C) (ts : Trees) (r : List ℕ) (new : AccessState) (e : Error) (cs : List C) → contents f ts ≡ Some cs → LeavesFewer content f ts r new (Err e) → IsOutOfMemory e
next_refused content f no_more r new e cs are fewer = absurd fewer
next_refused content f (more t ts) r new e cs are fewer = let (c, rest, is, others, k) = both_parts (f t) (contents f ts) cs are in fewer c is

required_refused : {V C : Type 0} (content : V → C) (f : Tree → Option C) (ts : Trees) (r : List ℕ) (new : AccessState) (e : Error) (cs : List C) → contents f ts ≡ Some cs → 0 < length cs → LeavesRequired content f ts r new (Err e) → IsOutOfMemory e
required_refused content f no_more r new e cs are some fewer = let none : [] ≡ cs = cc in let zero = ap length none in absurd (omega (arith, some, zero))
required_refused content f (more t ts) r new e cs are some fewer = let (c, rest, is, others, k) = both_parts (f t) (contents f ts) cs are in fewer c is

none_left : {V C : Type 0} (content : V → C) (f : Tree → Option C) (ts : Trees) (r : List ℕ) (new : AccessState) → LeavesFewer content f ts r new (Ok None) → ElementsLeft no_more r new
none_left content f no_more r new left = left
none_left content f (more t ts) r new left = absurd left

all_taken : {C : Type 0} (f : Tree → Option C) (ts : Trees) (r : List ℕ) (s : AccessState) (cs : List C) → contents f ts ≡ Some cs → length cs ≡ 0 → ElementsLeft ts r s → ElementsLeft no_more r s
all_taken f no_more r s cs are none left = left
all_taken f (more t ts) r s cs are none left =
    let (c, rest, is, others, k) = both_parts (f t) (contents f ts) cs are in
    let length_is = ap length k in
    absurd (omega (arith, length_is, none))

-- what converts has elements that do
abbrev pub HasContents : {C D : Type 0} → (Tree → Option C) → (Trees → Option D) → Type 0
HasContents {C = C} {D = D} f g = (ts : Trees) (d : D) → g ts ≡ Some d → (cs : List C) × (contents f ts ≡ Some cs)

-- so many of them
abbrev pub HasSoMany : {C D : Type 0} → (Tree → Option C) → (Trees → Option D) → ℕ → Type 0
HasSoMany {C = C} {D = D} f g n = (ts : Trees) (d : D) → g ts ≡ Some d → (cs : List C) × (contents f ts ≡ Some cs) × (length cs ≡ n)

-- at most so many of them
abbrev pub HasAtMost : {C D : Type 0} → (Tree → Option C) → (Trees → Option D) → ℕ → Type 0
HasAtMost {C = C} {D = D} f g n = (ts : Trees) (d : D) → g ts ≡ Some d → (cs : List C) × (contents f ts ≡ Some cs) × (length cs ≤ n)

-- a refusal was forwarded
pub handed_on : {T E : Type 0} (P : Result T E → Type 0) (e : E) (r : Result T E) → IsErrAnd r (λ y. y ≡ e) → P (Err e) → P r
handed_on P e (Ok v) is p = absurd is
handed_on P e (Err y) is p = subst (λ z. P (Err z)) (sym is) p

-- what can be read was refused only for want of memory, and the refusal was forwarded
pub completes_as : {V C : Type 0} (convert : Tree → Option C) (old : State) (e : Error) (result : Result V Error) → IsErrAnd result (λ y. y ≡ e)
    → ((t : Tree) (r : List ℕ) (c : C) → old.failed ≡ false → Reads old.unread t r → old.level + depth t ≤ max_depth → convert t ≡ Some c → IsOutOfMemory e) → Completes convert old result
completes_as convert old e result is k = handed_on (λ r. Completes convert old r) e result is (record { memory = k })

-- no array was opened
pub unopened_completes : {A U D : Type 0} {Held : A → Type 0} {state_of : A → AccessState} {old : State} (g : Trees → Option D) (e : Error) (result : Result U Error) → IsErrAnd result (λ y. y ≡ e) → OpensArray Held state_of old (Err e) → Completes (array_of g) old result
unopened_completes {old = old} g e result is_err opens = completes_as (array_of g) old e result is_err (λ t r d live reads shallow converts.
    let (ts, is, list, deep) = is_array g old t r d reads shallow converts in
    absurd (opens.left ts r live list deep))

module _ {U V W C D : Type 0} {content : V → C} (given : W → C) {f : Tree → Option C} (g : Trees → Option D) {vs : List V} {old : State} {now new : AccessState} (e : Error) (result : Result U Error) where
  -- an element was refused
  pub next_completes : IsErrAnd result (λ y. y ≡ e) → HasContents f g → Reading content f old vs now → ((ts : Trees) (r : List ℕ) → ElementsLeft ts r now → LeavesFewer given f ts r new (Err e)) → Completes (array_of g) old result
  next_completes is_err parts m fewer = completes_as (array_of g) old e result is_err (λ t r d live reads shallow converts.
      let (ts, is, list, deep) = is_array g old t r d reads shallow converts in
      let (cs, are) = parts ts d is in
      let w = m.left ts r cs are live list deep in
      next_refused given f w.trees r new e w.values w.are (fewer w.trees r w.left))

  -- an element that has to be there was refused
  pub required_completes : IsErrAnd result (λ y. y ≡ e) → (n : ℕ) → HasSoMany f g n → length vs < n → Reading content f old vs now → ((ts : Trees) (r : List ℕ) → ElementsLeft ts r now → LeavesRequired given f ts r new (Err e)) → Completes (array_of g) old result
  required_completes is_err n parts few m fewer = completes_as (array_of g) old e result is_err (λ t r d live reads shallow converts.
      let (ts, is, list, deep) = is_array g old t r d reads shallow converts in
      let (cs, are, count) = parts ts d is in
      let w = m.left ts r cs are live list deep in
      let counted = w.counted in
      required_refused given f w.trees r new e w.values w.are (omega (arith, few, count, counted)) (fewer w.trees r w.left))

  -- no element was returned, and the bracket was refused
  pub end_completes : IsErrAnd result (λ y. y ≡ e) → HasContents f g → Reading content f old vs now → ((ts : Trees) (r : List ℕ) → ElementsLeft ts r now → LeavesFewer given f ts r new (Ok None))
      → ((r : List ℕ) → ElementsLeft no_more r new → IsOk {T = Unit {0}} {E = Error} (Err e)) → Completes (array_of g) old result
  end_completes is_err parts m fewer ends = completes_as (array_of g) old e result is_err (λ t r d live reads shallow converts.
      let (ts, is, list, deep) = is_array g old t r d reads shallow converts in
      let (cs, are) = parts ts d is in
      let w = m.left ts r cs are live list deep in
      absurd (false≢true (ends r (none_left given f w.trees r new (fewer w.trees r w.left)))))

-- one more was read than there may be, and is refused
pub past_completes : {V C D : Type 0} {content : V → C} {f : Tree → Option C} (g : Trees → Option D) {vs : List V} {old : State} {now : AccessState} (e : Error) (n : ℕ) → HasAtMost f g n → n < length vs → Reading content f old vs now → Completes {V = Unit {0}} (array_of g) old (Err e)
past_completes g {old = old} e n parts past m = record {
  memory = λ t r d live reads shallow converts.
      let (ts, is, list, deep) = is_array g old t r d reads shallow converts in
      let (cs, are, few) = parts ts d is in
      let w = m.left ts r cs are live list deep in
      let counted = w.counted in
      absurd (omega (arith, past, few, counted));
}

module _ {U V C D : Type 0} {content : V → C} {f : Tree → Option C} (g : Trees → Option D) {vs : List V} {old : State} {now : AccessState} (e : Error) (result : Result U Error) where
  -- the bracket was refused where all elements were read
  pub last_completes : IsErrAnd result (λ y. y ≡ e) → (n : ℕ) → HasSoMany f g n → length vs ≡ n → Reading content f old vs now → ((r : List ℕ) → ElementsLeft no_more r now → IsOk {T = Unit {0}} {E = Error} (Err e)) → Completes (array_of g) old result
  last_completes is_err n parts all m ends = completes_as (array_of g) old e result is_err (λ t r d live reads shallow converts.
      let (ts, is, list, deep) = is_array g old t r d reads shallow converts in
      let (cs, are, count) = parts ts d is in
      let w = m.left ts r cs are live list deep in
      let counted = w.counted in
      absurd (false≢true (ends r (all_taken f w.trees r now w.values w.are (omega (arith, all, count, counted)) w.left))))

-- ---- where it is refused

in_loop : {V C : Type 0} {content : V → C} {f : Tree → Option C} (refuses : State → Error → State → Type 0) {old : State} {vs : List V} {now : AccessState} → Reading content f old vs now → ReadWithin (every (element f refuses)) old now (length vs)
in_loop {content = content} {f = f} refuses {vs = vs} m = record {
  first = m.first;
  opened = m.opened;
  start = m.start;
  trees = m.trees;
  counted = count_values f m.trees (map content vs) m.are ∙ length-map vs content;
  read = m.read;
  accepted = every_accepted f refuses m.trees (map content vs) m.are;
}

module _ {U V C : Type 0} {content : V → C} {f : Tree → Option C} (refuses : State → Error → State → Type 0) {old : State} {vs : List V} {now : AccessState} (e : Error) (result : Result U Error) where
  -- an element was refused
  pub next_faults : (new : State) → IsErrAnd result (λ y. y ≡ e) → Reading content f old vs now → (now.reader.failed ≡ false → RefusedAtBracket refuses now e) → new.failed ≡ true → IfErr result (λ y. RefusesList (every (element f refuses)) any_number old y new)
  next_faults new is_err m fault failed = handed_on (λ r. IfErr r (λ y. RefusesList (every (element f refuses)) any_number old y new)) e result is_err
      (refuses_list (every (element f refuses)) any_number old e new m.opened.live failed (at_element now (length vs) (in_loop refuses m) tt (fault (reading (every (element f refuses)) old now (length vs) (in_loop refuses m)))))

  -- an element that has to be there was refused
  pub required_faults : (new : State) → IsErrAnd result (λ y. y ≡ e) → (n : ℕ) → length vs < n → Reading content f old vs now → (now.reader.failed ≡ false → RefusesRequired refuses now e) → new.failed ≡ true
      → IfErr result (λ y. RefusesList (every (element f refuses)) (array_of_size n) old y new)
  required_faults new is_err n few m fault failed = handed_on (λ r. IfErr r (λ y. RefusesList (every (element f refuses)) (array_of_size n) old y new)) e result is_err
      (refuses_list (every (element f refuses)) (array_of_size n) old e new m.opened.live failed (required_fault (every (element f refuses)) (array_of_size n) old e now (length vs) n refl few (in_loop refuses m) (fault (reading (every (element f refuses)) old now (length vs) (in_loop refuses m)))))

  -- the bracket was refused where all elements were read
  pub last_faults : (new : State) {last : State} → IsErrAnd result (λ y. y ≡ e) → (n : ℕ) → length vs ≡ n → Reading content f old vs now → ClosesArray now last (Err e) → new.failed ≡ true → IfErr result (λ y. RefusesList (every (element f refuses)) (array_of_size n) old y new)
  last_faults new is_err n all m closes failed = handed_on (λ r. IfErr r (λ y. RefusesList (every (element f refuses)) (array_of_size n) old y new)) e result is_err
      (refuses_list (every (element f refuses)) (array_of_size n) old e new m.opened.live failed (too_many now (length vs) (in_loop refuses m) (ap Some (sym all)) closes.bracket.refused))
