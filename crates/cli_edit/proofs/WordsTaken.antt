-- The words behind PATH.
use Rattle.std.proofs.Common.{◌≡◌, ◌≢◌, ℕ, Bool, true, false, List, [], ◌∷◌, ◌++◌, arith, length, refl, sym, ap, ◌∙◌}
use Rattle.std.proofs.lemmas.Bool.Decides.{nat_tests}
use Rattle.std.specs.declared.alloc.Global.{Global}
use Rattle.std.specs.Prelude.{Option, Some, None, MatchOption, String, string_bytes, ◌==◌}
use Rattle.cli_files.specs.NameLists.{names_of}
use lib.Chars.{codes}
use Rattle.cli_edit.specs.declared.requests.Command.{Command}
use Rattle.cli_edit.specs.declared.requests.Command.TheVariants as work
use Rattle.cli_edit.specs.declared.requests.View.{View}
use Rattle.cli_edit.specs.declared.requests.View.TheVariants as view
use Rattle.cli_edit.specs.declared.requests.Source.{Source}
use Rattle.cli_edit.specs.declared.requests.Source.TheVariants as source
use Rattle.cli_edit.specs.declared.requests.Given.{Given}
use Rattle.cli_edit.specs.declared.requests.Tail.{Tail}
use Rattle.cli_edit.specs.declared.requests.Choice.{Choice}
use Rattle.cli_edit.specs.declared.requests.Choice.TheVariants as choice
use Rattle.json5_edit.specs.declared.paths.Before.TheVariants as before_place
use Rattle.cli_edit.specs.Choices.{IsWorkOf, words_of}
use Rattle.cli_edit.specs.Requests.{AsksNoWork, AsksWork, Begins, GivesValue, SplitsDry, choice_words, tail_words, view_word, work_word}

-- ---- the words behind a value

pub same_rest : (s t : Source) (more left words : List (List ℕ)) → Begins s more words → Begins t left words → more ≡ left
same_rest (source.Word w) (source.Word v) more left words (p, e) (q, f) = cc
same_rest (source.Word w) source.Input more left words ((p, n), e) (q, f) = let same : w.now ≡ codes "-" = cc in absurd (p same)
same_rest (source.Word w) (source.File v) more left words ((p, n), e) (q, f) = let same : w.now ≡ codes "--from" = cc in absurd (n same)
same_rest source.Input (source.Word v) more left words (p, e) ((q, m), f) = let same : v.now ≡ codes "-" = cc in absurd (q same)
same_rest source.Input source.Input more left words (p, e) (q, f) = cc
same_rest source.Input (source.File v) more left words (p, e) (q, f) = absurd (cc)
same_rest (source.File w) (source.Word v) more left words (p, e) ((q, m), f) = let same : v.now ≡ codes "--from" = cc in absurd (m same)
same_rest (source.File w) source.Input more left words (p, e) (q, f) = absurd (cc)
same_rest (source.File w) (source.File v) more left words (p, e) (q, f) = cc

-- the option of a work
choice_for : (w : Command) → (c : Choice) × (words_of c ≡ choice_words w)
choice_for (work.Show v) = (choice.Plain, refl)
choice_for work.Set = (choice.Plain, refl)
choice_for work.Insert = (choice.Plain, refl)
choice_for (work.InsertBefore before_place.First) = (choice.First, refl)
choice_for (work.InsertBefore (before_place.Key k)) = (choice.Before k, refl)
choice_for work.Push = (choice.Plain, refl)
choice_for work.Put = (choice.Plain, refl)
choice_for work.PutAbsent = (choice.IfAbsent, refl)
choice_for work.Rename = (choice.Plain, refl)
choice_for work.Move = (choice.Plain, refl)
choice_for work.Copy = (choice.Plain, refl)
choice_for work.Remove = (choice.Plain, refl)
choice_for work.RemoveAlone = (choice.Plain, refl)
choice_for work.ShowComment = (choice.Plain, refl)
choice_for work.Comment = (choice.Plain, refl)
choice_for work.Sort = (choice.Plain, refl)
choice_for work.Apply = (choice.Plain, refl)
choice_for work.Merge = (choice.Plain, refl)

no_text : (w : Command) (rest : List (List ℕ)) → codes "--text" ∷ rest ≢ choice_words w
no_text (work.Show v) rest e = absurd (cc)
no_text work.Set rest e = absurd (cc)
no_text work.Insert rest e = absurd (cc)
no_text (work.InsertBefore before_place.First) rest e = absurd (cc)
no_text (work.InsertBefore (before_place.Key k)) rest e = absurd (cc)
no_text work.Push rest e = absurd (cc)
no_text work.Put rest e = absurd (cc)
no_text work.PutAbsent rest e = absurd (cc)
no_text work.Rename rest e = absurd (cc)
no_text work.Move rest e = absurd (cc)
no_text work.Copy rest e = absurd (cc)
no_text work.Remove rest e = absurd (cc)
no_text work.RemoveAlone rest e = absurd (cc)
no_text work.ShowComment rest e = absurd (cc)
no_text work.Comment rest e = absurd (cc)
no_text work.Sort rest e = absurd (cc)
no_text work.Apply rest e = absurd (cc)
no_text work.Merge rest e = absurd (cc)

no_text_of : (c : Choice) (rest : List (List ℕ)) → codes "--text" ∷ rest ≢ words_of c
no_text_of choice.Plain rest e = absurd (cc)
no_text_of choice.IfAbsent rest e = absurd (cc)
no_text_of choice.First rest e = absurd (cc)
no_text_of (choice.Before k) rest e = absurd (cc)

one_tail : (t u : Bool) (c : Choice) (w : Command) → tail_words t (words_of c) ≡ tail_words u (choice_words w) → choice_words w ≡ words_of c
one_tail false false c w e = sym e
one_tail true true c w e = cc
one_tail true false c w e = absurd (no_text w (words_of c) e)
one_tail false true c w e = absurd (no_text_of c (choice_words w) (sym e))

module _ (s : Source) (more words : List (List ℕ)) (begun : Begins s more words) where
  pub no_tail : ((t : Tail) → more ≢ tail_words t.is_text (words_of t.choice)) → (w : Command) (g : Given) → ¬ (GivesValue w g words)
  no_tail none w g (p, b) =
      let (c, e) = choice_for w in
      none (record { is_text = g.is_text; choice = c }) (same_rest s g.source more (tail_words g.is_text (choice_words w)) words begun b ∙ ap (tail_words g.is_text) (sym e))

  pub no_such_work : (word : List ℕ) (t : Bool) (c : Choice) → more ≡ tail_words t (words_of c) → ((w : Command) → ¬ (IsWorkOf word c w)) → (w : Command) (g : Given) → word ≡ work_word w → ¬ (GivesValue w g words)
  no_such_work word t c is none w g named (p, begins) =
      none w (named, p, one_tail t g.is_text c w (sym is ∙ same_rest s g.source more (tail_words g.is_text (choice_words w)) words begun begins))

-- ---- a work with a value

module _ (word : List ℕ) (words : List (List ℕ)) where
  asks_with : (w : Command) (g : Given) → word ≡ work_word w → GivesValue w g words → AsksWork word words w g
  asks_with (work.Show v) g is (p, k) = absurd p
  asks_with work.ShowComment g is (p, k) = absurd p
  asks_with work.Remove g is (p, k) = absurd p
  asks_with work.RemoveAlone g is (p, k) = absurd p
  asks_with work.Rename g is (p, k) = absurd p
  asks_with work.Move g is (p, k) = absurd p
  asks_with work.Copy g is (p, k) = absurd p
  asks_with work.Comment g is (p, k) = absurd p
  asks_with work.Sort g is (p, k) = absurd p
  asks_with work.Apply g is (p, k) = absurd p
  asks_with work.Merge g is (p, k) = absurd p
  asks_with work.Set g is k = (is, k)
  asks_with work.Insert g is k = (is, k)
  asks_with (work.InsertBefore b) g is k = (is, k)
  asks_with work.Push g is k = (is, k)
  asks_with work.Put g is k = (is, k)
  asks_with work.PutAbsent g is k = (is, k)

  module _ (get : word ≢ codes "get") (has : word ≢ codes "has") (keys : word ≢ codes "keys") (len : word ≢ codes "length") (kind : word ≢ codes "type") (remove : word ≢ codes "remove") (sort : word ≢ codes "sort") (apply : word ≢ codes "apply") (merge : word ≢ codes "merge") (rename : word ≢ codes "rename") (move : word ≢ codes "move") (copy : word ≢ codes "copy") (comment : word ≢ codes "comment") where
    no_view : (v : View) → word ≡ view_word v → ⊥
    no_view view.Spelled e = get e
    no_view view.Json e = get e
    no_view view.Content e = get e
    no_view view.Nothing e = has e
    no_view view.Keys e = keys e
    no_view view.Count e = len e
    no_view view.Kind e = kind e

    asks_none : ((w : Command) (g : Given) → word ≡ work_word w → ¬ (GivesValue w g words)) → AsksNoWork word words
    asks_none n (work.Show v) g (e, f) = no_view v e
    asks_none n work.ShowComment g (e, f) = get e
    asks_none n work.Remove g (e, f) = remove e
    asks_none n work.RemoveAlone g (e, f) = remove e
    asks_none n work.Rename g (e, f) = rename e
    asks_none n work.Move g (e, f) = move e
    asks_none n work.Copy g (e, f) = copy e
    asks_none n work.Comment g (e, f) = comment e
    asks_none n work.Sort g (e, f) = sort e
    asks_none n work.Apply g (e, f) = apply e
    asks_none n work.Merge g (e, f) = merge e
    asks_none n work.Set g (e, f) = n work.Set g e f
    asks_none n work.Insert g (e, f) = n work.Insert g e f
    asks_none n (work.InsertBefore b) g (e, f) = n (work.InsertBefore b) g e f
    asks_none n work.Push g (e, f) = n work.Push g e f
    asks_none n work.Put g (e, f) = n work.Put g e f
    asks_none n work.PutAbsent g (e, f) = n work.PutAbsent g e f

    pub asks : (r : Option (Command × Given)) → MatchOption r ((w : Command) (g : Given) → word ≡ work_word w → ¬ (GivesValue w g words)) (λ x. (word ≡ work_word x.0) × GivesValue x.0 x.1 words)
        → MatchOption r (AsksNoWork word words) (λ x. AsksWork word words x.0 x.1)
    asks (Some (w, g)) (e, k) = asks_with w g e k
    asks None n = asks_none n

-- ---- names

last_name : (xs : List (String Global)) (x : String Global) → names_of (xs ++ (x ∷ [])) ≡ names_of xs ++ (string_bytes x ∷ [])
last_name [] x = refl
last_name (y ∷ ys) x = ap (λ z. string_bytes y ∷ z) (last_name ys x)

pub no_strings : (xs : List (String Global)) → (length xs == 0) ≡ true → xs ≡ []
no_strings [] e = refl
no_strings (x ∷ xs) e = absurd (grind (arith, nat_tests))

pub two_names : (words more rest : List (String Global)) (word key : String Global) → words ≡ word ∷ more → more ≡ key ∷ rest → rest ≡ [] → string_bytes word ≡ codes "--before" → names_of words ≡ codes "--before" ∷ string_bytes key ∷ []
two_names words more rest word key a b none said = ap names_of (a ∙ ap (λ z. word ∷ z) (b ∙ ap (λ z. key ∷ z) none)) ∙ ap (λ z. z ∷ string_bytes key ∷ []) said

pub dry_last : (words rest : List (String Global)) (word : String Global) → words ≡ rest ++ (word ∷ []) → string_bytes word ≡ codes "--dry-run" → SplitsDry true (names_of rest) (names_of words)
dry_last words rest word is e = ap names_of is ∙ last_name rest word ∙ ap (λ z. names_of rest ++ (z ∷ [])) e
