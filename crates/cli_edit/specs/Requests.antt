-- The words after the program's name, and what they ask for.
-- A promise rests on this.
use denote.Ref.{Bor}
use Rattle.std.specs.Prelude.{⊤, MatchOption, Option, ◌≡◌, ◌≢◌, ◌⊎◌, ℕ, Bool, true, false, List, [], ◌∷◌, ◌++◌}
use lib.Chars.{codes}
use Rattle.cli_edit.specs.declared.requests.EditRequest.{EditRequest}
use Rattle.cli_edit.specs.declared.requests.EditRequest.TheVariants as requests
use Rattle.cli_edit.specs.declared.requests.Command.{Command}
use Rattle.cli_edit.specs.declared.requests.Command.TheVariants as work
use Rattle.cli_edit.specs.declared.requests.View.{View}
use Rattle.cli_edit.specs.declared.requests.View.TheVariants as view
use Rattle.cli_edit.specs.declared.requests.Source.{Source}
use Rattle.cli_edit.specs.declared.requests.Source.TheVariants as source
use Rattle.cli_edit.specs.declared.requests.Given.{Given}
use Rattle.json5_edit.specs.declared.paths.Before.TheVariants as before_place
use Rattle.cli_edit.specs.declared.requests.Task.{Task}

abbrev pub view_word : View → List ℕ
view_word view.Spelled = codes "get"
view_word view.Json = codes "get"
view_word view.Content = codes "get"
view_word view.Nothing = codes "has"
view_word view.Keys = codes "keys"
view_word view.Count = codes "length"
view_word view.Kind = codes "type"

abbrev pub work_word : Command → List ℕ
work_word (work.Show v) = view_word v
work_word work.Set = codes "set"
work_word work.Insert = codes "insert"
work_word (work.InsertBefore b) = codes "insert"
work_word work.Push = codes "push"
work_word work.Put = codes "put"
work_word work.PutAbsent = codes "put"
work_word work.Rename = codes "rename"
work_word work.Move = codes "move"
work_word work.Copy = codes "copy"
work_word work.ShowComment = codes "get"
work_word work.Comment = codes "comment"
work_word work.Remove = codes "remove"
work_word work.RemoveAlone = codes "remove"
work_word work.Sort = codes "sort"
work_word work.Apply = codes "apply"
work_word work.Merge = codes "merge"

-- ---- VALUE

-- the words that say where it is
abbrev pub source_words : Source → List (List ℕ)
source_words (source.Word w) = w.now ∷ []
source_words source.Input = codes "-" ∷ []
source_words (source.File f) = codes "--from" ∷ f.now ∷ []

-- a word that says nothing else
abbrev pub IsPlain : Source → Type 0
IsPlain (source.Word w) = (w.now ≢ codes "-") × (w.now ≢ codes "--from")
IsPlain _ = ⊤

-- the words say so where it is, and more follow
abbrev pub Begins : Source → (more words : List (List ℕ)) → Type 0
Begins s more words = IsPlain s × (words ≡ source_words s ++ more)

-- the options behind it
abbrev pub choice_words : Command → List (List ℕ)
choice_words (work.InsertBefore before_place.First) = codes "--first" ∷ []
choice_words (work.InsertBefore (before_place.Key k)) = codes "--before" ∷ k.now ∷ []
choice_words work.PutAbsent = codes "--if-absent" ∷ []
choice_words _ = []

abbrev pub tail_words : (is_text : Bool) → (choice : List (List ℕ)) → List (List ℕ)
tail_words false choice = choice
tail_words true choice = codes "--text" ∷ choice

-- the work puts a VALUE into the text
abbrev pub PutsValue : Command → Type 0
PutsValue work.Set = ⊤
PutsValue work.Insert = ⊤
PutsValue (work.InsertBefore b) = ⊤
PutsValue work.Push = ⊤
PutsValue work.Put = ⊤
PutsValue work.PutAbsent = ⊤
PutsValue _ = ⊥

abbrev pub GivesValue : Command → Given → List (List ℕ) → Type 0
GivesValue w g words = PutsValue w × Begins g.source (tail_words g.is_text (choice_words w)) words

-- the work of this name that takes a value, and what is given for that; None where there is no such work
abbrev pub FindsWork : (word : List ℕ) → List (List ℕ) → Option (Command × Given) → Type 0
FindsWork word rest result = MatchOption result ((w : Command) (g : Given) → word ≡ work_word w → ¬ (GivesValue w g rest)) (λ x. (word ≡ work_word x.0) × GivesValue x.0 x.1 rest)

-- a KEY, where a value goes, or the text of a comment is a word
abbrev pub GivesKey : Given → List (List ℕ) → Type 0
GivesKey g words = (k : Bor (List ℕ)) × (words ≡ k.now ∷ []) × (g.source ≡ source.Word k) × (g.is_text ≡ false)

-- ---- all words

-- the words behind PATH, of each work
abbrev pub Follows : Command → Given → List (List ℕ) → Type 0
Follows (work.Show view.Json) g words = words ≡ codes "--json" ∷ []
Follows (work.Show view.Content) g words = words ≡ codes "--raw" ∷ []
Follows (work.Show _) g words = words ≡ []
Follows work.Remove g words = words ≡ []
Follows work.RemoveAlone g words = words ≡ codes "--keep-comments" ∷ []
Follows work.Sort g words = words ≡ []
Follows work.Apply g words = words ≡ []
Follows work.Merge g words = words ≡ []
Follows work.Rename g words = GivesKey g words
Follows work.Move g words = GivesKey g words
Follows work.Copy g words = GivesKey g words
Follows work.ShowComment g words = words ≡ codes "--comment" ∷ []
Follows work.Comment g words = GivesKey g words
Follows w g words = GivesValue w g words

abbrev pub AsksWork : (word : List ℕ) (rest : List (List ℕ)) → Command → Given → Type 0
AsksWork word rest w g = (word ≡ work_word w) × Follows w g rest

abbrev pub AsksNoWork : (word : List ℕ) (rest : List (List ℕ)) → Type 0
AsksNoWork word rest = (w : Command) (g : Given) → ¬ (AsksWork word rest w g)

-- a `--dry-run` ends the words, or none does
abbrev pub SplitsDry : (is_dry : Bool) → (rest words : List (List ℕ)) → Type 0
SplitsDry true rest words = words ≡ rest ++ (codes "--dry-run" ∷ [])
SplitsDry false rest words = (words ≡ rest) × ((front : List (List ℕ)) → words ≢ front ++ (codes "--dry-run" ∷ []))

-- the work shows something of the value, and changes nothing
abbrev pub is_shown : Command → Bool
is_shown (work.Show v) = true
is_shown work.ShowComment = true
is_shown _ = false

-- a path is asked for, but where a patch is made
abbrev pub route_in : Command → (path : List ℕ) → List ℕ
route_in work.Apply path = []
route_in work.Merge path = []
route_in _ path = path

abbrev pub route_of : Task → List ℕ
route_of t = route_in t.work t.path.now

abbrev pub AsksTask : List (List ℕ) → Task → Type 0
AsksTask words t = (rest : List (List ℕ)) × SplitsDry t.is_dry rest words × Follows t.work t.given rest

abbrev pub Asks : List (List ℕ) → EditRequest → Type 0
Asks words requests.Help = (words ≡ codes "--help" ∷ []) ⊎ (words ≡ codes "-h" ∷ [])
Asks words requests.Version = words ≡ codes "--version" ∷ []
Asks words (requests.Task t) = (behind : List (List ℕ)) × (words ≡ work_word t.work ∷ t.file.now ∷ t.path.now ∷ behind) × AsksTask behind t

-- the file of this name, or standard input
abbrev pub IsNamed : (word : List ℕ) → Source → Type 0
IsNamed word (source.Word w) = ⊥
IsNamed word source.Input = word ≡ codes "-"
IsNamed word (source.File f) = (word ≢ codes "-") × (f.now ≡ word)

-- where VALUE is, or the patch, which the word in PATH's place names
abbrev pub IsSourceFor : Command → Task → Source → Type 0
IsSourceFor work.Apply t s = IsNamed t.path.now s
IsSourceFor work.Merge t s = IsNamed t.path.now s
IsSourceFor w t s = s ≡ t.given.source

abbrev pub IsSourceOf : Task → Source → Type 0
IsSourceOf t s = IsSourceFor t.work t s

-- they ask for nothing
abbrev pub AsksNothing : List (List ℕ) → Type 0
AsksNothing words = (request : EditRequest) → ¬ (Asks words request)
