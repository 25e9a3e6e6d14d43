-- The words of the command line, one after the other.
use Rattle.std.proofs.Common.{◌≡◌, ◌≤◌, ◌<◌, arith, length, ℕ, List, [], ◌∷◌, Some, None, sym, ap, ◌∙◌, subst}
use Rattle.std.specs.declared.alloc.Global.{Global}
use Rattle.std.specs.Prelude.{String, string_bytes}
use Rattle.cli_check.specs.declared.kinds.Flag.{Flag}
use Rattle.cli_check.specs.declared.kinds.Setting.{Setting}
use Rattle.cli_check.specs.declared.kinds.Word.TheVariants as word
use Rattle.cli_check.specs.CommandWords.{Choices, Choose, all, name, behind, flag, setting, joined, no_value, wrong_value, wrong_joined, ended, kind_in, nothing_chosen, joined_word, setting_word, with_flag, with_name, Sets, SetsNothing}
use Rattle.cli_check.specs.WordSteps.{GoesOn}
use Rattle.cli_files.specs.NameLists.{names_of}

-- from the start, before the first word
pub begins : (c : Choices) (words : List (List ℕ)) → c ≡ nothing_chosen → GoesOn nothing_chosen words c words
begins c words is = λ r k. subst (λ d. Choose d words r) is k

pub front_word : (left rest : List (String Global)) (first : String Global) (text : List ℕ) → left ≡ first ∷ rest → text ≡ string_bytes first → names_of left ≡ text ∷ names_of rest
front_word left rest first text is value = ap names_of is ∙ ap (λ w. w ∷ names_of rest) (sym value)

-- one word more
pub goes_on : (c d e : Choices) (words front left after : List (List ℕ)) → left ≡ front → GoesOn c words d left → GoesOn d front e after → GoesOn c words e after
goes_on c d e words front left after is before this = λ r k. before r (subst (λ l. Choose d l r) (sym is) (this r k))

pub goes_no_further : (c d : Choices) (words front left : List (List ℕ)) → left ≡ front → GoesOn c words d left → Choose d front None → Choose c words None
goes_no_further c d words front left is before this = before None (subst (λ l. Choose d l None) (sym is) this)

pub at_end : (c d : Choices) (words left : List (List ℕ)) → left ≡ [] → GoesOn c words d left → Choose c words (Some d)
at_end c d words left is before = before (Some d) (subst (λ l. Choose d l (Some d)) (sym is) (all d))

behind_value : (value : List ℕ) (ws left : List (List ℕ)) → ws ≡ value ∷ left → length left ≤ length ws
behind_value value ws left split = let e = ap length split in omega (arith, e)

module _ (c d : Choices) (w : List ℕ) (ws : List (List ℕ)) where
  pub name_taken : kind_in c w ≡ word.Name → d ≡ with_name w c → GoesOn c (w ∷ ws) d ws × (length ws ≤ length ws)
  name_taken kind is = (λ r k. name c w ws r kind (subst (λ e. Choose e ws r) is k), omega arith)

  pub end_taken : kind_in c w ≡ word.End → d ≡ ended c → GoesOn c (w ∷ ws) d ws × (length ws ≤ length ws)
  end_taken kind is = (λ r k. behind c w ws r kind (subst (λ e. Choose e ws r) is k), omega arith)

  pub flag_taken : (f : Flag) → kind_in c w ≡ word.Flag f → d ≡ with_flag f c → GoesOn c (w ∷ ws) d ws × (length ws ≤ length ws)
  flag_taken f kind is = (λ r k. flag c w ws r f kind (subst (λ e. Choose e ws r) is k), omega arith)

-- ---- an option with a value

in_front : (w : List ℕ) (ws : List (List ℕ)) (s : Setting) (more : List (List ℕ)) → w ≡ setting_word s → ws ≡ more → w ∷ ws ≡ setting_word s ∷ more
in_front w ws s more is split = ap (λ u. u ∷ ws) is ∙ ap (λ l. setting_word s ∷ l) split

is_other : (c : Choices) (w u : List ℕ) → kind_in c w ≡ word.Other → w ≡ u → kind_in c u ≡ word.Other
is_other c w u kind is = subst (λ v. kind_in c v ≡ word.Other) is kind

pub setting_taken : (c d : Choices) (w value : List ℕ) (ws left : List (List ℕ)) (s : Setting) → kind_in c w ≡ word.Other → w ≡ setting_word s → ws ≡ value ∷ left → Sets s value c d
    → GoesOn c (w ∷ ws) d left × (length left ≤ length ws)
setting_taken c d w value ws left s kind is split set =
    (λ r k. subst (λ l. Choose c l r) (sym (in_front w ws s (value ∷ left) is split)) (setting c d s value left r (is_other c w (setting_word s) kind is) set k), behind_value value ws left split)

pub value_refused : (c : Choices) (w value : List ℕ) (ws left : List (List ℕ)) (s : Setting) → kind_in c w ≡ word.Other → w ≡ setting_word s → ws ≡ value ∷ left → SetsNothing s value c → Choose c (w ∷ ws) None
value_refused c w value ws left s kind is split none =
    subst (λ l. Choose c l None) (sym (in_front w ws s (value ∷ left) is split)) (wrong_value c s value left (is_other c w (setting_word s) kind is) none)

pub value_missing : (c : Choices) (w : List ℕ) (ws : List (List ℕ)) (s : Setting) → kind_in c w ≡ word.Other → w ≡ setting_word s → ws ≡ [] → Choose c (w ∷ ws) None
value_missing c w ws s kind is split = subst (λ l. Choose c l None) (sym (in_front w ws s [] is split)) (no_value c s (is_other c w (setting_word s) kind is))

module _ (c : Choices) (w value : List ℕ) (ws : List (List ℕ)) (s : Setting) (kind : kind_in c w ≡ word.Other) (is : w ≡ joined_word s value) where
  pub joined_taken : (d : Choices) → Sets s value c d → GoesOn c (w ∷ ws) d ws × (length ws ≤ length ws)
  joined_taken d set = (λ r k. subst (λ u. Choose c (u ∷ ws) r) (sym is) (joined c d s value ws r (is_other c w (joined_word s value) kind is) set k), omega arith)

  pub joined_refused : SetsNothing s value c → Choose c (w ∷ ws) None
  joined_refused none = subst (λ u. Choose c (u ∷ ws) None) (sym is) (wrong_joined c s value ws (is_other c w (joined_word s value) kind is) none)

-- each word that is taken leaves fewer
pub fewer : (left rest : List (String Global)) (first : String Global) (after : List (String Global)) → left ≡ first ∷ rest → length (names_of after) ≤ length (names_of rest) → length (names_of after) < length (names_of left)
fewer left rest first after is h = let e = ap (λ l. length (names_of l)) is in omega (arith, e, h)
