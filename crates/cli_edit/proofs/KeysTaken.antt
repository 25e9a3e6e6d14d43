-- Works whose third word is a key, a place or the text of a comment.
use Rattle.std.proofs.Common.{◌≡◌, ℕ, true, false, List, refl, sym, ap, subst, ◌∙◌}
use Rattle.std.specs.Cmp.Lexicographic.{pointwise}
use Rattle.std.specs.Prelude.{Option, Some, None, MatchOption, nat_eq}
use lib.Chars.{codes}
use Rattle.cli_edit.specs.declared.requests.Command.{Command}
use Rattle.cli_edit.specs.declared.requests.Command.TheVariants as work
use Rattle.cli_edit.specs.declared.requests.View.TheVariants as view
use Rattle.cli_edit.specs.declared.requests.Given.{Given}
use Rattle.cli_edit.specs.Requests.{AsksNoWork, AsksWork, Follows, GivesKey, work_word}

differ : (x y : List ℕ) → pointwise nat_eq x x ≡ true → pointwise nat_eq x y ≡ false → x ≡ y → ⊥
differ x y same other e = let no : true ≡ false = sym same ∙ ap (pointwise nat_eq x) e ∙ other in absurd (cc)

-- no other work has its name
only_rename : (word : List ℕ) (w : Command) → word ≡ codes "rename" → word ≡ work_word w → w ≡ work.Rename
only_rename word (work.Show view.Spelled) is e = absurd (differ (codes "rename") (work_word (work.Show view.Spelled)) refl refl (sym is ∙ e))
only_rename word (work.Show view.Json) is e = absurd (differ (codes "rename") (work_word (work.Show view.Json)) refl refl (sym is ∙ e))
only_rename word (work.Show view.Content) is e = absurd (differ (codes "rename") (work_word (work.Show view.Content)) refl refl (sym is ∙ e))
only_rename word (work.Show view.Nothing) is e = absurd (differ (codes "rename") (work_word (work.Show view.Nothing)) refl refl (sym is ∙ e))
only_rename word (work.Show view.Keys) is e = absurd (differ (codes "rename") (work_word (work.Show view.Keys)) refl refl (sym is ∙ e))
only_rename word (work.Show view.Count) is e = absurd (differ (codes "rename") (work_word (work.Show view.Count)) refl refl (sym is ∙ e))
only_rename word (work.Show view.Kind) is e = absurd (differ (codes "rename") (work_word (work.Show view.Kind)) refl refl (sym is ∙ e))
only_rename word work.Set is e = absurd (differ (codes "rename") (work_word work.Set) refl refl (sym is ∙ e))
only_rename word work.Insert is e = absurd (differ (codes "rename") (work_word work.Insert) refl refl (sym is ∙ e))
only_rename word (work.InsertBefore b) is e = absurd (differ (codes "rename") (work_word (work.InsertBefore b)) refl refl (sym is ∙ e))
only_rename word work.Push is e = absurd (differ (codes "rename") (work_word work.Push) refl refl (sym is ∙ e))
only_rename word work.Put is e = absurd (differ (codes "rename") (work_word work.Put) refl refl (sym is ∙ e))
only_rename word work.PutAbsent is e = absurd (differ (codes "rename") (work_word work.PutAbsent) refl refl (sym is ∙ e))
only_rename word work.Rename is e = cc
only_rename word work.Move is e = absurd (differ (codes "rename") (work_word work.Move) refl refl (sym is ∙ e))
only_rename word work.Copy is e = absurd (differ (codes "rename") (work_word work.Copy) refl refl (sym is ∙ e))
only_rename word work.Remove is e = absurd (differ (codes "rename") (work_word work.Remove) refl refl (sym is ∙ e))
only_rename word work.RemoveAlone is e = absurd (differ (codes "rename") (work_word work.RemoveAlone) refl refl (sym is ∙ e))
only_rename word work.ShowComment is e = absurd (differ (codes "rename") (work_word work.ShowComment) refl refl (sym is ∙ e))
only_rename word work.Comment is e = absurd (differ (codes "rename") (work_word work.Comment) refl refl (sym is ∙ e))
only_rename word work.Sort is e = absurd (differ (codes "rename") (work_word work.Sort) refl refl (sym is ∙ e))
only_rename word work.Apply is e = absurd (differ (codes "rename") (work_word work.Apply) refl refl (sym is ∙ e))
only_rename word work.Merge is e = absurd (differ (codes "rename") (work_word work.Merge) refl refl (sym is ∙ e))

only_move : (word : List ℕ) (w : Command) → word ≡ codes "move" → word ≡ work_word w → w ≡ work.Move
only_move word (work.Show view.Spelled) is e = absurd (differ (codes "move") (work_word (work.Show view.Spelled)) refl refl (sym is ∙ e))
only_move word (work.Show view.Json) is e = absurd (differ (codes "move") (work_word (work.Show view.Json)) refl refl (sym is ∙ e))
only_move word (work.Show view.Content) is e = absurd (differ (codes "move") (work_word (work.Show view.Content)) refl refl (sym is ∙ e))
only_move word (work.Show view.Nothing) is e = absurd (differ (codes "move") (work_word (work.Show view.Nothing)) refl refl (sym is ∙ e))
only_move word (work.Show view.Keys) is e = absurd (differ (codes "move") (work_word (work.Show view.Keys)) refl refl (sym is ∙ e))
only_move word (work.Show view.Count) is e = absurd (differ (codes "move") (work_word (work.Show view.Count)) refl refl (sym is ∙ e))
only_move word (work.Show view.Kind) is e = absurd (differ (codes "move") (work_word (work.Show view.Kind)) refl refl (sym is ∙ e))
only_move word work.Set is e = absurd (differ (codes "move") (work_word work.Set) refl refl (sym is ∙ e))
only_move word work.Insert is e = absurd (differ (codes "move") (work_word work.Insert) refl refl (sym is ∙ e))
only_move word (work.InsertBefore b) is e = absurd (differ (codes "move") (work_word (work.InsertBefore b)) refl refl (sym is ∙ e))
only_move word work.Push is e = absurd (differ (codes "move") (work_word work.Push) refl refl (sym is ∙ e))
only_move word work.Put is e = absurd (differ (codes "move") (work_word work.Put) refl refl (sym is ∙ e))
only_move word work.PutAbsent is e = absurd (differ (codes "move") (work_word work.PutAbsent) refl refl (sym is ∙ e))
only_move word work.Rename is e = absurd (differ (codes "move") (work_word work.Rename) refl refl (sym is ∙ e))
only_move word work.Move is e = cc
only_move word work.Copy is e = absurd (differ (codes "move") (work_word work.Copy) refl refl (sym is ∙ e))
only_move word work.Remove is e = absurd (differ (codes "move") (work_word work.Remove) refl refl (sym is ∙ e))
only_move word work.RemoveAlone is e = absurd (differ (codes "move") (work_word work.RemoveAlone) refl refl (sym is ∙ e))
only_move word work.ShowComment is e = absurd (differ (codes "move") (work_word work.ShowComment) refl refl (sym is ∙ e))
only_move word work.Comment is e = absurd (differ (codes "move") (work_word work.Comment) refl refl (sym is ∙ e))
only_move word work.Sort is e = absurd (differ (codes "move") (work_word work.Sort) refl refl (sym is ∙ e))
only_move word work.Apply is e = absurd (differ (codes "move") (work_word work.Apply) refl refl (sym is ∙ e))
only_move word work.Merge is e = absurd (differ (codes "move") (work_word work.Merge) refl refl (sym is ∙ e))

only_copy : (word : List ℕ) (w : Command) → word ≡ codes "copy" → word ≡ work_word w → w ≡ work.Copy
only_copy word (work.Show view.Spelled) is e = absurd (differ (codes "copy") (work_word (work.Show view.Spelled)) refl refl (sym is ∙ e))
only_copy word (work.Show view.Json) is e = absurd (differ (codes "copy") (work_word (work.Show view.Json)) refl refl (sym is ∙ e))
only_copy word (work.Show view.Content) is e = absurd (differ (codes "copy") (work_word (work.Show view.Content)) refl refl (sym is ∙ e))
only_copy word (work.Show view.Nothing) is e = absurd (differ (codes "copy") (work_word (work.Show view.Nothing)) refl refl (sym is ∙ e))
only_copy word (work.Show view.Keys) is e = absurd (differ (codes "copy") (work_word (work.Show view.Keys)) refl refl (sym is ∙ e))
only_copy word (work.Show view.Count) is e = absurd (differ (codes "copy") (work_word (work.Show view.Count)) refl refl (sym is ∙ e))
only_copy word (work.Show view.Kind) is e = absurd (differ (codes "copy") (work_word (work.Show view.Kind)) refl refl (sym is ∙ e))
only_copy word work.Set is e = absurd (differ (codes "copy") (work_word work.Set) refl refl (sym is ∙ e))
only_copy word work.Insert is e = absurd (differ (codes "copy") (work_word work.Insert) refl refl (sym is ∙ e))
only_copy word (work.InsertBefore b) is e = absurd (differ (codes "copy") (work_word (work.InsertBefore b)) refl refl (sym is ∙ e))
only_copy word work.Push is e = absurd (differ (codes "copy") (work_word work.Push) refl refl (sym is ∙ e))
only_copy word work.Put is e = absurd (differ (codes "copy") (work_word work.Put) refl refl (sym is ∙ e))
only_copy word work.PutAbsent is e = absurd (differ (codes "copy") (work_word work.PutAbsent) refl refl (sym is ∙ e))
only_copy word work.Rename is e = absurd (differ (codes "copy") (work_word work.Rename) refl refl (sym is ∙ e))
only_copy word work.Move is e = absurd (differ (codes "copy") (work_word work.Move) refl refl (sym is ∙ e))
only_copy word work.Copy is e = cc
only_copy word work.Remove is e = absurd (differ (codes "copy") (work_word work.Remove) refl refl (sym is ∙ e))
only_copy word work.RemoveAlone is e = absurd (differ (codes "copy") (work_word work.RemoveAlone) refl refl (sym is ∙ e))
only_copy word work.ShowComment is e = absurd (differ (codes "copy") (work_word work.ShowComment) refl refl (sym is ∙ e))
only_copy word work.Comment is e = absurd (differ (codes "copy") (work_word work.Comment) refl refl (sym is ∙ e))
only_copy word work.Sort is e = absurd (differ (codes "copy") (work_word work.Sort) refl refl (sym is ∙ e))
only_copy word work.Apply is e = absurd (differ (codes "copy") (work_word work.Apply) refl refl (sym is ∙ e))
only_copy word work.Merge is e = absurd (differ (codes "copy") (work_word work.Merge) refl refl (sym is ∙ e))

only_comment : (word : List ℕ) (w : Command) → word ≡ codes "comment" → word ≡ work_word w → w ≡ work.Comment
only_comment word (work.Show view.Spelled) is e = absurd (differ (codes "comment") (work_word (work.Show view.Spelled)) refl refl (sym is ∙ e))
only_comment word (work.Show view.Json) is e = absurd (differ (codes "comment") (work_word (work.Show view.Json)) refl refl (sym is ∙ e))
only_comment word (work.Show view.Content) is e = absurd (differ (codes "comment") (work_word (work.Show view.Content)) refl refl (sym is ∙ e))
only_comment word (work.Show view.Nothing) is e = absurd (differ (codes "comment") (work_word (work.Show view.Nothing)) refl refl (sym is ∙ e))
only_comment word (work.Show view.Keys) is e = absurd (differ (codes "comment") (work_word (work.Show view.Keys)) refl refl (sym is ∙ e))
only_comment word (work.Show view.Count) is e = absurd (differ (codes "comment") (work_word (work.Show view.Count)) refl refl (sym is ∙ e))
only_comment word (work.Show view.Kind) is e = absurd (differ (codes "comment") (work_word (work.Show view.Kind)) refl refl (sym is ∙ e))
only_comment word work.Set is e = absurd (differ (codes "comment") (work_word work.Set) refl refl (sym is ∙ e))
only_comment word work.Insert is e = absurd (differ (codes "comment") (work_word work.Insert) refl refl (sym is ∙ e))
only_comment word (work.InsertBefore b) is e = absurd (differ (codes "comment") (work_word (work.InsertBefore b)) refl refl (sym is ∙ e))
only_comment word work.Push is e = absurd (differ (codes "comment") (work_word work.Push) refl refl (sym is ∙ e))
only_comment word work.Put is e = absurd (differ (codes "comment") (work_word work.Put) refl refl (sym is ∙ e))
only_comment word work.PutAbsent is e = absurd (differ (codes "comment") (work_word work.PutAbsent) refl refl (sym is ∙ e))
only_comment word work.Rename is e = absurd (differ (codes "comment") (work_word work.Rename) refl refl (sym is ∙ e))
only_comment word work.Move is e = absurd (differ (codes "comment") (work_word work.Move) refl refl (sym is ∙ e))
only_comment word work.Copy is e = absurd (differ (codes "comment") (work_word work.Copy) refl refl (sym is ∙ e))
only_comment word work.Remove is e = absurd (differ (codes "comment") (work_word work.Remove) refl refl (sym is ∙ e))
only_comment word work.RemoveAlone is e = absurd (differ (codes "comment") (work_word work.RemoveAlone) refl refl (sym is ∙ e))
only_comment word work.ShowComment is e = absurd (differ (codes "comment") (work_word work.ShowComment) refl refl (sym is ∙ e))
only_comment word work.Comment is e = cc
only_comment word work.Sort is e = absurd (differ (codes "comment") (work_word work.Sort) refl refl (sym is ∙ e))
only_comment word work.Apply is e = absurd (differ (codes "comment") (work_word work.Apply) refl refl (sym is ∙ e))
only_comment word work.Merge is e = absurd (differ (codes "comment") (work_word work.Merge) refl refl (sym is ∙ e))

module _ (k : Command) (word : List ℕ) (words : List (List ℕ)) (named : word ≡ work_word k) (only : (w : Command) → word ≡ work_word w → w ≡ k) where
  keyed_asks : ((g : Given) → Follows k g words → GivesKey g words) → ((g : Given) → GivesKey g words → Follows k g words) → (r : Option (Command × Given)) → MatchOption r ((g : Given) → ¬ (GivesKey g words)) (λ x. (x.0 ≡ k) × GivesKey x.1 words)
      → MatchOption r (AsksNoWork word words) (λ x. AsksWork word words x.0 x.1)
  keyed_asks from to None none = λ w g a. none g (from g (subst (λ z. Follows z g words) (only w a.0) a.1))
  keyed_asks from to (Some (w, g)) (is, key) = (named ∙ ap work_word (sym is), subst (λ z. Follows z g words) (sym is) (to g key))

module _ (word : List ℕ) (words : List (List ℕ)) (r : Option (Command × Given)) where
  pub asks_rename : word ≡ codes "rename" → MatchOption r ((g : Given) → ¬ (GivesKey g words)) (λ x. (x.0 ≡ work.Rename) × GivesKey x.1 words) → MatchOption r (AsksNoWork word words) (λ x. AsksWork word words x.0 x.1)
  asks_rename is m = keyed_asks work.Rename word words is (λ w e. only_rename word w is e) (λ g f. f) (λ g f. f) r m

  pub asks_move : word ≡ codes "move" → MatchOption r ((g : Given) → ¬ (GivesKey g words)) (λ x. (x.0 ≡ work.Move) × GivesKey x.1 words) → MatchOption r (AsksNoWork word words) (λ x. AsksWork word words x.0 x.1)
  asks_move is m = keyed_asks work.Move word words is (λ w e. only_move word w is e) (λ g f. f) (λ g f. f) r m

  pub asks_copy : word ≡ codes "copy" → MatchOption r ((g : Given) → ¬ (GivesKey g words)) (λ x. (x.0 ≡ work.Copy) × GivesKey x.1 words) → MatchOption r (AsksNoWork word words) (λ x. AsksWork word words x.0 x.1)
  asks_copy is m = keyed_asks work.Copy word words is (λ w e. only_copy word w is e) (λ g f. f) (λ g f. f) r m

  pub asks_comment : word ≡ codes "comment" → MatchOption r ((g : Given) → ¬ (GivesKey g words)) (λ x. (x.0 ≡ work.Comment) × GivesKey x.1 words) → MatchOption r (AsksNoWork word words) (λ x. AsksWork word words x.0 x.1)
  asks_comment is m = keyed_asks work.Comment word words is (λ w e. only_comment word w is e) (λ g f. f) (λ g f. f) r m
