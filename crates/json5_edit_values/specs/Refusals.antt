-- Why an edit with a value isn't made.
-- A promise rests on this.
use Rattle.std.specs.Prelude.{◌≡◌, ◌⊎◌, ℕ, ◌+◌, ◌<◌, List, [], length, None, Some, ⊤}
use Rattle.std.specs.Str.{chars}
use Rattle.json5_grammar.specs.declared.error_code.ErrorCode.TheVariants as codes
use Rattle.json5_grammar.specs.Language.Documents.{Doc, max_depth}
use Rattle.json5_grammar.specs.Language.Trees.{Tree, depth}
use Rattle.json5_types.specs.declared.error.Error.{Error}
use Rattle.json5_types.specs.Errors.{SaysAt, code}
use Rattle.json5_write.specs.EscapeFreeMarks.{marks}
use Rattle.json5_write.specs.Out.{Out, written_text}
use Rattle.json5_write.specs.WholeOutputs.{RefusesToString}
use Rattle.json5_write.specs.WrittenTrees.{Written}
use Rattle.json5_edit.specs.Parts.{positions_of}
use Rattle.json5_edit.specs.Refusals.{RefusesInsert, RefusesPath, RefusesPush, RefusesPutIn}
use Rattle.json5_edit.specs.declared.faults.EditError.{EditError}
use Rattle.json5_edit.specs.declared.faults.EditError.TheVariants as error
use Rattle.json5_edit.specs.declared.paths.Step.{Step}

-- the text is a document, and where the path leads, so many brackets further in, there is no room for a value of this tree
pub record IsTooDeepFor (further : ℕ) (t : Tree) (text : List ℕ) (path : List Step) : Type 0 where
  pub tree : Tree
  pub document : Doc max_depth (chars text) tree
  pub positions : List ℕ
  pub led : positions_of path tree ≡ Some positions
  pub deep : max_depth < (length positions + further) + depth t

-- the value can't be written, or is too deep for its place; neither has a position
abbrev pub RefusesTree : ℕ → Written → List ℕ → List Step → Error → Type 0
RefusesTree further t text path e = RefusesToString (written_text t) e ⊎ (SaysAt (code codes.TooDeep) None e × IsTooDeepFor further (marks t) text path)

-- ---- the refusals of each call: but for the value, those of the call with a text

abbrev pub RefusesSetTo : Written → List ℕ → List Step → EditError → Type 0
RefusesSetTo t text path (error.Value e) = RefusesTree 0 t text path e
RefusesSetTo t text path e = RefusesPath text path e

abbrev pub RefusesPushOf : Written → List ℕ → List Step → EditError → Type 0
RefusesPushOf t text path (error.Value e) = RefusesTree 1 t text path e
RefusesPushOf t text path e = RefusesPush text path [] e

abbrev pub RefusesPutInOf : Written → List ℕ → List Step → ℕ → EditError → Type 0
RefusesPutInOf t text path i (error.Value e) = RefusesTree 1 t text path e
RefusesPutInOf t text path i e = RefusesPutIn text path i [] e

abbrev pub RefusesInsertOf : Written → List ℕ → List Step → List ℕ → EditError → Type 0
RefusesInsertOf t text path key (error.Value e) = RefusesTree 1 t text path e
RefusesInsertOf t text path key e = RefusesInsert text path key [] e

-- ---- private clauses alone cite these

-- the value can't be written, or memory ran out
abbrev pub RefusesWriting : Out → EditError → Type 0
RefusesWriting o (error.Value e) = RefusesToString o e
RefusesWriting o error.NoMemory = ⊤
RefusesWriting o _ = ⊥

-- of a value that doesn't fit, the code without a position; else the same
abbrev pub IsPlaceless : EditError → EditError → Type 0
IsPlaceless (error.Value e) r = (f : Error) × SaysAt (code codes.TooDeep) None f × (r ≡ error.Value f)
IsPlaceless e r = r ≡ e
