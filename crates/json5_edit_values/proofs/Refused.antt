-- What an edit with a text says of an edit with a value that the text spells.
use Rattle.std.proofs.Common.{◌≤◌, ◌<◌, ◌⊎◌, inl, inr, ℕ, ◌+◌, List, length, sym, subst, arith}
use Rattle.std.specs.Str.{chars}
use Rattle.json5_grammar.specs.Language.Documents.{max_depth}
use Rattle.json5_grammar.specs.Language.Trees.{depth}
use Rattle.json5_write.specs.EscapeFreeMarks.{marks}
use Rattle.json5_write.specs.Out.{written_text}
use Rattle.json5_write.specs.WrittenTrees.{Written}
use Rattle.json5_edit.specs.Refusals.{Misfits, RefusesInsert, RefusesPush, RefusesPutIn, RefusesSet}
use Rattle.json5_edit.specs.declared.faults.EditError.{EditError}
use Rattle.json5_edit.specs.declared.faults.EditError.TheVariants as error
use Rattle.json5_edit.specs.declared.paths.Step.{Step}
use Rattle.json5_edit_values.specs.Refusals.{IsPlaceless, IsTooDeepFor, RefusesInsertOf, RefusesPushOf, RefusesPutInOf, RefusesSetTo, RefusesWriting}
use Rattle.json5_edit_values.specs.Spelled.{Spells}
use Rattle.json5_edit_values.proofs.ValuesSpelled.{alike_depth}

-- ---- why it isn't made

within_or_past : (n limit : ℕ) → (n ≤ limit) ⊎ (limit < n)
within_or_past n limit = grind arith

too_deep : (further : ℕ) (t : Written) (text : List ℕ) (path : List Step) (new : List ℕ) → Spells t text (chars new) → Misfits further text path new → IsTooDeepFor further (marks t) text path
too_deep further t text path new (u, v, k) m =
    record { tree = m.tree; document = m.document; positions = m.positions; led = m.led; deep = deep (within_or_past ((length m.positions + further) + depth (marks t)) max_depth) }
  where
    deep : ((length m.positions + further) + depth (marks t) ≤ max_depth) ⊎ (max_depth < (length m.positions + further) + depth (marks t)) → max_depth < (length m.positions + further) + depth (marks t)
    deep (inl l) = let same = alike_depth u t k.0 in absurd (m.misfit (u, v, omega (arith, l, same)))
    deep (inr l) = l

pub set_writing : (t : Written) (text : List ℕ) (path : List Step) (e : EditError) → RefusesWriting (written_text t) e → RefusesSetTo t text path e
set_writing t text path (error.Value e) r = inl r
set_writing t text path error.NoMemory r = tt
set_writing t text path (error.Text e) r = absurd r
set_writing t text path error.Nowhere r = absurd r
set_writing t text path error.Taken r = absurd r
set_writing t text path error.NotObject r = absurd r
set_writing t text path error.NotArray r = absurd r
set_writing t text path error.NoKey r = absurd r
set_writing t text path error.Failed r = absurd r

pub push_writing : (t : Written) (text : List ℕ) (path : List Step) (e : EditError) → RefusesWriting (written_text t) e → RefusesPushOf t text path e
push_writing t text path (error.Value e) r = inl r
push_writing t text path error.NoMemory r = tt
push_writing t text path (error.Text e) r = absurd r
push_writing t text path error.Nowhere r = absurd r
push_writing t text path error.Taken r = absurd r
push_writing t text path error.NotObject r = absurd r
push_writing t text path error.NotArray r = absurd r
push_writing t text path error.NoKey r = absurd r
push_writing t text path error.Failed r = absurd r

pub put_in_writing : (t : Written) (text : List ℕ) (path : List Step) (i : ℕ) (e : EditError) → RefusesWriting (written_text t) e → RefusesPutInOf t text path i e
put_in_writing t text path i (error.Value e) r = inl r
put_in_writing t text path i error.NoMemory r = tt
put_in_writing t text path i (error.Text e) r = absurd r
put_in_writing t text path i error.Nowhere r = absurd r
put_in_writing t text path i error.Taken r = absurd r
put_in_writing t text path i error.NotObject r = absurd r
put_in_writing t text path i error.NotArray r = absurd r
put_in_writing t text path i error.NoKey r = absurd r
put_in_writing t text path i error.Failed r = absurd r

pub insert_writing : (t : Written) (text : List ℕ) (path : List Step) (key : List ℕ) (e : EditError) → RefusesWriting (written_text t) e → RefusesInsertOf t text path key e
insert_writing t text path key (error.Value e) r = inl r
insert_writing t text path key error.NoMemory r = tt
insert_writing t text path key (error.Text e) r = absurd r
insert_writing t text path key error.Nowhere r = absurd r
insert_writing t text path key error.Taken r = absurd r
insert_writing t text path key error.NotObject r = absurd r
insert_writing t text path key error.NotArray r = absurd r
insert_writing t text path key error.NoKey r = absurd r
insert_writing t text path key error.Failed r = absurd r

pub set_refused : (t : Written) (text : List ℕ) (path : List Step) (new : List ℕ) (e r : EditError) → Spells t text (chars new) → RefusesSet text path new e → IsPlaceless e r → RefusesSetTo t text path r
set_refused t text path new (error.Value e) r v m (f, says, is) = subst (RefusesSetTo t text path) (sym is) (inr (says, too_deep 0 t text path new v m))
set_refused t text path new (error.Text e) r v m is = subst (RefusesSetTo t text path) (sym is) m
set_refused t text path new error.Nowhere r v m is = subst (RefusesSetTo t text path) (sym is) m
set_refused t text path new error.Taken r v m is = subst (RefusesSetTo t text path) (sym is) m
set_refused t text path new error.NotObject r v m is = subst (RefusesSetTo t text path) (sym is) m
set_refused t text path new error.NotArray r v m is = subst (RefusesSetTo t text path) (sym is) m
set_refused t text path new error.NoKey r v m is = subst (RefusesSetTo t text path) (sym is) m
set_refused t text path new error.NoMemory r v m is = subst (RefusesSetTo t text path) (sym is) m
set_refused t text path new error.Failed r v m is = subst (RefusesSetTo t text path) (sym is) m

pub push_refused : (t : Written) (text : List ℕ) (path : List Step) (new : List ℕ) (e r : EditError) → Spells t text (chars new) → RefusesPush text path new e → IsPlaceless e r → RefusesPushOf t text path r
push_refused t text path new (error.Value e) r v m (f, says, is) = subst (RefusesPushOf t text path) (sym is) (inr (says, too_deep 1 t text path new v m))
push_refused t text path new (error.Text e) r v m is = subst (RefusesPushOf t text path) (sym is) m
push_refused t text path new error.Nowhere r v m is = subst (RefusesPushOf t text path) (sym is) m
push_refused t text path new error.Taken r v m is = subst (RefusesPushOf t text path) (sym is) m
push_refused t text path new error.NotObject r v m is = subst (RefusesPushOf t text path) (sym is) m
push_refused t text path new error.NotArray r v m is = subst (RefusesPushOf t text path) (sym is) m
push_refused t text path new error.NoKey r v m is = subst (RefusesPushOf t text path) (sym is) m
push_refused t text path new error.NoMemory r v m is = subst (RefusesPushOf t text path) (sym is) m
push_refused t text path new error.Failed r v m is = subst (RefusesPushOf t text path) (sym is) m

pub put_in_refused : (t : Written) (text : List ℕ) (path : List Step) (i : ℕ) (new : List ℕ) (e r : EditError) → Spells t text (chars new) → RefusesPutIn text path i new e → IsPlaceless e r → RefusesPutInOf t text path i r
put_in_refused t text path i new (error.Value e) r v m (f, says, is) = subst (RefusesPutInOf t text path i) (sym is) (inr (says, too_deep 1 t text path new v m))
put_in_refused t text path i new (error.Text e) r v m is = subst (RefusesPutInOf t text path i) (sym is) m
put_in_refused t text path i new error.Nowhere r v m is = subst (RefusesPutInOf t text path i) (sym is) m
put_in_refused t text path i new error.Taken r v m is = subst (RefusesPutInOf t text path i) (sym is) m
put_in_refused t text path i new error.NotObject r v m is = subst (RefusesPutInOf t text path i) (sym is) m
put_in_refused t text path i new error.NotArray r v m is = subst (RefusesPutInOf t text path i) (sym is) m
put_in_refused t text path i new error.NoKey r v m is = subst (RefusesPutInOf t text path i) (sym is) m
put_in_refused t text path i new error.NoMemory r v m is = subst (RefusesPutInOf t text path i) (sym is) m
put_in_refused t text path i new error.Failed r v m is = subst (RefusesPutInOf t text path i) (sym is) m

pub insert_refused : (t : Written) (text : List ℕ) (path : List Step) (key new : List ℕ) (e r : EditError) → Spells t text (chars new) → RefusesInsert text path key new e → IsPlaceless e r → RefusesInsertOf t text path key r
insert_refused t text path key new (error.Value e) r v m (f, says, is) = subst (RefusesInsertOf t text path key) (sym is) (inr (says, too_deep 1 t text path new v m))
insert_refused t text path key new (error.Text e) r v m is = subst (RefusesInsertOf t text path key) (sym is) m
insert_refused t text path key new error.Nowhere r v m is = subst (RefusesInsertOf t text path key) (sym is) m
insert_refused t text path key new error.Taken r v m is = subst (RefusesInsertOf t text path key) (sym is) m
insert_refused t text path key new error.NotObject r v m is = subst (RefusesInsertOf t text path key) (sym is) m
insert_refused t text path key new error.NotArray r v m is = subst (RefusesInsertOf t text path key) (sym is) m
insert_refused t text path key new error.NoKey r v m is = subst (RefusesInsertOf t text path key) (sym is) m
insert_refused t text path key new error.NoMemory r v m is = subst (RefusesInsertOf t text path key) (sym is) m
insert_refused t text path key new error.Failed r v m is = subst (RefusesInsertOf t text path key) (sym is) m
