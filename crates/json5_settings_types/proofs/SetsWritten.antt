-- Texts that are written one after another.
use Rattle.std.proofs.Common.{◌≡◌, List, false, subst, String, string_bytes}
use Rattle.std.specs.Prelude.{Result, IsErrAnd}
use Rattle.std.specs.Borrow.{GName}
use Rattle.std.specs.declared.alloc.Global.{Global}
use Rattle.std.specs.Str.{chars}
use Rattle.json5_grammar.specs.Language.Characters.{left_bracket}
use Rattle.json5_types.specs.declared.error.Error.{Error}
use Rattle.json5_write.specs.Out.{elements_out, opened_by}
use Rattle.json5_write.specs.Writes.{RefusesWrite, SerializerState, WritesTree}
use Rattle.json5_write.proofs.OutputsJoined.{Refuses-before, Writes-handed}
use Rattle.json5_ser.specs.RemainingOutput.{Remains, elements}
use Rattle.json5_ser.specs.WrittenTrees.{Written, Elements, array, elements_of, text}
use Rattle.json5_ser.specs.declared.collection.SerializeCollection.{SerializeCollection}

abbrev pub text_tree : String Global → Written
text_tree s = text (chars (string_bytes s))

-- no list was begun
pub list_refused : {A : Type 0} (ts : Elements) (at last : SerializerState) (e : Error) (result : Result A Error) → RefusesWrite (opened_by at.limit at.depth left_bracket) at e last → IsErrAnd result (λ y. y ≡ e) → WritesTree (array ts) at result last
list_refused ts at last e result refused is = Writes-handed _ at last e result is (Refuses-before (opened_by at.limit at.depth left_bracket) (elements_out at.limit ts at.depth false) at last e refused)

-- the same texts remain
pub same_texts : {W : Type 0} {t : Written} {name : GName} {at : SerializerState} {c : SerializeCollection W} (xs ys : List (String Global)) → xs ≡ ys → Remains t name at c (elements (elements_of text_tree xs)) → Remains t name at c (elements (elements_of text_tree ys))
same_texts {t = t} {name = name} {at = at} {c = c} xs ys same = subst (λ zs. Remains t name at c (elements (elements_of text_tree zs))) same

-- by the name that the reference had
pub by_name : {W : Type 0} {t : Written} {name other : GName} {at : SerializerState} {c : SerializeCollection W} (xs : List (String Global)) → name ≡ other → Remains t name at c (elements (elements_of text_tree xs)) → Remains t other at c (elements (elements_of text_tree xs))
by_name {t = t} {at = at} {c = c} xs same = subst (λ n. Remains t n at c (elements (elements_of text_tree xs))) same
