-- Documents laid over one another, one after another.
use Rattle.std.proofs.Common.{◌≡◌, ◌∙◌, ◌<◌, ◌+◌, ◌++◌, ◌∷◌, [], ℕ, zero, suc, List, length, take, get_or, ap, sym, subst, arith, string_bytes}
use Rattle.std.specs.Str.{chars}
use Rattle.json5_grammar.specs.Language.Documents.{Doc, max_depth}
use Rattle.json5_grammar.specs.Language.Trees.{Tree}
use Rattle.json5_types.specs.ValueChanges.{merged}
use Rattle.json5_types.specs.ValueMeanings.{Datum}
use Rattle.json5_settings.specs.Stacks.{AreDocuments, Means, StacksOnto}
use Rattle.json5_settings.specs.Texts.{layers_in}
use Rattle.json5_settings.specs.declared.layers.Layer.{Layer}

abbrev IsDocument : Layer → Type 0
IsDocument l = (t : Tree) × Doc max_depth (chars (string_bytes l.text)) t

pub documents_more : (ls : List Layer) (l : Layer) → AreDocuments (layers_in ls) → IsDocument l → AreDocuments (layers_in (ls ++ (l ∷ [])))
documents_more [] l all is = (is, tt)
documents_more (x ∷ ls) l (first, all) is = (first, documents_more ls l all is)

document_at : (i : ℕ) (ls : List Layer) (d : Layer) → i < length ls → AreDocuments (layers_in ls) → IsDocument (get_or ls i d)
document_at zero [] d h all = absurd (omega (arith, h))
document_at zero (l ∷ ls) d h (is, all) = is
document_at (suc i) [] d h all = absurd (omega (arith, h))
document_at (suc i) (l ∷ ls) d h (is, all) = document_at i ls d (omega (arith, h)) all

stacks_more : (i : ℕ) (ls : List Layer) (d : Layer) (old mid x new : Datum) → i < length ls → StacksOnto old (layers_in (take i ls)) mid → Means (chars (string_bytes (get_or ls i d).text)) x → new ≡ merged mid x
    → StacksOnto old (layers_in (take (suc i) ls)) new
stacks_more zero [] d old mid x new h is m e = absurd (omega (arith, h))
stacks_more zero (l ∷ ls) d old mid x new h is m e = (x, m, e ∙ ap (λ z. merged z x) is)
stacks_more (suc i) [] d old mid x new h is m e = absurd (omega (arith, h))
stacks_more (suc i) (l ∷ ls) d old mid x new h (y, n, is) m e = (y, n, stacks_more i ls d (merged old y) mid x new (omega (arith, h)) is m e)

-- the same of a layer that was looked up, and of its text
pub document_there : (i : ℕ) (ls : List Layer) (d l : Layer) (text : List ℕ) → i < length ls → l ≡ get_or ls i d → text ≡ string_bytes l.text → AreDocuments (layers_in ls) → (t : Tree) × Doc max_depth (chars text) t
document_there i ls d l text h is same all =
    let (t, document) = document_at i ls d h all in
    (t, subst (λ z. Doc max_depth (chars z) t) (sym same) (subst (λ z. Doc max_depth (chars (string_bytes z.text)) t) (sym is) document))

pub stacked_on : (i : ℕ) (ls : List Layer) (d l : Layer) (text : List ℕ) (old mid x new : Datum) → i < length ls → l ≡ get_or ls i d → text ≡ string_bytes l.text → StacksOnto old (layers_in (take i ls)) mid → Means (chars text) x
    → new ≡ merged mid x → StacksOnto old (layers_in (take (i + 1) ls)) new
stacked_on i ls d l text old mid x new h is same before means e =
    let next : i + 1 ≡ suc i = omega arith in
    let there = subst (λ z. Means (chars (string_bytes z.text)) x) is (subst (λ z. Means (chars z) x) same means) in
    rw next (stacks_more i ls d old mid x new h before there e)
