-- A whole input is a document.
use Rattle.std.proofs.Common.{◌≡◌, ℕ, ◌+◌, ◌≤◌, false, List, ap, sym, ◌∙◌, subst, arith, ◌⊎◌, inl, inr, Option, Some}
use Rattle.std.specs.Prelude.{Err}
use Rattle.json5_types.specs.declared.error.Error.{Error}
use Rattle.json5_tokens.specs.Cursor.{Cursor, Refused, IsOutOfMemory}
use Rattle.json5_grammar.specs.Language.Blanks.{LastBlanks}
use Rattle.json5_grammar.specs.Language.Trees.{Tree, depth}
use Rattle.json5_grammar.specs.Language.Values.{Reads}
use Rattle.json5_grammar.specs.Language.Documents.{Doc, max_depth}
use Rattle.json5_grammar.proofs.OneTree.{document_phrase, phrase_document, one_phrase}
use Rattle.json5_de.specs.State.{State, at_start}
use Rattle.json5_de.specs.DeserializeLaw.{TookValue, Gives, Completes}
use Rattle.json5_de.specs.Faults.{AtEnd, RefusedBy, Trailing}
use Rattle.json5_read.specs.EntryFaults.{AfterBlanks}
use Rattle.json5_de.proofs.ReadSteps.{input_of}
use Rattle.std.proofs.lemmas.Option.{same_Some}
use Rattle.json5_de.proofs.BracketSteps.{failed_of}

-- what was read up to the end is a document
pub read_document : (limit : ℕ) (s mid : State) (x : List ℕ) (t : Tree) → limit ≤ max_depth → s ≡ at_start limit x → TookValue s t mid → AtEnd mid → Doc limit x t
read_document limit s mid x t bound e took (live, last) =
    phrase_document limit x mid.unread t (subst (λ z. Reads z t mid.unread) (ap (λ (s : State). s.unread) e) took.reads) last
    (let level = ap (λ (s : State). s.level) e in let shallow = took.shallow in omega (arith, bound, level, shallow))

-- a document can be read
pub record Readable (s : State) (t : Tree) : Type 0 where
  pub rest : List ℕ
  pub live : s.failed ≡ false
  pub reads : Reads s.unread t rest
  pub last : LastBlanks rest
  pub shallow : s.level + depth t ≤ max_depth

pub readable : (limit : ℕ) (s : State) (x : List ℕ) (t : Tree) → limit ≤ max_depth → s ≡ at_start limit x → Doc limit x t → Readable s t
readable limit s x t bound e doc =
    let (r, reads, last, shallow) = document_phrase limit x t doc in
    record {
      rest = r;
      live = ap (λ (s : State). s.failed) e;
      reads = subst (λ z. Reads z t r) (sym (ap (λ (s : State). s.unread) e)) reads;
      last = last;
      shallow = let level = ap (λ (s : State). s.level) e in omega (arith, bound, level, shallow);
    }

-- what was read of a document is its tree, and nothing but blanks follows
pub the_document : (limit : ℕ) (s mid : State) (x : List ℕ) (t u : Tree) → limit ≤ max_depth → s ≡ at_start limit x → Doc limit x t → TookValue s u mid → (t ≡ u) × AtEnd mid
the_document limit s mid x t u bound e doc took =
    let k = readable limit s x t bound e doc in
    let one = one_phrase s.unread k.rest mid.unread t u k.reads took.reads in
    (one.0, (failed_of took.rest ∙ k.live, subst LastBlanks one.1 k.last))

-- ---- what is refused

abbrev cursor_at : List ℕ → List ℕ → Cursor
cursor_at x r = record { input = x; unread = r }

pub live_after : (limit : ℕ) (s mid : State) (x : List ℕ) (u : Tree) → s ≡ at_start limit x → TookValue s u mid → mid.failed ≡ false
live_after limit s mid x u e took = failed_of took.rest ∙ failed_of e

-- a value that converts isn't refused, unless memory runs out
pub blames_value : (V : Type 0) {C : Type 0} {convert : Tree → Option C} (limit : ℕ) (s : State) (x : List ℕ) (t : Tree) (r : List ℕ) (c : C) (e : Error) → limit ≤ max_depth → s ≡ at_start limit x → Reads x t r → depth t ≤ limit → convert t ≡ Some c → Completes {V = V} convert s (Err e)
    → IsOutOfMemory e ⊎ Refused (AfterBlanks Trailing) (record { input = x; unread = r }) e
blames_value V limit s x t r c e bound is reads shallow converts complete =
    inl (complete.memory t r c (failed_of is) (subst (λ z. Reads z t r) (sym (ap (λ (s : State). s.unread) is)) reads) (let level = ap (λ (s : State). s.level) is in omega (arith, bound, level, shallow)) converts)

-- what follows the value is refused
pub blames_rest : (limit : ℕ) (s mid : State) (x : List ℕ) (t u : Tree) (r : List ℕ) (e : Error) → s ≡ at_start limit x → Reads x t r → TookValue s u mid → RefusedBy Trailing mid e
    → IsOutOfMemory e ⊎ Refused (AfterBlanks Trailing) (record { input = x; unread = r }) e
blames_rest limit s mid x t u r e is reads took f =
    let (same_tree, rest) = one_phrase x r mid.unread t u reads (subst (λ z. Reads z u mid.unread) (ap (λ (s : State). s.unread) is) took.reads) in
    let input = input_of took.rest ∙ ap (λ (s : State). s.input) is in
    inr (subst (λ k. Refused (AfterBlanks Trailing) k e) (cursor input (sym rest)) (f (live_after limit s mid x u is took)))
  where
    cursor : {a b c d : List ℕ} → a ≡ b → c ≡ d → cursor_at a c ≡ cursor_at b d
    cursor {b = b} {c = c} i u = ap (λ z. cursor_at z c) i ∙ ap (λ z. cursor_at b z) u

-- ---- one result

-- two values that may be read from one input have the same content, and leave the same
pub same_answer : {V C : Type 0} (content : V → C) (convert : Tree → Option C) (old new last : State) (v w : V) → Gives content convert old new v → Gives content convert old last w → (content v ≡ content w) × (new ≡ last)
same_answer content convert old new last v w (t, a, is) (u, b, other) =
    let (tree, rest) = one_phrase old.unread new.unread last.unread t u a.reads b.reads in (
      same_Some (content v) (content w) (sym is ∙ ap convert tree ∙ other),
      a.rest ∙ ap (λ x. record old { unread = x }) rest ∙ sym b.rest,
    )
