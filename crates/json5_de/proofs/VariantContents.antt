-- The content of a variant, with its closing brace.
use Rattle.std.proofs.Common.{◌≡◌, ℕ, ◌≤◌, ◌+◌, Bool, true, false, List, refl, ap, sym, ◌∙◌, subst, Option, Some, None, Result, Ok, Err}
use Rattle.json5_grammar.specs.Language.Documents.{max_depth}
use Rattle.json5_grammar.specs.Language.Trees.{Tree, object, member, no_member, depth}
use Rattle.json5_grammar.specs.Language.Values.{Reads}
use Rattle.json5_grammar.specs.Model.Collections.{IsBrace}
use Rattle.json5_grammar.proofs.CommonLemmas.{true_false}
use Rattle.json5_grammar.proofs.OneTree.{one_phrase}
use Rattle.json5_types.specs.declared.error.Error.{Error}
use Rattle.json5_de.specs.State.{State, SameText, GivesUp}
use Rattle.json5_de.specs.DeserializeLaw.{Gives, Completes, CompletesFree, Unprompted}
use Rattle.json5_de.specs.ReaderSteps.{IsMismatch}
use Rattle.json5_de.specs.ConvertLists.{if_some}
use Rattle.json5_read.specs.Offsets.{PositionedAt, StartsAfter}
use Rattle.json5_read.specs.Brackets.{curly}
use Rattle.json5_de.specs.Arrays.{ClosesAs}
use Rattle.json5_de.specs.Enums.{EnumAccessState, AfterName, ContentLeft, RefusesContent, no_content, in_content, not_closed, ReadsInBrace, ReadsVariant, content_of, content_free}
use Rattle.json5_de.proofs.ArrayElements.{still_live}
use Rattle.json5_de.proofs.FoundKeys.{mismatch_other}
use Rattle.json5_de.proofs.ReadSteps.{input_of}
use Rattle.json5_de.proofs.VariantNames.{whole_variant}

module _ {V C : Type 0} (content : V → C) (convert : Tree → Option C) (allocation_free : Tree → Bool) (refuses : State → Error → State → Type 0) where
  -- ---- between the braces

  -- the content was read, and no closing brace is next
  pub brace_missing : (start : ℕ) (old after new : State) (v : V) (e : Error) → Gives content convert old after v → ClosesAs curly true after new (Err e) → SameText after new → new.failed ≡ true → ReadsInBrace content convert allocation_free refuses start old new (Err e)
  brace_missing start old after new v e (t, took, is) closes same failed = record {
    sound = tt;
    complete = λ u z r c live reads close deep converts. absurd (nowhere u z r reads close);
    no_memory = λ u z r c live reads close deep converts f. absurd (nowhere u z r reads close);
    refused = λ k. not_closed t after refl took closes.refused;
    unprompted = λ live. closes.unprompted (still_live old after took.live took.rest);
    same_text = same ∙ input_of took.rest;
    failed = failed;
  }
    where
      nowhere : (u : Tree) (z r : List ℕ) → Reads old.unread u z → IsBrace true z r → ⊥
      nowhere u z r reads close =
          let (one, here) = one_phrase old.unread after.unread z t u took.reads reads in
          let ok = closes.complete r (still_live old after took.live took.rest) (subst (λ x. IsBrace true x r) (sym here) close) in
          absurd (cc)

  -- the content was refused
  pub content_refused : (start : ℕ) (old after new : State) (own e : Error) → refuses old own after → Completes {V = V} convert old (Err own) → CompletesFree {V = V} allocation_free convert old (Err own) → Unprompted {V = V} old (Err own) → SameText old after
      → new ≡ record after { failed = true } → PositionedAt (StartsAfter old.input start) own e → ReadsInBrace content convert allocation_free refuses start old new (Err e)
  content_refused start old after new own e cause complete no_memory other same left placed = record {
    sound = tt;
    complete = λ u z r c live reads close deep converts. placed.kind ∙ complete.memory u z c live reads deep converts;
    no_memory = λ u z r c live reads close deep converts f. no_memory u z c live reads deep converts f;
    refused = λ k. in_content own after refl cause placed;
    unprompted = λ live k. other live (sym placed.kind ∙ k);
    same_text = input_of left ∙ same;
    failed = ap (λ (s : State). s.failed) left;
  }

  -- ---- what the access reads

  module _ (of_content : Option Tree → Option C) (of_free : Option Tree → Bool) (same_convert : (t : Tree) → of_content (Some t) ≡ convert t) (same_free : (t : Tree) → of_free (Some t) ≡ allocation_free t) (old : EnumAccessState) (new : State) where
    one_content : (c : Option Tree) (r : List ℕ) → old.has_content ≡ true → ContentLeft c r old → (t : Tree) × (z : List ℕ) × (c ≡ Some t) × Reads old.reader.unread t z × IsBrace true z r × (old.reader.level + depth t ≤ max_depth)
    one_content None r has l = absurd (true_false has l.content)
    one_content (Some t) r has l = let (z, reads, close) = l.tail in (t, z, refl, reads, close, l.shallow)

    pub variant_read : (result : Result V Error) → old.has_content ≡ true → ReadsInBrace content convert allocation_free refuses old.start old.reader new result → ReadsVariant content of_content of_free refuses old new result
    variant_read (Ok v) has k = record {
      read = λ names from n.
          let (t, after, took, closed, is) = k.sound in
          let at = subst (λ b. AfterName b from n.name n.escape_free old.reader) has n.after in
          (object (member n.name n.escape_free t no_member), Some t, whole_variant from old.reader after new n.name n.escape_free t at took closed, ap (if_some (λ i. (i, Some t))) n.place, same_convert t ∙ is);
      left = λ c r d l is.
          let (u, z, some, reads, close, deep) = one_content c r has l in
          let (t, after, took, closed, given) = k.sound in
          let (one, here) = one_phrase old.reader.unread after.unread z t u took.reads reads in
          some_same (content v) d (sym given ∙ ap convert one ∙ sym (same_convert u) ∙ ap of_content (sym some) ∙ is);
      no_memory = λ c r d l is f. refl;
      refused = tt;
      unprompted = tt;
      same_text = let (t, after, took, closed, given) = k.sound in input_of closed.rest ∙ input_of took.rest;
      failed = tt;
    }
      where
        some_same : (x y : C) → Some x ≡ Some y → x ≡ y
        some_same x y e = cc
    variant_read (Err e) has k = record {
      read = tt;
      left = λ c r d l is. let (u, z, some, reads, close, deep) = one_content c r has l in k.complete u z r d l.live reads close deep (sym (same_convert u) ∙ ap of_content (sym some) ∙ is);
      no_memory = λ c r d l is f. let (u, z, some, reads, close, deep) = one_content c r has l in
          k.no_memory u z r d l.live reads close deep (sym (same_convert u) ∙ ap of_content (sym some) ∙ is) (sym (same_free u) ∙ ap of_free (sym some) ∙ f);
      refused = subst (λ b. RefusesContent refuses (record old { has_content = b }) e) (sym has) (k.refused old.variant);
      unprompted = k.unprompted;
      same_text = k.same_text;
      failed = k.failed;
    }

  -- a string, where content is expected
  pub text_refused : (old : EnumAccessState) (new : State) (e : Error) → old.has_content ≡ false → IsMismatch old.reader.input old.start e → GivesUp old.reader new → ReadsVariant content (content_of convert) (content_free allocation_free) refuses old new (Err e)
  text_refused old new e none is failed = record {
    read = tt;
    left = λ c r d l converts. absurd (lacks c r d l converts);
    no_memory = λ c r d l converts f. absurd (lacks c r d l converts);
    refused = no_content none is;
    unprompted = λ live. mismatch_other None old.reader.input old.start e (λ h. absurd (cc)) is;
    same_text = failed.same_text;
    failed = failed.failed;
  }
    where
      lacks : (c : Option Tree) (r : List ℕ) (d : C) → ContentLeft c r old → content_of convert c ≡ Some d → ⊥
      lacks None r d l e = absurd (cc)
      lacks (Some t) r d l e = true_false l.content none
