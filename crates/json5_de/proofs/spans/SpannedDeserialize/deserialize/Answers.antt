use Rattle.std.proofs.Common.{◌∙◌, ◌≡◌, ◌+◌, ◌≤◌, ℕ, List, false, ap, arith, Ok, refl, inl, inr}
use Rattle.std.proofs.lemmas.Result.{err_from_is_err_and}
use Rattle.json5_grammar.specs.Language.Documents.{max_depth}
use Rattle.json5_grammar.specs.Language.Trees.{Tree, depth}
use Rattle.json5_grammar.specs.Language.Values.{Reads}
use Rattle.json5_de.specs.State.{State}
use Rattle.json5_de.specs.ReaderSteps.{PassedGap}
use Rattle.json5_de.proofs.BracketSteps.{level_of, failed_of}
use Rattle.json5_de.proofs.Options.{blanks_no_value, value_next, took_after}
use Rattle.json5_de.proofs.ReadSteps.{input_of}
use Rattle.json5_de.proofs.Refinement.{reads_content}
use Rattle.json5_de.proofs.spans.SpannedDeserialize.deserialize.Goals as goal

-- what can be read follows the blanks
stands_after : (old at : State) (t : Tree) (r : List ℕ) → PassedGap old at → old.failed ≡ false → Reads old.unread t r → old.level + depth t ≤ max_depth → (at.failed ≡ false) × Reads at.unread t r × (at.level + depth t ≤ max_depth)
stands_after old at t r p live reads shallow = let level = level_of p.rest in (failed_of p.rest ∙ live, value_next old at t r p reads, omega (arith, shallow, level))

pub returns-in_err-skip_blank-clause-reads : goal.returns-in_err-skip_blank-clause-reads
returns-in_err-skip_blank-clause-reads g c =
    let (y, is, from) = err_from_is_err_and c.from_residual.result c.from_residual.ensures.1 in
    rw (is, from) (record {
      sound = tt;
      complete = record { memory = λ t r v live reads shallow converts. absurd (blanks_no_value c.args.de.now c.in_err-skip_blank.field-0.0 t r (c.in_err-skip_blank.ensures.refused live) reads) };
      no_memory = λ t r v live reads shallow converts allocation_free. absurd (blanks_no_value c.args.de.now c.in_err-skip_blank.field-0.0 t r (c.in_err-skip_blank.ensures.refused live) reads);
      refused = λ live. inl (c.in_err-skip_blank.ensures.refused live);
      unprompted = c.in_err-skip_blank.ensures.unprompted;
      same_text = c.in_err-skip_blank.ensures.failed.same_text;
    })

pub returns-in_err-skip_blank-clause-fails : goal.returns-in_err-skip_blank-clause-fails
returns-in_err-skip_blank-clause-fails g c =
    let (y, is, from) = err_from_is_err_and c.from_residual.result c.from_residual.ensures.1 in
    rw is c.in_err-skip_blank.ensures.failed.failed

pub returns-in-Err-clause-reads : goal.returns-in-Err-clause-reads
returns-in-Err-clause-reads g c =
    let passed = c.in_ok-skip_blank.ensures.passed in
    rw c.refuse.ensures.result (record {
      sound = tt;
      complete = record {
        memory = λ t r v live reads shallow converts.
            let (still, here, room) = stands_after c.args.de.now c.skip_blank.new.self t r passed live reads shallow in
            c.in-Err.ensures.complete.memory t r v still here room converts;
      };
      no_memory = λ t r v live reads shallow converts allocation_free.
          let (still, here, room) = stands_after c.args.de.now c.skip_blank.new.self t r passed live reads shallow in
          c.in-Err.ensures.no_memory t r v still here room converts allocation_free;
      refused = λ live. inr (c.skip_blank.new.self, c.deserialize.new.de, passed, c.in-Err.ensures.refused, c.refuse.ensures.state);
      unprompted = λ live. c.in-Err.ensures.unprompted (failed_of passed.rest ∙ live);
      same_text = input_of c.refuse.ensures.state ∙ (c.in-Err.ensures.same_text ∙ input_of passed.rest);
    })

pub returns-in-Err-clause-fails : goal.returns-in-Err-clause-fails
returns-in-Err-clause-fails g c = rw c.refuse.ensures.result (ap (λ (s : State). s.failed) c.refuse.ensures.state)

pub returns-in-Ok-clause-reads : goal.returns-in-Ok-clause-reads
returns-in-Ok-clause-reads g c =
    let (t, took, is) = c.in-Ok.ensures.sound in
    let passed = c.in_ok-skip_blank.ensures.passed in
    let whole = took_after c.args.de.now c.skip_blank.new.self c.deserialize.new.de t passed took in
    record {
      sound = (t, whole, is);
      complete = reads_content g.T.Deserialize.content g.T.Deserialize.convert c.args.de.now c.deserialize.new.de (Ok c.in-Ok.value) (t, whole, is) tt;
      no_memory = λ t r v live reads shallow converts allocation_free. refl;
      refused = tt;
      unprompted = tt;
      same_text = c.in-Ok.ensures.same_text ∙ input_of passed.rest;
    }
